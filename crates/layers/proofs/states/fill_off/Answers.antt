-- The state's section is copied from that of the state that off leads to; where there is none, it holds no schedule.
use Rattle.std.proofs.Common.{arith}
use mathlib.Core.Logic.{inl}
use Rattle.geometry.proofs.Places.{section-place-fits}
use Rattle.layers.proofs.Making.{off-copied, off-barred}
use Rattle.layers.proofs.states.fill_off.Goals as goal

pub overflow_mul-to : goal.overflow_mul-to
overflow_mul-to c =
    let a = c.args in
    let r = c.requires.0 in
    omega (arith, section-place-fits a.f a.s a.cells a.w r.state r.wide r.many, c.requires.1)

pub overflow_mul-off : goal.overflow_mul-off
overflow_mul-off c =
    let a = c.args in
    let r = c.requires.0 in
    omega (arith, section-place-fits a.f c.after_off-off.result a.cells a.w c.if-off-f.true r.wide r.many, c.requires.1)

pub overflow_add-w : goal.overflow_add-w
overflow_add-w c =
    let a = c.args in
    let r = c.requires.0 in
    omega (arith, section-place-fits a.f c.after_off-off.result a.cells a.w c.if-off-f.true r.wide r.many, c.requires.1)

pub copy-requires : goal.copy-requires
copy-requires c =
    let a = c.args in
    let r = c.requires.0 in
    let here = section-place-fits a.f a.s a.cells a.w r.state r.wide r.many in
    let there = section-place-fits a.f c.after_off-off.result a.cells a.w c.if-off-f.true r.wide r.many in
    record { beside = inl (omega (arith, here)); fits = omega (arith, there, c.requires.1); room = omega (arith, here, c.requires.1) }

pub put-requires : goal.put-requires
put-requires c =
    let a = c.args in
    let r = c.requires.0 in
    omega (arith, section-place-fits a.f a.s a.cells a.w r.state r.wide r.many, c.requires.1)

pub returns-then-off-f : goal.returns-then-off-f
returns-then-off-f c =
    let a = c.args in
    let leads = c.after_off-off.ensures in
    off-copied a.f a.s a.scratch.now c.copy.new.scratch (omega (arith, leads, c.if-off-f.true))
    (rw (c.requires.0.wide, c.requires.0.many, leads) at c.copy.ensures)

pub returns-else-off-f : goal.returns-else-off-f
returns-else-off-f c =
    let a = c.args in
    let r = c.requires.0 in
    let here = section-place-fits a.f a.s a.cells a.w r.state r.wide r.many in
    rw (rw r.many at c.put.ensures)
    (off-barred a.f a.s a.scratch.now (omega (arith, c.after_off-off.ensures, c.if-off-f.false)) (rw (← r.many) (omega (arith, here, c.requires.1))))
