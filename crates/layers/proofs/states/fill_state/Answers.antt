-- Off first, then the section raised from that of the state that on leads to, which the pass for off left as it was.
use Rattle.std.proofs.Common.{◌≡◌, ◌+◌, ◌*◌, arith}
use mathlib.Core.Logic.{inr}
use Rattle.integers.proofs.Ranges.{plain_fits}
use Rattle.optimality.specs.Cells.{start_pays}
use Rattle.geometry.proofs.Places.{section-place-fits}
use Rattle.intervals.specs.Ladders.{ladder_of}
use Rattle.intervals.proofs.Segments.{behind-within}
use Rattle.intervals.proofs.Turning.{pays-most, takes-most}
use Rattle.intervals.proofs.Ladders.{ladder-steady}
use Rattle.layers.proofs.Making.{state-off, state-raised}
use Rattle.layers.proofs.states.fill_state.Goals as goal

pub overflow_mul-s : goal.overflow_mul-s
overflow_mul-s c =
    let a = c.args in
    let r = c.requires.0 in
    omega (arith, section-place-fits a.f a.s a.cells a.w r.state r.wide r.many, c.requires.2.fits)

pub overflow_mul-on : goal.overflow_mul-on
overflow_mul-on c =
    let a = c.args in
    let r = c.requires.0 in
    omega (arith, section-place-fits a.f c.after_on-on.result a.cells a.w c.if-on-f.true r.wide r.many, c.requires.2.fits)

pub overflow_add-w : goal.overflow_add-w
overflow_add-w c =
    let a = c.args in
    let r = c.requires.0 in
    omega (arith, section-place-fits a.f c.after_on-on.result a.cells a.w c.if-on-f.true r.wide r.many, c.requires.2.fits)

pub raise_section-requires : goal.raise_section-requires
raise_section-requires c =
    let a = c.args in
    let r = c.requires.0 in
    let here = section-place-fits a.f a.s a.cells a.w r.state r.wide r.many in
    let there = section-place-fits a.f c.after_on-on.result a.cells a.w c.if-on-f.true r.wide r.many in
    let outputs : c.ladder-l.result ≡ ladder_of a.f a.price (start_pays a.f a.s) = rw (plain_fits c.ranges.price, c.start_pays.ensures) at c.ladder-l.ensures in (
      r.sound,
      rw c.start_takes.ensures (takes-most a.f r.sound a.s),
      rw outputs (ladder-steady a.f a.price (start_pays a.f a.s) (record { sound = r.sound; priced = c.requires.1 }) (pays-most a.f r.sound a.s)),
      rw (← r.many)
          (behind-within a.scratch.now c.fill_off.new.scratch 0 a.w a.w (a.s * a.cells) (a.w + c.after_on-on.result * a.cells) a.cells c.requires.2
          (omega (arith, here))
          (omega arith)
          (omega (arith, there))
          c.fill_off.auto.scratch
          (λ j h. c.fill_off.ensures.apart j (inr (rw (← r.many) (omega (arith, here)))))),
    )

pub returns-then-on-f : goal.returns-then-on-f
returns-then-on-f c =
    let a = c.args in
    let r = c.requires.0 in
    let outputs : c.ladder-l.result ≡ ladder_of a.f a.price (start_pays a.f a.s) = rw (plain_fits c.ranges.price, c.start_pays.ensures) at c.ladder-l.ensures in
    state-raised a.f a.price a.s a.scratch.now c.fill_off.new.scratch c.fill_off.ensures r.state (omega (arith, c.after_on-on.ensures, c.if-on-f.true))
    c.raise_section.new.scratch
    (rw (outputs, c.start_takes.ensures, r.wide, r.many, c.after_on-on.ensures) at c.raise_section.ensures)

pub returns-else-on-f : goal.returns-else-on-f
returns-else-on-f c =
    let a = c.args in
    state-off a.f a.price a.s a.scratch.now c.fill_off.new.scratch c.fill_off.ensures (omega (arith, c.after_on-on.ensures, c.if-on-f.false))
