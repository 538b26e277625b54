use Rattle.std.proofs.Common.{ap, cond, ◌+◌, get_or, ℤ, pos, arith, w64, FitsSigned}
use mathlib.Core.Path.{ap₂}
use mathlib.Core.Logic.{inr}
use lib.Signed.{lt_z}
use Rattle.integers.proofs.Ranges.{plain_fits}
use Rattle.carrying.specs.Pairs.{JoinedFrom}
use Rattle.carrying.proofs.Storing.{pairs_next}
use borrow.Author.Rules.{rules}
use Rattle.carrying.proofs.pairs.join_all.Goals as goal

pub loop-i-preserved : goal.loop-i-preserved
loop-i-preserved c =
    let a = c.args in
    let l = c.loop-i in
    let v = get_or a.image.now l.i (pos 0) in
    let m = get_or a.image.now (a.aside + l.i) (pos 0) in
    let fv : FitsSigned w64 v = search rules in
    let fm : FitsSigned w64 m = search rules in
    let there = l.invariant.apart.values (a.to + l.i) (omega arith) (inr (omega arith)) in
    let its = l.invariant.apart.marks (a.to + l.i) (omega arith) (inr (omega arith)) in
    rw (rw (plain_fits fv, plain_fits fm) at c.join.ensures)
    (pairs_next a.behind (JoinedFrom a.behind a.aside a.cells.now a.image.now a.to) a.cells.now l.cells a.to l.i _ _
    (omega arith) (omega arith) l.invariant
    (ap (λ (x : ℤ). cond (lt_z x v) v x) there, ap₂ (λ (x y : ℤ). cond (lt_z x v) m y) there its))
