use Rattle.std.proofs.Common.{◌≡◌, ◌∙◌, ◌+◌, ◌-◌, ◌≤◌, ◌<◌, ◌++◌, ℕ, List, [], pos, length, length-append, arith}
use mathlib.Core.Path.{subst}
use mathlib.Core.Logic.{inr}
use native.Mathlib.Nat.{zero-add}
use Rattle.commitment.specs.Windows.{opens}
use Rattle.optimality.specs.Machine.{Quarter}
use Rattle.optimality.proofs.Quarters.{quarters-length}
use Rattle.geometry.specs.Geometry.{index}
use Rattle.geometry.specs.Layers.{Layer, stored_at}
use Rattle.layers.specs.Filling.{quarters_in, between}
use Rattle.layers.proofs.Between.{between-length}
use Rattle.marks.specs.Lines.{value_of, mark_of}
use Rattle.marks.specs.Standing.{MarkedAt}
use Rattle.halving.specs.Tasks.{ends_by}
use Rattle.halving.proofs.Joining.{middle-before}
use Rattle.halving.proofs.Parts.{same-beyond}
use Rattle.halving.proofs.pass.Goals as goal
use Rattle.halving.proofs.pass.Goals.{After-roll}

-- where the middle lies
middle : (c : After-roll) → (c.args.from ≤ c.midway-at.result) × (c.midway-at.result < c.args.to)
middle c =
    let e = c.midway-at.ensures in
    (omega (arith, e, c.requires.asked.ordered), omega (arith, e, middle-before c.args.from c.args.to c.requires.some))

-- the later quarters, and the layer before them
abbrev later_quarters : After-roll → List Quarter
later_quarters c = between (quarters_in c.args.g.hours c.args.prices.now) c.midway-at.result c.args.to

later-long : (c : After-roll) → length (later_quarters c) ≡ c.args.to - c.midway-at.result
later-long c =
    let a = c.args in
    between-length (quarters_in a.g.hours a.prices.now) c.midway-at.result a.to (omega (arith, middle c))
    (omega (arith, quarters-length (opens a.g.hours) 0 a.prices.now, c.requires.asked.inside))

layer : (c : After-roll) → Layer c.args.g.figures (ends_by c.args.end) (later_quarters c) (value_of c.args.g.figures c.args.g.width c.roll.new.scratch)
layer c =
    let a = c.args in
    let f = a.g.figures in
    let last = subst (λ (n : ℕ). Layer f (ends_by a.end) [] (stored_at f c.put_end.new.cells n)) c.requires.wide c.put_end.ensures.layer in
    rw (zero-add (length (later_quarters c))) at
    (c.roll.ensures.rolled_by (ends_by a.end) 0 (omega (arith, later-long c, c.requires.asked.inside, c.requires.asked.short)) last)

pub mark-requires-clause-sweep_asked : goal.mark-requires-clause-sweep_asked
mark-requires-clause-sweep_asked c =
    let a = c.args in
    let k = c.requires in
    let r = (goal.at.mark-requires-clause-sweep_asked c).After-roll in
    let m = middle r in
    record {
      sound = k.asked.sound;
      wide = k.wide;
      marks = omega (arith, c.roll.auto.scratch, c.put_end.auto.cells, k.fits);
      priced = k.asked.priced;
      clocked = k.asked.clocked;
      ordered = m.0;
      inside = omega (arith, m, k.asked.inside);
      short = k.asked.short;
      ends = ends_by a.end;
      later = later_quarters r;
      ahead = length (later_quarters r);
      layer = layer r;
      few = omega (arith, later-long r, m, k.asked.inside, k.asked.short);
    }

pub returns : goal.returns
returns c =
    let a = c.args in
    let k = c.requires in
    let r = (goal.at.returns c).After-roll in
    let all = quarters_in a.g.hours a.prices.now in
    let at = c.midway-at.result in
    let m = c.mark.ensures in
    let inside : at ≤ length all = omega (arith, quarters-length (opens a.g.hours) 0 a.prices.now, k.asked.inside, middle r) in
    let early = between-length all a.from at (middle r).0 inside in
    let front = between all a.from at in
    let both : length (later_quarters r) + length front ≡ length (front ++ later_quarters r) = omega (arith, length-append front (later_quarters r)) in
    record {
      marked =
          rw c.midway-at.ensures at
          (subst
          (λ (n : ℕ). MarkedAt a.g.figures n (ends_by a.end) front (later_quarters r) (λ x. pos (index a.g.figures x))
          (value_of a.g.figures a.g.width c.mark.new.cells) (mark_of a.g.figures a.g.width c.mark.new.cells)) both
          (m.marked (ends_by a.end) (later_quarters r) (length (later_quarters r)) (layer r)
          (omega (arith, early, later-long r, middle r, k.asked.inside, k.asked.short))));
      beyond = λ j h.
          m.beyond j h ∙ same-beyond (a.g.width + a.g.width) _ _ c.roll.ensures.beyond j h ∙ c.put_end.ensures.apart j (inr (omega (arith, h)));
    }
