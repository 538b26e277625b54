use Rattle.std.proofs.Common.{◌≡◌, refl, Bool, true, false, ◌∙◌, ◌+◌, ◌-◌, ◌<◌, pos, get_or, arith, to_z, of_z, w64}
use Prim.Native.Nat.{ℕ}
use mathlib.Core.Logic.{inl}
use borrow.Author.Tests.{ltb-true, ltb-false}
use lib.Dec.{ltb, lit<}
use Rattle.integers.proofs.Ranges.{plain, within-abs, within-weaken}
use Rattle.carrying.specs.Images.{piece}
use Rattle.marks.specs.Lines.{FlatAt}
use Rattle.marks.proofs.lines.flat.Goals as goal
use Rattle.marks.proofs.lines.flat.Goals.{Then-lead-p, After-shifted}

gain-plain : (c : Then-lead-p) → to_z w64 (of_z w64 c.args.b.gain) ≡ c.args.b.gain
gain-plain c = plain (within-weaken c.requires.0.gains (within-abs c.args.b.gain)) (lit< tt)

pub shifted-requires : goal.shifted-requires
shifted-requires c =
    let a = c.args in
    let n = c.smaller-lead.result in
    let k = c.requires.0 in (
      rw (gain-plain (goal.at.shifted-requires c).Then-lead-p)
          (record {
            values = omega (arith, k.values);
            marks = k.marks;
            small = λ i h.
                let e : a.b.line + (a.p.place + n - a.b.skipped) + i ≡ a.b.line + (a.p.place + n - a.b.skipped + i) = omega arith in
                rw e (k.small (a.p.place + n - a.b.skipped + i) (omega arith));
            gains = k.gains;
          }),
      omega arith,
      omega arith,
    )

-- a place that has none, or one that is shifted
here : (c : After-shifted) → to_z w64 (of_z w64 c.args.b.gain) ≡ c.args.b.gain → (i : ℕ) → i < c.args.p.count
    → (t : Bool) → ltb i c.smaller-lead.result ≡ t
    → FlatAt c.args.cells.now c.args.w c.args.b c.args.p.place i (get_or c.shifted.new.out i (pos 0)) (get_or c.shifted.new.out (piece + i) (pos 0))
here c gain i h true e =
    let l = ltb-true i c.smaller-lead.result e in
    let rest = c.shifted.ensures in
    let v = rest.apart.values i (omega arith) (inl l) ∙ c.nothing.ensures.inside i l in
    record {
      none = λ g. v;
      value = λ g. absurd (omega (arith, g, l));
      mark = λ g. absurd (omega (arith, g, l));
    }
here c gain i h false e =
    let a = c.args in
    let n = c.smaller-lead.result in
    let l = ltb-false i n e in
    let rest = rw gain at c.shifted.ensures in
    let at : n + (i - n) ≡ i = omega (arith, l) in
    let source : a.b.line + (a.p.place + n - a.b.skipped) + (i - n) ≡ a.b.line + (a.p.place + i - a.b.skipped) = omega (arith, l) in
    let r = rw (at, source) at (rest.inside (i - n) (omega (arith, l, h))) in
    record {
      none = λ g. absurd (omega (arith, g, l));
      value = λ g. r.0;
      mark = λ g. r.1;
    }

pub returns-then-lead-p : goal.returns-then-lead-p
returns-then-lead-p c =
    let gain = gain-plain (goal.at.returns-then-lead-p c).Then-lead-p in
    record {
      inside = λ i h. here (goal.at.returns-then-lead-p c).After-shifted gain i h (ltb i c.smaller-lead.result) refl;
      same = c.shifted.ensures.apart.same ∙ c.nothing.ensures.same;
    }
