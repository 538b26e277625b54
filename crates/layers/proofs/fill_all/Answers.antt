-- A last layer of zeros, and the layers before it.
use Rattle.std.proofs.Common.{◌≡◌, ap, ◌∙◌, ℕ, ℤ, pos, List, length, drop, ◌+◌, ◌*◌, ◌≤◌, arith}
use mathlib.Core.Logic.{inr}
use lib.ListN.{get_or}
use lib.Seq.{drop-drop}
use Rattle.optimality.specs.Machine.{anywhere}
use Rattle.optimality.proofs.Quarters.{quarters-length}
use Rattle.commitment.specs.Windows.{opens}
use Rattle.geometry.specs.Geometry.{width}
use Rattle.intervals.proofs.Stretches.{put_in, put-apart, same_from}
use Rattle.layers.proofs.Filling.{ends-anywhere}
use Rattle.layers.proofs.fill_all.Goals as goal

-- what lies behind the last layer
behind : (n w : ℕ) (was put cells : List ℤ) → n * w + w ≤ length was → put ≡ put_in was (n * w) w (pos 0) → length put ≡ length was
    → drop (n * w) cells ≡ drop (n * w) put → drop ((n + 1) * w) cells ≡ drop ((n + 1) * w) was
behind n w was put cells room is long same =
    let e : (n + 1) * w ≡ n * w + w = omega arith in
    let past : drop (n * w + w) put ≡ drop (n * w + w) was =
    same_from was put (n * w + w) long (λ j h. ap (λ (s : List ℤ). get_or s j (pos 0)) is ∙ put-apart was (n * w) w (pos 0) room j (inr (omega arith))) in
    rw (e, ← drop-drop w (n * w) cells, same, drop-drop w (n * w) put) past

pub fill-requires-clause-ended : goal.fill-requires-clause-ended
fill-requires-clause-ended c =
    let a = c.args in
    let fits : length a.prices.now * width a.f + width a.f ≤ length a.scratch.now = omega (arith, c.requires.0.fits) in
    record {
      ends = anywhere;
      last = rw (rw c.requires.1 at c.put.ensures) (ends-anywhere a.f a.scratch.now (length a.prices.now * width a.f) fits);
    }

pub returns-clause-filled : goal.returns-clause-filled
returns-clause-filled c =
    let a = c.args in
    let n = length a.prices.now in
    let fits : n * width a.f + width a.f ≤ length a.scratch.now = omega (arith, c.requires.0.fits) in
    c.fill.ensures.filled_by anywhere (rw (rw c.requires.1 at c.put.ensures, quarters-length (opens a.hours) 0 a.prices.now)
    (ends-anywhere a.f a.scratch.now (n * width a.f) fits))

pub returns-clause-beyond : goal.returns-clause-beyond
returns-clause-beyond c =
    let a = c.args in
    let n = length a.prices.now in
    let fits : n * width a.f + width a.f ≤ length a.scratch.now = omega (arith, c.requires.0.fits) in
    rw c.requires.1
    (behind n (width a.f) a.scratch.now c.put.new.scratch c.fill.new.scratch fits (rw c.requires.1 at c.put.ensures) c.put.auto.scratch
    (rw c.requires.1 at c.fill.ensures.beyond))
