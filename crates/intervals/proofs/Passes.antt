-- The passes over the stretches of a state, from the inside out: row by row over a span, span by span over a state. Each level's record
-- says what is done, and that all else is as it was.
use mathlib.Core.Path.{◌≡◌, refl, sym, ap, ap₂, ◌∙◌}
use mathlib.Core.Bool.{Bool, true, false, cond, ◌&&◌}
use mathlib.Core.List.{List}
use mathlib.Core.Logic.{⊎_elim, inl, inr}
use Prim.Native.Nat.{ℕ, ◌+◌, ◌-◌, ◌*◌, ◌≤◌, ◌<◌}
use native.Mathlib.Nat.{mul-le-mul_right}
use native.Mathlib.Omega.{arith}
use borrow.Author.Tests.{leb-true, leb-false, le-leb, lt-leb}
use lib.Dec.{leb}
use lib.IntN.{ℤ, pos, ◌+ℤ◌}
use lib.ListN.{length, get_or}
use Rattle.optimality.specs.declared.Figures.{Figures}
use Rattle.optimality.specs.Cells.{Sound}
use Rattle.geometry.specs.Geometry.{row, span, section}
use Rattle.intervals.specs.declared.rows.Ladder.{Ladder}
use Rattle.intervals.specs.Ladders.{brings, outputs, better_end, Steady}
use Rattle.intervals.specs.Stretches.{Raised, best_over, RowRaised, SpanRaised, SectionRaised}
use Rattle.geometry.proofs.Places.{in_row, in_span, rows_fit, row_fits, span_fits, rows_all, spans_all}
use Rattle.intervals.proofs.Raising.{raised-same}
use Rattle.intervals.proofs.Ladders.{ends-over}
use Rattle.intervals.proofs.Segments.{Done, done_first, done_next, done-apart}

-- ---- a span, row by row

pub record RowPlace (f : Figures) : Type 0 where
  pub z : ℕ
  pub z≤ : z ≤ f.most.blocks

pub record SpanPlace (f : Figures) : Type 0 where
  pub y : ℕ
  pub z : ℕ
  pub y≤ : y ≤ f.most.ons
  pub z≤ : z ≤ f.most.blocks

module _ (f : Figures) (l : Ladder) where
  -- a row that is read is as it was
  over-same : (was s : List ℤ) (from z : ℕ) (base : ℤ) → ((i : ℕ) → i ≤ z → get_or s (from + i) (pos 0) ≡ get_or was (from + i) (pos 0))
      → best_over f.takes.blocks l s from z base ≡ best_over f.takes.blocks l was from z base
  over-same was s from z base h =
      raised-same (λ k. leb (k * f.takes.blocks) z) (λ k. get_or s (from + (z - k * f.takes.blocks)) (pos 0) +ℤ brings l k)
      (λ k. get_or was (from + (z - k * f.takes.blocks)) (pos 0) +ℤ brings l k)
      base
      l.low
      (outputs l)
      (λ k lo hi fits. ap (λ (x : ℤ). x +ℤ brings l k) (h (z - k * f.takes.blocks) (omega arith)))

  module _ (was : List ℤ) (to from : ℕ) where
    abbrev pub row_now : ℕ → RowPlace f → ℤ
    row_now y p =
        cond (leb f.takes.ons y) (best_over f.takes.blocks l was (from + (y - f.takes.ons) * row f) p.z
        (get_or was (to + (y * row f + p.z)) (pos 0)))
        (get_or was (to + (y * row f + p.z)) (pos 0))

    abbrev pub RowsDone : List ℤ → ℕ → Type 0
    RowsDone = Done (λ (p : RowPlace f). p.z) (row f) (λ p. in_row f p.z p.z≤) was to row_now

    pub rows-first : RowsDone was f.takes.ons
    rows-first =
        done_first (λ (p : RowPlace f). p.z) (row f) (λ p. in_row f p.z p.z≤) was to row_now f.takes.ons
        (λ y h p. let e : leb f.takes.ons y ≡ false = lt-leb f.takes.ons y h in rw e)

    pub rows_next : (s t : List ℤ) (y : ℕ) → f.takes.ons ≤ y → y ≤ f.most.ons → f.takes.blocks ≡ 1 → to + span f ≤ from → length t ≡ length s
        → RowsDone s y
        → RowRaised l (row f) s t (to + y * row f) (from + (y - f.takes.ons) * row f) → RowsDone t (y + 1)
    rows_next s t y lo hi one behind long old new =
        done_next (λ (p : RowPlace f). p.z) (row f) (λ p. in_row f p.z p.z≤) was to row_now s t y old long new.apart
        (λ p.
        let e : leb f.takes.ons y ≡ true = le-leb f.takes.ons y lo in
        let near : to + y * row f + p.z ≡ to + (y * row f + p.z) = omega arith in
        let base = old.after (to + y * row f + p.z) (omega arith) ∙ ap (λ (j : ℕ). get_or was j (pos 0)) near in
        let source = from + (y - f.takes.ons) * row f in
        rw e
        ((rw (← one) at (new.inside p.z (in_row f p.z p.z≤)))
        ∙ over-same was s source p.z (get_or s (to + y * row f + p.z) (pos 0)) (λ i l. old.after (source + i) (omega (arith, row_fits f y hi)))
        ∙ ap (best_over f.takes.blocks l was source p.z) base))

    pub rows-done : (s : List ℤ) (y : ℕ) → y ≡ f.most.ons + 1 → RowsDone s y → SpanRaised f l was s to from
    rows-done s y h old =
        record {
          inside = λ y z i k. old.right y (omega arith) (record { z = z; z≤ = k });
          apart = done-apart (λ (p : RowPlace f). p.z) (row f) (λ p. in_row f p.z p.z≤) was to row_now s y (span f)
              (rw (h, rows_all f) (omega arith)) old;
        }

    -- all rows at once where the blocks are not limited
    pub rows-by-ends : Sound f → Steady l → f.takes.blocks ≡ 0 → (s : List ℤ) → Raised was s (to + f.takes.ons * row f) from
        (span f - f.takes.ons * row f) (better_end l)
        → SpanRaised f l was s to from
    rows-by-ends ok steady free s new =
        record {
          inside = λ y z i k. by y z i k (leb f.takes.ons y) refl;
          apart = λ j out.
              new.apart j (⊎_elim (λ (l : j < to). inl (omega arith)) (λ (l : to + span f ≤ j). inr (omega (arith, rows-fit'))) out);
        }
      where
        rows-fit' : f.takes.ons * row f ≤ span f
        rows-fit' = rows_fit f f.takes.ons (omega (arith, ok.takes.ons))

        -- a row below another
        joined : (p y size : ℕ) → p ≤ y → p * size + (y - p) * size ≡ y * size
        joined p y size h = sym (spread p (y - p) size) ∙ ap (λ (n : ℕ). n * size) (whole p y h)
          where
            spread : (a b m : ℕ) → (a + b) * m ≡ a * m + b * m
            spread a b m = omega arith

            whole : (p y : ℕ) → p ≤ y → p + (y - p) ≡ y
            whole p y h = omega arith

        by : (y z : ℕ) → y ≤ f.most.ons → z ≤ f.most.blocks → (t : Bool) → leb f.takes.ons y ≡ t
            → get_or s (to + (y * row f + z)) (pos 0)
            ≡ cond t (best_over f.takes.blocks l was (from + (y - f.takes.ons) * row f) z (get_or was (to + (y * row f + z)) (pos 0)))
            (get_or was (to + (y * row f + z)) (pos 0))
        by y z i k true e =
            let lo = leb-true f.takes.ons y e in
            let j = joined f.takes.ons y (row f) lo in
            let p : to + f.takes.ons * row f + ((y - f.takes.ons) * row f + z) ≡ to + (y * row f + z) = omega (arith, j) in
            let q : from + ((y - f.takes.ons) * row f + z) ≡ from + (y - f.takes.ons) * row f + z = omega arith in
            let r : (y - f.takes.ons) * row f + z < span f - f.takes.ons * row f = omega (arith, j, in_span f y z i k) in
            (rw (p, q) at (new.inside ((y - f.takes.ons) * row f + z) r))
            ∙ sym (ends-over l steady f.takes.blocks free was (from + (y - f.takes.ons) * row f) z (get_or was (to + (y * row f + z)) (pos 0)))
        by y z i k false e =
            let l = leb-false f.takes.ons y e in
            let d : (y + 1) * row f ≤ f.takes.ons * row f = mul-le-mul_right (row f) (omega arith) in
            let m : to + (y * row f + z) < to + f.takes.ons * row f = omega (arith, in_row f z k) in
            new.apart (to + (y * row f + z)) (inl m)

    -- ---- a state, span by span

    module _ (takes : ℕ) where
      abbrev pub span_now : ℕ → SpanPlace f → ℤ
      span_now x p =
          cond (leb takes x && leb f.takes.ons p.y)
          (best_over f.takes.blocks l was (from + (x - takes) * span f + (p.y - f.takes.ons) * row f) p.z
          (get_or was (to + (x * span f + (p.y * row f + p.z))) (pos 0)))
          (get_or was (to + (x * span f + (p.y * row f + p.z))) (pos 0))

      abbrev pub SpansDone : List ℤ → ℕ → Type 0
      SpansDone = Done (λ (p : SpanPlace f). p.y * row f + p.z) (span f) (λ p. in_span f p.y p.z p.y≤ p.z≤) was to span_now

      pub spans-first : SpansDone was takes
      spans-first =
          done_first (λ (p : SpanPlace f). p.y * row f + p.z) (span f) (λ p. in_span f p.y p.z p.y≤ p.z≤) was to span_now takes
          (λ x h p. let e : leb takes x ≡ false = lt-leb takes x h in rw e)

      pub spans-next : (s t : List ℤ) (x : ℕ) → takes ≤ x → x ≤ f.most.starts → to + section f ≤ from → length t ≡ length s → SpansDone s x
          → SpanRaised f l s t (to + x * span f) (from + (x - takes) * span f) → SpansDone t (x + 1)
      spans-next s t x lo hi behind long old new =
          done_next (λ (p : SpanPlace f). p.y * row f + p.z) (span f) (λ p. in_span f p.y p.z p.y≤ p.z≤) was to span_now s t x old long
          new.apart
          (λ p.
          let e : leb takes x ≡ true = le-leb takes x lo in
          let at = p.y * row f + p.z in
          let near : to + x * span f + at ≡ to + (x * span f + at) = omega arith in
          let base = old.after (to + x * span f + at) (omega arith) ∙ ap (λ (j : ℕ). get_or was j (pos 0)) near in
          let source = from + (x - takes) * span f + (p.y - f.takes.ons) * row f in
          rw e
          (new.inside p.y p.z p.y≤ p.z≤
          ∙ ap₂ (cond (leb f.takes.ons p.y))
          (over-same was s source p.z (get_or s (to + x * span f + at) (pos 0)) (λ i l. old.after (source + i) (omega (arith, span_fits f x hi)))
          ∙ ap (best_over f.takes.blocks l was source p.z) base)
          base))

      pub spans-done : (s : List ℤ) (x : ℕ) → x ≡ f.most.starts + 1 → SpansDone s x → SectionRaised f l takes was s to from
      spans-done s x h old =
          record {
            inside = λ x y z i j k. old.right x (omega arith) (record { y = y; z = z; y≤ = j; z≤ = k });
            apart =
                done-apart (λ (p : SpanPlace f). p.y * row f + p.z) (span f) (λ p. in_span f p.y p.z p.y≤ p.z≤) was to span_now s x (section f)
                (rw (h, spans_all f) (omega arith)) old;
          }
