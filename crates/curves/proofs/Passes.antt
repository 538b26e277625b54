-- One pass over the points: what is closed, what is open and what is left come to the final curve, and the lists hold what is closed.
use mathlib.Core.Path.{◌≡◌, refl, sym, ap, ◌∙◌}
use mathlib.Core.Bool.{Bool, true, false, cond}
use mathlib.Core.List.{List, [], ◌∷◌, ◌++◌, map, map-append, append_assoc}
use Prim.Native.Nat.{ℕ, ◌+◌, ◌≤◌, ◌<◌}
use native.Mathlib.Omega.{arith}
use lib.IntN.{ℤ}
use lib.ListN.{length, drop, set, length-append, length-drop, length-map, drop_of_length-le}
use Rattle.lists.proofs.Fills.{drop-next, fill-next}
use Rattle.curves.specs.declared.CurveInputs.{CurveInputs}
use Rattle.curves.specs.declared.Segment.{Segment}
use Rattle.curves.specs.Curve.{own_segments, raised, merged, final_curve}
use Rattle.curves.specs.Answers.{filled, from_of, to_of, price_of}
use Rattle.curves.specs.Passes.{own_at, own_after, curve_from, dearer, open_after, stored}
use Rattle.curves.proofs.Steps.{closes, longer}

-- ---- a list that holds some segments

module _ {A : Type 0} (part : Segment → A) (done : List Segment) (was : List A) where
  pub filled-long : length done ≤ length was → length (filled part done was) ≡ length was
  filled-long h = omega (arith, length-append (map part done) (drop (length done) was), length-map done part, length-drop (length done) was)

  -- and one more
  pub filled_next :
      {count : ℕ} {s : List A} (last : Segment) → length done ≡ count → count < length was → s ≡ filled part done was →
      set s count (part last) ≡ filled part (done ++ (last ∷ [])) was
  filled_next {count} {s} last n h e =
      rw (e, sym n)
      (fill-next (map part done) was (length done) (length-map done part) (part last) (omega arith)
      ∙ ap (λ (t : List A). t ++ drop (length done + 1) was) (sym (map-append part done (last ∷ [])))
      ∙ ap (λ (m : ℕ). map part (done ++ (last ∷ [])) ++ drop m was) (sym (length-append done (last ∷ []))))

module _ (k : CurveInputs) (levels rates : List ℕ) where
  -- ---- the own segments, one more

  own-next :
      (i : ℕ) → i + 1 < length levels → i + 1 < length rates →
      own_after k levels rates i ≡ own_at k levels rates i ∷ own_after k levels rates (i + 1)
  own-next i h j = rw (drop-next levels (i + 1) 0 h, drop-next rates (i + 1) 0 j)

  own-end : (i : ℕ) → length levels ≤ i + 1 → own_after k levels rates i ≡ []
  own-end i h = rw (drop_of_length-le levels {i = i + 1} h)

  -- ---- what the loop keeps

  module _ (froms₀ tos₀ : List ℕ) (prices₀ : List ℤ) where
    pub record Pass (last : Segment) (count i : ℕ) (froms tos : List ℕ) (prices : List ℤ) : Type 0 where
      pub done : List Segment
      pub long : length done ≡ count
      pub few : count < i
      pub whole : done ++ curve_from last (own_after k levels rates i) ≡ final_curve k levels rates
      pub froms-are : froms ≡ filled from_of done froms₀
      pub tos-are : tos ≡ filled to_of done tos₀
      pub prices-are : prices ≡ filled price_of done prices₀

    -- before the first turn the first segment is open
    pub pass-start : 1 < length levels → 1 < length rates → Pass (own_at k levels rates 0) 0 1 froms₀ tos₀ prices₀
    unfolding final_curve
    pass-start h j =
        record {
          done = [];
          long = refl;
          few = omega arith;
          whole = ap (λ (own : List Segment). merged (raised own)) (sym (own-next 0 h j)) ∙ whole levels rates h j;
          froms-are = refl;
          tos-are = refl;
          prices-are = refl;
        }
      where
        whole :
            (levels rates : List ℕ) → 1 < length levels → 1 < length rates →
            merged (raised (own_after k levels rates 0)) ≡ merged (raised (own_segments k levels rates))
        whole [] rates h j = absurd (omega arith)
        whole (level ∷ levels) [] h j = absurd (omega arith)
        whole (level ∷ levels) (rate ∷ rates) h j = refl

    module _ {last : Segment} {count i : ℕ} {froms tos : List ℕ} {prices : List ℤ} (w : Pass last count i froms tos prices) where
      module _ (room : count < length froms₀) (room-tos : count < length tos₀) (room-prices : count < length prices₀) where
        by_turn :
            i + 1 < length levels → i + 1 < length rates → (t : Bool) → t ≡ dearer last (own_at k levels rates i) →
            Pass (open_after t last (own_at k levels rates i)) (cond t (count + 1) count) (i + 1)
            (stored t count last.from froms) (stored t count last.to tos) (stored t count last.price prices)
        by_turn h j true e =
            record {
              done = w.done ++ (last ∷ []);
              long = omega (arith, length-append w.done (last ∷ []), w.long);
              few = omega (arith, w.few);
              whole =
                  append_assoc w.done (last ∷ []) (curve_from (own_at k levels rates i) (own_after k levels rates (i + 1)))
                  ∙ ap (λ (t : List Segment). w.done ++ t) (sym (closes last (own_at k levels rates i) (own_after k levels rates (i + 1)) (sym e)))
                  ∙ ap (λ (own : List Segment). w.done ++ curve_from last own) (sym (own-next i h j))
                  ∙ w.whole;
              froms-are = filled_next from_of w.done froms₀ last w.long room w.froms-are;
              tos-are = filled_next to_of w.done tos₀ last w.long room-tos w.tos-are;
              prices-are = filled_next price_of w.done prices₀ last w.long room-prices w.prices-are;
            }
        by_turn h j false e =
            record {
              done = w.done;
              long = w.long;
              few = omega (arith, w.few);
              whole =
                  ap (λ (t : List Segment). w.done ++ t) (sym (longer last (own_at k levels rates i) (own_after k levels rates (i + 1)) (sym e)))
                  ∙ ap (λ (own : List Segment). w.done ++ curve_from last own) (sym (own-next i h j))
                  ∙ w.whole;
              froms-are = w.froms-are;
              tos-are = w.tos-are;
              prices-are = w.prices-are;
            }

        -- a turn, by what its calls gave
        pub pass-turn :
            {t : Bool} {next last' : Segment} {count' : ℕ} {froms' tos' : List ℕ} {prices' : List ℤ} →
            i + 1 < length levels → i + 1 < length rates → next ≡ own_at k levels rates i → t ≡ dearer last next → last' ≡ open_after t last next →
            count' ≡ cond t (count + 1) count → froms' ≡ stored t count last.from froms → tos' ≡ stored t count last.to tos →
            prices' ≡ stored t count last.price prices → Pass last' count' (i + 1) froms' tos' prices'
        pass-turn {t} h j own e opened counted f g p = rw (opened, counted, f, g, p, own) (by_turn h j t (rw own at e))

        -- after the last turn the open segment is the last of the curve
        pub pass-end :
            length levels ≤ i + 1 →
            (count + 1 ≡ length (final_curve k levels rates))
            × (set froms count last.from ≡ filled from_of (final_curve k levels rates) froms₀)
            × (set tos count last.to ≡ filled to_of (final_curve k levels rates) tos₀)
            × (set prices count last.price ≡ filled price_of (final_curve k levels rates) prices₀)
        pass-end h =
            let e : w.done ++ (last ∷ []) ≡ final_curve k levels rates =
            ap (λ (own : List Segment). w.done ++ curve_from last own) (sym (own-end i h)) ∙ w.whole
            in
            rw (sym e) (
              omega (arith, length-append w.done (last ∷ []), w.long),
              filled_next from_of w.done froms₀ last w.long room w.froms-are,
              filled_next to_of w.done tos₀ last w.long room-tos w.tos-are,
              filled_next price_of w.done prices₀ last w.long room-prices w.prices-are,
            )
