-- Down the sources: the best so far is that of the sources passed so far, and gains the fall from place to place.
use mathlib.Core.Path.{◌≡◌, refl, sym, ap, ◌∙◌, subst}
use mathlib.Core.Bool.{Bool, true, false, cond}
use mathlib.Core.List.{List}
use mathlib.Core.Logic.{◌⊎◌, ⊎_elim, inl, inr}
use Prim.Native.Nat.{ℕ, zero, suc, ◌+◌, ◌-◌, ◌^◌, ◌≤◌, ◌<◌}
use native.Mathlib.Omega.{arith}
use lib.IntN.{ℤ, ◌+ℤ◌}
use lib.Signed.{◌≤ℤ◌, ◌<ℤ◌, lt_z}
use Rattle.integers.proofs.Linear.{zarith, zsum}
use Rattle.integers.proofs.Order.{lt_z-true, lt_z-false}
use Rattle.integers.proofs.Ranges.{Within, within-abs, within-weaken, within-sum, within-diff}
use Rattle.geometry.specs.Layers.{swing}
use Rattle.intervals.specs.Ladders.{most_brought}
use Rattle.intervals.proofs.Stretches.{last-or-before}
use Rattle.carrying.specs.declared.images.Slope.{Slope}
use Rattle.carrying.specs.Picking.{Picked}
use Rattle.carrying.specs.Images.{stepped, from_last, down_worth, down_mark, DownPicked, Sources}
use Rattle.carrying.proofs.Picking.{alone, picked_of, picked-left, picked-right, picked-raised}
use Rattle.carrying.proofs.Steps.{stepped-none, stepped-next, stepped_within}
use Rattle.carrying.proofs.Climbing.{held_most, less}

module _ (cells : List ℤ) (w : ℕ) (slope : Slope) where
  next_one : (i : ℕ) → Picked (λ t. t ≡ i) (down_worth cells w slope i) (down_mark cells w slope)
      (from_last cells w slope i +ℤ slope.gain) (down_mark cells w slope i)
  next_one i =
      let e : i - i ≡ 0 = omega arith in
      let p = alone (down_worth cells w slope i) (down_mark cells w slope) (λ t. t ≡ i) i refl (λ j e. e) in
      rw (e, stepped-none slope.gain slope.rise) at p

  -- the sources passed, one place on
  passed_on : (i : ℕ) {v m : ℤ} → DownPicked cells w slope i v m
      → Picked (λ t. t ≤ i) (down_worth cells w slope (suc i)) (down_mark cells w slope) (v +ℤ slope.rise) m
  passed_on i p =
      picked-raised slope.rise (down_worth cells w slope i) (down_mark cells w slope) (down_worth cells w slope (suc i))
      (λ t h. moved t h) p
    where
      moved : (t : ℕ) → t ≤ i → down_worth cells w slope (suc i) t ≡ down_worth cells w slope i t +ℤ slope.rise
      moved t h =
          let n = from_last cells w slope t in
          let b = stepped slope.gain slope.rise (i - t) in
          let e : suc i - t ≡ suc (i - t) = omega arith in
          ap (λ (x : ℤ). n +ℤ x) (ap (stepped slope.gain slope.rise) e ∙ stepped-next slope.gain slope.rise (i - t))
          ∙ omega (zarith, zsum b slope.rise, zsum n (b +ℤ slope.rise), zsum n b, zsum (n +ℤ b) slope.rise)

  both-lots : (i : ℕ) {v m : ℤ}
      → Picked (λ t. (t ≤ i) ⊎ (t ≡ suc i)) (down_worth cells w slope (suc i)) (down_mark cells w slope) v m
      → DownPicked cells w slope (suc i) v m
  both-lots i p =
      picked_of (down_worth cells w slope (suc i)) (down_mark cells w slope)
      (λ t h. ⊎_elim (λ (l : t ≤ i). omega arith) (λ (e : t ≡ suc i). omega arith) h)
      (λ t h. ⊎_elim (λ (e : t ≡ suc i). inr e) (λ (l : t < suc i). inl (omega arith)) (last-or-before t (suc i) (omega arith)))
      p

  abbrev pub Held : ℕ → ℤ → ℤ → Type 0
  Held zero best mark = (best +ℤ slope.rise ≡ from_last cells w slope 0) × (mark ≡ down_mark cells w slope 0)
  Held (suc i) best mark = DownPicked cells w slope i (best +ℤ slope.gain) mark

  regrouped : (best : ℤ) → best +ℤ slope.rise +ℤ slope.gain ≡ best +ℤ slope.gain +ℤ slope.rise
  regrouped best =
      omega (zarith, zsum best slope.rise, zsum (best +ℤ slope.rise) slope.gain, zsum best slope.gain, zsum (best +ℤ slope.gain) slope.rise)

  abbrev source : ℕ → ℤ
  source i = from_last cells w slope i

  abbrev source_mark : ℕ → ℤ
  source_mark i = down_mark cells w slope i

  first_one : Held 1 (source 0) (source_mark 0)
  first_one =
      picked_of (down_worth cells w slope 0) (down_mark cells w slope) (λ t e. omega arith) (λ t e. omega arith) (next_one 0)

  held-taken : (i : ℕ) (best mark : ℤ) → Held i best mark → (best +ℤ slope.rise) <ℤ source i → Held (suc i) (source i) (source_mark i)
  held-taken zero best mark h lt = first_one
  held-taken (suc i) best mark h lt =
      both-lots i
      (picked-right (down_worth cells w slope (suc i)) (down_mark cells w slope) (passed_on i h) (next_one (suc i))
      (λ j k e g. omega (arith, e, g))
      (rw (← regrouped best) (omega (zarith, zsum (best +ℤ slope.rise) slope.gain, zsum (source (suc i)) slope.gain))))

  held_carried : (i : ℕ) (best mark : ℤ) → Held i best mark → source i ≤ℤ (best +ℤ slope.rise) → Held (suc i) (best +ℤ slope.rise) mark
  held_carried zero best mark h le = rw (h.0, h.1) first_one
  held_carried (suc i) best mark h le =
      rw (regrouped best)
      (both-lots i
      (picked-left (down_worth cells w slope (suc i)) (down_mark cells w slope) (passed_on i h) (next_one (suc i))
      (λ j k e g. omega (arith, e, g))
      (rw (← regrouped best) (omega (zarith, zsum (best +ℤ slope.rise) slope.gain, zsum (source (suc i)) slope.gain)))))

  pub held_next : (i : ℕ) (best mark : ℤ) → Held i best mark →
      let taken = lt_z (best +ℤ slope.rise) (source i) in
      Held (suc i) (cond taken (source i) (best +ℤ slope.rise)) (cond taken (source_mark i) mark)
  held_next i best mark h = by (lt_z (best +ℤ slope.rise) (source i)) refl
    where
      by : (t : Bool) → lt_z (best +ℤ slope.rise) (source i) ≡ t → Held (suc i) (cond t (source i) (best +ℤ slope.rise)) (cond t (source_mark i) mark)
      by true e = held-taken i best mark h (lt_z-true (best +ℤ slope.rise) (source i) e)
      by false e = held_carried i best mark h (lt_z-false (best +ℤ slope.rise) (source i) e)

  -- ---- how large it can be

  pub held-within : Sources cells w slope → (i : ℕ) (best mark : ℤ) → i ≤ slope.count → Held i best mark
      → Within (held_most cells w slope) best
  held-within s zero best mark few h =
      let small : Within (2 ^ 62) (source 0) = within-weaken (s.small (slope.count - 1 - 0) (omega (arith, s.some))) (within-abs (source 0)) in
      subst (Within (held_most cells w slope)) (less cells w slope best slope.rise (source 0) h.0)
      (within-weaken (omega arith) (within-diff small (within-weaken s.rises (within-abs slope.rise))))
  held-within s (suc i) best mark few h =
      let t = h.at in
      let number = source t in
      let small : Within (2 ^ 62) number = within-weaken (s.small (slope.count - 1 - t) (omega (arith, s.some))) (within-abs number) in
      let by = stepped_within slope.gain slope.rise (i - t) s.gains s.rises (omega (arith, s.few)) in
      subst (Within (held_most cells w slope)) (less cells w slope best slope.gain (number +ℤ stepped slope.gain slope.rise (i - t)) (sym h.is))
      (within-diff (within-sum small by) (within-weaken s.gains (within-abs slope.gain)))

  pub held-fallen : Sources cells w slope → (i : ℕ) (best mark : ℤ) → i ≤ slope.count → Held i best mark
      → Within (held_most cells w slope + swing) (best +ℤ slope.rise)
  held-fallen s i best mark few h = within-sum (held-within s i best mark few h) (within-weaken s.rises (within-abs slope.rise))

  pub held-gained : Sources cells w slope → (i : ℕ) (best mark : ℤ) → i ≤ slope.count → Held i best mark
      → Within (held_most cells w slope + most_brought) (best +ℤ slope.gain)
  held-gained s i best mark few h = within-sum (held-within s i best mark few h) (within-weaken s.gains (within-abs slope.gain))
