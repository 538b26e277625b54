-- Up the sources: the best so far is that of the sources passed so far, and gains the rise from place to place.
use mathlib.Core.Path.{◌≡◌, refl, sym, ap, ap₂, ◌∙◌, subst}
use mathlib.Core.Bool.{Bool, true, false, cond, false≢true}
use mathlib.Core.List.{List}
use mathlib.Core.Logic.{◌⊎◌, ⊎_elim, inl, inr}
use Prim.Native.Nat.{ℕ, zero, suc, ◌+◌, ◌-◌, ◌^◌, ◌≤◌, ◌<◌}
use native.Mathlib.Numerals.{add-one}
use native.Mathlib.Omega.{arith}
use lib.Dec.{lit<}
use lib.IntN.{ℤ, pos, ◌+ℤ◌, ◌-ℤ◌, +ℤ-neg_ℤ_cancel}
use lib.ListN.{get_or}
use lib.Signed.{◌≤ℤ◌, ◌<ℤ◌, le_z, lt_z}
use mir.Syntax.{w64}
use mir.Val.{to_z, of_z}
use Rattle.integers.proofs.Linear.{zarith, zsum}
use Rattle.integers.proofs.Order.{lt_z-dec, le_z-true, le-le_z}
use Rattle.integers.proofs.Ranges.{Within, plain, within-abs, within-weaken, within-sum, within-diff}
use Rattle.geometry.specs.Layers.{swing}
use Rattle.intervals.specs.Ladders.{most_brought}
use Rattle.carrying.specs.declared.images.Slope.{Slope}
use Rattle.carrying.specs.Picking.{Picked}
use Rattle.carrying.specs.Images.{stepped, up_worth, up_mark, UpPicked, Sources}
use Rattle.carrying.proofs.Picking.{alone, picked_of, picked-left, picked-right, picked-moved}
use Rattle.carrying.proofs.Steps.{stepped-none, stepped-next, stepped_within, step_most}

le_z-false : (x y : ℤ) → le_z x y ≡ false → y <ℤ x
le_z-false x y e =
    ⊎_elim (λ (w : (lt_z y x ≡ true) × (y <ℤ x)). w.1)
    (λ (w : (lt_z y x ≡ false) × (x ≤ℤ y)). absurd (false≢true (sym e ∙ le-le_z x y w.1))) (lt_z-dec y x)

-- what is gained, and what is gained more, as the machine has them
module _ {cells : List ℤ} {w : ℕ} {slope : Slope} (s : Sources cells w slope) where
  pub gain-plain : to_z w64 (of_z w64 slope.gain) ≡ slope.gain
  gain-plain = plain (within-weaken s.gains (within-abs slope.gain)) (lit< tt)

  pub rise-plain : to_z w64 (of_z w64 slope.rise) ≡ slope.rise
  rise-plain = plain (within-weaken s.rises (within-abs slope.rise)) (lit< tt)

module _ (cells : List ℤ) (w : ℕ) (slope : Slope) where
  -- the i-th source, and its mark
  abbrev pub source : ℕ → ℤ
  source i = get_or cells (slope.from + i) (pos 0)

  abbrev pub source_mark : ℕ → ℤ
  source_mark i = get_or cells (w + (slope.from + i)) (pos 0)

  nearest : (i : ℕ) → Picked (λ d. d ≡ 0) (up_worth cells w slope i) (up_mark cells w slope i) (source i +ℤ slope.gain) (source_mark i)
  nearest i =
      let e : i - 0 ≡ i = omega arith in
      let p = alone (up_worth cells w slope i) (up_mark cells w slope i) (λ d. d ≡ 0) 0 refl (λ j e. e) in
      rw (stepped-none slope.gain slope.rise, e) at p

  -- the sources before it, one place on
  farther : (i : ℕ) {v m : ℤ} → UpPicked cells w slope i v m
      → Picked (λ d. (0 < d) × (d ≤ suc i)) (up_worth cells w slope (suc i)) (up_mark cells w slope (suc i)) (v +ℤ slope.rise) m
  farther i p =
      picked-moved slope.rise 1 (up_worth cells w slope i) (up_mark cells w slope i) (up_worth cells w slope (suc i))
      (up_mark cells w slope (suc i))
      (λ d h. (omega arith, omega arith))
      (λ j h. (j - 1, omega (arith, h.0, h.1), omega (arith, h.0)))
      (λ d h. (moved d h, ap (λ (j : ℕ). get_or cells (w + (slope.from + j)) (pos 0)) (back d)))
      p
    where
      back : (d : ℕ) → suc i - (d + 1) ≡ i - d
      back d = omega arith

      moved : (d : ℕ) → d ≤ i → up_worth cells w slope (suc i) (d + 1) ≡ up_worth cells w slope i d +ℤ slope.rise
      moved d h =
          let n = get_or cells (slope.from + (i - d)) (pos 0) in
          let b = stepped slope.gain slope.rise d in
          ap₂ (λ (j : ℕ) (x : ℤ). get_or cells (slope.from + j) (pos 0) +ℤ x) (back d)
          (ap (stepped slope.gain slope.rise) (add-one d) ∙ stepped-next slope.gain slope.rise d)
          ∙ omega (zarith, zsum b slope.rise, zsum n (b +ℤ slope.rise), zsum n b, zsum (n +ℤ b) slope.rise)

  both-lots : (i : ℕ) {v m : ℤ}
      → Picked (λ d. (d ≡ 0) ⊎ ((0 < d) × (d ≤ suc i))) (up_worth cells w slope (suc i)) (up_mark cells w slope (suc i)) v m
      → UpPicked cells w slope (suc i) v m
  both-lots i p =
      picked_of (up_worth cells w slope (suc i)) (up_mark cells w slope (suc i))
      (λ d h. ⊎_elim (λ (e : d ≡ 0). omega arith) (λ (e : (0 < d) × (d ≤ suc i)). e.1) h)
      (λ d h. by d h)
      p
    where
      by : (d : ℕ) → d ≤ suc i → (d ≡ 0) ⊎ ((0 < d) × (d ≤ suc i))
      by zero h = inl refl
      by (suc d) h = inr (omega arith, h)

  -- ---- what is held on the way

  abbrev pub Held : ℕ → ℤ → ℤ → Type 0
  Held zero best mark = best +ℤ slope.rise ≡ source 0
  Held (suc i) best mark = UpPicked cells w slope i (best +ℤ slope.gain) mark

  regrouped : (best : ℤ) → best +ℤ slope.rise +ℤ slope.gain ≡ best +ℤ slope.gain +ℤ slope.rise
  regrouped best =
      omega (zarith, zsum best slope.rise, zsum (best +ℤ slope.rise) slope.gain, zsum best slope.gain, zsum (best +ℤ slope.gain) slope.rise)

  -- the source's number is taken where the best so far is no more with its slope.rise
  held-taken : (i : ℕ) (best mark : ℤ) → Held i best mark → (best +ℤ slope.rise) ≤ℤ source i → Held (suc i) (source i) (source_mark i)
  held-taken zero best mark h le =
      picked_of (up_worth cells w slope 0) (up_mark cells w slope 0) (λ d e. omega arith) (λ d e. omega arith) (nearest 0)
  held-taken (suc i) best mark h le =
      both-lots i
      (picked-left (up_worth cells w slope (suc i)) (up_mark cells w slope (suc i)) (nearest (suc i)) (farther i h)
      (λ j k e g. omega (arith, e, g.0))
      (rw (← regrouped best) (omega (zarith, zsum (best +ℤ slope.rise) slope.gain, zsum (source (suc i)) slope.gain))))

  -- else it is carried on
  held_carried : (i : ℕ) (best mark : ℤ) → Held i best mark → source i <ℤ (best +ℤ slope.rise) → Held (suc i) (best +ℤ slope.rise) mark
  held_carried zero best mark h lt = absurd (omega (zarith, h))
  held_carried (suc i) best mark h lt =
      rw (regrouped best)
      (both-lots i
      (picked-right (up_worth cells w slope (suc i)) (up_mark cells w slope (suc i)) (nearest (suc i)) (farther i h)
      (λ j k e g. omega (arith, e, g.0))
      (rw (← regrouped best) (omega (zarith, zsum (best +ℤ slope.rise) slope.gain, zsum (source (suc i)) slope.gain)))))

  pub held_next : (i : ℕ) (best mark : ℤ) → Held i best mark →
      let taken = le_z (best +ℤ slope.rise) (source i) in
      Held (suc i) (cond taken (source i) (best +ℤ slope.rise)) (cond taken (source_mark i) mark)
  held_next i best mark h = by (le_z (best +ℤ slope.rise) (source i)) refl
    where
      by : (t : Bool) → le_z (best +ℤ slope.rise) (source i) ≡ t → Held (suc i) (cond t (source i) (best +ℤ slope.rise)) (cond t (source_mark i) mark)
      by true e = held-taken i best mark h (le_z-true (best +ℤ slope.rise) (source i) e)
      by false e = held_carried i best mark h (le_z-false (best +ℤ slope.rise) (source i) e)

  -- ---- how large it can be

  abbrev pub held_most : ℕ
  held_most = 2 ^ 62 + step_most slope.gain slope.rise + most_brought

  -- a number by its sum with another
  pub less : (x y v : ℤ) → x +ℤ y ≡ v → v -ℤ y ≡ x
  less x y v e = ap (λ (t : ℤ). t -ℤ y) (sym e) ∙ +ℤ-neg_ℤ_cancel x y

  pub held-within : Sources cells w slope → (i : ℕ) (best mark : ℤ) → i ≤ slope.count → Held i best mark → Within held_most best
  held-within s zero best mark few h =
      let small : Within (2 ^ 62) (source 0) = within-weaken (s.small 0 (omega (arith, s.some))) (within-abs (source 0)) in
      subst (Within held_most) (less best slope.rise (source 0) h)
      (within-weaken (omega arith) (within-diff small (within-weaken s.rises (within-abs slope.rise))))
  held-within s (suc i) best mark few h =
      let d = h.at in
      let number = get_or cells (slope.from + (i - d)) (pos 0) in
      let small : Within (2 ^ 62) number = within-weaken (s.small (i - d) (omega arith)) (within-abs number) in
      let by = stepped_within slope.gain slope.rise d s.gains s.rises (omega (arith, h.inside, s.few)) in
      subst (Within held_most) (less best slope.gain (number +ℤ stepped slope.gain slope.rise d) (sym h.is))
      (within-diff (within-sum small by) (within-weaken s.gains (within-abs slope.gain)))

  -- with its slope.rise, and with what is gained
  pub held-risen : Sources cells w slope → (i : ℕ) (best mark : ℤ) → i ≤ slope.count → Held i best mark
      → Within (held_most + swing) (best +ℤ slope.rise)
  held-risen s i best mark few h = within-sum (held-within s i best mark few h) (within-weaken s.rises (within-abs slope.rise))

  pub held-gained : Sources cells w slope → (i : ℕ) (best mark : ℤ) → i ≤ slope.count → Held i best mark
      → Within (held_most + most_brought) (best +ℤ slope.gain)
  held-gained s i best mark few h = within-sum (held-within s i best mark few h) (within-weaken s.gains (within-abs slope.gain))
