-- A chain of months: each layer stands before the one of the next month, and those whose places are not taken again go on to stand.
use mathlib.Core.Path.{◌≡◌, refl, sym, ◌∙◌, subst}
use mathlib.Core.Bool.{true}
use mathlib.Core.List.{List}
use mathlib.Core.Logic.{◌⊎◌, ⊎_elim, inl, inr}
use Prim.Native.Nat.{ℕ, ◌+◌, ◌-◌, ◌≤◌, ◌<◌}
use native.Mathlib.Omega.{arith}
use lib.IntN.{ℤ, pos}
use lib.ListN.{length, get_or}
use Rattle.commitment.specs.Types.{BestProfit}
use Rattle.commitment.specs.Windows.{opens}
use Rattle.optimality.specs.declared.Cell.{Cell}
use Rattle.optimality.specs.declared.Figures.{Figures}
use Rattle.optimality.specs.Machine.{anywhere}
use Rattle.optimality.specs.Cells.{InTable}
use Rattle.optimality.proofs.Quarters.{quarters-length}
use Rattle.optimality.proofs.Turns.{value-end}
use Rattle.geometry.specs.Geometry.{width, index}
use Rattle.geometry.specs.Layers.{Holds, LayerAt, stored_at}
use Rattle.geometry.proofs.Places.{index-lt}
use Rattle.layers.specs.Filling.{quarters_in}
use Rattle.layers.proofs.Between.{between-length}
use Rattle.layers.proofs.Filling.{ends-anywhere}
use Rattle.intervals.specs.Stretches.{Apart}
use Rattle.intervals.proofs.Stretches.{last-or-before, put_in, put-apart}
use Rattle.months.specs.declared.annual.Year.{Year}
use Rattle.months.specs.Chaining.{MonthAsked, MonthMade}
use Rattle.months.specs.Annual.{cut_at, month_at, quarters_at, place_of, places_at, YearAsked, ChainAsked, Stands, Earlier, Chained}
use Rattle.months.proofs.Slots.{place-fits, places-apart}

-- the same values
alike : (f : Figures) (n m : ℕ) (v w : Cell → BestProfit) (stored : Cell → ℤ) → n ≡ m → ((z : Cell) → InTable f z → w z ≡ v z) → LayerAt f n v stored
    → LayerAt f m w stored
alike f n m v w stored e same layer =
    record { holds = λ z i. subst (λ (k : ℕ). Holds k (w z) (stored z)) e (rw (same z i) (layer.holds z i)) }

-- a layer whose cells are as they were
stays : (f : Figures) (n : ℕ) (v : Cell → BestProfit) (was now : List ℤ) (at : ℕ)
    → ((j : ℕ) → at ≤ j → j < at + width f → get_or now j (pos 0) ≡ get_or was j (pos 0)) → LayerAt f n v (stored_at f was at) → LayerAt f n v (stored_at f now at)
stays f n v was now at same layer =
    record {
      holds = λ z i. subst (Holds n (v z)) (sym (same (at + index f z) (omega arith) (omega (arith, index-lt f z i)))) (layer.holds z i);
    }

module _ (y : Year) (cells : ℕ) (prices : List ℤ) (cuts : List ℕ) (asked : YearAsked y cells prices cuts) where
  abbrev f : Figures
  f = y.figures

  -- the intervals of a month
  pub month-long : (k : ℕ) → k + 1 < length cuts → length (quarters_at y prices cuts k) ≡ cut_at cuts (k + 1) - cut_at cuts k
  month-long k h =
      between-length (quarters_in y.hours prices) (cut_at cuts k) (cut_at cuts (k + 1)) (omega (arith, asked.months.rising k h))
      (omega (arith, quarters-length (opens y.hours) 0 prices, asked.months.inside (k + 1) h))

  pub ahead : (k : ℕ) → k + 1 < length cuts
      → length prices - cut_at cuts (k + 1) + (cut_at cuts (k + 1) - cut_at cuts k) ≡ length prices - cut_at cuts k
  ahead k h = omega (arith, asked.months.rising k h, asked.months.inside (k + 1) h)

  -- ---- the layer at the horizon's end

  module _ (was : List ℤ) (fits : length was ≡ cells) where
    abbrev end : ℕ
    end = length cuts - 1

    abbrev put : List ℤ
    put = put_in was (place_of y end) (width f) (pos 0)

    place_inside : place_of y end + width f ≤ length was
    place_inside = omega (arith, place-fits y cells prices cuts asked end (omega (arith, asked.months.some)), asked.wide, asked.fits, fits)

    pub last-stands : Stands y prices cuts put end
    last-stands worth worths =
        alike f 0 (length prices - cut_at cuts end) _ (worth end) _ (omega (arith, asked.months.last))
        (λ z i. worths.last z i ∙ sym (value-end f anywhere z)) (ends-anywhere f was (place_of y end) place_inside)

    pub last-beyond : (j : ℕ) → y.work + y.room ≤ j → get_or put j (pos 0) ≡ get_or was j (pos 0)
    last-beyond j out =
        put-apart was (place_of y end) (width f) (pos 0) place_inside j
        (inr (omega (arith, out, place-fits y cells prices cuts asked end (omega (arith, asked.months.some)), asked.wide)))

  -- work behind the layers leaves them as they are
  pub unworked : (was now : List ℤ) → Apart was now y.work y.room → (k : ℕ) → k < length cuts → Stands y prices cuts was k → Stands y prices cuts now k
  unworked was now same k h stood worth worths =
      stays f _ (worth k) was now (place_of y k) (λ j low high. same j (inl (omega (arith, high, place-fits y cells prices cuts asked k h, asked.wide))))
      (stood worth worths)

-- ---- one month earlier

module _ (y : Year) (was prices : List ℤ) (cuts : List ℕ) (k : ℕ) (e : Earlier y was prices cuts k) where
  abbrev year : YearAsked y (length was) prices cuts
  year = e.chain.year

  pub month-asked : MonthAsked y.figures was prices y.hours (month_at y cuts k) (places_at y k)
  month-asked =
      let here = place-fits y (length was) prices cuts year k (omega (arith, e.month)) in
      let after = place-fits y (length was) prices cuts year (k + 1) e.month in
      record {
        sound = year.sound;
        cap = year.caps k;
        placed =
            record {
              apart = rw (← year.wide) (places-apart y (length was) prices cuts year k (k + 1) (omega arith) (inr (omega arith)));
              here = omega (arith, here, year.wide);
              after = omega (arith, after, year.wide);
              work = omega (arith, year.boxes k, year.fits);
            };
        priced = year.priced;
        clocked = year.clocked;
        short = year.short;
        some = year.months.rising k e.month;
        inside = year.months.inside (k + 1) e.month;
        worth = e.chain.worth (k + 1);
        ahead = length prices - cut_at cuts (k + 1);
        few = omega (arith, ahead y (length was) prices cuts year k e.month, year.short);
        layer = e.next e.chain.worth e.chain.worths;
      }

  pub made-stands : (now : List ℤ) → MonthMade y.figures (quarters_at y prices cuts k) (month_at y cuts k) (places_at y k) was now
      → Stands y prices cuts now k
  made-stands now made worth worths =
      let long = month-long y (length was) prices cuts year k e.month in
      let sum : length prices - cut_at cuts (k + 1) + length (quarters_at y prices cuts k) ≡ length prices - cut_at cuts k =
      omega (arith, ahead y (length was) prices cuts year k e.month, long) in
      alike y.figures _ _ _ (worth k) _ sum (λ z i. worths.before k e.month z i)
      (made.made (worth (k + 1)) (length prices - cut_at cuts (k + 1)) (omega (arith, sum, year.short)) (e.next worth worths))

  -- a later layer whose place is not taken
  pub later-stands : (now : List ℤ) → MonthMade y.figures (quarters_at y prices cuts k) (month_at y cuts k) (places_at y k) was now
      → (j : ℕ) → k < j → j < length cuts → (y.all ≡ true) ⊎ (j ≤ k + 1) → Stands y prices cuts was j → Stands y prices cuts now j
  later-stands now made j h inside near stood worth worths =
      let wide = year.wide in
      let fits = place-fits y (length was) prices cuts year j inside in
      stays y.figures _ (worth j) was now (place_of y j)
      (λ i low high.
      made.elsewhere i
      (⊎_elim (λ (l : place_of y k + y.width ≤ place_of y j). inr (omega (arith, l, wide, low)))
      (λ (l : place_of y j + y.width ≤ place_of y k). inl (omega (arith, l, wide, high))) (places-apart y (length was) prices cuts year k j h near))
      (inl (omega (arith, fits, wide, high))))
      (stood worth worths)

  pub earlier-beyond : (now : List ℤ) → MonthMade y.figures (quarters_at y prices cuts k) (month_at y cuts k) (places_at y k) was now
      → (j : ℕ) → y.work + y.room ≤ j → get_or now j (pos 0) ≡ get_or was j (pos 0)
  earlier-beyond now made j out =
      let here = place-fits y (length was) prices cuts year k (omega (arith, e.month)) in
      made.elsewhere j (inr (omega (arith, here, year.wide, out))) (inr (omega (arith, year.boxes k, out)))

-- ---- the chain: the layer of the end alone, and one month longer

pub chained-last : (y : Year) (prices : List ℤ) (cuts : List ℕ) (was : List ℤ) → Stands y prices cuts was (length cuts - 1)
    → Chained y prices cuts (length cuts - 1) was was
chained-last y prices cuts was stood =
    record {
      stands = λ k low high near. let e : length cuts - 1 ≡ k = omega arith in subst (Stands y prices cuts was) e stood;
      beyond = λ j out. refl;
    }

module _ (y : Year) (was prices : List ℤ) (cuts : List ℕ) (asked : ChainAsked y (length was) prices cuts) (cells : List ℤ) (same : length cells ≡ length was)
    (k : ℕ) (inside : k + 1 < length cuts) (c : Chained y prices cuts (k + 1) was cells) where
  pub earlier-asked : Earlier y cells prices cuts k
  earlier-asked =
      record {
        chain = subst (λ (n : ℕ). ChainAsked y n prices cuts) (sym same) asked;
        month = inside;
        next = c.stands (k + 1) (omega arith) inside (inr (omega arith));
      }

  pub chained-next : (now : List ℤ) → MonthMade y.figures (quarters_at y prices cuts k) (month_at y cuts k) (places_at y k) cells now
      → Chained y prices cuts k was now
  chained-next now made =
      record {
        stands = λ j low high near.
            ⊎_elim (λ (e : k ≡ j). subst (Stands y prices cuts now) e (made-stands y cells prices cuts k earlier-asked now made))
            (λ (l : k < j).
            later-stands y cells prices cuts k earlier-asked now made j l high near
            (c.stands j (omega (arith, l)) high (⊎_elim (λ (a : y.all ≡ true). inl a) (λ (n : j ≤ k + 1). inr (omega arith)) near)))
            (first-or-later j low);
        beyond = λ j out. earlier-beyond y cells prices cuts k earlier-asked now made j out ∙ c.beyond j out;
      }
    where
      first-or-later : (j : ℕ) → k ≤ j → (k ≡ j) ⊎ (k < j)
      first-or-later j low = last-or-before k j (omega arith)
