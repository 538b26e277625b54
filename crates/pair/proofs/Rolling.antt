-- Two layers, from the last interval back: what stands behind is made into the layer of the interval before it.
use mathlib.Core.Path.{◌≡◌, sym, ap, subst, ◌∙◌}
use mathlib.Core.List.{List, [], ◌∷◌}
use mathlib.Core.Logic.{inr}
use Prim.Native.Nat.{ℕ, suc, ◌+◌, ◌-◌, ◌≤◌, ◌<◌}
use native.Mathlib.Nat.{zero-add}
use native.Mathlib.Omega.{arith}
use lib.IntN.{ℤ, pos, nat_abs}
use lib.ListN.{length, get_or}
use Rattle.commitment.specs.Types.{BestProfit}
use Rattle.commitment.specs.Types.{Hours}
use Rattle.commitment.specs.Bounds.{most_price, most_intervals}
use Rattle.commitment.specs.Windows.{opens}
use Rattle.optimality.specs.declared.Cell.{Cell}
use Rattle.optimality.specs.declared.Figures.{Figures}
use Rattle.optimality.specs.Machine.{Quarter, quarter, anywhere}
use Rattle.optimality.specs.Cells.{InTable, value_at}
use Rattle.optimality.proofs.Quarters.{no_quarter, quarters-length, quarter-at}
use Rattle.geometry.specs.Geometry.{width, index}
use Rattle.geometry.specs.Layers.{LayerAt, Layer, LayerBefore, stored_at, in_front}
use Rattle.geometry.proofs.Places.{index-lt}
use Rattle.intervals.specs.Turns.{quarter_stored}
use Rattle.layers.specs.Filling.{quarters_in, between, Beyond}
use Rattle.intervals.specs.Stretches.{Copied, FrontMade, Behind}
use Rattle.layers.proofs.Filling.{layer-small, layer-earlier, ends-anywhere}
use Rattle.layers.proofs.Between.{between_none, between_next, between-length, between-all}
use Rattle.intervals.proofs.Stretches.{put_in, put-apart, same_from}
use Rattle.pair.specs.Rolling.{Lent, RollAsked, RolledBy, Earlier}

-- the front, made and copied behind
pub earlier-made : (f : Figures) (q : Quarter) (was front cells : List ℤ) → length cells ≡ length was → FrontMade f q was front
    → Copied front cells (width f) 0 (width f) → Earlier f q was cells
earlier-made f q was front cells long made copied =
    record {
      inside = λ c h.
          let e : 0 + index f c ≡ index f c = zero-add (index f c) in
          copied.inside (index f c) (index-lt f c h) ∙ (rw e (made.inside c h));
      beyond = same_from was cells (width f + width f) long (λ j h. copied.apart j (inr (omega arith)) ∙ made.apart j (inr (omega arith)));
    }

module _ (f : Figures) (w : ℕ) (prices cells : List ℤ) (hours : Hours) (from to : ℕ) (l : RollAsked f w prices cells hours from to) where
  abbrev quarters : List Quarter
  quarters = quarters_in hours prices

  as_many : length quarters ≡ length prices
  as_many = quarters-length (opens hours) 0 prices

  left : (t : ℕ) → t < to → length (between quarters (suc t) to) ≡ to - suc t
  left t h = between-length quarters (suc t) to h (omega (arith, as_many, l.inside))

  module _ (ends : Cell → BestProfit) (n : ℕ) (few : n + (to - from) ≤ most_intervals) where
    -- after the last interval
    pub at-end : (t : ℕ) → suc t ≡ to → (stored : Cell → ℤ) → LayerBefore n f ends [] stored → LayerBefore n f ends (between quarters (suc t) to) stored
    at-end t e stored last = rw (e, between_none quarters to) last

    short : (t : ℕ) → from ≤ t → t < to → n + length (between quarters (suc t) to) < most_intervals
    short t lo h = omega (arith, left t h, few)

    -- what stands behind can be added to
    pub readable : (s : List ℤ) (t : ℕ) → from ≤ t → t < to → length s ≡ length cells
        → LayerBefore n f ends (between quarters (suc t) to) (stored_at f s (width f)) → Behind s 0 w w
    readable s t lo h long layer =
        rw l.wide
        (record {
          before = omega arith;
          fits = omega (arith, l.wide, l.fits, long);
          small = layer-small f s (width f) (omega (arith, short t lo h)) layer;
        })

    -- one interval earlier, wherever it is stored
    pub one_earlier : (t : ℕ) → from ≤ t → t < to → (stored now : Cell → ℤ) → LayerBefore n f ends (between quarters (suc t) to) stored
        → ((c : Cell) → InTable f c → now c ≡ quarter_stored f stored c (quarter (get_or prices t (pos 0)) (opens hours t)))
        → LayerBefore n f ends (between quarters t to) now
    one_earlier t lo h stored now next made =
        let q = get_or quarters t no_quarter in
        let rest = between quarters (suc t) to in
        let inside : t < length prices = omega (arith, h, l.inside) in
        let is : q ≡ quarter (get_or prices t (pos 0)) (opens hours t) = rw (zero-add t) at (quarter-at (opens hours) 0 prices t inside) in
        let small : nat_abs q.price ≤ most_price = rw is (l.priced t inside) in
        let one : suc (n + length rest) ≡ n + suc (length rest) = omega arith in
        rw (between_next quarters t to h (omega (arith, as_many, inside)))
        (subst (λ (k : ℕ). LayerAt f k (value_at f ends (q ∷ rest)) now) one
        (layer-earlier f l.sound ends q small rest (n + length rest) (short t lo h) stored now next (rw is made)))

-- beyond the two layers nothing is touched when the front is made
pub front-beyond : (f : Figures) (q : Quarter) (was cells : List ℤ) → length cells ≡ length was → FrontMade f q was cells → Beyond (width f + width f) was cells
front-beyond f q was cells long made = same_from was cells (width f + width f) long (λ j h. made.apart j (inr (omega arith)))

-- ---- a whole case

module _ (f : Figures) (w : ℕ) (prices cells : List ℤ) (hours : Hours) (l : Lent f w prices cells hours) where
  pub two-fit : width f + width f ≤ length cells
  two-fit = let fits = l.room.fits in omega arith

  -- the layer after the last interval, behind the front
  abbrev ended : List ℤ
  ended = put_in cells (width f) (width f) (pos 0)

  pub ended-anywhere : Layer f anywhere [] (stored_at f ended (width f))
  ended-anywhere = ends-anywhere f cells (width f) two-fit

  pub all_asked : 1 ≤ length prices → length ended ≡ length cells → RollAsked f w prices ended hours 0 (length prices)
  all_asked some long =
      record {
        sound = l.room.sound;
        wide = l.wide;
        fits = omega (arith, two-fit, l.wide, long);
        priced = l.priced;
        clocked = l.clocked;
        short = l.short;
        some = some;
        inside = omega arith;
        ends = anywhere;
        ahead = 0;
        few = omega (arith, l.short);
        last = ended-anywhere;
      }

  pub put-beyond : length ended ≡ length cells → Beyond (width f + width f) cells ended
  put-beyond long =
      same_from cells ended (width f + width f) long (λ j h. put-apart cells (width f) (width f) (pos 0) two-fit j (inr (omega arith)))

  pub all-rolled : (front : List ℤ) → RolledBy f (between (quarters_in hours prices) 0 (length prices)) ended front
      → Layer f anywhere (quarters_in hours prices) (in_front f front)
  all-rolled front r =
      subst (λ (qs : List Quarter). Layer f anywhere qs (in_front f front))
      all (rw (zero-add (length (between (quarters_in hours prices) 0 (length prices)))) at (r anywhere 0 short ended-anywhere))
    where
      all : between (quarters_in hours prices) 0 (length prices) ≡ quarters_in hours prices
      all = between-all (quarters_in hours prices) (length prices) (sym (quarters-length (opens hours) 0 prices))

      short : 0 + length (between (quarters_in hours prices) 0 (length prices)) ≤ most_intervals
      short = omega (arith, ap length all, quarters-length (opens hours) 0 prices, l.short)
