-- The table, layer by layer from the last: a layer made from one that holds the values behind it holds the values one interval earlier.
use mathlib.Core.Path.{◌≡◌, refl, sym, subst, ◌∙◌}
use mathlib.Core.Bool.{Bool, true, false}
use mathlib.Core.List.{List, [], ◌∷◌}
use mathlib.Core.Logic.{inr}
use Prim.Native.Nat.{ℕ, suc, ◌+◌, ◌*◌, ◌^◌, ◌≤◌, ◌<◌}
use native.Mathlib.Nat.{mul-le-mul_right}
use native.Mathlib.Omega.{arith}
use borrow.Author.Tests.{ltb-true, ltb-false}
use lib.Dec.{ltb}
use lib.IntN.{ℤ, pos, nat_abs}
use lib.ListN.{length, get_or, drop, length-drop, drop_of_length-le}
use lib.Seq.{drop-cons}
use Rattle.optimality.specs.declared.Cell.{Cell}
use Rattle.commitment.specs.Types.{BestProfit}
use Rattle.optimality.specs.Machine.{anywhere, Quarter}
use Rattle.commitment.specs.Bounds.{most_price, most_intervals}
use Rattle.optimality.specs.declared.Figures.{Figures}
use Rattle.optimality.specs.Cells.{Sound, InTable, value_at}
use Rattle.optimality.proofs.Turns.{value-end}
use Rattle.optimality.proofs.Quarters.{no_quarter}
use Rattle.geometry.specs.Geometry.{width, index}
use Rattle.geometry.specs.Layers.{Holds, LayerAt, Layer, stored_at, Filled}
use Rattle.intervals.specs.Stretches.{Small, LayerMade}
use Rattle.intervals.specs.Turns.{quarter_stored}
use Rattle.geometry.proofs.Places.{index-lt, numbered}
use Rattle.intervals.proofs.Stretches.{put_in, put-inside, same_from}
use Rattle.geometry.proofs.Holding.{holds-small}
use Rattle.intervals.proofs.Turning.{cell_holds}

-- every price is in its range
abbrev pub PricedOver : List Quarter → Type 0
PricedOver quarters = (i : ℕ) → i < length quarters → nat_abs (get_or quarters i no_quarter).price ≤ most_price

-- the numbers of a layer are small
pub layer-small : (f : Figures) {n : ℕ} {value : Cell → BestProfit} (cells : List ℤ) (at : ℕ) → n ≤ most_intervals
    → LayerAt f n value (stored_at f cells at) → Small cells at (width f)
layer-small f {n} {value} cells at short layer i h =
    let c = numbered f i h in
    subst (λ (j : ℕ). nat_abs (get_or cells (at + j) (pos 0)) ≤ 2 ^ 62) c.is
    (holds-small n (value c.of) (stored_at f cells at c.of) short (layer.holds c.of c.inside))

-- a layer whose every number is made from a layer holds the values one interval earlier
pub layer-earlier : (f : Figures) → Sound f → (ends : Cell → BestProfit) (q : Quarter) → nat_abs q.price ≤ most_price → (rest : List Quarter)
    → (n : ℕ) → n < most_intervals → (stored now : Cell → ℤ) → LayerAt f n (value_at f ends rest) stored
    → ((c : Cell) → InTable f c → now c ≡ quarter_stored f stored c q) → LayerAt f (suc n) (value_at f ends (q ∷ rest)) now
layer-earlier f ok ends q priced rest n few stored now next made =
    record {
      holds = λ c h.
          subst (λ (v : ℤ). Holds (suc n) (value_at f ends (q ∷ rest) c) v) (sym (made c h))
          (cell_holds f ok q.price priced ends rest n few stored next c h q.opens);
    }

-- the layers from t on are filled
pub record FilledFrom (f : Figures) (ends : Cell → BestProfit) (quarters : List Quarter) (was s : List ℤ) (t : ℕ) : Type 0 where
  pub layers : (j : ℕ) → t ≤ j → j ≤ length quarters → Layer f ends (drop j quarters) (stored_at f s (j * width f))
  pub beyond : (j : ℕ) → length quarters * width f ≤ j → get_or s j (pos 0) ≡ get_or was j (pos 0)
  pub same : length s ≡ length was

-- the last layer, which was there
pub filled-last : (f : Figures) (ends : Cell → BestProfit) (quarters : List Quarter) (was : List ℤ)
    → Layer f ends [] (stored_at f was (length quarters * width f))
    → FilledFrom f ends quarters was was (length quarters)
filled-last f ends quarters was last =
    record {
      layers = λ j lo hi.
          let e : j ≡ length quarters = omega arith in
          rw (e, drop_of_length-le quarters {i = length quarters} (omega arith)) last;
      beyond = λ j l. refl;
      same = refl;
    }

-- a last layer of zeros: a plan may end in any cell
pub ends-anywhere : (f : Figures) (was : List ℤ) (at : ℕ) → at + width f ≤ length was
    → Layer f anywhere [] (stored_at f (put_in was at (width f) (pos 0)) at)
ends-anywhere f was at room =
    record { holds = λ c h. rw (value-end f anywhere c) (put-inside was at (width f) (pos 0) room (index f c) (index-lt f c h), omega arith) }

module _ (f : Figures) (ends : Cell → BestProfit) (quarters : List Quarter) (was : List ℤ) where
  -- one layer more
  pub filled_next : Sound f → PricedOver quarters → length quarters ≤ most_intervals → (s cells : List ℤ) (t : ℕ) → t < length quarters → length cells ≡ length s
      → FilledFrom f ends quarters was s (suc t) → LayerMade f (get_or quarters t no_quarter) s cells (t * width f) → FilledFrom f ends quarters was cells t
  filled_next ok priced short s cells t inside long old made =
      record {
        layers = λ j lo hi. by j lo hi (ltb t j) refl;
        beyond = λ j l.
            let d : (t + 1) * width f ≤ length quarters * width f = mul-le-mul_right (width f) (omega arith) in
            made.apart j (inr (omega arith)) ∙ old.beyond j l;
        same = long ∙ old.same;
      }
    where
      -- the layers behind are as they were
      later : (j : ℕ) → t < j → j ≤ length quarters → Layer f ends (drop j quarters) (stored_at f cells (j * width f))
      later j lo hi =
          let d : (t + 1) * width f ≤ j * width f = mul-le-mul_right (width f) (omega arith) in
          record {
            holds = λ c h.
                subst (λ (v : ℤ). Holds (length (drop j quarters)) (value_at f ends (drop j quarters) c) v)
                (sym (made.apart (j * width f + index f c) (inr (omega arith))))
                ((old.layers j lo hi).holds c h);
          }

      this : Layer f ends (drop t quarters) (stored_at f cells (t * width f))
      this =
          let q = get_or quarters t no_quarter in
          let rest = drop (suc t) quarters in
          let few : length rest < most_intervals = omega (arith, length-drop (suc t) quarters) in
          let e : suc t * width f ≡ t * width f + width f = omega arith in
          let next : Layer f ends rest (stored_at f s (t * width f + width f)) = rw e at (old.layers (suc t) (omega arith) inside) in
          rw (drop-cons quarters t no_quarter inside)
          (layer-earlier f ok ends q (priced t inside) rest (length rest) few (stored_at f s (t * width f + width f))
          (stored_at f cells (t * width f)) next made.inside)

      by : (j : ℕ) → t ≤ j → j ≤ length quarters → (b : Bool) → ltb t j ≡ b → Layer f ends (drop j quarters) (stored_at f cells (j * width f))
      by j lo hi true e = later j (ltb-true t j e) hi
      by j lo hi false e = let l = ltb-false t j e in let i : j ≡ t = omega arith in rw i this

-- the whole table
pub filled-done : (f : Figures) (ends : Cell → BestProfit) (quarters : List Quarter) (was s : List ℤ)
    → FilledFrom f ends quarters was s 0 → Filled f ends quarters s
filled-done f ends quarters was s d = record { layers = λ t h. d.layers t (omega arith) h }

-- the last layer and what lies behind it are as they were
pub filled-beyond : (f : Figures) (ends : Cell → BestProfit) (quarters : List Quarter) (was s : List ℤ) → FilledFrom f ends quarters was s 0
    → drop (length quarters * width f) s ≡ drop (length quarters * width f) was
filled-beyond f ends quarters was s d = same_from was s (length quarters * width f) d.same (λ j h. d.beyond j h)
