-- What it says of a case that its check passes.
use Rattle.std.specs.Prelude.{Ok}
use mathlib.Core.Path.{◌≡◌}
use mathlib.Core.Bool.{Bool, true, ◌&&◌}
use mathlib.Core.List.{List}
use Prim.Native.Nat.{ℕ, ◌≤◌}
use native.Mathlib.Omega.{arith}
use borrow.Author.Tests.{leb-true}
use lib.Dec.{leb}
use lib.IntN.{ℤ, pos, neg_ℤ, nat_abs}
use lib.ListN.{get_or}
use lib.Signed.{le_z}
use Rattle.lists.proofs.Conjunctions.{both}
use Rattle.lists.proofs.Every.{every-at}
use Rattle.integers.proofs.Order.{le_z-true}
use Rattle.integers.proofs.Ranges.{within_signed, abs-within}
use Rattle.commitment.specs.declared.Cause.TheVariants.{Range, Shape, Date, Horizon}
use Rattle.commitment.specs.declared.UnitRecord.{UnitRecord}
use Rattle.commitment.specs.Bounds.{most_price, most_horizon}
use Rattle.commitment.specs.Ranges.{ranges_kept, shape_kept, date_kept, price_kept, prices_kept, horizon_kept, case_checked, InOrder, Priced}
use Rattle.commitment.proofs.Causes.{unless-passed}

price-small : (price : ℤ) → price_kept price ≡ true → nat_abs price ≤ most_price
price-small price e =
    let f = both (le_z (neg_ℤ (pos most_price)) price) (le_z price (pos most_price)) e in
    abs-within (within_signed (le_z-true (neg_ℤ (pos most_price)) price f.0) (le_z-true price (pos most_price) f.1))

pub prices-small : (prices : List ℤ) → prices_kept prices ≡ true → Priced prices
unfolding prices_kept
prices-small prices e i h = price-small (get_or prices i (pos 0)) (every-at price_kept (pos 0) prices i e h)

pub record Passing (u : UnitRecord) (priced : Bool) (n : ℕ) : Type 0 where
  pub order : InOrder u n
  pub prices : priced ≡ true
  pub some : 1 ≤ n

pub passing : (u : UnitRecord) (priced : Bool) (n : ℕ) → case_checked u priced n ≡ Ok tt → Passing u priced n
unfolding case_checked
passing u priced n e =
    let a = unless-passed (ranges_kept u && priced) Range _ e in
    let b = unless-passed (shape_kept u.generator) Shape _ a.1 in
    let d = unless-passed (date_kept u.permit) Date _ b.1 in
    let c = unless-passed (horizon_kept n) Horizon (Ok tt) d.1 in
    let r = both (ranges_kept u) priced a.0 in
    let h = both (leb 1 n) (leb n most_horizon) c.0 in
    let checked = leb-true n most_horizon h.1 in
    record {
      order = record { ranges = r.0; shape = b.0; dated = d.0; short = omega arith; checked = checked };
      prices = r.1;
      some = leb-true 1 n h.0;
    }
