-- What the checks of a record say, group by group, as orders of numbers.
use Rattle.std.specs.Prelude.{None, Some}
use mathlib.Core.Path.{◌≡◌, refl}
use mathlib.Core.Bool.{true}
use Prim.Native.Nat.{ℕ, ◌*◌, ◌≤◌}
use native.Mathlib.Omega.{arith}
use borrow.Author.Tests.{leb-true, le-leb}
use lib.Dec.{leb}
use Rattle.lists.proofs.Conjunctions.{both}
use Rattle.calendar.specs.Dates.{first_year, last_year}
use Rattle.commitment.specs.Types.{Limit}
use Rattle.commitment.specs.declared.Generator.{Generator}
use Rattle.commitment.specs.declared.Costs.{Costs}
use Rattle.commitment.specs.declared.Opening.{Opening}
use Rattle.commitment.specs.declared.Limits.{Limits}
use Rattle.commitment.specs.declared.Limitation.{Limitation}
use Rattle.commitment.specs.declared.Limitation.TheVariants.{Starts, Hours, Mwh}
use Rattle.commitment.specs.Types.{Permit}
use Rattle.commitment.specs.declared.Window.{Window}
use Rattle.commitment.specs.declared.UnitRecord.{UnitRecord}
use Rattle.commitment.specs.Bounds.{most_mw, most_blocks, most_time, most_held, most_vec, most_mlc, most_suc, most_starts, most_hours, most_mwh}
use Rattle.commitment.specs.Limits.{limit_kept, limit_for}
use Rattle.commitment.specs.Bounds.{most_month, most_day, most_word}
use Rattle.commitment.specs.Ranges.{generator_kept, opening_kept, costs_kept, limits_kept, window_kept, permit_kept, ranges_kept, shape_kept}

pub record GeneratorRanges (g : Generator) : Type 0 where
  pub block-least : 1 ≤ g.block
  pub block-most : g.block ≤ most_mw
  pub pmin-least : 1 ≤ g.pmin
  pub pmin-most : g.pmin ≤ most_blocks
  pub pmax-most : g.pmax ≤ most_blocks
  pub mot-least : 1 ≤ g.mot
  pub mot-most : g.mot ≤ most_time
  pub mdt-least : 1 ≤ g.mdt
  pub mdt-most : g.mdt ≤ most_time

pub record OpeningRanges (o : Opening) : Type 0 where
  pub was-most : o.was ≤ 1
  pub held-least : 1 ≤ o.held
  pub held-most : o.held ≤ most_held

pub record CostsRanges (k : Costs) : Type 0 where
  pub vec-most : k.vec ≤ most_vec
  pub mlc-most : k.mlc ≤ most_mlc
  pub suc-most : k.suc ≤ most_suc

pub record LimitsRanges (limits : Limits) : Type 0 where
  pub starts-kept : limit_kept most_starts limits.starts ≡ true
  pub hours-kept : limit_kept most_hours limits.hours ≡ true
  pub mwh-kept : limit_kept most_mwh limits.mwh ≡ true

pub record WindowRanges (w : Window) : Type 0 where
  pub year-least : first_year ≤ w.date.year
  pub year-most : w.date.year ≤ last_year
  pub month-least : 1 ≤ w.date.month
  pub month-most : w.date.month ≤ most_month
  pub day-least : 1 ≤ w.date.day
  pub day-most : w.date.day ≤ most_day
  pub word-most : w.word ≤ most_word

pub generator-ranges : (g : Generator) → generator_kept g ≡ true → GeneratorRanges g
generator-ranges g e =
    let f10 = both _ (leb g.mdt most_time) e in
    let f9 = both _ (leb 1 g.mdt) f10.0 in
    let f8 = both _ (leb g.mot most_time) f9.0 in
    let f7 = both _ (leb 1 g.mot) f8.0 in
    let f6 = both _ (leb g.pmax most_blocks) f7.0 in
    let f5 = both _ (leb 1 g.pmax) f6.0 in
    let f4 = both _ (leb g.pmin most_blocks) f5.0 in
    let f3 = both _ (leb 1 g.pmin) f4.0 in
    let f2 = both (leb 1 g.block) (leb g.block most_mw) f3.0 in
    record {
      block-least = leb-true 1 g.block f2.0;
      block-most = leb-true g.block most_mw f2.1;
      pmin-least = leb-true 1 g.pmin f3.1;
      pmin-most = leb-true g.pmin most_blocks f4.1;
      pmax-most = leb-true g.pmax most_blocks f6.1;
      mot-least = leb-true 1 g.mot f7.1;
      mot-most = leb-true g.mot most_time f8.1;
      mdt-least = leb-true 1 g.mdt f9.1;
      mdt-most = leb-true g.mdt most_time f10.1;
    }

opening-ranges : (o : Opening) → opening_kept o ≡ true → OpeningRanges o
opening-ranges o e =
    let f3 = both _ (leb o.held most_held) e in
    let f2 = both (leb o.was 1) (leb 1 o.held) f3.0 in
    record {
      was-most = leb-true o.was 1 f2.0;
      held-least = leb-true 1 o.held f2.1;
      held-most = leb-true o.held most_held f3.1;
    }

costs-ranges : (k : Costs) → costs_kept k ≡ true → CostsRanges k
costs-ranges k e =
    let f3 = both _ (leb k.suc most_suc) e in
    let f2 = both (leb k.vec most_vec) (leb k.mlc most_mlc) f3.0 in
    record {
      vec-most = leb-true k.vec most_vec f2.0;
      mlc-most = leb-true k.mlc most_mlc f2.1;
      suc-most = leb-true k.suc most_suc f3.1;
    }

limits-ranges : (limits : Limits) → limits_kept limits ≡ true → LimitsRanges limits
limits-ranges limits e =
    let f3 = both _ (limit_kept most_mwh limits.mwh) e in
    let f2 = both (limit_kept most_starts limits.starts) (limit_kept most_hours limits.hours) f3.0 in
    record { starts-kept = f2.0; hours-kept = f2.1; mwh-kept = f3.1 }

pub window-ranges : (w : Window) → window_kept w ≡ true → WindowRanges w
window-ranges w e =
    let f7 = both _ (leb w.word most_word) e in
    let f6 = both _ (leb w.date.day most_day) f7.0 in
    let f5 = both _ (leb 1 w.date.day) f6.0 in
    let f4 = both _ (leb w.date.month most_month) f5.0 in
    let f3 = both _ (leb 1 w.date.month) f4.0 in
    let f2 = both (leb first_year w.date.year) (leb w.date.year last_year) f3.0 in
    record {
      year-least = leb-true first_year w.date.year f2.0;
      year-most = leb-true w.date.year last_year f2.1;
      month-least = leb-true 1 w.date.month f3.1;
      month-most = leb-true w.date.month most_month f4.1;
      day-least = leb-true 1 w.date.day f5.1;
      day-most = leb-true w.date.day most_day f6.1;
      word-most = leb-true w.word most_word f7.1;
    }

-- a figure in a range is in a wider one
pub limit-wider : (a b : ℕ) (l : Limit) → a ≤ b → limit_kept a l ≡ true → limit_kept b l ≡ true
limit-wider a b None h e = refl
limit-wider a b (Some n) h e = le-leb n b (omega (arith, leb-true n a e))

-- the group alone
pub generator-kept : (u : UnitRecord) → ranges_kept u ≡ true → generator_kept u.generator ≡ true
unfolding ranges_kept
generator-kept u e =
    let f5 = both _ (permit_kept u.permit) e in
    (both (generator_kept u.generator) (opening_kept u.opening) (both _ (costs_kept u.costs) (both _ (limits_kept u.limits) f5.0).0).0).0

-- every field is in its range
pub record InRange (u : UnitRecord) : Type 0 where
  pub generator : GeneratorRanges u.generator
  pub opening : OpeningRanges u.opening
  pub costs : CostsRanges u.costs
  pub limits : LimitsRanges u.limits
  pub permit : permit_kept u.permit ≡ true

pub in-range : (u : UnitRecord) → ranges_kept u ≡ true → InRange u
unfolding ranges_kept
in-range u e =
    let f5 = both _ (permit_kept u.permit) e in
    let f4 = both _ (limits_kept u.limits) f5.0 in
    let f3 = both _ (costs_kept u.costs) f4.0 in
    let f2 = both (generator_kept u.generator) (opening_kept u.opening) f3.0 in
    record {
      generator = generator-ranges u.generator f2.0;
      opening = opening-ranges u.opening f2.1;
      costs = costs-ranges u.costs f3.1;
      limits = limits-ranges u.limits f4.1;
      permit = f5.1;
    }

pub record Shape (g : Generator) : Type 0 where
  pub ordered : g.pmin ≤ g.pmax
  pub most : g.pmax * g.block ≤ most_mw

pub in-shape : (g : Generator) → shape_kept g ≡ true → Shape g
in-shape g e =
    let f = both (leb g.pmin g.pmax) (leb (g.pmax * g.block) most_mw) e in
    record { ordered = leb-true g.pmin g.pmax f.0; most = leb-true (g.pmax * g.block) most_mw f.1 }

-- every limitation in range is a small number
pub limit-small : (u : UnitRecord) → ranges_kept u ≡ true → (which : Limitation) → limit_kept most_mwh (limit_for u.limits which) ≡ true
limit-small u h Starts = limit-wider most_starts most_mwh u.limits.starts (omega arith) (in-range u h).limits.starts-kept
limit-small u h Hours = limit-wider most_hours most_mwh u.limits.hours (omega arith) (in-range u h).limits.hours-kept
limit-small u h Mwh = (in-range u h).limits.mwh-kept
