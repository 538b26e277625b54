-- The ranges of the unit record and of the prices, and the check of a case before anything is worked out (specification 2, 3).
use Rattle.std.specs.Prelude.{◌≡◌, Bool, true, ◌&&◌, List, [], ◌∷◌, ℕ, ◌*◌, ◌≤◌, ◌<◌, leb, ℤ, pos, neg_ℤ, nat_abs, length, get_or, Some, None}
use Rattle.std.specs.Int.Signed.{le_z}
use Rattle.lists.specs.Every.{every}
use Rattle.calendar.specs.declared.Date.{Date}
use Rattle.calendar.specs.Dates.{first_year, last_year, exists}
use Rattle.commitment.specs.declared.Generator.{Generator}
use Rattle.commitment.specs.declared.Costs.{Costs}
use Rattle.commitment.specs.declared.Opening.{Opening}
use Rattle.commitment.specs.declared.Limits.{Limits}
use Rattle.commitment.specs.Types.{Permit}
use Rattle.commitment.specs.declared.Window.{Window}
use Rattle.commitment.specs.declared.UnitRecord.{UnitRecord}
use Rattle.commitment.specs.declared.Cause.TheVariants as cause
use Rattle.commitment.specs.Types.{Checked}
use Rattle.commitment.specs.Bounds.{most_mw, most_blocks, most_time, most_held, most_vec, most_mlc}
use Rattle.commitment.specs.Bounds.{most_suc, most_starts, most_hours, most_mwh, most_price, most_horizon, most_intervals}
use Rattle.commitment.specs.Bounds.{most_month, most_day, most_word}
use Rattle.commitment.specs.Causes.{Check, ◌else◌, first_of}
use Rattle.commitment.specs.Limits.{limit_kept}

-- ---- the record, group by group

abbrev pub generator_kept : Generator → Bool
generator_kept g =
    leb 1 g.block && leb g.block most_mw
    && leb 1 g.pmin && leb g.pmin most_blocks
    && leb 1 g.pmax && leb g.pmax most_blocks
    && leb 1 g.mot && leb g.mot most_time
    && leb 1 g.mdt && leb g.mdt most_time

abbrev pub opening_kept : Opening → Bool
opening_kept o = leb o.was 1 && leb 1 o.held && leb o.held most_held

abbrev pub costs_kept : Costs → Bool
costs_kept k = leb k.vec most_vec && leb k.mlc most_mlc && leb k.suc most_suc

abbrev pub limits_kept : Limits → Bool
limits_kept limits = limit_kept most_starts limits.starts && limit_kept most_hours limits.hours && limit_kept most_mwh limits.mwh

abbrev pub date_ranged : Date → Bool
date_ranged d =
    leb first_year d.year && leb d.year last_year
    && leb 1 d.month && leb d.month most_month
    && leb 1 d.day && leb d.day most_day

abbrev pub window_kept : Window → Bool
window_kept w = date_ranged w.date && leb w.word most_word

abbrev pub permit_kept : Permit → Bool
permit_kept None = true
permit_kept (Some w) = window_kept w

unfoldable pub ranges_kept : UnitRecord → Bool
ranges_kept u =
    generator_kept u.generator && opening_kept u.opening && costs_kept u.costs && limits_kept u.limits && permit_kept u.permit

-- pmin is at most pmax, and pmax × block at most 500
abbrev pub shape_kept : Generator → Bool
shape_kept g = leb g.pmin g.pmax && leb (g.pmax * g.block) most_mw

-- a date that is given exists
abbrev pub date_kept : Permit → Bool
date_kept None = true
date_kept (Some w) = exists w.date

-- ---- the prices

abbrev pub price_kept : ℤ → Bool
price_kept price = le_z (neg_ℤ (pos most_price)) price && le_z price (pos most_price)

unfoldable pub prices_kept : List ℤ → Bool
prices_kept prices = every price_kept prices

-- there are prices, and not too many
abbrev pub horizon_kept : ℕ → Bool
horizon_kept n = leb 1 n && leb n most_horizon

-- ---- the checks of a case of n intervals, whose prices are kept or not: 3, 4, 12, 5, each with those after it

abbrev pub horizon_checks : ℕ → List Check
horizon_checks n = (horizon_kept n else cause.Horizon) ∷ []

abbrev pub date_checks : UnitRecord → ℕ → List Check
date_checks u n = (date_kept u.permit else cause.Date) ∷ horizon_checks n

abbrev pub shape_checks : UnitRecord → ℕ → List Check
shape_checks u n = (shape_kept u.generator else cause.Shape) ∷ date_checks u n

abbrev pub case_checks : UnitRecord → Bool → ℕ → List Check
case_checks u priced n = (ranges_kept u && priced else cause.Range) ∷ shape_checks u n

unfoldable pub case_checked : UnitRecord → Bool → ℕ → Checked
case_checked u priced n = first_of (case_checks u priced n)

-- ---- what the functions behind the checks ask

pub record InOrder (u : UnitRecord) (n : ℕ) : Type 0 where
  pub ranges : ranges_kept u ≡ true
  pub shape : shape_kept u.generator ≡ true
  pub dated : date_kept u.permit ≡ true
  pub short : n ≤ most_intervals
  pub checked : n ≤ most_horizon

abbrev pub Priced : List ℤ → Type 0
Priced prices = (i : ℕ) → i < length prices → nat_abs (get_or prices i (pos 0)) ≤ most_price
