-- The figures of each call and the ends of their ranges, as the specification has them (2, 3, 10, 21, 22): a row to a figure.
use Rattle.std.specs.Prelude.{List, [], ◌∷◌, ◌++◌, map, ℕ, ◌≤◌, ◌<◌, ℤ, pos, nat_abs, length, get_or, Some, None}
use Rattle.calendar.specs.declared.Date.{Date}
use Rattle.costs.specs.declared.CostInputs.{CostInputs}
use Rattle.commitment.specs.Types.{Limit}
use Rattle.commitment.specs.Types.{Permit}
use Rattle.commitment.specs.declared.UnitRecord.{UnitRecord}
use Rattle.curves.specs.declared.CurveInputs.{CurveInputs}

-- a figure, and the least and the most that it may be
pub record Figure : Type 0 where
  pub least : ℕ
  pub most : ℕ
  pub given : ℕ

infix 5 ◌to◌is◌
abbrev pub ◌to◌is◌ : ℕ → ℕ → ℕ → Figure
least to most is given = record { least = least; most = most; given = given }

-- every figure is in its range
abbrev pub InRange : List Figure → Type 0
InRange [] = Unit {0}
InRange (figure ∷ figures) = (figure.least ≤ figure.given) × (figure.given ≤ figure.most) × InRange figures

-- ---- a case: `none` is in range for a limitation; date and hour word stand together or not at all

abbrev pub limit_figure : ℕ → Limit → List Figure
limit_figure most None = []
limit_figure most (Some limit) = (0 to most is limit) ∷ []

abbrev pub date_figures : Date → List Figure
date_figures d = (2007 to 2099 is d.year) ∷ (1 to 12 is d.month) ∷ (1 to 31 is d.day) ∷ []

abbrev pub permit_figures : Permit → List Figure
permit_figures None = []
permit_figures (Some w) = date_figures w.date ++ (0 to 16777215 is w.word) ∷ []

abbrev pub case_figures : UnitRecord → List Figure
case_figures u =
    (1 to 500 is u.generator.block)
    ∷ (1 to 500 is u.generator.pmin)
    ∷ (1 to 500 is u.generator.pmax)
    ∷ (1 to 96 is u.generator.mot)
    ∷ (1 to 96 is u.generator.mdt)
    ∷ (0 to 1 is u.opening.was)
    ∷ (1 to 9999 is u.opening.held)
    ∷ (0 to 2000000 is u.costs.vec)
    ∷ (0 to 1000000000 is u.costs.mlc)
    ∷ (0 to 4000000000 is u.costs.suc)
    ∷ (limit_figure 2976 u.limits.starts
    ++ (limit_figure 744 u.limits.hours ++ (limit_figure 372000 u.limits.mwh ++ permit_figures u.permit)))

-- prices from −200,000 to 200,000
abbrev pub PricesInRange : List ℤ → Type 0
PricesInRange prices = (i : ℕ) → i < length prices → nat_abs (get_or prices i (pos 0)) ≤ 200000

-- ---- cost figures, with 0 to 10 segments

abbrev pub cost_ranges : CostInputs → List ℕ → List ℕ → List Figure
cost_ranges k mws heats =
    (1 to 500 is k.block)
    ∷ (1 to 500 is k.pmin)
    ∷ (1 to 500 is k.pmax)
    ∷ (0 to 10000 is k.gas)
    ∷ (0 to 10000 is k.transport)
    ∷ (0 to 10000 is k.allowance)
    ∷ (0 to 10000 is k.om)
    ∷ (0 to 10000 is k.gmc)
    ∷ (0 to 1000000 is k.rate)
    ∷ (1 to 50000 is k.min_heat)
    ∷ (0 to 100000 is k.fuel)
    ∷ (0 to 1000 is k.aux)
    ∷ (0 to 1440 is k.minutes)
    ∷ (0 to 10000000 is k.start_adder)
    ∷ (0 to 10000000 is k.load_adder)
    ∷ (0 to 10 is length mws)
    ∷ (0 to 10 is length heats)
    ∷ map (λ mw. 1 to 500 is mw) mws
    ++ map (λ heat. 1 to 50000 is heat) heats

-- ---- a bid curve of 2 to 11 points

abbrev pub curve_ranges : CurveInputs → List ℕ → List ℕ → List Figure
curve_ranges k levels rates =
    (0 to 10000 is k.gas)
    ∷ (0 to 10000 is k.om)
    ∷ (0 to 10000 is k.gmc)
    ∷ (0 to 1000000 is k.adder)
    ∷ (2 to 11 is length levels)
    ∷ (2 to 11 is length rates)
    ∷ map (λ level. 1 to 500 is level) levels
    ++ map (λ rate. 1 to 50000 is rate) rates

-- ---- the clock hour of an interval

abbrev pub clock_ranges : Date → ℕ → List Figure
clock_ranges d interval = date_figures d ++ (1 to 2976 is interval) ∷ []
