-- What is proved of every final curve (specification 21): it rises strictly, covers the levels without a gap, and asks the greatest own price up to there.
use Rattle.std.specs.Prelude.{◌≡◌, cond, List, [], ◌∷◌, ℕ, ◌≤◌, ◌<◌, leb, ℤ, pos, ◌≤ℤ◌, ◌<ℤ◌}
use Rattle.integers.specs.Maximum.{maxℤ}
use Rattle.curves.specs.declared.Segment.{Segment}

-- it rises strictly: from a price on
abbrev pub RisesFrom : ℤ → List Segment → Type 0
RisesFrom before [] = Unit {0}
RisesFrom before (s ∷ curve) = (before <ℤ s.price) × RisesFrom s.price curve

abbrev pub Rises : List Segment → Type 0
Rises [] = Unit {0}
Rises (s ∷ curve) = RisesFrom s.price curve

-- the first and the last of the levels
abbrev pub first_level : List ℕ → ℕ
first_level [] = 0
first_level (level ∷ levels) = level

abbrev pub last_from : ℕ → List ℕ → ℕ
last_from level [] = level
last_from level (next ∷ levels) = last_from next levels

abbrev pub last_level : List ℕ → ℕ
last_level [] = 0
last_level (level ∷ levels) = last_from level levels

-- from one level to another without a gap, each segment with some MW
abbrev pub Covers : ℕ → ℕ → List Segment → Type 0
Covers from to [] = from ≡ to
Covers from to (s ∷ curve) = (s.from ≡ from) × (from < s.to) × Covers s.to to curve

-- the price that a curve asks for the MW up to a level
abbrev pub asked : ℕ → List Segment → ℤ
asked level [] = pos 0
asked level (s ∷ curve) = cond (leb level s.to) s.price (asked level curve)

-- over each given segment, at each of its MW, the curve asks the greatest of the own prices up to it, and so at least its own
pub record Asks (curve : List Segment) (s : Segment) (greatest : ℤ) : Type 0 where
  pub is : (level : ℕ) → s.from < level → level ≤ s.to → asked level curve ≡ greatest
  pub own : s.price ≤ℤ greatest

abbrev pub GreatestFrom : List Segment → ℤ → List Segment → Type 0
GreatestFrom curve before [] = Unit {0}
GreatestFrom curve before (s ∷ segments) =
    Asks curve s (maxℤ before s.price) × GreatestFrom curve (maxℤ before s.price) segments

abbrev pub Greatest : List Segment → List Segment → Type 0
Greatest curve [] = Unit {0}
Greatest curve (s ∷ segments) = Asks curve s s.price × GreatestFrom curve s.price segments
