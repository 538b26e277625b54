-- The outputs of an interval as a ladder: from the lowest to the highest, each block more brings the same.
use Rattle.std.specs.Prelude.{ℕ, suc, ◌+◌, ◌-◌, ◌*◌, ◌≤◌, ℤ, pos, nat_abs, ◌+ℤ◌, ◌*ℤ◌}
use Rattle.integers.specs.Maximum.{maxℤ}
use Rattle.commitment.specs.Bounds.{most_blocks}
use Rattle.optimality.specs.declared.Figures.{Figures}
use Rattle.geometry.specs.Layers.{swing}
use Rattle.intervals.specs.declared.rows.Ladder.{Ladder}
use Rattle.intervals.specs.Turns.{net, slope}

-- what k blocks bring
unfoldable pub brings : Ladder → ℕ → ℤ
brings l k = l.least +ℤ l.rise *ℤ pos (k - l.low)

-- how many outputs there are
abbrev pub outputs : Ladder → ℕ
outputs l = suc l.high - l.low

-- the better of the lowest and the highest
abbrev pub better_end : Ladder → ℤ
better_end l = maxℤ l.least (brings l l.high)

-- in its ranges
pub record Steady (l : Ladder) : Type 0 where
  pub some : l.low ≤ l.high
  pub few : l.high ≤ most_blocks
  pub least : nat_abs l.least ≤ swing
  pub rise : nat_abs l.rise ≤ swing

-- the most that an output of it brings
abbrev pub most_brought : ℕ
most_brought = swing + swing * most_blocks

-- a pass over so many places, with what is gained at each and what the best gains from place to place
pub record Stepping (count : ℕ) (gain rise : ℤ) : Type 0 where
  pub some : 1 ≤ count
  pub few : count ≤ most_blocks + 1
  pub gains : nat_abs gain ≤ most_brought
  pub rises : nat_abs rise ≤ swing

-- the ladder of an interval's outputs, less what a start pays
abbrev pub ladder_of : Figures → ℤ → ℕ → Ladder
ladder_of f price pays = record { low = f.pmin; high = f.pmax; least = net f price pays f.pmin; rise = slope f price }
