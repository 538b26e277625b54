-- An interval on, for the places of a line: what each place gets of the line that the interval leads to. The value of cell i is number i, its mark
-- number w + i.
use Rattle.std.specs.Prelude.{◌≡◌, List, ◌⊎◌, ℕ, ◌+◌, ◌-◌, ◌*◌, ◌≤◌, ◌<◌, ℤ, pos, nat_abs, ◌+ℤ◌, ◌*ℤ◌, length, get_or}
use Rattle.commitment.specs.Bounds.{most_blocks}
use Rattle.geometry.specs.Layers.{swing}
use Rattle.intervals.specs.declared.rows.Ladder.{Ladder}
use Rattle.intervals.specs.Ladders.{Steady, brings, outputs, most_brought}
use Rattle.intervals.specs.Stretches.{Small}
use Rattle.carrying.specs.declared.images.Slope.{Slope}
use Rattle.carrying.specs.declared.images.Places.{Places}
use Rattle.carrying.specs.Pairs.{PairsApart, Pairs, Joined}
use Rattle.carrying.specs.Picking.{Picked}

-- the places that are worked out aside at a time
abbrev pub piece : ℕ
piece = 512

-- what is gained so many steps on
unfoldable pub stepped : ℤ → ℤ → ℕ → ℤ
stepped gain rise d = gain +ℤ rise *ℤ pos d

-- sources that can be read, values and marks
pub record Sources (cells : List ℤ) (w : ℕ) (s : Slope) : Type 0 where
  pub some : 1 ≤ s.count
  pub few : s.count ≤ most_blocks + 1
  pub values : s.from + s.count ≤ w
  pub marks : w + w ≤ length cells
  pub small : Small cells s.from s.count
  pub gains : nat_abs s.gain ≤ most_brought
  pub rises : nat_abs s.rise ≤ swing

-- what stands aside from `to` on, for so many places
abbrev pub AsideApart : List ℤ → List ℤ → ℕ → ℕ → Type 0
AsideApart was out to count = PairsApart piece was out to count

abbrev pub Aside : (ℕ → ℤ → ℤ → Type 0) → List ℤ → List ℤ → ℕ → ℕ → Type 0
Aside Stands was out to count = Pairs piece Stands was out to count

-- going up: the sources up to the i-th, the nearest first
module _ (cells : List ℤ) (w : ℕ) (s : Slope) where
  abbrev pub up_worth : ℕ → ℕ → ℤ
  up_worth i d = get_or cells (s.from + (i - d)) (pos 0) +ℤ stepped s.gain s.rise d

  abbrev pub up_mark : ℕ → ℕ → ℤ
  up_mark i d = get_or cells (w + (s.from + (i - d))) (pos 0)

  abbrev pub UpPicked : ℕ → ℤ → ℤ → Type 0
  UpPicked i v m = Picked (λ d. d ≤ i) (up_worth i) (up_mark i) v m

  -- going down: the sources from the last, so many of them, the farthest first; the gain is what the source of the place itself brings
  abbrev pub from_last : ℕ → ℤ
  from_last t = get_or cells (s.from + (s.count - 1 - t)) (pos 0)

  abbrev pub down_worth : ℕ → ℕ → ℤ
  down_worth i t = from_last t +ℤ stepped s.gain s.rise (i - t)

  abbrev pub down_mark : ℕ → ℤ
  down_mark t = get_or cells (w + (s.from + (s.count - 1 - t))) (pos 0)

  abbrev pub DownPicked : ℕ → ℤ → ℤ → Type 0
  DownPicked i v m = Picked (λ t. t ≤ i) (down_worth i) down_mark v m

  -- the last i places are joined with what comes down to them
  pub record Descended (was out : List ℤ) (to i : ℕ) : Type 0 where
    pub inside : (j : ℕ) → s.count - i ≤ j → j < s.count
        → Joined (get_or was (to + j) (pos 0)) (get_or was (piece + (to + j)) (pos 0)) (get_or out (to + j) (pos 0)) (get_or out (piece + (to + j)) (pos 0))
        (DownPicked (s.count - 1 - j))
    pub apart : AsideApart was out (to + (s.count - i)) i

-- ---- a line whose outputs are a ladder: k blocks lead to the place k before

module _ (l : Ladder) (cells : List ℤ) (w line z : ℕ) where
  -- those that the place allows
  abbrev pub Allowed : ℕ → Type 0
  Allowed k = (l.low ≤ k) × (k ≤ l.high) × (k ≤ z)

  abbrev pub worth : ℕ → ℤ
  worth k = get_or cells (line + (z - k)) (pos 0) +ℤ brings l k

  abbrev pub mark_by : ℕ → ℤ
  mark_by k = get_or cells (w + (line + (z - k))) (pos 0)

  abbrev pub PickedAt : ℤ → ℤ → Type 0
  PickedAt v m = Picked Allowed worth mark_by v m

-- what a chunk of a line asks: it begins where the lowest output does, or past where the highest does
pub record Chunk (l : Ladder) (cells : List ℤ) (w : ℕ) (p : Places) : Type 0 where
  pub steady : Steady l
  pub some : 1 ≤ p.count
  pub most : p.count ≤ outputs l
  pub begins : (p.first ≡ l.low) ⊎ (l.high < p.first)
  pub values : p.line + p.first + p.count ≤ w
  pub marks : w + w ≤ length cells
  pub small : Small cells p.line (p.first + p.count)

-- its places stand aside; as many more as there are outputs may be touched
pub record Chunked (l : Ladder) (cells : List ℤ) (w : ℕ) (p : Places) (was out : List ℤ) (to : ℕ) : Type 0 where
  pub inside : (i : ℕ) → i < p.count → PickedAt l cells w p.line (p.first + i) (get_or out (to + i) (pos 0)) (get_or out (piece + (to + i)) (pos 0))
  pub apart : AsideApart was out to (outputs l)

-- whole chunks from where the lowest output begins, the last of them perhaps cut short
pub record Chunks (l : Ladder) (cells : List ℤ) (w : ℕ) (p : Places) : Type 0 where
  pub steady : Steady l
  pub before : ℕ
  pub begins : p.first ≡ l.low + before * outputs l
  pub chunks : ℕ
  pub most : p.count ≤ chunks * outputs l
  pub fits : chunks * outputs l ≤ piece
  pub values : p.line + p.first + p.count ≤ w
  pub marks : w + w ≤ length cells
  pub small : Small cells p.line (p.first + p.count)

-- so many places stand aside, from the first on
pub record Imaged (Stands : ℕ → ℤ → ℤ → Type 0) (was out : List ℤ) (count : ℕ) : Type 0 where
  pub inside : (i : ℕ) → i < count → Stands i (get_or out i (pos 0)) (get_or out (piece + i) (pos 0))
  pub same : length out ≡ length was

-- ---- where every output leads to the same cell

pub record Shift (cells : List ℤ) (w from count : ℕ) (gain : ℤ) : Type 0 where
  pub values : from + count ≤ w
  pub marks : w + w ≤ length cells
  pub small : Small cells from count
  pub gains : nat_abs gain ≤ most_brought

abbrev pub Shifted : List ℤ → ℕ → ℕ → ℤ → ℕ → ℤ → ℤ → Type 0
Shifted cells w from gain i v m = (v ≡ get_or cells (from + i) (pos 0) +ℤ gain) × (m ≡ get_or cells (w + (from + i)) (pos 0))
