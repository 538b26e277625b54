use Rattle.std.proofs.Common.{◌≡◌, ◌+◌, ◌-◌, ◌*◌, ◌≤◌, ◌<◌, ℕ, List, ℤ, arith}
use mathlib.Core.Logic.{◌⊎◌, ⊎_elim, inl, inr}
use Rattle.optimality.specs.Cells.{start_takes}
use Rattle.geometry.specs.Geometry.{row}
use Rattle.intervals.specs.declared.rows.Ladder.{Ladder}
use Rattle.carrying.specs.Images.{Chunks, PickedAt}
use Rattle.marks.specs.Lines.{WholeChunks, line_of}
use Rattle.marks.proofs.Leading.{lined-none, lined_on, lined-piece, row-fits-behind, on_row}
use Rattle.marks.proofs.lines.lined_image.Goals as goal
use Rattle.marks.proofs.lines.lined_image.Goals.{After-row_cells-row}

-- the row
at_row : (c : After-row_cells-row) →
    let a = c.args in
    let f = a.t.figures in
    c.line_behind-line.result + (a.p.ons - f.takes.ons) * c.row_cells-row.result ≡ line_of f a.s a.p.starts + (a.p.ons - f.takes.ons) * row f
at_row c = rw (c.line_behind-line.ensures, c.row_cells-row.ensures)

-- the same ladder, along the same row
module _ {l l' : Ladder} {at at' : ℕ} (e : l ≡ l') (g : at ≡ at') (cells : List ℤ) (w : ℕ) where
  chunks-same : (z count : ℕ) → Chunks l' cells w (record { line = at'; first = z; count = count })
      → Chunks l cells w (record { line = at; first = z; count = count })
  chunks-same z count p = rw (e, g) p

  picked_same : (z : ℕ) {v m : ℤ} → PickedAt l cells w at z v m → PickedAt l' cells w at' z v m
  picked_same z p = rw (← e, ← g) p

pub overflow_add-places : goal.overflow_add-places
overflow_add-places c =
    let a = c.args in
    let k = c.requires.on_asked.0 in
    omega (arith, at_row (goal.at.overflow_add-places c).After-row_cells-row, row-fits-behind a.t a.cells.now a.s a.p k, k.marks)

pub chunks-requires : goal.chunks-requires
chunks-requires c =
    let a = c.args in
    let k = c.requires.on_asked in
    let lowest : a.l.low ≡ a.t.figures.pmin = rw c.requires.l_value in (
      chunks-same c.requires.l_value (at_row (goal.at.chunks-requires c).After-row_cells-row) a.cells.now a.t.width a.p.place a.p.count
          (lined-piece a.t a.cells.now a.s a.p k.0 k.1 (omega (arith, c.if-p-l.false))),
      k.2,
    )

pub returns-then-p-l : goal.returns-then-p-l
returns-then-p-l c =
    let a = c.args in
    let f = a.t.figures in
    let k = c.requires.on_asked in
    let takes = c.start_takes in
    let none = c.nothing.ensures in
    -- short of a start, of an on-interval, or of blocks at every place
    let short : (i : ℕ) → i < a.p.count → (a.p.starts < start_takes f a.s) ⊎ ((a.p.ons < f.takes.ons) ⊎ (a.p.place + i < f.pmin)) = λ (i : ℕ) (h : i < a.p.count).
    ⊎_elim (λ (g : a.p.starts < takes.result). inl (omega arith))
    (λ (r : ((takes.result ≤ a.p.starts) × (a.p.ons < f.takes.ons))
    ⊎ ((takes.result ≤ a.p.starts) × (f.takes.ons ≤ a.p.ons) × (a.p.place < a.l.low))).
    ⊎_elim (λ (g : (takes.result ≤ a.p.starts) × (a.p.ons < f.takes.ons)). inr (inl g.1))
    (λ (g : (takes.result ≤ a.p.starts) × (f.takes.ons ≤ a.p.ons) × (a.p.place < a.l.low)). inr (inr (below i h g.2))) r)
    c.if-p-l.either in
    record {
      inside = λ i h cell here.
          lined-none a.t a.cells.now a.s cell here.state a.p.starts a.p.ons (a.p.place + i) k.1
          (on_row f a.p k.0.piece-of a.s i h cell here k.1) (short i h) _ (none.inside i h);
      same = none.same;
    }
  where
    below : let a = c.args in (i : ℕ) → i < a.p.count → a.p.place < a.l.low → a.p.place + i < a.t.figures.pmin
    below i h l =
        let a = c.args in
        let lowest : a.l.low ≡ a.t.figures.pmin = rw c.requires.l_value in
        ⊎_elim (λ (g : a.p.place + a.p.count ≤ a.t.figures.pmin). omega arith)
        (λ (g : WholeChunks a.t.figures a.p.place a.p.count). absurd (omega (arith, g.begins)))
        (c.requires.on_asked.0.piece-of.lined c.requires.on_asked.1).2

pub returns-else-p-l : goal.returns-else-p-l
returns-else-p-l c =
    let a = c.args in
    let k = c.requires.on_asked in
    let on = c.chunks.ensures in
    record {
      inside = λ i h cell here.
          lined_on a.t a.cells.now a.s cell here.state a.p.starts a.p.ons (a.p.place + i) k.1
          (on_row a.t.figures a.p k.0.piece-of a.s i h cell here k.1) k.0.leads (omega (arith, c.if-p-l.false, c.start_takes.ensures)) c.if-p-l.false.1
          (picked_same c.requires.l_value (at_row (goal.at.returns-else-p-l c).After-row_cells-row) a.cells.now a.t.width (a.p.place + i) (on.inside i h));
      same = on.same;
    }
