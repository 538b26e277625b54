-- Cells of the year and cells of a month's box: every cell of the box stands below one of the year.
use mathlib.Core.Path.{◌≡◌, sym, ap, ◌∙◌}
use Prim.Native.Nat.{ℕ, ◌<◌}
use native.Mathlib.Omega.{arith}
use Rattle.optimality.specs.declared.Budgets.{Budgets}
use Rattle.optimality.specs.declared.Cell.{Cell}
use Rattle.optimality.specs.declared.Figures.{Figures}
use Rattle.optimality.specs.Cells.{Sound, Within, InTable, with_most}
use Rattle.optimality.specs.Years.{raised}
use Rattle.optimality.proofs.Within.{with-sound}
use Rattle.geometry.specs.Geometry.{width, index, cell_of}
use Rattle.geometry.proofs.Places.{numbered, cell-there}
use Rattle.months.specs.Capping.{plus, Above, high_cell}

-- a number of a layer is that of its cell
module _ (f : Figures) (i : ℕ) (h : i < width f) where
  pub numbered-there : (InTable f (cell_of f i)) × (index f (cell_of f i) ≡ i)
  numbered-there =
      let n = numbered f i h in
      let e : cell_of f i ≡ n.of = ap (cell_of f) (sym n.is) ∙ cell-there f n.of n.inside in
      rw e (n.inside, n.is)

module _ (f : Figures) (cap above : Budgets) (a : Above f cap above) where
  pub cap-within : Within cap f.most
  cap-within = let w = a.within in record { starts = omega (arith, w.starts); ons = omega (arith, w.ons); blocks = omega (arith, w.blocks) }

  pub box-sound : Sound (with_most f cap)
  box-sound = with-sound f cap cap-within a.sound

  pub raised-within : (x : Cell) → InTable (with_most f cap) x → Within (plus x.left above) f.most
  raised-within x i =
      let w = a.within in
      record {
        starts = omega (arith, w.starts, i.left.starts);
        ons = omega (arith, w.ons, i.left.ons);
        blocks = omega (arith, w.blocks, i.left.blocks);
      }

  pub raised-inside : (x : Cell) → InTable (with_most f cap) x → InTable f (raised above x)
  raised-inside x i =
      let w = raised-within x i in
      record { state = i.state; left = record { starts = w.starts; ons = w.ons; blocks = w.blocks } }

  pub high-inside : (i : ℕ) → i < width (with_most f cap) → InTable f (high_cell f cap above i)
  high-inside i h = raised-inside (cell_of (with_most f cap) i) (numbered-there (with_most f cap) i h).0
