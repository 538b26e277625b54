-- Where blocks are not limited, starts and on-intervals may be taken for on-intervals and blocks: every cell keeps its place.
use mathlib.Core.Path.{◌≡◌, refl, sym, ap, ap₂, ◌∙◌}
use mathlib.Core.List.{List}
use Prim.Native.Nat.{ℕ, ◌+◌, ◌*◌}
use native.Mathlib.Nat.{zero-mul, one-mul, mul-one}
use native.Mathlib.Omega.{arith}
use lib.IntN.{ℤ, pos, ◌+ℤ◌}
use lib.ListN.{get_or}
use Rattle.integers.specs.Maximum.{maxℤ}
use Rattle.optimality.specs.declared.Cell.{Cell}
use Rattle.optimality.specs.declared.Figures.{Figures}
use Rattle.optimality.specs.Cells.{Sound, InTable, states}
use Rattle.geometry.specs.Geometry.{row, span, section, width, index}
use Rattle.geometry.specs.Layers.{stored_at}
use Rattle.months.specs.declared.chains.Places.{Places}
use Rattle.months.specs.declared.ends.Way.{Way}
use Rattle.months.specs.Ending.{afterward, end_of, WayAsked, Brought, InSection, shifted_cell, shifted_figures, shifted_way}
use Rattle.months.proofs.Bringing.{afterward-inside}

module _ (f : Figures) (none : f.most.blocks ≡ 0) where
  one_cell : row f ≡ 1
  unfolding row
  one_cell = rw none refl

  span-is : span f ≡ row (shifted_figures f)
  unfolding span row
  span-is = rw none (mul-one (f.most.ons + 1))

  section-is : section f ≡ span (shifted_figures f)
  unfolding section span
  section-is = ap (λ (n : ℕ). (f.most.starts + 1) * n) span-is

  section-shifted : section (shifted_figures f) ≡ section f
  unfolding section
  section-shifted = one-mul (span (shifted_figures f)) ∙ sym section-is

  width-shifted : width (shifted_figures f) ≡ width f
  unfolding width
  width-shifted = ap (λ (n : ℕ). states f * n) section-shifted

  index-shifted : (z : Cell) → z.left.blocks ≡ 0 → index (shifted_figures f) (shifted_cell z) ≡ index f z
  unfolding index
  index-shifted z e =
      let h = shifted_figures f in
      rw (section-shifted, ← span-is, one_cell, e, zero-mul (span h), mul-one z.left.ons)
      (omega arith)

  -- ---- cells of the table

  no_blocks : (z : Cell) → InTable f z → z.left.blocks ≡ 0
  no_blocks z i = omega (arith, i.left.blocks, none)

  shifted-inside : (z : Cell) → InTable f z → InTable (shifted_figures f) (shifted_cell z)
  shifted-inside z i = record { state = i.state; left = record { starts = omega arith; ons = i.left.starts; blocks = i.left.ons } }

  shifted-sound : Sound f → Sound (shifted_figures f)
  shifted-sound ok =
      record {
        block = ok.block;
        pmin = ok.pmin;
        pmax = ok.pmax;
        top = ok.top;
        mot = ok.mot;
        mot-most = ok.mot-most;
        mdt = ok.mdt;
        mdt-most = ok.mdt-most;
        vec = ok.vec;
        mlc = ok.mlc;
        suc = ok.suc;
        takes = ok.takes;
        most = record { starts = omega arith; ons = ok.most.starts; blocks = omega (arith, ok.most.ons) };
      }

  same-stored : (cells : List ℤ) (at : ℕ) (z : Cell) → InTable f z → stored_at (shifted_figures f) cells at (shifted_cell z) ≡ stored_at f cells at z
  same-stored cells at z i = ap (λ (n : ℕ). get_or cells (at + n) (pos 0)) (index-shifted z (no_blocks z i))

  -- ---- a way

  module _ (at : Places) (w : Way) (was : List ℤ) (asked : WayAsked f was at w) where
    pub shifted-asked : WayAsked (shifted_figures f) was at (shifted_way w)
    shifted-asked =
        record {
          sound = shifted-sound asked.sound;
          inside = shifted-inside w.from asked.inside;
          end = asked.end;
          apart = rw width-shifted asked.apart;
          here = rw width-shifted asked.here;
          after = rw width-shifted asked.after;
          small = rw width-shifted asked.small;
          gains = asked.gains;
        }

    abbrev all : Cell → Type 0
    all = InSection w (f.most.starts + 1)

    abbrev shifted_all : Cell → Type 0
    shifted_all = InSection (shifted_way w) ((shifted_figures f).most.starts + 1)

    there : (z : Cell) → all z → shifted_all (shifted_cell z)
    there z s =
        record {
          state = s.state;
          within = record { starts = omega arith; ons = s.within.starts; blocks = s.within.ons };
          before = omega arith;
        }

    back : (z : Cell) → InTable f z → shifted_all (shifted_cell z) → all z
    back z i s =
        record {
          state = s.state;
          within = record { starts = s.within.ons; ons = s.within.blocks; blocks = omega (arith, no_blocks w.from asked.inside) };
          before = omega (arith, i.left.starts);
        }

    pub shifted-brought : (now : List ℤ) → Brought (shifted_figures f) at (shifted_way w) shifted_all was now → Brought f at w all was now
    shifted-brought now b =
        record {
          raised = λ z i s.
              sym (same-stored now at.here z i) ∙ b.raised (shifted_cell z) (shifted-inside z i) (there z s)
              ∙ ap₂ (λ (u v : ℤ). maxℤ u (v +ℤ w.gain)) (same-stored was at.here z i)
              (same-stored was at.after (afterward z (end_of w)) (afterward-inside f z (end_of w) i asked.end));
          others = λ z i h.
              sym (same-stored now at.here z i) ∙ b.others (shifted_cell z) (shifted-inside z i) (λ s. h (back z i s))
              ∙ same-stored was at.here z i;
          apart = λ j out.
              b.apart j (rw width-shifted out);
        }
