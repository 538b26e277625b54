-- The cells of the year by what lies above a month's box: every such part has a number, and each cell one part.
use mathlib.Core.Path.{◌≡◌, refl, sym, ap, ◌∙◌, subst}
use mathlib.Core.List.{List}
use mathlib.Core.Logic.{⊎_elim, inl, inr}
use Prim.Native.Nat.{ℕ, zero, suc, ◌+◌, ◌*◌, ◌≤◌, ◌<◌}
use native.Mathlib.Nat.{mul-le-mul_right, zero-mul}
use native.Mathlib.Omega.{arith}
use lib.IntN.{ℤ}
use lib.ListN.{length}
use Rattle.commitment.specs.Types.{BestProfit}
use Rattle.commitment.specs.Types.{Hours}
use Rattle.commitment.specs.Bounds.{most_intervals}
use Rattle.optimality.specs.declared.Budgets.{Budgets}
use Rattle.optimality.specs.declared.Cell.{Cell}
use Rattle.optimality.specs.declared.Figures.{Figures}
use Rattle.optimality.specs.Machine.{Quarter}
use Rattle.optimality.specs.Cells.{Sound, Within, InTable, states, less, with_most}
use Rattle.optimality.proofs.Within.{less-within, with-sound}
use Rattle.geometry.specs.Geometry.{section, width, index, cell_of}
use Rattle.geometry.specs.Layers.{Holds, LayerAt, stored_at}
use Rattle.geometry.proofs.Places.{index-lt, in-section, cell-there, section-fits}
use Rattle.intervals.proofs.Stretches.{last-or-before}
use Rattle.layers.specs.Filling.{quarters_in, between}
use Rattle.months.specs.declared.chains.Month.{Month}
use Rattle.months.specs.declared.chains.Places.{Places}
use Rattle.months.specs.Capping.{Above, over_of}
use Rattle.months.specs.Chaining.{value_before, MonthAsked, ClassAsked, ClassMade, MonthMade, Elsewhere}
use Rattle.months.proofs.Raising.{numbered-there}

-- ---- the numbers of the parts

module _ (f : Figures) (ok : Sound f) (cap : Budgets) (within : Within cap f.most) where
  -- the most that may lie above the box
  abbrev pub rest : Figures
  rest = with_most f (less f.most cap)

  pub rest-sound : Sound rest
  rest-sound = with-sound f (less f.most cap) (less-within f.most cap) ok

  abbrev part : Budgets → Cell
  part above = record { state = 0; left = above }

  abbrev pub number : Budgets → ℕ
  number above = index rest (part above)

  some-state : 0 < states rest
  some-state = omega (arith, ok.mot)

  over-inside : (z : Cell) → InTable f z → InTable rest (part (over_of cap z))
  over-inside z i =
      record {
        state = some-state;
        left =
            record {
              starts = omega (arith, i.left.starts, within.starts);
              ons = omega (arith, i.left.ons, within.ons);
              blocks = omega (arith, i.left.blocks, within.blocks);
            };
      }

  section-in : section rest ≤ width rest
  section-in = omega (arith, section-fits rest 0 some-state)

  module _ (j : ℕ) (h : j < section rest) where
    there : (InTable rest (cell_of rest j)) × (index rest (cell_of rest j) ≡ j)
    there = numbered-there rest j (omega (arith, section-in))

    -- a part has no state but the first
    first-state : (cell_of rest j).state ≡ 0
    unfolding index
    first-state = by (cell_of rest j).state (λ (s : ℕ) (e : (cell_of rest j).state * section rest ≡ s). omega (arith, there.1, e)) refl
      where
        by : (s : ℕ) → ((n : ℕ) → (cell_of rest j).state * section rest ≡ n → n < section rest) → (cell_of rest j).state ≡ s → (cell_of rest j).state ≡ 0
        by zero small e = e
        by (suc s) small e =
            let one : 1 * section rest ≤ suc s * section rest = mul-le-mul_right (section rest) (omega arith) in
            absurd (omega (arith, one, small (suc s * section rest) (ap (λ (t : ℕ). t * section rest) e)))

    pub number-there : number (cell_of rest j).left ≡ j
    number-there = ap (λ (s : ℕ). index rest (record { state = s; left = (cell_of rest j).left })) (sym first-state) ∙ there.1

    -- the cells of the year with just this part, by its number
    pub over-is : (z : Cell) → InTable f z → number (over_of cap z) ≡ j → over_of cap z ≡ (cell_of rest j).left
    over-is z i e = ap (λ (c : Cell). c.left) (sym (cell-there rest (part (over_of cap z)) (over-inside z i)) ∙ ap (cell_of rest) e)

    pub part-above : Above f cap (cell_of rest j).left
    part-above =
        let l = there.0.left in
        record {
          sound = ok;
          within =
              record {
                starts = omega (arith, l.starts, within.starts);
                ons = omega (arith, l.ons, within.ons);
                blocks = omega (arith, l.blocks, within.blocks);
              };
        }

  pub number_lt : (z : Cell) → InTable f z → number (over_of cap z) < section rest
  unfolding index
  number_lt z i =
      let b = over_of cap z in
      let l = (over-inside z i).left in
      omega (arith, zero-mul (section rest), in-section rest b.starts b.ons b.blocks l.starts l.ons l.blocks)

-- ---- a month, part by part

module _ (f : Figures) (prices : List ℤ) (hours : Hours) (m : Month) (at : Places) (was : List ℤ) (asked : MonthAsked f was prices hours m at) where
  abbrev quarters : List Quarter
  quarters = between (quarters_in hours prices) m.from m.to

  -- the cells whose parts have smaller numbers are made
  pub record Partly (now : List ℤ) (j : ℕ) : Type 0 where
    pub made : (worth : Cell → BestProfit) (n : ℕ) → n + length quarters ≤ most_intervals → LayerAt f n worth (stored_at f was at.after)
        → (z : Cell) → InTable f z → number f asked.sound m.cap asked.cap (over_of m.cap z) < j
        → Holds (n + length quarters) (value_before f m.cap quarters worth z) (stored_at f now at.here z)
    pub elsewhere : Elsewhere f m.cap at was now
    pub same : length now ≡ length was

  pub none_made : Partly was 0
  none_made = record { made = λ worth n few layer z i h. absurd (omega arith); elsewhere = λ j out away. refl; same = refl }

  module _ (cells : List ℤ) (j : ℕ) (h : j < section (rest f asked.sound m.cap asked.cap)) (p : Partly cells j) where
    abbrev above : Budgets
    above = (cell_of (rest f asked.sound m.cap asked.cap) j).left

    -- the layer at the month's end is as it was
    kept : (worth : Cell → BestProfit) (n : ℕ) → LayerAt f n worth (stored_at f was at.after) → LayerAt f n worth (stored_at f cells at.after)
    kept worth n layer =
        let q = asked.placed in
        record {
          holds = λ z i.
              subst (λ (v : ℤ). Holds n (worth z) v)
              (sym
              (p.elsewhere (at.after + index f z)
              (⊎_elim (λ (o : at.here + width f ≤ at.after). inr (omega arith)) (λ (o : at.after + width f ≤ at.here). inl (omega (arith, index-lt f z i)))
              q.apart)
              (inl (omega (arith, index-lt f z i, q.after)))))
              (layer.holds z i);
        }

    pub class-asked : ClassAsked f cells prices hours m at above
    class-asked =
        record {
          month =
              record {
                sound = asked.sound;
                cap = asked.cap;
                placed = record {
                  apart = asked.placed.apart;
                  here = asked.placed.here;
                  after = asked.placed.after;
                  work = omega
                      (arith, asked.placed.work, p.same);
                };
                priced = asked.priced;
                clocked = asked.clocked;
                short = asked.short;
                some = asked.some;
                inside = asked.inside;
                worth = asked.worth;
                ahead = asked.ahead;
                few = asked.few;
                layer = kept asked.worth asked.ahead asked.layer;
              };
          fits = part-above f asked.sound m.cap asked.cap j h;
        }

    pub part-made : (now : List ℤ) → ClassMade f quarters m at above cells now → Partly now (j + 1)
    part-made now c =
        record {
          made = λ worth n few layer z i l.
              ⊎_elim
              (λ (e : number f asked.sound m.cap asked.cap (over_of m.cap z) ≡ j).
              c.made worth n few (kept worth n layer) z i (over-is f asked.sound m.cap asked.cap j h z i e))
              (λ (b : number f asked.sound m.cap asked.cap (over_of m.cap z) < j).
              subst (λ (v : ℤ). Holds (n + length quarters) (value_before f m.cap quarters worth z) v)
              (sym
              (c.others z i
              (λ e.
              let k = ap (number f asked.sound m.cap asked.cap) e ∙ number-there f asked.sound m.cap asked.cap j h in
              omega (arith, k))))
              (p.made worth n few layer z i b))
              (last-or-before (number f asked.sound m.cap asked.cap (over_of m.cap z)) j l);
          elsewhere = λ k out away. c.elsewhere k out away ∙ p.elsewhere k out away;
          same = c.same ∙ p.same;
        }

  pub month-made : (now : List ℤ) → Partly now (section (rest f asked.sound m.cap asked.cap)) → MonthMade f quarters m at was now
  month-made now p =
      record {
        made = λ worth n few layer. record { holds = λ z i. p.made worth n few layer z i (number_lt f asked.sound m.cap asked.cap z i) };
        elsewhere = p.elsewhere;
      }
