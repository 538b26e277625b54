-- The plan of a year, partway: the outputs of the months behind, and the plan of those ahead from the cell where they led.
use Rattle.std.specs.Prelude.{None, Some}
use mathlib.Core.Path.{◌≡◌, refl, sym, ap, ap₂, ◌∙◌, subst}
use mathlib.Core.List.{List, [], ◌∷◌, ◌++◌, append_assoc, append-nil}
use Prim.Native.Nat.{ℕ, ◌+◌, ◌-◌, ◌*◌, ◌≤◌, ◌<◌}
use native.Mathlib.Omega.{arith}
use lib.IntN.{ℤ, pos}
use lib.ListN.{length, get_or, take, drop, length-append}
use lib.Seq.{drop-drop, drop-length, drop-append-add, take-append_seam}
use Rattle.lists.proofs.Fills.{drop-next}
use Rattle.commitment.specs.Types.{BestProfit}
use Rattle.commitment.specs.declared.Generator.{Generator}
use Rattle.commitment.specs.Best.{Plan, nothing, plan, profit_of, schedule_of}
use Rattle.commitment.specs.Bounds.{most_blocks}
use Rattle.commitment.specs.Months.{Month}
use Rattle.commitment.specs.Tries.{tries_over}
use Rattle.commitment.proofs.Tries.{tries-append}
use Rattle.optimality.specs.declared.Budgets.{Budgets}
use Rattle.optimality.specs.declared.Cell.{Cell}
use Rattle.optimality.specs.declared.Figures.{Figures}
use Rattle.optimality.specs.Machine.{Quarter, in_quarter, walk}
use Rattle.optimality.specs.Cells.{InTable, less, cell_step, plan_at}
use Rattle.optimality.specs.Years.{capped_by, raised, year_value, year_plan, in_front_of, follow}
use Rattle.optimality.proofs.Values.{no-earning}
use Rattle.optimality.proofs.Split.{walk-length}
use Rattle.optimality.proofs.Months.{plan-earns}
use Rattle.layers.specs.Filling.{quarters_in}
use Rattle.halving.specs.declared.ahead.Reached.{Reached}
use Rattle.halving.specs.Tasks.{Untouched}
use Rattle.months.specs.declared.annual.Year.{Year}
use Rattle.months.specs.Chaining.{value_before}
use Rattle.months.specs.Annual.{cut_at, cap_of, quarters_at, ChainAsked, Worths}
use Rattle.months.specs.Planning.{MonthBy, MonthPlanned, YearOf, Stood, NextAsked, Kept, PlanAsked, Planned}
use Rattle.months.proofs.Years.{month-value}
use Rattle.months.proofs.Standing.{month-long}

-- ---- the months of a year, by their cuts

module _ (g : Generator) (y : Year) (prices : List ℤ) (cuts : List ℕ) (months : List Month) (of : YearOf g y cuts months) where
  abbrev f : Figures
  f = y.figures

  abbrev quarters : List Quarter
  quarters = quarters_in y.hours prices

  -- what the year is worth at the beginning of month k
  abbrev pub worth_at : ℕ → Cell → BestProfit
  worth_at k z = year_value g f (drop k months) (drop (cut_at cuts k) quarters) z

  abbrev pub plan_from : ℕ → Cell → Plan
  plan_from k z = year_plan g f (drop k months) (drop (cut_at cuts k) quarters) z

  module _ (k : ℕ) (h : k + 1 < length cuts) where
    abbrev month : Month
    month = get_or months k (record { long = 0; limits = record { starts = None; hours = None; mwh = None } })

    there : drop k months ≡ month ∷ drop (k + 1) months
    there = drop-next months k _ (omega (arith, of.long))

    ends_at : cut_at cuts (k + 1) ≡ cut_at cuts k + month.long
    ends_at = (of.each k month there).0

    front-is : take month.long (drop (cut_at cuts k) quarters) ≡ quarters_at y prices cuts k
    front-is =
        let n : month.long ≡ cut_at cuts (k + 1) - cut_at cuts k = omega (arith, ends_at) in
        ap (λ (j : ℕ). take j (drop (cut_at cuts k) quarters)) n

    back_is : drop month.long (drop (cut_at cuts k) quarters) ≡ drop (cut_at cuts (k + 1)) quarters
    back_is = drop-drop month.long (cut_at cuts k) quarters ∙ ap (λ (n : ℕ). drop n quarters) (sym ends_at)

  worth-last : (z : Cell) → worth_at (length cuts - 1) z ≡ Some (pos 0)
  unfolding year_value
  worth-last z =
      let n : length cuts - 1 ≡ length months = omega (arith, of.long) in
      ap (λ (ms : List Month). year_value g f ms (drop (cut_at cuts (length cuts - 1)) quarters) z)
      (ap (λ (k : ℕ). drop k months) n ∙ drop-length months)

  pub worths : Worths y prices cuts worth_at
  worths =
      record {
        last = λ z i. worth-last z;
        before = λ k h z i.
            ap (λ (ms : List Month). year_value g f ms (drop (cut_at cuts k) quarters) z) (there k h)
            ∙ month-value g f (month k h) (drop (k + 1) months) (drop (cut_at cuts k) quarters) (cap_of y.caps k) (of.each k (month k h) (there k h)).1 z i
            ∙ ap₂ (λ (front back : List Quarter). value_before f (cap_of y.caps k) front
            (λ x. year_value g f (drop (k + 1) months) back x) z) (front-is k h) (back_is k h);
      }

  -- ---- a month's plan, and the plan from where it leads

  -- a plan of some intervals in front
  parts : (a : List ℕ) (e : ℤ) (p : Plan) (v : ℤ) → profit_of p ≡ Some v → schedule_of (in_front_of a e p) ≡ a ++ schedule_of p
  parts a e nothing v h = absurd (no-earning h)
  parts a e (plan s p) v h = refl

  module _ (k : ℕ) (h : k + 1 < length cuts) (at : Cell) (inside : InTable f at) (was now : List ℕ) (r : Reached)
      (by : MonthBy y prices cuts k at worth_at was now r) where
    abbrev boxed : Budgets → Cell
    boxed b = record { state = at.state; left = b }

    -- the plan by what the month may spend
    by-box : List Quarter → List Quarter → Budgets → Plan
    by-box front back b =
        follow (walk Cell Quarter (in_quarter (cell_step f)) front (boxed b))
        (λ x. year_plan g f (drop (k + 1) months) back (raised (less at.left b) x))
        (plan_at f (λ x. year_value g f (drop (k + 1) months) back (raised (less at.left b) x)) front (boxed b))

    stepped : plan_from k at ≡ in_front_of by.outputs by.earned (plan_from (k + 1) r.cell)
    unfolding year_plan by-box
    stepped =
        ap (λ (ms : List Month). year_plan g f ms (drop (cut_at cuts k) quarters) at) (there k h)
        ∙ ap₂ (λ (front back : List Quarter). by-box front back (capped_by g (month k h).limits at.left)) (front-is k h) (back_is k h)
        ∙ ap (by-box (quarters_at y prices cuts k) (drop (cut_at cuts (k + 1)) quarters)) ((of.each k (month k h) (there k h)).1 at.left inside.left)
        ∙ rw (by.best, by.leads, by.next)

    pub schedule-stepped : schedule_of (plan_from k at) ≡ by.outputs ++ schedule_of (plan_from (k + 1) r.cell)
    schedule-stepped =
        ap schedule_of stepped
        ∙ parts by.outputs by.earned (plan_from (k + 1) r.cell) by.profit
        (plan-earns g f (drop (k + 1) months) (drop (cut_at cuts (k + 1)) quarters) r.cell ∙ by.later)

-- ---- the months behind and those ahead

module _ (y : Year) (cells prices : List ℤ) (cuts : List ℕ) (from : Cell) (was : List ℕ) (asked : PlanAsked y cells prices cuts from (length was)) where
  pub record Done (g : Generator) (months : List Month) (schedule : List ℕ) (at : Cell) (tries k : ℕ) : Type 0 where
    pub behind : List ℕ
    pub long : length behind ≡ cut_at cuts k
    pub whole : schedule_of (year_plan g y.figures months (quarters_in y.hours prices) from)
        ≡ behind ++ schedule_of (year_plan g y.figures (drop k months) (drop (cut_at cuts k) (quarters_in y.hours prices)) at)
    pub written : schedule ≡ behind ++ drop (cut_at cuts k) was
    pub tried : tries ≡ tries_over y.figures.block y.figures.pmin behind
    pub some : year_value g y.figures (drop k months) (drop (cut_at cuts k) (quarters_in y.hours prices)) at ≡ None → ⊥

  pub record Partway (now : List ℤ) (schedule : List ℕ) (at : Cell) (tries k : ℕ) : Type 0 where
    pub month : k < length cuts
    pub same : length now ≡ length cells
    pub long : length schedule ≡ length was
    pub inside : InTable y.figures at
    pub stood : Stood y prices cuts now k
    pub beyond : Untouched (y.work + y.room) cells now
    pub few : tries ≤ cut_at cuts k * (most_blocks + 1)
    pub done : (g : Generator) (months : List Month) → YearOf g y cuts months
        → (year_value g y.figures months (quarters_in y.hours prices) from ≡ None → ⊥) → Done g months schedule at tries k

  pub at_first : Partway cells was from 0 0
  at_first =
      let first = asked.year.months.first in
      record {
        month = omega (arith, asked.year.months.some);
        same = refl;
        long = refl;
        inside = asked.here;
        stood = asked.stood;
        beyond = λ j out. refl;
        few = omega arith;
        done = λ g months of some.
            record {
              behind = [];
              long = sym first;
              whole = rw first;
              written = rw first;
              tried = refl;
              some = rw first some;
            };
      }

  -- for as many cells
  year-of : (now : List ℤ) → length now ≡ length cells → ChainAsked y (length now) prices cuts
  year-of now same =
      subst (λ (n : ℕ). ChainAsked y n prices cuts) (sym same)
      (record {
        year = asked.year;
        worth = worth_at asked.generator y prices cuts asked.months asked.of;
        worths = worths asked.generator y prices cuts asked.months asked.of;
      })

  module _ (now : List ℤ) (schedule : List ℕ) (at : Cell) (tries k : ℕ) (p : Partway now schedule at tries k) (h : k + 1 < length cuts) where
    pub next-asked : NextAsked y now prices cuts k at (length schedule)
    next-asked =
        record {
          chain =
              record {
                year = (year-of now p.same).year;
                worth = worth_at asked.generator y prices cuts asked.months asked.of;
                worths = worths asked.generator y prices cuts asked.months asked.of;
              };
          month = h;
          stood = p.stood;
          here = p.inside;
          some = (p.done asked.generator asked.months asked.of asked.some).some;
          long = omega (arith, asked.long, p.long);
        }

    module _ (after : List ℤ) (written : List ℕ) (r : Reached) (planned : MonthPlanned y prices cuts k at schedule written r) where
      -- the month's plan of any year that these cuts and caps are
      by : (g : Generator) (months : List Month) (of : YearOf g y cuts months)
          → (year_value g y.figures months (quarters_in y.hours prices) from ≡ None → ⊥)
          → MonthBy y prices cuts k at (worth_at g y prices cuts months of) schedule written r
      by g months of some = planned (worth_at g y prices cuts months of) (worths g y prices cuts months of) (p.done g months of some).some

      abbrev own : MonthBy y prices cuts k at (worth_at asked.generator y prices cuts asked.months asked.of) schedule written r
      own = by asked.generator asked.months asked.of asked.some

      pub few-tries : tries + r.tries ≤ cut_at cuts (k + 1) * (most_blocks + 1)
      few-tries =
          let rise = asked.year.months.rising k h in
          let sum : cut_at cuts k + (cut_at cuts (k + 1) - cut_at cuts k) ≡ cut_at cuts (k + 1) = omega (arith, rise) in
          rw (← sum) (omega (arith, p.few, own.few))

      done_next : (g : Generator) (months : List Month) → YearOf g y cuts months
          → (year_value g y.figures months (quarters_in y.hours prices) from ≡ None → ⊥) → Done g months written r.cell (tries + r.tries) (k + 1)
      done_next g months of some =
          let d = p.done g months of some in
          let m = by g months of some in
          let outputs-long : length m.outputs ≡ cut_at cuts (k + 1) - cut_at cuts k =
          walk-length Cell Quarter (in_quarter (cell_step y.figures)) (quarters_at y prices cuts k) _ m.outputs m.earned m.end m.leads
          ∙ month-long y (length cells) prices cuts asked.year k h in
          record {
            behind = d.behind ++ m.outputs;
            long = omega (arith, length-append d.behind m.outputs, d.long, outputs-long, asked.year.months.rising k h);
            whole =
                d.whole
                ∙ ap (λ (xs : List ℕ). d.behind ++ xs) (schedule-stepped g y prices cuts months of k h at p.inside schedule written r m)
                ∙ sym (append_assoc d.behind m.outputs _);
            written =
                m.written
                ∙ ap₂ (λ (xs ys : List ℕ). xs ++ (m.outputs ++ ys)) (front-was d.behind d.long d.written)
                (back-was d.behind d.long d.written)
                ∙ sym (append_assoc d.behind m.outputs (drop (cut_at cuts (k + 1)) was));
            tried =
                ap₂ (λ (a b : ℕ). a + b) d.tried m.tried ∙ sym (tries-append y.figures.block y.figures.pmin d.behind m.outputs);
            some = λ none. no-earning (sym none ∙ m.later);
          }
        where
          front-was : (behind : List ℕ) → length behind ≡ cut_at cuts k → schedule ≡ behind ++ drop (cut_at cuts k) was
              → take (cut_at cuts k) schedule ≡ behind
          front-was behind long e =
              ap₂ (λ (n : ℕ) (xs : List ℕ). take n xs) (sym long) e ∙ take-append_seam behind (drop (cut_at cuts k) was)

          back-was : (behind : List ℕ) → length behind ≡ cut_at cuts k → schedule ≡ behind ++ drop (cut_at cuts k) was
              → drop (cut_at cuts (k + 1)) schedule ≡ drop (cut_at cuts (k + 1)) was
          back-was behind long e =
              let rise = asked.year.months.rising k h in
              let n : cut_at cuts (k + 1) ≡ length behind + (cut_at cuts (k + 1) - cut_at cuts k) = omega (arith, rise, long) in
              let j : cut_at cuts k + (cut_at cuts (k + 1) - cut_at cuts k) ≡ cut_at cuts (k + 1) = omega (arith, rise) in
              ap₂ (λ (i : ℕ) (xs : List ℕ). drop i xs) n e
              ∙ drop-append-add behind (drop (cut_at cuts k) was) (cut_at cuts (k + 1) - cut_at cuts k)
              ∙ drop-drop (cut_at cuts (k + 1) - cut_at cuts k) (cut_at cuts k) was
              ∙ ap (λ (i : ℕ). drop i was) j

      pub month-on : length after ≡ length now → length written ≡ length schedule → Kept y prices cuts k now after
          → Partway after written r.cell (tries + r.tries) (k + 1)
      month-on same long kept =
          record {
            month = h;
            same = same ∙ p.same;
            long = long ∙ p.long;
            inside = own.inside;
            stood = λ all j low high. kept.stood p.stood all j (omega arith) high;
            beyond = λ j out. kept.beyond j out ∙ p.beyond j out;
            few = few-tries;
            done = done_next;
          }

  pub at_last : (now : List ℤ) (schedule : List ℕ) (at : Cell) (tries k : ℕ) → Partway now schedule at tries k → k + 1 ≡ length cuts
      → Planned y prices cuts from was schedule tries
  unfolding year_plan
  at_last now schedule at tries k p e g months of some =
      let d = p.done g months of some in
      let all : drop k months ≡ [] =
      let n : k ≡ length months = omega (arith, of.long) in
      ap (λ (j : ℕ). drop j months) n ∙ drop-length months in
      let end : cut_at cuts k ≡ length prices =
      let n : k ≡ length cuts - 1 = omega (arith, e) in
      ap (cut_at cuts) n ∙ asked.year.months.last in
      let none : schedule_of (year_plan g y.figures (drop k months) (drop (cut_at cuts k) (quarters_in y.hours prices)) at) ≡ [] =
      ap (λ (ms : List Month). schedule_of (year_plan g y.figures ms (drop (cut_at cuts k) (quarters_in y.hours prices)) at)) all in
      let whole : d.behind ≡ schedule_of (year_plan g y.figures months (quarters_in y.hours prices) from) =
      sym (d.whole ∙ ap (λ (xs : List ℕ). d.behind ++ xs) none ∙ append-nil d.behind) in
      record {
        written = d.written ∙ ap₂ (λ (xs : List ℕ) (n : ℕ). xs ++ drop n was) whole end;
        tried = d.tried ∙ ap (tries_over y.figures.block y.figures.pmin) whole;
      }
