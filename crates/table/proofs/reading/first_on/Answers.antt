-- One output reaches the best, so that the highest does where none below it does.
use Rattle.std.proofs.Common.{◌≡◌, refl, sym, ◌∙◌, ℕ, ℤ, List, ◌+◌, ◌-◌, ◌*◌, ◌≤◌, ◌<◌, Bool, true, false, arith}
use mathlib.Core.Bool.{true≢false}
use mathlib.Core.Logic.{⊎_elim}
use borrow.Author.Tests.{ltb-true, ltb-false}
use lib.Dec.{ltb}
use Rattle.integers.proofs.Ranges.{plain_fits}
use Rattle.commitment.proofs.Tries.{tries-on}
use Rattle.optimality.specs.declared.Figures.{Figures}
use Rattle.optimality.specs.declared.Cell.{Cell}
use Rattle.optimality.specs.Cells.{InTable, cell, after_on, start_takes, start_pays, may_run}
use Rattle.geometry.specs.Geometry.{width, index}
use Rattle.geometry.specs.Layers.{stored_at}
use Rattle.table.specs.Reading.{reaches_best, reaches_on, OnReaches}
use Rattle.geometry.proofs.Places.{index-along, index-lt}
use Rattle.intervals.proofs.Stretches.{last-or-before}
use Rattle.intervals.proofs.Turning.{pays-most, pmax-most, runs}
use Rattle.table.proofs.Choosing.{first-at}
use Rattle.table.proofs.reading.first_on.Goals as goal

module _ (f : Figures) (c : Cell) (here : InTable f c) (may : may_run f c ≡ true) where
  -- the cell of the row with i blocks left stands i places into the row
  abbrev number : ℕ → ℕ
  number i = index f (cell (after_on f c.state) (c.left.starts - start_takes f c.state) (c.left.ons - f.takes.ons) i)

  stands : (i : ℕ) → i ≤ c.left.blocks → (number i ≡ number 0 + i) × (number 0 + i < width f)
  stands i h =
      let e = index-along f (after_on f c.state) (c.left.starts - start_takes f c.state) (c.left.ons - f.takes.ons) i in
      let there =
      index-lt f (cell (after_on f c.state) (c.left.starts - start_takes f c.state) (c.left.ons - f.takes.ons) i)
      (record {
        state = (runs f c may).leads;
        left = record { starts = omega (arith, here.left.starts); ons = omega (arith, here.left.ons); blocks = omega (arith, here.left.blocks) };
      }) in
      (e, omega (arith, e, there))

  -- the test of an output, as `first_on` has it
  met-is : (cells : List ℤ) (at row pays : ℕ) (price best : ℤ) → row ≡ number 0 → pays ≡ start_pays f c.state → (j : ℕ)
      → reaches_on f (stored_at f cells at) c price best j
      ≡ reaches_best f cells (record { at = at + row; blocks = c.left.blocks }) price pays best j
  met-is cells at row pays price best row-is pays-is j =
      let i = c.left.blocks - j * f.takes.blocks in
      let p : at + row + i ≡ at + number i = omega (arith, row-is, (stands i (omega arith)).0) in
      rw (pays-is, p)

-- where none below the highest reaches it, the highest does
highest : (f : Figures) (stored : Cell → ℤ) (c : Cell) (price best : ℤ) → OnReaches f stored c price best
    → ((j : ℕ) → f.pmin ≤ j → j < f.pmax → reaches_on f stored c price best j ≡ false) → reaches_on f stored c price best f.pmax ≡ true
highest f stored c price best on passed = by (ltb on.at f.pmax) refl
  where
    by : (t : Bool) → ltb on.at f.pmax ≡ t → reaches_on f stored c price best f.pmax ≡ true
    by true e = absurd (true≢false (sym on.meets ∙ passed on.at on.low (ltb-true on.at f.pmax e)))
    by false e = let at : on.at ≡ f.pmax = omega (arith, on.high, ltb-false on.at f.pmax e) in rw at at on.meets

pub overflow_add-row : goal.overflow_add-row
overflow_add-row c =
    omega (arith, c.on_row.ensures, (stands c.args.f c.args.c c.requires.interval.1 c.requires.on_reaches.may 0 (omega arith)).1, c.requires.interval.2.fits)

pub reaches-requires : goal.reaches-requires
reaches-requires c =
    let a = c.args in
    let r = c.requires.interval in
    let may = c.requires.on_reaches.may in
    let e = c.on_row.ensures in (
      rw (plain_fits c.ranges.price) r.0,
      rw c.start_pays-pays.ensures (pays-most a.f r.0.sound a.c.state),
      omega (arith, c.loop-k-test.true),
      record {
        fits = omega (arith, e, (stands a.f a.c r.1 may a.c.left.blocks (omega arith)).1, r.2.fits);
        small = λ i h.
            let first = number a.f a.c r.1 may 0 in
            let p : a.at + (first + i) ≡ a.at + c.on_row.result + i = omega (arith, e) in
            rw p at (r.2.small (first + i) (stands a.f a.c r.1 may i (omega arith)).1);
      },
    )

-- it is the first that reaches the best, and was tried after off and the outputs below it
pub returns-then-reaches-clause-blocks_value : goal.returns-then-reaches-clause-blocks_value
returns-then-reaches-clause-blocks_value c =
    let a = c.args in
    let l = c.loop-k in
    let met =
    met-is a.f a.c c.requires.interval.1 c.requires.on_reaches.may a.scratch.now a.at c.on_row.result c.start_pays-pays.result a.price a.best
    c.on_row.ensures
    c.start_pays-pays.ensures in
    let tried = rw (plain_fits c.ranges.price, plain_fits c.ranges.best) at c.reaches.ensures in
    sym
    (first-at a.f (stored_at a.f a.scratch.now a.at) a.c a.price a.best l.k (omega arith) (omega (arith, c.loop-k-test.true))
    (λ j lo hi. met j ∙ (rw (plain_fits c.ranges.price, plain_fits c.ranges.best) at (l.invariant j lo hi))) (met l.k ∙ sym tried ∙ c.if-reaches.true))

pub returns-then-reaches-clause-tries_value : goal.returns-then-reaches-clause-tries_value
returns-then-reaches-clause-tries_value c =
    sym (tries-on c.args.f.pmin c.loop-k.k (omega (arith, c.requires.interval.0.sound.pmin)))

pub loop-k-preserved : goal.loop-k-preserved
loop-k-preserved c =
    let l = c.loop-k in
    λ j lo hi.
    ⊎_elim (λ (e : j ≡ l.k). rw e (sym c.reaches.ensures ∙ c.if-reaches.false)) (λ (h : j < l.k). l.invariant j lo h)
    (last-or-before j l.k (omega arith))

pub overflow_add-result-2 : goal.overflow_add-result-2
overflow_add-result-2 c = omega (arith, pmax-most c.args.f c.requires.interval.0.sound)

pub returns-clause-blocks_value : goal.returns-clause-blocks_value
returns-clause-blocks_value c =
    let a = c.args in
    let l = c.loop-k in
    let met =
    met-is a.f a.c c.requires.interval.1 c.requires.on_reaches.may a.scratch.now a.at c.on_row.result c.start_pays-pays.result a.price a.best
    c.on_row.ensures
    c.start_pays-pays.ensures in
    let stored = stored_at a.f a.scratch.now a.at in
    let passed : (j : ℕ) → a.f.pmin ≤ j → j < a.f.pmax → reaches_on a.f stored a.c a.price a.best j ≡ false =
    λ j lo hi. met j ∙ (rw (plain_fits c.ranges.price, plain_fits c.ranges.best) at (l.invariant j lo (omega (arith, c.loop-k-test.false)))) in
    sym
    (first-at a.f stored a.c a.price a.best a.f.pmax (omega (arith, c.requires.interval.0.sound.pmax)) (omega arith) passed
    (highest a.f stored a.c a.price a.best c.requires.on_reaches passed))
