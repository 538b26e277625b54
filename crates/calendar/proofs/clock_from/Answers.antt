-- The next three changes of time are numbered, and none of them is over; the clock is then the definition's, which follows the days.
use Rattle.std.proofs.Common.{◌≡◌, sym, ap₂, ◌∙◌, subst, ℕ, ◌+◌, ◌%◌, ◌≤◌, arith}
use borrow.Author.Tests.{eq-eqb, ne_eqb}
use Rattle.calendar.specs.declared.Date.{Date}
use Rattle.calendar.specs.declared.Clock.{Clock}
use Rattle.calendar.specs.Dates.{Within, day_number, last_year}
use Rattle.calendar.specs.Clock.{change_day, changes_before, most_changes, clock_by_changes, clock_from, Follows}
use Rattle.calendar.proofs.Changes.{between, changes-grow, changes-few}
use Rattle.calendar.proofs.Running.{follows}
use Rattle.calendar.proofs.clock_from.Goals as goal

module _ (d : Date) (r : Within last_year d) (number before : ℕ) (number-is : number ≡ day_number d) (before-is : before ≡ changes_before d) where
  numbered : before + 3 ≤ most_changes
  numbered = omega (arith, before-is, changes-few d, r.till)

  -- the next change, and any after it
  to-come : (j : ℕ) → before ≤ j → number ≤ change_day j
  to-come j h =
      omega (arith, number-is, (between d r.there r.since).ahead, changes-grow (changes_before d) j (omega (arith, before-is)))

  -- the definition's clock
  found : (clock : Clock) → clock ≡ clock_by_changes number before → Follows d clock
  unfolding clock_from
  found clock is = subst (Follows d) (sym (is ∙ ap₂ clock_by_changes number-is before-is)) (follows d r)

pub hours_to-first-requires : goal.hours_to-first-requires
hours_to-first-requires c =
    let before = c.changes_before-before.result in
    let number = c.day_number-number.result in (
      omega (arith, numbered c.args.date c.requires number before c.day_number-number.ensures.is c.changes_before-before.ensures),
      to-come c.args.date c.requires number before c.day_number-number.ensures.is c.changes_before-before.ensures _ (omega arith),
    )

pub overflow_add-before : goal.overflow_add-before
overflow_add-before c =
    omega (
      arith,
      numbered c.args.date c.requires c.day_number-number.result c.changes_before-before.result c.day_number-number.ensures.is
          c.changes_before-before.ensures,
    )

pub hours_to-second-requires : goal.hours_to-second-requires
hours_to-second-requires c =
    let before = c.changes_before-before.result in
    let number = c.day_number-number.result in (
      omega (arith, numbered c.args.date c.requires number before c.day_number-number.ensures.is c.changes_before-before.ensures),
      to-come c.args.date c.requires number before c.day_number-number.ensures.is c.changes_before-before.ensures _ (omega arith),
    )

pub overflow_add-before-2 : goal.overflow_add-before-2
overflow_add-before-2 c =
    omega (
      arith,
      numbered c.args.date c.requires c.day_number-number.result c.changes_before-before.result c.day_number-number.ensures.is
          c.changes_before-before.ensures,
    )

pub hours_to-third-requires : goal.hours_to-third-requires
hours_to-third-requires c =
    let before = c.changes_before-before.result in
    let number = c.day_number-number.result in (
      omega (arith, numbered c.args.date c.requires number before c.day_number-number.ensures.is c.changes_before-before.ensures),
      to-come c.args.date c.requires number before c.day_number-number.ensures.is c.changes_before-before.ensures _ (omega arith),
    )

pub returns-then-before-eq0 : goal.returns-then-before-eq0
returns-then-before-eq0 c =
    let even = eq-eqb (c.changes_before-before.result % 2) 0 c.if-before-eq0.true in
    found c.args.date c.requires c.day_number-number.result c.changes_before-before.result c.day_number-number.ensures.is c.changes_before-before.ensures
    _ (simp (c.hours_to-first.ensures, c.hours_to-second.ensures, c.hours_to-third.ensures, even))

pub returns : goal.returns
returns c =
    let odd = ne_eqb (c.changes_before-before.result % 2) 0 c.if-before-eq0.false in
    found c.args.date c.requires c.day_number-number.result c.changes_before-before.result c.day_number-number.ensures.is c.changes_before-before.ensures
    _ (simp (c.hours_to-first.ensures, c.hours_to-second.ensures, c.hours_to-third.ensures, odd))
