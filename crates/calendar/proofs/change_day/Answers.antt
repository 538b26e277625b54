-- An even number is that of a spring, an odd one that of a fall.
use Rattle.std.proofs.Common.{◌∙◌, ◌%◌}
use borrow.Author.Tests.{eq-eqb, ne_eqb}
use Rattle.calendar.specs.Clock.{change_day}
use Rattle.calendar.proofs.change_day.Goals as goal

pub returns-then-before-eq0 : goal.returns-then-before-eq0
unfolding change_day
returns-then-before-eq0 c = c.spring_day.ensures ∙ simp (eq-eqb (c.args.before % 2) 0 c.if-before-eq0.true)

pub returns : goal.returns
unfolding change_day
returns c = c.fall_day.ensures ∙ simp (ne_eqb (c.args.before % 2) 0 c.if-before-eq0.false)
