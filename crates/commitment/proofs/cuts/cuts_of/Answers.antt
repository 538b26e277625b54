-- A horizon has no more than thirteen months.
use Rattle.std.proofs.Common.{rules, ◌≡◌, ◌≤◌, ◌-◌}
use mathlib.Core.Path.{refl, ◌∙◌}
use native.Mathlib.Omega.{arith}
use borrow.Author.Count.{below_more}
use lib.ListN.{length-set}
use lib.Seq.{get_or-set_same, get_or-set_other}
use Rattle.calendar.specs.Months.{most_months}
use Rattle.calendar.proofs.Months.{months-few}
use Rattle.commitment.proofs.Cutting.{cuts_are}
use Rattle.commitment.proofs.cuts.cuts_of.Goals as goal

few : (c : goal.After-month_of-count) → c.month_of-count.result ≤ most_months
few c =
    omega (arith, c.month_of-count.ensures, months-few c.args.date c.requires.0.there c.requires.0.since (c.args.intervals - 1) (omega (arith, c.requires.2)))

pub overflow_add-k-end : goal.overflow_add-k-end
overflow_add-k-end c = search (rules, few c)

pub loop-k-init : goal.loop-k-init
loop-k-init c = (refl, few c, λ j h. absurd (omega arith))

pub month_ends-requires : goal.month_ends-requires
month_ends-requires c = (c.requires.0, omega (arith, c.loop-k.invariant.1, c.loop-k-test.true))

pub bounds-at-k : goal.bounds-at-k
bounds-at-k c = omega (arith, c.loop-k.invariant.1, c.loop-k-test.true)

pub loop-k-preserved : goal.loop-k-preserved
loop-k-preserved c =
    let l = c.loop-k in
    let v = c.month_ends.result in (
      length-set l.at l.k v ∙ l.invariant.0,
      l.invariant.1,
      below_more _ l.k (λ j h. get_or-set_other l.at l.k j v 0 (λ e. omega arith) ∙ l.invariant.2 j h)
          (get_or-set_same l.at l.k v 0 (omega (arith, l.invariant.0, l.invariant.1, c.loop-k-test.true)) ∙ c.month_ends.ensures),
    )

pub returns : goal.returns
returns c =
    let l = c.loop-k in
    cuts_are c.args.date c.requires.0 c.args.intervals c.requires.1 l.at
    (λ k h. l.invariant.2 k (omega (arith, c.month_of-count.ensures, c.loop-k-test.false)))
    c.month_of-count.result c.month_of-count.ensures c.requires.2
