-- The counts first; then both lists, entry by entry.
use mathlib.Core.Path.{◌≡◌, sym, ap₂, ◌∙◌}
use mathlib.Core.Bool.{◌&&◌}
use lib.ListN.{length}
use borrow.Author.Rules.{rules}
use borrow.Author.Tests.{not-true, not-false}
use Rattle.curves.specs.Ranges.{count_kept, points_kept}
use Rattle.curves.proofs.points_kept.Statement.{statement}
use Rattle.curves.proofs.points_kept.Tie as tie

counts :
    (c : tie.After-count_kept-2) →
    (count_kept (length c.before.before.before.before.args.levels.now)
    && count_kept (length c.before.before.before.before.args.rates.now))
    ≡ (c.before.count_kept.result && c.count_kept-2.result)
counts c = sym (ap₂ ◌&&◌ c.before.count_kept.ensures c.count_kept-2.ensures)

returns : tie.Need-returns-then-not-count_kept
unfolding points_kept
returns c = simp (counts c.before ∙ not-true _ c.if-not-count_kept.true-raw)

returns-2 : tie.Need-returns
unfolding points_kept
returns-2 c =
    simp (counts c.before.before.before ∙ not-false _ c.before.before.if-not-count_kept.false-raw)
    (ap₂ ◌&&◌ c.before.every_one_to.ensures c.every_one_to-2.ensures)

pub points_kept_spec : {M : Type 1} → statement M
points_kept_spec =
    tie.close
    (tie.spec
    (λ c κs. search rules)
    (λ c κs. search rules)
    returns
    (λ c κs. search rules)
    (λ c κs. search rules)
    returns-2)
