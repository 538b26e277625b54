-- The counts first; then both lists, entry by entry.
use mathlib.Core.Path.{◌≡◌, ap₂}
use mathlib.Core.Bool.{true, false, ◌&&◌}
use lib.ListN.{length}
use borrow.Author.Rules.{rules}
use borrow.Author.Tests.{not-true, not-false}
use Rattle.costs.specs.Ranges.{count_kept, segments_kept}
use Rattle.costs.proofs.segments_kept.Statement.{statement}
use Rattle.costs.proofs.segments_kept.Tie as tie

returns : tie.Need-returns-then-not-mws-heats
unfolding segments_kept
returns c =
    let a = c.before.before.before.args in
    let e : count_kept (length a.mws.now) && count_kept (length a.heats.now) ≡ false = not-true _ c.if-not-mws-heats.true-raw in
    simp e

returns-2 : tie.Need-returns
unfolding segments_kept
returns-2 c =
    let a = c.before.before.before.before.before.args in
    let e : count_kept (length a.mws.now) && count_kept (length a.heats.now) ≡ true = not-false _ c.before.before.if-not-mws-heats.false-raw in
    simp e (ap₂ ◌&&◌ c.before.every_one_to.ensures c.every_one_to-2.ensures)

pub segments_kept_spec : {M : Type 1} → statement M
segments_kept_spec = tie.close (tie.spec returns (λ c κs. search rules) (λ c κs. search rules) returns-2)
