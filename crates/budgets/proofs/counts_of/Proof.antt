-- Each count by its own call.
use mathlib.Core.Path.{◌≡◌}
use mathlib.Core.Bool.{true}
use Prim.Native.Nat.{◌≤◌}
use Rattle.commitment.specs.declared.Limitation.{Limitation}
use Rattle.commitment.specs.declared.Limitation.TheVariants.{Starts, Hours, Mwh}
use Rattle.commitment.specs.Bounds.{most_mwh, most_intervals}
use Rattle.commitment.specs.Limits.{limit_kept, limit_for}
use Rattle.commitment.specs.Ranges.{generator_kept}
use Rattle.commitment.proofs.Ranges.{generator-kept, limit-small}
use Rattle.budgets.proofs.counts_of.Statement.{statement}
use Rattle.budgets.proofs.counts_of.Tie as tie

-- what is asked of each count
asked : (c : tie.Start) (which : Limitation) →
    (generator_kept c.args.unit.generator ≡ true) × (c.args.n ≤ most_intervals) × (limit_kept most_mwh (limit_for c.args.unit.limits which) ≡ true)
asked c which = (generator-kept c.args.unit c.requires.ranges, c.requires.short, limit-small c.args.unit c.requires.ranges which)

counted-requires : tie.Need-counted-requires
counted-requires c κs = asked c.before.before Starts

counted-requires-2 : tie.Need-counted-requires-2
counted-requires-2 c κs = asked c.before.before.before Hours

counted-requires-3 : tie.Need-counted-requires-3
counted-requires-3 c κs = asked c.before.before.before.before Mwh

pub counts_of_spec : {M : Type 1} → statement M
counts_of_spec =
    tie.close
    (tie.spec counted-requires counted-requires-2 counted-requires-3 (λ c. cc))
