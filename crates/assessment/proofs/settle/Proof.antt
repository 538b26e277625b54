-- The totals are within the limitations, or the schedule is refused.
use mathlib.Core.Path.{◌≡◌, sym, ◌∙◌}
use mir.Syntax.{w64}
use mir.Val.{SFits}
use Rattle.integers.proofs.Ranges.{plain_fits}
use Rattle.commitment.proofs.Ranges.{limit-small}
use Rattle.assessment.proofs.settle.Statement.{statement}
use Rattle.assessment.proofs.settle.Tie as tie

spent-within-requires : tie.Need-spent_within-requires
spent-within-requires c κs = let s = c.before in limit-small s.args.unit s.requires

returns : tie.Need-returns-then-spent_within
returns c =
    let within = c.before.before in
    let s = within.before.before in
    let fits : SFits w64 s.args.at.profit = record { sfits = c.struct_told-1.given.1.1.1.1.1.0.1 } in
    simp (sym within.spent_within.ensures ∙ c.before.if-spent_within.true, plain_fits fits)

returns-2 : tie.Need-returns
returns-2 c = simp (sym c.before.spent_within.ensures ∙ c.if-spent_within.false)

pub settle_spec : {M : Type 1} → statement M
settle_spec = tie.close (tie.spec spent-within-requires returns returns-2)
