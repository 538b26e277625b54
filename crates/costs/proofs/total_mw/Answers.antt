use Rattle.std.proofs.Common.{rules, refl}
use Rattle.std.proofs.lemmas.List.Recursion.{is_sum_by}
use Rattle.std.proofs.iter.runs.Made.{chains}
use Rattle.costs.specs.Figures.{total_mw}
use Rattle.costs.proofs.total_mw.Goals as goal

pub sum-requires-clause-fits : goal.sum-requires-clause-fits
sum-requires-clause-fits c = search (rules, chains, is_sum_by total_mw (λ x. x) refl (λ _ _. refl))

pub returns : goal.returns
returns c = search (rules, chains, is_sum_by total_mw (λ x. x) refl (λ _ _. refl))
