use Rattle.std.proofs.Common.{rules, refl}
use Rattle.std.proofs.lemmas.List.Recursion.{and_is}
use Rattle.lists.specs.Every.{every}
use Rattle.costs.specs.Ranges.{one_to}
use Rattle.costs.proofs.every_one_to.Goals as goal

pub returns : goal.returns
returns c = and_is (every (one_to c.args.most)) (one_to c.args.most) refl (λ _ _. refl) c.args.list.now 0 _ (search rules) (search rules)
