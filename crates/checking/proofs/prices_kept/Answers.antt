use Rattle.std.proofs.Common.{rules, refl, pos}
use Rattle.std.proofs.lemmas.List.Recursion.{and_is}
use Rattle.lists.specs.Every.{every}
use Rattle.commitment.specs.Ranges.{price_kept, prices_kept}
use Rattle.checking.proofs.prices_kept.Goals as goal

pub returns : goal.returns
unfolding prices_kept
returns c = and_is (every price_kept) price_kept refl (λ _ _. refl) c.args.prices.now (pos 0) _ (search rules) (search rules)
