-- `all` over the bytes.
use Rattle.std.proofs.Common.{◌∙◌, rules}
use borrow.Author.Tests.{tests}
use Rattle.std.proofs.lemmas.Iterator.{YieldsList-from_slice}
use Rattle.std.proofs.lemmas.Iterator.Search.{all_from_yields_List}
use Rattle.tabletext.specs.Bytes.{is_of}
use Rattle.tabletext.proofs.Chains.{all_every}
use Rattle.tabletext.proofs.bytes.all_of.Goals as goal

pub returns : goal.returns
returns c =
    all_from_yields_List (is_of c.args.class) _ _ _ c.all.ensures.ran (YieldsList-from_slice c.args.s.now cc) (λ x b q k. search (rules, tests))
    ∙ all_every (is_of c.args.class) c.args.s.now
