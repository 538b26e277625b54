-- `nth` over the lines.
use Rattle.std.proofs.Common.{◌∙◌, ap, refl}
use denote.Ref.{Bor}
use mathlib.Core.List.{List}
use Prim.Native.Nat.{ℕ}
use Rattle.std.proofs.lemmas.Iterator.Consumers.{nth_from_yields_List}
use Rattle.tabletext.specs.Pieces.{lines_of}
use Rattle.tabletext.proofs.Chains.{gives_lines}
use Rattle.casetext.proofs.Ends.{nth_or}
use Rattle.casetext.proofs.parts.line.Goals as goal

pub returns : goal.returns
returns c =
    ap (λ (line : Bor (List ℕ)). line.now) c.unwrap_or.ensures
    ∙ nth_or c.nth.result _ refl (lines_of c.args.text.now) c.args.number
    (nth_from_yields_List c.nth.result c.nth.new.self c.args.number c.nth.ensures.ran (gives_lines c.of.result c.of.ensures))
