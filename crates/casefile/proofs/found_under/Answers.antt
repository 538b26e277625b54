-- By the check of the record and the prices that the text holds.
use Rattle.std.specs.Prelude.{ℕ, List, Bool, Ok, Err}
use Rattle.std.proofs.Common.{rules, ◌≡◌, sym, ap, ap₂, ◌∙◌, length}
use Rattle.commitment.specs.Types.{Checked}
use Rattle.commitment.specs.declared.UnitRecord.{UnitRecord}
use Rattle.commitment.specs.Ranges.{case_checked, prices_kept}
use Rattle.casefile.specs.Answers.{read_by}
use Rattle.casefile.specs.Types.{case_with}
use Rattle.casefile.specs.Reading.{unit_in, prices_in, case_in}
use Rattle.casefile.proofs.found_under.Goals as goal

-- what the text holds, by what the check came to
held : (text : List ℕ) (u : UnitRecord) (priced : Bool) (count : ℕ) {found k : Checked} → u ≡ unit_in text → priced ≡ prices_kept (prices_in text)
    → count ≡ length (prices_in text) → found ≡ case_checked u priced count → found ≡ k
    → read_by k u count ≡ read_by (case_in text) (unit_in text) (length (prices_in text))
unfolding case_in
held text u priced count unit-is priced-is count-is checked e = rw (sym e, checked, unit-is, priced-is, count-is)

pub returns-in_err-check_case : goal.returns-in_err-check_case
returns-in_err-check_case c =
    rw (sym (held c.args.text.now _ _ _ c.unit_in-unit.ensures c.prices_kept-priced.ensures c.prices_counted-count.ensures c.check_case.ensures
    c.in_err-check_case.was)) (search rules)

pub returns : goal.returns
returns c =
    held c.args.text.now _ _ _ c.unit_in-unit.ensures c.prices_kept-priced.ensures c.prices_counted-count.ensures c.check_case.ensures
    c.in_ok-check_case.was
