-- A cut gives the first field, and leaves the others.
use Rattle.std.proofs.Common.{◌∙◌, ap, length, arith}
use Rattle.tabletext.specs.Places.{fields_of_rest}
use Rattle.tabletext.proofs.Cuts.{cut_field}
use Rattle.tabletext.proofs.walking.FieldsIterator.next.Goals as goal

first : goal.returns-clause-steps
first c = ap fields_of_rest c.in_ok-self.was ∙ cut_field c.in_ok-self.field-0.now c.cut.result.0.now c.cut.result.1 c.cut.ensures

pub returns-clause-steps : goal.returns-clause-steps
returns-clause-steps c = first c

pub returns-clause-goes : goal.returns-clause-goes
returns-clause-goes c = record { on = λ _. (tt, tt, omega (arith, ap length (first c))); keeps = tt; rests = λ _. tt }
