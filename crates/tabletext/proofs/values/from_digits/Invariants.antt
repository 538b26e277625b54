-- Those before place i stand for n, and the others after n.
use Rattle.std.proofs.Common.{◌≡◌, ◌<◌, ◌^◌, drop}
use Rattle.tabletext.specs.Values.{from_digits}
use Rattle.tabletext.proofs.values.from_digits.Given as goal

abbrev pub invariant-loop-b : goal.invariant-loop-b
invariant-loop-b l = record { small : l.n < 10 ^ l.b-index; left : from_digits l.n (drop l.b-index l.s) ≡ from_digits 0 l.s }
