-- The next digit is one, and there are ten at most.
use Rattle.std.proofs.Common.{◌∙◌, sym, ap, arith}
use lib.ListN.{drop_of_length-le}
use Rattle.tabletext.specs.Values.{from_digits}
use Rattle.tabletext.proofs.Digits.{numeral-is, next-digit, all_digits}
use Rattle.tabletext.proofs.values.from_digits.Goals as goal

pub overflow_mul-n : goal.overflow_mul-n
overflow_mul-n c =
    let d = next-digit c.args.s.now c.loop-b.n c.loop-b.b-index c.requires c.loop-b-test.true c.loop-b.invariant.small in
    omega (arith, d.small)

pub overflow_sub-b : goal.overflow_sub-b
overflow_sub-b c = (next-digit c.args.s.now c.loop-b.n c.loop-b.b-index c.requires c.loop-b-test.true c.loop-b.invariant.small).least

pub overflow_add-n : goal.overflow_add-n
overflow_add-n c =
    let d = next-digit c.args.s.now c.loop-b.n c.loop-b.b-index c.requires c.loop-b-test.true c.loop-b.invariant.small in
    omega (arith, d.small, d.most, c.from.ensures)

pub loop-b-preserved : goal.loop-b-preserved
loop-b-preserved c =
    let d = next-digit c.args.s.now c.loop-b.n c.loop-b.b-index c.requires c.loop-b-test.true c.loop-b.invariant.small in
    rw c.from.ensures (record { small = d.next; left = sym d.on ∙ c.loop-b.invariant.left })

pub returns : goal.returns
returns c =
    let s = c.args.s.now in
    let n = c.loop-b.n in
    let i = c.loop-b.b-index in
    let most = (numeral-is s c.requires).most in
    (ap (from_digits n) (sym (drop_of_length-le s {i = i} (omega arith))) ∙ c.loop-b.invariant.left, all_digits n i (omega (arith, most)) c.loop-b.invariant.small)
