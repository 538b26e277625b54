-- There are at most 64 outputs, and 64 ^ 9 is 2 ^ 54.
use Rattle.std.proofs.Common.{◌^◌, ◌≤◌, arith}
use Rattle.std.proofs.Math.Nat.{pow-le-pow_left, pow-le-pow_right}
use Rattle.enumeration.specs.Lists.{room, most_outputs}
use Rattle.enumeration.proofs.enumerator.lists_of.Goals as goal

pub pow-requires : goal.pow-requires
pow-requires c =
    let n = c.intervals_of.result in
    let few : c.outputs_of.result ^ n ≤ most_outputs ^ n = pow-le-pow_left (omega arith) n in
    let short : most_outputs ^ n ≤ most_outputs ^ room = pow-le-pow_right {n = most_outputs} (omega arith) {i = n} {j = room} (omega arith) in
    omega (arith, few, short)
