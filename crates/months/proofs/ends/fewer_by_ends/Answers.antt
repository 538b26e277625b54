use Rattle.std.proofs.Common.{◌+◌, ◌-◌, ◌*◌, ◌≤◌, arith}
use native.Mathlib.Nat.{mul-le-mul}
use Rattle.commitment.specs.Bounds.{most_time, most_intervals}
use Rattle.geometry.proofs.Sizes.{width-most}
use Rattle.months.proofs.ends.fewer_by_ends.Goals as goal

pub overflow_add-all-2 : goal.overflow_add-all-2
overflow_add-all-2 c =
    let a = c.args in
    let states : a.f.mot + a.f.mdt ≤ most_time + most_time = omega (arith, c.requires.0.mot-most, c.requires.0.mdt-most) in
    let long : a.m.to - a.m.from ≤ most_intervals = omega (arith, c.requires.3) in
    let rolled : (a.f.mot + a.f.mdt) * (a.m.to - a.m.from) ≤ (most_time + most_time) * most_intervals = mul-le-mul states long in
    omega (arith, rolled, c.layer_cells.ensures, width-most a.f c.requires.0)
