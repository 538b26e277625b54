-- What `commitment::margin` says at so many blocks, less the cost; both stay far inside an i64.
use Rattle.std.proofs.Common.{◌≡◌, ◌∙◌, pos, to_z, of_z, w64}
use lib.Dec.{lit<}
use Rattle.integers.proofs.Ranges.{within-fits, plain, plain_fits}
use Rattle.optimality.specs.Cells.{gain}
use Rattle.intervals.proofs.Turning.{net-within}
use Rattle.intervals.proofs.steps.net.Goals as goal

brings : (c : goal.After-signed) → to_z w64 (of_z w64 c.margin-brings.result) ≡ gain c.args.f c.args.price c.args.k
brings c = plain_fits (record { sfits = c.margin-brings.type_inv }) ∙ (rw (plain_fits c.ranges.price) at c.margin-brings.ensures)

paid : (c : goal.After-signed) → to_z w64 (of_z w64 c.signed.result) ≡ pos c.args.pays
paid c = plain_fits (record { sfits = c.signed.type_inv }) ∙ c.signed.ensures

pub overflow_sub-result : goal.overflow_sub-result
overflow_sub-result c =
    let a = c.args in
    let r = c.requires in
    rw (brings c, paid c) (within-fits (net-within a.f r.0.sound a.price r.0.priced a.pays a.k r.1 r.2) (lit< tt))

pub returns : goal.returns
returns c =
    let a = c.args in
    let r = c.requires in
    rw (brings c, paid c) (plain (net-within a.f r.0.sound a.price r.0.priced a.pays a.k r.1 r.2) (lit< tt))
