-- Above 0, the gap between two runs, whose profits leave room for it.
use Rattle.std.specs.Prelude.{Some}
use Rattle.std.proofs.Common.{◌-◌, arith}
use Rattle.commitment.specs.Limits.{limit_for, with_limit}
use Rattle.optimality.proofs.Opening.{at-most-less, under_one}
use Rattle.valuation.proofs.Telling.{run_small}
use Rattle.valuation.proofs.Runs.pair.Goals as goal

pub gap_between-requires : goal.gap_between-requires
gap_between-requires c =
    let r = c.args.self.now in
    let limits = r.unit.limits in
    let which = c.args.which in
    let n = c.args.figure in
    let less = at-most-less (n - 1) n (limit_for limits which) (omega arith) c.requires in
    let small = run_small r.unit r.prices.now r.cells.now r.told.0 in (
      rw c.profit-first.ensures (small (with_limit limits which (Some n)) (under_one limits which (Some n) c.requires)),
      rw c.profit-lower.ensures (small (with_limit limits which (Some (n - 1))) (under_one limits which (Some (n - 1)) less)),
    )
