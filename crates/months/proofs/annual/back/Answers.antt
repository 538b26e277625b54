use Rattle.std.proofs.Common.{◌≡◌, ◌+◌, ◌-◌, arith}
use Rattle.months.proofs.Standing.{chained-next}
use Rattle.months.proofs.annual.back.Goals as goal

pub loop-k-preserved : goal.loop-k-preserved
loop-k-preserved c =
    let a = c.args in
    let l = c.loop-k in
    let e : l.k ≡ l.k - 1 + 1 = omega arith in
    record {
      left = omega arith;
      chained = λ asked.
          chained-next a.y a.cells.now a.prices.now a.cuts.now asked l.cells l.auto.cells (l.k - 1) (omega (arith, asked.year.months.some))
          (rw e at (l.invariant.chained asked)) c.earlier.new.cells c.earlier.ensures;
    }
