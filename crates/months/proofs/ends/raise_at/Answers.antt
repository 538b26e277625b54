use Rattle.std.proofs.Common.{◌≡◌, arith, to_z, of_z, w64}
use lib.Dec.{lit<}
use Rattle.integers.proofs.Ranges.{within-abs, within-weaken, plain}
use Rattle.geometry.proofs.Places.{index-lt}
use Rattle.months.proofs.Bringing.{high-inside, low-inside, row-asked-at, row-brought-at}
use Rattle.months.proofs.ends.raise_at.Goals as goal
use Rattle.months.proofs.ends.raise_at.Goals.{After-index}

earned : (c : After-index) → to_z w64 (of_z w64 c.args.w.gain) ≡ c.args.w.gain
earned c = plain (within-weaken c.requires.0.gains (within-abs c.args.w.gain)) (lit< tt)

pub overflow_add-to : goal.overflow_add-to
overflow_add-to c =
    let a = c.args in
    let p = c.requires in
    omega (arith, p.0.here, c.index.ensures, index-lt a.f _ (high-inside a.f a.at a.w a.cells.now p.0 a.x a.y p.1 p.2 p.3 p.4))

pub overflow_add-from : goal.overflow_add-from
overflow_add-from c =
    let a = c.args in
    let p = c.requires in
    omega (arith, p.0.after, c.index-2.ensures, index-lt a.f _ (low-inside a.f a.at a.w a.cells.now p.0 a.x a.y p.1 p.2 p.3 p.4))

pub raise_row-requires : goal.raise_row-requires
raise_row-requires c =
    let a = c.args in
    let p = c.requires in
    row-asked-at a.f a.at a.w a.cells.now p.0 a.x a.y p.1 p.2 p.3 p.4 c.index.result c.index-2.result _
    c.index.ensures c.index-2.ensures (earned (goal.at.raise_row-requires c).After-index)

pub returns : goal.returns
returns c =
    let a = c.args in
    let p = c.requires in
    row-brought-at a.f a.at a.w a.cells.now p.0 a.x a.y p.1 p.2 p.3 p.4 c.index.result c.index-2.result _
    c.index.ensures c.index-2.ensures (earned (goal.at.returns c).After-index) c.raise_row.new.cells c.raise_row.ensures
