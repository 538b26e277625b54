use Rattle.std.proofs.Common.{◌≡◌, arith}
use Rattle.months.proofs.Shifting.{shifted-asked, shifted-brought}
use Rattle.months.proofs.ends.raise_spans.Goals as goal

pub raise_by-requires-2 : goal.raise_by-requires-2
raise_by-requires-2 c =
    let a = c.args in
    let none : a.f.most.blocks ≡ 0 = omega arith in
    rw (c.with_most.ensures, c.shifted.ensures, c.shifted_way.ensures) (shifted-asked a.f none a.at a.w a.cells.now c.requires)

pub returns : goal.returns
returns c =
    let a = c.args in
    let none : a.f.most.blocks ≡ 0 = omega arith in
    shifted-brought a.f none a.at a.w a.cells.now c.requires c.raise_by-2.new.cells
    (rw (c.with_most.ensures, c.shifted.ensures, c.shifted_way.ensures) at c.raise_by-2.ensures)
