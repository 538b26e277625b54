use Rattle.std.proofs.Common.{◌≡◌, arith}
use Rattle.months.proofs.Shifting.{shifted-asked, shifted-brought}
use Rattle.months.proofs.ends.raise_all.Goals as goal

pub raise_spans-requires : goal.raise_spans-requires
raise_spans-requires c =
    let a = c.args in
    let none : a.f.most.blocks ≡ 0 = omega arith in
    rw (c.with_most.ensures, c.shifted.ensures, c.shifted_way.ensures) (shifted-asked a.f none a.at a.w a.cells.now c.requires)

pub returns : goal.returns
returns c =
    let a = c.args in
    let none : a.f.most.blocks ≡ 0 = omega arith in
    shifted-brought a.f none a.at a.w a.cells.now c.requires c.raise_spans.new.cells
    (rw (c.with_most.ensures, c.shifted.ensures, c.shifted_way.ensures) at c.raise_spans.ensures)
