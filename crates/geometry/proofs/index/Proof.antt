-- Every step of the number is at most the width.
use Prim.Native.Nat.{◌+◌, ◌*◌, ◌<◌, ◌^◌}
use native.Mathlib.Nat.{lt_of_le_of_lt}
use native.Mathlib.Omega.{arith}
use lib.Dec.{lit<}
use borrow.Author.Rules.{rules}
use Rattle.geometry.specs.Geometry.{row, span, section, width, index}
use Rattle.geometry.proofs.Places.{index-lt}
use Rattle.geometry.proofs.Sizes.{width-most}
use Rattle.geometry.proofs.index.Statement.{statement}
use Rattle.geometry.proofs.index.Tie as tie

-- the sum that is taken, by the sizes as the definition has them
small : (c : tie.Start) →
    let f = c.args.f in
    let x = c.args.c in
    x.state * section f + (x.left.starts * span f + (x.left.ons * row f + x.left.blocks)) < 2 ^ 64
unfolding index
small c =
    let wide : width c.args.f < 2 ^ 64 = lt_of_le_of_lt (width-most c.args.f c.requires.0) (lit< tt) in
    omega (arith, index-lt c.args.f c.args.c c.requires.1)

mul-result : tie.Need-overflow_mul-result
mul-result c =
    let o = c.before in
    let k = small o.before.before.before in
    rw o.section_cells-section.ensures (omega arith)

mul-result-2 : tie.Need-overflow_mul-result-2
mul-result-2 c =
    let o = c.before.before in
    let k = small o.before.before.before in
    rw o.before.span_cells-span.ensures (omega arith)

mul-result-3 : tie.Need-overflow_mul-result-3
mul-result-3 c =
    let o = c.before.before.before in
    let k = small o.before.before.before in
    rw o.before.before.row_cells-row.ensures (omega arith)

add-result : tie.Need-overflow_add-result
add-result c =
    let o = c.before.before.before.before in
    let k = small o.before.before.before in
    rw o.before.before.row_cells-row.ensures (omega arith)

add-result-2 : tie.Need-overflow_add-result-2
add-result-2 c =
    let o = c.before.before.before.before in
    let k = small o.before.before.before in
    rw (o.before.before.row_cells-row.ensures, o.before.span_cells-span.ensures) (omega arith)

add-result-3 : tie.Need-overflow_add-result-3
add-result-3 c =
    let o = c.before.before.before.before in
    let k = small o.before.before.before in
    rw (o.before.before.row_cells-row.ensures, o.before.span_cells-span.ensures, o.section_cells-section.ensures) (omega arith)

returns : tie.Need-returns
unfolding index
returns c =
    let o = c.before.before.before.before in
    rw (o.before.before.row_cells-row.ensures, o.before.span_cells-span.ensures, o.section_cells-section.ensures)

pub index_spec : {M : Type 1} → statement M
index_spec =
    tie.close
    (tie.spec (λ c κs. search rules) (λ c κs. search rules) (λ c κs. search rules) mul-result mul-result-2 mul-result-3 add-result
    add-result-2 add-result-3 returns)
