-- The sum of the definition: at most a span and a row.
use mathlib.Core.Path.{◌≡◌, ap, ap₂}
use Prim.Native.Nat.{ℕ, ◌+◌, ◌-◌, ◌*◌, ◌≤◌, ◌<◌, ◌^◌}
use native.Mathlib.Nat.{mul-le-mul_right, one-mul, lt_of_le_of_lt}
use native.Mathlib.Omega.{arith}
use lib.Dec.{lit<}
use borrow.Author.Rules.{rules}
use Rattle.optimality.specs.Cells.{start_takes}
use Rattle.geometry.specs.Geometry.{row, span}
use Rattle.geometry.proofs.Sizes.{row-most, span-most}
use Rattle.marks.specs.Lines.{skipped_of}
use Rattle.marks.proofs.Leading.{takes_one}
use Rattle.marks.proofs.lines.skipped_before.Statement.{statement}
use Rattle.marks.proofs.lines.skipped_before.Tie as tie

small : (c : tie.Start) → skipped_of c.args.t.figures c.args.s c.args.x < 2 ^ 64
small c =
    let a = c.args in
    let f = a.t.figures in
    let ok = c.requires.interval.sound in
    let one = takes_one f ok a.s in
    let spans : (start_takes f a.s - a.x) * span f ≤ 1 * span f = mul-le-mul_right (span f) (omega (arith, one)) in
    let rows : f.takes.ons * row f ≤ 1 * row f = mul-le-mul_right (row f) ok.takes.ons in
    let few : span f < 2 ^ 63 = lt_of_le_of_lt (span-most f ok) (lit< tt) in
    let least : row f < 2 ^ 63 = lt_of_le_of_lt (row-most f ok) (lit< tt) in
    omega (arith, spans, rows, one-mul (span f), one-mul (row f), few, least)

-- what is added, by its parts
first : (c : tie.After-span_cells) →
    let had = c.before in
    let taken = had.before in
    let a = taken.before.before.args in
    let f = a.t.figures in
    (taken.start_takes-takes.result - had.smaller.result) * c.span_cells.result ≡ (start_takes f a.s - a.x) * span f
first c =
    let had = c.before in
    let taken = had.before in
    let a = taken.before.before.args in
    let lacks : taken.start_takes-takes.result - had.smaller.result ≡ start_takes a.t.figures a.s - a.x =
    omega (arith, had.smaller.ensures, taken.start_takes-takes.ensures) in
    ap₂ ◌*◌ lacks c.span_cells.ensures

second : (c : tie.After-struct_known-1) →
    let f = c.before.before.before.before.before.before.args.t.figures in
    f.takes.ons * c.before.row_cells.result ≡ f.takes.ons * row f
second c =
    let f = c.before.before.before.before.before.before.args.t.figures in
    ap (λ (n : ℕ). f.takes.ons * n) c.before.row_cells.ensures

abbrev start : tie.After-span_cells → tie.Start
start c = c.before.before.before.before

pub skipped_before_spec : {M : Type 1} → statement M
skipped_before_spec =
    tie.close
    (tie.spec (λ c κs. search rules) (λ c κs. search rules) (λ c. omega (arith, c.smaller.ensures))
    (λ c κs. c.before.before.before.requires.interval.sound)
    (λ c. omega (arith, first c, small (start c))) (λ c κs. (start c).requires.interval.sound)
    (λ c. omega (arith, second c, small (start c.before.before)))
    (λ c. omega (arith, first c.before.before, second c, small (start c.before.before)))
    (λ c. ap₂ ◌+◌ (first c.before.before) (second c)))
