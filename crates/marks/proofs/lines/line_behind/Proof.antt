-- The sum of the definition, which stays below the width.
use mathlib.Core.Path.{◌≡◌, ap₂}
use Prim.Native.Nat.{◌+◌, ◌-◌, ◌*◌, ◌<◌, ◌^◌}
use native.Mathlib.Nat.{lt_of_le_of_lt}
use native.Mathlib.Omega.{arith}
use lib.Dec.{lit<}
use borrow.Author.Rules.{rules}
use Rattle.optimality.specs.Cells.{after_on, start_takes}
use Rattle.geometry.specs.Geometry.{span, section, width}
use Rattle.geometry.proofs.Sizes.{width-most}
use Rattle.marks.specs.Lines.{line_of}
use Rattle.marks.proofs.Leading.{line-fits}
use Rattle.marks.proofs.lines.line_behind.Statement.{statement}
use Rattle.marks.proofs.lines.line_behind.Tie as tie

small : (c : tie.Start) → line_of c.args.t.figures c.args.s c.args.x < 2 ^ 64
small c =
    let f = c.args.t.figures in
    let wide : width f < 2 ^ 64 = lt_of_le_of_lt (width-most f c.requires.0.interval.sound) (lit< tt) in
    omega (arith, wide, line-fits f c.args.s c.args.x c.requires.2 c.requires.3)

-- what is added, by its parts
parts : (c : tie.After-struct_known-1) →
    let led = c.before in
    let had = led.before in
    let spanned = had.before.before in
    let a = spanned.before.before.args in
    let f = a.t.figures in
    (led.after_on.result * a.t.section ≡ after_on f a.s * section f)
    × ((a.x - had.smaller.result) * spanned.span_cells-span.result ≡ (a.x - start_takes f a.s) * span f)
parts c =
    let led = c.before in
    let had = led.before in
    let taken = had.before in
    let spanned = taken.before in
    let o = spanned.before.before in
    let a = o.args in
    let less : a.x - had.smaller.result ≡ a.x - start_takes a.t.figures a.s =
    omega (arith, had.smaller.ensures, taken.start_takes.ensures) in
    (ap₂ ◌*◌ led.after_on.ensures o.requires.0.sections, ap₂ ◌*◌ less spanned.span_cells-span.ensures)

abbrev start : tie.After-struct_known-1 → tie.Start
start c = c.before.before.before.before.before.before

pub line_behind_spec : {M : Type 1} → statement M
line_behind_spec =
    tie.close
    (tie.spec (λ c κs. c.before.requires.0.interval.sound) (λ c κs. search rules) (λ c κs. search rules) (λ c. omega (arith, c.smaller.ensures))
    (λ c κs. let o = c.before.before.before.before in (o.requires.0.interval.sound, o.requires.1))
    (λ c. omega (arith, parts c, small (start c))) (λ c. omega (arith, parts c, small (start c)))
    (λ c. omega (arith, parts c, small (start c))) (λ c. ap₂ ◌+◌ (parts c).0 (parts c).1))
