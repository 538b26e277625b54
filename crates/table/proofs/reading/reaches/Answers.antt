-- The sum stays inside an i64, so the test is of the numbers themselves.
use Rattle.std.proofs.Common.{rules, ◌≡◌, ◌∙◌, ℤ, ◌+◌, ◌-◌, ◌*◌, pos, ◌+ℤ◌, arith}
use mathlib.Core.Bool.{not}
use mathlib.Core.Logic.{⊎_elim}
use borrow.Author.Tests.{le-leb}
use lib.Dec.{lit<}
use lib.ListN.{get_or}
use lib.Signed.{lt_z, le_z}
use Rattle.integers.proofs.Order.{lt_z-dec, lt-le_z, le-le_z}
use Rattle.integers.proofs.Ranges.{within-fits, plain, plain_fits}
use Rattle.intervals.specs.Turns.{net}
use Rattle.geometry.proofs.Holding.{gained-within}
use Rattle.intervals.proofs.Turning.{net-small}
use Rattle.table.proofs.reading.reaches.Goals as goal

at-least : (x y : ℤ) → le_z x y ≡ not (lt_z y x)
at-least x y = ⊎_elim (λ w. rw (w.0, lt-le_z x y w.1)) (λ w. rw (w.0, le-le_z x y w.1)) (lt_z-dec y x)

pub overflow_add-v : goal.overflow_add-v
overflow_add-v c =
    let a = c.args in
    let r = c.requires in
    let left = a.row.blocks - a.k * a.f.takes.blocks in
    let number = get_or a.scratch.now (a.row.at + left) (pos 0) in
    let brings = plain_fits (record { sfits = c.net.type_inv }) ∙ (rw (plain_fits c.ranges.price) at c.net.ensures) in
    let reached =
    gained-within number (net a.f a.price a.pays a.k) (r.3.small left (omega arith)) (net-small a.f r.0.sound a.price r.0.priced a.pays a.k r.1 r.2) in
    rw (plain_fits {x = number} (search rules), brings) (within-fits reached (lit< tt))

pub returns : goal.returns
returns c =
    let a = c.args in
    let r = c.requires in
    let left = a.row.blocks - a.k * a.f.takes.blocks in
    let number = get_or a.scratch.now (a.row.at + left) (pos 0) in
    let brings = plain_fits (record { sfits = c.net.type_inv }) ∙ (rw (plain_fits c.ranges.price) at c.net.ensures) in
    let reached =
    gained-within number (net a.f a.price a.pays a.k) (r.3.small left (omega arith)) (net-small a.f r.0.sound a.price r.0.priced a.pays a.k r.1 r.2) in
    rw (plain_fits {x = number} (search rules), brings, plain reached (lit< tt), plain_fits c.ranges.best, le-leb _ _ c.if-row-spent.false)
    (at-least a.best (number +ℤ net a.f a.price a.pays a.k))
