-- The same for all outputs, as far back on the line that an interval on leads to.
use mathlib.Core.Path.{◌≡◌, refl, ap, ◌∙◌}
use Rattle.integers.proofs.Ranges.{plain_fits}
use Rattle.intervals.specs.Ladders.{better_end, Steady}
use Rattle.marks.specs.Lines.{OnAsked, laddered}
use Rattle.marks.proofs.Leading.{steady, flat_line, flat_on, on-flat-line}
use borrow.Author.Rules.{rules}
use Rattle.marks.proofs.lines.flat_image.Statement.{statement}
use Rattle.marks.proofs.lines.flat_image.Tie as tie

asked : (c : tie.Start) → let a = c.args in OnAsked a.t a.cells.now a.s a.p
asked c = c.requires.0.0

the-steady : (c : tie.Start) → Steady c.args.l
the-steady c = let a = c.args in rw c.requires.1 (steady a.t a.cells.now a.s a.p (asked c))

-- what is gained
gain-is : (c : tie.After-better_end) → let a = c.before.before.before.args in c.better_end.result ≡ better_end (laddered a.t a.s)
gain-is c = let o = c.before.before.before in c.better_end.ensures ∙ ap better_end o.requires.1

flat-requires : tie.Need-flat-requires
flat-requires c κs =
    let ended = c.before in
    let skips = ended.before in
    let lined = skips.before in
    let o = lined.before in
    let a = o.args in (
      rw (plain_fits (record { sfits = ended.better_end.type_inv }), gain-is ended, lined.line_behind.ensures, skips.skipped_before.ensures)
          (flat_line a.t a.cells.now a.s a.p (asked o) o.requires.0.1),
      o.requires.0.2,
    )

returns : tie.Need-returns
returns c =
    let made = c.before in
    let ended = made.before.before in
    let skips = ended.before in
    let lined = skips.before in
    let o = lined.before in
    let a = o.args in
    let k = asked o in
    let flat =
    rw (plain_fits (record { sfits = ended.better_end.type_inv }), gain-is ended, lined.line_behind.ensures, skips.skipped_before.ensures) at
    made.flat.ensures in
    record {
      inside = λ i h cell here.
          let on = on-flat-line a.t.figures a.p k.piece-of a.s i h cell here o.requires.0.1 in
          flat_on a.t a.cells.now a.s cell here.state a.p.starts _ here.inside on.0 on.1 o.requires.0.1
          k.over.interval.sound.pmax k.leads a.p.place i refl (flat.inside i h);
      same = flat.same;
    }

pub flat_image_spec : {M : Type 1} → statement M
flat_image_spec =
    tie.close
    (tie.spec (λ c κs. let k = asked c in (k.over, k.state, k.leads, k.piece-of.starts)) (λ c κs. (asked c.before).over)
    (λ c κs. the-steady c.before.before) flat-requires (λ c. search rules) returns)
