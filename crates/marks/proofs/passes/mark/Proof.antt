-- The numbers, and from there the intervals before.
use native.Mathlib.Omega.{arith}
use Rattle.marks.specs.Standing.{SweepAsked}
use Rattle.marks.proofs.Walking.{value-kept, numbered-swept}
use borrow.Author.Rules.{rules}
use Rattle.marks.proofs.passes.mark.Statement.{statement}
use Rattle.marks.proofs.passes.mark.Tie as tie

asked : (c : tie.Start) → let a = c.args in SweepAsked a.g a.cells.now a.prices.now a.from a.to
asked c = c.requires.0

mark-own-requires : tie.Need-mark_own-requires
mark-own-requires c κs = let o = c.before in ((asked o).marks, o.requires.1.2)

sweep-requires : tie.Need-sweep-requires
sweep-requires c κs =
    let numbered = c.before.before.before.before in
    let o = numbered.before.before in
    let a = o.args in
    let k = asked o in (
      record {
        sound = k.sound;
        wide = k.wide;
        marks = omega (arith, numbered.mark_own.ensures.same, k.marks);
        priced = k.priced;
        clocked = k.clocked;
        ordered = k.ordered;
        inside = k.inside;
        short = k.short;
        ends = k.ends;
        later = k.later;
        ahead = k.ahead;
        layer =
            value-kept a.g.figures a.g.width k.wide a.cells.now numbered.mark_own.new.cells numbered.mark_own.ensures k.layer;
        few = k.few;
      },
      (o.requires.1.0, o.requires.1.1),
    )

returns : tie.Need-returns
returns c =
    let swept = c.before.before.before in
    let numbered = swept.before.before.before.before.before in
    let o = numbered.before.before in
    let a = o.args in
    numbered-swept a.g.figures a.g.width (asked o).wide a.cells.now numbered.mark_own.new.cells numbered.mark_own.ensures
    swept.sweep.new.cells _ swept.sweep.ensures

pub mark_spec : {M : Type 1} → statement M
mark_spec = tie.close (tie.spec mark-own-requires sweep-requires (λ c. search rules) (λ c. search rules) (λ c. search rules) returns)
