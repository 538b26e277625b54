use mathlib.Core.Path.{ap, ◌∙◌}
use Rattle.std.proofs.Common.{List, ℕ, ◌+◌, slice_set, slice_index_or}
use Rattle.listing.proofs.Writing.{copied_none, copied_next}
use Rattle.listing.proofs.put_text.Goals as goal

pub loop-i-init : goal.loop-i-init
loop-i-init c = copied_none c.args.out.now c.args.at c.args.text.now c.requires

pub loop-i-preserved : goal.loop-i-preserved
loop-i-preserved c =
    let a = c.args in
    let l = c.loop-i in
    ap (λ (b : List ℕ). slice_set b (a.at + l.i) (slice_index_or a.text.now l.i 0)) l.invariant
    ∙ copied_next a.out.now a.at a.text.now c.requires l.i c.loop-i-test.true
