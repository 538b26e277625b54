-- The next draw is written.
use Rattle.std.proofs.Common.{◌≡◌, ℕ, suc, ◌+◌, ◌-◌, ◌<◌, List, ◌++◌, length, take, set, sym, ap, ◌∙◌, append-nil, arith, length-set, take_all}
use lib.Seq.{append_snoc}
use Rattle.lists.proofs.Fills.{take_next}
use Rattle.enumeration.specs.Draws.{next, draws_after}
use Rattle.enumeration.proofs.generator.draws_from.Goals as goal

one_more : (s : List ℕ) (x i : ℕ) → i < 32 → length s ≡ 32
    → take i s ++ draws_after (32 - i) x ≡ take (i + 1) (set s i (next x)) ++ draws_after (32 - (i + 1)) (next x)
unfolding draws_after
one_more s x i h long =
    let e : 32 - i ≡ suc (32 - (i + 1)) = omega arith in
    ap (λ (n : ℕ). take i s ++ draws_after n x) e ∙ sym (append_snoc (take i s) (next x) (draws_after (32 - (i + 1)) (next x)))
    ∙ ap (λ (l : List ℕ). l ++ draws_after (32 - (i + 1)) (next x)) (sym (take_next s i (next x) (omega arith)))

pub loop-draw-preserved : goal.loop-draw-preserved
loop-draw-preserved c =
    let l = c.loop-draw in (
      omega arith,
      length-set l.draw-items l.draw-index _ ∙ l.invariant.1,
      rw (c.times.ensures.0, c.from.ensures) (l.invariant.2 ∙ one_more l.draw-items l.x l.draw-index (omega arith) l.invariant.1),
    )

pub returns : goal.returns
unfolding draws_after
returns c =
    let l = c.loop-draw in
    let all : l.draw-index ≡ 32 = omega arith in
    sym (rw all at l.invariant.2 ∙ append-nil (take 32 l.draw-items) ∙ take_all 32 l.draw-items (omega (arith, l.invariant.1)))
