-- The next output is written.
use Rattle.std.proofs.Common.{◌≡◌, ℕ, ◌+◌, ◌-◌, ◌<◌, List, ◌++◌, length, get_or, take, drop, set, replicate, sym, ap, ◌∙◌, ap₂, add-one, arith, length-take-le, take-suc, take_at, take_all, length-take}
use Rattle.std.proofs.lemmas.List.{drop-replicate}
use Rattle.lists.proofs.Fills.{fill-next}
use Rattle.enumeration.specs.Lists.{room, untouched, intervals_of, outputs_in}
use Rattle.enumeration.proofs.Lists.{outputs-count}
use Rattle.enumeration.proofs.expectation.schedule_of.Goals as goal

one_more : (list : List ℕ) (i : ℕ) → i < room → i < length list
    → set (take i list ++ drop i (replicate room untouched)) i (get_or list i 0) ≡ take (i + 1) list ++ drop (i + 1) (replicate room untouched)
one_more list i h long =
    fill-next (take i list) (replicate room untouched) i (length-take-le i list (omega arith)) (get_or list i 0) h
    ∙ ap (λ (t : List ℕ). t ++ drop (i + 1) (replicate room untouched)) (sym (ap (λ (k : ℕ). take k list) (add-one i) ∙ take-suc list i 0 long))

pub loop-i-preserved : goal.loop-i-preserved
loop-i-preserved c =
    let l = c.loop-i in
    let list = take c.intervals_of-n.result c.list_of-list.result in
    let few = length-take c.intervals_of-n.result c.list_of-list.result in
    rw (l.invariant, c.from.ensures) (one_more list l.i (omega (arith, few)) c.loop-i-test.true)

pub returns : goal.returns
returns c =
    let l = c.loop-i in
    let case = c.args.case in
    let n = intervals_of case in
    let made = outputs_in case c.args.number in
    let count = outputs-count case c.args.number in
    let list : take c.intervals_of-n.result c.list_of-list.result ≡ made =
    ap₂ take c.intervals_of-n.ensures.0 c.list_of-list.ensures ∙ take_at made (replicate (room - n) 0) n count in
    let all : l.i ≡ length (take c.intervals_of-n.result c.list_of-list.result) = omega arith in
    l.invariant ∙ ap₂ (λ (k : ℕ) (t : List ℕ). take k t ++ drop k (replicate room untouched)) (all ∙ ap length list ∙ count) list
    ∙ ap₂ ◌++◌ (take_all n made (omega (arith, count))) (drop-replicate n room untouched)
