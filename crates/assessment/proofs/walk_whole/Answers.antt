-- A turn takes the first price and the first output of those left.
use Rattle.std.specs.Prelude.{List, [], ℕ, ℤ, Some, None}
use Rattle.std.proofs.Common.{rules, ◌≡◌, ◌≤◌, ◌+◌, ◌-◌, ◌∷◌, Bool, true, cond, refl, sym, ap, ◌∙◌, length, nat_abs, arith}
use mathlib.Core.Logic.{⊎_elim}
use mathlib.Core.Path.{ap₂, subst}
use mir.Syntax.{w64}
use mir.Val.{to_z, of_z}
use Rattle.lists.specs.Every.{every}
use Rattle.lists.proofs.Conjunctions.{both}
use Rattle.commitment.specs.declared.UnitRecord.{UnitRecord}
use Rattle.commitment.specs.Bounds.{most_mw, most_price}
use Rattle.commitment.specs.Ranges.{ranges_kept, shape_kept, price_kept, prices_kept}
use Rattle.commitment.specs.Schedule.{is_output}
use Rattle.commitment.proofs.Passing.{passing, prices-small}
use Rattle.assessment.specs.declared.Walk.{Walk}
use Rattle.assessment.specs.Walking.{spell_kept, may_follow, stepped, walk_from}
use Rattle.assessment.proofs.Bounds.{Bounded, bounded-small, output-most, opening-bounded, step-bounded}
use Rattle.assessment.proofs.walk_whole.Goals as goal

-- a price that is kept, and an output that follows, are small
small : (u : UnitRecord) (at : Walk) (p : ℤ) (m : ℕ) (prices ps : List ℤ) → ranges_kept u ≡ true → shape_kept u.generator ≡ true → prices ≡ p ∷ ps
    → every price_kept prices ≡ true → true ≡ may_follow u at m → (nat_abs p ≤ most_price) × (m ≤ most_mw)
unfolding may_follow prices_kept
small u at p m prices ps ranges shape first kept follows = (
  prices-small (p ∷ ps) (ap (every price_kept) (sym first) ∙ kept) 0 (omega arith),
  output-most u ranges shape m (both (is_output u.generator m) (spell_kept u.generator at.on at.spent m) (sym follows)).0,
)

-- where no price is left the walk is over
over : (u : UnitRecord) (at : Walk) (prices : List ℤ) (s : List ℕ) → length prices ≡ 0 → Some at ≡ walk_from u at prices s
over u at [] s e = refl
over u at (p ∷ ps) s e = absurd (omega arith)

pub loop-price-init : goal.loop-price-init
unfolding prices_kept
loop-price-init c =
    let u = c.args.unit in
    let h = passing u (prices_kept c.args.prices.now) (length c.args.prices.now) c.requires.prices_value in
    rw c.open-at.ensures
    (search rules, search rules, search (rules, c.requires.schedule_len), search (rules, h.prices), search (rules, opening-bounded u h.order.ranges h.order.shape))

pub may_follow-requires : goal.may_follow-requires
may_follow-requires c = (passing c.args.unit (prices_kept c.args.prices.now) (length c.args.prices.now) c.requires.prices_value).order.ranges

pub returns-then-not-may_follow : goal.returns-then-not-may_follow
returns-then-not-may_follow c =
    let u = c.args.unit in
    let at = c.loop-price.at in
    let rest = c.next.new.self in
    let s = c.in-Some.ensures.steps in
    ap (λ (t : Bool). cond t (walk_from u (stepped u at c.in-Some.price.now c.in-Some.output.now) rest.a.rest.now rest.b.rest.now) None) c.if-not-may_follow.ensures
    ∙ sym (ap₂ (walk_from u at) s.0 s.1)
    ∙ c.loop-price.invariant.0

pub step-at-requires-clause-unit_value : goal.step-at-requires-clause-unit_value
step-at-requires-clause-unit_value c =
    let h = passing c.args.unit (prices_kept c.args.prices.now) (length c.args.prices.now) c.requires.prices_value in
    (h.order.ranges, h.order.shape)

pub step-at-requires-clause-price_bound : goal.step-at-requires-clause-price_bound
step-at-requires-clause-price_bound c =
    let h = passing c.args.unit (prices_kept c.args.prices.now) (length c.args.prices.now) c.requires.prices_value in
    let p = c.in-Some.price.now in
    let plain : to_z w64 (of_z w64 p) ≡ p = search rules in
    rw plain
    (small c.args.unit c.loop-price.at p c.in-Some.output.now _ _ h.order.ranges h.order.shape c.in-Some.ensures.steps.0 c.loop-price.invariant.3
    c.if-not-may_follow.ensures)

pub step-at-requires-clause-small : goal.step-at-requires-clause-small
step-at-requires-clause-small c =
    let h = passing c.args.unit (prices_kept c.args.prices.now) (length c.args.prices.now) c.requires.prices_value in
    bounded-small _ c.loop-price.at (omega (arith, h.order.short)) c.loop-price.invariant.4

pub loop-price-preserved : goal.loop-price-preserved
loop-price-preserved c =
    let u = c.args.unit in
    let at = c.loop-price.at in
    let i = c.loop-price.invariant in
    let rest = c.next.new.self in
    let p = c.in-Some.price.now in
    let m = c.in-Some.output.now in
    let s = c.in-Some.ensures.steps in
    let h = passing u (prices_kept c.args.prices.now) (length c.args.prices.now) c.requires.prices_value in
    let plain : to_z w64 (of_z w64 p) ≡ p = search rules in
    let few = small u at p m _ _ h.order.ranges h.order.shape s.0 i.3 c.if-not-may_follow.ensures in
    let long = ap length s.0 in
    let wide = ap length s.1 in
    let e = rw plain at c.step-at.ensures in
    rw e (
      ap (λ (t : Bool). cond t (walk_from u (stepped u at p m) rest.a.rest.now rest.b.rest.now) None) c.if-not-may_follow.ensures
          ∙ sym (ap₂ (walk_from u at) s.0 s.1)
          ∙ i.0,
      omega (arith, i.1, long),
      omega (arith, i.2, long, wide),
      (both (price_kept p) (every price_kept rest.a.rest.now) (ap (every price_kept) (sym s.0) ∙ i.3)).1,
      subst (λ (n : ℕ). Bounded n (stepped u at p m)) (omega (arith, i.1, long)) (step-bounded u h.order.ranges h.order.shape _ at p m few.0 few.1 i.4),
    )

pub returns : goal.returns
returns c =
    let i = c.loop-price.invariant in
    let l = c.loop-price.price-iterator in
    let none = over c.args.unit c.loop-price.at l.a.rest.now l.b.rest.now in
    ⊎_elim (λ e. none e.1.0 ∙ i.0) (λ e. none (sym i.2 ∙ e.1.0) ∙ i.0) c.in-None.ensures.steps
