-- The definition `best`, which tries lists, and the relation `IsBest`, which speaks of every rival, say the same.
use mathlib.Core.Path.{◌≡◌, refl, sym, ap, ap₂, ◌∙◌, subst}
use mathlib.Core.Bool.{Bool, true, false, cond, ◌&&◌, ◌||◌, false≢true}
use mathlib.Core.List.{List, [], ◌∷◌}
use mathlib.Core.Logic.{◌⊎◌, ⊎_elim}
use Prim.Native.Nat.{ℕ, ◌≤◌}
use native.Mathlib.Omega.{arith}
use borrow.Author.Tests.{ltb-false, eqb-true, eq-eqb}
use lib.Dec.{ltb, eqb}
use lib.IntN.{ℤ}
use lib.ListN.{length}
use lib.Signed.{◌≤ℤ◌, ◌<ℤ◌}
use Rattle.integers.proofs.Linear.{zarith}
use Rattle.commitment.specs.declared.UnitRecord.{UnitRecord}
use Rattle.lists.specs.Every.{every}
use Rattle.commitment.specs.Schedule.{is_output}
use Rattle.commitment.specs.Keeping.{keeps_case, opens_in}
use Rattle.commitment.specs.Profit.{profit}
use Rattle.commitment.specs.Order.{earlier}
use Rattle.commitment.specs.Best.{Plan, nothing, plan, outputs, best}
use Rattle.commitment.specs.Rivals.{Rival, IsBest}
use Rattle.lists.proofs.Conjunctions.{both}
use Rattle.optimality.specs.Machine.{anywhere, Quarter, in_quarter}
use Rattle.optimality.specs.Cells.{quarters_of}
use Rattle.optimality.proofs.Ranges.{Ranged}
use Rattle.optimality.proofs.Rival.{not-plan, Beats, run_length, attained, no_rival}
use Rattle.optimality.proofs.Commit.{Status, commit, before, candidate-run, best-steps}
use Rattle.optimality.proofs.Quarters.{quarters-length}
use Rattle.optimality.proofs.Outputs.{outputs-ascending, all-tried, tried-all}

-- ---- the order: of two lists of one length of which neither is earlier, both are the same

or_left : (a b : Bool) → (a || b) ≡ false → a ≡ false
or_left true b e = e
or_left false b e = refl

or_right : (a b : Bool) → (a || b) ≡ false → b ≡ false
or_right true b e = absurd (false≢true (sym e))
or_right false b e = e

and-rest : (a b : Bool) → a ≡ true → (a && b) ≡ false → b ≡ false
and-rest true b i e = e
and-rest false b i e = absurd (false≢true i)

pub neither-earlier : (s t : List ℕ) → length s ≡ length t → earlier s t ≡ false → earlier t s ≡ false → s ≡ t
neither-earlier [] [] n e f = refl
neither-earlier [] (m ∷ t) n e f = absurd (omega arith)
neither-earlier (m ∷ s) [] n e f = absurd (omega arith)
neither-earlier (m ∷ s) (k ∷ t) n e f =
    let h : k ≤ m = ltb-false m k (or_left (ltb m k) (eqb m k && earlier s t) e) in
    let h' : m ≤ k = ltb-false k m (or_left (ltb k m) (eqb k m && earlier t s) f) in
    let i : m ≡ k = omega arith in
    ap₂ ◌∷◌ i
    (neither-earlier s t (omega arith)
    (and-rest (eqb m k) (earlier s t) (eq-eqb m k i) (or_right (ltb m k) (eqb m k && earlier s t) e))
    (and-rest (eqb k m) (earlier t s) (eq-eqb k m (sym i)) (or_right (ltb k m) (eqb k m && earlier t s) f)))

-- ---- rivals and runs

from-candidate : (k : Bool) (s : List ℕ) (p q : ℤ) → cond k (plan s q) nothing ≡ plan s p → (k ≡ true) × (q ≡ p)
from-candidate true s p q e = (refl, (cc))
from-candidate false s p q e = absurd (not-plan e)

module _ (u : UnitRecord) (prices : List ℤ) where
  pub rival-length : (r : List ℕ) → Rival u prices r → length r ≡ length prices
  rival-length r v = eqb-true (length r) (length prices) (both (eqb (length r) (length prices)) (every (is_output u.generator) r) v.schedule).0

  -- what is best is best alone
  best-alone : (s t : List ℕ) (p q : ℤ) → IsBest u prices s p → IsBest u prices t q → plan s p ≡ plan t q
  best-alone s t p q a b =
      let le : profit u prices t ≤ℤ p = a.most t b.own in
      let ge : profit u prices s ≤ℤ q = b.most s a.own in
      let ea : profit u prices s ≡ p = a.earns in
      let eb : profit u prices t ≡ q = b.earns in
      let i : p ≡ q = omega zarith in
      let j : profit u prices t ≡ p = omega zarith in
      let k : profit u prices s ≡ q = omega zarith in
      ap₂ plan
      (neither-earlier s t (rival-length s a.own ∙ sym (rival-length t b.own)) (b.first s a.own k) (a.first t b.own j))
      i

  -- and earlier than every other rival that earns as much
  pub best-is-earlier : (s : List ℕ) (p : ℤ) → IsBest u prices s p
      → (r : List ℕ) → Rival u prices r → profit u prices r ≡ p → (r ≡ s → ⊥) → earlier s r ≡ true
  best-is-earlier s p b r v as-much other = by (earlier s r) refl
    where
      by : (t : Bool) → earlier s r ≡ t → earlier s r ≡ true
      by true e = e
      by false e = absurd (other (neither-earlier r s (rival-length r v ∙ sym (rival-length s b.own)) (b.first r v as-much) e))

  module _ (ok : Ranged u) where
    beats-rival : (r : List ℕ) → Rival u prices r → Beats (best u prices) r (profit u prices r)
    beats-rival r v =
        rw (best-steps u prices)
        (no_rival Status Quarter (in_quarter (commit u)) anywhere (outputs u.generator) (outputs-ascending u ok) (quarters_of u prices) (before u) r
        (profit u prices r)
        (all-tried u ok r (both (eqb (length r) (length prices)) (every (is_output u.generator) r) v.schedule).1)
        (sym (candidate-run u prices r (rival-length r v)) ∙ ap (λ (k : Bool). cond k (plan r (profit u prices r)) nothing) v.kept))

    plan-kept : (s : List ℕ) (p : ℤ) → best u prices ≡ plan s p → Rival u prices s × (profit u prices s ≡ p)
    plan-kept s p e =
        let quarters = quarters_of u prices in
        let a = attained Status Quarter (in_quarter (commit u)) anywhere (outputs u.generator) quarters (before u) s p (sym (best-steps u prices) ∙ e) in
        let n =
        run_length Status Quarter (in_quarter (commit u)) anywhere quarters (before u) s s p a.0 ∙ quarters-length (opens_in u.permit) 0 prices in
        let k = from-candidate (keeps_case u s) s p (profit u prices s) (candidate-run u prices s n ∙ a.0) in
        (record { schedule = simp (eq-eqb (length s) (length prices) n) (tried-all u ok s a.1); kept = k.0 }, k.1)

    -- the plan that trying every list gives is the best of all rivals
    pub plan-best : (s : List ℕ) (p : ℤ) → best u prices ≡ plan s p → IsBest u prices s p
    plan-best s p e =
        let k = plan-kept s p e in
        let b : (r : List ℕ) → Rival u prices r → (profit u prices r <ℤ p) ⊎ ((profit u prices r ≡ p) × (earlier r s ≡ false)) =
        λ r v. subst (λ (a : Plan). Beats a r (profit u prices r)) e (beats-rival r v) in
        record {
          own = k.0;
          earns = k.1;
          most = λ r v. ⊎_elim (λ (h : profit u prices r <ℤ p). omega zarith) (λ (h : (profit u prices r ≡ p) × (earlier r s ≡ false)). omega zarith) (b r v);
          first =
              λ r v i. ⊎_elim (λ (h : profit u prices r <ℤ p). absurd (omega zarith)) (λ (h : (profit u prices r ≡ p) × (earlier r s ≡ false)). h.1) (b r v);
        }

    -- and there is none exactly where no rival exists
    pub no-plan : best u prices ≡ nothing → (r : List ℕ) → Rival u prices r → ⊥
    no-plan e r v = subst (λ (a : Plan). Beats a r (profit u prices r)) e (beats-rival r v)

    pub no-rivals : ((r : List ℕ) → Rival u prices r → ⊥) → best u prices ≡ nothing
    no-rivals h = see (best u prices) refl
      where
        see : (a : Plan) → best u prices ≡ a → best u prices ≡ nothing
        see nothing e = e
        see (plan s p) e = absurd (h s (plan-kept s p e).0)

    -- whatever is best is what trying every list gives
    pub best-plan : (s : List ℕ) (p : ℤ) → IsBest u prices s p → best u prices ≡ plan s p
    best-plan s p b = see (best u prices) refl
      where
        see : (a : Plan) → best u prices ≡ a → best u prices ≡ plan s p
        see nothing e = absurd (no-plan e s b.own)
        see (plan t q) e = e ∙ best-alone t s q p (plan-best t q e) b
