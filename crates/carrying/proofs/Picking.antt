-- Outputs picked: one alone, the same ones counted from another place, and two lots of which one comes before the other.
use mathlib.Core.Path.{◌≡◌, refl, ◌∙◌}
use mathlib.Core.Logic.{◌⊎◌, ⊎_elim, inl, inr}
use Prim.Native.Nat.{ℕ, ◌+◌, ◌<◌}
use native.Mathlib.Omega.{arith}
use lib.IntN.{ℤ, ◌+ℤ◌}
use lib.Signed.{◌≤ℤ◌, ◌<ℤ◌, ≤ℤ_refl}
use Rattle.integers.proofs.Linear.{zarith, zsum}
use Rattle.carrying.specs.Picking.{Picked}

module _ (value mark : ℕ → ℤ) where
  pub alone : (Of : ℕ → Type 0) (k : ℕ) → Of k → ((j : ℕ) → Of j → j ≡ k) → Picked Of value mark (value k) (mark k)
  alone Of k inside only =
      record {
        at = k;
        inside = inside;
        is = refl;
        marked = refl;
        most = λ j h. let e = only j h in rw e (≤ℤ_refl (value k));
        first = λ j h l. let e = only j h in absurd (omega arith);
      }

  -- the same outputs said otherwise
  pub picked_of : {A B : ℕ → Type 0} {v m : ℤ} → ((k : ℕ) → A k → B k) → ((k : ℕ) → B k → A k) → Picked A value mark v m → Picked B value mark v m
  picked_of to from p =
      record {
        at = p.at;
        inside = to p.at p.inside;
        is = p.is;
        marked = p.marked;
        most = λ k h. p.most k (from k h);
        first = λ k h l. p.first k (from k h) l;
      }

  module _ {A B : ℕ → Type 0} {a b ma mb : ℤ} (p : Picked A value mark a ma) (q : Picked B value mark b mb) (before : (i j : ℕ) → A i → B j → i < j) where
    -- the earlier lot where it is as good
    pub picked-left : b ≤ℤ a → Picked (λ k. A k ⊎ B k) value mark a ma
    picked-left le =
        record {
          at = p.at;
          inside = inl p.inside;
          is = p.is;
          marked = p.marked;
          most = λ k h. ⊎_elim (λ (i : A k). p.most k i) (λ (i : B k). let l = q.most k i in omega zarith) h;
          first = λ k h l. ⊎_elim (λ (i : A k). p.first k i l) (λ (i : B k). let g = before p.at k p.inside i in absurd (omega arith)) h;
        }

    -- the later lot where it is better
    pub picked-right : a <ℤ b → Picked (λ k. A k ⊎ B k) value mark b mb
    picked-right lt =
        record {
          at = q.at;
          inside = inr q.inside;
          is = q.is;
          marked = q.marked;
          most = λ k h. ⊎_elim (λ (i : A k). let l = p.most k i in omega zarith) (λ (i : B k). q.most k i) h;
          first = λ k h l. ⊎_elim (λ (i : A k). let g = p.most k i in omega zarith) (λ (i : B k). q.first k i l) h;
        }

-- the same outputs, values and marks said otherwise
pub picked_same : {A B : ℕ → Type 0} {v m : ℤ} (value mark value' mark' : ℕ → ℤ) → ((k : ℕ) → A k → B k) → ((k : ℕ) → B k → A k)
    → ((k : ℕ) → A k → (value' k ≡ value k) × (mark' k ≡ mark k)) → Picked A value mark v m → Picked B value' mark' v m
picked_same value mark value' mark' to from same p =
    record {
      at = p.at;
      inside = to p.at p.inside;
      is = (same p.at p.inside).0 ∙ p.is;
      marked = (same p.at p.inside).1 ∙ p.marked;
      most = λ k h. let e = (same k (from k h)).0 in rw e (p.most k (from k h));
      first = λ k h l. let e = (same k (from k h)).0 in rw e (p.first k (from k h) l);
    }

-- the outputs counted from another place
pub picked-renamed : {A B : ℕ → Type 0} {v m : ℤ} (n : ℕ) (value mark value' mark' : ℕ → ℤ) → ((k : ℕ) → A k → B (k + n))
    → ((j : ℕ) → B j → (k : ℕ) × A k × (j ≡ k + n))
    → ((k : ℕ) → A k → (value' (k + n) ≡ value k) × (mark' (k + n) ≡ mark k))
    → Picked A value mark v m → Picked B value' mark' v m
picked-renamed n value mark value' mark' to from same p =
    record {
      at = p.at + n;
      inside = to p.at p.inside;
      is = (same p.at p.inside).0 ∙ p.is;
      marked = (same p.at p.inside).1 ∙ p.marked;
      most = λ j h. let k = from j h in let e = (same k.0 k.1).0 in rw (k.2, e) (p.most k.0 k.1);
      first = λ j h l. let k = from j h in let e = (same k.0 k.1).0 in rw (k.2, e) (p.first k.0 k.1 (omega (arith, k.2, l)));
    }

-- every value raised alike
pub picked-raised : {A : ℕ → Type 0} {v m : ℤ} (d : ℤ) (value mark value' : ℕ → ℤ) → ((k : ℕ) → A k → value' k ≡ value k +ℤ d)
    → Picked A value mark v m → Picked A value' mark (v +ℤ d) m
picked-raised {A} {v} {m} d value mark value' same p =
    record {
      at = p.at;
      inside = p.inside;
      is = let e = p.is in same p.at p.inside ∙ (rw e);
      marked = p.marked;
      most = λ k h. let e = same k h in let l = p.most k h in rw e (omega (zarith, zsum (value k) d, zsum v d));
      first = λ k h l. let e = same k h in let g = p.first k h l in rw e (omega (zarith, zsum (value k) d, zsum v d));
    }

-- every value raised alike, the outputs counted from another place
pub picked-moved : {A B : ℕ → Type 0} {v m : ℤ} (d : ℤ) (n : ℕ) (value mark value' mark' : ℕ → ℤ) → ((k : ℕ) → A k → B (k + n))
    → ((j : ℕ) → B j → (k : ℕ) × A k × (j ≡ k + n))
    → ((k : ℕ) → A k → (value' (k + n) ≡ value k +ℤ d) × (mark' (k + n) ≡ mark k))
    → Picked A value mark v m → Picked B value' mark' (v +ℤ d) m
picked-moved {A} {B} {v} {m} d n value mark value' mark' to from same p =
    record {
      at = p.at + n;
      inside = to p.at p.inside;
      is = let e = p.is in (same p.at p.inside).0 ∙ (rw e);
      marked = (same p.at p.inside).1 ∙ p.marked;
      most = λ j h. let k = from j h in rw k.2 (raised-most k.0 k.1);
      first = λ j h l. let k = from j h in rw k.2 (raised-first k.0 k.1 (omega (arith, k.2, l)));
    }
  where
    raised-most : (k : ℕ) → A k → value' (k + n) ≤ℤ (v +ℤ d)
    raised-most k i = let e = (same k i).0 in let l = p.most k i in rw e (omega (zarith, zsum (value k) d, zsum v d))

    raised-first : (k : ℕ) → A k → k < p.at → value' (k + n) <ℤ (v +ℤ d)
    raised-first k i h = let e = (same k i).0 in let l = p.first k i h in rw e (omega (zarith, zsum (value k) d, zsum v d))
