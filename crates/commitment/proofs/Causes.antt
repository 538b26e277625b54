-- The laws of a list of checks: what passes it, and one list after another.
use Rattle.std.specs.Prelude.{Option, Some, None, Result, Ok, Err, ok_or}
use mathlib.Core.Path.{◌≡◌, refl, sym, ap, ◌∙◌}
use mathlib.Core.Bool.{Bool, true, false, not}
use mathlib.Core.List.{List, [], ◌∷◌, ◌++◌}
use Prim.Native.Nat.{ℕ}
use native.Mathlib.Omega.{arith}
use borrow.Author.Tests.{not-true, not-false}
use Rattle.commitment.specs.declared.Cause.{Cause}
use Rattle.commitment.specs.Types.{Checked}
use Rattle.commitment.specs.Causes.{Check, unless, first_of}

-- ---- a chain that passes has passed each

pub unless-passed : (t : Bool) (cause : Cause) (rest : Checked) → unless t cause rest ≡ Ok tt → (t ≡ true) × (rest ≡ Ok tt)
unless-passed true cause rest e = (refl, e)
unless-passed false cause rest e = let z : ◌≡◌ {A = ℕ} 0 1 = cc in absurd (omega arith)

-- ---- a test in code, `if !test { return refused; }` and the rest: what it returns either way

module _ {test kept : Bool} (is : test ≡ kept) (cause : Cause) (rest : Checked) where
  pub unless-refused : not test ≡ true → Err cause ≡ unless kept cause rest
  unless-refused taken = ap (λ (t : Bool). unless t cause rest) (sym (not-true test taken) ∙ is)

  pub unless-kept : not test ≡ false → rest ≡ unless kept cause rest
  unless-kept left = ap (λ (t : Bool). unless t cause rest) (sym (not-false test left) ∙ is)

-- ---- further checks, after those that come first

abbrev pub checked_then : Checked → Checked → Checked
checked_then (Ok _) further = further
checked_then (Err cause) further = Err cause

pub in-turn : (checks further : List Check) → first_of (checks ++ further) ≡ checked_then (first_of checks) (first_of further)
in-turn [] further = refl
in-turn (check ∷ checks) further = by check.kept (in-turn checks further)
  where
    by : (t : Bool) → first_of (checks ++ further) ≡ checked_then (first_of checks) (first_of further)
        → unless t check.cause (first_of (checks ++ further)) ≡ checked_then (unless t check.cause (first_of checks)) (first_of further)
    by true e = e
    by false e = refl

pub then-passed : (k further : Checked) → checked_then k further ≡ Ok tt → (k ≡ Ok tt) × (further ≡ Ok tt)
then-passed (Ok _) further e = (refl, e)
then-passed (Err cause) further e = let z : ◌≡◌ {A = ℕ} 0 1 = cc in absurd (omega arith)

-- ---- a value that must be there, or a cause

pub ok-was : {A : Type 0} (value : Option A) (cause : Cause) (a : A) → ◌≡◌ {A = Result A Cause} (Ok a) (ok_or value cause) → value ≡ Some a
ok-was (Some b) cause a e = let same : a ≡ b = cc in ap Some (sym same)
ok-was None cause a e = let z : ◌≡◌ {A = ℕ} 0 1 = cc in absurd (omega arith)

pub err-was : {A : Type 0} (value : Option A) (cause given : Cause) → ◌≡◌ {A = Result A Cause} (Err given) (ok_or value cause) → value ≡ None
err-was (Some b) cause given e = let z : ◌≡◌ {A = ℕ} 0 1 = cc in absurd (omega arith)
err-was None cause given e = refl
