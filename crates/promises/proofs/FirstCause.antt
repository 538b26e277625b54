-- Along any list of checks: the first that is not kept decides, and it is the first cause of the list of reasons that holds.
use Rattle.std.specs.Prelude.{Err, Ok}
use mathlib.Core.Path.{◌≡◌, refl, sym, ap, ◌∙◌}
use mathlib.Core.Bool.{Bool, true, false, ◌&&◌, not}
use mathlib.Core.List.{List, [], ◌∷◌, ◌++◌}
use mathlib.Core.Logic.Iff
use mathlib.Core.Logic.{◌↔◌, inl, inr, ⊎_elim}
use Prim.Native.Nat.{ℕ}
use native.Mathlib.Omega.{arith}
use borrow.Author.Tests.{eqb-false, not-true}
use lib.Dec.{eqb}
use Rattle.lists.proofs.Conjunctions.{both}
use Rattle.commitment.specs.declared.Cause.{Cause}
use Rattle.commitment.specs.Types.{Checked}
use Rattle.commitment.specs.Causes.{number_of, Check, unless, first_of}
use Rattle.promises.specs.Causes.{Reason, FirstOf, NoneOf}

-- ---- along any list of checks: each fails exactly where its cause holds, where those before it are kept

abbrev pub Judged : List Check → List Reason → Type 0
Judged [] [] = Unit {0}
Judged [] (reason ∷ reasons) = ⊥
Judged (check ∷ checks) [] = ⊥
Judged (check ∷ checks) (reason ∷ reasons) =
    (check.cause ≡ reason.cause) × ((check.kept ≡ false) ↔ reason.Holds) × (check.kept ≡ true → Judged checks reasons)

-- a check that is kept has no cause that holds
kept-none : {t : Bool} {Holds : Type 0} → (t ≡ false) ↔ Holds → t ≡ true → Holds → ⊥
kept-none judged i holds =
    let no : true ≡ false = sym i ∙ judged.1 holds in
    let z : ◌≡◌ {A = ℕ} 0 1 = cc in
    absurd (omega arith)

module _ (first : Cause) (reason : Reason) (same : first ≡ reason.cause) (rest : Checked) (later : List Reason) where
  refused-step : {cause : Cause} (t : Bool) → (t ≡ false) ↔ reason.Holds → (t ≡ true → (rest ≡ Err cause) ↔ FirstOf later cause)
      → (unless t first rest ≡ Err cause) ↔ FirstOf (reason ∷ later) cause
  refused-step true judged next =
      let none = kept-none judged refl in
      (λ e. inr (none, (next refl).0 e), ⊎_elim (λ this. absurd (none this.1)) (λ further. (next refl).1 further.1))
  refused-step {cause} false judged next =
      let holds = judged.0 refl in (
        λ e. let here : first ≡ cause = cc in inl (sym same ∙ here, holds),
        ⊎_elim (λ this. ap Err (same ∙ this.0)) (λ further. absurd (further.0 holds)),
      )

  passed-step : (t : Bool) → (t ≡ false) ↔ reason.Holds → (t ≡ true → (rest ≡ Ok tt) ↔ NoneOf later)
      → (unless t first rest ≡ Ok tt) ↔ NoneOf (reason ∷ later)
  passed-step true judged next = (λ e. (kept-none judged refl, (next refl).0 e), λ none. (next refl).1 none.1)
  passed-step false judged next =
      (λ e. let z : ◌≡◌ {A = ℕ} 0 1 = cc in absurd (omega arith), λ none. absurd (none.0 (judged.0 refl)))

pub refused-first : (checks : List Check) (reasons : List Reason) {cause : Cause} → Judged checks reasons
    → (first_of checks ≡ Err cause) ↔ FirstOf reasons cause
refused-first [] [] judged = (λ e. let z : ◌≡◌ {A = ℕ} 0 1 = cc in absurd (omega arith), λ none. absurd none)
refused-first [] (reason ∷ reasons) judged = absurd judged
refused-first (check ∷ checks) [] judged = absurd judged
refused-first (check ∷ checks) (reason ∷ reasons) judged =
    refused-step check.cause reason judged.0 (first_of checks) reasons check.kept judged.1 (λ i. refused-first checks reasons (judged.2 i))

pub passed_none : (checks : List Check) (reasons : List Reason) → Judged checks reasons → (first_of checks ≡ Ok tt) ↔ NoneOf reasons
passed_none [] [] judged = (λ e. tt, λ none. refl)
passed_none [] (reason ∷ reasons) judged = absurd judged
passed_none (check ∷ checks) [] judged = absurd judged
passed_none (check ∷ checks) (reason ∷ reasons) judged =
    passed-step check.cause reason judged.0 (first_of checks) reasons check.kept judged.1 (λ i. passed_none checks reasons (judged.2 i))

-- ---- a call's answer, made of what its checks found

-- a refusal with the cause found, and another answer where they passed
pub record Answers {A : Type 0} (answer : Checked → A) (refused : Cause → A) : Type 0 where
  pub is : (cause : Cause) → answer (Err cause) ≡ refused cause
  pub alike : (given cause : Cause) → refused given ≡ refused cause → given ≡ cause
  pub other : (cause : Cause) → answer (Ok tt) ≡ refused cause → ⊥

module _ {A : Type 0} {answer : Checked → A} {refused : Cause → A} (answers : Answers answer refused) where
  module _ (checks : List Check) (reasons : List Reason) (judged : Judged checks reasons) where
    -- refused exactly where what was found is, and with its cause
    pub answer-refused : {cause : Cause} → (answer (first_of checks) ≡ refused cause) ↔ FirstOf reasons cause
    answer-refused {cause} = Iff.trans (by (first_of checks), λ e. ap answer e ∙ answers.is cause) (refused-first checks reasons judged)
      where
        by : (k : Checked) → answer k ≡ refused cause → k ≡ Err cause
        by (Ok _) e = absurd (answers.other cause e)
        by (Err given) e = ap Err (answers.alike given cause (sym (answers.is given) ∙ e))

    pub answer-given : (answer (first_of checks) ≡ answer (Ok tt)) ↔ NoneOf reasons
    answer-given = Iff.trans (by (first_of checks), λ e. ap answer e) (passed_none checks reasons judged)
      where
        by : (k : Checked) → answer k ≡ answer (Ok tt) → k ≡ Ok tt
        by (Ok _) e = refl
        by (Err given) e = absurd (answers.other given (sym e ∙ answers.is given))

-- ---- where none of a list holds, none of its later part does

pub none-later : (before after : List Reason) → NoneOf (before ++ after) → NoneOf after
none-later [] after none = none
none-later (first ∷ before) after none = none-later before after none.1

-- ---- a number that no cause of a list has is not given

abbrev pub apart : ℕ → List Reason → Bool
apart number [] = true
apart number (reason ∷ reasons) = not (eqb (number_of reason.cause) number) && apart number reasons

pub not-given : (number : ℕ) (reasons : List Reason) → apart number reasons ≡ true → (cause : Cause) → FirstOf reasons cause → number_of cause ≡ number → ⊥
not-given number [] away cause given e = given
not-given number (first ∷ later) away cause given e =
    let k = both (not (eqb (number_of first.cause) number)) (apart number later) away in
    ⊎_elim (λ this. eqb-false _ _ (not-true _ k.0) (ap number_of this.0 ∙ e)) (λ further. not-given number later k.1 cause further.1 e) given
