-- A case that has a schedule has one without a start: the run under way before interval 1, and off behind it. So `never` does not occur for starts.
use Rattle.std.specs.Prelude.{None, Some}
use mathlib.Core.Path.{◌≡◌, refl, ap, ap₂, ◌∙◌}
use mathlib.Core.Bool.{Bool, true, false, ◌&&◌}
use mathlib.Core.List.{List, [], ◌∷◌}
use Prim.Native.Nat.{ℕ, zero, suc, ◌*◌, ◌≤◌}
use native.Mathlib.Omega.{arith}
use borrow.Author.Tests.{leb-true, le-leb, eqb-true, eq-eqb}
use lib.Dec.{leb, eqb}
use lib.IntN.{ℤ}
use lib.ListN.{length}
use Rattle.lists.specs.Every.{every}
use Rattle.lists.proofs.Conjunctions.{both}
use Rattle.commitment.specs.declared.Generator.{Generator}
use Rattle.commitment.specs.Types.{Limit}
use Rattle.commitment.specs.declared.Limitation.TheVariants.{Starts}
use Rattle.commitment.specs.declared.UnitRecord.{UnitRecord}
use Rattle.commitment.specs.Keeping.{was_on, starts_in, runs_last, spells_last, on_intervals, output_sum, keeps_starts, keeps_runs, keeps_spells}
use Rattle.commitment.specs.Keeping.{keeps_hours, keeps_mwh, opens_in, off_where_shut, keeps_window}
use Rattle.commitment.specs.Limits.{within}
use Rattle.commitment.specs.Rivals.{Rival}
use Rattle.commitment.specs.Schedule.{is_output}
use Rattle.commitment.specs.Valuing.{run_at}
use Rattle.promises.specs.Causes.{NoRival}

-- the outputs up to the end of the run under way, then off
abbrev front : Bool → List ℕ → List ℕ
front on [] = []
front on (zero ∷ s) = 0 ∷ front false s
front true (suc m ∷ s) = suc m ∷ front true s
front false (suc m ∷ s) = 0 ∷ front false s

-- ---- it has no start, and keeps the times

no_start : (on : Bool) (s : List ℕ) → starts_in on (front on s) ≡ 0
no_start on [] = refl
no_start on (zero ∷ s) = no_start false s
no_start true (suc m ∷ s) = no_start true s
no_start false (suc m ∷ s) = no_start false s

off-runs : (mot spent : ℕ) (s : List ℕ) → runs_last mot false spent (front false s) ≡ true
off-runs mot spent [] = refl
off-runs mot spent (zero ∷ s) = off-runs mot (suc spent) s
off-runs mot spent (suc m ∷ s) = off-runs mot (suc spent) s

front-runs : (mot : ℕ) (on : Bool) (spent : ℕ) (s : List ℕ) → runs_last mot on spent s ≡ true → runs_last mot on spent (front on s) ≡ true
front-runs mot false spent s e = off-runs mot spent s
front-runs mot true spent [] e = refl
front-runs mot true spent (zero ∷ s) e = ap₂ ◌&&◌ (both (leb mot spent) (runs_last mot false 1 s) e).0 (off-runs mot 1 s)
front-runs mot true spent (suc m ∷ s) e = front-runs mot true (suc spent) s e

front-spells : (mdt : ℕ) (on : Bool) (spent : ℕ) (s : List ℕ) → spells_last mdt on spent (front on s) ≡ true
front-spells mdt true spent [] = refl
front-spells mdt false spent [] = refl
front-spells mdt true spent (zero ∷ s) = front-spells mdt false 1 s
front-spells mdt false spent (zero ∷ s) = front-spells mdt false (suc spent) s
front-spells mdt true spent (suc m ∷ s) = front-spells mdt true (suc spent) s
front-spells mdt false spent (suc m ∷ s) = front-spells mdt false (suc spent) s

-- ---- it has no more of anything

front-on : (on : Bool) (s : List ℕ) → on_intervals (front on s) ≤ on_intervals s
front-on on [] = omega arith
front-on on (zero ∷ s) = front-on false s
front-on true (suc m ∷ s) = omega (arith, front-on true s)
front-on false (suc m ∷ s) = omega (arith, front-on false s)

front-output : (on : Bool) (s : List ℕ) → output_sum (front on s) ≤ output_sum s
front-output on [] = omega arith
front-output on (zero ∷ s) = omega (arith, front-output false s)
front-output true (suc m ∷ s) = omega (arith, front-output true s)
front-output false (suc m ∷ s) = omega (arith, front-output false s)

less-within : (unit a b : ℕ) (limit : Limit) → a ≤ b → within unit b limit ≡ true → within unit a limit ≡ true
less-within unit a b None h e = refl
less-within unit a b (Some limit) h e = le-leb a (unit * limit) (omega (arith, h, leb-true b (unit * limit) e))

-- off wherever the schedule is, so wherever it is shut
front-shut : (opens : ℕ → Bool) (i : ℕ) (on : Bool) (s : List ℕ) → off_where_shut opens i s ≡ true → off_where_shut opens i (front on s) ≡ true
front-shut opens i on [] e = refl
front-shut opens i on (zero ∷ s) e = front-shut opens (suc i) false s e
front-shut opens i true (suc m ∷ s) e =
    let h = both (opens i) (off_where_shut opens (suc i) s) e in
    ap₂ ◌&&◌ h.0 (front-shut opens (suc i) true s h.1)
front-shut opens i false (suc m ∷ s) e = front-shut opens (suc i) false s (both (opens i) (off_where_shut opens (suc i) s) e).1

-- ---- it is a schedule

front_length : (on : Bool) (s : List ℕ) → length (front on s) ≡ length s
front_length on [] = refl
front_length on (zero ∷ s) = ap suc (front_length false s)
front_length true (suc m ∷ s) = ap suc (front_length true s)
front_length false (suc m ∷ s) = ap suc (front_length false s)

front-outputs : (g : Generator) (on : Bool) (s : List ℕ) → every (is_output g) s ≡ true → every (is_output g) (front on s) ≡ true
front-outputs g on [] e = refl
front-outputs g on (zero ∷ s) e = front-outputs g false s e
front-outputs g true (suc m ∷ s) e =
    let h = both (is_output g (suc m)) (every (is_output g) s) e in
    ap₂ ◌&&◌ h.0 (front-outputs g true s h.1)
front-outputs g false (suc m ∷ s) e = front-outputs g false s (both (is_output g (suc m)) (every (is_output g) s) e).1

-- ---- so that it is a rival whatever the starts are limited to

module _ (u : UnitRecord) (prices : List ℤ) (less : ℕ) where
  front-rival : (s : List ℕ) → Rival u prices s → Rival (run_at u Starts less) prices (front (was_on u.opening) s)
  front-rival s v =
      let on = was_on u.opening in
      let sized = both (eqb (length s) (length prices)) (every (is_output u.generator) s) v.schedule in
      let shut = both (keeps_starts u s && keeps_runs u s && keeps_spells u s && keeps_hours u s && keeps_mwh u s) (keeps_window u s) v.kept in
      let mwh = both (keeps_starts u s && keeps_runs u s && keeps_spells u s && keeps_hours u s) (keeps_mwh u s) shut.0 in
      let hours = both (keeps_starts u s && keeps_runs u s && keeps_spells u s) (keeps_hours u s) mwh.0 in
      let runs = both (keeps_starts u s) (keeps_runs u s) (both (keeps_starts u s && keeps_runs u s) (keeps_spells u s) hours.0).0 in
      let starts : leb (starts_in on (front on s)) (1 * less) ≡ true = le-leb (starts_in on (front on s)) (1 * less) (omega (arith, no_start on s)) in
      let ends = front-runs u.generator.mot on u.opening.held s runs.1 in
      let times = ap₂ ◌&&◌ (ap₂ ◌&&◌ starts ends) (front-spells u.generator.mdt on u.opening.held s) in
      record {
        schedule =
            ap₂ ◌&&◌ (eq-eqb (length (front on s)) (length prices) (front_length on s ∙ eqb-true (length s) (length prices) sized.0))
            (front-outputs u.generator on s sized.1);
        kept =
            ap₂ ◌&&◌
            (ap₂ ◌&&◌ (ap₂ ◌&&◌ times (less-within 4 (on_intervals (front on s)) (on_intervals s) u.limits.hours (front-on on s) hours.1))
            (less-within 4 (output_sum (front on s)) (output_sum s) u.limits.mwh (front-output on s) mwh.1))
            (front-shut (opens_in u.permit) 0 on s shut.1);
      }

  pub none-lower-none : NoRival (run_at u Starts less) prices → NoRival u prices
  none-lower-none none s v = none (front (was_on u.opening) s) (front-rival s v)
