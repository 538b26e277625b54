-- What the intervals of a part spend, counted one after the other.
use mathlib.Core.Path.{◌≡◌, refl, ap, ◌∙◌}
use mathlib.Core.Bool.{Bool, true, false, cond, ◌&&◌}
use mathlib.Core.List.{List, [], ◌∷◌}
use Prim.Native.Nat.{ℕ, zero, suc, ◌+◌, ◌-◌, ◌*◌, ◌≤◌, ◌<◌}
use native.Mathlib.Nat.{min-le_left, min-le_right}
use native.Mathlib.Omega.{arith}
use lib.ListN.{length, take, drop, get_or, drop_of_length-le, length-take, length-drop}
use lib.Seq.{drop-drop, get_or-take, get_or-drop}
use Rattle.lists.proofs.Fills.{drop-next}
use Rattle.calendar.specs.Months.{year_intervals}
use Rattle.commitment.specs.declared.Limits.{Limits}
use Rattle.commitment.specs.Bounds.{most_mw}
use Rattle.commitment.specs.Keeping.{starts_in, on_intervals, output_sum}
use Rattle.commitment.specs.Months.{Month, on_after, keeps_in, keeps_months}
use Rattle.commitment.specs.Cuts.{months_between}
use Rattle.commitment.proofs.Cutting.{between_next}
use Rattle.assessment.specs.declared.months.Counts.{Counts}
use Rattle.assessment.specs.Counting.{counts, counts_of, counted, Room, Outputs}

-- ---- an output that is 0, and one that is not, as the code tests them

module _ (at : Counts) where
  pub counted-off : (m : ℕ) → m ≡ 0 → counts false at.starts at.running at.output ≡ counted at m
  counted-off zero e = refl
  counted-off (suc m) e = absurd (omega arith)

  pub counted-on : (m : ℕ) → (m ≡ 0 → ⊥) → counts true (at.starts + cond at.on 0 1) (at.running + 1) (at.output + m) ≡ counted at m
  counted-on zero e = absurd (e refl)
  counted-on (suc m) e = refl

-- ---- one interval after the other

abbrev pub counted_over : Counts → List ℕ → Counts
counted_over at [] = at
counted_over at (m ∷ s) = counted_over (counted at m) s

same-counts : (on : Bool) {a a' b b' d d' : ℕ} → a ≡ a' → b ≡ b' → d ≡ d' → counts on a b d ≡ counts on a' b' d'
same-counts on e f g = cc

pub counted-over : (on : Bool) (starts running output : ℕ) (s : List ℕ)
    → counted_over (counts on starts running output) s
    ≡ counts (on_after on s) (starts + starts_in on s) (running + on_intervals s) (output + output_sum s)
counted-over on starts running output [] = same-counts on (omega arith) (omega arith) (omega arith)
counted-over on starts running output (zero ∷ s) =
    counted-over false starts running output s ∙ same-counts (on_after false s) refl refl (omega arith)
counted-over true starts running output (suc m ∷ s) =
    counted-over true (starts + 0) (running + 1) (output + suc m) s ∙ same-counts (on_after true s) (omega arith) (omega arith) (omega arith)
counted-over false starts running output (suc m ∷ s) =
    counted-over true (starts + 1) (running + 1) (output + suc m) s ∙ same-counts (on_after true s) (omega arith) (omega arith) (omega arith)

pub counted-whole : (on : Bool) (s : List ℕ) → counted_over (counts on 0 0 0) s ≡ counts_of on s
counted-whole on s = counted-over on 0 0 0 s ∙ same-counts (on_after on s) (omega arith) (omega arith) (omega arith)

pub counted_next : (at : Counts) (s : List ℕ) (i : ℕ) → i < length s
    → counted_over at (drop i s) ≡ counted_over (counted at (get_or s i 0)) (drop (i + 1) s)
counted_next at s i h = rw (drop-next s i 0 h)

pub counted-end : (at : Counts) (s : List ℕ) (i : ℕ) → length s ≤ i → counted_over at (drop i s) ≡ at
counted-end at s i h = rw (drop_of_length-le s {i = i} h)

-- ---- they stay small: so much for each interval

pub record Few (i : ℕ) (at : Counts) : Type 0 where
  pub starts : at.starts ≤ i
  pub running : at.running ≤ i
  pub output : at.output ≤ most_mw * i

pub few-room : (i : ℕ) (at : Counts) → i ≤ year_intervals → Few i at → Room at
few-room i at h f = record { starts = omega arith; running = omega arith; output = omega arith }

pub few-next : (i : ℕ) (at : Counts) (m : ℕ) → m ≤ most_mw → Few i at → Few (i + 1) (counted at m)
few-next i at zero h f = record { starts = omega arith; running = omega arith; output = omega arith }
few-next i at (suc m) h f = record { starts = begun at.on; running = omega arith; output = omega arith }
  where
    begun : (on : Bool) → at.starts + cond on 0 1 ≤ i + 1
    begun true = omega arith
    begun false = omega arith

-- ---- month by month

-- the part of a schedule from one place to before another
abbrev pub between : ℕ → ℕ → List ℕ → List ℕ
between from to s = take (to - from) (drop from s)

module _ (from to : ℕ) (s : List ℕ) where
  abbrev rest : ℕ
  rest = length (drop from s)

  pub between-short : length (between from to s) ≤ length s
  between-short = omega (arith, length-take (to - from) (drop from s), min-le_right (to - from) rest, length-drop from s)

  pub between-outputs : Outputs s → Outputs (between from to s)
  between-outputs small i h =
      let long = length-take (to - from) (drop from s) in
      let here = get_or-take (to - from) (drop from s) i 0 (omega (arith, min-le_left (to - from) rest)) ∙ get_or-drop from s i 0 in
      omega (arith, small (from + i) (omega (arith, min-le_right (to - from) rest, length-drop from s)))

module _ (limits : Limits) (cuts : List ℕ) (count : ℕ) (s : List ℕ) where
  -- from month k on, and from the state before it
  abbrev pub kept_from : ℕ → Bool → Bool
  kept_from k on = keeps_months (months_between limits cuts k (count - k)) on (drop (get_or cuts k 0) s)

  abbrev pub month_part : ℕ → List ℕ
  month_part k = between (get_or cuts k 0) (get_or cuts (k + 1) 0) s

  pub kept_next : (k : ℕ) (on : Bool) → k < count → get_or cuts k 0 ≤ get_or cuts (k + 1) 0
      → kept_from k on ≡ (keeps_in limits on (month_part k) && kept_from (k + 1) (on_after on (month_part k)))
  kept_next k on h up =
      let from = get_or cuts k 0 in
      let to = get_or cuts (k + 1) 0 in
      let rest : from + (to - from) ≡ to = omega arith in
      ap (λ (months : List Month). keeps_months months on (drop from s)) (between_next limits cuts k count h)
      ∙ ap
      (λ (later : List ℕ). keeps_in limits on (month_part k) && keeps_months (months_between limits cuts (k + 1) (count - (k + 1))) (on_after on (month_part k)) later)
      (drop-drop (to - from) from s ∙ ap (λ (j : ℕ). drop j s) rest)

  pub kept-end : (k : ℕ) (on : Bool) → count ≤ k → kept_from k on ≡ true
  kept-end k on h =
      ap (λ (left : ℕ). keeps_months (months_between limits cuts k left) on (drop (get_or cuts k 0) s)) (let e : count - k ≡ 0 = omega arith in e)
