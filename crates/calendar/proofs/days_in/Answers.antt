-- A month that there is has the days between two entries of the table.
use Rattle.std.proofs.Common.{rules, ◌≡◌, sym, ap, ◌∙◌, ℕ, suc, ◌+◌, ◌-◌, ◌≤◌, Bool, arith}
use Rattle.calendar.specs.Dates.{leap, days_in, days_before}
use Rattle.calendar.proofs.Tables.{month-sums}
use Rattle.calendar.proofs.days_in.Goals as goal

-- what the two calls give is a month apart
apart : (year month first last : ℕ) (leaps : Bool) → 1 ≤ month → month ≤ 12 → leaps ≡ leap year → first ≡ days_before leaps (suc (month - 1))
    → last ≡ days_before leaps (suc month) → first + days_in year month ≡ last
apart year month first last leaps lo hi is before after =
    let same : (m : ℕ) → days_before leaps m ≡ days_before (leap year) m = λ m. ap (λ (l : Bool). days_before l m) is in
    let at : suc (month - 1) ≡ month = omega arith in
    ap (λ (n : ℕ). n + days_in year month) (before ∙ same (suc (month - 1)) ∙ ap (days_before (leap year)) at)
    ∙ month-sums (leap year) month (search rules)
    ∙ sym (after ∙ same (suc month))

pub overflow_sub-result : goal.overflow_sub-result
overflow_sub-result c =
    omega (
      arith,
      apart c.args.year c.args.month c.days_before-2.result c.days_before.result c.is_leap-leap.result (omega arith) (omega arith)
          c.is_leap-leap.ensures c.days_before-2.ensures c.days_before.ensures,
    )
