-- A month's counts before the rest; all months between the cuts are those of the calendar.
use Rattle.std.specs.Prelude.{List, ℕ, Bool, get_or, drop}
use Rattle.std.proofs.Common.{rules, ◌≡◌, ◌≤◌, ◌<◌, ◌+◌, ◌-◌, sym, ap, ◌∙◌, length, arith}
use mathlib.Core.Path.{ap₂}
use mathlib.Core.Bool.{◌&&◌}
use Prim.Native.Nat.{suc}
use Rattle.calendar.specs.declared.Date.{Date}
use Rattle.commitment.specs.declared.Limits.{Limits}
use Rattle.commitment.specs.declared.cuts.Cuts.{Cuts}
use Rattle.commitment.specs.Months.{Month, keeps_months, months_of}
use Rattle.commitment.specs.Cuts.{months_between, CutsOf}
use Rattle.commitment.proofs.Cutting.{cut_inside}
use Rattle.assessment.specs.declared.months.Counts.{Counts}
use Rattle.assessment.specs.Walking.{spent_within}
use Rattle.assessment.specs.Counting.{counts_of}
use Rattle.assessment.proofs.Counting.{between-short, between-outputs, month_part, kept_from, kept_next, kept-end}
use Rattle.assessment.proofs.months.months_kept.Goals as goal

module _ (d : Date) (limits : Limits) (s : List ℕ) (cuts : Cuts) (made : CutsOf d (length s) cuts) where
  up : (k : ℕ) → k < cuts.count → get_or cuts.at k 0 ≤ get_or cuts.at (k + 1) 0
  up k h =
      let next = ap (λ (j : ℕ). get_or cuts.at j 0) (let e : suc k ≡ k + 1 = omega arith in e) in
      omega (arith, made.grow k h)

  inside : (k : ℕ) → k < cuts.count → get_or cuts.at (k + 1) 0 ≤ length s
  inside k h = cut_inside d (length s) cuts made (k + 1) (omega arith)

  -- a month that is counted, before the rest
  turned : (k : ℕ) (on : Bool) (kept : Bool) (spent : Counts) → k < cuts.count → spent ≡ counts_of on (month_part limits cuts.at cuts.count s k)
      → kept ≡ spent_within limits spent.starts spent.running spent.output
      → (kept && kept_from limits cuts.at cuts.count s (k + 1) spent.on) ≡ kept_from limits cuts.at cuts.count s k on
  turned k on kept spent h counted e =
      ap₂ (λ (kept : Bool) (at : Counts). kept && kept_from limits cuts.at cuts.count s (k + 1) at.on)
      (e ∙ ap (λ (at : Counts). spent_within limits at.starts at.running at.output) counted) counted
      ∙ sym (kept_next limits cuts.at cuts.count s k on h (up k h))

  whole : (was : Bool) → kept_from limits cuts.at cuts.count s 0 was ≡ keeps_months (months_of d limits (length s)) was s
  whole was =
      ap₂ (λ (months : List Month) (from : ℕ). keeps_months months was (drop from s))
      (ap (months_between limits cuts.at 0) (let e : cuts.count - 0 ≡ cuts.count = omega arith in e) ∙ sym (made.months limits))
      made.first

pub slice_bounds-counts_in-end : goal.slice_bounds-counts_in-end
slice_bounds-counts_in-end c =
    inside c.args.date c.args.limits c.args.schedule.now c.cuts_of-cuts.result c.cuts_of-cuts.ensures c.loop-k.k c.loop-k-test.true

pub counts_in-spent-requires : goal.counts_in-spent-requires
counts_in-spent-requires c =
    let cuts = c.cuts_of-cuts.result.at in
    let k = c.loop-k.k in
    let s = c.args.schedule.now in (
      omega (arith, c.requires.within.2, between-short (get_or cuts k 0) (get_or cuts (k + 1) 0) s),
      between-outputs (get_or cuts k 0) (get_or cuts (k + 1) 0) s c.requires.small_limits.1,
    )

pub returns-then-not-spent_within : goal.returns-then-not-spent_within
returns-then-not-spent_within c =
    let a = c.args in
    let cuts = c.cuts_of-cuts in
    turned a.date a.limits a.schedule.now cuts.result cuts.ensures c.loop-k.k c.loop-k.on _ c.counts_in-spent.result c.loop-k-test.true
    c.counts_in-spent.ensures c.if-not-spent_within.ensures
    ∙ c.loop-k.invariant
    ∙ whole a.date a.limits a.schedule.now cuts.result cuts.ensures a.was

pub loop-k-preserved : goal.loop-k-preserved
loop-k-preserved c =
    let a = c.args in
    let cuts = c.cuts_of-cuts in
    turned a.date a.limits a.schedule.now cuts.result cuts.ensures c.loop-k.k c.loop-k.on _ c.counts_in-spent.result c.loop-k-test.true
    c.counts_in-spent.ensures c.if-not-spent_within.ensures
    ∙ c.loop-k.invariant

pub returns : goal.returns
returns c =
    let a = c.args in
    let cuts = c.cuts_of-cuts in
    sym (kept-end a.limits cuts.result.at cuts.result.count a.schedule.now c.loop-k.k c.loop-k.on c.loop-k-test.false)
    ∙ c.loop-k.invariant
    ∙ whole a.date a.limits a.schedule.now cuts.result cuts.ensures a.was
