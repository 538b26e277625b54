use Rattle.std.proofs.Common.{ℕ, ◌+◌, ◌/◌, List, ◌++◌, sym, ap, ◌∙◌, arith}
use lib.ListN.{drop}
use Rattle.lists.proofs.Fills.{fill-next}
use Rattle.calendar.specs.Clock.{shown}
use Rattle.checking.proofs.Clocks.{each-count, each_next}
use Rattle.checking.proofs.clock.fill.Goals as goal

pub loop-i-preserved : goal.loop-i-preserved
loop-i-preserved c =
    let l = c.loop-i in
    let hour : ℕ → ℕ = λ i. shown c.args.clock (i / 4) in
    let s₀ = c.args.hours.now in
    rw (c.hour_after.ensures, l.invariant)
    (fill-next _ s₀ l.i (each-count hour 0 l.i) (hour l.i) (omega (arith, c.loop-i-test.true))
    ∙ ap (λ (t : List ℕ). t ++ drop (l.i + 1) s₀) (sym (each_next hour l.i)))
