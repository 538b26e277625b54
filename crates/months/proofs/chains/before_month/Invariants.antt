-- The cells whose parts above the box have smaller numbers than j are made, and all else is as it was.
use Rattle.months.specs.Chaining.{MonthAsked}
use Rattle.months.proofs.Parts.{Partly}
use Rattle.months.proofs.chains.before_month.Given as goal

abbrev pub invariant-loop-j : goal.invariant-loop-j
invariant-loop-j l =
    (asked : MonthAsked l.f l.initial.cells l.prices l.hours l.m l.at) → Partly l.f l.prices l.hours l.m l.at l.initial.cells asked l.cells l.j
