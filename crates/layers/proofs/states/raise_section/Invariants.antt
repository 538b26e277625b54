-- The spans below x more than are skipped are done.
use Rattle.std.proofs.Common.{◌+◌}
use Rattle.intervals.proofs.Passes.{SpansDone}
use Rattle.layers.proofs.states.raise_section.Given as goal

abbrev pub invariant-loop-x : goal.invariant-loop-x
invariant-loop-x l = SpansDone l.f l.l l.fn.scratch l.to l.from l.takes l.scratch (l.takes + l.x)
