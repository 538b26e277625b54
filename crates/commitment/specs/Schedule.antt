-- What a schedule is (specification 4): an output in MW for each interval.
use Rattle.std.specs.Prelude.{Bool, true, ◌&&◌, List, ℕ, zero, suc, ◌*◌, ◌%◌, leb, eqb, length}
use Rattle.commitment.specs.declared.Generator.{Generator}
use Rattle.lists.specs.Every.{every}

-- 0 (off), or a multiple of block from pmin × block to pmax × block
abbrev pub is_output : Generator → ℕ → Bool
is_output g zero = true
is_output g (suc m) =
    eqb (suc m % g.block) 0 && leb (g.pmin * g.block) (suc m) && leb (suc m) (g.pmax * g.block)

-- one output for each of n intervals
abbrev pub is_schedule : Generator → ℕ → List ℕ → Bool
is_schedule g n schedule = eqb (length schedule) n && every (is_output g) schedule
