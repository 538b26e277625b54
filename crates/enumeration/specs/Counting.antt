-- The tally: numbers of 64 bits that count, and what a case, its expected answer and the calls' answers add to them.
use Rattle.std.specs.Prelude.{ℕ, ◌+◌, ◌%◌, ◌^◌, Bool, cond, not, replicate, [], ◌∷◌, fold}
use Rattle.enumeration.specs.declared.tally.Agreed.{Agreed}
use Rattle.enumeration.specs.declared.tally.Tally.{Tally}

-- a count, one higher where there is one more
abbrev pub counted : ℕ → Bool → ℕ
counted count more = cond more ((count + 1) % 2 ^ 64) count

abbrev pub nothing : Tally
nothing =
    record {
      cases = 0;
      planned = 0;
      refused = 0;
      missing = 0;
      negative = 0;
      tied = 0;
      was_on = 0;
      was_off = 0;
      differences = 0;
      dates = replicate 5 0;
      texts = replicate 3 0;
      limited = replicate 8 0;
      worths = record { starts = replicate 6 0; hours = replicate 6 0; mwh = replicate 6 0 };
    }

-- each call that does not agree is a difference
abbrev pub differing : ℕ → Agreed → ℕ
differing count agreed =
    fold (λ n agrees. counted n (not agrees)) count (agreed.plan ∷ agreed.value ∷ agreed.report ∷ agreed.assess ∷ [])
