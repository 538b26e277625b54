-- Three lines, one after the other.
use Rattle.std.proofs.Common.{List, ℕ, ◌++◌, arith}
use lib.ListN.{length-append}
use Rattle.commitment.specs.declared.Outcome.{Outcome}
use Rattle.listing.specs.Listing.{outcome_text, closed, starts_lead, hours_lead, mwh_lead}
use Rattle.listing.proofs.Writing.{put_then}
use Rattle.listing.proofs.put_outcomes.Goals as goal

-- a line of the outcomes
abbrev line : List ℕ → Outcome → List ℕ
line name outcome = closed (name ++ outcome_text outcome)

pub returns : goal.returns
returns c =
    let o = c.args.outcomes in
    let rest = length-append (line hours_lead o.hours) (line mwh_lead o.mwh) in
    let whole = length-append (line starts_lead o.starts) (line hours_lead o.hours ++ line mwh_lead o.mwh) in
    put_then (omega (arith, whole)) c.put_outcome_line-second.ensures
    (put_then (omega (arith, whole, rest)) c.put_outcome_line-third.ensures c.put_outcome_line.ensures)
