-- The line of the cause's number, and the bytes that it took.
use Rattle.std.proofs.Common.{ap, ◌∙◌}
use Rattle.listing.specs.Listing.{bytes_in}
use Rattle.answers.proofs.Printing.{answered-as, bytes-are}
use Rattle.answers.proofs.refuse.Goals as goal

pub returns-clause-value : goal.returns-clause-value
returns-clause-value c =
    let wrote = rw c.from-number.ensures at c.write_refusal-written.ensures.value in
    answered-as c.from-number.ensures (c.unwrap_or.ensures ∙ bytes-are c.write_refusal-written.result ∙ ap bytes_in wrote)

pub returns-clause-out_after : goal.returns-clause-out_after
returns-clause-out_after c = rw c.from-number.ensures at c.write_refusal-written.ensures.out_after
