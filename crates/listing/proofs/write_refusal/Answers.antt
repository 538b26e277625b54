-- Where it fits: name, number, line end.
use Rattle.std.proofs.Common.{◌≡◌, refl, ◌∙◌, ◌+◌, length, arith}
use borrow.Author.Tests.{le-leb, lt-leb}
use lib.ListN.{length-append}
use Rattle.listing.specs.Numbers.{number}
use Rattle.listing.specs.Listing.{refused_lead, refusal}
use Rattle.listing.proofs.Numbers.{number_short}
use Rattle.listing.proofs.Lengths.{refusal-length}
use Rattle.listing.proofs.Fitting.{after-written, after-refused}
use Rattle.listing.proofs.Writing.{put_then}
use Rattle.listing.proofs.write_refusal.Goals as goal

pub overflow_add-bytes : goal.overflow_add-bytes
overflow_add-bytes c = omega (arith, number_short c.args.number)

pub returns-then-out-bytes-clause-value : goal.returns-then-out-bytes-clause-value
returns-then-out-bytes-clause-value c =
    simp (lt-leb (length (refusal c.args.number)) (length c.args.out.now) (omega (arith, refusal-length c.args.number)))

pub returns-then-out-bytes-clause-out_after : goal.returns-then-out-bytes-clause-out_after
returns-then-out-bytes-clause-out_after c =
    after-refused (refusal c.args.number) c.args.out.now (omega (arith, refusal-length c.args.number))

pub returns-clause-value : goal.returns-clause-value
returns-clause-value c =
    let text = refusal c.args.number in
    let all = refusal-length c.args.number in
    let is : 9 + c.number_length-bytes.result ≡ length text = omega (arith, all) in
    rw (is, le-leb (length text) (length c.args.out.now) (omega (arith, all))) refl

pub returns-clause-out_after : goal.returns-clause-out_after
unfolding refusal
returns-clause-out_after c =
    let text = refusal c.args.number in
    let all = refusal-length c.args.number in
    let put = put_then (omega (arith, all, length-append refused_lead (number c.args.number)))
    (put_then (omega (arith, all)) c.put_text-value.ensures c.put_number-end.ensures)
    c.put_byte.ensures in
    put.bytes ∙ after-written text c.args.out.now (omega (arith, all))
