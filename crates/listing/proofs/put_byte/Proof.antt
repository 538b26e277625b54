-- One store is one byte written.
use mathlib.Core.Path.{refl}
use borrow.Author.Rules.{rules}
use Rattle.listing.proofs.Writing.{written_byte}
use Rattle.listing.proofs.put_byte.Statement.{statement}
use Rattle.listing.proofs.put_byte.Tie as tie

returns : tie.Need-returns
returns c = record { place = refl; bytes = written_byte c.args.out.now c.args.at c.args.byte c.requires }

pub put_byte_spec : {M : Type 1} → statement M
put_byte_spec = tie.close (tie.spec (λ c. search rules) (λ c. search rules) (λ c. search rules) returns)
