-- By cases on the word.
use mathlib.Core.Path.{sym, ap}
use native.Mathlib.Omega.{arith}
use lib.ListN.{length}
use Rattle.listing.specs.Types.{HourWord}
use Rattle.listing.specs.Listing.{window_line}
use borrow.Author.Rules.{rules}
use Rattle.listing.proofs.Words.{kept-below}
use Rattle.listing.proofs.Writing.{put-none, put_as}
use Rattle.listing.proofs.put_window.Statement.{statement}
use Rattle.listing.proofs.put_window.Tie as tie

put-hours-requires : tie.Need-put_hours-requires
put-hours-requires c κs =
    let told = c.before in
    let word = c.before.in-Some.is in
    let s = c.before.before.before in
    (kept-below word s.requires.0, omega (arith, ap (λ (w : HourWord). length (window_line w)) word, s.requires.1))

returns : tie.Need-returns-in-None
returns c = put_as (sym (ap window_line c.in-None.is)) (put-none _ _)

returns-2 : tie.Need-returns-in-Some
returns-2 c = put_as (sym (ap window_line c.before.before.before.before.in-Some.is)) c.before.before.put_hours.ensures

pub put_window_spec : {M : Type 1} → statement M
put_window_spec =
    tie.close
    (tie.spec
    (λ c. search rules)
    (λ c. search rules)
    put-hours-requires
    returns
    (λ c. search rules)
    returns-2)
