use Rattle.std.proofs.Common.{◌≡◌, refl, ◌∙◌, ◌-◌, pos, length, get_or, arith}
use mathlib.Core.Path.{ap₂, sym, subst}
use mathlib.Core.List.{List}
use lib.IntN.{ℤ}
use Prim.Native.Nat.{ℕ}
use Rattle.geometry.specs.Geometry.{width}
use Rattle.intervals.proofs.Stretches.{put_in}
use Rattle.months.specs.Annual.{place_of, Stands}
use Rattle.months.proofs.Slots.{place-fits}
use Rattle.months.proofs.Standing.{last-stands, last-beyond}
use Rattle.months.proofs.annual.chain.Goals as goal
use Rattle.months.proofs.annual.chain.Goals.{After-put}

pub place_of-at-requires : goal.place_of-at-requires
place_of-at-requires c =
    let a = c.args in
    let year = c.requires.0.year in
    omega (arith, place-fits a.y (length a.cells.now) a.prices.now a.cuts.now year (length a.cuts.now - 1) (omega (arith, year.months.some)), year.fits)

pub put-requires : goal.put-requires
put-requires c =
    let a = c.args in
    let year = c.requires.0.year in
    omega (
      arith,
      c.place_of-at.ensures,
      place-fits a.y (length a.cells.now) a.prices.now a.cuts.now year (length a.cuts.now - 1) (omega (arith, year.months.some)),
      year.fits,
    )

-- what is put
put_is : (c : After-put) →
    c.put.new.scratch ≡ put_in c.args.cells.now (place_of c.args.y (length c.args.cuts.now - 1)) (width c.args.y.figures) (pos 0)
put_is c = c.put.ensures ∙ ap₂ (λ (at w : ℕ). put_in c.args.cells.now at w (pos 0)) c.place_of-at.ensures c.requires.0.year.wide

pub back-requires-clause-stands : goal.back-requires-clause-stands
back-requires-clause-stands c =
    let a = c.args in
    subst (λ (cells : List ℤ). Stands a.y a.prices.now a.cuts.now cells (length a.cuts.now - 1))
    (sym (put_is (goal.at.back-requires-clause-stands c).After-put))
    (last-stands a.y (length a.cells.now) a.prices.now a.cuts.now c.requires.0.year a.cells.now refl)

pub returns : goal.returns
returns c =
    let a = c.args in
    record {
      stands = c.back.ensures.stands;
      beyond = λ j out.
          c.back.ensures.beyond j out
          ∙ subst (λ (cells : List ℤ). get_or cells j (pos 0) ≡ get_or a.cells.now j (pos 0)) (sym (put_is (goal.at.returns c).After-put))
          (last-beyond a.y (length a.cells.now) a.prices.now a.cuts.now c.requires.0.year a.cells.now refl j out);
    }
