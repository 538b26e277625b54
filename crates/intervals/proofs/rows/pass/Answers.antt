-- Each sum stays far inside an i64, so each number reads back as the number that it is.
use Rattle.std.proofs.Common.{rules, ◌≡◌, ap, ◌+◌, arith, ℕ, List, ℤ, pos, ◌+ℤ◌, to_z, of_z, w64}
use mathlib.Core.Logic.{⊎_elim}
use lib.Dec.{lit<}
use lib.ListN.{get_or, set}
use Rattle.integers.specs.Maximum.{maxℤ}
use Rattle.integers.proofs.Maximum.{max-is}
use Rattle.integers.proofs.Ranges.{Within, within-abs, within-weaken, within-sum, within-fits, plain, plain_fits}
use Rattle.geometry.specs.Layers.{swing}
use Rattle.intervals.specs.Ladders.{most_brought}
use Rattle.intervals.specs.Stretches.{Carries, carried_most}
use Rattle.intervals.proofs.rows.pass.Goals as goal

module _ (cells : List ℤ) (to from : ℕ) (best gain rise : ℤ) (r : Carries cells to from best gain rise) where
  -- the best with the rise, and the best of this place with the gain
  risen : Within (carried_most + swing) (best +ℤ rise)
  risen = within-sum (within-weaken r.carried (within-abs best)) (within-weaken r.rises (within-abs rise))

  gained : Within (carried_most + swing + most_brought) (maxℤ (get_or cells from (pos 0)) (best +ℤ rise) +ℤ gain)
  gained =
      let number = get_or cells from (pos 0) in
      let carried : Within (carried_most + swing) (maxℤ number (best +ℤ rise)) =
      ⊎_elim (λ e. rw e (within-weaken (omega (arith, r.number)) (within-abs number))) (λ e. rw e risen) (max-is number (best +ℤ rise)).one_of in
      within-sum carried (within-weaken r.gains (within-abs gain))

pub overflow_add-next : goal.overflow_add-next
overflow_add-next c =
    let a = c.args in
    let next =
    rw (plain_fits {x = get_or c.args.scratch.now c.args.from (pos 0)} (search rules), plain_fits c.ranges.best, plain_fits c.ranges.rise, plain (risen _ _ _ _ _ _ c.requires) (lit< tt)) at
    c.larger-next.ensures in
    rw (plain_fits {x = c.larger-next.result} (record { sfits = c.larger-next.type_inv }), plain_fits c.ranges.gain, next)
    (within-fits (gained a.scratch.now a.to a.from a.best a.gain a.rise c.requires) (lit< tt))

pub returns : goal.returns
returns c =
    let a = c.args in
    let next =
    rw (plain_fits {x = get_or c.args.scratch.now c.args.from (pos 0)} (search rules), plain_fits c.ranges.best, plain_fits c.ranges.rise, plain (risen _ _ _ _ _ _ c.requires) (lit< tt)) at
    c.larger-next.ensures in
    let back : to_z w64 (of_z w64 c.larger-next.result) ≡ c.larger-next.result = plain_fits (record { sfits = c.larger-next.type_inv }) in
    let off : to_z w64 (of_z w64 (get_or a.scratch.now a.to (pos 0))) ≡ get_or a.scratch.now a.to (pos 0) =
    plain_fits (search rules) in
    let most = gained a.scratch.now a.to a.from a.best a.gain a.rise c.requires in
    let stored = rw (off, back, plain_fits c.ranges.gain, next, plain most (lit< tt)) at c.larger.ensures in
    rw (back, plain_fits {x = c.larger.result} (record { sfits = c.larger.type_inv }))
    (record { carried = next; stored = ap (set a.scratch.now a.to) (rw next stored) })
