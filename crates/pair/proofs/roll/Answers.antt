-- One interval earlier a turn, and the first one at the front.
use Rattle.std.proofs.Common.{rules, ◌≡◌, sym, ◌∙◌, ℕ, ℤ, List, suc, ◌+◌, ◌-◌, ◌≤◌, ◌<◌, length, pos, arith}
use lib.ListN.{get_or}
use Rattle.integers.proofs.Ranges.{plain_fits}
use Rattle.commitment.specs.Bounds.{most_intervals}
use Rattle.commitment.specs.Types.{Hours}
use Rattle.commitment.specs.Windows.{opens}
use Rattle.optimality.specs.declared.Figures.{Figures}
use Rattle.optimality.proofs.Quarters.{quarters-length}
use Rattle.layers.specs.Filling.{quarters_in, between}
use Rattle.layers.proofs.Between.{between-length}
use Rattle.pair.specs.Rolling.{RollAsked}
use Rattle.pair.proofs.Rolling.{readable, one_earlier, front-beyond}
use Rattle.pair.proofs.roll.Goals as goal

pub earlier-requires : goal.earlier-requires
earlier-requires c =
    let a = c.args in
    let k = c.requires in
    let l = c.loop-t in
    let t = l.t - 1 in
    let inside : t < a.to = omega (arith, c.loop-t-test.true) in
    let one : suc t ≡ l.t = omega (arith, c.loop-t-test.true) in (
      record {
        sound = k.sound;
        priced = rw (plain_fits {x = get_or a.prices.now t (pos 0)} (search rules)) (k.priced t (omega (arith, inside, k.inside)));
      },
      k.wide,
      readable a.f a.w a.prices.now a.scratch.now a.hours a.from a.to k k.ends k.ahead k.few l.scratch t (omega (arith, c.loop-t-test.true)) inside
          l.auto.scratch (rw (sym one) at (l.invariant.1 k.ends k.ahead k.few k.last)),
    )

pub loop-t-preserved : goal.loop-t-preserved
loop-t-preserved c =
    let a = c.args in
    let l = c.loop-t in
    let t = l.t - 1 in
    let inside : t < a.to = omega (arith, c.loop-t-test.true) in
    let one : suc t ≡ l.t = omega (arith, c.loop-t-test.true) in
    let made = rw (plain_fits {x = get_or a.prices.now t (pos 0)} (search rules), c.opens_in.ensures) at c.earlier.ensures in (
      omega (arith, c.loop-t-test.true),
      (λ ends n few last.
          one_earlier a.f a.w a.prices.now a.scratch.now a.hours a.from a.to c.requires ends n few t (omega (arith, c.loop-t-test.true)) inside _ _
          (rw (sym one) at (l.invariant.1 ends n few last)) made.inside),
      made.beyond ∙ l.invariant.2,
    )

pub fill_layer-requires : goal.fill_layer-requires
fill_layer-requires c =
    let a = c.args in
    let k = c.requires in
    let l = c.loop-t in
    let last : l.t ≡ suc a.from = omega (arith, c.loop-t-test.false, l.invariant.0) in (
      record {
        sound = k.sound;
        priced = rw (plain_fits {x = get_or a.prices.now a.from (pos 0)} (search rules)) (k.priced a.from (omega (arith, k.some, k.inside)));
      },
      k.wide,
      readable a.f a.w a.prices.now a.scratch.now a.hours a.from a.to k k.ends k.ahead k.few l.scratch a.from (omega arith) k.some l.auto.scratch
          (rw last at (l.invariant.1 k.ends k.ahead k.few k.last)),
    )

-- the quarters are as many as the intervals
within : {f : Figures} {w : ℕ} {prices cells : List ℤ} {hours : Hours} {from to : ℕ} → RollAsked f w prices cells hours from to → (n : ℕ)
    → n + length (between (quarters_in hours prices) from to) ≤ most_intervals → n + (to - from) ≤ most_intervals
within {f} {w} {prices} {cells} {hours} {from} {to} k n short =
    omega (
      arith,
      between-length (quarters_in hours prices) from to (omega (arith, k.some)) (omega (arith, quarters-length (opens hours) 0 prices, k.inside)),
    )

pub returns-clause-rolled_by : goal.returns-clause-rolled_by
returns-clause-rolled_by c =
    let a = c.args in
    let l = c.loop-t in
    let last : l.t ≡ suc a.from = omega (arith, c.loop-t-test.false, l.invariant.0) in
    let made = rw (plain_fits {x = get_or a.prices.now a.from (pos 0)} (search rules), c.opens_in-2.ensures) at c.fill_layer.ensures in
    λ ends n short ended.
    let few = within c.requires n short in
    one_earlier a.f a.w a.prices.now a.scratch.now a.hours a.from a.to c.requires ends n few a.from (omega arith) c.requires.some _ _
    (rw last at (l.invariant.1 ends n few ended))
    made.inside

pub returns-clause-beyond : goal.returns-clause-beyond
returns-clause-beyond c =
    let a = c.args in
    let made = rw (plain_fits {x = get_or a.prices.now a.from (pos 0)} (search rules), c.opens_in-2.ensures) at c.fill_layer.ensures in
    rw c.requires.wide (front-beyond a.f _ c.loop-t.scratch c.fill_layer.new.scratch c.fill_layer.auto.scratch made ∙ c.loop-t.invariant.2)
