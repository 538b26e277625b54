-- One layer more, by the layer behind it.
use Rattle.std.proofs.Common.{rules, ◌≡◌, sym, ℕ, suc, ◌+◌, ◌-◌, ◌*◌, ◌≤◌, ◌<◌, length, pos, arith}
use native.Mathlib.Nat.{mul-le-mul_right}
use lib.ListN.{get_or, length-drop}
use Rattle.integers.proofs.Ranges.{plain_fits}
use Rattle.commitment.specs.Windows.{opens}
use Rattle.optimality.proofs.Quarters.{quarters-length, quarter-at}
use Rattle.geometry.specs.Geometry.{width}
use Rattle.layers.specs.Filling.{quarters_on}
use Rattle.layers.proofs.Filling.{layer-small, filled-last, filled_next, filled-beyond}
use Rattle.layers.proofs.fill.Goals as goal

pub loop-t-init : goal.loop-t-init
loop-t-init c =
    let a = c.args in
    λ ends last.
    rw (quarters-length (opens a.hours) a.first a.prices.now) at (filled-last a.f ends (quarters_on a.hours a.first a.prices.now) a.scratch.now last)

-- by the ends that the last layer is known to have
pub fill_layer-requires : goal.fill_layer-requires
fill_layer-requires c =
    let a = c.args in
    let l = c.loop-t in
    let room = c.requires.room in
    let w = width a.f in
    let t = l.t - 1 in
    let many = quarters-length (opens a.hours) a.first a.prices.now in
    let filled = l.invariant c.requires.ended.ends (rw many c.requires.ended.last) in
    let last : l.t ≤ length a.prices.now = omega arith in
    let inside : t < length a.prices.now = omega (arith, last, c.loop-t-test.true) in
    let next : t * w + w ≡ l.t * w = omega (arith, one-more t l.t w (omega (arith, c.loop-t-test.true))) in
    let all : (l.t + 1) * w ≤ (length a.prices.now + 1) * w = mul-le-mul_right w (omega (arith, last)) in (
      record { sound = room.0.sound; priced = rw (plain_fits {x = get_or a.prices.now t (pos 0)} (search rules)) (room.2 t inside) },
      room.1,
      rw (room.1, next)
          (record {
            before = omega arith;
            fits = omega (arith, all, room.0.fits, filled.same);
            small =
                layer-small a.f l.scratch (l.t * w) (omega (arith, length-drop l.t (quarters_on a.hours a.first a.prices.now), many, room.0.short))
                (filled.layers l.t (omega arith) (omega (arith, last, many)));
          }),
    )
  where
    one-more : (t next w : ℕ) → next ≡ suc t → next * w ≡ t * w + w
    one-more t next w e = rw e (omega arith)

pub loop-t-preserved : goal.loop-t-preserved
loop-t-preserved c =
    let a = c.args in
    let l = c.loop-t in
    let room = c.requires.room in
    let t = l.t - 1 in
    let quarters = quarters_on a.hours a.first a.prices.now in
    let many = quarters-length (opens a.hours) a.first a.prices.now in
    let inside : t < length a.prices.now = omega (arith, c.loop-t-test.true) in
    let one : suc t ≡ l.t = omega (arith, c.loop-t-test.true) in
    let is = quarter-at (opens a.hours) a.first a.prices.now t inside in
    let made =
    rw (plain_fits {x = get_or a.prices.now t (pos 0)} (search rules), room.1, c.opens_in.ensures, ← is) at c.fill_layer.ensures in
    λ ends last.
    filled_next a.f ends quarters a.scratch.now room.0.sound
    (λ i h. let at : i < length a.prices.now = omega (arith, h, many) in rw (quarter-at (opens a.hours) a.first a.prices.now i at) (room.2 i at))
    (omega (arith, many, room.0.short)) l.scratch c.fill_layer.new.scratch t (omega (arith, many, inside)) c.fill_layer.auto.scratch
    (rw (sym one) at (l.invariant ends last))
    made

pub returns-clause-beyond : goal.returns-clause-beyond
returns-clause-beyond c =
    let a = c.args in
    let l = c.loop-t in
    let many = quarters-length (opens a.hours) a.first a.prices.now in
    let z : l.t ≡ 0 = omega (arith, c.loop-t-test.false) in
    rw (c.requires.room.1, ← many)
    (filled-beyond a.f c.requires.ended.ends (quarters_on a.hours a.first a.prices.now) a.scratch.now l.scratch
    (rw z at (l.invariant c.requires.ended.ends (rw many c.requires.ended.last))))
