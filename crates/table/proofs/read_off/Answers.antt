-- Each turn writes the output that the plan has there, by the layers that the table is filled with.
use Rattle.std.proofs.Common.{rules, ◌≡◌, ap, ◌∙◌, ℕ, ℤ, List, suc, ◌+◌, ◌*◌, ◌≤◌, ◌<◌, length, drop, pos, arith}
use native.Mathlib.Nat.{mul-le-mul_right}
use lib.ListN.{get_or, length-drop}
use Rattle.commitment.specs.Types.{BestProfit}
use Rattle.commitment.specs.Bounds.{most_intervals, most_blocks}
use Rattle.commitment.specs.Ranges.{Priced}
use Rattle.commitment.specs.Tries.{tries_over, tries_to}
use Rattle.commitment.proofs.Tries.{tries-most}
use Rattle.integers.proofs.Ranges.{plain_fits}
use Rattle.optimality.specs.declared.Figures.{Figures}
use Rattle.optimality.specs.declared.Cell.{Cell}
use Rattle.optimality.specs.Machine.{Quarter}
use Rattle.optimality.specs.Cells.{Sound}
use Rattle.optimality.proofs.Quarters.{no_quarter}
use Rattle.geometry.specs.Geometry.{width, index}
use Rattle.geometry.specs.Layers.{Room, stored_at}
use Rattle.geometry.proofs.Places.{index-lt}
use Rattle.intervals.specs.Stretches.{Small}
use Rattle.intervals.proofs.Turning.{pmax-most}
use Rattle.layers.proofs.Filling.{layer-small}
use Rattle.table.specs.Reading.{PlanFrom, chosen}
use Rattle.table.proofs.Choosing.{Chosen}
use Rattle.table.proofs.Plans.{as_many, same-price, priced-over, ReadTurn, read-turn}
use Rattle.table.proofs.Plans.{Written, written_next, front-all, written_all, tries-next}
use Rattle.table.proofs.read_off.Goals as goal

-- what a turn finds
module _ (f : Figures) (prices cells : List ℤ) (from : Cell) (old now : List ℕ) (t : ℕ) (c : Cell) (room : Room f (length prices) (length cells))
    (priced : Priced prices) (inside : t < length prices) (ends : Cell → BestProfit) (quarters : List Quarter)
    (given : PlanFrom f ends prices cells from quarters) (so_far : Written f ends quarters from old now t c) where
  many : length quarters ≡ length prices
  many = as_many f ends prices cells from quarters given

  next : t * width f + width f ≡ suc t * width f
  next = omega arith

  two : t * width f + width f + width f ≤ length cells
  two = let d : (t + 2) * width f ≤ (length prices + 1) * width f = mul-le-mul_right (width f) (omega (arith, inside)) in omega (arith, d, room.fits)

  place : t * width f + index f c < length cells
  place = omega (arith, two, index-lt f c so_far.inside)

  small : Small cells (t * width f + width f) (width f)
  small =
      let few : length (drop (suc t) quarters) ≤ most_intervals = omega (arith, length-drop (suc t) quarters, many, room.short) in
      rw next (layer-small f cells (suc t * width f) few (given.filled.layers (suc t) (omega (arith, inside, many))))

  read : ReadTurn f ends (get_or quarters t no_quarter) (drop (suc t) quarters) (stored_at f cells (t * width f + width f)) c
      (get_or cells (t * width f + index f c) (pos 0))
  read =
      rw next
      (read-turn f ends quarters cells t c room.sound (priced-over f ends prices cells from quarters given priced) (omega (arith, many, room.short))
      given.filled
      (omega (arith, many, inside))
      so_far.inside
      so_far.some)

  -- the choice is the plan's
  plans : (k : ℕ) → k ≡ chosen f (stored_at f cells (t * width f + width f)) c (get_or prices t (pos 0)) (get_or cells (t * width f + index f c) (pos 0))
      → Chosen f ends (get_or quarters t no_quarter) (drop (suc t) quarters) c k
  plans k e = rw (e, ← same-price f ends prices cells from quarters given t) read.choice

pub overflow_add-best : goal.overflow_add-best
overflow_add-best c =
    let a = c.args in
    let l = c.loop-t in
    let room = c.requires.room in
    let g = c.requires.plan_from in
    rw (c.index.ensures, room.1)
    (omega (
      arith,
      place a.f a.prices.now a.scratch.now a.from a.schedule.now l.schedule l.t l.c room.0 room.2 c.loop-t-test.true g.0 g.1 g.2
          (l.invariant.2 g.0 g.1 g.2),
    ))

pub offset_bounds-scratch-at : goal.offset_bounds-scratch-at
offset_bounds-scratch-at c =
    let a = c.args in
    let l = c.loop-t in
    let room = c.requires.room in
    let g = c.requires.plan_from in
    rw (c.index.ensures, room.1)
    (omega (
      arith,
      place a.f a.prices.now a.scratch.now a.from a.schedule.now l.schedule l.t l.c room.0 room.2 c.loop-t-test.true g.0 g.1 g.2
          (l.invariant.2 g.0 g.1 g.2),
    ))

pub bounds-scratch-at : goal.bounds-scratch-at
bounds-scratch-at c =
    let a = c.args in
    let l = c.loop-t in
    let room = c.requires.room in
    let g = c.requires.plan_from in
    rw (c.index.ensures, room.1)
    (place a.f a.prices.now a.scratch.now a.from a.schedule.now l.schedule l.t l.c room.0 room.2 c.loop-t-test.true g.0 g.1 g.2
    (l.invariant.2 g.0 g.1 g.2))

pub choose-found-requires-clause-interval : goal.choose-found-requires-clause-interval
choose-found-requires-clause-interval c =
    let a = c.args in
    let l = c.loop-t in
    let room = c.requires.room in
    let g = c.requires.plan_from in
    let so_far = l.invariant.2 g.0 g.1 g.2 in
    let inside = c.loop-t-test.true in
    rw (plain_fits {x = get_or a.prices.now l.t (pos 0)} (search rules), room.1) (
      record { sound = room.0.sound; priced = room.2 l.t inside },
      so_far.inside,
      record {
        fits = omega (arith, two a.f a.prices.now a.scratch.now a.from a.schedule.now l.schedule l.t l.c room.0 room.2 inside g.0 g.1 g.2 so_far);
        small = small a.f a.prices.now a.scratch.now a.from a.schedule.now l.schedule l.t l.c room.0 room.2 inside g.0 g.1 g.2 so_far;
      },
    )

pub choose-found-requires-clause-on_reaches : goal.choose-found-requires-clause-on_reaches
choose-found-requires-clause-on_reaches c =
    let a = c.args in
    let l = c.loop-t in
    let room = c.requires.room in
    let g = c.requires.plan_from in
    let turn =
    read a.f a.prices.now a.scratch.now a.from a.schedule.now l.schedule l.t l.c room.0 room.2 c.loop-t-test.true g.0 g.1 g.2 (l.invariant.2 g.0 g.1 g.2) in
    rw (
      plain_fits {x = get_or a.prices.now l.t (pos 0)} (search rules),
      plain_fits {x = get_or a.scratch.now (l.t * a.w + c.index.result) (pos 0)} (search rules),
      c.index.ensures,
      room.1,
    )
    (rw (same-price a.f g.0 a.prices.now a.scratch.now a.from g.1 g.2 l.t) at turn.on)

-- the tries of one output
one-most : (f : Figures) → Sound f → (k tries : ℕ) → k ≤ f.pmax → tries ≡ tries_to f.pmin k → tries ≤ most_blocks + 1
one-most f ok k tries h e = omega (arith, e, tries-most f.pmin f.pmax k h, pmax-most f ok, ok.pmin, ok.pmax)

pub overflow_add-tries : goal.overflow_add-tries
overflow_add-tries c =
    let a = c.args in
    let l = c.loop-t in
    let room = c.requires.room in
    let found =
    rw (
      plain_fits {x = get_or a.prices.now l.t (pos 0)} (search rules),
      plain_fits {x = get_or a.scratch.now (l.t * a.w + c.index.result) (pos 0)} (search rules),
      c.index.ensures,
      room.1,
    ) at
    c.choose-found.ensures.blocks_value in
    let g = c.requires.plan_from in
    let plan =
    plans a.f a.prices.now a.scratch.now a.from a.schedule.now l.schedule l.t l.c room.0 room.2 c.loop-t-test.true g.0 g.1 g.2 (l.invariant.2 g.0 g.1 g.2)
    c.choose-found.result.blocks
    found in
    let one = one-most a.f room.0.sound c.choose-found.result.blocks c.choose-found.result.tries plan.most c.choose-found.ensures.tries_value in
    omega (arith, one, l.invariant.1, c.loop-t-test.true, room.0.short)

pub overflow_mul-schedule : goal.overflow_mul-schedule
overflow_mul-schedule c =
    let a = c.args in
    let l = c.loop-t in
    let room = c.requires.room in
    let found =
    rw (
      plain_fits {x = get_or a.prices.now l.t (pos 0)} (search rules),
      plain_fits {x = get_or a.scratch.now (l.t * a.w + c.index.result) (pos 0)} (search rules),
      c.index.ensures,
      room.1,
    ) at
    c.choose-found.ensures.blocks_value in
    let g = c.requires.plan_from in
    let plan =
    plans a.f a.prices.now a.scratch.now a.from a.schedule.now l.schedule l.t l.c room.0 room.2 c.loop-t-test.true g.0 g.1 g.2 (l.invariant.2 g.0 g.1 g.2)
    c.choose-found.result.blocks
    found in
    omega (arith, mul-le-mul_right a.f.block plan.most, room.0.sound.top)

pub moved-c-requires-clause-allowed : goal.moved-c-requires-clause-allowed
moved-c-requires-clause-allowed c =
    let a = c.args in
    let l = c.loop-t in
    let room = c.requires.room in
    let found =
    rw (
      plain_fits {x = get_or a.prices.now l.t (pos 0)} (search rules),
      plain_fits {x = get_or a.scratch.now (l.t * a.w + c.index.result) (pos 0)} (search rules),
      c.index.ensures,
      room.1,
    ) at
    c.choose-found.ensures.blocks_value in
    let g = c.requires.plan_from in
    let plan =
    plans a.f a.prices.now a.scratch.now a.from a.schedule.now l.schedule l.t l.c room.0 room.2 c.loop-t-test.true g.0 g.1 g.2 (l.invariant.2 g.0 g.1 g.2)
    c.choose-found.result.blocks
    found in
    plan.allowed

pub loop-t-preserved : goal.loop-t-preserved
loop-t-preserved c =
    let a = c.args in
    let l = c.loop-t in
    let room = c.requires.room in
    let found =
    rw (
      plain_fits {x = get_or a.prices.now l.t (pos 0)} (search rules),
      plain_fits {x = get_or a.scratch.now (l.t * a.w + c.index.result) (pos 0)} (search rules),
      c.index.ensures,
      room.1,
    ) at
    c.choose-found.ensures.blocks_value in
    let g = c.requires.plan_from in
    let plan =
    plans a.f a.prices.now a.scratch.now a.from a.schedule.now l.schedule l.t l.c room.0 room.2 c.loop-t-test.true g.0 g.1 g.2 (l.invariant.2 g.0 g.1 g.2)
    c.choose-found.result.blocks
    found in
    let k = c.choose-found.result.blocks in
    let inside = c.loop-t-test.true in
    let written : l.t < length l.schedule = omega (arith, inside, l.auto.schedule, c.requires.prices_in_bounds) in
    let one = one-most a.f room.0.sound k c.choose-found.result.tries plan.most c.choose-found.ensures.tries_value in
    rw c.moved-c.ensures (
      tries-next a.f.block a.f.pmin l.schedule l.t k room.0.sound.block written l.invariant.0 c.choose-found.ensures.tries_value,
      omega (arith, l.invariant.1, one),
      λ ends quarters p.
          let so_far = l.invariant.2 ends quarters p in
          written_next a.f ends quarters a.from a.schedule.now l.schedule l.t l.c k
          (omega (arith, inside, as_many a.f ends a.prices.now a.scratch.now a.from quarters p)) written so_far
          (plans a.f a.prices.now a.scratch.now a.from a.schedule.now l.schedule l.t l.c room.0 room.2 inside ends quarters p so_far k found),
    )

pub returns-clause-read_off : goal.returns-clause-read_off
returns-clause-read_off c =
    let a = c.args in
    let l = c.loop-t in
    λ ends quarters p.
    let n = as_many a.f ends a.prices.now a.scratch.now a.from quarters p in
    let e : l.t ≡ length quarters = omega (arith, n, l.auto.t-end, c.loop-t-test.false) in
    let w = l.invariant.2 ends quarters p in (
      written_all a.f ends quarters a.from a.schedule.now l.schedule l.t l.c e w,
      l.invariant.0 ∙ ap (tries_over a.f.block a.f.pmin) (front-all a.f ends quarters a.from a.schedule.now l.schedule l.t l.c e w),
    )
