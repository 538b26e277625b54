-- So many fit as were counted, and no more of those that can be used.
use Rattle.std.proofs.Common.{◌≡◌, ℕ, ◌+◌, ◌*◌, ◌<◌, ◌≤◌, sym, mul-le-mul_right, arith}
use Rattle.enumeration.specs.Lengths.{most_left}
use Rattle.enumeration.proofs.Lengths.{fitting-is}
use Rattle.enumeration.proofs.lending.most_left.Goals as goal

one_more : (space size count j : ℕ) → space < (count + 1) * size → count < j → space < j * size
one_more space size count j h l = let wide : (count + 1) * size ≤ j * size = mul-le-mul_right size (omega arith) in omega arith

pub returns-then-room-times : goal.returns-then-room-times
unfolding most_left
returns-then-room-times c =
    let l = c.loop-count in
    let short : c.times-room.result < (l.count + 1) * c.args.size = omega (arith, c.times.ensures.0) in (
      rw (c.in-Some.is, ← c.from.ensures, ← c.times-room.ensures.0)
          (sym (fitting-is _ c.args.size c.args.usable l.count
          (record { within = omega arith; fits = l.invariant; more = λ j g h. one_more _ c.args.size l.count j short g }))),
      omega arith,
    )

pub returns : goal.returns
unfolding most_left
returns c =
    let l = c.loop-count in
    let all : l.count ≡ c.args.usable = omega arith in (
      rw (c.in-Some.is, ← c.from.ensures, ← c.times-room.ensures.0)
          (sym (fitting-is _ c.args.size c.args.usable c.args.usable
          (record { within = omega arith; fits = rw all at l.invariant; more = λ j g h. absurd (omega arith) }))),
      omega arith,
    )
