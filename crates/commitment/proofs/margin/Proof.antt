-- Every step stays far inside an i64, so each reads back as the number that it is.
use borrow.Author.Rules.{rules}
use Prim.Native.Nat.{ℕ, ◌≤◌}
use lib.Dec.{lit<}
use lib.IntN.{ℤ, pos, nat_abs, ◌-ℤ◌, ◌*ℤ◌}
use mir.Facts.{to_z-of_z}
use mir.Syntax.{w64}
use mir.Val.{SFits}
use Rattle.integers.proofs.Ranges.{within-at, within-abs, within-weaken, within-diff, within-mul, within-fits}
use Rattle.commitment.specs.Bounds.{most_mw, most_vec, most_mlc, most_price}
use Rattle.commitment.specs.Profit.{margin}
use Rattle.commitment.proofs.margin.Statement.{statement}
use Rattle.commitment.proofs.margin.Tie as tie

record Steps (l : ℤ) (m v f k : ℕ) : Type 0 where
  price : SFits w64 l
  output : SFits w64 (pos m)
  vec : SFits w64 (pos v)
  least : SFits w64 (pos f)
  mlc : SFits w64 (pos k)
  above : SFits w64 (pos m -ℤ pos f)
  cost : SFits w64 (pos v *ℤ (pos m -ℤ pos f))
  revenue : SFits w64 (l *ℤ pos m)
  net : SFits w64 (l *ℤ pos m -ℤ pos v *ℤ (pos m -ℤ pos f))
  whole : SFits w64 (margin l m v f k)

fitting : (price : ℤ) (output vec least mlc : ℕ) → (nat_abs price ≤ most_price) × (output ≤ most_mw) × (vec ≤ most_vec) × (least ≤ most_mw) × (mlc ≤ most_mlc)
    → Steps price output vec least mlc
fitting price output vec least mlc h =
    let p = within-weaken h.0 (within-abs price) in
    let o = within-weaken h.1 (within-at output) in
    let v = within-weaken h.2 (within-at vec) in
    let l = within-weaken h.3 (within-at least) in
    let k = within-weaken h.4 (within-at mlc) in
    let above = within-diff o l in
    let cost = within-mul v above in
    let revenue = within-mul p o in
    let net = within-diff revenue cost in
    record {
      price = within-fits p (lit< tt);
      output = within-fits o (lit< tt);
      vec = within-fits v (lit< tt);
      least = within-fits l (lit< tt);
      mlc = within-fits k (lit< tt);
      above = within-fits above (lit< tt);
      cost = within-fits cost (lit< tt);
      revenue = within-fits revenue (lit< tt);
      net = within-fits net (lit< tt);
      whole = within-fits (within-diff net k) (lit< tt);
    }

steps : (c : tie.Start) → Steps c.args.price c.args.output c.args.vec c.args.least c.args.mlc
steps c = fitting c.args.price c.args.output c.args.vec c.args.least c.args.mlc c.requires

sub-above : tie.Need-overflow_sub-above
sub-above c =
    let s = steps c.before.before in
    simp (c.before.signed-m.ensures, c.signed.ensures, to_z-of_z, s.output, s.least) s.above

mul-cost : tie.Need-overflow_mul-cost
mul-cost c =
    let second = c.before in
    let first = second.before in
    let s = steps first.before in
    simp (first.signed-m.ensures, second.signed.ensures, c.signed-2.ensures, to_z-of_z, s.output, s.least, s.vec, s.above) s.cost

mul-result : tie.Need-overflow_mul-result
mul-result c =
    let first = c.before.before in
    let s = steps first.before in
    simp (first.signed-m.ensures, to_z-of_z, s.output, s.price) s.revenue

sub-result : tie.Need-overflow_sub-result
sub-result c =
    let second = c.before in
    let first = second.before in
    let s = steps first.before in
    simp
    (first.signed-m.ensures, second.signed.ensures, c.signed-2.ensures, to_z-of_z, s.price, s.output, s.least, s.vec, s.above, s.cost, s.revenue)
    s.net

sub-result-2 : tie.Need-overflow_sub-result-2
sub-result-2 c =
    let third = c.before in
    let second = third.before in
    let first = second.before in
    let s = steps first.before in
    simp (
      first.signed-m.ensures,
      second.signed.ensures,
      third.signed-2.ensures,
      c.signed-3.ensures,
      to_z-of_z,
      s.price,
      s.output,
      s.least,
      s.vec,
      s.mlc,
      s.above,
      s.cost,
      s.revenue,
      s.net,
    )
    s.whole

returns : tie.Need-returns
returns c =
    let third = c.before in
    let second = third.before in
    let first = second.before in
    let s = steps first.before in
    simp (
      first.signed-m.ensures,
      second.signed.ensures,
      third.signed-2.ensures,
      c.signed-3.ensures,
      to_z-of_z,
      s.price,
      s.output,
      s.least,
      s.vec,
      s.mlc,
      s.above,
      s.cost,
      s.revenue,
      s.net,
      s.whole,
    )

pub margin_spec : {M : Type 1} → statement M
margin_spec =
    tie.close
    (tie.spec
    (λ c κs. search rules) (λ c κs. search rules)
    sub-above
    (λ c κs. search rules)
    mul-cost
    mul-result
    sub-result
    (λ c κs. search rules)
    sub-result-2
    returns)
