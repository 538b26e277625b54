-- By the output and the state; what an interval brings stays far inside an i64.
use borrow.Author.Rules.{rules}
use mathlib.Core.Path.{◌≡◌, sym, ap, ap₂, ◌∙◌}
use mathlib.Core.Bool.{Bool, true, false, cond}
use Prim.Native.Nat.{ℕ, ◌+◌, ◌*◌, ◌≤◌}
use native.Mathlib.Nat.{mul-le-mul_right}
use native.Mathlib.Omega.{arith}
use lib.Dec.{lit<}
use lib.IntN.{nat_abs, ◌-ℤ◌}
use mir.Syntax.{w64}
use mir.Val.{to_z, of_z}
use Rattle.commitment.specs.Bounds.{most_mw, most_mlc, most_suc, most_price, most_vec}
use Rattle.integers.proofs.Ranges.{Within, within-at, within-weaken, within-diff, within-fits, abs-within, plain, plain_fits}
use Rattle.commitment.proofs.Ranges.{InRange, in-range, in-shape}
use Rattle.commitment.proofs.Margins.{most_margin, margin-within}
use Rattle.commitment.specs.Profit.{margin}
use Rattle.assessment.specs.Walking.{rested, ran, stepped}
use Rattle.assessment.proofs.Intervals.{step-off, step-on}
use Rattle.assessment.proofs.step.Statement.{statement}
use Rattle.assessment.proofs.step.Tie as tie

known : (c : tie.Start) → InRange c.args.unit
known c = in-range c.args.unit c.requires.0.0

abbrev least-output : tie.Start → ℕ
least-output c = c.args.unit.generator.pmin * c.args.unit.generator.block

least : (c : tie.Start) → least-output c ≤ most_mw
least c =
    let h = in-shape c.args.unit.generator c.requires.0.1 in
    omega (arith, mul-le-mul_right c.args.unit.generator.block h.ordered, h.most)

price-plain : (c : tie.Start) → to_z w64 (of_z w64 c.args.price) ≡ c.args.price
price-plain c = plain_fits c.ranges.price

margin-args : (c : tie.Start) →
    let a = c.args in
    let k = a.unit.costs in
    (nat_abs a.price ≤ most_price) × (a.output ≤ most_mw) × (k.vec ≤ most_vec) × (least-output c ≤ most_mw) × (k.mlc ≤ most_mlc)
margin-args c = (c.requires.1.0.0, c.requires.1.0.1, (known c).costs.vec-most, least c, (known c).costs.mlc-most)

-- what the interval brings, before a start is charged
gain-is : (c : tie.After-margin-gain) →
    let s = c.before.before.before.before.before in
    let a = s.args in
    c.margin-gain.result ≡ margin a.price a.output a.unit.costs.vec (least-output s) a.unit.costs.mlc
gain-is c = rw (price-plain c.before.before.before.before.before) at c.margin-gain.ensures

gain-within : (c : tie.After-margin-gain) → Within most_margin c.margin-gain.result
gain-within c =
    let s = c.before.before.before.before.before in
    let k = s.args.unit.costs in
    let h = margin-args s in
    rw (gain-is c)
    (margin-within s.args.price s.args.output k.vec (least-output s) k.mlc h.0 h.1 h.2 h.3 h.4)

gain-plain : (c : tie.After-margin-gain) → to_z w64 (of_z w64 c.margin-gain.result) ≡ c.margin-gain.result
gain-plain c = plain (gain-within c) (lit< tt)

-- and after it
cost-within : (c : tie.After-signed) → Within (4 * most_suc) c.signed.result
cost-within c =
    let s = c.before.before.before.before.before.before.before.before.before in
    rw c.signed.ensures (within-weaken (omega (arith, (known s).costs.suc-most)) (within-at (4 * s.args.unit.costs.suc)))

cost-plain : (c : tie.After-signed) → to_z w64 (of_z w64 c.signed.result) ≡ c.signed.result
cost-plain c = plain (cost-within c) (lit< tt)

net-within : (c : tie.After-signed) → Within (most_margin + 4 * most_suc) (c.before.before.before.before.margin-gain.result -ℤ c.signed.result)
net-within c = within-diff (gain-within c.before.before.before.before) (cost-within c)

-- the difference, as the code has it
net-plain : (c : tie.After-signed) →
    let gain = c.before.before.before.before.margin-gain.result in
    let cost = c.signed.result in
    to_z w64 (of_z w64 (to_z w64 (of_z w64 gain) -ℤ to_z w64 (of_z w64 cost))) ≡ gain -ℤ cost
net-plain c = rw (gain-plain c.before.before.before.before, cost-plain c) (plain (net-within c) (lit< tt))

off-is : (c : tie.Start) {t : Bool} → c.args.at.on ≡ t → c.args.output ≡ 0 →
    let at = c.args.at in
    cond t (rested at 1) (rested at (at.spent + 1)) ≡ stepped c.args.unit at c.args.price c.args.output
off-is c {t} h e = sym (step-off c.args.unit c.args.at c.args.price t c.args.output h e)

returns : tie.Need-returns-then-at
returns c = c.rested.ensures ∙ off-is c.before.before.before c.before.if-at.true c.before.before.if-output-eq0.true

returns-2 : tie.Need-returns-then-output-eq0
returns-2 c = let off = c.before.before in c.rested-then-output-eq0.ensures ∙ off-is off.before.before off.if-at.false off.before.if-output-eq0.true

mul-margin : tie.Need-overflow_mul-g
mul-margin c = omega (arith, least c.before.before.before.before)

margin-requires : tie.Need-margin-gain-requires
margin-requires c κs = let s = c.before.before.before.before in rw (price-plain s) (margin-args s)

ran-requires : tie.Need-ran-requires
ran-requires c κs =
    let s = c.before.before.before.before.before.before.before in
    let g = c.before.before in
    (s.requires.1.1, (s.requires.1.0.1, rw (gain-plain g) (omega (arith, abs-within (gain-within g)))))

returns-3 : tie.Need-returns-then-at-2
returns-3 c =
    let a = c.before.before.before.before.before.before.before.before.args in
    let g = c.before.before.before in
    c.ran.ensures
    ∙ ap (ran a.at (a.at.spent + 1) a.at.starts a.output) (gain-plain g ∙ gain-is g)
    ∙ sym (step-on a.unit a.at a.price true a.output c.before.before.if-at-2.true g.before.before.before.before.if-output-eq0.false)

mul-signed : tie.Need-overflow_mul-k
mul-signed c = omega (arith, (known c.before.before.before.before.before.before.before.before).costs.suc-most)

signed-requires : tie.Need-signed-requires
signed-requires c κs = omega (arith, (known c.before.before.before.before.before.before.before.before).costs.suc-most)

sub-ran : tie.Need-overflow_sub-gain
sub-ran c = rw (gain-plain c.before.before.before.before, cost-plain c) (within-fits (net-within c) (lit< tt))

ran-requires-2 : tie.Need-ran-requires-2
ran-requires-2 c κs =
    let s = c.before.before.before.before.before.before.before.before.before in
    (s.requires.1.1, (s.requires.1.0.1, rw (net-plain c) (omega (arith, abs-within (net-within c)))))

returns-4 : tie.Need-returns
returns-4 c =
    let g = c.before.before.before.before.before in
    let f = c.before in
    let a = g.before.before.before.before.before.args in
    c.ran-2.ensures
    ∙ ap (ran a.at 1 (a.at.starts + 1) a.output) (net-plain f ∙ ap₂ ◌-ℤ◌ (gain-is g) f.signed.ensures)
    ∙ sym (step-on a.unit a.at a.price false a.output f.before.before.before.if-at-2.false g.before.before.before.before.if-output-eq0.false)

pub step_spec : {M : Type 1} → statement M
step_spec =
    tie.close
    (tie.spec
    (λ c κs. search rules)
    returns
    (λ c. search rules)
    (λ c κs. search rules)
    returns-2
    mul-margin
    margin-requires
    (λ c. search rules)
    ran-requires
    returns-3
    (λ c. search rules)
    mul-signed
    signed-requires
    sub-ran
    ran-requires-2
    returns-4)
