-- What an output brings is linear in its blocks: one block more adds the same at every output. So the outputs of an interval are a ladder, and where
-- the blocks are not limited the lowest output or the highest is a best one.
use mathlib.Core.Path.{◌≡◌, sym, ap, ◌∙◌}
use mathlib.Core.Bool.{Bool, true}
use mathlib.Core.List.{List}
use mathlib.Core.Logic.{⊎_elim}
use Prim.Native.Nat.{ℕ, zero, suc, ◌+◌, ◌-◌, ◌*◌, ◌≤◌}
use native.Mathlib.Nat.{add-zero, mul-zero, mul-le-mul_left}
use native.Mathlib.Omega.{arith}
use borrow.Author.Tests.{le-leb}
use lib.Dec.{leb, lit<}
use lib.IntN.{ℤ, pos, nat_abs, ◌+ℤ◌, ◌-ℤ◌, ◌*ℤ◌}
use lib.ListN.{get_or}
use lib.Signed.{◌≤ℤ◌, ≤ℤ_refl}
use mir.Syntax.{w64}
use mir.Val.{to_z, of_z}
use Rattle.commitment.specs.Bounds.{most_blocks}
use Rattle.integers.specs.Maximum.{maxℤ}
use Rattle.integers.proofs.Linear.{up, dn, up_pos, dn-pos, zarith, zle, lez, zsum, zdiff, ztimes, zmul}
use Rattle.integers.proofs.Order.{≤ℤ-trans, ≤ℤ-antisym, ≤ℤ-total, +ℤ-mono}
use Rattle.integers.proofs.Maximum.{max-is, max_least}
use Rattle.integers.proofs.Ranges.{Within, within-at, within-abs, within-weaken, within-sum, within-diff, within-mul, abs-within, plain}
use Rattle.optimality.specs.declared.Figures.{Figures}
use Rattle.geometry.specs.Layers.{swing, most_pays}
use Rattle.intervals.specs.declared.rows.Ladder.{Ladder}
use Rattle.intervals.specs.Turns.{Interval, net, slope, raised}
use Rattle.intervals.specs.Ladders.{brings, outputs, better_end, Steady, most_brought, Stepping, ladder_of}
use Rattle.intervals.specs.Stretches.{best_over}
use Rattle.intervals.proofs.Raising.{raised-same, raised-above, raised-reach, raised-least}
use Rattle.intervals.proofs.Turning.{pmax-most, net-small, slope-small}

-- ---- a number times one more, and times more

times-next : (r : ℤ) (n : ℕ) → r *ℤ pos (suc n) ≡ r *ℤ pos n +ℤ r
times-next r n =
    let u : up (r *ℤ pos (suc n)) ≡ up (r *ℤ pos n) + up r = rw ((ztimes r (suc n)).up≡, (ztimes r n).up≡) (omega arith) in
    let d : dn (r *ℤ pos (suc n)) ≡ dn (r *ℤ pos n) + dn r = rw ((ztimes r (suc n)).dn≡, (ztimes r n).dn≡) (omega arith) in
    added (r *ℤ pos (suc n)) (r *ℤ pos n) r u d
  where
    added : (x y r : ℤ) → up x ≡ up y + up r → dn x ≡ dn y + dn r → x ≡ y +ℤ r
    added x y r u d = omega (zarith, zsum y r)

-- the larger of two factors at the larger of two numbers
cross : (a b m n : ℕ) → b ≤ a → m ≤ n → a * m + b * n ≤ a * n + b * m
cross a b m n h k =
    let d : (a - b) * m ≤ (a - b) * n = mul-le-mul_left (a - b) k in
    let e : a ≡ a - b + b = omega arith in
    let split : (m : ℕ) → a * m ≡ (a - b) * m + b * m = λ m. ap (λ (t : ℕ). t * m) e ∙ sum-times (a - b) b m in
    omega (arith, split m, split n)
  where
    sum-times : (x y m : ℕ) → (x + y) * m ≡ x * m + y * m
    sum-times x y m = omega arith

times-rise : (r : ℤ) (m n : ℕ) → dn r ≤ up r → m ≤ n → (r *ℤ pos m) ≤ℤ (r *ℤ pos n)
times-rise r m n h k = lez (rw ((ztimes r m).up≡, (ztimes r m).dn≡, (ztimes r n).up≡, (ztimes r n).dn≡) (cross (up r) (dn r) m n h k))

times-fall : (r : ℤ) (m n : ℕ) → up r ≤ dn r → m ≤ n → (r *ℤ pos n) ≤ℤ (r *ℤ pos m)
times-fall r m n h k =
    lez (rw ((ztimes r m).up≡, (ztimes r m).dn≡, (ztimes r n).up≡, (ztimes r n).dn≡) (omega (arith, cross (dn r) (up r) m n h k)))

-- ---- a ladder

module _ (l : Ladder) where
  pub brings-least : brings l l.low ≡ l.least
  unfolding brings
  brings-least = let e : l.low - l.low ≡ 0 = omega arith in rw e (none l.least l.rise)
    where
      none : (x r : ℤ) → x +ℤ r *ℤ pos 0 ≡ x
      none x r =
          let u : up (r *ℤ pos 0) ≡ 0 = (ztimes r 0).up≡ ∙ mul-zero (up r) in
          let d : dn (r *ℤ pos 0) ≡ 0 = (ztimes r 0).dn≡ ∙ mul-zero (dn r) in
          omega (zarith, zsum x (r *ℤ pos 0))

  pub brings-next : (k : ℕ) → l.low ≤ k → brings l (suc k) ≡ brings l k +ℤ l.rise
  unfolding brings
  brings-next k h =
      let e : suc k - l.low ≡ suc (k - l.low) = omega arith in
      rw (e, times-next l.rise (k - l.low)) (grouped l.least (l.rise *ℤ pos (k - l.low)) l.rise)
    where
      grouped : (x y z : ℤ) → x +ℤ (y +ℤ z) ≡ x +ℤ y +ℤ z
      grouped x y z = omega (zarith, zsum y z, zsum x (y +ℤ z), zsum x y, zsum (x +ℤ y) z)

  -- its numbers are small, and read back
  module _ (ok : Steady l) where
    least-within : Within swing l.least
    least-within = within-weaken ok.least (within-abs l.least)

    rise-within : Within swing l.rise
    rise-within = within-weaken ok.rise (within-abs l.rise)

    pub least-plain : to_z w64 (of_z w64 l.least) ≡ l.least
    least-plain = plain least-within (lit< tt)

    pub rise-plain : to_z w64 (of_z w64 l.rise) ≡ l.rise
    rise-plain = plain rise-within (lit< tt)

    pub fall-within : Within swing (pos 0 -ℤ l.rise)
    fall-within = within-diff {a = 0} (within-at 0) rise-within

    pub steps-within : (k : ℕ) → k ≤ l.high → Within (swing * most_blocks) (l.rise *ℤ pos (k - l.low))
    steps-within k h = within-mul {b = most_blocks} rise-within (within-weaken (omega (arith, ok.few)) (within-at (k - l.low)))

    pub brings-within : (k : ℕ) → k ≤ l.high → Within most_brought (brings l k)
    unfolding brings
    brings-within k h = within-sum least-within (steps-within k h)

    -- what a pass up or down its outputs needs
    pub up-stepping : (count : ℕ) → 1 ≤ count → count ≤ most_blocks + 1 → Stepping count l.least l.rise
    up-stepping count some few = record { some = some; few = few; gains = omega (arith, ok.least); rises = ok.rise }

    pub down-stepping : (count : ℕ) → 1 ≤ count → count ≤ most_blocks + 1 → Stepping count (brings l l.high) (pos 0 -ℤ l.rise)
    down-stepping count some few =
        record { some = some; few = few; gains = abs-within (brings-within l.high (omega arith)); rises = abs-within fall-within }

  -- it rises with the output, or it falls
  brings-below : (k : ℕ) → l.low ≤ k → k ≤ l.high → brings l k ≤ℤ better_end l
  unfolding brings
  brings-below k lo hi =
      let m = max-is l.least (brings l l.high) in
      ⊎_elim
      (λ (h : pos 0 ≤ℤ l.rise).
      ≤ℤ-trans (+ℤ-mono (≤ℤ_refl l.least) (times-rise l.rise (k - l.low) (l.high - l.low) (omega (arith, zle h, up_pos 0, dn-pos 0)) (omega arith)))
      m.right)
      (λ (h : l.rise ≤ℤ pos 0).
      ≤ℤ-trans
      (rw brings-least at
      (+ℤ-mono (≤ℤ_refl l.least) (times-fall l.rise (l.low - l.low) (k - l.low) (omega (arith, zle h, up_pos 0, dn-pos 0)) (omega arith))))
      m.left)
      (≤ℤ-total (pos 0) l.rise)

  pub end-small : Steady l → nat_abs (better_end l) ≤ most_brought
  end-small ok =
      ⊎_elim (λ e. rw e (omega (arith, ok.least))) (λ e. rw e (abs-within (brings-within ok l.high (omega arith))))
      (max-is l.least (brings l l.high)).one_of

  module _ (ok : Steady l) where
    -- of outputs that all reach the same number and what they bring, the better end is the best
    ends-best : (fits : ℕ → Bool) (stored base : ℤ) → ((k : ℕ) → fits k ≡ true)
        → raised fits (λ k. stored +ℤ brings l k) base l.low (outputs l) ≡ maxℤ base (stored +ℤ better_end l)
    ends-best fits stored base all =
        let reach : ℕ → ℤ = λ k. stored +ℤ brings l k in
        let m = max-is base (stored +ℤ better_end l) in
        let reached : (k : ℕ) → l.low ≤ k → k ≤ l.high → reach k ≤ℤ raised fits reach base l.low (outputs l) =
        λ k lo hi. raised-reach fits reach base l.low (outputs l) k lo (omega arith) (all k) in
        ≤ℤ-antisym
        (raised-least fits reach base l.low (outputs l) (maxℤ base (stored +ℤ better_end l)) m.left
        (λ k lo hi fit. ≤ℤ-trans (+ℤ-mono (≤ℤ_refl stored) (brings-below k lo (omega (arith, ok.some)))) m.right))
        (max_least base (stored +ℤ better_end l) (raised fits reach base l.low (outputs l)) (raised-above fits reach base l.low (outputs l))
        (⊎_elim (λ e. rw e (rw brings-least at (reached l.low (omega arith) ok.some))) (λ e. rw e (reached l.high ok.some (omega arith)))
        (max-is l.least (brings l l.high)).one_of))

    -- so of a row where the blocks are not limited
    pub ends-over : (per : ℕ) → per ≡ 0 → (was : List ℤ) (from z : ℕ) (base : ℤ)
        → best_over per l was from z base ≡ maxℤ base (get_or was (from + z) (pos 0) +ℤ better_end l)
    ends-over per free was from z base =
        rw free
        (raised-same (λ k. leb (k * 0) z) (λ k. get_or was (from + (z - k * 0)) (pos 0) +ℤ brings l k)
        (λ k. get_or was (from + z) (pos 0) +ℤ brings l k)
        base
        l.low
        (outputs l)
        (λ k lo hi fits. ap (λ (i : ℕ). get_or was (from + i) (pos 0) +ℤ brings l k) (stays k))
        ∙ ends-best (λ k. leb (k * 0) z) (get_or was (from + z) (pos 0)) base (λ k. le-leb (k * 0) z (rw (mul-zero k) (omega arith))))
      where
        stays : (k : ℕ) → z - k * 0 ≡ z
        stays k = rw (mul-zero k) (omega arith)

-- ---- the ladder of an interval

module _ (price : ℤ) (vec least mlc : ℕ) where
  abbrev margin : ℕ → ℤ
  margin m = price *ℤ pos m -ℤ pos vec *ℤ (pos m -ℤ pos least) -ℤ pos mlc

  -- what lies above the lowest output, in parts
  above : (m : ℕ) → up (pos vec *ℤ (pos m -ℤ pos least)) + vec * least ≡ dn (pos vec *ℤ (pos m -ℤ pos least)) + vec * m
  above m =
      let d = pos m -ℤ pos least in
      let i : up d + least ≡ dn d + m = omega (arith, zdiff (pos m) (pos least), up_pos m, dn-pos m, up_pos least, dn-pos least) in
      let j : up (pos vec *ℤ d) ≡ vec * up d = (zmul (pos vec) d).up≡ ∙ (rw (up_pos vec, dn-pos vec) (omega arith)) in
      let k : dn (pos vec *ℤ d) ≡ vec * dn d = (zmul (pos vec) d).dn≡ ∙ (rw (up_pos vec, dn-pos vec) (omega arith)) in
      let e = ap (λ (t : ℕ). vec * t) i in
      rw (j, k) (spread vec (up d) least ∙ e ∙ sym (spread vec (dn d) m))
    where
      spread : (v x y : ℕ) → v * x + v * y ≡ v * (x + y)
      spread v x y = omega arith

-- so much output more adds the same at every output
margin-more : (price : ℤ) (vec least mlc m n : ℕ) → margin price vec least mlc (m + n) ≡ margin price vec least mlc m +ℤ margin price vec 0 0 n
margin-more price vec least mlc m n =
    let x = ztimes price (m + n) in
    let y = ztimes price m in
    let z = ztimes price n in
    let all : vec * (m + n) ≡ vec * m + vec * n = omega arith in
    let u : up (price *ℤ pos (m + n)) ≡ up (price *ℤ pos m) + up (price *ℤ pos n) = rw (x.up≡, y.up≡, z.up≡) (omega arith) in
    let d : dn (price *ℤ pos (m + n)) ≡ dn (price *ℤ pos m) + dn (price *ℤ pos n) = rw (x.dn≡, y.dn≡, z.dn≡) (omega arith) in
    added (price *ℤ pos (m + n)) (price *ℤ pos m) (price *ℤ pos n) (cost least (m + n)) (cost least m) (cost 0 n) (vec * least) (vec * 0) (vec * m) (vec * n)
    (omega arith) u d
    (rw all at (above price vec least mlc (m + n)))
    (above price vec least mlc m)
    (above price vec 0 0 n)
  where
    cost : ℕ → ℕ → ℤ
    cost least m = pos vec *ℤ (pos m -ℤ pos least)

    added : (x y z a b c : ℤ) (l o p q : ℕ) → o ≡ 0 → up x ≡ up y + up z → dn x ≡ dn y + dn z → up a + l ≡ dn a + (p + q) → up b + l ≡ dn b + p
        → up c + o ≡ dn c + q
        → x -ℤ a -ℤ pos mlc ≡ (y -ℤ b -ℤ pos mlc) +ℤ (z -ℤ c -ℤ pos 0)
    added x y z a b c l o p q = λ none h i j k m.
        omega (
          zarith,
          zdiff x a,
          zdiff (x -ℤ a) (pos mlc),
          zdiff y b,
          zdiff (y -ℤ b) (pos mlc),
          zdiff z c,
          zdiff (z -ℤ c) (pos 0),
          zsum (y -ℤ b -ℤ pos mlc) (z -ℤ c -ℤ pos 0),
          up_pos mlc,
          dn-pos mlc,
          up_pos 0,
          dn-pos 0,
        )

-- so one block more adds the slope
net-next : (f : Figures) (price : ℤ) (pays k : ℕ) → net f price pays (suc k) ≡ net f price pays k +ℤ slope f price
net-next f price pays k =
    let e : suc k * f.block ≡ k * f.block + f.block = omega arith in
    rw (e, margin-more price f.vec (f.pmin * f.block) f.mlc (k * f.block) f.block)
    (paid (margin price f.vec (f.pmin * f.block) f.mlc (k * f.block)) (slope f price) (pos pays))
  where
    paid : (x y p : ℤ) → x +ℤ y -ℤ p ≡ (x -ℤ p) +ℤ y
    paid x y p = omega (zarith, zsum x y, zdiff (x +ℤ y) p, zdiff x p, zsum (x -ℤ p) y)

module _ (f : Figures) (price : ℤ) (pays : ℕ) where
  -- an output brings what it is worth
  pub ladder-brings : (k : ℕ) → f.pmin ≤ k → brings (ladder_of f price pays) k ≡ net f price pays k
  ladder-brings k h = let e : f.pmin + (k - f.pmin) ≡ k = omega arith in rw e at (along (k - f.pmin))
    where
      along : (n : ℕ) → brings (ladder_of f price pays) (f.pmin + n) ≡ net f price pays (f.pmin + n)
      along zero = rw (add-zero f.pmin) (brings-least (ladder_of f price pays))
      along (suc n) =
          let e : f.pmin + suc n ≡ suc (f.pmin + n) = omega arith in
          rw e
          (brings-next (ladder_of f price pays) (f.pmin + n) (omega arith) ∙ ap (λ (x : ℤ). x +ℤ slope f price) (along n)
          ∙ sym (net-next f price pays (f.pmin + n)))

  pub ladder-steady : Interval f price → pays ≤ most_pays → Steady (ladder_of f price pays)
  ladder-steady i p =
      record {
        some = i.sound.pmax;
        few = pmax-most f i.sound;
        least = net-small f i.sound price i.priced pays f.pmin p i.sound.pmax;
        rise = slope-small f i.sound price i.priced;
      }
