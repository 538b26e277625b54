-- A row raised by going up and down its sources in chunks as long as there are outputs: what one more block brings is always the same, so the
-- best source so far is carried from place to place.
use mathlib.Core.Path.{◌≡◌, refl, ap, ◌∙◌}
use mathlib.Core.Bool.{Bool, true, false}
use mathlib.Core.List.{List}
use mathlib.Core.Logic.{◌⊎◌, ⊎_elim, inl, inr}
use Prim.Native.Nat.{ℕ, suc, ◌+◌, ◌-◌, ◌*◌, ◌≤◌, ◌<◌, min}
use native.Mathlib.Nat.{add-zero, sub-zero, mul-one}
use native.Mathlib.Omega.{arith}
use borrow.Author.Tests.{ltb-true, ltb-false, leb-true, le-leb}
use lib.Dec.{ltb, leb}
use lib.IntN.{ℤ, pos, ◌+ℤ◌, ◌-ℤ◌}
use lib.ListN.{get_or}
use lib.Signed.{◌≤ℤ◌, ≤ℤ_refl}
use Rattle.integers.specs.Maximum.{maxℤ}
use Rattle.integers.proofs.Linear.{up_pos, dn-pos, zarith, zsum, zdiff}
use Rattle.integers.proofs.Order.{≤ℤ-trans, ≤ℤ-antisym}
use Rattle.integers.proofs.Maximum.{max-is, max_least}
use Rattle.intervals.specs.declared.rows.Ladder.{Ladder}
use Rattle.intervals.specs.Ladders.{brings, outputs}
use Rattle.intervals.specs.Stretches.{Apart, best_so_far, Swept, place_of, Between, Past, best_over, Reached, RowRaised}
use Rattle.intervals.proofs.Raising.{raised-above, raised-reach, raised-least}
use Rattle.intervals.proofs.Ladders.{brings-least, brings-next}
use Rattle.intervals.proofs.Carrying.{Source, best-source, best-reach}
use Rattle.intervals.proofs.Sweeping.{Order, in_order}

-- a cell past those that going up a chunk reaches is one that going down does; and a source that stays in the row is on the way down
past_up : (lo hi a z : ℕ) → lo ≤ hi → a + (hi - lo + 1) ≤ z - lo → a + hi ≤ z
past_up lo hi a z some h = omega arith

on-way-down : (lo hi n a down x : ℕ) → lo ≤ hi → down ≡ min (hi - lo + 1) (n - hi - a) → x < a + (suc hi - lo) → x + hi < n → x < a + down
on-way-down lo hi n a down x some e h k = omega arith

-- ---- the best over the outputs of a cell, where a block takes one

module _ (l : Ladder) (n : ℕ) where
  -- what an output reaches, whose cell stands so many blocks further down
  abbrev reaching : List ℤ → ℕ → ℕ → ℕ → ℤ
  reaching s from z k = get_or s (from + (z - k)) (pos 0) +ℤ brings l k

  -- a number that an output of the cell reaches
  record Output (s : List ℤ) (from z : ℕ) (v : ℤ) : Type 0 where
    of : ℕ
    low : l.low ≤ of
    high : of ≤ l.high
    fits : of ≤ z
    is : v ≡ reaching s from z of

  module _ (s : List ℤ) (from z : ℕ) (base : ℤ) where
    abbrev allows : ℕ → Bool
    allows k = leb (k * 1) z

    abbrev reaching_by : ℕ → ℤ
    reaching_by k = get_or s (from + (z - k * 1)) (pos 0) +ℤ brings l k

    over-above : base ≤ℤ best_over 1 l s from z base
    over-above = raised-above allows reaching_by base l.low (outputs l)

    over-reach : (v : ℤ) → Output s from z v → v ≤ℤ best_over 1 l s from z base
    over-reach v o =
        let e = mul-one o.of in
        let fit : leb (o.of * 1) z ≡ true = le-leb (o.of * 1) z (omega (arith, e, o.fits)) in
        rw o.is (rw e at (raised-reach allows reaching_by base l.low (outputs l) o.of o.low (omega (arith, o.high, o.low)) fit))

    over-least : (most : ℤ) → base ≤ℤ most → ((k : ℕ) → l.low ≤ k → k ≤ l.high → k ≤ z → reaching s from z k ≤ℤ most)
        → best_over 1 l s from z base ≤ℤ most
    over-least most b h =
        raised-least allows reaching_by base l.low (outputs l) most b
        (λ k lo hi fit.
        let e = mul-one k in
        let room = leb-true (k * 1) z fit in
        rw e (h k lo (omega arith) (omega arith)))

  module _ (to from : ℕ) where
    -- ---- one pass after the other, until no output of a cell is left

    module _ (P Q R : ℕ → ℕ → Type 0) (was s t : List ℤ) (behind : to + n ≤ from) where
      reached_then : ((z k : ℕ) → z < n → l.low ≤ k → k ≤ l.high → k ≤ z → R z k → P z k ⊎ Q z k)
          → Reached l n P was s to from → Reached l n Q s t to from → Reached l n R was t to from
      reached_then cover old new =
          record {
            above = λ z h. ≤ℤ-trans (old.above z h) (new.above z h);
            below = λ z h.
                ≤ℤ-trans (new.below z h)
                (over-least s from z (get_or s (to + z) (pos 0)) (best_over 1 l was from z (get_or was (to + z) (pos 0))) (old.below z h)
                (λ k lo hi fit. over-reach was from z (get_or was (to + z) (pos 0)) (reaching s from z k)
                (record { of = k; low = lo; high = hi; fits = fit; is = same z k })));
            reach = λ z k h lo hi fit of.
                ⊎_elim (λ (p : P z k). ≤ℤ-trans (old.reach z k h lo hi fit p) (new.above z h))
                (λ (q : Q z k). rw (same z k) at (new.reach z k h lo hi fit q))
                (cover z k h lo hi fit of);
            apart = λ j out. new.apart j out ∙ old.apart j out;
          }
        where
          same : (z k : ℕ) → reaching s from z k ≡ reaching was from z k
          same z k = ap (λ (x : ℤ). x +ℤ brings l k) (old.apart (from + (z - k)) (inr (omega arith)))

    reached-all : (P : ℕ → ℕ → Type 0) (was s : List ℤ) → ((z k : ℕ) → z < n → l.low ≤ k → k ≤ l.high → k ≤ z → P z k)
        → Reached l n P was s to from → RowRaised l n was s to from
    reached-all P was s all r =
        record {
          inside = λ z h.
              ≤ℤ-antisym (r.below z h)
              (over-least was from z (get_or was (to + z) (pos 0)) (get_or s (to + z) (pos 0)) (r.above z h)
              (λ k lo hi fit. r.reach z k h lo hi fit (all z k h lo hi fit)));
          apart = r.apart;
        }

    -- ---- one pass: the cells from z₀ on are raised to `v`

    module _ (Of : ℕ → ℕ → Type 0) (s t : List ℤ) (z₀ count : ℕ) (v : ℕ → ℤ) (fits : z₀ + count ≤ n) where
      record Written (z : ℕ) : Type 0 where
        is : get_or t (to + z) (pos 0) ≡ maxℤ (get_or s (to + z) (pos 0)) (v (z - z₀))
        output : Output s from z (v (z - z₀))

      pass : ((i : ℕ) → i < count → get_or t (to + z₀ + i) (pos 0) ≡ maxℤ (get_or s (to + z₀ + i) (pos 0)) (v i)) → Apart s t (to + z₀) count
          → ((i : ℕ) → i < count → Output s from (z₀ + i) (v i))
          → ((z k : ℕ) → l.low ≤ k → k ≤ l.high → k ≤ z → Of z k → (z₀ ≤ z) × (z < z₀ + count) × (reaching s from z k ≤ℤ v (z - z₀)))
          → Reached l n Of s t to from
      pass inside apart output reach =
          record {
            above = λ z h.
                ⊎_elim (λ e. rw e (≤ℤ_refl (get_or s (to + z) (pos 0)))) (λ w. rw w.is (max-is (get_or s (to + z) (pos 0)) (v (z - z₀))).left) (now z);
            below = λ z h.
                ⊎_elim (λ e. rw e (over-above s from z (get_or s (to + z) (pos 0))))
                (λ w.
                rw w.is
                (max_least (get_or s (to + z) (pos 0)) (v (z - z₀)) (best_over 1 l s from z (get_or s (to + z) (pos 0)))
                (over-above s from z (get_or s (to + z) (pos 0)))
                (over-reach s from z (get_or s (to + z) (pos 0)) (v (z - z₀)) w.output)))
                (now z);
            reach = λ z k h lo hi fit of.
                let r = reach z k lo hi fit of in
                rw (written z r.0 r.1).is (≤ℤ-trans r.2 (max-is (get_or s (to + z) (pos 0)) (v (z - z₀))).right);
            apart = λ j out.
                apart j (⊎_elim (λ (l : j < to). inl (omega arith)) (λ (l : to + n ≤ j). inr (omega arith)) out);
          }
        where
          written : (z : ℕ) → z₀ ≤ z → z < z₀ + count → Written z
          written z lo hi =
              let e : to + z₀ + (z - z₀) ≡ to + z = omega arith in
              let n : z₀ + (z - z₀) ≡ z = omega arith in
              record { is = rw e at (inside (z - z₀) (omega arith)); output = rw n at (output (z - z₀) (omega arith)) }

          now : (z : ℕ) → (get_or t (to + z) (pos 0) ≡ get_or s (to + z) (pos 0)) ⊎ Written z
          now z = by (ltb z z₀) (ltb z (z₀ + count)) refl refl
            where
              by : (a b : Bool) → ltb z z₀ ≡ a → ltb z (z₀ + count) ≡ b → (get_or t (to + z) (pos 0) ≡ get_or s (to + z) (pos 0)) ⊎ Written z
              by true b e i = let l = ltb-true z z₀ e in inl (apart (to + z) (inl (omega arith)))
              by false true e i = inr (written z (ltb-false z z₀ e) (ltb-true z (z₀ + count) i))
              by false false e i = let l = ltb-false z (z₀ + count) i in inl (apart (to + z) (inr (omega arith)))

    -- ---- one pass over so many sources from a on: the output that leads from a source to the cell of the pass's i-th place after it is `out i`

    record Way (down : Bool) (a count end : ℕ) (out : ℕ → ℕ) (rise : ℤ) : Type 0 where
      places : Order down count
      room : a + end + count ≤ n
      first : out 0 ≡ end
      low : (m : ℕ) → m < count → l.low ≤ out m
      high : (m : ℕ) → m < count → out m ≤ l.high
      rises : (m : ℕ) → suc m < count → brings l (out (suc m)) ≡ brings l (out m) +ℤ rise
      lands : (i j : ℕ) → j ≤ i → i < count → end + place_of down count i ≡ place_of down count j + out (i - j)

    -- the places of a cell and of its source
    record Aim (down : Bool) (a count end : ℕ) (out : ℕ → ℕ) (z k : ℕ) : Type 0 where
      i : ℕ
      j : ℕ
      j≤ : j ≤ i
      i< : i < count
      cell : z ≡ a + end + place_of down count i
      source : z - k ≡ a + place_of down count j
      is : out (i - j) ≡ k

    module _ (down : Bool) (a count end : ℕ) (out : ℕ → ℕ) (rise : ℤ) (way : Way down a count end out rise) (s t : List ℤ) (Of : ℕ → ℕ → Type 0) where
      swept-reached : ((z k : ℕ) → l.low ≤ k → k ≤ l.high → k ≤ z → Of z k → Aim down a count end out z k)
          → Swept down s t (to + (a + end)) (from + a) count (brings l end) rise → Reached l n Of s t to from
      swept-reached aims new = pass Of s t (a + end) count v way.room inside new.apart output reach
        where
          number : ℕ → ℤ
          number j = get_or s (from + a + place_of down count j) (pos 0)

          brought : ℕ → ℤ
          brought m = brings l (out m)

          v : ℕ → ℤ
          v i = best_so_far number rise (place_of down count i) +ℤ brings l end

          first : brought 0 ≡ brings l end
          first = ap (brings l) way.first

          before : (i m : ℕ) → i < count → m < i → brought (suc m) ≡ brought m +ℤ rise
          before i m h k = way.rises m (omega arith)

          inside : (i : ℕ) → i < count → get_or t (to + (a + end) + i) (pos 0) ≡ maxℤ (get_or s (to + (a + end) + i) (pos 0)) (v i)
          inside i h = rw (way.places.back i h) at (new.inside (place_of down count i) (way.places.inside i h))

          output : (i : ℕ) → i < count → Output s from (a + end + i) (v i)
          output i h =
              given (best-source number rise brought _ first (place_of down count i) (λ m k. before (place_of down count i) m (way.places.inside i h) k))
            where
              given : Source number rise brought _ first (place_of down count i) (v i) → Output s from (a + end + i) (v i)
              given b =
                  let turn = way.places.inside i h in
                  let k = out (place_of down count i - b.at) in
                  let on : end + i ≡ place_of down count b.at + k = rw (way.places.back i h) at (way.lands (place_of down count i) b.at b.at≤ turn) in
                  let e : from + a + place_of down count b.at ≡ from + (a + end + i - k) = omega arith in
                  record {
                    of = k;
                    low = way.low (place_of down count i - b.at) (omega arith);
                    high = way.high (place_of down count i - b.at) (omega arith);
                    fits = omega arith;
                    is = rw (← e) b.is;
                  }

          reach : (z k : ℕ) → l.low ≤ k → k ≤ l.high → k ≤ z → Of z k
              → (a + end ≤ z) × (z < a + end + count) × (reaching s from z k ≤ℤ v (z - (a + end)))
          reach z k lo hi fit of =
              let aim = aims z k lo hi fit of in
              let there = way.places.inside aim.i aim.i< in
              let p : z - (a + end) ≡ place_of down count aim.i = omega (arith, aim.cell) in
              let e : from + a + place_of down count aim.j ≡ from + (z - k) = omega (arith, aim.source) in
              let above = best-reach number rise brought _ first aim.i aim.j aim.j≤ (λ m h. before aim.i m aim.i< h) in
              (omega (arith, aim.cell), omega (arith, aim.cell), rw (p, way.places.back aim.i aim.i<) (rw (e, aim.is) at above))

    -- up with the lowest output first, down with the highest

    module _ (s t : List ℤ) (a count : ℕ) (few : count ≤ outputs l) where
      climb-reached : a + l.low + count ≤ n → Swept false s t (to + (a + l.low)) (from + a) count l.least l.rise
          → Reached l n (λ z k. (a ≤ z - k) × (z - l.low < a + count)) s t to from
      climb-reached room new =
          swept-reached false a count l.low (λ m. l.low + m) l.rise way s t (λ z k. (a ≤ z - k) × (z - l.low < a + count)) aims
          (rw (brings-least l) new)
        where
          way : Way false a count l.low (λ m. l.low + m) l.rise
          way =
              record {
                places = in_order false count;
                room = room;
                first = add-zero l.low;
                low = λ m h. omega arith;
                high = λ m h. omega arith;
                rises = λ m h. let e : l.low + suc m ≡ suc (l.low + m) = omega arith in rw e (brings-next l (l.low + m) (omega arith));
                lands = λ i j h k. omega arith;
              }

          aims : (z k : ℕ) → l.low ≤ k → k ≤ l.high → k ≤ z → (a ≤ z - k) × (z - l.low < a + count) → Aim false a count l.low (λ m. l.low + m) z k
          aims z k lo hi fit of =
              record {
                i = z - (a + l.low);
                j = z - k - a;
                j≤ = omega arith;
                i< = omega arith;
                cell = omega arith;
                source = omega arith;
                is = omega arith;
              }

      descend-reached : a + l.high + count ≤ n → l.low ≤ l.high
          → Swept true s t (to + (a + l.high)) (from + a) count (brings l l.high) (pos 0 -ℤ l.rise)
          → Reached l n (λ z k. (a + l.high ≤ z) × (z - k < a + count)) s t to from
      descend-reached room some new =
          swept-reached true a count l.high (λ m. l.high - m) (pos 0 -ℤ l.rise) way s t (λ z k. (a + l.high ≤ z) × (z - k < a + count)) aims new
        where
          falls : (x y r : ℤ) → x ≡ y +ℤ r → y ≡ x +ℤ (pos 0 -ℤ r)
          falls x y r e = omega (zarith, zsum y r, zdiff (pos 0) r, zsum x (pos 0 -ℤ r), up_pos 0, dn-pos 0)

          lands : (hi i j : ℕ) → j ≤ i → i < count → count ≤ suc hi → hi + (count - 1 - i) ≡ count - 1 - j + (hi - (i - j))
          lands hi i j h k m = omega arith

          way : Way true a count l.high (λ m. l.high - m) (pos 0 -ℤ l.rise)
          way =
              record {
                places = in_order true count;
                room = room;
                first = sub-zero l.high;
                low = λ m h. omega arith;
                high = λ m h. omega arith;
                rises = λ m h.
                    let e : suc (l.high - suc m) ≡ l.high - m = omega arith in
                    falls (brings l (l.high - m)) (brings l (l.high - suc m)) l.rise (rw e at (brings-next l (l.high - suc m) (omega arith)));
                lands = λ i j h k. lands l.high i j h k (omega arith);
              }

          aims : (z k : ℕ) → l.low ≤ k → k ≤ l.high → k ≤ z → (a + l.high ≤ z) × (z - k < a + count) → Aim true a count l.high (λ m. l.high - m) z k
          aims z k lo hi fit of =
              let from-a : a ≤ z - k = omega arith in
              let d : z - (a + l.high) ≤ z - k - a = omega arith in
              let e : z - k - a < count = omega arith in
              let out : l.high - (z - k - a - (z - (a + l.high))) ≡ k = omega arith in
              let b = back (z - (a + l.high)) (z - k - a) d e in
              record {
                i = count - 1 - (z - (a + l.high));
                j = count - 1 - (z - k - a);
                j≤ = b.0;
                i< = b.4;
                cell = rw b.1 (restored (a + l.high) z of.0);
                source = rw b.2 (restored a (z - k) from-a);
                is = rw b.3 out;
              }
            where
              back : (i d : ℕ) → i ≤ d → d < count
                  → (count - 1 - d ≤ count - 1 - i) × (count - 1 - (count - 1 - i) ≡ i) × (count - 1 - (count - 1 - d) ≡ d)
                  × (count - 1 - i - (count - 1 - d) ≡ d - i) × (count - 1 - i < count)
              back i d h k = (omega arith, omega arith, omega arith, omega arith, omega arith)

              restored : (x y : ℕ) → x ≤ y → y ≡ x + (y - x)
              restored x y h = omega arith

    -- ---- a row: chunk by chunk while the highest output stays in it, then the sources that are left

    reached-some : (P Q : ℕ → ℕ → Type 0) (was s : List ℤ) → ((z k : ℕ) → z < n → l.low ≤ k → k ≤ l.high → k ≤ z → Q z k → P z k)
        → Reached l n P was s to from → Reached l n Q was s to from
    reached-some P Q was s some r =
        record { above = r.above; below = r.below; reach = λ z k h lo hi fit q. r.reach z k h lo hi fit (some z k h lo hi fit q); apart = r.apart }

    reached-none : (P : ℕ → ℕ → Type 0) (s : List ℤ) → ((z k : ℕ) → z < n → l.low ≤ k → k ≤ l.high → k ≤ z → P z k → ⊥)
        → Reached l n P s s to from
    reached-none P s none =
        record {
          above = λ z h. ≤ℤ_refl (get_or s (to + z) (pos 0));
          below = λ z h. over-above s from z (get_or s (to + z) (pos 0));
          reach = λ z k h lo hi fit p. absurd (none z k h lo hi fit p);
          apart = λ j out. refl;
        }

    pub row_first : (s : List ℤ) → Reached l n (Between l n 0 0) s s to from
    row_first s = reached-none (Between l n 0 0) s (λ z k h lo hi fit p. omega arith)

    module _ (was s t : List ℤ) (behind : to + n ≤ from) where
      pub row-chunk : (a down : ℕ) → l.low ≤ l.high → a + l.high < n → down ≡ min (l.high - l.low + 1) (n - l.high - a)
          → Swept false was s (to + (a + l.low)) (from + a) (l.high - l.low + 1) l.least l.rise
          → Swept true s t (to + (a + l.high)) (from + a) down (brings l l.high) (pos 0 -ℤ l.rise)
          → Reached l n (Between l n a (a + outputs l)) was t to from
      row-chunk a down some room e climbed descended =
          reached_then (λ z k. (a ≤ z - k) × (z - l.low < a + (l.high - l.low + 1))) (λ z k. (a + l.high ≤ z) × (z - k < a + down))
          (Between l n a (a + outputs l))
          was
          s
          t
          behind
          cover
          (climb-reached was s a (l.high - l.low + 1) (omega arith) (omega arith) climbed)
          (descend-reached s t a down (omega arith) (omega arith) some descended)
        where
          cover : (z k : ℕ) → z < n → l.low ≤ k → k ≤ l.high → k ≤ z → Between l n a (a + outputs l) z k
              → ((a ≤ z - k) × (z - l.low < a + (l.high - l.low + 1))) ⊎ ((a + l.high ≤ z) × (z - k < a + down))
          cover z k h lo hi fit p = by (ltb (z - l.low) (a + (l.high - l.low + 1))) refl
            where
              by : (b : Bool) → ltb (z - l.low) (a + (l.high - l.low + 1)) ≡ b
                  → ((a ≤ z - k) × (z - l.low < a + (l.high - l.low + 1))) ⊎ ((a + l.high ≤ z) × (z - k < a + down))
              by true i = inl (p.0, ltb-true (z - l.low) (a + (l.high - l.low + 1)) i)
              by false i =
                  let far = ltb-false (z - l.low) (a + (l.high - l.low + 1)) i in
                  inr (past_up l.low l.high a z some far, on-way-down l.low l.high n a down (z - k) some e p.1 p.2)

      pub row_next : (a : ℕ) → Reached l n (Between l n 0 a) was s to from → Reached l n (Between l n a (a + outputs l)) s t to from
          → Reached l n (Between l n 0 (a + outputs l)) was t to from
      row_next a old new = reached_then (Between l n 0 a) (Between l n a (a + outputs l)) (Between l n 0 (a + outputs l)) was s t behind cover old new
        where
          cover : (z k : ℕ) → z < n → l.low ≤ k → k ≤ l.high → k ≤ z → Between l n 0 (a + outputs l) z k
              → Between l n 0 a z k ⊎ Between l n a (a + outputs l) z k
          cover z k h lo hi fit p = by (ltb (z - k) a) refl
            where
              by : (b : Bool) → ltb (z - k) a ≡ b → Between l n 0 a z k ⊎ Between l n a (a + outputs l) z k
              by true i = inl (p.0, ltb-true (z - k) a i, p.2)
              by false i = inr (ltb-false (z - k) a i, p.1, p.2)

      pub row_done : (a : ℕ) → n ≤ a + l.high → Reached l n (Between l n 0 a) was s to from → Reached l n (Past l n) s t to from
          → RowRaised l n was t to from
      row_done a far old new =
          reached-all (λ z k. Between l n 0 a z k ⊎ Past l n z k) was t all
          (reached_then (Between l n 0 a) (Past l n) (λ z k. Between l n 0 a z k ⊎ Past l n z k) was s t behind (λ z k h lo hi fit p. p) old new)
        where
          all : (z k : ℕ) → z < n → l.low ≤ k → k ≤ l.high → k ≤ z → Between l n 0 a z k ⊎ Past l n z k
          all z k h lo hi fit = by (ltb (z - k + l.high) n) refl
            where
              by : (b : Bool) → ltb (z - k + l.high) n ≡ b → Between l n 0 a z k ⊎ Past l n z k
              by true i = let inside = ltb-true (z - k + l.high) n i in inl (omega arith, omega arith, inside)
              by false i = inr (ltb-false (z - k + l.high) n i)

    module _ (was : List ℤ) (a : ℕ) (first : a ≡ n - min l.high (n)) where
      pub row_last : (s : List ℤ) → a + l.low < n → l.low ≤ l.high
          → Swept false was s (to + (a + l.low)) (from + a) (n - (a + l.low)) l.least l.rise
          → Reached l n (Past l n) was s to from
      row_last s room some climbed =
          reached-some (λ z k. (a ≤ z - k) × (z - l.low < a + (n - (a + l.low)))) (Past l n) was s
          (λ z k h lo hi fit p. (omega arith, omega arith))
          (climb-reached was s a (n - (a + l.low)) (omega arith) (omega arith) climbed)

      pub row-no-last : n ≤ a + l.low → Reached l n (Past l n) was was to from
      row-no-last none = reached-none (Past l n) was (λ z k h lo hi fit p. omega arith)
