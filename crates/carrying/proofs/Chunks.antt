-- A chunk of a line: what is climbed has a place's smaller outputs, what is descended the larger ones.
use mathlib.Core.Path.{◌≡◌, refl, sym, ap, ap₂, ◌∙◌}
use mathlib.Core.Bool.{Bool, true, false, cond}
use mathlib.Core.List.{List}
use mathlib.Core.Logic.{◌⊎◌, ⊎_elim, inl, inr}
use Prim.Native.Nat.{ℕ, zero, suc, ◌+◌, ◌-◌, ◌*◌, ◌≤◌, ◌<◌, min}
use native.Mathlib.Nat.{add-mul, mul-le-mul_right}
use native.Mathlib.Omega.{arith}
use borrow.Author.Tests.{ltb-true, ltb-false}
use lib.Dec.{ltb}
use lib.IntN.{ℤ, pos, neg_ℤ, ◌+ℤ◌, ◌-ℤ◌, ◌*ℤ◌, +ℤ_idl, +ℤ-neg_ℤ_cancel}
use lib.ListN.{length, get_or}
use lib.Signed.{lt_z}
use Rattle.integers.proofs.Order.{lt_z-true, lt_z-false}
use Rattle.integers.proofs.Ranges.{abs-within}
use Rattle.intervals.specs.declared.rows.Ladder.{Ladder}
use Rattle.intervals.specs.Ladders.{brings, outputs}
use Rattle.intervals.proofs.Ladders.{brings-next, brings-within, fall-within}
use Rattle.carrying.specs.declared.images.Slope.{Slope}
use Rattle.carrying.specs.declared.images.Places.{Places}
use Rattle.carrying.specs.Pairs.{Joined}
use Rattle.carrying.specs.Picking.{Picked}
use Rattle.carrying.specs.Images.{stepped, up_worth, up_mark, UpPicked, down_worth, down_mark, DownPicked, Allowed, worth, mark_by, PickedAt}
use Rattle.carrying.specs.Images.{piece, Aside, Descended, Sources, Chunk, Chunked, Chunks, Imaged}
use Rattle.carrying.proofs.Picking.{picked_of, picked-left, picked-right, picked-renamed}
use Rattle.carrying.proofs.Steps.{stepped-none, stepped-next}

-- the sources that are climbed, and those that are descended
abbrev pub up_of : Ladder → ℕ → ℕ → ℕ → Slope
up_of l line z count = record { from = line + (z - l.low); count = count; gain = l.least; rise = l.rise }

abbrev pub down_of : Ladder → ℕ → ℕ → Slope
down_of l line z = record { from = line + (z - l.high); count = l.high - l.low; gain = brings l l.high; rise = pos 0 -ℤ l.rise }

module _ (l : Ladder) where
  brings-up : (d : ℕ) → stepped l.least l.rise d ≡ brings l (d + l.low)
  unfolding stepped brings
  brings-up d = let e : d + l.low - l.low ≡ d = omega arith in ap (λ (n : ℕ). l.least +ℤ l.rise *ℤ pos n) (sym e)

  brings-down : (e : ℕ) → e ≤ l.high - l.low → l.low ≤ l.high → stepped (brings l l.high) (pos 0 -ℤ l.rise) e ≡ brings l (l.high - e)
  brings-down zero h some = let n : l.high - 0 ≡ l.high = omega arith in stepped-none (brings l l.high) (pos 0 -ℤ l.rise) ∙ ap (brings l) (sym n)
  brings-down (suc e) h some =
      let k = l.high - suc e in
      let n : l.high - e ≡ suc k = omega arith in
      let b = brings-next l k (omega arith) in
      let i = brings-down e (omega arith) some ∙ ap (brings l) n ∙ b in
      stepped-next (brings l l.high) (pos 0 -ℤ l.rise) e ∙ ap (λ (x : ℤ). x +ℤ (pos 0 -ℤ l.rise)) i ∙ back (brings l k) l.rise
    where
      back : (x r : ℤ) → x +ℤ r +ℤ (pos 0 -ℤ r) ≡ x
      back x r = ap (λ (t : ℤ). x +ℤ r +ℤ t) (+ℤ_idl (neg_ℤ r)) ∙ +ℤ-neg_ℤ_cancel x r

  module _ (cells : List ℤ) (w line z : ℕ) (fits : l.low ≤ z) where
    -- what is climbed to a place
    pub climbed : (count i : ℕ) {v m : ℤ} → UpPicked cells w (up_of l line z count) i v m
        → Picked (λ k. (l.low ≤ k) × (k ≤ l.low + i)) (worth l cells w line (z + i)) (mark_by l cells w line (z + i)) v m
    climbed count i p =
        picked-renamed l.low (up_worth cells w (up_of l line z count) i) (up_mark cells w (up_of l line z count) i)
        (worth l cells w line (z + i)) (mark_by l cells w line (z + i))
        (λ d h. (omega arith, omega arith))
        (λ k h. (k - l.low, omega (arith, h.1), omega (arith, h.0)))
        (λ d h. (
          ap₂ (λ (j : ℕ) (x : ℤ). get_or cells j (pos 0) +ℤ x) (sym (place d h)) (sym (brings-up d)),
          ap (λ (j : ℕ). get_or cells (w + j) (pos 0)) (sym (place d h)),
        ))
        p
      where
        place : (d : ℕ) → d ≤ i → line + (z - l.low) + (i - d) ≡ line + (z + i - (d + l.low))
        place d h = omega arith

    -- what is descended to a place
    pub descended : l.high ≤ z → l.low ≤ l.high → (i : ℕ) → i < l.high - l.low → {v m : ℤ}
        → DownPicked cells w (down_of l line z) (l.high - l.low - 1 - i) v m
        → Picked (λ k. (l.low + i < k) × (k ≤ l.high)) (worth l cells w line (z + i)) (mark_by l cells w line (z + i)) v m
    descended past some i inside p =
        picked-renamed (l.low + suc i)
        (down_worth cells w (down_of l line z) (l.high - l.low - 1 - i))
        (down_mark cells w (down_of l line z))
        (worth l cells w line (z + i)) (mark_by l cells w line (z + i))
        (λ t h. (omega arith, omega arith))
        (λ k h. (k - (l.low + suc i), omega (arith, h.0, h.1), omega (arith, h.0)))
        (λ t h. (
          ap₂ (λ (j : ℕ) (x : ℤ). get_or cells j (pos 0) +ℤ x) (sym (place t h)) (sym (brought t h)),
          ap (λ (j : ℕ). get_or cells (w + j) (pos 0)) (sym (place t h)),
        ))
        p
      where
        place : (t : ℕ) → t ≤ l.high - l.low - 1 - i → line + (z - l.high) + (l.high - l.low - 1 - t) ≡ line + (z + i - (t + (l.low + suc i)))
        place t h = omega arith

        brought : (t : ℕ) → t ≤ l.high - l.low - 1 - i
            → stepped (brings l l.high) (pos 0 -ℤ l.rise) (l.high - l.low - 1 - i - t) ≡ brings l (t + (l.low + suc i))
        brought t h =
            let n : l.high - (l.high - l.low - 1 - i - t) ≡ t + (l.low + suc i) = omega arith in
            brings-down (l.high - l.low - 1 - i - t) (omega arith) some ∙ ap (brings l) n

    -- ---- all outputs that a place allows

    module _ (i : ℕ) (fewer : i < outputs l) where
      pub climbed-all : (z ≡ l.low) ⊎ (l.high ≤ l.low + i) → {v m : ℤ}
          → Picked (λ k. (l.low ≤ k) × (k ≤ l.low + i)) (worth l cells w line (z + i)) (mark_by l cells w line (z + i)) v m
          → PickedAt l cells w line (z + i) v m
      climbed-all begins p =
          picked_of (worth l cells w line (z + i)) (mark_by l cells w line (z + i)) (λ k h. (h.0, omega arith, omega arith))
          (λ k h.
          ⊎_elim (λ (e : z ≡ l.low). (h.0, omega (arith, h.2))) (λ (e : l.high ≤ l.low + i). (h.0, omega (arith, h.1))) begins) p

      pub joined-all : l.high ≤ z → i < l.high - l.low → {v₀ m₀ v m : ℤ}
          → Picked (λ k. (l.low ≤ k) × (k ≤ l.low + i)) (worth l cells w line (z + i)) (mark_by l cells w line (z + i)) v₀ m₀
          → Joined v₀ m₀ v m
          (DownPicked cells w (down_of l line z) (l.high - l.low - 1 - i))
          → PickedAt l cells w line (z + i) v m
      joined-all past inside {v₀} {m₀} {v} {m} a j =
          picked_of (worth l cells w line (z + i)) (mark_by l cells w line (z + i))
          (λ k h.
          ⊎_elim (λ (g : (l.low ≤ k) × (k ≤ l.low + i)). (g.0, omega (arith, g.1), omega (arith, g.1)))
          (λ (g : (l.low + i < k) × (k ≤ l.high)). (omega (arith, g.0), g.1, omega (arith, g.1))) h)
          (λ k h. lot k h (ltb (l.low + i) k) refl)
          (by (lt_z v₀ j.value) refl j.larger j.marked)
        where
          b : Picked (λ k. (l.low + i < k) × (k ≤ l.high)) (worth l cells w line (z + i)) (mark_by l cells w line (z + i)) j.value j.mark
          b = descended past (omega arith) i inside j.of

          lot : (k : ℕ) → Allowed l cells w line (z + i) k → (t : Bool) → ltb (l.low + i) k ≡ t
              → ((l.low ≤ k) × (k ≤ l.low + i)) ⊎ ((l.low + i < k) × (k ≤ l.high))
          lot k h true e = inr (ltb-true (l.low + i) k e, h.1)
          lot k h false e = inl (h.0, ltb-false (l.low + i) k e)

          by : (t : Bool) → lt_z v₀ j.value ≡ t → v ≡ cond t j.value v₀ → m ≡ cond t j.mark m₀
              → Picked (λ k. ((l.low ≤ k) × (k ≤ l.low + i)) ⊎ ((l.low + i < k) × (k ≤ l.high))) (worth l cells w line (z + i))
              (mark_by l cells w line (z + i)) v m
          by true e ev em =
              rw (ev, em)
              (picked-right (worth l cells w line (z + i)) (mark_by l cells w line (z + i)) a b (λ x y g h. omega (arith, g.1, h.0))
              (lt_z-true v₀ j.value e))
          by false e ev em =
              rw (ev, em)
              (picked-left (worth l cells w line (z + i)) (mark_by l cells w line (z + i)) a b (λ x y g h. omega (arith, g.1, h.0))
              (lt_z-false v₀ j.value e))

    -- ---- the chunk

    module _ (count : ℕ) (few : count ≤ outputs l) (was : List ℤ) (to : ℕ) (room : to + outputs l ≤ piece) where
      narrower : (j n : ℕ) → n ≤ outputs l → (j < to) ⊎ (to + outputs l ≤ j) → (j < to) ⊎ (to + n ≤ j)
      narrower j n h o = ⊎_elim (λ (a : j < to). inl a) (λ (a : to + outputs l ≤ j). inr (omega arith)) o

      pub chunk-plain : (out : List ℤ) → (z ≡ l.low) ⊎ (l.high ≤ l.low)
          → Aside (UpPicked cells w (up_of l line z count)) was out to count → Chunked l cells w (record { line = line; first = z; count = count }) was out to
      chunk-plain out begins a =
          record {
            inside = λ i h. climbed-all i (omega arith) (begin i) (climbed count i (a.inside i h));
            apart =
                record {
                  same = a.apart.same;
                  values = λ j h o. a.apart.values j h (narrower j count few o);
                  marks = λ j h o. a.apart.marks j h (narrower j count few o);
                  beyond = a.apart.beyond;
                };
          }
        where
          begin : (i : ℕ) → (z ≡ l.low) ⊎ (l.high ≤ l.low + i)
          begin i = ⊎_elim (λ (e : z ≡ l.low). inl e) (λ (e : l.high ≤ l.low). inr (omega arith)) begins

      pub chunk-joined : (mid out : List ℤ) → l.high < z → l.low < l.high
          → Aside (UpPicked cells w (up_of l line z count)) was mid to count
          → Descended cells w (down_of l line z) mid out to (l.high - l.low)
          → Chunked l cells w (record { line = line; first = z; count = count }) was out to
      chunk-joined mid out past wide a d =
          record {
            inside = λ i h. by i h (ltb i (l.high - l.low)) refl;
            apart =
                record {
                  same = d.apart.same ∙ a.apart.same;
                  values = λ j h o. d.apart.values j h (below j o) ∙ a.apart.values j h (narrower j count few o);
                  marks = λ j h o. d.apart.marks j h (below j o) ∙ a.apart.marks j h (narrower j count few o);
                  beyond = λ j h. d.apart.beyond j h ∙ a.apart.beyond j h;
                };
          }
        where
          below : (j : ℕ) → (j < to) ⊎ (to + outputs l ≤ j)
              → (j < to + (l.high - l.low - (l.high - l.low))) ⊎ (to + (l.high - l.low - (l.high - l.low)) + (l.high - l.low) ≤ j)
          below j o = ⊎_elim (λ (g : j < to). inl (omega arith)) (λ (g : to + outputs l ≤ j). inr (omega arith)) o

          by : (i : ℕ) → i < count → (t : Bool) → ltb i (l.high - l.low) ≡ t
              → PickedAt l cells w line (z + i) (get_or out (to + i) (pos 0)) (get_or out (piece + (to + i)) (pos 0))
          by i h true e =
              let inside = ltb-true i (l.high - l.low) e in
              joined-all i (omega arith) (omega arith) inside (climbed count i (a.inside i h)) (d.inside i (omega arith) inside)
          by i h false e =
              let past-it = ltb-false i (l.high - l.low) e in
              rw
              (d.apart.values (to + i) (omega arith) (inr (omega arith)), d.apart.marks (to + i) (omega arith) (inr (omega arith)))
              (climbed-all i (omega arith) (inr (omega arith)) (climbed count i (a.inside i h)))

-- ---- what the two ways ask of a chunk

module _ (l : Ladder) (cells : List ℤ) (w : ℕ) (p : Places) (c : Chunk l cells w p) where
  abbrev z : ℕ
  z = p.first

  abbrev line : ℕ
  line = p.line

  pub begins-low : l.low ≤ z
  begins-low = ⊎_elim (λ (e : z ≡ l.low). omega arith) (λ (e : l.high < z). omega (arith, c.steady.some)) c.begins

  pub up-sources : Sources cells w (up_of l line z p.count)
  up-sources =
      record {
        some = c.some;
        few = omega (arith, c.most, c.steady.few);
        values = omega (arith, c.values, begins-low);
        marks = c.marks;
        small = λ i h.
            let e : line + (z - l.low) + i ≡ line + (z - l.low + i) = omega arith in
            rw e (c.small (z - l.low + i) (omega (arith, begins-low)));
        gains = omega (arith, c.steady.least);
        rises = c.steady.rise;
      }

  pub down-sources : l.high < z → l.low < l.high
      → Sources cells w (down_of l line z)
  down-sources past wide =
      record {
        some = omega arith;
        few = omega (arith, c.steady.few);
        values = omega (arith, c.values);
        marks = c.marks;
        small = λ i h.
            let e : line + (z - l.high) + i ≡ line + (z - l.high + i) = omega arith in
            rw e (c.small (z - l.high + i) (omega (arith, c.some)));
        gains = abs-within (brings-within l c.steady l.high (omega arith));
        rises = abs-within (fall-within l c.steady);
      }

-- ---- a piece, chunk by chunk

module _ (l : Ladder) (cells : List ℤ) (w : ℕ) (at : Places) (p : Chunks l cells w at) where
  -- so many chunks are done
  pub record InChunks (was out : List ℤ) (done : ℕ) : Type 0 where
    pub chunks : ℕ
    pub whole : done ≡ chunks * outputs l
    pub inside : (i : ℕ) → i < done → i < at.count → PickedAt l cells w at.line (at.first + i) (get_or out i (pos 0)) (get_or out (piece + i) (pos 0))
    pub same : length out ≡ length was

  pub chunks-none : (was : List ℤ) → InChunks was was 0
  chunks-none was = record { chunks = 0; whole = omega arith; inside = λ i h g. absurd (omega arith); same = refl }

  module _ (was out : List ℤ) (done : ℕ) (before : done < at.count) (v : InChunks was out done) where
    -- the next chunk has room aside
    pub room_for : done + outputs l ≤ piece
    room_for = by (ltb v.chunks p.chunks) refl
      where
        by : (t : Bool) → ltb v.chunks p.chunks ≡ t → done + outputs l ≤ piece
        by true e =
            let h = ltb-true v.chunks p.chunks e in
            let m : (v.chunks + 1) * outputs l ≤ p.chunks * outputs l = mul-le-mul_right (outputs l) (omega arith) in
            omega (arith, m, v.whole, p.fits)
        by false e =
            let h = ltb-false v.chunks p.chunks e in
            let m : p.chunks * outputs l ≤ v.chunks * outputs l = mul-le-mul_right (outputs l) h in
            absurd (omega (arith, m, v.whole, p.most))

    pub next-chunk : (some : ℕ) → some ≡ min (outputs l) (at.count - done)
        → Chunk l cells w (record { line = at.line; first = at.first + done; count = some })
    next-chunk some e =
        record {
          steady = p.steady;
          some = omega (arith, e, p.steady.some);
          most = omega (arith, e);
          begins = begin (p.before + v.chunks) refl;
          values = omega (arith, e, p.values);
          marks = p.marks;
          small = λ i h. p.small i (omega (arith, e));
        }
      where
        begin : (n : ℕ) → p.before + v.chunks ≡ n → (at.first + done ≡ l.low) ⊎ (l.high < at.first + done)
        begin zero n =
            let a : p.before ≡ 0 = omega arith in
            let b : v.chunks ≡ 0 = omega arith in
            let za : at.first ≡ l.low + 0 * outputs l = rw a at p.begins in
            let db : done ≡ 0 * outputs l = rw b at v.whole in
            inl (omega (arith, za, db))
        begin (suc n) e =
            let both : (p.before + v.chunks) * outputs l ≡ p.before * outputs l + v.chunks * outputs l = add-mul p.before v.chunks (outputs l) in
            let m : 1 * outputs l ≤ (p.before + v.chunks) * outputs l = mul-le-mul_right (outputs l) (omega arith) in
            inr (omega (arith, m, both, p.begins, v.whole, p.steady.some))

    pub chunks-next : (some : ℕ) → some ≡ min (outputs l) (at.count - done) → (next : List ℤ)
        → Chunked l cells w (record { line = at.line; first = at.first + done; count = some }) out next done
        → InChunks was next (done + outputs l)
    chunks-next some e next c =
        record {
          chunks = v.chunks + 1;
          whole = omega (arith, v.whole, add-mul v.chunks 1 (outputs l));
          inside = λ i h g. by i h g (ltb i done) refl;
          same = c.apart.same ∙ v.same;
        }
      where
        by : (i : ℕ) → i < done + outputs l → i < at.count → (t : Bool) → ltb i done ≡ t
            → PickedAt l cells w at.line (at.first + i) (get_or next i (pos 0)) (get_or next (piece + i) (pos 0))
        by i h g true t =
            let k = ltb-true i done t in
            rw (c.apart.values i (omega (arith, room_for)) (inl k), c.apart.marks i (omega (arith, room_for)) (inl k)) (v.inside i k g)
        by i h g false t =
            let k = ltb-false i done t in
            let back : done + (i - done) ≡ i = omega arith in
            let place : at.first + done + (i - done) ≡ at.first + i = omega arith in
            rw (place, back) at (c.inside (i - done) (omega (arith, e)))

  pub chunks-all : (was out : List ℤ) (done : ℕ) → at.count ≤ done → InChunks was out done
      → Imaged (λ i v m. PickedAt l cells w at.line (at.first + i) v m) was out at.count
  chunks-all was out done past v = record { inside = λ i h. v.inside i (omega arith) h; same = v.same }
