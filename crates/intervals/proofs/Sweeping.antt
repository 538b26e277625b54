-- A pass that carries the best so far over the places of a stretch, in an order that comes to each place once: the invariant of its loop, and what
-- one place more makes of it.
use mathlib.Core.Path.{◌≡◌, refl, sym, ap, ◌∙◌}
use mathlib.Core.Bool.{Bool, true, false}
use mathlib.Core.List.{List}
use Prim.Native.Nat.{ℕ, ◌+◌, ◌^◌, ◌≤◌, ◌<◌}
use native.Mathlib.Omega.{arith}
use lib.IntN.{ℤ, pos, ◌+ℤ◌}
use lib.ListN.{get_or}
use mir.Syntax.{w64}
use mir.Val.{to_z, of_z, SFits}
use Rattle.integers.specs.Maximum.{maxℤ}
use Rattle.integers.proofs.Ranges.{Within, within-abs, within-weaken, abs-within, plain_fits}
use Rattle.geometry.specs.Layers.{swing}
use Rattle.intervals.specs.Ladders.{Stepping}
use Rattle.intervals.specs.Stretches.{Behind, best_so_far, below, Carries, Passed, Swept, place_of}
use Rattle.intervals.proofs.Stretches.{Made, made_none, made-next, made-apart}
use Rattle.intervals.proofs.Carrying.{Carried, carried_first, carried-next}

-- ---- the places, each order its own way back

pub record Order (down : Bool) (count : ℕ) : Type 0 where
  pub inside : (i : ℕ) → i < count → place_of down count i < count
  pub back : (i : ℕ) → i < count → place_of down count (place_of down count i) ≡ i

pub in_order : (down : Bool) (count : ℕ) → Order down count
in_order true count = record { inside = λ i h. omega arith; back = λ i h. omega arith }
in_order false count = record { inside = λ i h. h; back = λ i h. refl }

-- ---- a pass, and the invariant of its loop

module _ (down : Bool) where
  pub record Pass : Type 0 where
    pub was : List ℤ
    pub to : ℕ
    pub from : ℕ
    pub count : ℕ
    pub gain : ℤ
    pub rise : ℤ
    pub places : Order down count
    pub behind : Behind was to from count
    pub stepping : Stepping count gain rise

  -- of a call, whose gain and rise are read back
  abbrev pub pass_of : (was : List ℤ) (to from count : ℕ) (gain rise : ℤ) → SFits w64 gain → SFits w64 rise
      → (Behind was to from count) × (Stepping count gain rise) → Pass
  pass_of was to from count gain rise g r pre =
      record {
        was = was;
        to = to;
        from = from;
        count = count;
        gain = to_z w64 (of_z w64 gain);
        rise = to_z w64 (of_z w64 rise);
        places = in_order down count;
        behind = pre.0;
        stepping = rw (plain_fits g, plain_fits r) pre.1;
      }

  module _ (was : List ℤ) (to from count : ℕ) (gain rise : ℤ) where
    abbrev number : ℕ → ℤ
    number j = get_or was (from + place_of down count j) (pos 0)

    abbrev lifted : ℕ → ℤ
    lifted j = maxℤ (get_or was (to + place_of down count j) (pos 0)) (best_so_far number rise j +ℤ gain)

    -- the best is carried to place i of the order, the numbers before it are raised, and all else is as it was
    pub record Sweeping (s : List ℤ) (i : ℕ) (best : ℤ) : Type 0 where
      pub turns : i ≤ count
      pub carried : Carried number rise i best
      pub made : Made (place_of down count) was s to i lifted

  module _ (p : Pass) where
    abbrev Swept_to : List ℤ → ℕ → ℤ → Type 0
    Swept_to = Sweeping p.was p.to p.from p.count p.gain p.rise

    abbrev place : ℕ → ℕ
    place = place_of down p.count

    abbrev passed : ℕ → ℤ
    passed = number p.was p.to p.from p.count p.gain p.rise

    abbrev lifts : ℕ → ℤ
    lifts = lifted p.was p.to p.from p.count p.gain p.rise

    rising : Within swing p.rise
    rising = within-weaken p.stepping.rises (within-abs p.rise)

    small : (i : ℕ) → i < p.count → Within (2 ^ 62) (passed i)
    small i h = within-weaken (p.behind.small (place i) (p.places.inside i h)) (within-abs (passed i))

    pub sweep-first : Swept_to p.was 0 below
    sweep-first =
        record {
          turns = omega arith;
          carried = carried_first passed p.rise rising (small 0 p.stepping.some);
          made = made_none place p.was p.to lifts;
        }

    module _ (s : List ℤ) (i : ℕ) (best : ℤ) (h : i < p.count) (old : Swept_to s i best) where
      once : (m : ℕ) → m < i → place m ≡ place i → ⊥
      once m l e = omega (arith, sym (p.places.back m (omega arith)) ∙ ap place e ∙ p.places.back i h)

      there : get_or s (p.from + place i) (pos 0) ≡ passed i
      there = old.made.apart (p.from + place i) (λ m l e. omega (arith, p.places.inside m (omega arith), p.behind.before))

      here : get_or s (p.to + place i) (pos 0) ≡ get_or p.was (p.to + place i) (pos 0)
      here = old.made.apart (p.to + place i) (λ m l e. once m l (omega arith))

      pub sweep-ready : Carries s (p.to + place i) (p.from + place i) best p.gain p.rise
      sweep-ready =
          let inside = p.places.inside i h in
          record {
            before = omega (arith, p.behind.before);
            fits = omega (arith, p.behind.fits, old.made.same);
            number = rw there (p.behind.small (place i) inside);
            carried = abs-within (within-weaken (omega (arith, p.stepping.few)) old.carried.size);
            gains = p.stepping.gains;
            rises = p.stepping.rises;
          }

      pub sweep-next : (t : List ℤ) (next : ℤ) → Passed s t (p.to + place i) (p.from + place i) best p.gain p.rise next → Swept_to t (i + 1) next
      sweep-next t next new =
          let best-is : next ≡ best_so_far passed p.rise i = new.carried ∙ (rw there old.carried.next) in
          record {
            turns = omega arith;
            carried = rw best-is (carried-next passed p.rise rising i best old.carried (small i h));
            made =
                rw new.stored
                (made-next place p.was p.to lifts s i _ (omega (arith, p.places.inside i h, p.behind.before, p.behind.fits)) once old.made
                (rw (here, best-is)));
          }

    pub sweep-done : (s : List ℤ) (i : ℕ) (best : ℤ) → p.count ≤ i → Swept_to s i best
        → Swept down p.was s p.to p.from p.count p.gain p.rise
    sweep-done s i best h old =
        let e : i ≡ p.count = omega (arith, old.turns) in
        let all = rw e at old.made in
        record { inside = all.inside; apart = made-apart place p.was p.to lifts s p.count p.places.inside all }
