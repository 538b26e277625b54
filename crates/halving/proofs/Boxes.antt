-- A cell's own budgets for tops: no step reads the tops, so plans are the same, in a table that is no larger.
use Rattle.std.specs.Prelude.{None, Some}
use mathlib.Core.Path.{◌≡◌, refl, sym, ap, ◌∙◌}
use mathlib.Core.Bool.{Bool, true, false}
use mathlib.Core.List.{List, ◌++◌}
use Prim.Native.Nat.{ℕ, ◌+◌, ◌-◌, ◌*◌, ◌/◌, ◌≤◌, ◌<◌}
use native.Mathlib.Nat.{le_refl, mul-le-mul, mul_comm, le-div_iff_mul-le}
use native.Mathlib.Omega.{arith}
use borrow.Author.Tests.{ltb-true, ltb-false}
use lib.Dec.{ltb}
use lib.IntN.{ℤ}
use lib.ListN.{length, take, drop}
use Rattle.commitment.specs.Types.{BestProfit}
use Rattle.commitment.specs.Types.{Hours}
use Rattle.commitment.specs.Best.{Plan, schedule_of}
use Rattle.commitment.specs.Tries.{tries_over}
use Rattle.optimality.specs.declared.Cell.{Cell}
use Rattle.optimality.specs.declared.Figures.{Figures}
use Rattle.optimality.specs.Machine.{Quarter}
use Rattle.optimality.specs.Cells.{Sound, InTable, plan_at, value_at}
use Rattle.optimality.proofs.Within.{within-itself, with-sound}
use Rattle.geometry.specs.Geometry.{row, span, section, width}
use Rattle.halving.specs.declared.Task.{Task}
use Rattle.halving.specs.Types.{End}
use Rattle.halving.specs.Tasks.{boxed, frame, ends_by, Reachable, quarters_here, Asked, Given, TaskAsked, Leaf, PassAsked, Marked, Halves, Solved}

module _ (f : Figures) (c : Cell) where
  pub boxed-plan : (ends : Cell → BestProfit) (quarters : List Quarter) (x : Cell) → plan_at (boxed f c) ends quarters x ≡ plan_at f ends quarters x
  unfolding plan_at
  boxed-plan ends quarters x = refl

  pub boxed-value : (ends : Cell → BestProfit) (quarters : List Quarter) (x : Cell) → value_at (boxed f c) ends quarters x ≡ value_at f ends quarters x
  unfolding value_at
  boxed-value ends quarters x = refl

  module _ (inside : InTable f c) where
    pub boxed-sound : Sound f → Sound (boxed f c)
    boxed-sound ok = with-sound f c.left inside.left ok

    pub boxed-inside : InTable (boxed f c) c
    boxed-inside = record { state = inside.state; left = within-itself c.left }

    pub boxed-width : width (boxed f c) ≤ width f
    unfolding width section span row
    boxed-width =
        mul-le-mul (omega arith)
        (mul-le-mul (omega (arith, inside.left.starts)) (mul-le-mul (omega (arith, inside.left.ons)) (omega (arith, inside.left.blocks))))

-- ---- a task in its own box

pub table_fits : (w n room : ℕ) → w ≤ room / (n + 1) → (n + 1) * w ≤ room
table_fits w n room h = omega (arith, mul_comm w (n + 1), (le-div_iff_mul-le {k = n + 1} {x = w} {y = room} (omega arith)).0 h)

module _ (f : Figures) (prices : List ℤ) (hours : Hours) (room : ℕ) (t : Task) (cells schedule : ℕ)
    (k : TaskAsked f prices hours room t cells schedule) where
  abbrev g : Figures
  g = boxed f t.cell

  abbrev many : ℕ
  many = t.to - t.from + 1

  asked : Asked g prices hours t.from t.to t.end
  asked =
      let a = k.given.asked in
      record {
        sound = boxed-sound f t.cell k.given.here a.sound;
        priced = a.priced;
        clocked = a.clocked;
        ordered = a.ordered;
        inside = a.inside;
        short = a.short;
        ends = reached t.end a.ends;
      }
    where
      reached : (e : End) → Reachable f e → Reachable g e
      reached None h = h
      reached (Some s) h = h

  given : Given g prices hours t schedule
  given =
      record {
        asked = asked;
        here = boxed-inside f t.cell k.given.here;
        some = λ none. k.given.some (sym (boxed-value f t.cell (ends_by t.end) (quarters_here f prices hours t.from t.to) t.cell) ∙ none);
        long = k.given.long;
      }

  module _ (w : ℕ) (wide : w ≡ width g) where
    -- whose table fits
    pub as-leaf : (held lent : ℕ) → held ≤ lent → w ≤ held / many → Leaf (frame g w hours) prices t lent schedule
    as-leaf held lent inside h =
        record { given = given; wide = wide; fits = omega (arith, table_fits w (t.to - t.from) held h, inside) }

    -- or does not: then it has two intervals
    apart : room / many < w → t.from + 2 ≤ t.to
    apart h = by (ltb t.to (t.from + 2)) refl
      where
        by : (b : Bool) → ltb t.to (t.from + 2) ≡ b → t.from + 2 ≤ t.to
        by false e = ltb-false t.to (t.from + 2) e
        by true e =
            let l = ltb-true t.to (t.from + 2) e in
            let few : w * many ≤ w * 2 = mul-le-mul (le_refl w) (omega (arith, l)) in
            absurd (omega (arith, h, (le-div_iff_mul-le {k = many} {x = w} {y = room} (omega arith)).1 (omega (arith, few, wide, k.two))))

    pub as_passed : room / many < w → PassAsked (frame g w hours) prices t.from t.to t.end cells
    as_passed h = record { asked = asked; some = omega (arith, apart h); wide = wide; fits = omega (arith, wide, k.two, k.fits) }

    pub as-halves : room / many < w → (now : List ℤ) → room ≤ length now → Marked (frame g w hours) prices t.from t.to t.end now
        → Halves (frame g w hours) prices room t now schedule
    as-halves h now fits marked =
        record { given = given; apart = apart h; wide = wide; two = omega (arith, wide, k.two); fits = fits; marked = marked }

  pub unboxed : (was now : List ℕ) (tries : ℕ) → Solved g prices hours t was now tries → Solved f prices hours t was now tries
  unboxed was now tries s =
      let same = boxed-plan f t.cell (ends_by t.end) (quarters_here f prices hours t.from t.to) t.cell in
      record {
        written = s.written ∙ ap (λ (p : Plan). take t.from was ++ (schedule_of p ++ drop t.to was)) same;
        tried = s.tried ∙ ap (λ (p : Plan). tries_over f.block f.pmin (schedule_of p)) same;
        few = s.few;
      }
