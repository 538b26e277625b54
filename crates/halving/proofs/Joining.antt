-- The halves of a plan, cut where it stands at the middle: each is the plan of its own task, and together they are the whole.
use Rattle.std.specs.Prelude.{None, Some}
use mathlib.Core.Path.{◌≡◌, sym, ap, ap₂, subst, ◌∙◌}
use mathlib.Core.List.{List, [], ◌∷◌, ◌++◌}
use Prim.Native.Nat.{ℕ, zero, suc, ◌+◌, ◌-◌, ◌*◌, ◌≤◌, ◌<◌}
use native.Mathlib.Nat.{zero-add, add-zero, suc-add, div-le_self, le-div_iff_mul-le, div-lt_iff_lt-mul}
use native.Mathlib.Omega.{arith}
use lib.IntN.{ℤ, pos}
use lib.ListN.{length, take, drop, take-append-drop}
use lib.Seq.{take-take, drop-drop}
use Rattle.commitment.specs.Types.{BestProfit}
use Rattle.commitment.specs.Types.{Hours}
use Rattle.commitment.specs.Best.{Plan, plan, profit_of, schedule_of}
use Rattle.commitment.specs.Bounds.{most_blocks}
use Rattle.commitment.specs.Tries.{tries_over}
use Rattle.commitment.specs.Windows.{opens}
use Rattle.commitment.proofs.Tries.{tries-append}
use Rattle.optimality.specs.declared.Cell.{Cell}
use Rattle.optimality.specs.declared.Figures.{Figures}
use Rattle.optimality.specs.Machine.{Quarter, anywhere, in_quarter}
use Rattle.optimality.specs.Cells.{Within, InTable, cell_step, plan_at, value_at}
use Rattle.optimality.proofs.Within.{within-within, less-within}
use Rattle.optimality.proofs.Quarters.{quarters-length}
use Rattle.optimality.proofs.Split.{walk-length}
use Rattle.optimality.proofs.Turns.{plan-value}
use Rattle.optimality.proofs.Values.{no-earning}
use Rattle.geometry.specs.Geometry.{width, index}
use Rattle.geometry.specs.Layers.{Layer, in_front}
use Rattle.layers.specs.Filling.{quarters_in, between}
use Rattle.layers.proofs.Between.{between-length, between-all}
use Rattle.marks.specs.Lines.{mark_of}
use Rattle.marks.specs.Standing.{Stands, MarkedBy, ends_in, spent}
use Rattle.marks.proofs.Halving.{spends-within, earlier-half}
use Rattle.marks.specs.declared.Frame.{Frame}
use Rattle.halving.specs.declared.Task.{Task}
use Rattle.halving.specs.Types.{End}
use Rattle.halving.specs.Tasks.{boxed, frame, ends_by, Reachable, midway, plan_of, early_half, late_half, Asked, TaskAsked, Solved, Marked, Halves, MarkKept}
use Rattle.halving.proofs.Boxes.{boxed-width}
use Rattle.halving.proofs.Parts.{both-written}

-- quarters cut in two
drop-take : (m k : ℕ) (qs : List Quarter) → drop m (take (m + k) qs) ≡ take k (drop m qs)
drop-take zero k qs = ap (λ (n : ℕ). take n qs) (zero-add k)
drop-take (suc m) zero [] = ap (λ (n : ℕ). drop (suc m) (take n [])) (add-zero (suc m))
drop-take (suc m) (suc k) [] = ap (λ (n : ℕ). drop (suc m) (take n [])) (suc-add m (suc k))
drop-take (suc m) k (q ∷ qs) = ap (λ (n : ℕ). drop (suc m) (take n (q ∷ qs))) (suc-add m k) ∙ drop-take m k qs

pub between-parts : (quarters : List Quarter) (from at to : ℕ) → from ≤ at → at ≤ to
    → between quarters from at ++ between quarters at to ≡ between quarters from to
between-parts quarters from at to early late =
    let long : at - from + (to - at) ≡ to - from = omega arith in
    let n : from + (at - from) ≡ at = omega arith in
    let later : between quarters at to ≡ drop (at - from) (between quarters from to) =
    ap (take (to - at)) (ap (λ (k : ℕ). drop k quarters) (sym n) ∙ sym (drop-drop (at - from) from quarters))
    ∙ sym (drop-take (at - from) (to - at) (drop from quarters))
    ∙ ap (λ (k : ℕ). drop (at - from) (take k (drop from quarters))) long in
    ap₂ (λ (xs ys : List Quarter). xs ++ ys) (sym (take-take (at - from) (to - from) (drop from quarters) (omega arith))) later
    ∙ take-append-drop (at - from) (between quarters from to)

-- a plan has a profit
pub planned : (f : Figures) (ends : Cell → BestProfit) (quarters : List Quarter) (c : Cell) (s : List ℕ) (p : ℤ) → plan_at f ends quarters c ≡ plan s p
    → value_at f ends quarters c ≡ None → ⊥
planned f ends quarters c s p e none = no-earning (sym none ∙ sym (plan-value f ends quarters c) ∙ ap profit_of e)

-- the middle lies before the end, and where there are two intervals or more behind the beginning
pub middle-before : (from to : ℕ) → from < to → midway from to < to
middle-before from to h = omega (arith, (div-lt_iff_lt-mul {k = 2} {x = to - from} {y = to - from} (omega arith)).1 (omega arith))

pub middle-apart : (from to : ℕ) → from + 2 ≤ to → (from < midway from to) × (midway from to < to)
middle-apart from to h =
    let one = (le-div_iff_mul-le {k = 2} {x = 1} {y = to - from} (omega arith)).1 (omega arith) in
    (omega (arith, one), middle-before from to (omega arith))

module _ (g : Frame) (prices : List ℤ) (room : ℕ) (t : Task) (cells : List ℤ) (schedule : ℕ) (h : Halves g prices room t cells schedule) where
  abbrev f : Figures
  f = g.figures

  abbrev w : ℕ
  w = g.width

  abbrev hours : Hours
  hours = g.hours

  abbrev from : ℕ
  from = t.from

  abbrev to : ℕ
  to = t.to

  abbrev c : Cell
  c = t.cell

  abbrev end : End
  end = t.end

  abbrev quarters : List Quarter
  quarters = quarters_in hours prices

  abbrev mid : ℕ
  mid = midway from to

  apart : (from < mid) × (mid < to)
  apart = middle-apart from to h.apart

  parts : between quarters from mid ++ between quarters mid to ≡ between quarters from to
  parts = between-parts quarters from mid to (omega (arith, apart)) (omega (arith, apart))

  -- the cell at the middle
  pub mark : MarkedBy f (ends_by end) (between quarters from mid) (between quarters mid to) (λ x. pos (index f x)) c (mark_of f w cells c)
  mark = h.marked.marks c h.given.here (rw parts h.given.some)

  pub mark-kept : MarkKept f w cells c
  mark-kept = record { at = mark.at; inside = mark.stands.inside; is = mark.is }

  module _ (at : Cell) (there : at ≡ mark.at) where
    stands : Stands f (ends_by end) (between quarters from mid) (between quarters mid to) c at
    stands = rw there mark.stands

    pub spends-all : Within at.left c.left
    spends-all = spends-within f h.given.asked.sound (ends_by end) (between quarters from mid) (between quarters mid to) c at stands

    -- ---- each half is a task

    asked_in : (a b : ℕ) (e : End) → a ≤ b → b ≤ to → Reachable f e → Asked f prices hours a b e
    asked_in a b e ordered inside reach =
        let k = h.given.asked in
        record {
          sound = k.sound;
          priced = k.priced;
          clocked = k.clocked;
          ordered = ordered;
          inside = omega (arith, inside, k.inside);
          short = k.short;
          ends = reach;
        }

    two-fit : (x : Cell) → InTable f x → width (boxed f x) + width (boxed f x) ≤ room
    two-fit x i = omega (arith, boxed-width f x i, h.two, h.wide)

    spent-inside : InTable f (spent c at)
    spent-inside =
        let i = h.given.here in
        record { state = i.state; left = within-within (less-within c.left at.left) i.left }

    early-plan : plan_of f prices hours (early_half t mid at) ≡ plan stands.outputs stands.earned
    early-plan = earlier-half f h.given.asked.sound (ends_by end) (between quarters from mid) (between quarters mid to) c at stands

    pub early-task : (n m : ℕ) → room ≤ n → to ≤ m → TaskAsked f prices hours room (early_half t mid at) n m
    early-task n m fits long =
        record {
          given =
              record {
                asked = asked_in from mid (Some at.state) (omega (arith, apart)) (omega (arith, apart)) stands.inside.state;
                here = spent-inside;
                some = planned f (ends_in at.state) (between quarters from mid) (spent c at) stands.outputs stands.earned early-plan;
                long = omega (arith, apart, long);
              };
          two = two-fit (spent c at) spent-inside;
          fits = fits;
        }

    pub late-task : (n m : ℕ) → room ≤ n → to ≤ m → TaskAsked f prices hours room (late_half t mid at) n m
    late-task n m fits long =
        record {
          given =
              record {
                asked = asked_in mid to end (omega (arith, apart)) (omega arith) h.given.asked.ends;
                here = stands.inside;
                some = planned f (ends_by end) (between quarters mid to) at stands.rest stands.profit stands.goes_on;
                long = long;
              };
          two = two-fit at stands.inside;
          fits = fits;
        }

    -- ---- and both together are the whole

    abbrev early_plan : List ℕ
    early_plan = schedule_of (plan_of f prices hours (early_half t mid at))

    abbrev late_plan : List ℕ
    late_plan = schedule_of (plan_of f prices hours (late_half t mid at))

    joined : schedule_of (plan_of f prices hours t) ≡ early_plan ++ late_plan
    joined =
        ap (λ (qs : List Quarter). schedule_of (plan_at f (ends_by end) qs c)) (sym parts) ∙ ap schedule_of stands.whole
        ∙ ap₂ (λ (xs ys : List ℕ). xs ++ ys) (sym (ap schedule_of early-plan)) (sym (ap schedule_of stands.goes_on))

    early-long : length early_plan ≡ mid - from
    early-long =
        let k = quarters-length (opens hours) 0 prices in
        ap (λ (p : Plan). length (schedule_of p)) early-plan
        ∙ walk-length Cell Quarter (in_quarter (cell_step f)) (between quarters from mid) c stands.outputs stands.earned at stands.leads
        ∙ between-length quarters from mid (omega (arith, apart)) (omega (arith, apart, k, h.given.asked.inside))

    pub both-solved : (was now last : List ℕ) (early late : ℕ) → to ≤ length was
        → Solved f prices hours (early_half t mid at) was now early
        → Solved f prices hours (late_half t mid at) now last late
        → Solved f prices hours t was last (early + late)
    both-solved was now last early late long a b =
        record {
          written =
              both-written was now last early_plan late_plan from mid to (omega (arith, apart)) (omega (arith, apart)) long early-long a.written b.written
              ∙ ap (λ (xs : List ℕ). take from was ++ (xs ++ drop to was)) (sym joined);
          tried =
              ap₂ (λ (x y : ℕ). x + y) a.tried b.tried ∙ sym (tries-append f.block f.pmin early_plan late_plan)
              ∙ ap (tries_over f.block f.pmin) (sym joined);
          few = sum-few (mid - from) (to - mid) (to - from) (omega (arith, apart)) a.few b.few;
        }
      where
        sum-few : (x y z : ℕ) → x + y ≡ z → early ≤ x * (most_blocks + 1) → late ≤ y * (most_blocks + 1) → early + late ≤ z * (most_blocks + 1)
        sum-few x y z e p q = rw (← e) (omega (arith, p, q))

-- ---- a whole case

module _ (f : Figures) (prices : List ℤ) (hours : Hours) where
  pub whole : between (quarters_in hours prices) 0 (length prices) ≡ quarters_in hours prices
  whole = between-all (quarters_in hours prices) (length prices) (sym (quarters-length (opens hours) 0 prices))

  pub first-layer : (w : ℕ) (cells : List ℤ) → Marked (frame f w hours) prices 0 (length prices) None cells
      → Layer f anywhere (quarters_in hours prices) (in_front f cells)
  first-layer w cells m =
      let half = div-le_self (length prices - 0) 2 in
      subst (λ (qs : List Quarter). Layer f anywhere qs (in_front f cells))
      (between-parts (quarters_in hours prices) 0 (midway 0 (length prices)) (length prices) (omega arith) (omega (arith, half)) ∙ whole) m.layer
