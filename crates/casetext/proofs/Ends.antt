-- The last byte of a text, and a line of it, as a slice's methods find them.
use Rattle.std.proofs.Common.{Option, Some, None}
use mathlib.Core.Path.{◌≡◌, refl, sym, ap, ◌∙◌}
use mathlib.Core.Bool.{Bool, false}
use mathlib.Core.List.{List, [], ◌∷◌}
use Prim.Native.Nat.{ℕ, zero, suc, ◌+◌, ◌-◌}
use native.Mathlib.Omega.{arith}
use denote.Ref.{Bor}
use lib.ListN.{length, drop, get_or}
use lib.Seq.{drop-drop}
use Rattle.std.specs.Iterator.{YieldsFirstRef}
use Rattle.std.specs.List.{slice_get}
use Rattle.std.specs.Option.{MatchOption, option_map, option_copied, unwrap_or}
use Rattle.std.proofs.lemmas.Option.{get_or_from_slice_get, slice_get-get_or, unwrap_or-slice_get}
use Rattle.tabletext.specs.declared.Class.TheVariants.{LineEnd}
use Rattle.tabletext.specs.declared.walking.Lines.{Lines}
use Rattle.tabletext.specs.Bytes.{is_of}
use Rattle.tabletext.specs.Pieces.{last_closed}
use Rattle.tabletext.specs.Places.{lines_left}

last : (s : List ℕ) (k : ℕ) → length s ≡ suc k → is_of LineEnd (get_or s k 0) ≡ last_closed s
last [] k e = absurd (omega arith)
last (b ∷ []) zero e = refl
last (b ∷ []) (suc k) e = absurd (omega arith)
last (b ∷ d ∷ bs) zero e = absurd (omega arith)
last (b ∷ d ∷ bs) (suc k) e = last (d ∷ bs) k (omega arith)

pub closed_by : {P : Bor ℕ → Type 0} (text : List ℕ) (t : Bool) (r : Option (Bor ℕ)) → option_copied r ≡ slice_get text (length text - 1)
    → MatchOption r (t ≡ false) P → ((x : Bor ℕ) → P x → t ≡ is_of LineEnd x.now) → t ≡ last_closed text
closed_by [] t None e h test = h
closed_by [] t (Some x) e h test = cc
closed_by (b ∷ bs) t None e h test = let k = slice_get-get_or (b ∷ bs) (length (b ∷ bs) - 1) 0 (omega arith) in cc
closed_by (b ∷ bs) t (Some x) e h test =
    let k : length (b ∷ bs) - 1 ≡ length bs = omega arith in
    let at : slice_get (b ∷ bs) (length bs) ≡ Some x.now = sym (e ∙ ap (slice_get (b ∷ bs)) k) in
    test x h ∙ ap (is_of LineEnd) (sym (get_or_from_slice_get (b ∷ bs) (length bs) x.now 0 at)) ∙ last (b ∷ bs) (length bs) refl

pub nth_or : (r : Option (Bor (List ℕ))) (none : Bor (List ℕ)) → none.now ≡ [] → (xs : List (List ℕ)) (n : ℕ) → option_map (λ x. x.now) r ≡ slice_get xs n
    → (unwrap_or r none).now ≡ get_or xs n []
nth_or None none empty xs n e = empty ∙ ap (λ (o : Option (List ℕ)). unwrap_or o []) e ∙ unwrap_or-slice_get xs n []
nth_or (Some x) none empty xs n e = ap (λ (o : Option (List ℕ)). unwrap_or o []) e ∙ unwrap_or-slice_get xs n []

-- a call of `next` drops a line, if there is one
pub next_drops : (from to : Lines) (line : Option (Bor (List ℕ))) (xs : List (List ℕ)) (n : ℕ) → YieldsFirstRef lines_left from line to
    → lines_left from ≡ drop n xs → lines_left to ≡ drop (n + 1) xs
next_drops from to None xs n h e = h.1 ∙ ap (drop 1) (sym h.0 ∙ e) ∙ drop-drop 1 n xs
next_drops from to (Some line) xs n h e = ap (drop 1) (sym h ∙ e) ∙ drop-drop 1 n xs
