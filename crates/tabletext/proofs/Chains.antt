-- Walks as chains of iterators: the list that each gives, and `every` as `all` says it.
use Rattle.std.proofs.Common.{◌≡◌, refl, ap, ℕ}
use mathlib.Core.Bool.{Bool, ◌&&◌}
use mathlib.Core.List.{List, [], ◌∷◌}
use Rattle.std.specs.Iterator.{YieldsFirstRef}
use Rattle.std.specs.List.{list_all}
use Rattle.std.proofs.lemmas.Iterator.{YieldsList}
use Rattle.std.proofs.lemmas.Iterator.Consumers.{YieldsList-from_first}
use Rattle.lists.specs.Every.{every}
use Rattle.tabletext.specs.declared.walking.Fields.{Fields}
use Rattle.tabletext.specs.declared.walking.Lines.{Lines}
use Rattle.tabletext.specs.Places.{fields_left, lines_left}

pub gives_fields : (it : Fields) {xs : List (List ℕ)} → fields_left it ≡ xs → YieldsList (YieldsFirstRef fields_left) (λ x. x.now) it xs
gives_fields it {xs} e = YieldsList-from_first (λ x. x.now) fields_left {s = it} xs e

pub gives_lines : (it : Lines) {xs : List (List ℕ)} → lines_left it ≡ xs → YieldsList (YieldsFirstRef lines_left) (λ x. x.now) it xs
gives_lines it {xs} e = YieldsList-from_first (λ x. x.now) lines_left {s = it} xs e

pub all_every : {A : Type 0} (test : A → Bool) (xs : List A) → list_all test xs ≡ every test xs
all_every test [] = refl
all_every test (x ∷ xs) = ap (λ (t : Bool). test x && t) (all_every test xs)
