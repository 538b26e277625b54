-- Of two schedules the earlier has the smaller output at the first interval where they differ (specification 7).
use Rattle.std.specs.Prelude.{Bool, false, ◌&&◌, ◌||◌, List, [], ◌∷◌, ℕ, ltb, eqb}

abbrev pub earlier : List ℕ → List ℕ → Bool
earlier [] t = false
earlier (m ∷ s) [] = false
earlier (m ∷ s) (n ∷ t) = ltb m n || (eqb m n && earlier s t)
