-- How much one interval can add to a profit.
use Prim.Native.Nat.{ℕ, ◌+◌, ◌*◌, ◌≤◌}
use lib.IntN.{ℤ, nat_abs}
use Rattle.integers.proofs.Ranges.{Within, within-at, within-abs, within-weaken, within-diff, within-mul}
use Rattle.commitment.specs.Bounds.{most_mw, most_vec, most_mlc, most_price}
use Rattle.commitment.specs.Profit.{margin}

-- price × output, vec × twice the output at most, mlc
abbrev pub most_margin : ℕ
most_margin = most_price * most_mw + most_vec * (most_mw + most_mw) + most_mlc

pub margin-within : (price : ℤ) (output vec least mlc : ℕ) → nat_abs price ≤ most_price → output ≤ most_mw → vec ≤ most_vec → least ≤ most_mw → mlc ≤ most_mlc
    → Within most_margin (margin price output vec least mlc)
margin-within price output vec least mlc p o v l k =
    let m = within-weaken o (within-at output) in
    within-diff
    (within-diff (within-mul (within-weaken p (within-abs price)) m)
    (within-mul (within-weaken v (within-at vec)) (within-diff m (within-weaken l (within-at least)))))
    (within-weaken k (within-at mlc))
