-- A text written into a buffer at a place: what was before it and behind it stays.
use Rattle.std.specs.Prelude.{◌≡◌, List, ◌++◌, ℕ, ◌+◌, length, take, drop}

unfoldable pub written : List ℕ → ℕ → List ℕ → List ℕ
written buffer at text = take at buffer ++ (text ++ drop (at + length text) buffer)

-- what writing a text gives: the place after it, and the buffer
pub record Put (was : List ℕ) (at : ℕ) (text : List ℕ) (after : ℕ) (buffer : List ℕ) : Type 0 where
  pub place : after ≡ at + length text
  pub bytes : buffer ≡ written was at text
