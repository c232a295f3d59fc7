-- What the step of the error values answers, 16 places at a time.
--
--   OddsAre l c d              d₀, d₁, .. are the odd ones of the first l + 1 coefficients of c
--   error_of o d l x            Forney's value for a locator of degree at most l: that of o at x over that of d at x²
--   Added m at y w v           at the first m places that `at` lists y is added to w; elsewhere v is as w
--   Corrected n l m at o d w v   at the first m places of n that `at` lists Forney's value at the inverse of the place's locator is added to w;
--                              elsewhere v is as w; v has octets
--
-- Assumes nothing.
use Rattle.std.specs.Prelude.{◌≡◌, List, ℕ, ◌+◌, ◌*◌, ◌/◌, ◌<◌, length, get_or}
use Rattle.field.specs.Octet as Octet
use Rattle.codeword.specs.Element.{octet}
use Rattle.codeword.specs.CodeWord.{Octets}
use Rattle.codeword.specs.Places.{inverses}
use Rattle.codeword.specs.Search.{value_of}

pub record OddsAre (l : ℕ) (c d : List ℕ) : Type 0 where
  pub used : (k : ℕ) → 2 * k < l → get_or d k 0 ≡ get_or c (2 * k + 1) 0

unfoldable pub error_of : List ℕ → List ℕ → ℕ → ℕ → ℕ
error_of o d l x = Octet.product (value_of o l x) (Octet.inverse (value_of d ((l + 1) / 2) (Octet.product x x)))

pub record Added (m : ℕ) (at y w v : List ℕ) : Type 0 where
  pub long : length v ≡ length w
  pub changed : (k : ℕ) → k < m → get_or v (get_or at k 0) 0 ≡ Octet.sum (get_or w (get_or at k 0) 0) (get_or y k 0)
  pub same : (p : ℕ) → ((k : ℕ) → k < m → get_or at k 0 ≡ p → ⊥) → get_or v p 0 ≡ get_or w p 0

pub record Corrected (n l m : ℕ) (at o d w v : List ℕ) : Type 0 where
  pub long : length v ≡ length w
  pub octets : Octets v
  pub changed : (j : ℕ) → j < m
      → get_or v (get_or at j 0) 0 ≡ Octet.sum (get_or w (get_or at j 0) 0) (error_of o d l (octet (inverses n (get_or at j 0))))
  pub same : (p : ℕ) → ((j : ℕ) → j < m → get_or at j 0 ≡ p → ⊥) → get_or v p 0 ≡ get_or w p 0
