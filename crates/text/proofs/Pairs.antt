-- Pairs of hex digits.
--
--   pair_some      what has an octet is two digits
--   pair_none      .. and what has none is not
--   pairs-length   there are half as many octets as digits
--   pairs_on       whether pairs stand from pair n on: it is one, and pairs stand behind it
--   pairs-behind   .. behind all pairs: so it is, where nothing is left over
--   pairs_turn     where pairs stand from pair n on, it is octet n, and pairs stand behind it
--
-- Assumes nothing.
use Rattle.std.proofs.Common.{◌≡◌, refl, sym, ap, ap₂, ◌∙◌, Bool, true, false, cond, ◌&&◌, Option, Some, None, List, [], ◌∷◌, ℕ, zero, suc, ◌+◌, ◌*◌, ◌%◌, ◌≤◌, ◌<◌, arith, eqb-true, eqb, length, get_or, drop, drop_of_length-le, drop-cons}
use Rattle.std.proofs.lemmas.Bool.{eqb-false}
use Rattle.std.specs.Option.{is_none}
use Rattle.octets.specs.Tests.{never, both_true}
use Rattle.text.specs.Hex.{hex_digit, is_pair, is_hex, octets_of}

module _ (a b : ℕ) (r : Option ℕ) (e : r ≡ cond (is_pair a b) (Some (hex_digit a * 16 + hex_digit b)) None) where
  pub pair_some : is_none r ≡ false → is_pair a b ≡ true
  pair_some h = go (is_pair a b) e
    where
      go : (t : Bool) → r ≡ cond t (Some (hex_digit a * 16 + hex_digit b)) None → t ≡ true
      go true k = refl
      go false k = never (cc)

  pub pair_none : is_none r ≡ true → is_pair a b ≡ false
  pair_none h = go (is_pair a b) e
    where
      go : (t : Bool) → r ≡ cond t (Some (hex_digit a * 16 + hex_digit b)) None → t ≡ false
      go true k = never (cc)
      go false k = refl

pub pairs-length : (s : List ℕ) → (2 * length (octets_of s) ≤ length s) × (length s ≤ 2 * length (octets_of s) + 1)
unfolding octets_of
pairs-length [] = (omega arith, omega arith)
pairs-length (a ∷ []) = (omega arith, omega arith)
pairs-length (a ∷ b ∷ s) = let h = pairs-length s in (omega arith, omega arith)

pairs_at : (s : List ℕ) (n : ℕ) → 2 * n + 1 < length s
    → get_or (octets_of s) n 0 ≡ hex_digit (get_or s (2 * n) 0) * 16 + hex_digit (get_or s (2 * n + 1) 0)
unfolding octets_of
pairs_at [] n h = absurd (omega arith)
pairs_at (a ∷ []) n h = absurd (omega arith)
pairs_at (a ∷ b ∷ s) zero h = refl
pairs_at (a ∷ b ∷ s) (suc n) h =
    let e : suc (suc (2 * n)) ≡ 2 * suc n = omega arith in
    let f : suc (suc (2 * n + 1)) ≡ 2 * suc n + 1 = omega arith in
    pairs_at s n (omega arith) ∙ ap₂ (λ (i j : ℕ). hex_digit (get_or (a ∷ b ∷ s) i 0) * 16 + hex_digit (get_or (a ∷ b ∷ s) j 0)) e f

module _ (s : List ℕ) (n : ℕ) where
  pub pairs_on : 2 * n + 1 < length s → is_hex (drop (2 * n) s) ≡ (is_pair (get_or s (2 * n) 0) (get_or s (2 * n + 1) 0) && is_hex (drop (2 * (n + 1)) s))
  unfolding is_hex
  pairs_on h =
      let e : suc (2 * n) ≡ 2 * n + 1 = omega arith in
      let f : suc (2 * n + 1) ≡ 2 * (n + 1) = omega arith in
      let tail : drop (suc (2 * n)) s ≡ get_or s (2 * n + 1) 0 ∷ drop (2 * (n + 1)) s = rw (e, ← f) (drop-cons s (2 * n + 1) 0 h) in
      ap is_hex (drop-cons s (2 * n) 0 (omega arith) ∙ ap (λ (l : List ℕ). get_or s (2 * n) 0 ∷ l) tail)

  end : length s ≤ 2 * n → is_hex (drop (2 * n) s) ≡ true
  unfolding is_hex
  end h = ap is_hex (drop_of_length-le s h)

  odd : length s ≡ 2 * n + 1 → is_hex (drop (2 * n) s) ≡ false
  unfolding is_hex
  odd h =
      let k : length s ≤ suc (2 * n) = omega arith in
      ap is_hex (drop-cons s (2 * n) 0 (omega arith) ∙ ap (λ (l : List ℕ). get_or s (2 * n) 0 ∷ l) (drop_of_length-le s k))

  pub pairs-behind : 2 * n ≤ length s → length s ≤ 2 * n + 1 → is_hex (drop (2 * n) s) ≡ eqb (length s % 2) 0
  pairs-behind h k = go (eqb (length s % 2) 0) refl
    where
      go : (t : Bool) → eqb (length s % 2) 0 ≡ t → is_hex (drop (2 * n) s) ≡ t
      go true e = end (omega (arith, eqb-true (length s % 2) 0 e))
      go false e = odd (omega (arith, eqb-false (length s % 2) 0 e))

  pub pairs_turn : (r : Option ℕ) → 2 * n + 1 < length s → is_hex (drop (2 * n) s) ≡ true
      → r ≡ cond (is_pair (get_or s (2 * n) 0) (get_or s (2 * n + 1) 0)) (Some (hex_digit (get_or s (2 * n) 0) * 16 + hex_digit (get_or s (2 * n + 1) 0))) None
      → (is_hex (drop (2 * (n + 1)) s) ≡ true) × (r ≡ Some (get_or (octets_of s) n 0))
  pairs_turn r h hex e =
      let both = both_true (is_pair (get_or s (2 * n) 0) (get_or s (2 * n + 1) 0)) (is_hex (drop (2 * (n + 1)) s)) (sym (pairs_on h) ∙ hex) in
      (both.1, rw both.0 at e ∙ ap Some (sym (pairs_at s n h)))
