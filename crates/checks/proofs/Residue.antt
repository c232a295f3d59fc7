-- How one octet more changes what the division holds: one proof for every kind.
--
--   bits-length      eight bits to an octet
--   held-length      a register holds as many octets as the check has
--   held_none        with no content it holds what it started with
--   held-step        one octet more: its sum with the first octet held chooses a remainder, and the other octets move up
--   held-turn        .. as a loop over the content has it
--   check-is         the check is what the register holds in the end, less what it started with
--   check-by         .. of a check whose register starts with so many octets of one kind
--
-- Assumes nothing.
use mathlib.Core.Path.{◌≡◌, sym, ap, ap₂, ◌∙◌}
use mathlib.Core.Bool.{Bool, true, false, cond, not}
use mathlib.Core.List.{List, [], ◌∷◌, ◌++◌, map, head-eq_of_cons-eq, tail-eq_of_cons-eq}
use Prim.Native.Nat.{ℕ, suc, ◌+◌, ◌*◌, ◌<◌}
use native.Mathlib.Nat.{mul-suc}
use native.Mathlib.Omega.{arith}
use lib.Bits.{bit_xor}
use lib.ListN.{length, get_or, take, drop, replicate, length-append, length-replicate, length-drop, take-append-drop}
use lib.Seq.{length-take-le, take-suc}
use Rattle.algebra.specs.Division.{sum, remainder}
use Rattle.algebra.specs.Register.{register}
use Rattle.algebra.proofs.Laws.{register-length, register-none, register_more, register-zeros}
use Rattle.codeword.specs.CodeWord.{Octets}
use Rattle.checks.specs.Binary.{𝔹}
use Rattle.checks.specs.Bits.{bits_of, bits, number, octets_of}
use Rattle.checks.specs.Check.{Kind, width, generator, plain, preset, check_bits, check_of}
use Rattle.checks.specs.Steps.{held, start, remainder_of, xors}
use Rattle.checks.proofs.Remainders.{generator-length, plain-length}
use Rattle.checks.proofs.Octets.{bits_of-length, sum_bits_of, bits-snoc, octets_of-length, octets_of-cons, octets_of-snoc, octets_of-sum, bits-octets_of}
use Rattle.checks.proofs.Octets.{octets_of-bits, not-sum, sum_zeros}

abbrev zeros : ℕ → List Bool
zeros n = replicate n false

pub bits-length : (u : List ℕ) → length (bits u) ≡ 8 * length u
unfolding bits
bits-length [] = omega arith
bits-length (a ∷ u) = length-append (bits_of 8 a) (bits u) ∙ (rw (bits_of-length 8 a, bits-length u) (omega (arith, mul-suc 8 (length u))))

module _ (κ : Kind) where
  abbrev g : List Bool
  g = generator κ

  pub held-length : (s u : List ℕ) → length (held κ s u) ≡ κ.octets
  unfolding held
  held-length s u = octets_of-length κ.octets (register 𝔹 g (bits s) (bits u))

  -- ---- octet by octet

  module _ (s : List ℕ) (full : length s ≡ κ.octets) where
    full-bits : length (bits s) ≡ length g
    full-bits = bits-length s ∙ ap (λ (n : ℕ). 8 * n) full ∙ sym (generator-length κ)

    residue : List Bool → List Bool
    residue c = register 𝔹 g (bits s) c

    residue-length : (c : List Bool) → length (residue c) ≡ width κ
    unfolding residue
    residue-length c = register-length 𝔹 g (bits s) full-bits c ∙ generator-length κ

    pub held_none : Octets s → held κ s [] ≡ s
    unfolding bits held
    held_none o = ap (octets_of κ.octets) (register-none 𝔹 g (bits s) full-bits) ∙ ap (λ (n : ℕ). octets_of n (bits s)) (sym full) ∙ octets_of-bits s o

    module _ (l : ℕ) (some : κ.octets ≡ suc l) (u : List ℕ) (o : ℕ) (octet : o < 256) where
      abbrev p : List Bool
      p = residue (bits u)

      abbrev a : List Bool
      a = take 8 p

      abbrev b : List Bool
      b = drop 8 p

      p-length : length p ≡ 8 * l + 8
      p-length = residue-length (bits u) ∙ (rw some (mul-suc 8 l))

      a-length : length a ≡ 8
      a-length = length-take-le 8 p (omega (arith, p-length))

      b-length : length b ≡ 8 * l
      b-length = length-drop 8 p ∙ (omega (arith, p-length))

      -- what is held, in octets
      parts : held κ s u ≡ number a ∷ octets_of l b
      unfolding held residue
      parts =
          ap (λ (n : ℕ). octets_of n p) some ∙ ap (octets_of (suc l)) (sym (take-append-drop 8 p)) ∙ octets_of-cons l a b a-length

      moved : residue (bits (u ++ o ∷ [])) ≡ sum 𝔹 (b ++ zeros 8) (plain κ (bits_of 8 (bit_xor (number a) o)))
      unfolding residue plain
      moved =
          ap residue (bits-snoc u o)
          ∙ register_more 𝔹 g (bits s) full-bits (bits u) a b (bits_of 8 o) (sym (take-append-drop 8 p)) (a-length ∙ sym (bits_of-length 8 o))
          ∙ ap₂ (λ (m : ℕ) (q : List Bool). sum 𝔹 (b ++ zeros m) (remainder 𝔹 g q)) (bits_of-length 8 o)
          (ap₂ (λ (q : List Bool) (w : ℕ). q ++ zeros w) (sum_bits_of 8 a o a-length octet) (generator-length κ))

      moved_length : length (b ++ zeros 8) ≡ length (plain κ (bits_of 8 (bit_xor (number a) o)))
      moved_length =
          length-append b (zeros 8) ∙ (omega (arith, b-length, p-length, residue-length (bits u), plain-length κ (bits_of 8 (bit_xor (number a) o))))

      stepped : held κ s (u ++ o ∷ []) ≡ xors (octets_of l b ++ 0 ∷ []) (remainder_of κ (bit_xor (number a) o))
      unfolding held residue remainder_of
      stepped =
          ap (octets_of κ.octets) moved ∙ octets_of-sum κ.octets (b ++ zeros 8) (plain κ (bits_of 8 (bit_xor (number a) o))) moved_length
          ∙ ap (λ (v : List ℕ). xors v (remainder_of κ (bit_xor (number a) o))) (ap (λ (n : ℕ). octets_of n (b ++ zeros 8)) some ∙ octets_of-snoc l b b-length)

      pub held-step : (h : ℕ) (r : List ℕ) → held κ s u ≡ h ∷ r → held κ s (u ++ o ∷ []) ≡ xors (r ++ 0 ∷ []) (remainder_of κ (bit_xor h o))
      held-step h r e =
          stepped ∙ ap₂ (λ (x : ℕ) (v : List ℕ). xors (v ++ 0 ∷ []) (remainder_of κ (bit_xor x o))) (head-eq_of_cons-eq (sym parts ∙ e))
          (tail-eq_of_cons-eq (sym parts ∙ e))

    -- ---- a loop over the content

    pub held-turn : (l : ℕ) → κ.octets ≡ suc l → (content : List ℕ) (i h : ℕ) (r : List ℕ) → i < length content → get_or content i 0 < 256
        → h ∷ r ≡ held κ s (take i content) → xors (r ++ 0 ∷ []) (remainder_of κ (bit_xor h (get_or content i 0))) ≡ held κ s (take (suc i) content)
    held-turn l some content i h r within octet e =
        sym (ap (held κ s) (take-suc content i 0 within) ∙ held-step l some (take i content) (get_or content i 0) octet h r (sym e))

  -- ---- the check

  start-bits : bits (start κ) ≡ replicate (width κ) κ.conditioned
  unfolding start
  start-bits = bits-octets_of κ.octets (replicate (width κ) κ.conditioned) (length-replicate (width κ) κ.conditioned)

  -- by whether it is conditioned
  started : List Bool → Bool → List Bool
  started c b = register 𝔹 g (replicate (width κ) b) c

  started-length : (c : List Bool) (b : Bool) → length (started c b) ≡ width κ
  unfolding started
  started-length c b = register-length 𝔹 g _ (length-replicate (width κ) b ∙ sym (generator-length κ)) c ∙ generator-length κ

  started_false : (c : List Bool) → started c false ≡ plain κ c
  unfolding plain started
  started_false c =
      ap (λ (w : ℕ). register 𝔹 g (zeros w) c) (sym (generator-length κ)) ∙ register-zeros 𝔹 g c ∙ ap (λ (w : ℕ). remainder 𝔹 g (c ++ zeros w)) (generator-length κ)

  started_true : (c : List Bool) → started c true ≡ sum 𝔹 (preset κ (length c)) (plain κ c)
  unfolding plain preset register started
  started_true c =
      ap (λ (w : ℕ). sum 𝔹 (remainder 𝔹 g (replicate (width κ) true ++ zeros (length c))) (remainder 𝔹 g (c ++ zeros w))) (generator-length κ)

  check-bits : (c : List Bool) → check_bits κ c ≡ sum 𝔹 (started c κ.conditioned) (replicate (width κ) κ.conditioned)
  unfolding check_bits
  check-bits c = go κ.conditioned
    where
      go : (b : Bool) → cond b (map not (sum 𝔹 (preset κ (length c)) (plain κ c))) (plain κ c) ≡ sum 𝔹 (started c b) (replicate (width κ) b)
      go true =
          ap (map not) (sym (started_true c)) ∙ not-sum (started c true) ∙ ap (λ (n : ℕ). sum 𝔹 (started c true) (replicate n true)) (started-length c true)
      go false = sym (started_false c) ∙ sym (sum_zeros (width κ) (started c false))

  pub check-is : (u : List ℕ) → check_of κ u ≡ xors (held κ (start κ) u) (start κ)
  unfolding check_of held start started
  check-is u =
      ap (octets_of κ.octets) (check-bits (bits u))
      ∙ octets_of-sum κ.octets (started (bits u) κ.conditioned) (replicate (width κ) κ.conditioned)
      (started-length (bits u) κ.conditioned ∙ sym (length-replicate (width κ) κ.conditioned))
      ∙ ap (λ (q : List Bool). xors (octets_of κ.octets (register 𝔹 g q (bits u))) (start κ)) (sym start-bits)

-- ---- a check whose register starts with n octets a

pub check-by : (κ : Kind) (n a : ℕ) (r u : List ℕ) → start κ ≡ replicate n a → r ≡ held κ (replicate n a) u → xors r (replicate n a) ≡ check_of κ u
check-by κ n a r u s e = rw e (ap (λ (x : List ℕ). xors (held κ x u) x) (sym s) ∙ sym (check-is κ u))
