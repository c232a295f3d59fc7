-- The claims of specs/Remainder.antt.
--
--   generator_monic        of g
--   encoded_is_remainder    of what encoding writes
--
-- Assumes nothing.
use mathlib.Core.Path.{◌≡◌, refl, sym, ap, ap₂, ◌∙◌}
use mathlib.Core.Bool.{true}
use mathlib.Core.List.{List, ◌++◌}
use Prim.Native.Nat.{ℕ, ◌+◌}
use native.Mathlib.Omega.{arith}
use lib.ListN.{length, take, drop, length-append}
use lib.Seq.{drop_at}
use Rattle.octets.specs.Written.{written_front}
use Rattle.algebra.proofs.Laws.{below-rooted, rooted-top}
use Rattle.codeword.specs.CodeWord.{generator}
use Rattle.codeword.specs.Element.{elements}
use Rattle.codeword.specs.Encoding.{encodes, Done}
use Rattle.codeword.specs.Remainder.{GeneratorMonic, EncodedIsRemainder}
use Rattle.codeword.proofs.Word.{word-length}
use Rattle.codeword.proofs.Systematic.{parity_unique, encodes-all, encoded-is}

pub generator_monic : GeneratorMonic
unfolding generator
generator_monic e = record { below = below-rooted elements _ _; top = rooted-top elements _ _ }

module _ (e : ℕ) (u before after : List ℕ) (n : ℕ) (fits : encodes (length u) e (length before) ≡ true) (d : Done e u before n after) where
  behind : drop (length u) (take n after) ≡ d.parity
  behind =
      let k : n ≡ length (u ++ d.parity) = d.count ∙ ap (λ (i : ℕ). length u + i) (sym d.right.long) ∙ sym (length-append u d.parity) in
      ap (drop (length u))
      (ap₂ take k d.written_is ∙ written_front before (u ++ d.parity) (omega (arith, (encodes-all (length u) e (length before) fits).2, k, d.count)))
      ∙ drop_at u d.parity (length u) refl

pub encoded_is_remainder : EncodedIsRemainder
encoded_is_remainder e u before after r fits p =
    let done = encoded-is e u before after r fits p in
    let right = done.2.right in
    let b = behind e u before after done.0 fits done.2 in (
      done.0,
      done.1,
      λ q o. (
        (λ h. rw (sym h ∙ b) (record { long = word-length _ ∙ right.long; is = right.remainder })),
        (λ h. b ∙ parity_unique e u _ q right (record { long = sym (word-length q) ∙ h.long; octets = o; remainder = h.is })),
      ),
    )
