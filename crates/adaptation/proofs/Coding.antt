-- What AL1M sends.
--
--   message-length   how long a unit with its check is
--   message_octets   .. it is octets where the unit is
--   message_built    unit and check, written one behind the other into a buffer, are the message
--   sent_is          what encoding it leaves is what the unit is sent as
--   coding-all       what is known of a length that was told
--
-- Assumes nothing.
use mathlib.Core.Path.{◌≡◌, sym, ap, ap₂, ◌∙◌}
use mathlib.Core.Bool.{true}
use mathlib.Core.List.{List, ◌++◌}
use Prim.Native.Nat.{ℕ, ◌+◌, ◌*◌, ◌≤◌, ◌<◌}
use Rattle.std.specs.Prelude.{Option}
use native.Mathlib.Omega.{arith}
use borrow.Author.Tests.{leb-true}
use lib.Dec.{leb}
use lib.ListN.{length, take, length-append}
use lib.Seq.{take-append_seam}
use Rattle.octets.specs.Tests.{both_true}
use Rattle.octets.specs.Written.{written, written_front}
use Rattle.codeword.specs.CodeWord.{Octets, longest_word}
use Rattle.codeword.specs.Encoding.{Encoded}
use Rattle.codeword.proofs.Laws.{octets-append, parity_code_word, encodes_true, encoded-is}
use Rattle.calls.specs.Refusal.{told}
use Rattle.checks.specs.Check.{Kind, check_of}
use Rattle.adaptation.specs.AL1M.{is_setting, is_sendable, sent_octets, sent_length}
use Rattle.adaptation.specs.Sending.{message, SentIs}
use Rattle.checks.proofs.Laws.{check_octets, check-length, sealed-front}
use Rattle.adaptation.proofs.Refusals.{refused-later}

module _ (κ : Kind) (u : List ℕ) where
  pub message-length : length (message κ u) ≡ length u + κ.octets
  message-length = length-append u (check_of κ u) ∙ ap (λ (k : ℕ). length u + k) (check-length κ u)

  pub message_octets : Octets u → Octets (message κ u)
  message_octets o = octets-append u (check_of κ u) o (check_octets κ u)

  pub message_built : (d a b : List ℕ) (k : ℕ) → length u + κ.octets ≤ length d → a ≡ written d 0 u → b ≡ written a (length u) (check_of κ (take (length u) a))
      → k ≡ length u + κ.octets → take k b ≡ message κ u
  message_built d a b k h ha hb hk =
      ap₂ take (hk ∙ sym message-length) (hb ∙ ap (λ (x : List ℕ). written x (length u) (check_of κ (take (length u) x))) ha ∙ sealed-front κ u d (omega arith))
      ∙ written_front d (message κ u) (rw message-length h)

  pub sent_is : (e : ℕ) (m before after : List ℕ) (r : Option ℕ) → Octets u → m ≡ message κ u → 0 < length u → length u + κ.octets + 2 * e ≤ longest_word
      → length u + κ.octets + 2 * e ≤ length before → Encoded e m before r after → SentIs κ e u before (length u + κ.octets + 2 * e) after
  sent_is e m before after r o is some all room p =
      let l = message-length in
      let fits = encodes_true (length (message κ u)) e (length before) (omega (arith, l)) (omega (arith, l)) (omega (arith, l)) in
      let d = (encoded-is e (message κ u) before after r fits (rw is at p)).2 in
      let long : length (message κ u ++ d.parity) ≡ length (message κ u) + 2 * e =
      length-append (message κ u) d.parity ∙ ap (λ (k : ℕ). length (message κ u) + k) d.right.long in
      record {
        sent = message κ u ++ d.parity;
        coded = record {
          long = long;
          begins = take-append_seam (message κ u) d.parity;
          code = parity_code_word e (message κ u) d.parity (message_octets o) d.right;
        };
        count = omega (arith, long, l);
        written_is = d.written_is;
      }

module _ (t n e : ℕ) where
  module _ (m : ℕ) (h : told m ≡ sent_length t n e) where
    known : (is_setting n e ≡ true) × (is_sendable t n e ≡ true) × (m ≡ sent_octets t n e)
    unfolding sent_length
    known = refused-later (sent_octets t n e) (is_setting n e) (is_sendable t n e) m h

    pub coding-all : (0 < t) × (m ≡ sent_octets t n e) × (m ≤ longest_word)
    unfolding is_sendable
    coding-all =
        let b = both_true (leb 1 t) (leb (sent_octets t n e) longest_word) known.1 in
        (leb-true 1 t b.0, known.2, omega (arith, known.2, leb-true (sent_octets t n e) longest_word b.1))
