-- The small set of document 01 holds.
--
--   small        A1 to A10
--   c3, c5       the code words of A3 and A5; w4, w6, w7, w8: the words of A4, A6, A7 and A8
--   receives     what receiving a word within e octets of a code word answers and leaves
--   misses       .. and one that is not
--   found_as     how the first is received, whatever is lent
--   lost_as      .. and the second
--   are_octets    whether numbers are octets
--   octets-by    .. so they are
--
-- Assumes nothing.
use mathlib.Core.Path.{◌≡◌, refl, sym, ap, ◌∙◌, fun_ext}
use mathlib.Core.Bool.{Bool, true, false, cond, not, ◌&&◌}
use mathlib.Core.List.{List, [], ◌∷◌}
use Prim.Native.Nat.{ℕ, zero, suc, ◌*◌, ◌-◌, ◌≤◌, ◌<◌}
use Rattle.std.specs.Prelude.{Some, None, Ok}
use native.Mathlib.Omega.{arith}
use borrow.Author.Tests.{le-leb, leb-true}
use lib.Dec.{T, leb, ltb, lit<, ltb→lt}
use lib.ListN.{length, take}
use lib.Seq.{take-append-le}
use Rattle.octets.specs.Every.{both_left, both_right}
use Rattle.octets.specs.Written.{written, written_nothing}
use Rattle.algebra.specs.Polynomial.{polynomial}
use Rattle.codeword.specs.Element.{elements}
use Rattle.codeword.specs.Element.Laws.{octet-same}
use Rattle.codeword.specs.Changed.{changed_places}
use Rattle.codeword.specs.CodeWord as code
use Rattle.codeword.specs.CodeWord.{Octets, distance, Within, longest_word}
use Rattle.codeword.specs.Repair.{reads, filled}
use Rattle.calls.specs.Refusal.{told, refusal}
use Rattle.algebra.specs.Division.{sum, lowered, divided, remainder}
use Rattle.checks.specs.Bits.{is_odd, bits_of, bits, number, octets_of}
use Rattle.checks.specs.Check as check
use Rattle.checks.specs.Check.{plain, preset, check_bits, check_of, agrees, none, eight, sixteen}
use Rattle.checks.specs.Width.{width_of, kind_at}
use Rattle.adaptation.specs.AL1M.{is_setting, is_sendable, sent_length}
use Rattle.adaptation.specs.Receiving.{RepairLent, has_repair_room, is_word, receive_tests, is_bare, badge_of, is_corrected, unit_length, Receives}
use Rattle.adaptation.specs.declared.Badge.{Badge}
use Rattle.adaptation.specs.declared.Badge.TheVariants.{Clean, Corrected, OutOfReach, CheckFailed}
use Rattle.adaptation.proofs.Laws.{refused-not}
use Rattle.adaptation.proofs.Laws.{received_unique}
use Rattle.table.specs.Entry.{size, all_elements, depth, is_list, is_entry_tree, element_numbers}
use Rattle.table.specs.Cursor.{many, head_at, element_at, skip}
use Rattle.table.specs.Form.{in_turn, element_as, list_as, tree_of, is_entry}
use Rattle.table.specs.Slots.{copies, slots, cut, payload_slots, channels_of}
use Rattle.demands.specs.Small.{ReceivedAs, Small}
use Rattle.demands.proofs.Working.{times, alphas, horner}
use Rattle.demands.proofs.Testing.{is_zero_at, is_code, is_code_true, none_at, none_near, none_near-none}
use Rattle.demands.proofs.Generating.{coefficient, of_list, rooted-worked, polynomial-worked}

-- ---- receiving

module _ (n e : ℕ) (w : List ℕ) (setting : is_setting n e ≡ true) (is_one : is_word (length w) n e ≡ true) (short : leb (length w) longest_word ≡ true)
    (long : ltb (2 * e) (length w) ≡ true) where
  module _ (before : RepairLent) (room : length w ≤ length before.repair) (list : e ≤ length before.places) where
    enough : has_repair_room (length w) e before ≡ true
    enough = rw (le-leb (length w) (length before.repair) room, le-leb e (length before.places) list)

    allowed : refusal (receive_tests (length w) n e before) ≡ told tt
    allowed = refused-not (is_setting n e) (is_word (length w) n e) (not (has_repair_room (length w) e before)) setting is_one (ap not enough)

    fits : reads (length w) e before ≡ true
    fits = rw (short, long) enough

    -- the first octets of what the repair leaves
    front : (c : List ℕ) (k : ℕ) → length c ≡ length w → k ≤ length w → take k (written before.repair 0 c) ≡ take k c
    front c k l h = take-append-le k c _ (omega arith)

    module _ (c : List ℕ) (near : Within e w c) (b : Badge) (t : ℕ)
        (badge : badge_of (is_bare (kind_at n) e) (Some (distance w c)) (agrees (kind_at n) (take (length w - 2 * e) c)) ≡ b)
        (unit : unit_length (kind_at n) e (length w) ≡ t) where
      pub receives : Receives n e w before (Ok (record { badge = b; changed = distance w c; length = t }))
          (filled before c (changed_places w c))
      receives = (
        allowed,
        record {
          reach = Some (distance w c);
          repaired = record { fits = fits; found = c; within = near; count = refl; filled_is = refl };
          badge_is = sym badge ∙ ap (λ (l : List ℕ). badge_of (is_bare (kind_at n) e) (Some (distance w c)) (agrees (kind_at n) l))
              (sym (front c (length w - 2 * e) near.long (omega arith)));
          changed_is = refl;
          length_is = sym unit;
        },
      )

    module _ (none : (c : List ℕ) → Within e w c → ⊥) (t : ℕ) (unit : unit_length (kind_at n) e (length w) ≡ t) where
      pub misses : Receives n e w before (Ok (record { badge = OutOfReach; changed = 0; length = t })) before
      misses = (
        allowed,
        record {
          reach = None;
          repaired = record { none = λ _. none; same = refl };
          badge_is = refl;
          changed_is = refl;
          length_is = sym unit;
        },
      )

  pub found_as : (c : List ℕ) (b : Badge) (k : ℕ) (u l : List ℕ) → Within e w c
      → badge_of (is_bare (kind_at n) e) (Some (distance w c)) (agrees (kind_at n) (take (length w - 2 * e) c)) ≡ b
      → distance w c ≡ k → unit_length (kind_at n) e (length w) ≡ length u → take (length u) (cond (is_corrected b) c w) ≡ u → changed_places w c ≡ l
      → ReceivedAs n e w b k u l
  found_as c b k u l near bs ks ls us ps before after r room list h =
      let both = received_unique n e w before after (filled before c (changed_places w c)) r _ h (receives before room list c near b (length u) bs ls) in
      let t : length u ≤ length w = omega (arith, ls) in (
        both.0 ∙ ap (λ (i : ℕ). Ok (record { badge = b; changed = i; length = length u })) ks,
        ap (λ (x : RepairLent). take (length u) (cond (is_corrected b) x.repair w)) both.1
            ∙ chosen (is_corrected b) (front before room list c (length u) near.long t) ∙ us,
        ap (λ (x : RepairLent). x.places) both.1 ∙ ap (written before.places 0) ps,
      )
    where
      chosen : (t : Bool) → take (length u) (written before.repair 0 c) ≡ take (length u) c → take (length u) (cond t (written before.repair 0 c) w)
          ≡ take (length u) (cond t c w)
      chosen true p = p
      chosen false p = refl

  pub lost_as : (u : List ℕ) → ((c : List ℕ) → Within e w c → ⊥) → unit_length (kind_at n) e (length w) ≡ length u → take (length u) w ≡ u
      → ReceivedAs n e w OutOfReach 0 u []
  lost_as u none ls us before after r room list h =
      let both = received_unique n e w before after before r _ h (misses before room list none (length u) ls) in
      (both.0, us, ap (λ (x : RepairLent). x.places) both.1 ∙ sym (written_nothing before.places 0))

-- ---- words

abbrev pub are_octets : List ℕ → Bool
are_octets [] = true
are_octets (a ∷ w) = ltb a 256 && are_octets w

pub octets-by : (w : List ℕ) → T (are_octets w) → Octets w
octets-by [] t i = lit< tt
octets-by (a ∷ w) t zero = ltb→lt a 256 (both_left (ltb a 256) (are_octets w) t)
octets-by (a ∷ w) t (suc i) = octets-by w (both_right (ltb a 256) (are_octets w) t) i

module _ (e : ℕ) (w c : List ℕ) (long : length c ≡ length w) (fits : 2 * e < longest_word) (octets : T (are_octets c)) (code : T (is_code e c))
    (near : leb (distance w c) e ≡ true) where
  within_by : Within e w c
  within_by = record { long = long; code = is_code_true e c fits (octets-by c octets) code; near = leb-true (distance w c) e near }

-- A2, coefficient by coefficient
four : (k : ℕ) → coefficient 4 k ≡ of_list (0x01 ∷ 0x1E ∷ 0xD8 ∷ 0xE7 ∷ 0x74 ∷ []) k
unfolding coefficient of_list times alphas
four zero = refl
four (suc zero) = refl
four (suc (suc zero)) = refl
four (suc (suc (suc zero))) = refl
four (suc (suc (suc (suc zero)))) = refl
four (suc (suc (suc (suc (suc k))))) = refl

generator_two : code.generator 2 ≡ polynomial elements (code.word (0x01 ∷ 0x1E ∷ 0xD8 ∷ 0xE7 ∷ 0x74 ∷ []))
unfolding code.generator
generator_two =
    fun_ext
    (λ k. octet-same _ _
    (rooted-worked 4 (lit< tt) k ∙ four k ∙ sym
    (polynomial-worked (0x01 ∷ 0x1E ∷ 0xD8 ∷ 0xE7 ∷ 0x74 ∷ []) (octets-by (0x01 ∷ 0x1E ∷ 0xD8 ∷ 0xE7 ∷ 0x74 ∷ []) tt) k)))

-- ---- the table

-- A3's code word and A5's
abbrev pub c3 : List ℕ
c3 = 0x10 ∷ 0x80 ∷ 0xF5 ∷ 0x4E ∷ 0xCD ∷ 0x57 ∷ 0xA5 ∷ []

abbrev pub c5 : List ℕ
c5 = 0x01 ∷ 0x06 ∷ 0x08 ∷ []

-- the words of A4, A6, A7 and A8
abbrev pub w4 : List ℕ
w4 = 0x00 ∷ 0x00 ∷ 0xF5 ∷ 0x4E ∷ 0xCD ∷ 0x57 ∷ 0xA5 ∷ []

abbrev pub w6 : List ℕ
w6 = 0x01 ∷ 0x06 ∷ 0x00 ∷ []

abbrev pub w7 : List ℕ
w7 = 0x01 ∷ 0x0C ∷ 0x18 ∷ []

abbrev pub w8 : List ℕ
w8 = 0x10 ∷ 0x80 ∷ 0xAF ∷ []

-- each row is worked out by antt; A7 goes through all words that differ in one octet
pub small : Small
unfolding is_odd bits_of bits number octets_of sum lowered divided remainder check.generator plain preset check_bits check_of agrees
    eight sixteen none width_of is_setting is_sendable sent_length is_word distance changed_places is_code is_zero_at none_at none_near horner times alphas
    size all_elements depth is_list is_entry_tree element_numbers many head_at element_at skip in_turn element_as list_as tree_of is_entry copies slots cut
    payload_slots channels_of
small = (
  refl,
  generator_two,
  record { long = refl; begins = refl; code = is_code_true 2 c3 (lit< tt) (octets-by c3 tt) tt },
  found_as 8 2 w4 refl refl refl refl c3 Corrected 2 (0x10 ∷ 0x80 ∷ []) (0 ∷ 1 ∷ []) (within_by 2 w4 c3 refl (lit< tt) tt tt refl) refl refl refl refl
      refl,
  found_as 0 1 c5 refl refl refl refl c5 Clean 0 (0x01 ∷ []) [] (within_by 1 c5 c5 refl (lit< tt) tt tt refl) refl refl refl refl refl,
  found_as 0 1 w6 refl refl refl refl c5 Corrected 1 (0x01 ∷ []) (2 ∷ []) (within_by 1 w6 c5 refl (lit< tt) tt tt refl) refl refl refl refl refl,
  lost_as 0 1 w7 refl refl refl refl (0x01 ∷ []) (none_near-none w7 (lit< tt) tt) refl refl,
  found_as 8 0 w8 refl refl refl refl w8 CheckFailed 0 (0x10 ∷ 0x80 ∷ []) [] (within_by 0 w8 w8 refl (lit< tt) tt tt refl) refl refl refl refl refl,
  refl,
  refl,
  refl,
  (refl, refl, refl, refl),
)
