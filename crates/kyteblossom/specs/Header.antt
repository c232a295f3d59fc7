-- What the functions of include/kyteblossom.h that take an answer apart are written to compute. They are C and stand in the header, so
-- that nothing proves them: these are their equations, by which the claims speak of what a host is told, and tests/host holds the C to them.
--
--   is_below r                    answer < 0
--   told_refusal r                kyte_refused: minus the answer where it is below 0, and else 0
--   told_badge r                  kyte_badge: the answer modulo 256, and -1 of a refusal
--   told_changed r                kyte_changed: the answer / 256, modulo 256, and 0 of a refusal
--   told_length r                 kyte_unit_length: the answer / 65,536, and 0 of a refusal
--   is_badge r k                  kyte_badge is k
--   told_unit r received repair   the octets that kyte_unit and kyte_unit_length name: from the front of `repair` when corrected, and of
--                                 `received` otherwise
--   is_checked b                  a check of b bits is one: 8 or 16
--   is_trusted r b                kyte_trusted: clean or corrected, where there is a check
--   told_code r                   kyte_packet_code: the answer modulo 16, and -1 of a refusal
--   told_mark r                   kyte_packet_mark: the answer / 16, modulo 2, and 0 of a refusal
--   told_payload_length r         kyte_packet_length: the answer / 256, and 0 of a refusal
--   told_payload octets r         the octets that kyte_packet_payload and kyte_packet_length name: from behind the first five on
--   told_next r                   kyte_packet_next: 5 and the payload's octets, and 0 of a refusal
--
-- Assumes nothing.
use Rattle.std.specs.Prelude.{Bool, true, false, cond, ◌&&◌, ◌||◌, List, ℕ, suc, ◌+◌, ◌/◌, ◌%◌, eqb, ℤ, pos, negsuc, take, drop}

abbrev pub is_below : ℤ → Bool
is_below (pos n) = false
is_below (negsuc k) = true

abbrev pub told_refusal : ℤ → ℕ
told_refusal (pos n) = 0
told_refusal (negsuc k) = suc k

abbrev pub told_badge : ℤ → ℤ
told_badge (pos n) = pos (n % 256)
told_badge (negsuc k) = negsuc 0

abbrev pub told_changed : ℤ → ℕ
told_changed (pos n) = n / 256 % 256
told_changed (negsuc k) = 0

abbrev pub told_length : ℤ → ℕ
told_length (pos n) = n / 65536
told_length (negsuc k) = 0

abbrev pub is_badge : ℤ → ℕ → Bool
is_badge (pos n) k = eqb (n % 256) k
is_badge (negsuc m) k = false

abbrev pub told_unit : ℤ → List ℕ → List ℕ → List ℕ
told_unit r received repair = take (told_length r) (cond (is_badge r 1) repair received)

abbrev pub is_checked : ℕ → Bool
is_checked b = eqb b 8 || eqb b 16

abbrev pub is_trusted : ℤ → ℕ → Bool
is_trusted r b = (is_badge r 0 || is_badge r 1) && is_checked b

-- ---- packets

abbrev pub told_code : ℤ → ℤ
told_code (pos n) = pos (n % 16)
told_code (negsuc k) = negsuc 0

abbrev pub told_mark : ℤ → ℕ
told_mark (pos n) = n / 16 % 2
told_mark (negsuc k) = 0

abbrev pub told_payload_length : ℤ → ℕ
told_payload_length (pos n) = n / 256
told_payload_length (negsuc k) = 0

abbrev pub told_payload : List ℕ → ℤ → List ℕ
told_payload octets r = take (told_payload_length r) (drop 5 octets)

abbrev pub told_next : ℤ → ℕ
told_next (pos n) = 5 + n / 256
told_next (negsuc k) = 0
