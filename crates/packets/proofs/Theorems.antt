-- The claims of specs/Claims.antt.
--
--   packets   all of them
--
-- Assumes nothing.
use mathlib.Core.Path.{◌≡◌, refl}
use mathlib.Core.Bool.{true, false}
use Prim.Native.Nat.{ℕ, zero, suc, ◌+◌, ◌<◌}
use native.Mathlib.Omega.{arith}
use lib.ListN.{get_or}
use Rattle.golay.specs.Matrix.{matrix}
use Rattle.golay.specs.Code.{product, parity}
use Rattle.packets.specs.Flag.{flag_of}
use Rattle.packets.specs.Claims.{FlagsAre, FillPacket, Packets}
use Rattle.packets.proofs.Fields.{fields_stand, header_is_word, wrong_bits_are}
use Rattle.packets.proofs.Telling.{of_reading, next_flag}
use Rattle.packets.proofs.Carrying.{read_exactly, carries_one, payload_lies, cut_short, length_unused}
use Rattle.packets.proofs.Writing.{of_writing, write_answered, read_back}

flags_are : FlagsAre
flags_are = (refl, refl, ones)
  where
    ones : (i : ℕ) → i < 2 → get_or (flag_of false) i 0 + get_or (flag_of true) i 0 ≡ 255
    ones zero l = refl
    ones (suc zero) l = refl
    ones (suc (suc i)) l = absurd (omega arith)

fill_packet : FillPacket
unfolding parity product matrix
fill_packet false false = refl
fill_packet false true = refl
fill_packet true false = refl
fill_packet true true = refl

pub packets : Packets
packets = record {
  flags_are = flags_are;
  fields_stand = fields_stand;
  header_is_word = header_is_word;
  wrong_bits_are = wrong_bits_are;
  packet_is = λ o c m xs. refl;
  fill_packet = fill_packet;
  read_exactly = read_exactly;
  carries_one = carries_one;
  payload_lies = payload_lies;
  of_reading = of_reading;
  cut_short = cut_short;
  length_unused = length_unused;
  of_writing = of_writing;
  write_answered = write_answered;
  says_so = λ c m n next r. (refl, refl);
  read_back = read_back;
  next_flag = next_flag;
}
