-- Demands 1 and 3 of what the C host calls: of the numbers that the entries answer, as the header's functions read them
-- (crates/kyteblossom/specs/Header.antt, by the same names as `kyte_badge` and the others).
--
--   found_badge x d a     document 01's badge of a word for which a code word was found: x if there is neither check nor code, d octets in
--                        which they differ, a if its check agrees
--   FoundTold            what a host is told of a word, and finds in what it lent, where the code word c lies within e octets
--   HostRepairs          what demand 3 says of one answer of kyte_receive
--   SentTold             what a host is told of a unit that was sent as c, and that came as w
--   Host                 demands 1 and 3 of the entries; proofs/Hosted.antt proves it
--
-- Assumes nothing.
use Rattle.std.specs.Prelude.{◌≡◌, ◌↔◌, Bool, true, false, cond, ◌&&◌, List, ℕ, zero, suc, ◌-◌, ◌*◌, ◌≤◌, ℤ, pos, length, take}
use Rattle.codeword.specs.Changed.{changed_places}
use Rattle.codeword.specs.Claims.{RepairShows}
use Rattle.codeword.specs.CodeWord.{distance, Within}
use Rattle.checks.specs.Check.{agrees}
use Rattle.checks.specs.Width.{kind_at}
use Rattle.adaptation.specs.Receiving.{RepairLent, is_bare, unit_length}
use Rattle.kyteblossom.specs.Answer.{EncodeIs, ReceiveIs}
use Rattle.kyteblossom.specs.Header.{is_below, told_badge, told_changed, told_length, told_unit, is_checked, is_trusted}
use Rattle.kyteblossom.specs.Claims.{LengthAnswered, EncodeAnswered, ReceiveAnswered, RecordWriteAnswered, RecordReadAnswered, FormsAre, PacketWriteAnswered, PacketReadAnswered, PacketBack}

abbrev pub found_badge : Bool → ℕ → Bool → ℕ
found_badge x d false = 3
found_badge x zero true = cond x 4 0
found_badge x (suc d) true = 1

-- a check of b bits and e repairs, the word w, what was lent for the repair before and after, and the answer
module _ (b e : ℕ) (w : List ℕ) (before after : RepairLent) (r : ℤ) where
  pub record FoundTold (c : List ℕ) : Type 0 where
    -- it stands in the repair buffer, the places at which it differs stand in the list, kyte_changed is their number, and nothing behind them has
    -- changed
    pub shown : RepairShows w c before (told_changed r) after
    -- kyte_badge and kyte_trusted
    pub badge : told_badge r ≡ pos (found_badge (is_bare (kind_at b) e) (distance w c) (agrees (kind_at b) (take (length w - 2 * e) c)))
    pub trusted : is_trusted r b ≡ (is_checked b && agrees (kind_at b) (take (length w - 2 * e) c))
    -- kyte_unit, where its check agrees, or there is none
    pub unit : agrees (kind_at b) (take (length w - 2 * e) c) ≡ true → told_unit r w after.repair ≡ take (told_length r) c

  pub record HostRepairs : Type 0 where
    -- kyte_unit_length
    pub long : told_length r ≡ unit_length (kind_at b) e (length w)
    -- kyte_unit, but where it is corrected: a part of the received word
    pub as_received : (told_badge r ≡ pos 1 → ⊥) → told_unit r w after.repair ≡ take (told_length r) w
    -- badge 2 is told exactly if no code word lies within e octets; nothing has changed then, and nothing is trusted
    pub lost : told_badge r ≡ pos 2 ↔ ((c : List ℕ) → Within e w c → ⊥)
    pub untouched : told_badge r ≡ pos 2 → (told_changed r ≡ 0) × (after ≡ before) × (is_trusted r b ≡ false)
    -- a repaired word is found exactly when one does
    pub found : (told_badge r ≡ pos 2 → ⊥) ↔ ((c : List ℕ) × Within e w c)
    pub repaired : (c : List ℕ) → Within e w c → FoundTold c

-- the unit u, handed up with the octets w received and what was lent for the repair
pub record SentTold (b e : ℕ) (c u w : List ℕ) (after : RepairLent) (r : ℤ) : Type 0 where
  -- 0 where nothing changed, 1 where it was repaired; 4 for 0, where there is neither check nor code
  pub badge : told_badge r ≡ pos (found_badge (is_bare (kind_at b) e) (distance w c) true)
  pub changed : told_changed r ≡ distance w c
  pub places : take (told_changed r) after.places ≡ changed_places w c
  pub long : told_length r ≡ length u
  pub unit : told_unit r w after.repair ≡ u
  pub trusted : is_trusted r b ≡ is_checked b

pub record Host : Type 0 where
  -- demand 1: an answer is below 0 exactly on a refusal, by the first test that holds, and nothing lent has changed then
  pub lengths : LengthAnswered
  pub encoding : EncodeAnswered
  pub receiving : ReceiveAnswered
  pub writing : RecordWriteAnswered
  pub reading : RecordReadAnswered
  pub packing : PacketWriteAnswered
  pub unpacking : PacketReadAnswered
  -- of packets: which form of flag a number names, and that what was written is read back
  pub forms : FormsAre
  pub packet_back : PacketBack
  -- demand 3
  pub repairs : (b e : ℕ) (w : List ℕ) (before after : RepairLent) (r : ℤ) → ReceiveIs b e w before r after → is_below r ≡ false
      → HostRepairs b e w before after r
  -- what kyte_encode wrote in m octets, of which at most e changed, with room for the repair and for e places
  pub as_sent : (b e m : ℕ) (u room sent w : List ℕ) (before after : RepairLent) (r : ℤ) → EncodeIs b e u room (pos m) sent
      → length w ≡ m → distance w (take m sent) ≤ e → m ≤ length before.repair → e ≤ length before.places → ReceiveIs b e w before r after
      → SentTold b e (take m sent) u w after r
