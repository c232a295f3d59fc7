-- What the table has laid down for a payload.
--
--   Slotted                the slots of a payload stand at the front of two lists
--   lays-slotted           .. as the table promises
--
-- Assumes nothing.
use mathlib.Core.Path.{◌≡◌, ap, ap₂, ◌∙◌}
use mathlib.Core.List.{List}
use Prim.Native.Nat.{ℕ, ◌≤◌}
use native.Mathlib.Omega.{arith}
use lib.ListN.{length, take, length-map}
use Rattle.table.specs.Table.{longest_payload}
use Rattle.octets.specs.Written.{written, written-length, written_front}
use Rattle.table.specs.declared.walk.Laid.{Laid}
use Rattle.table.specs.Slots.{Slot, payload_slots, octets_of, numbers_of, lengths_of}
use Rattle.table.proofs.Laws.{filled-length, payload_slots_filled, payload_slots_most}
use Rattle.table.specs.Lays.{Lays}

pub record Slotted (l : List Slot) (n : ℕ) (r : Laid) (cs ls : List ℕ) : Type 0 where
  pub count : r.count ≡ length l
  pub few : length l ≤ longest_payload
  pub most : octets_of l ≤ n
  pub for_channels : length cs ≡ longest_payload
  pub for_lengths : length ls ≡ longest_payload
  pub channels : take r.count cs ≡ numbers_of l
  pub lengths : take r.count ls ≡ lengths_of l

-- a list written to the front of one that has places enough
front : (d₀ d s : List ℕ) (n : ℕ) → d ≡ written d₀ 0 s → n ≡ length s → length s ≤ length d₀ → (length d ≡ length d₀) × (take n d ≡ s)
front d₀ d s n e k h =
    (ap length e ∙ written-length d₀ 0 s (omega arith), ap₂ (λ (m : ℕ) (l : List ℕ). take m l) k e ∙ written_front d₀ s h)

pub lays-slotted : (entry : List ℕ) (n : ℕ) → n ≤ longest_payload → (r : Laid) (cs₀ ls₀ cs ls : List ℕ) → length cs₀ ≡ longest_payload → length ls₀
    ≡ longest_payload
    → Lays (record { count = 0; left = n }) (payload_slots entry n) r cs₀ ls₀ cs ls → Slotted (payload_slots entry n) n r cs ls
lays-slotted entry n h r cs₀ ls₀ cs ls a b lays =
    let l = payload_slots entry n in
    let most = payload_slots_most entry n in
    let few : length l ≤ longest_payload = omega (arith, filled-length l (payload_slots_filled entry n)) in
    let c = length-map l (λ (x : Slot). x.channel) in
    let k = length-map l (λ (x : Slot). x.octets) in
    let p = front cs₀ cs (numbers_of l) r.count lays.channels (omega (arith, lays.count)) (omega arith) in
    let q = front ls₀ ls (lengths_of l) r.count lays.lengths (omega (arith, lays.count)) (omega arith) in
    record {
      count = omega (arith, lays.count);
      few = few;
      most = most;
      for_channels = p.0 ∙ a;
      for_lengths = q.0 ∙ b;
      channels = p.1;
      lengths = q.1;
    }
