-- What laying slots down does: their channels into one list, how many octets each has into another, from a place on.
--
--   Room from channels lengths      there is a place for each octet that is left
--   Lays from new to ..             the slots new are laid down: how many there are now, which octets of the payload are left,
--                                   and what the two lists, before and after, hold
--   HasRoom from, LaysOn from new to   .. of what is laid down so far, and of what it is after a step: the lists are the same two
--   LaysInto from new to ..         .. of two lists that a call is lent
--   element_slots s deeper at        what the inner functions lay down: the slots of the element at `at`, for the longest payload
--   list_slots s deeper n at         .. and those of n elements
--
-- Assumes nothing.
use Rattle.std.specs.Prelude.{◌≡◌, List, ℕ, ◌+◌, ◌-◌, ◌≤◌, length}
use Rattle.octets.specs.Written.{written}
use Rattle.calls.specs.Slices.{Slice}
use Rattle.table.specs.declared.walk.Laid.{Laid}
use Rattle.table.specs.declared.walk.Laying.{Laying}
use Rattle.table.specs.Entry.{none}
use Rattle.table.specs.Form.{element_as, list_as}
use Rattle.table.specs.Slots.{Slot, slots, octets_of, numbers_of, lengths_of}
use Rattle.table.specs.Table.{longest_payload}

pub record Room (from : Laid) (channels lengths : List ℕ) : Type 0 where
  pub for_channels : from.count + from.left ≤ length channels
  pub for_lengths : from.count + from.left ≤ length lengths

pub record Lays (from : Laid) (new : List Slot) (to : Laid) (channels₀ lengths₀ channels₁ lengths₁ : List ℕ) : Type 0 where
  pub count : to.count ≡ from.count + length new
  pub left : to.left ≡ from.left - octets_of new
  pub channels : channels₁ ≡ written channels₀ from.count (numbers_of new)
  pub lengths : lengths₁ ≡ written lengths₀ from.count (lengths_of new)

-- what is laid down, and the lists that it is laid into
abbrev pub HasRoom : Laying → Type 0
HasRoom from = Room from.laid from.channels.now from.lengths.now

pub record LaysOn (from : Laying) (new : List Slot) (to : Laying) : Type 0 where
  pub lays : Lays from.laid new to.laid from.channels.now from.lengths.now to.channels.now to.lengths.now
  pub same_channels : to.channels.ghost_name ≡ from.channels.ghost_name
  pub same_lengths : to.lengths.ghost_name ≡ from.lengths.ghost_name

abbrev pub LaysInto : Laid → List Slot → Laid → (channels lengths : Slice) → Type 0
LaysInto from new to channels lengths = Lays from new to channels.entry.now lengths.entry.now channels.exit.now lengths.exit.now

unfoldable pub element_slots : List ℕ → ℕ → ℕ → List Slot
element_slots s deeper at = slots longest_payload (element_as s deeper at none)

unfoldable pub list_slots : List ℕ → ℕ → ℕ → ℕ → List Slot
list_slots s deeper n at = slots longest_payload (list_as s deeper n at)
