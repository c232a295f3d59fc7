-- A packet that is read ends within the octets.
--
--   reading-within   a packet that is read ends behind the front, within the octets
--
-- Assumes nothing.
use mathlib.Core.Path.{◌≡◌, sym, ap, ◌∙◌}
use mathlib.Core.List.{List}
use Prim.Native.Nat.{ℕ, ◌+◌, ◌<◌, ◌≤◌}
use native.Mathlib.Omega.{arith}
use lib.ListN.{length}
use Rattle.packets.specs.Packet.{Heading, read, read_says}
use Rattle.packets.specs.declared.Packet.{Packet}
use Rattle.calls.specs.declared.Refusal.{Refusal}
use Rattle.std.specs.Prelude.{Result, Ok}
use Rattle.packets.proofs.Laws.{packets, read-within}

pub reading-within : (u : List ℕ) (r : Result Packet Refusal) (p : Packet) → read_says r ≡ read u → r ≡ Ok p → (0 < p.next) × (p.next + 2 ≤ length u)
reading-within u r p e s =
    let h : Heading = record { code = p.code.0; mark = p.mark; length = p.length; next = p.next } in
    let is = sym e ∙ ap read_says s in
    (omega (arith, ((packets.read_exactly u h).0 is).next), read-within u h is)
