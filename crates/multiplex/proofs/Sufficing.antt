-- The room that is always enough: a unit that was held, and a payload's octets; three numbers for each of these.
--
--   room_enough     the claim RoomEnough
--
-- Assumes nothing.
use mathlib.Core.Path.{◌≡◌, subst}
use mathlib.Core.Logic.{◌⊎◌, inl, inr}
use mathlib.Core.Bool.{Bool}
use mathlib.Core.List.{List, [], ◌∷◌}
use Prim.Native.Nat.{ℕ, zero, suc, ◌+◌, ◌*◌, ◌≤◌, ◌<◌}
use native.Mathlib.Numerals.{add-one}
use native.Mathlib.Omega.{arith}
use lib.ListN.{length, take, drop, length-append, length-take, length-drop}
use Rattle.calls.specs.Refusal.{leaving}
use Rattle.calls.proofs.Laws.{by_test, checked_refuses}
use Rattle.table.specs.Slots.{payload_slots}
use Rattle.table.specs.Table.{entry_of}
use Rattle.table.proofs.Laws.{payload_slots_most}
use Rattle.channels.specs.Channels.{place_octets, channel_at, held_of}
use Rattle.channels.specs.Claims.{Orderly}
use Rattle.multiplex.specs.Pieces.{Piece, placed, last_place}
use Rattle.multiplex.specs.Demultiplexer.{Delivery, DemuxLent, nothing, took, took_all, closed, delivery, demultiplex_tests, demultiplexed}
use Rattle.multiplex.specs.Rules.{finished_octets, RoomEnough}
use Rattle.multiplex.proofs.Applying.{of_demultiplexer}
use Rattle.multiplex.proofs.Keeping.{nothing-holds, slots_hold}
use Rattle.multiplex.proofs.Ordering.{lasts-rise}
use Rattle.multiplex.proofs.Rules.{flat, three_exactly}
use Rattle.multiplex.proofs.Unrefused.{is-accepted}

-- ---- octets

took_octets : (r : Delivery) (p : ℕ) (x : List ℕ) → length (took r p x).octets ≤ length r.octets + length x
took_octets r p x =
    by_test (λ (d : Delivery). length d.octets ≤ length r.octets + length x) (channel_at r.channels p).segmentable (λ g. omega arith)
    (λ g. omega (arith, length-append r.octets x))

all-octets : (l : List Piece) (r : Delivery) (xs : List ℕ) → length (took_all r l xs).octets ≤ length r.octets + length xs
unfolding took_all
all-octets [] r xs = omega arith
all-octets (q ∷ l) r xs =
    let x = take q.octets xs in
    omega (
      arith,
      took_octets r q.place x,
      all-octets l (took r q.place x) (drop q.octets xs),
      length-take q.octets xs,
      length-drop q.octets xs,
    )

-- what the closing mark ends is a unit that a place held
closed-octets : (r : Delivery) (p : ℕ) → (channel_at r.channels p).held ≤ place_octets → length (closed r p).octets ≤ length r.octets + place_octets
closed-octets r p h =
    let u = held_of r.channels r.held p in
    omega (arith, length-append r.octets u, length-take (channel_at r.channels p).held (drop (place_octets * p) r.held))

-- ---- numbers that rise

rising-from : (f : ℕ → ℕ) (k : ℕ) → ((j : ℕ) → j + 1 < k → f j < f (j + 1)) → (j : ℕ) → j < k → j ≤ f j
rising-from f k rise zero h = omega arith
rising-from f k rise (suc j) h =
    let before = rising-from f k rise j (omega arith) in
    let step : f j < f (suc j) = subst (λ (i : ℕ). f j < f i) (add-one j) (rise j (omega arith)) in
    omega (arith, before, step)

rising-most : (f : ℕ → ℕ) (k n : ℕ) → ((j : ℕ) → j < k → f j < n) → ((j : ℕ) → j + 1 < k → f j < f (j + 1)) → k ≤ n
rising-most f zero n below rise = omega arith
rising-most f (suc k) n below rise = omega (arith, rising-from f (suc k) rise k (omega arith), below k (omega arith))

-- ---- the room

module _ (x y : DemuxLent) (t : List ℕ) (c : ℕ) (mark : Bool) (xs : List ℕ) (k : ℕ) (o : Orderly x.channels x.held)
    (e : demultiplexed x t c mark xs ≡ leaving k y) where
  finished-octets : length (finished_octets y k) ≤ length xs + place_octets
  unfolding delivery
  finished-octets =
      let l = payload_slots (entry_of t c) (length xs) in
      let ps = placed x.channels l in
      let a = is-accepted x y t c mark xs k e in
      let h = slots_hold l xs (nothing-holds x.channels x.held 0 o) a.opened a.fitting (payload_slots_most (entry_of t c) (length xs)) in
      let all = took_all (nothing x.channels x.held) ps xs in
      let some : length all.octets ≤ length xs = omega (arith, all-octets ps (nothing x.channels x.held) xs) in
      rw (flat x y t c mark xs k e)
      (by_test (λ (d : Delivery). length d.octets ≤ length xs + place_octets) mark
      (λ set. omega (arith, closed-octets all (last_place ps) (h.orderly.bounded (last_place ps)))) (λ none. omega arith))

  finished-units : k ≤ length xs
  finished-units =
      let r = lasts-rise x y t c mark xs k o e in
      rising-most r.0 k (length xs) (λ j h. (r.1 j h).present) r.2

pub room_enough : RoomEnough
unfolding demultiplexed
room_enough x t c mark xs o out list e =
    let l = demultiplex_tests x t c mark xs in
    let short = ((of_demultiplexer x t c mark xs).demux3.0 (((checked_refuses x l _ _).exactly 3).0 e)).0.0 in
    let h = (three_exactly x t c mark xs).0 e in
    let other : DemuxLent = record { channels = x.channels; held = x.held; output = h.0; units = h.1 } in
    let most = finished-octets other h.3 t c mark xs h.2 o h.4 in
    let few = finished-units other h.3 t c mark xs h.2 o h.4 in
    by h.5 short most few
  where
    by : {n m k : ℕ} → (length x.output < n) ⊎ (length x.units < 3 * k) → m ≤ 255 → n ≤ m + place_octets → k ≤ m → ⊥
    by (inl z) short most few = omega arith
    by (inr z) short most few = omega arith
