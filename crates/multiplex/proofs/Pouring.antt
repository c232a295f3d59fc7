-- The writes: one more piece, or the unit that the closing mark ends, shown as it is taken.
--
--   part_exact, part_length       a piece as the code cuts it, and its length
--   takes-unit                    one piece written as a unit, on a channel that is not segmentable
--   closed_tallies                the closing mark, counted
--   closes-least                  it makes octets and units no fewer, and at most one unit more
--   leaving-shown                 where a delivery is shown, the call hands_back it
--   finishes                      .. and the unit that it ends, written
--
-- Assumes nothing.
use mathlib.Core.Path.{◌≡◌, refl, ap, ◌∙◌}
use mathlib.Core.List.{List}
use mathlib.Core.Bool.{Bool, true, false}
use Prim.Native.Nat.{ℕ, ◌+◌, ◌*◌, ◌-◌, ◌≤◌}
use native.Mathlib.Nat.{le_refl, add-sub_cancel_left}
use native.Mathlib.Omega.{arith}
use lib.ListN.{length, take, drop, length-append, length-drop}
use lib.Seq.{length-take-le}
use Rattle.octets.specs.Written.{written, written_next}
use Rattle.calls.specs.Slices.{Slice, SharedSlice}
use Rattle.calls.specs.Refusal.{leaving}
use Rattle.channels.specs.declared.Channel.{Channel}
use Rattle.multiplex.specs.declared.demultiplexer.Tally.{Tally}
use Rattle.channels.specs.Channels.{channel_at, held_of}
use Rattle.multiplex.specs.Demultiplexer.{Delivery, DemuxLent, finished, closed, writes}
use Rattle.multiplex.specs.Tally.{ends, closes, Tallies, Shows, RoomFor, Takes, Poured, Exact, Finishes}
use Rattle.multiplex.specs.Units.{listed}

module _ (xs : List ℕ) (at n : ℕ) where
  pub part_exact : take (at + n - at) (drop at xs) ≡ take n (drop at xs)
  part_exact = rw (add-sub_cancel_left at n)

  pub part_length : at + n ≤ length xs → length (take n (drop at xs)) ≡ n
  part_length h = length-take-le n (drop at xs) (rw (length-drop at xs) (omega arith))

shows-unit : {o u : List ℕ} {d : Delivery} {t : Tally} {h o' u' : List ℕ} → Tallies d t → RoomFor o u d → Shows o u d h o' u' → (n : ℕ) (x : List ℕ)
    (k : ℕ) → length x ≡ k → Shows o u (finished d n x) h (written o' t.octets x) (written u' (3 * t.units) (listed n t.octets k))
shows-unit {o} {u} {d} w room v n x k e = record {
  held = v.held;
  output = rw (v.output, w.octets) (written_next o d.octets x room.output);
  units = rw (v.units, w.octets, w.units, ← w.even, ← e) (written_next u d.units (listed n (length d.octets) (length x)) room.units);
}

module _ {c : Channel} {p octets count : ℕ} {x : List ℕ} {held output units : Slice} where
  pub takes-unit : c.segmentable ≡ false → held.exit.now ≡ held.entry.now → output.exit.now ≡ written output.entry.now octets x
      → units.exit.now ≡ written units.entry.now (3 * count) (listed c.number.0 octets (length x)) → Takes c p octets count x held output units
  takes-unit g h o u = record {
    more = λ {d = d} e w room v.
        let on : channel_at d.channels p ≡ c = rw w.channels at e in
        let f : (channel_at d.channels p).segmentable ≡ false = ap (λ (c : Channel). c.segmentable) on ∙ g in
        let y = shows-unit w room v c.number.0 x (length x) refl in
        record { held = rw f (h ∙ y.held); output = rw f (o ∙ y.output); units = rw (f, on) (u ∙ y.units) };
  }

-- ---- the closing mark

pub closed_tallies : (d : Delivery) (t : Tally) (p : ℕ) → Tallies d t → Exact d p → Tallies (closed d p) (ends t p)
closed_tallies d t p w e =
    let x = held_of d.channels d.held p in
    record {
      channels = rw w.channels;
      octets = rw (w.channels, w.octets, length-append d.octets x, e);
      units = rw w.units;
      even = length-append d.units (listed (channel_at d.channels p).number.0 (length d.octets) (length x)) ∙ omega (arith, w.even);
    }

pub closes-least : (d : Delivery) (mark : Bool) (p : ℕ) → (length d.octets ≤ length (closes d mark p).octets)
    × (length d.units ≤ length (closes d mark p).units) × ((closes d mark p).count ≤ d.count + 1)
closes-least d false p = (le_refl _, le_refl _, omega arith)
closes-least d true p =
    let x = held_of d.channels d.held p in
    let u = listed (channel_at d.channels p).number.0 (length d.octets) (length x) in
    (omega (arith, length-append d.octets x), omega (arith, length-append d.units u), le_refl _)

pub leaving-shown : {o u : List ℕ} {d : Delivery} {t : Tally} {h o' u' : List ℕ} → Poured o u d t h o' u'
    → leaving {X = DemuxLent} t.units (record { channels = t.channels; held = h; output = o'; units = u' }) ≡ leaving d.count (writes d o u)
leaving-shown v = rw (v.tallies.units, v.tallies.channels, v.shows.held, v.shows.output, v.shows.units)

module _ {p : ℕ} {t : Tally} {held : SharedSlice} {output units : Slice} where
  pub finishes : length (held_of t.channels held.entry.now p) ≡ (channel_at t.channels p).held
      → output.exit.now ≡ written output.entry.now t.octets (held_of t.channels held.entry.now p)
      → units.exit.now
      ≡ written units.entry.now (3 * t.units) (listed (channel_at t.channels p).number.0 t.octets (channel_at t.channels p).held)
      → Finishes p t (ends t p) held output units
  finishes e o u = record {
    more = λ {d = d} room v.
        let w = v.tallies.channels in
        let x : Exact d p = rw (w, v.shows.held) at e in
        let y = shows-unit v.tallies room v.shows (channel_at d.channels p).number.0 (held_of d.channels d.held p) _ x in
        record {
          tallies = closed_tallies d t p v.tallies x;
          shows = record { held = v.shows.held; output = rw (o, w, v.shows.held) y.output; units = rw (u, w) y.units };
        };
  }
