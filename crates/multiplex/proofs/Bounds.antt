-- Every call keeps the state sound.
--
--   walk_bounded      what a walk leaves is within its bounds
--   always-sound      whatever is called, the state is sound
--
-- Assumes nothing.
use mathlib.Core.Path.{◌≡◌, refl, sym, ap, subst}
use mathlib.Core.Bool.{Bool, true, false, cond}
use mathlib.Core.List.{List, [], ◌∷◌}
use Prim.Native.Nat.{ℕ, ◌≤◌, ◌<◌}
use native.Mathlib.Omega.{arith}
use borrow.Author.Tests.{ltb-true}
use lib.ListN.{length, take}
use Rattle.octets.specs.Tests.{never}
use Rattle.calls.specs.Refusal.{Told, refused, told, leaving}
use Rattle.calls.proofs.Laws.{checked_leaves, checked_keeps}
use Rattle.table.specs.Slots.{Slot, payload_slots}
use Rattle.table.specs.Table.{entry_of}
use Rattle.table.proofs.Laws.{fresh_entries, replaced_entries}
use Rattle.adaptation.specs.AL2Claims.{NumbersInRange}
use Rattle.channels.specs.declared.Channel.{Channel}
use Rattle.channels.specs.declared.Channels.{Channels}
use Rattle.channels.specs.Channels.{place_count, place_octets, vacant, place_of, is_in, channel_at, put, holding}
use Rattle.channels.specs.Claims.{Orderly, Seated, Bounded, KeepsBounds}
use Rattle.channels.proofs.Laws.{seated-kept, seated-put, waits-put, numbers-put, bounded-put, start_bounded, calls_keep_bounds}
use Rattle.multiplex.specs.Pieces.{Piece, placed, last_place}
use Rattle.multiplex.specs.Demultiplexer as demux
use Rattle.multiplex.specs.Demultiplexer.{Delivery}
use Rattle.multiplex.specs.Multiplexer as mux
use Rattle.multiplex.specs.Calls as calls
use Rattle.multiplex.specs.Calls.{Link, Call, ours, called_by, called, led, begun, Sound, AlwaysSound}
use Rattle.multiplex.proofs.Theorems.{order-kept}

-- the bounds that have nothing to do with what is held: what waits, AL2's numbers, and the seats
record Kept (s : Channels) : Type 0 where
  waits : (p : ℕ) → (channel_at s p).waiting ≤ place_octets
  numbers : (p : ℕ) → NumbersInRange (channel_at s p).numbers
  seated : Seated s

-- ---- the multiplexer: what is sent leaves what waits

-- one slot, where `rest` is what the walk over the others keeps
module _ (h w : List ℕ) (y : Slot) (l : List Slot) (s : Channels) (b : Bounded s h w) where
  abbrev p : ℕ
  p = place_of s y.channel

  abbrev c : Channel
  c = channel_at s p

  abbrev gone : Channels
  gone = mux.left s p (mux.moved c y.octets)

  module _ (rest : Bounded gone h w → Bounded (mux.walked gone l).channels h w) where
    leaves : p < place_count → Bounded gone h w
    leaves i =
        bounded-put s h w b p _ i (b.orderly.bounded p) (b.orderly.whole p) (omega arith) (b.numbers p)
        (seated-put s b.orderly.full b.seated y.channel _ i refl)

    visited : (e g : Bool) → p < place_count
        → Bounded (cond e (mux.stopped s true)
        (cond g (mux.sending (mux.piece_at s p y.octets) (mux.walked gone l)) (mux.ending (mux.piece_at s p y.octets) gone c.segmentable))).channels h w
    visited true g i = b
    visited false true i = rest (leaves i)
    visited false false i = leaves i

    reached : (e : Bool) → is_in s y.channel ≡ e
        → Bounded (cond e (mux.visit s p y.octets (λ r. mux.walked r l)) (mux.stopped s false)).channels h w
    reached true e = visited (mux.is_blocked c y.octets) (mux.goes_on c y.octets) (ltb-true p place_count e)
    reached false e = b

pub walk_bounded : (h w : List ℕ) (l : List Slot) (s : Channels) → Bounded s h w → Bounded (mux.walked s l).channels h w
unfolding mux.walked
walk_bounded h w [] s b = b
walk_bounded h w (y ∷ l) s b = reached h w y l s b (λ k. walk_bounded h w l (gone h w y l s b) k) (is_in s y.channel) refl

multiplexing : (x : Link) → Bounded x.channels x.held x.waiting → (c room : ℕ) (payload : List ℕ)
    → Bounded (mux.multiplexed (record { channels = x.channels; payload = payload }) x.waiting x.table c room).left.channels x.held x.waiting
unfolding mux.multiplexed
multiplexing x b c room payload =
    let lent : mux.MuxLent = record { channels = x.channels; payload = payload } in
    checked_keeps lent (mux.multiplex_tests lent x.table c room) (λ (r : mux.MuxLent). Bounded r.channels x.held x.waiting) _ b
    λ e. walk_bounded x.held x.waiting (payload_slots (entry_of x.table c) room) x.channels b

-- ---- the demultiplexer: what waits is not touched, nor any seat

kept-held : (s : Channels) (p k : ℕ) → Kept s → ((channel_at s p).«open» ≡ false → holding (channel_at s p) k ≡ vacant) → Kept (put s p (holding (channel_at s p) k))
kept-held s p k w f = record {
  waits = waits-put s p (holding (channel_at s p) k) w.waits (w.waits p);
  numbers = numbers-put s p (holding (channel_at s p) k) w.numbers (w.numbers p);
  seated = seated-kept s p (holding (channel_at s p) k) w.seated refl f;
}

kept-took : (l : List Piece) (r : Delivery) (xs : List ℕ) → Kept r.channels → Kept (demux.took_all r l xs).channels
unfolding demux.took_all
kept-took [] r xs w = w
kept-took (q ∷ l) r xs w = kept-took l _ _ (by (channel_at r.channels q.place).segmentable refl)
  where
    by : (b : Bool) → (channel_at r.channels q.place).segmentable ≡ b
        → Kept (cond b (demux.joined r q.place (take q.octets xs))
        (demux.finished r (channel_at r.channels q.place).number.0 (take q.octets xs))).channels
    by true e =
        kept-held r.channels q.place _ w λ f.
        let g = ap (λ (c : Channel). c.segmentable) (w.seated.free q.place f) in
        never (cc)
    by false e = w

kept-delivery : (s : Channels) (held : List ℕ) (mark : Bool) (l : List Piece) (xs : List ℕ) → Kept s → Kept (demux.delivery s held mark l xs).channels
unfolding demux.delivery
kept-delivery s held true l xs w =
    let k = kept-took l (demux.nothing s held) xs w in
    kept-held (demux.took_all (demux.nothing s held) l xs).channels (last_place l) 0 k (λ f. ap (λ (c : Channel). holding c 0) (k.seated.free (last_place l) f))
kept-delivery s held false l xs w = kept-took l (demux.nothing s held) xs w

module _ (x : demux.DemuxLent) (t : List ℕ) (c : ℕ) (mark : Bool) (xs : List ℕ) where
  abbrev d : Delivery
  d = demux.delivery x.channels x.held mark (placed x.channels (payload_slots (entry_of t c) (length xs))) xs

  kept_demux : Kept x.channels → Kept (demux.demultiplexed x t c mark xs).left.channels
  unfolding demux.demultiplexed
  kept_demux w =
      checked_keeps x (demux.demultiplex_tests x t c mark xs) (λ (r : demux.DemuxLent). Kept r.channels)
      (leaving d.count (demux.writes d x.output x.units)) w
      λ e. kept-delivery x.channels x.held mark (placed x.channels (payload_slots (entry_of t c) (length xs))) xs w

  refused_demux : (k : ℕ) → (demux.demultiplexed x t c mark xs).answer ≡ refused k → (demux.demultiplexed x t c mark xs).left ≡ x
  unfolding demux.demultiplexed
  refused_demux k e = checked_leaves x (demux.demultiplex_tests x t c mark xs) d.count (demux.writes d x.output x.units) k e

  orderly_demux : Orderly x.channels x.held → (r : Told ℕ) → (demux.demultiplexed x t c mark xs).answer ≡ r
      → Orderly (demux.demultiplexed x t c mark xs).left.channels (demux.demultiplexed x t c mark xs).left.held
  orderly_demux o (refused k) e = subst (λ (y : demux.DemuxLent). Orderly y.channels y.held) (sym (refused_demux k e)) o
  orderly_demux o (told k) e =
      order-kept x (demux.demultiplexed x t c mark xs).left t c mark xs k o
      (ap (λ (a : Told ℕ). record { answer = a; left = (demux.demultiplexed x t c mark xs).left }) e)

-- ---- any call

sound-after : (x : Link) (c : Call) → Sound x → Sound (called x c).left
unfolding called_by
sound-after x c h = by c
  where
    keeps : KeepsBounds x.channels x.held x.waiting
    keeps = calls_keep_bounds x.channels x.held x.waiting h.bounded

    by : (c : Call) → Sound (called_by ours x c).left
    by (calls.opening n g) = record { bounded = keeps.opening n g; entries = h.entries }
    by (calls.closing n) = record { bounded = keeps.closing n; entries = h.entries }
    by (calls.resetting n) = record { bounded = keeps.resetting n; entries = h.entries }
    by (calls.posting n u) = record { bounded = keeps.posting n u; entries = h.entries }
    by (calls.replacing c e) = record { bounded = h.bounded; entries = replaced_entries x.table e c h.entries }
    by (calls.demultiplexing c mark xs output units) =
        let y : demux.DemuxLent = record { channels = x.channels; held = x.held; output = output; units = units } in
        let k = kept_demux y x.table c mark xs (record { waits = h.bounded.waits; numbers = h.bounded.numbers; seated = h.bounded.seated }) in
        record {
          bounded = record {
            orderly = orderly_demux y x.table c mark xs h.bounded.orderly (demux.demultiplexed y x.table c mark xs).answer refl;
            seated = k.seated;
            waits = k.waits;
            numbers = k.numbers;
            space = h.bounded.space;
          };
          entries = h.entries;
        }
    by (calls.multiplexing c room payload) = record { bounded = multiplexing x h.bounded c room payload; entries = h.entries }
    by (calls.sending n numbered u out) = record { bounded = keeps.sending n numbered u out; entries = h.entries }
    by (calls.taking n numbered w) = record { bounded = keeps.taking n numbered w; entries = h.entries }

sound-led : (cs : List Call) (x : Link) → Sound x → Sound (led x cs)
unfolding led
sound-led [] x h = h
sound-led (c ∷ cs) x h = sound-led cs (called x c).left (sound-after x c h)

pub always-sound : AlwaysSound
always-sound h w eh ew cs = sound-led cs (begun h w) (record { bounded = start_bounded h w eh ew; entries = fresh_entries })
