-- The table lays the slots down, each channel's place is found, and the pieces are delivered.
use Rattle.std.proofs.Common.{◌≡◌, refl, sym, ap, ◌∙◌, List, ◌++◌, map, Bool, true, ℕ, ◌≤◌, ◌<◌, arith, length, take, drop, take_at}
use Rattle.std.proofs.Math.ListN.{length-map}
use Rattle.channels.specs.Channels.{place_of, all_open}
use Rattle.channels.specs.declared.Channels.{Channels}
use Rattle.multiplex.proofs.Laying.{Slotted, lays-slotted}
use Rattle.multiplex.proofs.Sorting.{Found, slotted-found, sorted-long, sorted-closed, sorted_all}
use Rattle.multiplex.specs.Demultiplexer.{DemuxLent, delivered}
use Rattle.multiplex.specs.Pieces.{Piece}
use Rattle.table.specs.declared.walk.Laid.{Laid}
use Rattle.table.specs.Slots.{Slot, payload_slots, octets_of, numbers_of}
use Rattle.table.specs.Table.{entry_of}
use Rattle.multiplex.proofs.demultiplexer.sort.Goals as goal
use Rattle.multiplex.proofs.demultiplexer.sort.Goals.{Start, After-payload_slots-laid}

-- ---- what the call is given

module _ (c : Start) where
  abbrev xs : List ℕ
  xs = c.args.payload.now

  abbrev l : List Slot
  l = payload_slots (entry_of c.args.table.now c.args.code.0) (length xs)

  abbrev lent : DemuxLent
  lent = record { channels = c.args.s.now; held = c.args.held.now; output = c.args.output.now; units = c.args.units.now }

-- ---- the slots that the table has laid down

slotted : (c : After-payload_slots-laid)
    → let a = c.args in let r = c.payload_slots-laid in
    Slotted (payload_slots (entry_of a.table.now a.code.0) (length a.payload.now)) (length a.payload.now) r.result r.new.channels r.new.lengths
slotted c =
    let a = c.args in
    let r = c.payload_slots-laid in
    lays-slotted (entry_of a.table.now a.code.0) (length a.payload.now) c.requires.0 r.result _ _ r.new.channels r.new.lengths refl refl r.ensures

module _ {l : List Slot} {m : ℕ} {r : Laid} {cs ls : List ℕ} (k : Slotted l m r cs ls) where
  in-cs : r.count ≤ length cs
  in-cs = omega (arith, k.count, k.few, k.for_channels)

  in-ls : r.count ≤ length ls
  in-ls = omega (arith, k.count, k.few, k.for_lengths)

  -- ---- the channels that were found

  module _ (s : Channels) {ns : List ℕ} (e : ns ≡ map (place_of s) (take r.count cs)) where
    found-are : ns ≡ map (place_of s) (numbers_of l)
    found-are = e ∙ ap (map (place_of s)) k.channels

    found-length : length ns ≡ r.count
    found-length =
        ap length found-are ∙ length-map (numbers_of l) (place_of s) ∙ length-map l (λ (x : Slot). x.channel)
        ∙ sym k.count

    places-are : take r.count (ns ++ drop r.count cs) ≡ ns
    places-are = take_at ns (drop r.count cs) r.count found-length

    module _ {all : Bool} (w : all ≡ all_open s (take r.count cs)) where
      open_is : all ≡ all_open s (numbers_of l)
      open_is = w ∙ ap (all_open s) k.channels

      found : all ≡ true → Found s l m (take r.count (ns ++ drop r.count cs)) (take r.count ls)
      found h = slotted-found s l m r cs ls k (take r.count (ns ++ drop r.count cs)) (places-are ∙ found-are) (sym open_is ∙ h)

-- ---- the answers

pub returns-then-laid-gt0 : goal.returns-then-laid-gt0
returns-then-laid-gt0 c =
    let s = (goal.at.returns-then-laid-gt0 c).Start in
    let more : octets_of (l s) < length (xs s) = omega (arith, c.if-laid-gt0.true, c.payload_slots-laid.ensures.left) in
    sym (sorted-long (lent s) c.args.mark (xs s) (l s) more)

pub returns-then-not-find : goal.returns-then-not-find
returns-then-not-find c =
    let s = (goal.at.returns-then-not-find c).Start in
    let k = slotted (goal.at.returns-then-not-find c).After-payload_slots-laid in
    let enough : length (xs s) ≤ octets_of (l s) = omega (arith, c.if-laid-gt0.false, c.payload_slots-laid.ensures.left) in
    sym (sorted-closed (lent s) c.args.mark (xs s) (l s) enough (sym (open_is k c.args.s.now c.find.ensures.1 c.find.ensures.0) ∙ c.if-not-find.true))

pub deliver-requires : goal.deliver-requires
deliver-requires c =
    let k = slotted (goal.at.deliver-requires c).After-payload_slots-laid in
    let f = found k c.args.s.now c.find.ensures.1 c.find.ensures.0 c.if-not-find.false in
    record { pieces = f.places; enough = f.most; short = c.requires.0; whole = c.requires.2 }

pub returns : goal.returns
returns c =
    let s = (goal.at.returns c).Start in
    let k = slotted (goal.at.returns c).After-payload_slots-laid in
    let m = c.args.mark in
    let e = c.if-not-find.false in
    let enough : length (xs s) ≤ octets_of (l s) = omega (arith, c.if-laid-gt0.false, c.payload_slots-laid.ensures.left) in
    c.deliver.ensures
    ∙ ap (λ (q : List Piece). delivered (lent s) m q (xs s)) (found k c.args.s.now c.find.ensures.1 c.find.ensures.0 e).pieces
    ∙ sym (sorted_all (lent s) m (xs s) (l s) enough (sym (open_is k c.args.s.now c.find.ensures.1 c.find.ensures.0) ∙ e))
