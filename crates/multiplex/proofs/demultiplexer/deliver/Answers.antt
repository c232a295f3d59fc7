-- The checks come first, by value, so that a refusal finds everything as it came.
use Rattle.std.proofs.Common.{◌≡◌, cond, sym, ap, ◌∙◌, List, Bool, true, false, not, ◌&&◌, ℕ, ◌*◌, ◌≤◌, arith, length}
use Rattle.std.specs.Prelude.{Option, Some, None, Ok}
use Rattle.std.proofs.lemmas.Result.{err_from_is_err_and}
use Rattle.calls.specs.Refusal.{refusing}
use Rattle.calls.specs.declared.Refusal.TheVariants.{HeldTooLong}
use Rattle.channels.specs.Channels.{place_count, channel_at}
use Rattle.channels.specs.declared.Channels.{Channels}
use Rattle.multiplex.proofs.Closing.{within-laid, few-laid, Accepted, mark_near, mark_exact, mark_closable}
use Rattle.multiplex.proofs.Marking.{some_marked, none_marked, marked_right, marked_wrong}
use Rattle.multiplex.proofs.Pouring.{closed_tallies, closes-least, leaving-shown}
use Rattle.multiplex.proofs.Refusing.{small_octets, small_units, small-not, delivered-mark, delivered-full, delivered-small, delivered-all}
use Rattle.multiplex.proofs.Tallying.{took_all_grows}
use Rattle.multiplex.specs.Demultiplexer.{Delivery, DemuxLent, fits, nothing, took_all, delivery, too_small, delivered}
use Rattle.multiplex.specs.Pieces.{Piece, laid, last_place}
use Rattle.multiplex.specs.Tally.{marked, ends, closes, DryRun, Tallies, RoomFor, Exact, InRange, Poured, Deliverable}
use Rattle.multiplex.specs.declared.demultiplexer.Tally.{Tally}
use Rattle.table.specs.Table.{longest_payload}
use Rattle.multiplex.proofs.demultiplexer.deliver.Goals as goal
use Rattle.multiplex.proofs.demultiplexer.deliver.Goals.{In_ok-end, Joined-last, in-Some, in_default, in-Some-last, in_default-last, then-output-end-via-then-output-end, then-output-end-via-else-output-end+then-units-end}

-- ---- nothing refuses the pieces

record Fine (s : Channels) (h ps ls xs : List ℕ) (mark : Bool) : Type 0 where
  sixteen : length s.at ≡ place_count
  given : Deliverable ps ls xs h
  fit : fits s (laid ps ls) ≡ true
  right : (mark && not (channel_at s (last_place (laid ps ls))).segmentable) ≡ false

module _ {s : Channels} {h ps ls xs : List ℕ} {mark : Bool} (f : Fine s h ps ls xs mark) where
  abbrev l : List Piece
  l = laid ps ls

  abbrev all : Delivery
  all = took_all (nothing s h) l xs

  abbrev whole : Delivery
  whole = closes all mark (last_place l)

  abbrev lent : (o u : List ℕ) → DemuxLent
  lent o u = record { channels = s; held = h; output = o; units = u }

  accepted : Accepted s h mark l xs
  accepted = record {
    sixteen = f.sixteen;
    whole = f.given.whole;
    placed = within-laid ps ls f.given.pieces.within;
    enough = f.given.enough;
    fit = f.fit;
    right = f.right;
  }

  few : (length all.octets ≤ longest_payload) × (all.count ≤ longest_payload)
  few =
      let m = took_all_grows (nothing s h) l xs f.given.enough in
      let k = few-laid ps ls in
      (omega (arith, m.octets_most, f.given.enough, f.given.short), omega (arith, m.count_most, k, f.given.pieces.few))

  small : {t : Tally} → Tallies all t → mark ≡ true → InRange t (last_place l)
  small v m = record {
    near = mark_near accepted m;
    octets = omega (arith, v.octets, few.0);
    units = omega (arith, v.units, few.1);
  }

  exact : mark ≡ true → Exact all (last_place l)
  exact = mark_exact accepted

  lacking : (o u : List ℕ) → too_small whole o u ≡ true → delivered (lent o u) mark l xs ≡ refusing (lent o u) 3
  unfolding delivery
  lacking o u = delivered-small (lent o u) mark l xs f.right f.fit

  -- ---- what is lent has room for them

  module _ {t : Tally} (e : Tallies whole t) where
    close-units : 3 * t.units ≡ length whole.units
    close-units = omega (arith, e.units, e.even)

    close-most : t.units ≤ 256
    close-most = omega (arith, e.units, (closes-least all mark (last_place l)).2, few.1)

    module _ {o u : List ℕ} (a : t.octets ≤ length o) (b : 3 * t.units ≤ length u) where
      room : RoomFor o u whole
      room = record { output = omega (arith, e.octets, a); units = omega (arith, close-units, b) }

      room-all : RoomFor o u all
      room-all =
          let m = closes-least all mark (last_place l) in
          record { output = omega (arith, m.0, room.output); units = omega (arith, m.1, room.units) }

-- ---- what the checks have shown

record Checked (s : Channels) (h ps ls xs : List ℕ) (mark : Bool) (last : Option ℕ) (end : Tally) : Type 0 where
  full : length s.at ≡ place_count
  given : Deliverable ps ls xs h
  right : Ok last ≡ marked s mark ps
  dry : DryRun s (laid ps ls) (Some end)

module _ {s : Channels} {h ps ls xs : List ℕ} {mark : Bool} {last : Option ℕ} {end : Tally} (k : Checked s h ps ls xs mark last end) where
  abbrev q : ℕ
  q = last_place (laid ps ls)

  -- the mark is right, and this is what it ends
  ending : ((mark && not (channel_at s q).segmentable) ≡ false) × (last ≡ cond mark (Some q) None)
  ending = marked_right s mark ps ls k.given.pieces.same k.full last (sym k.right)

  fine : Fine s h ps ls xs mark
  fine = record { sixteen = k.full; given = k.given; fit = sym k.dry.0; right = ending.0 }

  tallied : Tallies (all fine) end
  tallied = k.dry.1 h xs k.given.enough

  -- the place that it ends is the last
  some : (p : ℕ) → last ≡ Some p → (mark ≡ true) × (p ≡ q)
  some p e = some_marked q p mark (sym ending.1 ∙ e)

  none : last ≡ None → mark ≡ false
  none e = none_marked q mark (sym ending.1 ∙ e)

  closed-some : (p : ℕ) → last ≡ Some p → Tallies (whole fine) (ends end p)
  closed-some p e = let m = some p e in rw (m.0, m.1) (closed_tallies (all fine) end q tallied (exact fine m.0))

  closed-none : last ≡ None → Tallies (whole fine) end
  closed-none e = rw (none e) tallied

at_end : (c : In_ok-end) → let a = c.args in Checked a.s.now a.held.now a.places.now a.lengths.now a.payload.now a.mark c.in_ok-last.last c.in_ok-end.end
at_end c = let e : c.count_all.result ≡ Some c.in_ok-end.end = grind arith in record {
  full = c.marked_place.ensures.full;
  given = c.requires;
  right = sym c.in_ok-last.was ∙ c.marked_place.ensures.place;
  dry = rw e at c.count_all.ensures;
}

at_join : (c : Joined-last) → let a = c.args in Checked a.s.now a.held.now a.places.now a.lengths.now a.payload.now a.mark c.match-last.last c.in_ok-end.end
at_join c =
    let e : c.count_all.result ≡ Some c.in_ok-end.end = grind arith in
    let same : c.match-last.last ≡ c.in_ok-last.last = elim c.match-last.branch [ in-Some w ↦ w.last-is ∙ sym w.in-Some.is | in_default w ↦ w.last-is ] in
    record {
      full = c.marked_place.ensures.full;
      given = c.requires;
      right = ap Ok same ∙ sym c.in_ok-last.was ∙ c.marked_place.ensures.place;
      dry = rw e at c.count_all.ensures;
    }

-- .. and with the unit that the mark ends
closed : (c : Joined-last) → Tallies (whole (fine (at_join c))) c.match-last.end
closed c = elim c.match-last.branch [
  | in-Some w ↦ rw (w.end-is, w.close.ensures) (closed-some (at_join c) w.in-Some.p w.last-is)
  | in_default w ↦ rw w.end-is (closed-none (at_join c) (w.last-is ∙ w.in_default.is))
]

-- ---- the answers

pub returns-in_err-last : goal.returns-in_err-last
returns-in_err-last c =
    let a = c.args in
    let p = err_from_is_err_and c.from_residual.result c.from_residual.ensures.1 in
    let w = marked_wrong a.s.now a.mark a.places.now a.lengths.now c.requires.pieces.same c.marked_place.ensures.full c.in_err-last.field-0.0 (sym c.marked_place.ensures.place ∙ c.in_err-last.was) in
    rw (p.1, p.2, w.1)
    (sym (delivered-mark (record { channels = a.s.now; held = a.held.now; output = a.output.now; units = a.units.now }) a.mark
    (laid a.places.now a.lengths.now) a.payload.now w.0))

pub returns-in_err-end : goal.returns-in_err-end
returns-in_err-end c =
    let a = c.args in
    let p = err_from_is_err_and c.from_residual-in_err-end.result c.from_residual-in_err-end.ensures.1 in
    let none : c.count_all.result ≡ None = grind arith in
    let e : c.in_err-end.field-0.0 ≡ HeldTooLong = grind arith in
    let full = rw none at c.count_all.ensures in
    let w = marked_right a.s.now a.mark a.places.now a.lengths.now c.requires.pieces.same c.marked_place.ensures.full c.in_ok-last.last (sym c.marked_place.ensures.place ∙ c.in_ok-last.was) in
    rw (p.1, p.2, e)
    (sym (delivered-full (record { channels = a.s.now; held = a.held.now; output = a.output.now; units = a.units.now }) a.mark
    (laid a.places.now a.lengths.now) a.payload.now w.0 (sym full)))

pub close-requires : goal.close-requires
close-requires c =
    let k = at_end (goal.at.close-requires c).In_ok-end in
    let m = some k c.in-Some.p c.in-Some.is in
    rw m.1 (small (fine k) (tallied k) m.0)

pub overflow_mul-end : goal.overflow_mul-end
overflow_mul-end c =
    let j = (goal.at.overflow_mul-end c).Joined-last in
    omega (arith, close-most (fine (at_join j)) (closed j))

pub returns-then-output-end : goal.returns-then-output-end
returns-then-output-end c =
    let a = c.args in
    let j = (goal.at.returns-then-output-end c).Joined-last in
    let f = fine (at_join j) in
    let e = closed j in
    sym (lacking f _ _ (elim c.then-output-end.branch [
      | then-output-end-via-then-output-end w ↦ small_octets (whole f) a.output.now a.units.now (omega (arith, e.octets, w.if-output-end.true))
      | then-output-end-via-else-output-end+then-units-end w ↦ small_units (whole f) a.output.now a.units.now (omega (arith, e.octets, w.if-output-end.false))
          (omega (arith, close-units f e, w.if-units-end.true))
    ]))

pub finish-requires : goal.finish-requires
finish-requires c =
    let j = (goal.at.finish-requires c).Joined-last in
    let f = fine (at_join j) in
    let m = some (at_join j) c.in-Some-last.p c.in-Some-last.is in
    let v = c.pour-tally.ensures.tallies in
    let kept = c.pour-tally.auto in
    rw m.1
    (mark_closable (accepted f) m.0 v (small f v m.0) (room f (closed j) c.if-output-end.false c.if-units-end.false) (kept.held ∙ c.requires.whole) kept.output
    kept.units)

pub returns : goal.returns
unfolding delivery
returns c =
    let a = c.args in
    let j = (goal.at.returns c).Joined-last in
    let k = at_join j in
    let f = fine k in
    let r = room f (closed j) c.if-output-end.false c.if-units-end.false in
    let wrote : Poured a.output.now a.units.now (whole f) c.match-last-2.tally c.pour-tally.new.held c.match-last-2.output c.match-last-2.units =
    elim c.match-last-2.branch [
      | in-Some-last w ↦
          let m = some k w.in-Some-last.p w.in-Some-last.is in
          rw (w.tally-is, w.output-is, w.units-is, m.0)
          (rw m.1 at (w.finish.ensures.more (room-all f (closed j) c.if-output-end.false c.if-units-end.false) c.pour-tally.ensures))
      | in_default-last w ↦ rw (w.tally-is, w.output-is, w.units-is, none k w.in_default-last.is) c.pour-tally.ensures
    ] in
    leaving-shown wrote
    ∙ sym
    (delivered-all (lent f a.output.now a.units.now) a.mark (l f) a.payload.now f.right f.fit
    (small-not (whole f) a.output.now a.units.now r.output r.units))
