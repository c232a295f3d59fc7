-- What is true of a payload that refusals 7 and 8 leave: what is held stays within its place, so that the closing mark ends a unit of at
-- most 1,024 octets.
--
--   Placed l           every piece's place is one of the 16
--   within-laid        .. where the places are
--   few-laid           there are no more pieces than places
--   last-laid          the last place, as the code finds it
--   Formed s d         the delivery d has as many places as there are, and as many octets for what is held, and each channel's kind is that of s
--   took_all_formed     the pieces leave it so, and the last place holds at most 1,024 octets, where its channel is segmentable
--   Accepted           what refusals 7 and 8 leave, and what the state's form says
--   mark_near          .. then the mark is on one of the 16 places
--   mark_exact         .. which holds as many octets as it says
--   mark_closable      .. and where there is room for the delivery, its unit can be written
--
-- Assumes nothing.
use mathlib.Core.Path.{◌≡◌, refl, ◌∙◌}
use mathlib.Core.List.{List, [], ◌∷◌}
use mathlib.Core.Bool.{Bool, true, false, not, ◌&&◌}
use Prim.Native.Nat.{ℕ, zero, suc, ◌+◌, ◌*◌, ◌-◌, ◌≤◌, ◌<◌, zero-le}
use native.Mathlib.Numerals.{sub-one}
use native.Mathlib.Omega.{arith}
use borrow.Author.Tests.{not-false}
use lib.ListN.{length, get_or, set, take, drop, length-set, length-drop, get_or-eq_default}
use lib.Seq.{length-take-le, get_or-set_same}
use Rattle.octets.specs.Written.{written-length}
use Rattle.octets.specs.Tests.{never}
use Rattle.channels.specs.declared.Channel.{Channel}
use Rattle.channels.specs.declared.Channels.{Channels}
use Rattle.multiplex.specs.declared.demultiplexer.Tally.{Tally}
use Rattle.channels.specs.Channels.{vacant, channel_at, holding, place_count, all_octets, place_octets}
use Rattle.channels.proofs.Laws.{segmentable-place}
use Rattle.multiplex.specs.Pieces.{paired, Piece, laid, last_place, total}
use Rattle.multiplex.specs.Demultiplexer.{Delivery, took, took_all, has_room, fits, nothing}
use Rattle.multiplex.specs.Tally.{closes, Tallies, RoomFor, Exact, InRange, Closable}
use Rattle.multiplex.proofs.Pouring.{closed_tallies}
use Rattle.multiplex.proofs.Tallying.{room-held, took_ind, took-channels, fits-split}

-- ---- the places

unfoldable pub Placed : List Piece → Type 0
Placed [] = Unit {0}
Placed (q ∷ l) = (q.place < place_count) × Placed l

pub within-laid : (ps ls : List ℕ) → ((j : ℕ) → j < length ps → get_or ps j 0 < place_count) → Placed (laid ps ls)
unfolding Placed paired
within-laid [] ls w = tt
within-laid (p ∷ ps) [] w = tt
within-laid (p ∷ ps) (n ∷ ls) w = (w 0 (omega arith), within-laid ps ls (λ j h. w (suc j) (omega arith)))

pub few-laid : (ps ls : List ℕ) → length (laid ps ls) ≤ length ps
unfolding paired
few-laid [] ls = zero-le
few-laid (p ∷ ps) [] = zero-le
few-laid (p ∷ ps) (n ∷ ls) = omega (arith, few-laid ps ls)

pub last-laid : (ps ls : List ℕ) → length ps ≡ length ls → last_place (laid ps ls) ≡ get_or ps (length ps - 1) place_count
unfolding paired last_place
last-laid [] ls e = refl
last-laid (p ∷ ps) [] e = absurd (omega arith)
last-laid (p ∷ []) (n ∷ ls) e = refl
last-laid (p ∷ q ∷ ps) (n ∷ []) e = absurd (omega arith)
last-laid (p ∷ q ∷ ps) (n ∷ m ∷ ls) e =
    last-laid (q ∷ ps) (m ∷ ls) (omega arith) ∙ rw (sub-one (suc (length ps)), sub-one (suc (suc (length ps))))

-- ---- what pieces leave as it was

pub record Formed (s : Channels) (d : Delivery) : Type 0 where
  pub held : length d.held ≡ all_octets
  pub places : length d.channels.at ≡ place_count
  pub kind : (k : ℕ) → (channel_at d.channels k).segmentable ≡ (channel_at s k).segmentable

set_segmentable : (l : List Channel) (p : ℕ) (c : Channel) (k : ℕ) → c.segmentable ≡ (get_or l p vacant).segmentable
    → (get_or (set l p c) k vacant).segmentable ≡ (get_or l k vacant).segmentable
set_segmentable [] p c k e = refl
set_segmentable (x ∷ l) zero c zero e = e
set_segmentable (x ∷ l) zero c (suc k) e = refl
set_segmentable (x ∷ l) (suc p) c zero e = refl
set_segmentable (x ∷ l) (suc p) c (suc k) e = set_segmentable l p c k e

module _ (s : Channels) (d : Delivery) (w : Formed s d) (p : ℕ) (x : List ℕ) (near : p < place_count) (room : has_room d.channels p (length x) ≡ true) where
  abbrev c : Channel
  c = channel_at d.channels p

  abbrev more : Channel
  more = holding c (c.held + length x)

  took_formed : Formed s (took d p x)
  took_formed =
      took_ind d p x (Formed s)
      (λ e. record {
        held = written-length d.held (place_octets * p + c.held) x (omega (arith, room-held c (length x) room e, w.held)) ∙ w.held;
        places = length-set d.channels.at p more ∙ w.places;
        kind = λ k. set_segmentable d.channels.at p more k refl ∙ w.kind k;
      })
      (λ e. record { held = w.held; places = w.places; kind = w.kind })

  took-within : (channel_at s p).segmentable ≡ true → (channel_at (took d p x).channels p).held ≤ place_octets
  took-within g =
      took_ind d p x (λ r. (channel_at r.channels p).held ≤ place_octets)
      (λ e. rw (get_or-set_same d.channels.at p more vacant (omega (arith, w.places))) (room-held c (length x) room e))
      (λ e. let f = w.kind p in never (cc))

module _ (d : Delivery) (q : Piece) (l : List Piece) (xs : List ℕ) (f : fits d.channels (q ∷ l) ≡ true) (h : total (q ∷ l) ≤ length xs) where
  abbrev x : List ℕ
  x = take q.octets xs

  x-length : length x ≡ q.octets
  unfolding total
  x-length = length-take-le q.octets xs (omega arith)

  first-room : has_room d.channels q.place (length x) ≡ true
  first-room = rw x-length (fits-split d.channels q.place q.octets refl f).0

  rest-fits : fits (took d q.place x).channels l ≡ true
  rest-fits = rw (took-channels d q.place x, x-length) (fits-split d.channels q.place q.octets refl f).1

  rest-enough : total l ≤ length (drop q.octets xs)
  unfolding total
  rest-enough = omega (arith, length-drop q.octets xs)

pub took_all_formed : (s : Channels) (d : Delivery) (l : List Piece) (xs : List ℕ) → fits d.channels l ≡ true → Placed l → total l ≤ length xs → Formed s d
    → Formed s (took_all d l xs) × ((channel_at s (last_place l)).segmentable ≡ true → (channel_at (took_all d l xs).channels (last_place l)).held ≤ place_octets)
unfolding Placed took_all last_place
took_all_formed s d [] xs f w h k = (k, λ g. rw (get_or-eq_default d.channels.at vacant {n = place_count} (omega (arith, k.places))) zero-le)
took_all_formed s d (q ∷ []) xs f w h k =
    let r = first-room d q [] xs f h in
    (took_formed s d k q.place (x d q [] xs f h) w.0 r, took-within s d k q.place (x d q [] xs f h) w.0 r)
took_all_formed s d (q ∷ r ∷ l) xs f w h k =
    took_all_formed s (took d q.place (x d q (r ∷ l) xs f h)) (r ∷ l) (drop q.octets xs) (rest-fits d q (r ∷ l) xs f h) w.1
    (rest-enough d q (r ∷ l) xs f h) (took_formed s d k q.place (x d q (r ∷ l) xs f h) w.0 (first-room d q (r ∷ l) xs f h))

-- ---- the whole payload

pub record Accepted (s : Channels) (h : List ℕ) (mark : Bool) (l : List Piece) (xs : List ℕ) : Type 0 where
  pub sixteen : length s.at ≡ place_count
  pub whole : length h ≡ all_octets
  pub placed : Placed l
  pub enough : total l ≤ length xs
  pub fit : fits s l ≡ true
  pub right : (mark && not (channel_at s (last_place l)).segmentable) ≡ false

module _ {s : Channels} {h : List ℕ} {mark : Bool} {l : List Piece} {xs : List ℕ} (a : Accepted s h mark l xs) (m : mark ≡ true) where
  abbrev d : Delivery
  d = took_all (nothing s h) l xs

  abbrev p : ℕ
  p = last_place l

  marked : (channel_at s p).segmentable ≡ true
  marked = not-false (channel_at s p).segmentable (rw m at a.right)

  all : Formed s d × ((channel_at s p).segmentable ≡ true → (channel_at d.channels p).held ≤ place_octets)
  all = took_all_formed s (nothing s h) l xs a.fit a.placed a.enough (record { held = a.whole; places = a.sixteen; kind = λ k. refl })

  pub mark_near : p < place_count
  mark_near = segmentable-place s p a.sixteen marked

  mark-held : (channel_at d.channels p).held ≤ place_octets
  mark-held = all.1 marked

  pub mark_exact : Exact d p
  mark_exact =
      length-take-le (channel_at d.channels p).held (drop (place_octets * p) d.held)
      (omega (arith, mark_near, mark-held, length-drop (place_octets * p) d.held, all.0.held))

  pub mark_closable : {t : Tally} {o u h' o' u' : List ℕ} → Tallies d t → InRange t p → RoomFor o u (closes d mark p) → length h' ≡ all_octets
      → length o' ≡ length o → length u' ≡ length u → Closable t p h' o' u'
  mark_closable {t} v small room e f g =
      let y = closed_tallies d t p v mark_exact in
      let r = rw m at room in
      record {
        small = small;
        within = rw v.channels mark-held;
        whole = e;
        output = omega (arith, y.octets, r.output);
        units = omega (arith, y.units, y.even, r.units);
      }
