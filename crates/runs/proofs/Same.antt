-- Channels that have their seats alike, and one thing more at each place.
--
--   map-set           what is put at a place, and what f gives of it
--   Same f s r        seats alike, and what f gives of the channel at each place
--   same_self, same_back, same_after   of channels and themselves, the other way about, and one after another
--   same_at           at a place
--   same-put          a channel put back with its seat, and what f gives of it
--   same_puts         .. at both
--   held_count, waiting_count   how many octets a channel holds, and how many wait
--   same-walk         a walk leaves all but what waits
--   same-delivery     a delivery leaves all but what is held
--
-- Assumes nothing.
use mathlib.Core.Path.{◌≡◌, refl, sym, ap, ap₂, ◌∙◌}
use mathlib.Core.Bool.{Bool}
use mathlib.Core.List.{List, [], ◌∷◌, map}
use Prim.Native.Nat.{ℕ, zero, suc}
use lib.ListN.{get_or, set, take, drop, get_or-map}
use lib.Seq.{map-set_same}
use Rattle.table.specs.Slots.{Slot}
use Rattle.channels.specs.declared.Channel.{Channel}
use Rattle.channels.specs.declared.Channels.{Channels}
use Rattle.channels.specs.Channels.{vacant, place_of, is_in, channel_at, put, holding, waiting}
use Rattle.channels.proofs.Laws.{Seat, seat, seats, seats-put}
use Rattle.multiplex.specs.Pieces.{Piece, last_place}
use Rattle.multiplex.specs.Demultiplexer.{Delivery, nothing, took, took_all, delivery}
use Rattle.multiplex.specs.Multiplexer.{Walk, is_blocked, goes_on, moved, left, walked}
use Rattle.calls.proofs.Laws.{by_test}

pub map-set : {A B : Type 0} (f : A → B) (l : List A) (i : ℕ) (a : A) → map f (set l i a) ≡ set (map f l) i (f a)
map-set f [] i a = refl
map-set f (x ∷ l) zero a = refl
map-set f (x ∷ l) (suc i) a = ap (λ (m : List _). f x ∷ m) (map-set f l i a)

pub record Same {A : Type 0} (f : Channel → A) (s r : Channels) : Type 0 where
  pub seated : seats s ≡ seats r
  pub fields : map f s.at ≡ map f r.at

module _ {A : Type 0} (f : Channel → A) where
  pub same_self : (s : Channels) → Same f s s
  same_self s = record { seated = refl; fields = refl }

  pub same_back : {s r : Channels} → Same f s r → Same f r s
  same_back a = record { seated = sym a.seated; fields = sym a.fields }

  pub same_after : {s r t : Channels} → Same f s r → Same f r t → Same f s t
  same_after a b = record { seated = a.seated ∙ b.seated; fields = a.fields ∙ b.fields }

  pub same_at : {s r : Channels} → Same f s r → (p : ℕ) → f (channel_at s p) ≡ f (channel_at r p)
  same_at {s} {r} a p =
      sym (get_or-map f s.at p vacant) ∙ ap (λ (l : List A). get_or l p (f vacant)) a.fields ∙ get_or-map f r.at p vacant

  pub same-put : (s : Channels) (p : ℕ) (c : Channel) → seat c ≡ seat (channel_at s p) → f c ≡ f (channel_at s p) → Same f (put s p c) s
  same-put s p c e g = record { seated = seats-put s p c e; fields = map-set_same f s.at p c vacant g }

  pub same_puts : {s r : Channels} → Same f s r → (p : ℕ) (c d : Channel) → seat c ≡ seat d → f c ≡ f d → Same f (put s p c) (put r p d)
  same_puts {s} {r} a p c d e g = record {
    seated = map-set seat s.at p c ∙ ap₂ (λ (l : List Seat) (z : Seat). set l p z) a.seated e ∙ sym (map-set seat r.at p d);
    fields = map-set f s.at p c ∙ ap₂ (λ (l : List A) (z : A). set l p z) a.fields g ∙ sym (map-set f r.at p d);
  }

-- ---- what calls leave

abbrev pub held_count : Channel → ℕ
held_count c = c.held

abbrev pub waiting_count : Channel → ℕ
waiting_count c = c.waiting

-- a walk changes how much waits, and a delivery how much is held
module _ {A : Type 0} (f : Channel → A) (blind : (c : Channel) (k : ℕ) → f (waiting c k) ≡ f c) where
  pub same-walk : (l : List Slot) (s : Channels) → Same f (walked s l).channels s
  unfolding walked
  same-walk [] s = same_self f s
  same-walk (y ∷ l) s =
      let p = place_of s y.channel in
      let c = channel_at s p in
      let k = moved c y.octets in
      let gone : Same f (left s p k) s = same-put f s p _ refl (blind c _) in
      by_test (λ (w : Walk). Same f w.channels s) (is_in s y.channel)
      (λ i. by_test (λ (w : Walk). Same f w.channels s) (is_blocked c y.octets) (λ b. same_self f s)
      (λ b. by_test (λ (w : Walk). Same f w.channels s) (goes_on c y.octets) (λ g. same_after f (same-walk l (left s p k)) gone) (λ g. gone)))
      (λ i. same_self f s)

module _ {A : Type 0} (f : Channel → A) (blind : (c : Channel) (k : ℕ) → f (holding c k) ≡ f c) where
  same-took : (l : List Piece) (r : Delivery) (xs : List ℕ) → Same f (took_all r l xs).channels r.channels
  unfolding took_all
  same-took [] r xs = same_self f r.channels
  same-took (q ∷ l) r xs =
      same_after f (same-took l (took r q.place (take q.octets xs)) (drop q.octets xs))
      (by_test (λ (d : Delivery). Same f d.channels r.channels) (channel_at r.channels q.place).segmentable
      (λ g. same-put f r.channels q.place _ refl (blind (channel_at r.channels q.place) _)) (λ g. same_self f r.channels))

  pub same-delivery : (s : Channels) (h : List ℕ) (mark : Bool) (l : List Piece) (xs : List ℕ) → Same f (delivery s h mark l xs).channels s
  unfolding delivery
  same-delivery s h mark l xs =
      let t = same-took l (nothing s h) xs in
      by_test (λ (d : Delivery). Same f d.channels s) mark
      (λ m. same_after f (same-put f (took_all (nothing s h) l xs).channels (last_place l) _ refl (blind (channel_at (took_all (nothing s h) l xs).channels (last_place l)) 0)) t)
      (λ m. t)
