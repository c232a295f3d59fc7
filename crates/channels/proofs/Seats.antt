-- What the two ends have alike: at each place whether a channel is open, its number, and whether it is segmentable. By it alone a
-- channel's place and the next free place are found.
--
--   Seat, seat c, seats s   these three, of one channel, and of all
--   first-map          the first place at which a test of what g gives holds
--   first_found        the element there passes
--   first-set          an element that answers the test alike changes nothing
--   first-put          where none passed, one that passes is found where it was put
--   first-least        what passes is not before the first that does
--   each_set           what is true of every element, and of one that is set
--   place-seats        seats alike: channel n's place is the same
--   free-seats         .. and the free place
--   seat-at            .. and the seat at each place
--   seats-put          a channel put back with its seat keeps the seats
--   seats-length       .. and as many places
--   place_open         the channel at channel n's place is open
--   place-number       .. and has number n
--   place_unique       .. so no other channel has that place
--   vacant-behind      there is no channel behind the last place
--   put-there          what was put at a place
--   put-elsewhere      .. changes no other
--   known-place        what a free place has not is at one of the places
--   segmentable-place  .. so is a segmentable channel
--   free-is            no channel is open at a free place
--   place-new          a channel opened at a free place has that place
--   place-old          .. and every other keeps its own
--   place-not_free     .. which was not the free one
--   number-seats       seats alike: the channel at channel n's place has number n at either end
--
-- Assumes nothing.
use mathlib.Core.Path.{◌≡◌, refl, sym, ap, ◌∙◌}
use mathlib.Core.Logic.{◌≢◌}
use mathlib.Core.Bool.{Bool, true, false, cond, not}
use mathlib.Core.List.{List, [], ◌∷◌, map}
use Prim.Native.Nat.{ℕ, zero, suc, ◌≤◌, ◌<◌}
use native.Mathlib.Nat.{not-suc-le-zero, le_of_suc-le-suc}
use native.Mathlib.Decide.{dec_lt}
use native.Mathlib.Omega.{arith}
use borrow.Author.Tests.{eqb-true, eq-eqb, ne_eqb, not-true}
use lib.Dec.{eqb}
use lib.ListN.{length, get_or, set, get_or-map, get_or-eq_default}
use lib.Seq.{map-set_same, get_or-set_same, get_or-set_other}
use Rattle.octets.specs.Tests.{never}
use Rattle.channels.specs.declared.Channel.{Channel}
use Rattle.channels.specs.declared.Channels.{Channels}
use Rattle.channels.specs.Search.{first}
use Rattle.channels.specs.Channels.{place_count, vacant, fresh, is_channel, is_free, place_of, free_place, channel_at, put}

pub record Seat : Type 0 where
  pub taken : Bool
  pub segmentable : Bool
  pub number : ℕ

abbrev pub seat : Channel → Seat
seat c = record { taken = c.«open»; segmentable = c.segmentable; number = c.number.0 }

abbrev pub seats : Channels → List Seat
seats s = map seat s.at

-- ---- the first place

pub first-map : {A B : Type 0} (f : B → Bool) (g : A → B) (l : List A) → first (λ a. f (g a)) l ≡ first f (map g l)
unfolding first
first-map f g [] = refl
first-map f g (a ∷ l) = ap (λ (k : ℕ). cond (f (g a)) 0 (suc k)) (first-map f g l)

pub first_found : {A : Type 0} (f : A → Bool) (d : A) (l : List A) → first f l < length l → f (get_or l (first f l) d) ≡ true
unfolding first
first_found f d [] h = absurd (not-suc-le-zero h)
first_found f d (a ∷ l) h = by (f a) refl h (first_found f d l)
  where
    by : (b : Bool) → f a ≡ b → cond b 0 (suc (first f l)) < suc (length l)
        → (first f l < length l → f (get_or l (first f l) d) ≡ true) → f (get_or (a ∷ l) (cond b 0 (suc (first f l))) d) ≡ true
    by true e h ih = e
    by false e h ih = ih (le_of_suc-le-suc h)

pub first-set : {A : Type 0} (f : A → Bool) (l : List A) (i : ℕ) (a d : A) → f a ≡ f (get_or l i d) → first f (set l i a) ≡ first f l
first-set f l i a d e =
    first-map (λ b. b) f (set l i a) ∙ ap (first (λ b. b)) (map-set_same f l i a d e) ∙ sym (first-map (λ b. b) f l)

pub first-put : {A : Type 0} (f : A → Bool) (l : List A) (i : ℕ) (a : A) → length l ≤ first f l → i < length l → f a ≡ true → first f (set l i a) ≡ i
unfolding first
first-put f [] i a h k e = absurd (not-suc-le-zero k)
first-put f (x ∷ l) zero a h k e = rw e
first-put f (x ∷ l) (suc i) a h k e = by (f x) h (first-put f l i a)
  where
    by : (b : Bool) → suc (length l) ≤ cond b 0 (suc (first f l)) → (length l ≤ first f l → i < length l → f a ≡ true → first f (set l i a) ≡ i)
        → cond b 0 (suc (first f (set l i a))) ≡ suc i
    by true h ih = absurd (not-suc-le-zero h)
    by false h ih = ap suc (ih (le_of_suc-le-suc h) (le_of_suc-le-suc k) e)

pub first-least : {A : Type 0} (f : A → Bool) (d : A) (l : List A) (i : ℕ) → i < length l → f (get_or l i d) ≡ true → first f l ≤ i
unfolding first
first-least f d [] i h e = absurd (not-suc-le-zero h)
first-least f d (a ∷ l) zero h e = rw e (omega arith)
first-least f d (a ∷ l) (suc i) h e = by (f a) (first-least f d l i (le_of_suc-le-suc h) e)
  where
    by : (b : Bool) → first f l ≤ i → cond b 0 (suc (first f l)) ≤ suc i
    by true k = omega arith
    by false k = omega arith

pub each_set : {A : Type 0} (P : A → Type 0) (d : A) (l : List A) (p : ℕ) (c : A) → ((i : ℕ) → P (get_or l i d)) → P c → (i : ℕ) → P (get_or (set l p c) i d)
each_set P d [] p c h pc i = h i
each_set P d (x ∷ l) zero c h pc zero = pc
each_set P d (x ∷ l) zero c h pc (suc i) = h (suc i)
each_set P d (x ∷ l) (suc p) c h pc zero = h zero
each_set P d (x ∷ l) (suc p) c h pc (suc i) = each_set P d l p c (λ j. h (suc j)) pc i

-- ---- seats

abbrev is_on : ℕ → Seat → Bool
is_on n z = cond z.taken (eqb z.number n) false

module _ (s r : Channels) (e : seats s ≡ seats r) where
  pub place-seats : (n : ℕ) → place_of s n ≡ place_of r n
  unfolding place_of
  place-seats n = first-map (is_on n) seat s.at ∙ ap (first (is_on n)) e ∙ sym (first-map (is_on n) seat r.at)

  pub free-seats : free_place s ≡ free_place r
  unfolding free_place
  free-seats = first-map (λ z. not z.taken) seat s.at ∙ ap (first (λ z. not z.taken)) e ∙ sym (first-map (λ z. not z.taken) seat r.at)

  pub seat-at : (p : ℕ) → seat (channel_at s p) ≡ seat (channel_at r p)
  seat-at p = sym (get_or-map seat s.at p vacant) ∙ ap (λ (l : List Seat). get_or l p (seat vacant)) e ∙ get_or-map seat r.at p vacant

  pub seats-length : length s.at ≡ length r.at
  seats-length = sym (lengths s.at) ∙ ap (λ (l : List Seat). length l) e ∙ lengths r.at
    where
      lengths : (l : List Channel) → length (map seat l) ≡ length l
      lengths [] = refl
      lengths (c ∷ l) = ap suc (lengths l)

pub seats-put : (s : Channels) (p : ℕ) (c : Channel) → seat c ≡ seat (channel_at s p) → seats (put s p c) ≡ seats s
seats-put s p c e = map-set_same seat s.at p c vacant e

-- ---- places

is_number : (b : Bool) (m n : ℕ) → cond b (eqb m n) false ≡ true → (b ≡ true) × (m ≡ n)
is_number true m n e = (refl, eqb-true m n e)
is_number false m n e = never (cc)

module _ (s : Channels) (full : length s.at ≡ place_count) where
  place_is : (n : ℕ) → place_of s n < place_count → ((channel_at s (place_of s n)).«open» ≡ true) × ((channel_at s (place_of s n)).number.0 ≡ n)
  unfolding place_of
  place_is n h =
      is_number (channel_at s (place_of s n)).«open» (channel_at s (place_of s n)).number.0 n
      (first_found (is_channel n) vacant s.at (rw full h))

  pub place_open : (n : ℕ) → place_of s n < place_count → (channel_at s (place_of s n)).«open» ≡ true
  place_open n h = (place_is n h).0

  pub place-number : (n : ℕ) → place_of s n < place_count → (channel_at s (place_of s n)).number.0 ≡ n
  place-number n h = (place_is n h).1

  pub place_unique : (n k p : ℕ) → p < place_count → place_of s n ≡ p → place_of s k ≡ p → n ≡ k
  place_unique n k p h e f =
      sym (place-number n (rw e h)) ∙ ap (λ (q : ℕ). (channel_at s q).number.0) (e ∙ sym f) ∙ place-number k (rw f h)

  pub vacant-behind : (p : ℕ) → place_count ≤ p → channel_at s p ≡ vacant
  vacant-behind p h = get_or-eq_default s.at vacant (rw full h)

  pub put-there : (p : ℕ) (c : Channel) → p < place_count → channel_at (put s p c) p ≡ c
  put-there p c h = get_or-set_same s.at p c vacant (rw full h)

pub known-place : (s : Channels) (f : Channel → Bool) (p : ℕ) → length s.at ≡ place_count → f vacant ≡ false → f (channel_at s p) ≡ true → p < place_count
known-place s f p e v g = by (dec_lt p place_count)
  where
    by : Dec (p < place_count) → p < place_count
    by (yes h) = h
    by (no h) =
        let w = ap f (vacant-behind s e p (omega arith)) in
        never (cc)

pub segmentable-place : (s : Channels) (p : ℕ) → length s.at ≡ place_count → (channel_at s p).segmentable ≡ true → p < place_count
segmentable-place s p e g = known-place s (λ c. c.segmentable) p e refl g

-- ---- a channel opened at the free place p

module _ (s : Channels) (full : length s.at ≡ place_count) (p : ℕ) (place : free_place s ≡ p) (inside : p < place_count) where
  pub free-is : (channel_at s p).«open» ≡ false
  unfolding free_place
  free-is =
      not-true (channel_at s p).«open»
      (ap (λ (q : ℕ). is_free (channel_at s q)) (sym place) ∙ first_found is_free vacant s.at (rw (full, place) inside))

  pub place-new : (n : ℕ) (g : Bool) → place_count ≤ place_of s n → place_of (put s p (fresh n g)) n ≡ p
  unfolding place_of
  place-new n g unknown = first-put (is_channel n) s.at p (fresh n g) (rw full unknown) (rw full inside) (eq-eqb n n refl)

  pub place-old : (n : ℕ) (g : Bool) (k : ℕ) → n ≢ k → place_of (put s p (fresh n g)) k ≡ place_of s k
  unfolding place_of
  place-old n g k f = first-set (is_channel k) s.at p (fresh n g) vacant (rw (ne_eqb n k f, free-is))

  pub place-not_free : (k : ℕ) → place_of s k ≢ p
  unfolding place_of
  place-not_free k e =
      let z : is_channel k (channel_at s p) ≡ true =
      ap (λ (q : ℕ). is_channel k (channel_at s q)) (sym e) ∙ first_found (is_channel k) vacant s.at (rw (full, e) inside) in
      let f : false ≡ true = rw free-is at z in
      never (cc)

pub number-seats : (s r : Channels) → seats r ≡ seats s → length s.at ≡ place_count → (n p : ℕ) → place_of s n ≡ p → p < place_count
    → (channel_at r p).number.0 ≡ n
number-seats s r e full n p place inside =
    ap (λ (z : Seat). z.number) (seat-at r s e p) ∙ ap (λ (q : ℕ). (channel_at s q).number.0) (sym place) ∙ place-number s full n (rw place inside)

pub put-elsewhere : (s : Channels) (p q : ℕ) (c : Channel) → q ≢ p → channel_at (put s p c) q ≡ channel_at s q
put-elsewhere s p q c h = get_or-set_other s.at p q c vacant h
