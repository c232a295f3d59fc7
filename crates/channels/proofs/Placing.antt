-- Channel numbers replaced by their places, one at a time.
--
--   first-most               a search ends no later than the list
--   place-most               a place is at most 16
--   in_step                  `all_open` from place j on: the number there is open, and so are those behind
--   in_end                   .. and behind the last
--   mapped_at                what is mapped to place j and not behind it, with place j mapped too
--   each_mapped              a list whose elements are those of another, mapped
--   sought, sought-place     a search by number finds a channel's place
--   position-first           the first place that std's search answers
--   sought_in, freed_in      .. and so of a search for a channel, and for a free place
--   in_place, not_in         the place that is found, or none
--   seat-sought, sought_number   .. and so of a search among the numbers
--   in-placed                where all are open, each place is below 16
--
-- Assumes nothing.
use mathlib.Core.Path.{◌≡◌, refl, sym, ap, ap₂, ◌∙◌}
use mathlib.Core.List.{List, [], ◌∷◌, ◌++◌, map}
use mathlib.Core.Bool.{Bool, true, false, cond, ◌&&◌}
use Prim.Native.Nat.{ℕ, zero, suc, ◌+◌, ◌≤◌, ◌<◌}
use native.Mathlib.Nat.{not-suc-le-zero, le_of_suc-le-suc}
use native.Mathlib.Numerals.{add-one, one-add}
use native.Mathlib.Omega.{arith}
use borrow.Author.Tests.{ltb-true, ne_eqb}
use lib.Dec.{eqb, ltb}
use lib.ListN.{length, get_or, set, take, drop, drop_of_length-le}
use lib.Seq.{drop-cons, take-suc-set, drop-set-lt, append_snoc}
use Rattle.octets.specs.Tests.{both_true, never}
use Rattle.channels.specs.declared.Channel.{Channel}
use Rattle.channels.specs.declared.Channels.{Channels}
use Rattle.channels.specs.Search.{first}
use Rattle.channels.specs.Channels.{all_open, place_count, place_of, free_place, is_in, is_channel, is_free}
use Rattle.channels.specs.Places.{no_number, number_of, place_in, free_in}
use Rattle.std.specs.Prelude.{Some, None, unwrap_or}
use Rattle.std.specs.List.{position}
use Rattle.std.proofs.lemmas.List.{get_or-map, length-map}
use Rattle.std.proofs.lemmas.Grind.{same_number_lists}
use Rattle.std.proofs.lemmas.Bool.{ltb-false}
use Rattle.std.proofs.lemmas.List.Recursion.{is_position_or_len}

pub first-most : {A : Type 0} (f : A → Bool) (l : List A) → first f l ≤ length l
unfolding first
first-most f [] = omega arith
first-most f (a ∷ l) = by (f a) (first-most f l)
  where
    by : (b : Bool) → first f l ≤ length l → cond b 0 (suc (first f l)) ≤ suc (length l)
    by true h = omega arith
    by false h = omega arith

pub place-most : (s : Channels) (n : ℕ) → length s.at ≡ place_count → place_of s n ≤ place_count
unfolding place_of
place-most s n e = omega (arith, first-most (is_channel n) s.at)

module _ (s : Channels) (l : List ℕ) (j : ℕ) where
  in-at : j < length l → all_open s (drop j l) ≡ (is_in s (get_or l j 0) && all_open s (drop (j + 1) l))
  unfolding all_open
  in-at h = rw (add-one, drop-cons l j 0)

  pub in_step : (p : ℕ) → j < length l → p ≡ place_of s (get_or l j 0)
      → all_open s (drop j l) ≡ (ltb p place_count && all_open s (drop (j + 1) (set l j p)))
  in_step p h e = in-at h ∙ rw (e, drop-set-lt (j + 1) l j (place_of s (get_or l j 0)) (omega arith)) refl

  pub in_end : length l ≤ j → all_open s (drop j l) ≡ true
  unfolding all_open
  in_end h = rw (drop_of_length-le l h)

pub mapped_at : {A : Type 0} (f : A → ℕ) (l : List A) (d : A) (r : List ℕ) (j : ℕ) → j < length l → j < length r
    → take j r ++ map f (drop j l) ≡ take (j + 1) (set r j (f (get_or l j d))) ++ map f (drop (j + 1) l)
mapped_at f l d r j h k = rw (add-one, drop-cons l j d, take-suc-set r j (f (get_or l j d)) k, append_snoc)

pub each_mapped : {A : Type 0} (f : A → ℕ) (d : A) (l : List A) (r : List ℕ) → length r ≡ length l
    → ((i : ℕ) → i < length l → get_or r i 0 ≡ f (get_or l i d)) → r ≡ map f l
each_mapped f d l r e h =
    same_number_lists r (map f l) (e ∙ sym (length-map l f)) (λ i k. h i (omega (arith, e, k)) ∙ sym (get_or-map f l i d 0 (omega (arith, e, k))))

-- a search by number, in a list of numbers
pub sought : (n : ℕ) → n < 65536 → (l : List Channel) → first (λ m. eqb m n) (map number_of l) ≡ first (is_channel n) l
unfolding first
sought n h [] = refl
sought n h (c ∷ l) = ap₂ (λ (b : Bool) (k : ℕ). cond b 0 (suc k)) (by c.«open») (sought n h l)
  where
    by : (b : Bool) → eqb (cond b c.number.0 no_number) n ≡ cond b (eqb c.number.0 n) false
    by true = refl
    by false = ne_eqb no_number n (λ (z : no_number ≡ n). omega (arith, h))

pub sought-place : (s : Channels) (n : ℕ) → n < 65536 → first (λ m. eqb m n) (map number_of s.at) ≡ place_of s n
unfolding place_of
sought-place s n h = sought n h s.at

-- std's search
pub position-first : {A : Type 0} (f : A → Bool) (l : List A) → position f l ≡ cond (ltb (first f l) (length l)) (Some (first f l)) None
unfolding first
position-first f l = rw (← is_position_or_len (first f) f refl (λ x xs. ap (λ (k : ℕ). cond (f x) 0 k) (sym (one-add (first f xs)))) l) refl

pub sought_in : (s : Channels) (n : ℕ) → length s.at ≡ place_count → position (is_channel n) s.at ≡ place_in s n
unfolding place_of
sought_in s n e = position-first (is_channel n) s.at ∙ rw e refl

pub freed_in : (s : Channels) → length s.at ≡ place_count → position is_free s.at ≡ free_in s
unfolding free_place
freed_in s e = position-first is_free s.at ∙ rw e refl

pub in_place : (s : Channels) (n p : ℕ) → place_in s n ≡ Some p → (p ≡ place_of s n) × (p < place_count)
in_place s n p e = by (is_in s n) refl e
  where
    by : (b : Bool) → is_in s n ≡ b → cond b (Some (place_of s n)) None ≡ Some p → (p ≡ place_of s n) × (p < place_count)
    by true f g = (cc, ltb-true p place_count (rw (← f) (ap (λ (k : ℕ). ltb k place_count) cc)))
    by false f g = never cc

pub not_in : (s : Channels) (n : ℕ) → place_in s n ≡ None → place_count ≤ place_of s n
not_in s n e = by (is_in s n) refl e
  where
    by : (b : Bool) → is_in s n ≡ b → cond b (Some (place_of s n)) None ≡ None → place_count ≤ place_of s n
    by true f g = never cc
    by false f g = ltb-false (place_of s n) place_count f

module _ (s : Channels) (n : ℕ) (e : length s.at ≡ place_count) (h : n < 65536) where
  -- .. in a list of numbers
  pub seat-sought : position (λ m. eqb m n) (map number_of s.at) ≡ place_in s n
  seat-sought = rw (position-first (λ (m : ℕ). eqb m n) (map number_of s.at), sought-place s n h, length-map s.at number_of, e) refl

  pub sought_number : unwrap_or (position (λ m. eqb m n) (map number_of s.at)) place_count ≡ place_of s n
  sought_number = rw seat-sought (by (is_in s n) refl)
    where
      by : (b : Bool) → is_in s n ≡ b → unwrap_or (cond b (Some (place_of s n)) None) place_count ≡ place_of s n
      by true f = refl
      by false f = omega (arith, ltb-false (place_of s n) place_count f, place-most s n e)

pub in-placed : (s : Channels) (l : List ℕ) → all_open s l ≡ true → (j : ℕ) → j < length l → get_or (map (place_of s) l) j 0 < place_count
unfolding all_open
in-placed s [] e j h = absurd (not-suc-le-zero h)
in-placed s (n ∷ l) e zero h = ltb-true _ _ (both_true _ _ e).0
in-placed s (n ∷ l) e (suc j) h = in-placed s l (both_true (is_in s n) _ e).1 j (le_of_suc-le-suc h)
