-- The multiplexer's walk, a slot at a time.
--
--   turn_on, turn_last   no slot takes more than waits, nor than it has
--   by_turn           the walk from a slot on, by what becomes of it
--   walked-closed    a walk stops where a channel is not open
--   walked_open      .. and else goes by what becomes of the slot
--   by_place         .. either way
--   walked-sendable  the pieces of a walk can be sent
--   walked-most      .. and have at most the slots' octets
--
-- Assumes nothing.
use mathlib.Core.Path.{◌≡◌, refl, sym, subst}
use mathlib.Core.Bool.{Bool, true, false, cond}
use mathlib.Core.List.{List, [], ◌∷◌}
use Prim.Native.Nat.{ℕ, ◌+◌, ◌≤◌, ◌<◌}
use native.Mathlib.Omega.{arith}
use borrow.Author.Tests.{lt-ltb, le-ltb, ltb-true, ltb-false}
use Rattle.table.specs.Slots.{Slot, octets_of}
use Rattle.channels.specs.declared.Channel.{Channel}
use Rattle.channels.specs.declared.Channels.{Channels}
use Rattle.multiplex.specs.declared.multiplexer.Turn.{Turn}
use Rattle.multiplex.specs.declared.multiplexer.Turn.TheVariants.{Stop, On, Last}
use Rattle.channels.specs.Channels.{place_of, is_in, channel_at, waits, place_count}
use Rattle.multiplex.specs.Pieces.{total}
use Rattle.multiplex.specs.Multiplexer.{is_blocked, goes_on, moved, left, Walk, stopped, sending, ending, visit, walked}
use Rattle.multiplex.specs.Walks.{turned, Sendable}

-- what a slot takes, where it takes something
abbrev taken : Turn → ℕ
taken Stop = 0
taken (On k) = k
taken (Last k) = k

taken-most : (a b : Bool) (k m n : ℕ) → k ≤ m → k ≤ n
    → (taken (cond a Stop (cond b (On k) (Last k))) ≤ m) × (taken (cond a Stop (cond b (On k) (Last k))) ≤ n)
taken-most true b k m n p q = (omega arith, omega arith)
taken-most false true k m n p q = (p, q)
taken-most false false k m n p q = (p, q)

turned-most : (c : Channel) (n : ℕ) → (taken (turned c n) ≤ waits c) × (taken (turned c n) ≤ n)
unfolding turned
turned-most c n = taken-most (is_blocked c n) (goes_on c n) (moved c n) (waits c) n (omega arith) (omega arith)

module _ (c : Channel) (n k : ℕ) where
  pub turn_on : turned c n ≡ On k → (k ≤ waits c) × (k ≤ n)
  turn_on e = rw e at (turned-most c n)

  pub turn_last : turned c n ≡ Last k → (k ≤ waits c) × (k ≤ n)
  turn_last e = rw e at (turned-most c n)

-- ---- the walk from a slot on

abbrev pub by_turn : Channels → ℕ → (Channels → Walk) → Turn → Walk
by_turn s p rest Stop = stopped s true
by_turn s p rest (On k) = sending (record { place = p; octets = k }) (rest (left s p k))
by_turn s p rest (Last k) = ending (record { place = p; octets = k }) (left s p k) (channel_at s p).segmentable

visit-turn : (s : Channels) (p n : ℕ) (rest : Channels → Walk) → visit s p n rest ≡ by_turn s p rest (turned (channel_at s p) n)
unfolding turned
visit-turn s p n rest = by (is_blocked (channel_at s p) n) (goes_on (channel_at s p) n) (moved (channel_at s p) n)
  where
    by : (a b : Bool) (k : ℕ) → cond a (stopped s true) (cond b (by_turn s p rest (On k)) (by_turn s p rest (Last k)))
        ≡ by_turn s p rest (cond a Stop (cond b (On k) (Last k)))
    by true b k = refl
    by false true k = refl
    by false false k = refl

module _ (s : Channels) (x : Slot) (l : List Slot) (p : ℕ) (e : p ≡ place_of s x.channel) where
  pub walked-closed : place_count ≤ p → walked s (x ∷ l) ≡ stopped s false
  unfolding walked
  walked-closed h = rw (← e, le-ltb _ _ h)

  pub walked_open : p < place_count → walked s (x ∷ l) ≡ by_turn s p (λ r. walked r l) (turned (channel_at s p) x.octets)
  unfolding walked
  walked_open h = rw (← e, lt-ltb _ _ h) (visit-turn s p x.octets (λ r. walked r l))

-- ---- the pieces of a walk

module _ (s : Channels) (p n : ℕ) (rest : Channels → Walk) where
  turn-sendable : (t : Turn) → p < place_count → taken t ≤ waits (channel_at s p) → ((k : ℕ) → Sendable (left s p k) (rest (left s p k)).pieces)
      → Sendable s (by_turn s p rest t).pieces
  unfolding Sendable
  turn-sendable Stop h m more = tt
  turn-sendable (On k) h m more = (h, m, more k)
  turn-sendable (Last k) h m more = (h, m, tt)

  turn-most : (t : Turn) → (m : ℕ) → taken t ≤ n → ((k : ℕ) → total (rest (left s p k)).pieces ≤ m) → total (by_turn s p rest t).pieces ≤ n + m
  unfolding total
  turn-most Stop m h more = omega arith
  turn-most (On k) m h more = omega (arith, more k)
  turn-most (Last k) m h more = omega arith

-- whether a slot's channel is open
pub by_place : (P : Walk → Type 0) (s : Channels) (x : Slot) (l : List Slot) → P (stopped s false)
    → (place_of s x.channel < place_count → P
    (by_turn s (place_of s x.channel) (λ r. walked r l) (turned (channel_at s (place_of s x.channel)) x.octets)))
    → P (walked s (x ∷ l))
by_place P s x l closed is = by (is_in s x.channel) refl
  where
    p : ℕ
    p = place_of s x.channel

    by : (b : Bool) → is_in s x.channel ≡ b → P (walked s (x ∷ l))
    by true e = subst P (sym (walked_open s x l p refl (ltb-true p place_count e))) (is (ltb-true p place_count e))
    by false e = subst P (sym (walked-closed s x l p refl (ltb-false p place_count e))) closed

pub walked-sendable : (s : Channels) (l : List Slot) → Sendable s (walked s l).pieces
unfolding walked Sendable
walked-sendable s [] = tt
walked-sendable s (x ∷ l) =
    let p = place_of s x.channel in
    by_place (λ w. Sendable s w.pieces) s x l tt (λ h.
    turn-sendable s p x.octets (λ r. walked r l) (turned (channel_at s p) x.octets) h (turned-most (channel_at s p) x.octets).0
    (λ k. walked-sendable (left s p k) l))

pub walked-most : (s : Channels) (l : List Slot) → total (walked s l).pieces ≤ octets_of l
unfolding walked total octets_of
walked-most s [] = omega arith
walked-most s (x ∷ l) =
    let p = place_of s x.channel in
    by_place (λ w. total w.pieces ≤ x.octets + octets_of l) s x l (omega arith) (λ h.
    turn-most s p x.octets (λ r. walked r l) (turned (channel_at s p) x.octets) (octets_of l) (turned-most (channel_at s p) x.octets).1
    (λ k. walked-most (left s p k) l))
