-- What the loop that gathers a payload's octets keeps, and what its steps make of it.
--
--   Gathering     the pieces l are still to be gathered, into d from `at` on
--   piece_at       the piece at place j of two lists
--   gathers-at    of pieces that stand in two lists, the one at place j comes first
--   first_moves   the first of them can be sent, and fits
--   from          where they stand
--   part_of       what is read for it: so many of the octets that wait at its place
--   gathers-next  one piece less
--   gathers-end   past the last place, no piece is left: all octets are written
--   leaves-end    .. and have left their channels
--
-- Assumes nothing.
use mathlib.Core.Path.{◌≡◌, sym, ap, subst, ◌∙◌}
use mathlib.Core.List.{List, ◌∷◌, ◌++◌}
use Prim.Native.Nat.{ℕ, ◌+◌, ◌-◌, ◌≤◌, ◌<◌}
use native.Mathlib.Nat.{add-sub_cancel_left}
use native.Mathlib.Omega.{arith}
use lib.ListN.{length, take, drop, get_or, length-drop}
use lib.Seq.{length-take-le, take-take}
use Rattle.octets.specs.Written.{written, written-length, written-append, written_nothing}
use Rattle.channels.specs.declared.Channels.{Channels}
use Rattle.channels.specs.Channels.{channel_at, waits, waiting_from, waiting_of, place_count, all_octets}
use Rattle.multiplex.specs.Pieces.{piece, Piece, laid, total}
use Rattle.multiplex.specs.Multiplexer.{left, gathered}
use Rattle.multiplex.specs.Walks.{Sendable, left_all}
use Rattle.multiplex.proofs.Slotting.{paired_at, paired-end}

pub record Gathering (s₀ : Channels) (w : List ℕ) (l₀ : List Piece) (d₀ d : List ℕ) (s : Channels) (at : ℕ) (l : List Piece) : Type 0 where
  pub sendable : Sendable s l
  pub fits : at + total l ≤ length d
  pub kept : length d ≡ length d₀
  pub gathers : written d₀ 0 (gathered s₀ w l₀) ≡ written d at (gathered s w l)
  pub leaves : left_all s₀ l₀ ≡ left_all s l

abbrev pub piece_at : List ℕ → List ℕ → ℕ → Piece
piece_at ps ls j = record { place = get_or ps j 0; octets = get_or ls j 0 }

-- where the octets of a piece stand
abbrev pub from : Channels → Piece → ℕ
from s q = waiting_from (channel_at s q.place) q.place

module _ (s₀ : Channels) (w : List ℕ) (l₀ : List Piece) (d₀ d : List ℕ) (s : Channels) (at : ℕ) where
  pub gathers-end : (ps ls : List ℕ) (j : ℕ) → length ps ≤ j → Gathering s₀ w l₀ d₀ d s at (drop j (laid ps ls)) → d ≡ written d₀ 0 (gathered s₀ w l₀)
  unfolding gathered
  gathers-end ps ls j h g =
      sym (g.gathers ∙ ap (λ (l : List Piece). written d at (gathered s w l)) (paired-end piece ps ls j h) ∙ written_nothing d at)

  pub leaves-end : (ps ls : List ℕ) (j : ℕ) → length ps ≤ j → Gathering s₀ w l₀ d₀ d s at (drop j (laid ps ls)) → s ≡ left_all s₀ l₀
  unfolding left_all
  leaves-end ps ls j h g = sym (g.leaves ∙ ap (left_all s) (paired-end piece ps ls j h))

  pub gathers-at : (ps ls : List ℕ) (j : ℕ) → j < length ps → j < length ls → Gathering s₀ w l₀ d₀ d s at (drop j (laid ps ls))
      → Gathering s₀ w l₀ d₀ d s at (piece_at ps ls j ∷ drop (j + 1) (laid ps ls))
  gathers-at ps ls j a b g = subst (λ (l : List Piece). Gathering s₀ w l₀ d₀ d s at l) (paired_at piece ps ls j a b) g

  module _ (q : Piece) (l : List Piece) (g : Gathering s₀ w l₀ d₀ d s at (q ∷ l)) where
    pub first_moves : (q.place < place_count) × (q.octets ≤ waits (channel_at s q.place)) × (at + q.octets ≤ length d)
    unfolding Sendable total
    first_moves = (g.sendable.0, g.sendable.1, omega (arith, g.fits))

    module _ (e : length w ≡ all_octets) where
      within : from s q + q.octets ≤ length w
      within = omega (arith, e, first_moves.0, first_moves.1)

      pub part_of : take (from s q + q.octets - from s q) (drop (from s q) w) ≡ take q.octets (waiting_of s w q.place)
      part_of =
          rw (add-sub_cancel_left (from s q) q.octets) (sym (take-take q.octets (waits (channel_at s q.place)) (drop (from s q) w) first_moves.1))

      module _ (x : List ℕ) (f : x ≡ take (from s q + q.octets - from s q) (drop (from s q) w)) where
        part_length : length x ≡ q.octets
        part_length =
            ap length (f ∙ ap (λ (n : ℕ). take n (drop (from s q) w)) (add-sub_cancel_left (from s q) q.octets))
            ∙ length-take-le q.octets (drop (from s q) w) (rw (length-drop (from s q) w) (omega (arith, within)))

        room : at + length x ≤ length d
        room = rw part_length first_moves.2

        pub gathers-next : (d' : List ℕ) → d' ≡ written d at x → Gathering s₀ w l₀ d₀ d' (left s q.place q.octets) (at + q.octets) l
        unfolding Sendable total gathered left_all
        gathers-next d' h =
            let stays : length d' ≡ length d = ap length h ∙ written-length d at x room in
            record {
              sendable = g.sendable.2;
              fits = omega (arith, g.fits);
              kept = stays ∙ g.kept;
              gathers =
                  g.gathers ∙ ap (λ (y : List ℕ). written d at (y ++ gathered (left s q.place q.octets) w l)) (sym (f ∙ part_of))
                  ∙ sym (written-append d at x room (gathered (left s q.place q.octets) w l))
                  ∙ rw (h, part_length);
              leaves = g.leaves;
            }
