-- A payload's pieces: octets in a row that go to one place, or come from one.
--
--   Piece             how many octets, and the place
--   piece p n         n octets at place p
--   paired f xs ys    f of the first of each list, of the second, ..
--   laid ps ls        the pieces of these places and lengths
--   placed s l        the pieces of the slots l: each slot's channel has its place
--   last_place l       the place of the last piece, or `place_count` where there is none
--   total l           how many octets the pieces have
--
-- Assumes nothing.
use Rattle.std.specs.Prelude.{List, [], ◌∷◌, ℕ, ◌+◌}
use Rattle.table.specs.Slots.{Slot}
use Rattle.channels.specs.declared.Channels.{Channels}
use Rattle.channels.specs.Channels.{place_count, place_of}

pub record Piece : Type 0 where
  pub place : ℕ
  pub octets : ℕ

abbrev pub piece : ℕ → ℕ → Piece
piece p n = record { place = p; octets = n }

unfoldable pub paired : {A : Type 0} → (ℕ → ℕ → A) → List ℕ → List ℕ → List A
paired f [] ys = []
paired f (a ∷ xs) [] = []
paired f (a ∷ xs) (b ∷ ys) = f a b ∷ paired f xs ys

abbrev pub laid : List ℕ → List ℕ → List Piece
laid = paired piece

unfoldable pub placed : Channels → List Slot → List Piece
placed s [] = []
placed s (x ∷ l) = piece (place_of s x.channel) x.octets ∷ placed s l

unfoldable pub last_place : List Piece → ℕ
last_place [] = place_count
last_place (q ∷ []) = q.place
last_place (q ∷ r ∷ l) = last_place (r ∷ l)

unfoldable pub total : List Piece → ℕ
total [] = 0
total (q ∷ l) = q.octets + total l
