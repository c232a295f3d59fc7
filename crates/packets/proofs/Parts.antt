-- The parts of a packet, where they lie.
--
--   opening_at, header_at   the flag and the header in front
--   front-and_rest          .. and what is behind them
--   payload-at              the payload
--   closing_at              the closing flag, and what is behind it
--   front_cut               what is left of both where the rest is cut
--   front_length            how long the front is
--   packet-length           how long a packet is
--   parts_make              the parts of a list make it again
--
-- Assumes nothing.
use mathlib.Core.Path.{◌≡◌, refl, sym, ap, ◌∙◌}
use mathlib.Core.Bool.{Bool}
use mathlib.Core.List.{List, ◌++◌, append_assoc}
use Prim.Native.Nat.{ℕ, ◌+◌, ◌-◌, ◌≤◌}
use native.Mathlib.Omega.{arith}
use lib.ListN.{length, take, drop, length-append, take-append-drop, get_or-append}
use lib.Seq.{take_at, drop_at, drop-drop, take-add, take-append-add}
use Rattle.packets.specs.Flag.{flag_of}
use Rattle.packets.specs.Header.{header_of, header_word}
use Rattle.packets.specs.Packet.{packet_of}
use Rattle.packets.proofs.Fields.{header_word-same}
use Rattle.packets.proofs.Laying.{flag-length}

module _ (o : Bool) (h : List ℕ) (three : length h ≡ 3) where
  pub front_length : length (flag_of o ++ h) ≡ 5
  front_length = rw (length-append, flag-length o, three)

  module _ (r : List ℕ) where
    pub opening_at : take 2 (flag_of o ++ h ++ r) ≡ flag_of o
    opening_at = rw (append_assoc (flag_of o) h r) (take_at (flag_of o) (h ++ r) 2 (flag-length o))

    pub header_at : header_word (drop 2 (flag_of o ++ h ++ r)) ≡ header_word h
    header_at =
        rw (append_assoc (flag_of o) h r, drop_at (flag_of o) (h ++ r) 2 (flag-length o))
        (header_word-same (h ++ r) h (λ i l. get_or-append h r 0 i (omega arith)))

    pub front_cut : (n : ℕ) → 5 ≤ n → take n (flag_of o ++ h ++ r) ≡ flag_of o ++ h ++ take (n - 5) r
    front_cut n l =
        let e : n ≡ 5 + (n - 5) = omega arith in
        ap (λ (k : ℕ). take k (flag_of o ++ h ++ r)) (e ∙ ap (λ (k : ℕ). k + (n - 5)) (sym front_length)) ∙ take-append-add (flag_of o ++ h) r (n - 5)

  module _ (m : Bool) (xs rest : List ℕ) where
    pub front-and_rest : flag_of o ++ h ++ xs ++ flag_of m ++ rest ≡ flag_of o ++ h ++ (xs ++ (flag_of m ++ rest))
    front-and_rest = append_assoc (flag_of o ++ h ++ xs) (flag_of m) rest ∙ append_assoc (flag_of o ++ h) xs (flag_of m ++ rest)

    behind : drop 5 (flag_of o ++ h ++ xs ++ flag_of m ++ rest) ≡ xs ++ (flag_of m ++ rest)
    behind = ap (drop 5) front-and_rest ∙ drop_at (flag_of o ++ h) (xs ++ (flag_of m ++ rest)) 5 front_length

    pub payload-at : take (length xs) (drop 5 (flag_of o ++ h ++ xs ++ flag_of m ++ rest)) ≡ xs
    payload-at = ap (take (length xs)) behind ∙ take_at xs (flag_of m ++ rest) (length xs) refl

    pub closing_at : take 2 (drop (5 + length xs) (flag_of o ++ h ++ xs ++ flag_of m ++ rest)) ≡ flag_of m
    closing_at =
        ap (take 2) (sym (drop-drop (length xs) 5 (flag_of o ++ h ++ xs ++ flag_of m ++ rest)) ∙ ap (drop (length xs)) behind
        ∙ drop_at xs (flag_of m ++ rest) (length xs) refl) ∙ take_at (flag_of m) rest 2 (flag-length m)

pub packet-length : (o : Bool) (c : ℕ) (m : Bool) (xs : List ℕ) → length (packet_of o c m xs) ≡ length xs + 7
packet-length o c m xs = rw (length-append, length-append, front_length o (header_of c (length xs)) refl, flag-length m) (omega arith)

pub parts_make : (n : ℕ) (u : List ℕ) → u ≡ take 2 u ++ take 3 (drop 2 u) ++ take n (drop 5 u) ++ take 2 (drop (5 + n) u) ++ drop (7 + n) u
parts_make n u =
    let e : 5 + n + 2 ≡ 7 + n = omega arith in
    sym (rw (← take-add 2 3 u, ← take-add 5 n u, ← take-add (5 + n) 2 u, e) (take-append-drop (7 + n) u))
