-- A table in which an entry was written.
--
--   with_entry_front     the entry stands where it was written
--   with_entry_other     the other entries are as they were
--
-- Assumes nothing.
use mathlib.Core.Path.{◌≡◌, refl, sym, ap, ◌∙◌}
use mathlib.Core.Logic.{◌⊎◌, inl, inr}
use mathlib.Core.List.{List, ◌++◌}
use Prim.Native.Nat.{ℕ, zero, suc, ◌+◌, ◌-◌, ◌*◌, ◌≤◌, ◌<◌}
use native.Mathlib.Omega.{arith}
use native.Mathlib.Decide.{dec_le}
use lib.ListN.{length, get_or, take, drop, length-take, length-drop, take-append-drop}
use lib.Seq.{take-take, get_or-take, get_or-drop, ext_get_or}
use Rattle.octets.specs.Written.{written_part, written-length, written_outside}
use Rattle.table.specs.Table.{highest_code, longest_entry, table_numbers, entry_of, with_entry}
use Rattle.table.proofs.Entries.{entry_put}

module _ (t s : List ℕ) (c : ℕ) (size : length t ≡ table_numbers) (some : 1 ≤ c) (low : c ≤ highest_code) (short : length s ≤ longest_entry) where
  fits : longest_entry * (c - 1) + length s ≤ length t
  fits = omega arith

  pub with_entry_front : entry_of (with_entry t c s) c ≡ s ++ drop (length s) (entry_of (with_entry t c s) c)
  with_entry_front =
      let u = entry_of (with_entry t c s) c in
      let e : take (length s) u ≡ s =
      ap (take (length s)) (entry_put (with_entry t c s) c (λ z. omega arith))
      ∙ take-take (length s) longest_entry (drop (longest_entry * (c - 1)) (with_entry t c s)) short
      ∙ written_part t (longest_entry * (c - 1)) s fits in
      sym (take-append-drop (length s) u) ∙ ap (λ (v : List ℕ). v ++ drop (length s) u) e

  apart : (d i : ℕ) → (suc d ≡ c → ⊥) → i < longest_entry
      → (longest_entry * d + i < longest_entry * (c - 1)) ⊎ (longest_entry * (c - 1) + length s ≤ longest_entry * d + i)
  apart d i n h = go (dec_le (suc d) c)
    where
      go : Dec (suc d ≤ c) → (longest_entry * d + i < longest_entry * (c - 1)) ⊎ (longest_entry * (c - 1) + length s ≤ longest_entry * d + i)
      go (yes l) = inl (omega arith)
      go (no l) = inr (omega arith)

  pub with_entry_other : (d : ℕ) → (d ≡ c → ⊥) → entry_of (with_entry t c s) d ≡ entry_of t d
  unfolding entry_of
  with_entry_other zero n = refl
  with_entry_other (suc d) n = ext_get_or 0 (take longest_entry (drop k (with_entry t c s))) (take longest_entry (drop k t)) same_length each
    where
      k : ℕ
      k = longest_entry * d

      kept : length (with_entry t c s) ≡ length t
      kept = written-length t (longest_entry * (c - 1)) s fits

      same_length : length (take longest_entry (drop k (with_entry t c s))) ≡ length (take longest_entry (drop k t))
      same_length = simp (length-take, length-drop) (omega (arith, kept))

      each : (i : ℕ) → i < length (take longest_entry (drop k (with_entry t c s))) → get_or (take longest_entry (drop k (with_entry t c s))) i 0
          ≡ get_or (take longest_entry (drop k t)) i 0
      each i h =
          let l : i < longest_entry = omega (arith, length-take longest_entry (drop k (with_entry t c s))) in
          get_or-take longest_entry (drop k (with_entry t c s)) i 0 l ∙ get_or-drop k (with_entry t c s) i 0
          ∙ written_outside t (longest_entry * (c - 1)) s fits (k + i) 0 (apart d i n l)
          ∙ sym (get_or-take longest_entry (drop k t) i 0 l ∙ get_or-drop k t i 0)
