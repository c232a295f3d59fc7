-- How a reading ends, by what stands in the octets.
--
--   DataStand u d            behind a flag the data d stand, to within three bits
--   NoWord, Unused, Broken   what is there where 17, 2 and 15 are given
--   Why u k                  why k is
--   Ends u                   u is refused, or a packet is told (refuses, tells), with what is there then
--   ends                     every list has an end
--   flagless-ends, short-ends, wordless-ends, unused-ends, unclosed-ends, told-ends   what ends a reading so
--
-- Assumes nothing.
use mathlib.Core.Path.{◌≡◌, refl, ap, ◌∙◌}
use mathlib.Core.Logic.{◌⊎◌, inl, inr}
use mathlib.Core.Bool.{Bool}
use mathlib.Core.List.{List}
use Prim.Native.Nat.{ℕ, ◌+◌, ◌/◌, ◌%◌, ◌≤◌, ◌<◌}
use native.Mathlib.Decide.{dec_le, dec_lt}
use native.Mathlib.Omega.{arith}
use lib.ListN.{length, take, drop}
use Rattle.calls.specs.Refusal.{refused, told}
use Rattle.golay.specs.Code.{nearest, Within}
use Rattle.golay.proofs.Laws.{golay}
use Rattle.std.specs.Prelude.{Option, Some, None}
use Rattle.packets.specs.Flag.{flag_of, flag_in, is_neither}
use Rattle.packets.specs.Header.{header_word}
use Rattle.packets.specs.Packet.{heading, closed, read}
use Rattle.packets.specs.Claims.{BeginsWithFlag}
use Rattle.packets.proofs.Opening.{form_marks, flag-stands, flag_cases, begins-flag, flagless, neither-none}
use Rattle.packets.proofs.Cases.{read_no-flag, read_short, read_no_word, read_unused, read-closed}

abbrev pub DataStand : List ℕ → ℕ → Type 0
DataStand u d = BeginsWithFlag u × ((5 ≤ length u) × Within (header_word (drop 2 u)) d)

module _ (u : List ℕ) where
  abbrev pub NoWord : Type 0
  NoWord = BeginsWithFlag u × ((5 ≤ length u) × ((d : ℕ) → Within (header_word (drop 2 u)) d → ⊥))

  abbrev pub Unused : Type 0
  Unused = (d : ℕ) × (DataStand u d × (d / 16 ≡ 255))

  abbrev pub Broken : Type 0
  Broken =
      (BeginsWithFlag u → ⊥) ⊎ ((length u < 5) ⊎ ((d : ℕ) × (DataStand u d × ((d / 16 ≤ 254) × (BeginsWithFlag (drop (5 + d / 16) u) → ⊥)))))

  abbrev pub Why : ℕ → Type 0
  Why k = ((k ≡ 15) × Broken) ⊎ (((k ≡ 17) × NoWord) ⊎ ((k ≡ 2) × Unused))

  pub data Ends : Type 0 where
    refuses : (k : ℕ) → Why k → read u ≡ refused k → Ends
    tells : (d : ℕ) (m : Bool) → DataStand u d → d / 16 ≤ 254 → take 2 (drop (5 + d / 16) u) ≡ flag_of m → read u ≡ told (heading (d % 16) m (d / 16)) → Ends

pub flagless-ends : (u : List ℕ) → (BeginsWithFlag u → ⊥) → read u ≡ refused 15
flagless-ends u f = read_no-flag u (flagless u f)

pub short-ends : (u : List ℕ) → length u < 5 → read u ≡ refused 15
short-ends u l = by (flag_cases u)
  where
    by : BeginsWithFlag u ⊎ (flag_in u ≡ None) → read u ≡ refused 15
    by (inl b) = read_short u (begins-flag u b) l
    by (inr e) = read_no-flag u (ap is_neither e)

module _ (u : List ℕ) where
  pub wordless-ends : BeginsWithFlag u → 5 ≤ length u → ((d : ℕ) → Within (header_word (drop 2 u)) d → ⊥) → read u ≡ refused 17
  wordless-ends b l none = read_no_word u (begins-flag u b) l (((golay).nothing_exactly (header_word (drop 2 u))).1 none)

  module _ (d : ℕ) (says : DataStand u d) where
    found : nearest (header_word (drop 2 u)) ≡ Some d
    found = ((golay).found_exactly (header_word (drop 2 u)) d).1 says.1.1

    pub unused-ends : d / 16 ≡ 255 → read u ≡ refused 2
    unused-ends e = read_unused u (begins-flag u says.0) says.1.0 d found (omega arith)

    closing : d / 16 ≤ 254 → read u ≡ closed (d % 16) (d / 16) (flag_in (drop (5 + d / 16) u))
    closing l = read-closed u (begins-flag u says.0) says.1.0 d found l

    pub unclosed-ends : d / 16 ≤ 254 → (BeginsWithFlag (drop (5 + d / 16) u) → ⊥) → read u ≡ refused 15
    unclosed-ends l f = closing l ∙ rw (flagless (drop (5 + d / 16) u) f)

    pub told-ends : (m : Bool) → d / 16 ≤ 254 → take 2 (drop (5 + d / 16) u) ≡ flag_of m → read u ≡ told (heading (d % 16) m (d / 16))
    told-ends m l e = closing l ∙ rw (flag-stands (drop (5 + d / 16) u) m e, (form_marks m).0, (form_marks m).1)

  pub ends : Ends u
  ends = by (flag_cases u)
    where
      closes : (d : ℕ) (says : DataStand u d) → d / 16 ≤ 254 → BeginsWithFlag (drop (5 + d / 16) u) ⊎ (flag_in (drop (5 + d / 16) u) ≡ None) → Ends u
      closes d says l (inl (m, e)) = tells d m says l e (told-ends d says m l e)
      closes d says l (inr e) =
          let none = neither-none (drop (5 + d / 16) u) e in
          refuses 15 (inl (refl, inr (inr (d, (says, (l, none)))))) (unclosed-ends d says l none)

      measures : (d : ℕ) (says : DataStand u d) → Dec (d / 16 ≤ 254) → Ends u
      measures d says (yes l) = closes d says l (flag_cases (drop (5 + d / 16) u))
      measures d says (no l) =
          let small = says.1.1.0 in
          let all : d / 16 ≡ 255 = omega arith in
          refuses 2 (inr (inr (refl, (d, (says, all))))) (unused-ends d says all)

      finds : BeginsWithFlag u → 5 ≤ length u → (f : Option ℕ) → nearest (header_word (drop 2 u)) ≡ f → Ends u
      finds b l (Some d) e =
          measures d (b, (l, ((golay).found_exactly (header_word (drop 2 u)) d).0 e)) (dec_le (d / 16) 254)
      finds b l None e =
          let none = ((golay).nothing_exactly (header_word (drop 2 u))).0 e in
          refuses 17 (inr (inl (refl, (b, (l, none))))) (wordless-ends b l none)

      counts : BeginsWithFlag u → Dec (length u < 5) → Ends u
      counts b (yes l) = refuses 15 (inl (refl, inr (inl l))) (short-ends u l)
      counts b (no l) = finds b (omega arith) (nearest (header_word (drop 2 u))) refl

      by : BeginsWithFlag u ⊎ (flag_in u ≡ None) → Ends u
      by (inl b) = counts b (dec_lt (length u) 5)
      by (inr e) =
          let none = neither-none u e in
          refuses 15 (inl (refl, inl none)) (flagless-ends u none)
