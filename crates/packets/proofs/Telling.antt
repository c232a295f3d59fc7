-- When reading gives each refusal.
--
--   of_reading   exactly when, and that there is no other
--   next_flag    what is told of the next packet's flag
--   read-within  .. so that it lies within the octets
--
-- Assumes nothing.
use mathlib.Core.Path.{◌≡◌, sym, ap, ◌∙◌}
use mathlib.Core.Logic.{◌⊎◌, inl, inr, ⊎_elim}
use mathlib.Core.List.{List}
use Prim.Native.Nat.{ℕ, ◌+◌, ◌/◌, ◌%◌, ◌≤◌, ◌<◌}
use native.Mathlib.Omega.{arith}
use lib.ListN.{length, take, drop, length-take, length-drop}
use Rattle.calls.specs.Refusal.{refused, told}
use Rattle.calls.proofs.Laws.{told-refused, told_same}
use Rattle.packets.specs.Flag.{flag_of}
use Rattle.packets.specs.Packet.{Heading, read}
use Rattle.packets.specs.Header.{data_of}
use Rattle.packets.specs.Claims.{BeginsWithFlag, HeaderStands, Says, OfReading, NextFlag}
use Rattle.packets.proofs.Fields.{length_of, says_data, data_says}
use Rattle.packets.proofs.Laying.{flag-length}
use Rattle.packets.proofs.Ends.{DataStand, NoWord, Unused, Broken, Why, Ends, refuses, tells, ends, flagless-ends, short-ends, wordless-ends, unused-ends, unclosed-ends}

module _ (u : List ℕ) where
  why : (k : ℕ) → read u ≡ refused k → Why u k
  why k e = by (ends u)
    where
      by : Ends u → Why u k
      by (refuses j w r) = let same : j ≡ k = cc in rw same at w
      by (tells d m s l f r) = told-refused r e

  stands : HeaderStands u → (c n : ℕ) → Says u c n → DataStand u (data_of c n)
  stands (b, l) c n s = (b, (l, says_data u c n s))

  -- what stands where 15 is given, by the header
  abbrev Cut : Type 0
  Cut = (BeginsWithFlag u → ⊥)
      ⊎ ((length u < 5) ⊎ (HeaderStands u × (c : ℕ) × (n : ℕ) × Says u c n × (n ≤ 254) × (BeginsWithFlag (drop (5 + n) u) → ⊥)))

  breaks : Broken u → Cut
  breaks (inl f) = inl f
  breaks (inr (inl l)) = inr (inl l)
  breaks (inr (inr (d, ((b, (l, w)), (fits, none))))) = inr (inr ((b, l), d % 16, d / 16, data_says u d w, fits, none))

  broken : Cut → read u ≡ refused 15
  broken (inl f) = flagless-ends u f
  broken (inr (inl l)) = short-ends u l
  broken (inr (inr (hs, c, n, s, fits, none))) =
      let long = length_of c n (omega (arith, s.0)) in
      unclosed-ends u (data_of c n) (stands hs c n s) (rw long fits) (rw long none)

  unsaid : NoWord u → HeaderStands u × ((c n : ℕ) → Says u c n → ⊥)
  unsaid (b, (l, none)) = ((b, l), λ c n s. none (data_of c n) (says_data u c n s))

  said255 : Unused u → HeaderStands u × (c : ℕ) × Says u c 255
  said255 (d, ((b, (l, w)), all)) = ((b, l), d % 16, rw all at (data_says u d w))

  pub of_reading : OfReading u
  of_reading = record {
    read17 = (
      λ e. ⊎_elim (λ h. absurd (omega arith)) (⊎_elim (λ h. unsaid h.1) (λ h. absurd (omega arith))) (why 17 e),
      λ h. wordless-ends u h.0.0 h.0.1 (λ d w. h.1 (d % 16) (d / 16) (data_says u d w)),
    );
    read2 = (
      λ e. ⊎_elim (λ h. absurd (omega arith)) (⊎_elim (λ h. absurd (omega arith)) (λ h. said255 h.1)) (why 2 e),
      λ (hs, c, s). unused-ends u (data_of c 255) (stands hs c 255 s) (length_of c 255 (omega (arith, s.0))),
    );
    read15 = (λ e. ⊎_elim (λ h. breaks h.1) (⊎_elim (λ h. absurd (omega arith)) (λ h. absurd (omega arith))) (why 15 e), broken);
    others = λ k e. ⊎_elim (λ h. inl h.0) (⊎_elim (λ h. inr (inl h.0)) (λ h. inr (inr h.0))) (why k e);
  }

pub next_flag : NextFlag
next_flag u p e = by (ends u)
  where
    by : Ends u → take 2 (drop p.next u) ≡ flag_of p.mark
    by (refuses k w r) = told-refused e r
    by (tells d m s l f r) = rw (← told_same _ p (sym r ∙ e)) f

pub read-within : (u : List ℕ) (p : Heading) → read u ≡ told p → p.next + 2 ≤ length u
read-within u p e = let two = rw (length-take, length-drop) at (ap length (next_flag u p e)) in omega (arith, two, flag-length p.mark)
