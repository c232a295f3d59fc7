-- Demand 3, from what is claimed of the code word and of AL1M.
--
--   demand3     demand 3
--
-- Assumes nothing.
use mathlib.Core.Path.{◌≡◌, refl}
use mathlib.Core.Bool.{not}
use mathlib.Core.List.{List}
use Prim.Native.Nat.{ℕ, ◌+◌, ◌*◌, ◌-◌, ◌≤◌}
use Rattle.std.specs.Prelude.{Option, Some, None, Ok}
use borrow.Author.Tests.{leb-true}
use lib.Dec.{leb}
use lib.ListN.{length, take}
use Rattle.octets.specs.Tests.{both_true}
use Rattle.codeword.specs.CodeWord.{Within, longest_word}
use Rattle.codeword.specs.Repair.{Repaired}
use Rattle.codeword.proofs.Laws.{places_exactly, places_counted, never_second}
use Rattle.checks.specs.Check.{agrees}
use Rattle.checks.specs.Width.{kind_at}
use Rattle.calls.specs.Refusal.{told, refusal}
use Rattle.adaptation.specs.AL1M.{is_setting}
use Rattle.adaptation.specs.Receiving.{RepairLent, has_repair_room, is_word, receive_tests, is_bare, badge_of, handed_unit, Receives}
use Rattle.adaptation.specs.declared.Badge.{Badge}
use Rattle.adaptation.specs.declared.Badge.TheVariants.{Clean, Corrected, OutOfReach, CheckFailed, Unchecked}
use Rattle.adaptation.specs.declared.al1m.Judgement.{Judgement}
use Rattle.adaptation.proofs.Laws.{refused_none}
use Rattle.adaptation.proofs.Laws.{sent_is_handed_up, found_is_shown, badge_exactly, out_of_reach_exactly, out_of_reach_leaves, faultless_is_code_word}
use Rattle.demands.specs.Repairs.{Repairs, Demand3}

short : (n e : ℕ) (w : List ℕ) (before : RepairLent) → refusal (receive_tests (length w) n e before) ≡ told tt → length w ≤ longest_word
unfolding is_word
short n e w before a =
    let b = (refused_none (is_setting n e) (is_word (length w) n e) (not (has_repair_room (length w) e before)) a).1 in
    leb-true (length w) longest_word (both_true (leb (length w) longest_word) (leb (1 + (kind_at n).octets + 2 * e) (length w)) b).0

as-received : (x : Badge) (w after : List ℕ) (t : ℕ) → (x ≡ Corrected → ⊥) → handed_unit x w after t ≡ take t w
as-received Clean w after t f = refl
as-received Corrected w after t f = absurd (f refl)
as-received OutOfReach w after t f = refl
as-received CheckFailed w after t f = refl
as-received Unchecked w after t f = refl

module _ (n e : ℕ) (w : List ℕ) (before after : RepairLent) (j : Judgement) (a : Receives n e w before (Ok j) after) where
  found : (x : Option ℕ) → Repaired e w before x after → j.badge ≡ badge_of (is_bare (kind_at n) e) x (agrees (kind_at n) (take (length w - 2 * e) after.repair))
      → (j.badge ≡ OutOfReach → ⊥) → (c : List ℕ) × Within e w c
  found (Some k) p b h = (p.found, p.within)
  found None p b h = absurd (h b)

  repairs : Repairs n e w before after j
  repairs = record {
    found = (found a.1.reach a.1.repaired a.1.badge_is, λ c b. (out_of_reach_exactly n e w before after j a).0 b c.0 c.1);
    repaired = found_is_shown n e w before after j a;
    once = λ c d p q. never_second e w c d (short n e w before a.0) p q;
    badge = λ x. badge_exactly x n e w before after j a;
    faultless = faultless_is_code_word n e w before after j a;
    as_received = as-received j.badge w after.repair j.length;
    lost = λ h. let b = (out_of_reach_exactly n e w before after j a).1 h in let l = out_of_reach_leaves n e w before after j a b in (b, l.0, l.1);
  }

pub demand3 : Demand3
demand3 = record { places = places_exactly; counted = places_counted; repairs = repairs; as_sent = sent_is_handed_up }
