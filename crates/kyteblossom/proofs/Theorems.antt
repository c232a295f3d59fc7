-- The claims of specs/Claims.antt.
--
--   length_answered, encode_answered, receive_answered    what each entry answers
--   checked_exactly                                       which widths have a check
--
-- Assumes nothing.
use mathlib.Core.Path.{◌≡◌, refl, sym, ap, ap₂, ◌∙◌}
use mathlib.Core.Bool.{Bool, true, false, cond, not}
use mathlib.Core.List.{List}
use Prim.Native.Nat.{ℕ, ◌/◌, ◌%◌, ◌≤◌, ◌<◌}
use native.Mathlib.Omega.{arith}
use borrow.Author.Tests.{eqb-true}
use lib.Dec.{eqb, ltb}
use lib.IntN.{ℤ, pos}
use lib.ListN.{length, take, length-append}
use Rattle.calls.specs.Refusal.{Told, refused, told, ended, refusal, Refuses, number, says}
use Rattle.calls.specs.declared.Refusal.{Refusal}
use Rattle.std.specs.Prelude.{Result, Ok, Err}
use Rattle.calls.proofs.Laws.{told-refused, allowed_refuses, refused_refuses, told_refuses}
use Rattle.adaptation.specs.Handed.{badge_number}
use Rattle.checks.specs.Check.{check_of, none, eight, sixteen}
use Rattle.checks.specs.Width.{width_of, kind_at}
use Rattle.adaptation.specs.AL1M.{al1m_tests, length_tests, is_setting, is_sendable, sent_octets, sent_length}
use Rattle.adaptation.specs.Sending.{encode_tests, Sends}
use Rattle.adaptation.specs.Receiving.{RepairLent, has_repair_room, is_word, receive_tests, is_corrected, Receives}
use Rattle.adaptation.specs.declared.Badge.{Badge}
use Rattle.adaptation.specs.declared.Badge.TheVariants.{Clean, Corrected, OutOfReach, CheckFailed, Unchecked}
use Rattle.adaptation.specs.declared.al1m.Judgement.{Judgement}
use Rattle.adaptation.proofs.Laws.{coding-all, sent-small, handed-small, badge_most, refused_none}
use Rattle.kyteblossom.proofs.Answering.{answered, not-below}
use Rattle.kyteblossom.specs.Answer.{answer, packed, receive_answer}
use Rattle.kyteblossom.specs.Header.{is_checked}
use Rattle.kyteblossom.specs.Claims.{WordLength, LengthAnswered, EncodeAnswered, Parts, ReceiveAnswered, CheckedExactly}

-- ---- refusals

-- no refusal has the number 0, which is not below 0
positive : (s l x : Bool) (k : ℕ) → refusal (al1m_tests s l x) ≡ refused k → 1 ≤ k
positive false l x k h = let one : 1 ≡ k = cc in omega arith
positive true false x k h = let two : 2 ≡ k = cc in omega arith
positive true true true k h = let three : 3 ≡ k = cc in omega arith
positive true true false k h = told-refused refl h

-- ---- lengths

module _ (t b e : ℕ) (setting : is_setting b e ≡ true) (sendable : is_sendable t b e ≡ true) where
  length-told : sent_length t b e ≡ told (sent_octets t b e)
  unfolding sent_length
  length-told = rw (setting, sendable)

  length_whole : (0 < t) × WordLength (sent_octets t b e)
  length_whole = let c = coding-all t b e (sent_octets t b e) (sym length-told) in (c.0, (omega (arith, c.0), c.2))

pub length_answered : LengthAnswered
unfolding sent_length
length_answered t b e r is =
    let a = answered _ (positive (is_setting b e) (is_sendable t b e) false) tt tt r (sent_length t b e) is (told_refuses _ _) in (
      a,
      λ h.
          let p = refused_none (is_setting b e) (is_sendable t b e) false (not-below (length_tests t b e) tt tt r a h) in
          (is ∙ ap answer (length-told t b e p.0 p.1), (length_whole t b e p.0 p.1).1),
    )

-- ---- sent units

module _ (b e : ℕ) (u before after : List ℕ) where
  sends-refuses : (o : Result ℕ Refusal) → Sends b e u before o after
      → Refuses (ended (says o) after) (encode_tests (length u) b e (length before)) before
  sends-refuses (Ok m) s = allowed_refuses before _ m after s.0
  sends-refuses (Err k) s = refused_refuses before _ (number k) after s.first s.same

  written-octets : refusal (encode_tests (length u) b e (length before)) ≡ told tt → (r : ℤ) (o : Result ℕ Refusal) → Sends b e u before o after
      → r ≡ answer (says o) → (m : ℕ) × (r ≡ pos m) × WordLength m × Sends b e u before (Ok m) after
  written-octets h r (Ok m) s is =
      let p = refused_none (is_setting b e) (is_sendable (length u) b e) (ltb (length before) (sent_octets (length u) b e)) h in
      let c = s.1 in
      let some = (length_whole (length u) b e p.0 p.1).0 in
      (m, is, (omega (arith, c.count, c.coded.long, length-append u (check_of (kind_at b) u)), sent-small b e m u before after s), s)
  written-octets h r (Err k) s is = told-refused h s.first

pub encode_answered : EncodeAnswered
encode_answered b e u before after r a =
    let is = answered _ (positive (is_setting b e) (is_sendable (length u) b e) (ltb (length before) (sent_octets (length u) b e))) before after r
    (says a.outcome) a.number (sends-refuses b e u before after a.outcome a.encoded) in
    (is, λ h. written-octets b e u before after (not-below _ before after r is h) r a.outcome a.encoded a.number)

-- ---- units that are handed up

receive_says : Result Judgement Refusal → Told ℕ
receive_says (Ok j) = told (packed j)
receive_says (Err k) = refused (number k)

receive-answer : (o : Result Judgement Refusal) → receive_answer o ≡ answer (receive_says o)
unfolding receive_says
receive-answer (Ok j) = refl
receive-answer (Err k) = refl

-- only badge 1 has the number 1
corrected-one : (x : Badge) → eqb (badge_number x) 1 ≡ is_corrected x
corrected-one Clean = refl
corrected-one Corrected = refl
corrected-one OutOfReach = refl
corrected-one CheckFailed = refl
corrected-one Unchecked = refl

-- numbers that are small enough for the room that each has
module _ (j : Judgement) (few : j.changed < 256) (short : j.length < 256) (w after : List ℕ) where
  badge-back : packed j % 256 ≡ badge_number j.badge
  badge-back = omega (arith, badge_most j.badge)

  length_back : packed j / 65536 ≡ j.length
  length_back = omega (arith, badge_most j.badge)

  parts : Parts (pos (packed j)) j w after
  parts = record {
    number = refl;
    fits = omega (arith, badge_most j.badge);
    badge_is = ap pos badge-back;
    changed_is = omega (arith, badge_most j.badge);
    length_is = length_back;
    unit_is = ap₂ take length_back
        (ap (λ (c : Bool). cond c after w) (ap (λ (n : ℕ). eqb n 1) badge-back ∙ corrected-one j.badge));
  }

module _ (b e : ℕ) (w : List ℕ) (before after : RepairLent) where
  receives-refuses : (o : Result Judgement Refusal) → Receives b e w before o after
      → Refuses (ended (receive_says o) after) (receive_tests (length w) b e before) before
  unfolding receive_says
  receives-refuses (Ok j) p = allowed_refuses before _ (packed j) after p.0
  receives-refuses (Err k) p = refused_refuses before _ (number k) after p.first p.same

  handed-parts : refusal (receive_tests (length w) b e before) ≡ told tt → (r : ℤ) (o : Result Judgement Refusal) → Receives b e w before o after
      → r ≡ receive_answer o → (j : Judgement) × Receives b e w before (Ok j) after × Parts r j w after.repair
  handed-parts h r (Ok j) p is =
      let small = handed-small b e w before after j p in
      (j, p, rw is (parts j (omega (arith, small)) (omega (arith, small)) w after.repair))
  handed-parts h r (Err k) p is = told-refused h p.first

pub receive_answered : ReceiveAnswered
receive_answered b e w before after r a =
    let is = answered _ (positive (is_setting b e) (is_word (length w) b e) (not (has_repair_room (length w) e before))) before after r
    (receive_says a.outcome) (a.number ∙ receive-answer a.outcome) (receives-refuses b e w before after a.outcome a.received) in
    (is, λ h. handed-parts b e w before after (not-below _ before after r is h) r a.outcome a.received a.number)

-- ---- the widths

-- by the three tests of the width, of which one holds at the most
pub checked_exactly : CheckedExactly
unfolding width_of none eight sixteen
checked_exactly b = go (eqb b 0) (eqb b 8) (eqb b 16) refl refl refl
  where
    go : (x y z : Bool) → eqb b 0 ≡ x → eqb b 8 ≡ y → eqb b 16 ≡ z → is_checked b ≡ not (eqb (kind_at b).octets 0)
    go true y z p q r = rw (eqb-true b 0 p)
    go false true z p q r = rw (p, q)
    go false false true p q r = rw (p, q, r)
    go false false false p q r = rw (p, q, r)
