-- The claims on packets (specs/Claims.antt), by what is claimed of writing and reading them.
--
--   forms_are                                     the forms of a flag that the host hands in
--   packet_write_answered, packet_read_answered   the claims on each entry
--   packet_back                                   .. and on both
--   packet_write-once, packet-read-once           any two answers that a promise allows are equal, and so is what they leave
--
-- Assumes nothing.
use mathlib.Core.Path.{◌≡◌, refl, sym, ap, subst, ◌∙◌}
use mathlib.Core.Logic.{◌⊎◌, inl, inr}
use mathlib.Core.Bool.{Bool, true, false, cond, true≢false}
use mathlib.Core.List.{List, [], ◌++◌}
use Prim.Native.Nat.{ℕ, zero, suc, ◌+◌, ◌/◌, ◌≤◌}
use native.Mathlib.Omega.{arith}
use borrow.Author.Tests.{ne_eqb}
use lib.IntN.{ℤ, pos, negsuc, neg_ℤ}
use lib.ListN.{length, take, drop}
use Rattle.calls.specs.Refusal.{Told, refused, told, Ended, ended, leaving, Test, refusal, Refuses}
use Rattle.calls.proofs.Laws.{told-refused}
use Rattle.packets.specs.Claims.{Carries}
use Rattle.packets.specs.Packet.{wrote, write_tests, Heading, heading, read_tests, read}
use Rattle.packets.proofs.Laws.{packets, read-refuses, wrote-refuses, read-told-small, write-small}
use Rattle.kyteblossom.specs.Answer.{answer, is_complemented, PacketWriteIs, packet_number, packet_says}
use Rattle.kyteblossom.specs.Header.{is_below, told_code, told_mark, told_payload_length, told_payload, told_next}
use Rattle.kyteblossom.specs.Claims.{FormsAre, PacketWriteAnswered, PacketParts, PacketReadAnswered, PacketBack}
use Rattle.kyteblossom.proofs.Answering.{answered, told_so}

-- no refusal has the number 0
one_of_three : (a b c k : ℕ) → 1 ≤ a → 1 ≤ b → 1 ≤ c → (k ≡ a) ⊎ ((k ≡ b) ⊎ (k ≡ c)) → 1 ≤ k
one_of_three a b c k x y z (inl e) = omega (arith, e)
one_of_three a b c k x y z (inr (inl e)) = omega (arith, e)
one_of_three a b c k x y z (inr (inr e)) = omega (arith, e)

-- ---- writing

module _ (o c m : ℕ) (xs before after : List ℕ) (r : ℤ) (a : PacketWriteIs o c m xs before r after) where
  write-positive : (k : ℕ) → refusal (write_tests c xs (length before)) ≡ refused k → 1 ≤ k
  write-positive k h =
      let e = ((wrote-refuses (is_complemented o) c (is_complemented m) xs before).exactly k).1 h in
      one_of_three 4 2 3 k (omega arith) (omega arith) (omega arith)
      ((packets.of_writing (is_complemented o) c (is_complemented m) xs before).others k e).0

  write-refuses : Refuses (ended a.outcome after) (write_tests c xs (length before)) before
  write-refuses =
      subst (λ (d : Ended ℕ (List ℕ)). Refuses d (write_tests c xs (length before)) before) (sym a.writes)
      (wrote-refuses (is_complemented o) c (is_complemented m) xs before)

  written_so : is_below r ≡ false
      → (r ≡ pos (length xs + 7)) × (wrote (is_complemented o) c (is_complemented m) xs before ≡ leaving (length xs + 7) after)
  written_so h =
      let t = told_so (λ (d : Ended ℕ (List ℕ)). d ≡ wrote (is_complemented o) c (is_complemented m) xs before) after a.outcome r a.number h
      a.writes (λ k e. write-positive k ((write-refuses.exactly k).0 e)) in
      let n : t.0 ≡ length xs + 7 = (packets.write_answered (is_complemented o) c (is_complemented m) xs before after t.0 (sym t.2)).0 in
      (t.1 ∙ ap pos n, sym t.2 ∙ ap (λ (k : ℕ). leaving k after) n)

  write-short : is_below r ≡ false → length xs ≤ 254
  write-short h =
      let e = ap (λ (d : Ended ℕ (List ℕ)). d.answer) (written_so h).1 in
      omega (arith, write-small (is_complemented o) c (is_complemented m) xs before (length xs + 7) e)

pub packet_write_answered : PacketWriteAnswered
packet_write_answered o c m xs before after r a = (
  answered (write_tests c xs (length before)) (write-positive o c m xs before after r a) before after r a.outcome a.number
      (write-refuses o c m xs before after r a),
  λ h.
      let w = written_so o c m xs before after r a h in
      let s = packets.write_answered (is_complemented o) c (is_complemented m) xs before after (length xs + 7) w.1 in
      (w.0, write-short o c m xs before after r a h, s.1, s.2),
)

pub packet_write-once : (o c m : ℕ) (xs before after left : List ℕ) (r q : ℤ) → PacketWriteIs o c m xs before r after → PacketWriteIs o c m xs before q left
    → (r ≡ q) × (after ≡ left)
packet_write-once o c m xs before after left r q a b =
    let same = a.writes ∙ sym b.writes in (
      a.number ∙ ap (λ (d : Ended ℕ (List ℕ)). answer d.answer) same ∙ sym b.number,
      ap (λ (d : Ended ℕ (List ℕ)). d.left) same,
    )

-- ---- reading

-- a packet's number refuses where what it says does
number-refuses : (t : Told Heading) (l : List Test) → Refuses {X = Unit {0}} (ended t tt) l tt → Refuses {X = Unit {0}} (ended (packet_says t) tt) l tt
number-refuses (told p) l h = record {
  exactly = λ k. (λ e. told-refused {A = ℕ} refl e, λ e. told-refused {A = Heading} refl ((h.exactly k).1 e));
  leaves = λ k e. refl;
}
number-refuses (refused i) l h = record {
  exactly = λ k. (
    λ e. (let s : i ≡ k = cc in (h.exactly k).0 (ap refused s)),
    λ e. (let f = (h.exactly k).1 e in let s : i ≡ k = cc in ap refused s),
  );
  leaves = λ k e. refl;
}

mark_few : (m : Bool) → cond m 1 0 ≤ 1
mark_few true = omega arith
mark_few false = omega arith

-- numbers that are small enough for the room that each has
module _ (u : List ℕ) (p : Heading) (code : p.code ≤ 15) (short : p.length ≤ 254) (next : p.next ≡ 5 + p.length) where
  length_back : packet_number p.code p.mark p.length / 256 ≡ p.length
  length_back = omega (arith, mark_few p.mark)

  packet-parts : PacketParts u p (pos (packet_number p.code p.mark p.length))
  packet-parts = record {
    number = refl;
    fits = omega (arith, mark_few p.mark);
    code_is = ap pos (omega (arith, mark_few p.mark));
    mark_is = omega (arith, mark_few p.mark);
    length_is = length_back;
    payload_is = ap (λ (n : ℕ). take n (drop 5 u)) length_back;
    next_is = ap (λ (n : ℕ). 5 + n) length_back ∙ sym next;
  }

module _ (u : List ℕ) where
  read-positive : (k : ℕ) → refusal (read_tests u) ≡ refused k → 1 ≤ k
  read-positive k h =
      one_of_three 15 17 2 k (omega arith) (omega arith) (omega arith) ((packets.of_reading u).others k (((read-refuses u).exactly k).1 h))

  told-parts : (r : ℤ) (p : Heading) → read u ≡ told p → r ≡ answer (packet_says (read u)) → PacketParts u p r
  told-parts r p e is =
      let small = read-told-small u p e in
      let parts = packet-parts u p small.0 small.1 ((packets.read_exactly u p).0 e).next in
      subst (λ (z : ℤ). PacketParts u p z) (sym (is ∙ ap (λ (t : Told Heading). answer (packet_says t)) e)) parts

  read_so : (r : ℤ) → r ≡ answer (packet_says (read u)) → is_below r ≡ false → (t : Told Heading) → read u ≡ t
      → (p : Heading) × Carries u p × PacketParts u p r
  read_so r is h (told p) e = (p, (packets.read_exactly u p).0 e, told-parts r p e is)
  read_so r is h (refused zero) e = absurd (omega (arith, read-positive 0 (((read-refuses u).exactly 0).0 e)))
  read_so r is h (refused (suc k)) e =
      absurd (true≢false (sym (ap is_below (is ∙ ap (λ (t : Told Heading). answer (packet_says t)) e)) ∙ h))

refused-parts : (u : List ℕ) (r : ℤ) → is_below r ≡ true → (told_code r ≡ neg_ℤ (pos 1)) × (told_mark r ≡ 0) × (told_payload_length r ≡ 0) × (told_payload u r ≡ []) × (told_next r ≡ 0)
refused-parts u (pos n) e = absurd (true≢false (sym e))
refused-parts u (negsuc k) e = (refl, refl, refl, refl, refl)

pub packet_read_answered : PacketReadAnswered
packet_read_answered u r is = (
  answered (read_tests u) (read-positive u) tt tt r (packet_says (read u)) is (number-refuses (read u) (read_tests u) (read-refuses u)),
  λ h. read_so u r is h (read u) refl,
  λ p c. told-parts u r p ((packets.read_exactly u p).1 c) is,
  refused-parts u r,
)

pub packet-read-once : (u : List ℕ) (r q : ℤ) → r ≡ answer (packet_says (read u)) → q ≡ answer (packet_says (read u)) → r ≡ q
packet-read-once u r q a b = a ∙ sym b

-- ---- both

pub forms_are : FormsAre
forms_are = (refl, λ n. rw (ne_eqb (suc n) 0 (λ e. absurd (omega arith))))

pub packet_back : PacketBack
packet_back o c m xs before after rest r q a h is =
    let w = written_so o c m xs before after r a h in
    let b = packets.read_back (is_complemented o) c (is_complemented m) xs before after rest (length xs + 7) w.1 in
    let parts = told-parts (take (length xs + 7) after ++ rest) q (heading c (is_complemented m) (length xs)) b.0 is in
    (parts.code_is, parts.mark_is, parts.payload_is ∙ b.1, parts.next_is)
