-- Demands 1 and 3 of the C entries, from what is claimed of their answers and demand 3 of AL1M.
--
--   host     they are met
--
-- Assumes nothing.
use mathlib.Core.Path.{◌≡◌, refl, sym, ap, ap₂, subst, ◌∙◌}
use mathlib.Core.Bool.{Bool, true, false, cond, not, ◌&&◌, ◌||◌, and-true, and-false}
use mathlib.Core.List.{List}
use Prim.Native.Nat.{ℕ, zero, suc, ◌-◌, ◌*◌, ◌%◌, ◌≤◌}
use Rattle.std.specs.Prelude.{Option, Some, None, Result, Ok}
use native.Mathlib.Omega.{arith}
use lib.Dec.{eqb}
use lib.IntN.{ℤ, pos}
use lib.ListN.{length, take}
use lib.Seq.{take-take}
use Rattle.octets.specs.Tests.{never}
use Rattle.calls.specs.declared.Refusal.{Refusal}
use Rattle.codeword.specs.Changed.{changed_places}
use Rattle.codeword.specs.CodeWord.{distance, Within}
use Rattle.codeword.specs.Repair.{Repaired}
use Rattle.codeword.proofs.Laws.{found_is_it}
use Rattle.checks.specs.Check.{Kind, agrees}
use Rattle.checks.specs.Width.{kind_at}
use Rattle.adaptation.specs.Handed.{badge_number}
use Rattle.adaptation.specs.Sending.{Sends}
use Rattle.adaptation.specs.Receiving.{RepairLent, is_bare, badge_of, handed_unit, Receives}
use Rattle.adaptation.specs.Claims.{is_faulty, badge_of_sent}
use Rattle.adaptation.specs.declared.Badge.{Badge}
use Rattle.adaptation.specs.declared.Badge.TheVariants.{Clean, Corrected, OutOfReach, CheckFailed, Unchecked}
use Rattle.adaptation.specs.declared.al1m.Judgement.{Judgement}
use Rattle.adaptation.proofs.Laws.{received_unique}
use Rattle.kyteblossom.specs.Answer.{packed, receive_answer, EncodeIs, ReceiveIs}
use Rattle.kyteblossom.specs.Header.{is_below, told_badge, is_badge, is_checked, is_trusted}
use Rattle.kyteblossom.specs.Claims.{Parts}
use Rattle.kyteblossom.proofs.Laws.{length_answered, encode_answered, receive_answered, record_write_answered, record_read_answered, forms_are, packet_write_answered, packet_read_answered, packet_back, checked_exactly}
use Rattle.demands.specs.Repairs.{Repairs}
use Rattle.demands.specs.Host.{found_badge, FoundTold, HostRepairs, SentTold, Host}
use Rattle.demands.proofs.Reached.{demand3}

-- ---- the badges' numbers

out-of_reach : (x : Badge) → badge_number x ≡ 2 → x ≡ OutOfReach
out-of_reach Clean h = absurd (omega arith)
out-of_reach Corrected h = absurd (omega arith)
out-of_reach OutOfReach h = refl
out-of_reach CheckFailed h = absurd (omega arith)
out-of_reach Unchecked h = absurd (omega arith)

found_number : (x : Bool) (d : ℕ) (a : Bool) → badge_number (badge_of x (Some d) a) ≡ found_badge x d a
found_number x d false = refl
found_number true zero true = refl
found_number false zero true = refl
found_number x (suc d) true = refl

found-faultless : (x : Bool) (d : ℕ) → is_faulty (badge_of x (Some d) true) ≡ false
found-faultless true zero = refl
found-faultless false zero = refl
found-faultless x (suc d) = refl

-- ---- trust

bare-unchecked : (b e : ℕ) → is_checked b ≡ true → is_bare (kind_at b) e ≡ false
bare-unchecked b e h = go (eqb (kind_at b).octets 0) refl
  where
    go : (x : Bool) → eqb (kind_at b).octets 0 ≡ x → is_bare (kind_at b) e ≡ false
    go true p = let q = sym h ∙ checked_exactly b ∙ ap not p in never (cc)
    go false p = rw p (and-false (eqb e 0))

trusted-number : (b e d : ℕ) (a : Bool) → ((eqb (found_badge (is_bare (kind_at b) e) d a) 0 || eqb (found_badge (is_bare (kind_at b) e) d a) 1) && is_checked b)
    ≡ (is_checked b && a)
trusted-number b e d false = sym (and-false (is_checked b))
trusted-number b e (suc d) true = sym (and-true (is_checked b))
trusted-number b e zero true = go (is_checked b) refl
  where
    go : (x : Bool) → is_checked b ≡ x
        → ((eqb (cond (is_bare (kind_at b) e) 4 0) 0 || eqb (cond (is_bare (kind_at b) e) 4 0) 1) && is_checked b) ≡ (is_checked b && true)
    go true p = rw (bare-unchecked b e p) (sym (and-true (is_checked b)))
    go false p = rw p (and-false (eqb (cond (is_bare (kind_at b) e) 4 0) 0 || eqb (cond (is_bare (kind_at b) e) 4 0) 1))

-- ---- what is told of a word that is handed up

module _ (b e : ℕ) (w : List ℕ) (before after : RepairLent) (r : ℤ) (j : Judgement) (p : Receives b e w before (Ok j) after)
    (q : Parts r j w after.repair) where
  known : Repairs b e w before after j
  known = demand3.repairs b e w before after j p

  number : packed j % 256 ≡ badge_number j.badge
  number = let h : told_badge (pos (packed j)) ≡ pos (badge_number j.badge) = rw q.number at q.badge_is in cc

  is-badge : (k : ℕ) → is_badge r k ≡ eqb (badge_number j.badge) k
  is-badge k = ap (λ (z : ℤ). is_badge z k) q.number ∙ ap (λ (n : ℕ). eqb n k) number

  trusted-by : (n : ℕ) → badge_number j.badge ≡ n → is_trusted r b ≡ ((eqb n 0 || eqb n 1) && is_checked b)
  trusted-by n h = ap₂ (λ x y. (x || y) && is_checked b) (is-badge 0 ∙ ap (λ (k : ℕ). eqb k 0) h) (is-badge 1 ∙ ap (λ (k : ℕ). eqb k 1) h)

  lost-told : told_badge r ≡ pos 2 → j.badge ≡ OutOfReach
  lost-told h = let two : pos (badge_number j.badge) ≡ pos 2 = sym q.badge_is ∙ h in out-of_reach j.badge (cc)

  lost-tells : j.badge ≡ OutOfReach → told_badge r ≡ pos 2
  lost-tells h = q.badge_is ∙ ap (λ (x : Badge). pos (badge_number x)) h

  module _ (c : List ℕ) (near : Within e w c) where
    agreeing : Bool
    agreeing = agrees (kind_at b) (take (length w - 2 * e) c)

    judged_as : j.badge ≡ badge_of (is_bare (kind_at b) e) (Some (distance w c)) agreeing
    unfolding agreeing
    judged_as = go p.1.reach p.1.repaired p.1.badge_is
      where
        go : (o : Option ℕ) → Repaired e w before o after
            → j.badge ≡ badge_of (is_bare (kind_at b) e) o (agrees (kind_at b) (take (length w - 2 * e) after.repair))
            → j.badge ≡ badge_of (is_bare (kind_at b) e) (Some (distance w c)) agreeing
        go None f h = absurd (known.found.1 (c, near) h)
        go (Some d) f h =
            let k = found_is_it e w before after d f c near in
            let m : take (length w - 2 * e) after.repair ≡ take (length w - 2 * e) c =
            sym (take-take (length w - 2 * e) (length w) after.repair (omega arith)) ∙ ap (take (length w - 2 * e)) k.word in
            h ∙ ap₂ (badge_of (is_bare (kind_at b) e)) (ap Some k.count) (ap (agrees (kind_at b)) m)

    badge-told : badge_number j.badge ≡ found_badge (is_bare (kind_at b) e) (distance w c) agreeing
    badge-told = ap badge_number judged_as ∙ found_number (is_bare (kind_at b) e) (distance w c) agreeing

    unit-told : agreeing ≡ true → handed_unit j.badge w after.repair j.length ≡ take j.length c
    unit-told a =
        let f = known.faultless (ap is_faulty (judged_as ∙ ap (badge_of (is_bare (kind_at b) e) (Some (distance w c))) a)
        ∙ found-faultless (is_bare (kind_at b) e) (distance w c)) in
        f.1.unit ∙ ap (take j.length) (known.once f.0 c f.1.within near)

    found-told : FoundTold b e w before after r c
    unfolding agreeing
    found-told = record {
      shown = rw q.changed_is (known.repaired c near);
      badge = q.badge_is ∙ ap pos badge-told;
      trusted = trusted-by _ badge-told ∙ trusted-number b e (distance w c) agreeing;
      unit = λ a. q.unit_is ∙ unit-told a ∙ ap (λ (t : ℕ). take t c) (sym q.length_is);
    }

  host-repairs : HostRepairs b e w before after r
  host-repairs = record {
    long = q.length_is ∙ p.1.length_is;
    lost = (λ h c near. known.found.1 (c, near) (lost-told h), λ h. lost-tells (known.lost h).0);
    untouched = λ h.
        let none = known.lost (λ c near. known.found.1 (c, near) (lost-told h)) in
        (q.changed_is ∙ none.1, none.2, trusted-by 2 (ap badge_number none.0));
    found = (λ h. known.found.0 (λ x. h (lost-tells x)), λ c h. known.found.1 c (lost-told h));
    repaired = found-told;
    as_received = λ h.
        q.unit_is ∙ known.as_received (λ x. h (q.badge_is ∙ ap (λ (y : Badge). pos (badge_number y)) x)) ∙ ap (λ (k : ℕ). take k w) (sym q.length_is);
  }

-- the answer's parts are those of the one judgement that receiving allows
unit-same : (i j : Judgement) → ◌≡◌ {A = Result Judgement Refusal} (Ok i) (Ok j) → i ≡ j
unit-same i j h = cc

parts-of : (b e : ℕ) (w : List ℕ) (before after : RepairLent) (r : ℤ) (j : Judgement) → ReceiveIs b e w before r after
    → Receives b e w before (Ok j) after → Parts r j w after.repair
parts-of b e w before after r j g p =
    let same = (received_unique b e w before after after g.outcome (Ok j) g.received p).0 in
    let k = (receive_answered b e w before after r g).1 (ap is_below (g.number ∙ ap receive_answer same)) in
    subst (λ (i : Judgement). Parts r i w after.repair)
    (unit-same k.0 j (received_unique b e w before after after (Ok k.0) (Ok j) k.1 p).0) k.2

repairs : (b e : ℕ) (w : List ℕ) (before after : RepairLent) (r : ℤ) → ReceiveIs b e w before r after → is_below r ≡ false
    → HostRepairs b e w before after r
repairs b e w before after r a h =
    let k = (receive_answered b e w before after r a).1 h in host-repairs b e w before after r k.0 k.1 k.2

-- ---- what was sent

sent-number : (κ : Kind) (e d : ℕ) → badge_number (badge_of_sent κ e d) ≡ found_badge (is_bare κ e) d true
sent-number κ e zero = found_number (is_bare κ e) zero true
sent-number κ e (suc d) = found_number (is_bare κ e) (suc d) true

sent-told : (b e : ℕ) (c u w : List ℕ) (before after : RepairLent) (r : ℤ)
    → (p : Receives b e w before (Ok (record { badge = badge_of_sent (kind_at b) e (distance w c); changed = distance w c; length = length u })) after)
    → Parts r (record { badge = badge_of_sent (kind_at b) e (distance w c); changed = distance w c; length = length u }) w after.repair
    → handed_unit (badge_of_sent (kind_at b) e (distance w c)) w after.repair (length u) ≡ u
    → take (distance w c) after.places ≡ changed_places w c → SentTold b e c u w after r
sent-told b e c u w before after r p q h l =
    let n = sent-number (kind_at b) e (distance w c) in
    record {
      badge = q.badge_is ∙ ap pos n;
      changed = q.changed_is;
      places = rw q.changed_is l;
      long = q.length_is;
      unit = q.unit_is ∙ h;
      trusted = trusted-by b e w before after r _ p q _ n ∙ trusted-number b e (distance w c) true ∙ and-true (is_checked b);
    }

as_sent : (b e m : ℕ) (u room sent w : List ℕ) (before after : RepairLent) (r : ℤ) → EncodeIs b e u room (pos m) sent
    → length w ≡ m → distance w (take m sent) ≤ e → m ≤ length before.repair → e ≤ length before.places → ReceiveIs b e w before r after
    → SentTold b e (take m sent) u w after r
as_sent b e m u room sent w before after r a l near fits list g =
    let k = (encode_answered b e u room sent (pos m) a).1 refl in
    let s : Sends b e u room (Ok m) sent = subst (λ (n : ℕ). Sends b e u room (Ok n) sent) (cc k.1) k.3 in
    let h = demand3.as_sent b e m u room sent w before after g.outcome s l near fits list g.received in
    let p = subst (λ (o : Result Judgement Refusal). Receives b e w before o after) h.0 g.received in
    sent-told b e (take m sent) u w before after r p (parts-of b e w before after r _ g p) h.1 h.2

pub host : Host
host = record {
  lengths = length_answered;
  encoding = encode_answered;
  receiving = receive_answered;
  writing = record_write_answered;
  reading = record_read_answered;
  forms = forms_are;
  packing = packet_write_answered;
  unpacking = packet_read_answered;
  packet_back = packet_back;
  repairs = repairs;
  as_sent = as_sent;
}
