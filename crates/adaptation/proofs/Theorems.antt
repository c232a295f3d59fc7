-- The claims of specs/Claims.antt but for those on badges; and how large the numbers are that AL1M answers.
--
--   sent_is_handed_up, encoded_unique, received_unique, refusal_leaves   the claims
--   sent-small     a sent unit has at most 255 octets
--   handed-small   a unit that is handed up has fewer, and at most 127 of the word's octets were changed
--
-- Assumes nothing.
use mathlib.Core.Path.{◌≡◌, sym, ap, ap₂, ◌∙◌}
use mathlib.Core.Bool.{true, not}
use mathlib.Core.List.{List}
use Prim.Native.Nat.{ℕ, ◌-◌, ◌*◌, ◌≤◌, ◌<◌}
use Rattle.std.specs.Prelude.{Option, Some, None}
use native.Mathlib.Omega.{arith}
use borrow.Author.Tests.{le-leb, leb-true}
use lib.Dec.{leb}
use lib.ListN.{length, take}
use Rattle.octets.specs.Tests.{both_true}
use Rattle.octets.specs.Written.{written}
use Rattle.codeword.specs.CodeWord.{distance, Within, longest_word}
use Rattle.codeword.specs.Changed.{changed_places}
use Rattle.codeword.specs.Repair.{RepairLent, has_repair_room, Repaired}
use Rattle.codeword.proofs.Laws.{code_word_only, repaired_unique}
use Rattle.calls.specs.Refusal.{Told, refused, told, refusal, number}
use Rattle.calls.proofs.Laws.{told-refused, number-once}
use Rattle.checks.specs.Check.{agrees}
use Rattle.checks.specs.Width.{is_width, kind_at}
use Rattle.adaptation.specs.AL1M.{is_setting, is_sendable, sent_octets}
use Rattle.adaptation.specs.Sending.{message, Coded, Sends}
use Rattle.adaptation.specs.Receiving.{is_word, receive_tests, is_bare, badge_of, changed_of, handed_unit, Receives}
use Rattle.adaptation.specs.Claims.{badge_of_sent, is_agreeing, SentIsHandedUp, EncodedUnique, ReceivedUnique, RefusalLeaves}
use Rattle.calls.specs.declared.Refusal.{Refusal}
use Rattle.std.specs.Prelude.{Result, Ok, Err}
use Rattle.adaptation.specs.declared.Badge.{Badge}
use Rattle.adaptation.specs.declared.al1m.Judgement.{Judgement}
use Rattle.adaptation.proofs.Assembled.{sendable, long, word, unit-sent}
use Rattle.adaptation.proofs.Badges.{passed, word-is, shown_found, badge-sent, unit_found}
use Rattle.checks.proofs.Laws.{agrees_own}
use Rattle.adaptation.proofs.Refusals.{refused-not}
use Rattle.adaptation.proofs.Settings.{word_true}

-- ---- sent, and handed up

judgement : Badge → ℕ → ℕ → Judgement
judgement b k t = record { badge = b; changed = k; length = t }

judgement-same : (j : Judgement) (b : Badge) (k t : ℕ) → j.badge ≡ b → j.changed ≡ k → j.length ≡ t → j ≡ judgement b k t
unfolding judgement
judgement-same j b k t p q r =
    ap (λ (x : Badge). judgement x j.changed j.length) p ∙ ap₂ (judgement b) q r

module _ (n e m : ℕ) (u room sent : List ℕ) (s : Sends n e u room (Ok m) sent) where
  coded : Coded (kind_at n) e u s.1.sent
  coded = s.1.coded

  sent-long : m ≡ sent_octets (length u) n e
  sent-long = long n e m u room sent s

  sizes : (0 < length u) × (m ≤ longest_word)
  unfolding is_sendable
  sizes =
      let b = both_true (leb 1 (length u)) (leb (sent_octets (length u) n e) longest_word) (sendable n e m u room sent s).1 in
      (leb-true 1 (length u) b.0, rw sent-long (leb-true (sent_octets (length u) n e) longest_word b.1))

  sent_front : take m sent ≡ s.1.sent
  sent_front = word n e m u room sent s

  module _ (w : List ℕ) (before after : RepairLent) (l : length w ≡ m) (near : distance w (take m sent) ≤ e) (fits : m ≤ length before.repair)
      (lists : e ≤ length before.places) where
    within : Within e w s.1.sent
    within = record { long = sym s.1.count ∙ sym l; code = coded.code; near = rw sent_front at near }

    content : take (length s.1.sent - 2 * e) s.1.sent ≡ message (kind_at n) u
    content =
        let k : length s.1.sent - 2 * e ≡ length (message (kind_at n) u) = omega (arith, coded.long) in
        ap (λ (i : ℕ). take i s.1.sent) k ∙ coded.begins

    agrees-sent : is_agreeing n e s.1.sent ≡ true
    agrees-sent = ap (agrees (kind_at n)) content ∙ agrees_own (kind_at n) u

    allowed : refusal (receive_tests (length w) n e before) ≡ told tt
    allowed =
        refused-not (is_setting n e) (is_word (length w) n e) (not (has_repair_room (length w) e before)) (sendable n e m u room sent s).0
        (word_true (length w) n e (omega (arith, sizes)) (omega (arith, sizes, sent-long)))
        (rw (le-leb (length w) (length before.repair) (omega arith), le-leb e (length before.places) lists))

    abbrev badge : Badge
    badge = badge_of_sent (kind_at n) e (distance w (take m sent))

    handed : (r : Result Judgement Refusal) → Receives n e w before r after
        → (r ≡ Ok (judgement badge (distance w (take m sent)) (length u))) × (handed_unit badge w after.repair (length u) ≡ u)
        × (take (distance w (take m sent)) after.places ≡ changed_places w (take m sent))
    handed (Err k) p = told-refused allowed p.first
    handed (Ok j) (a, h) =
        let c = s.1.sent in
        let t : j.length ≡ length u = h.length_is ∙ omega (arith, l, sent-long) in
        let d : j.changed ≡ distance w (take m sent) = (shown_found n e w before after j a h c within).count ∙ ap (distance w) (sym sent_front) in
        let b : j.badge ≡ badge =
        badge-sent n e w before after j a h c within agrees-sent ∙ ap (λ (x : List ℕ). badge_of_sent (kind_at n) e (distance w x)) (sym sent_front) in (
          ap Ok (judgement-same j badge (distance w (take m sent)) (length u) b d t),
          ap₂ (λ (x : Badge) (i : ℕ). handed_unit x w after.repair i) (sym b) (sym t) ∙ unit_found n e w before after j a h c within agrees-sent
              ∙ ap (λ (i : ℕ). take i c) t ∙ unit-sent n e m u room sent s,
          ap (λ (i : ℕ). take i after.places) (sym d) ∙ (shown_found n e w before after j a h c within).places ∙ ap (changed_places w) (sym sent_front),
        )

pub sent_is_handed_up : SentIsHandedUp
unfolding judgement
sent_is_handed_up n e m u room sent w before after r s l near fits lists p = handed n e m u room sent s w before after l near fits lists r p

-- ---- how large the numbers are

pub sent-small : (n e m : ℕ) (u room sent : List ℕ) → Sends n e u room (Ok m) sent → m ≤ longest_word
sent-small n e m u room sent s = (sizes n e m u room sent s).1

pub handed-small : (n e : ℕ) (w : List ℕ) (before after : RepairLent) (j : Judgement) → Receives n e w before (Ok j) after
    → (j.changed ≤ 127) × (j.length ≤ longest_word)
unfolding is_setting
handed-small n e w before after j (allowed, h) = (
  omega (
    arith,
    h.changed_is,
    changed h.reach h.repaired,
    leb-true e 127
        (both_true (is_width n) (leb e 127) (passed n e w before allowed).0).1,
  ),
  omega (arith, h.length_is, (word-is n e w before allowed).0),
)
  where
    changed : (x : Option ℕ) → Repaired e w before x after → changed_of x ≤ e
    changed (Some k) f = omega (arith, f.count, f.within.near)
    changed None f = omega arith

-- ---- answers are unique

pub refusal_leaves : RefusalLeaves
refusal_leaves = (λ n e k u before after p. p.same, λ n e k w before after p. p.same)

-- two refusals of one list of tests are the same
first-same : (t : Told (Unit {0})) (k i : Refusal) → t ≡ refused (number k) → t ≡ refused (number i) → k ≡ i
first-same t k i p q = number-once k i (cc)

pub encoded_unique : EncodedUnique
encoded_unique n e u before after left (Ok m) (Ok i) (a, p) (b, q) =
    let same : p.sent ≡ q.sent =
    code_word_only e (message (kind_at n) u) p.sent q.sent p.coded.long q.coded.long p.coded.code q.coded.code p.coded.begins
    q.coded.begins in
    (ap Ok (p.count ∙ ap length same ∙ sym q.count), p.written_is ∙ ap (written before 0) same ∙ sym q.written_is)
encoded_unique n e u before after left (Ok m) (Err k) (a, p) q = told-refused a q.first
encoded_unique n e u before after left (Err k) (Ok m) p (b, q) = told-refused b p.first
encoded_unique n e u before after left (Err k) (Err i) p q =
    (ap Err (first-same _ k i p.first q.first), p.same ∙ sym q.same)

pub received_unique : ReceivedUnique
unfolding judgement
received_unique n e w before after left (Ok j) (Ok i) (a, p) (b, q) =
    let both = repaired_unique e w before p.reach q.reach after left p.repaired q.repaired in
    let badge : j.badge ≡ i.badge =
    p.badge_is ∙ ap₂ (λ (x : Option ℕ) (y : RepairLent). badge_of (is_bare (kind_at n) e) x (agrees (kind_at n) (take (length w - 2 * e) y.repair))) both.0 both.1
    ∙ sym q.badge_is in (
      ap Ok (judgement-same j i.badge i.changed i.length badge (p.changed_is ∙ ap changed_of both.0 ∙ sym q.changed_is)
          (p.length_is ∙ sym q.length_is)),
      both.1,
    )
received_unique n e w before after left (Ok j) (Err k) (a, p) q = told-refused a q.first
received_unique n e w before after left (Err k) (Ok j) p (b, q) = told-refused b p.first
received_unique n e w before after left (Err k) (Err i) p q =
    (ap Err (first-same _ k i p.first q.first), p.same ∙ sym q.same)
