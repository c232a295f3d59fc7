-- Document 01's numbers and its "exactly when", proved of the adaptation layers' definitions by computing with them.
--
--   whole_length        how long a whole of AL2 is
--   unit-not            what is no unit of 1 to 1,024 octets
--   adaptation_limits   the numbers (specs/Limits.antt)
--   of_al1m, of_units   the refusals (specs/Exactly.antt)
--   enough_lent         .. and what is never too small for a repair
--   passes              .. what AL1 passes, and how
--   whole_is            .. what AL2 sends a unit as
--   unchecked           .. when there is neither check nor code
--   headed              the number of octets that begin with one
--   settled-failed, failed   .. what becomes of a unit of AL2 whose check disagrees
--
-- It takes nothing from the other proofs: a definition that fails a claim is refused here, before a lemma that it breaks besides.
--
-- Assumes nothing.
use mathlib.Core.Path.{◌≡◌, refl, sym, ap, ◌∙◌}
use mathlib.Core.Logic.{◌↔◌, ◌⊎◌, inl, inr, ⊎_elim}
use mathlib.Core.Bool.{Bool, true, false, not, and-true, and-false}
use mathlib.Core.List.{List, [], ◌∷◌, ◌++◌}
use Prim.Native.Nat.{ℕ, ◌+◌, ◌-◌, ◌*◌, ◌≤◌, min}
use native.Mathlib.Nat.{zero-add}
use native.Mathlib.Omega.{arith}
use borrow.Author.Tests.{le-leb, leb-true}
use lib.Dec.{leb, ltb, eqb}
use lib.ListN.{length, take, drop, length-append}
use lib.Seq.{take_at}
use Rattle.octets.specs.Exact.{chain, both_of, is_true, is_false, denied, less, two-at_most, either_over, equal}
use Rattle.octets.specs.Tests.{both_true, never}
use Rattle.codeword.specs.Repair.{RepairLent, has_repair_room}
use Rattle.calls.specs.Refusal.{told, ◌when◌, refusal, Gives}
use Rattle.calls.proofs.Laws.{given_exactly}
use Rattle.checks.specs.Bits.{octets_of}
use Rattle.checks.specs.Check.{none, eight, sixteen, check_of, agrees}
use Rattle.checks.specs.Width.{width_of, is_width, kind_at}
use Rattle.checks.proofs.Laws.{checks_exactly}
use Rattle.adaptation.specs.AL1M.{is_setting, sent_octets, is_sendable, al1m_tests, sent_length}
use Rattle.adaptation.specs.Receiving.{is_word, receive_tests, is_bare}
use Rattle.adaptation.specs.Handed.{is_unit}
use Rattle.adaptation.specs.AL1.{pass_tests, passed}
use Rattle.adaptation.specs.AL2 as al2
use Rattle.adaptation.specs.AL2Claims.{is_numbered, as_failed, Counted}
use Rattle.adaptation.specs.declared.al2.Due.{Due}
use Rattle.std.specs.Prelude.{Option, Some, None}
use Rattle.adaptation.specs.Limits.{AdaptationLimits}
use Rattle.adaptation.specs.Exactly.{OfAL1M, OfUnits, WholeIs}

-- ---- the settings

settings : (b e : ℕ) → is_setting b e ≡ true ↔ (((b ≡ 0) ⊎ ((b ≡ 8) ⊎ (b ≡ 16))) × (e ≤ 127))
unfolding is_setting
settings b e = (
  λ h. let t = both_true (is_width b) (leb e 127) h in ((checks_exactly.known b).0 t.0, leb-true e 127 t.1),
  λ h. rw ((checks_exactly.known b).1 h.0, le-leb e 127 h.1),
)

-- ---- lengths

sent_lengths : (t e : ℕ) → (sent_octets t 0 e ≡ t + 0 + 2 * e) × (sent_octets t 8 e ≡ t + 1 + 2 * e) × (sent_octets t 16 e ≡ t + 2 + 2 * e)
unfolding width_of none eight sixteen
sent_lengths t e = (refl, refl, refl)

asked : (t b e : ℕ) → is_setting b e ≡ true → is_sendable t b e ≡ true → sent_length t b e ≡ told (sent_octets t b e)
unfolding sent_length
asked t b e s r = rw (s, r)

-- m is how many octets the number takes
pub whole_length : (n : Option ℕ) (u : List ℕ) (m : ℕ) → m ≡ length (al2.field n) → length (al2.whole n u) ≡ m + length u + 1
unfolding octets_of check_of eight
whole_length n u m e = rw e (length-append (al2.field n ++ u) _ ∙ ap (λ (k : ℕ). k + 1) (length-append (al2.field n) u))

alone : (k : ℕ) (b : Bool) → refusal (k when not b ∷ []) ≡ told tt ↔ (b ≡ true)
alone k true = (λ e. refl, λ e. refl)
alone k false = (λ e. never (cc), λ e. never (cc))

pub adaptation_limits : AdaptationLimits
unfolding is_sendable is_word width_of none eight sixteen
adaptation_limits = record {
  settings = settings;
  sent_lengths = sent_lengths;
  asked = asked;
  plain_sent = λ t e. two-at_most 1 t (t + 0 + 2 * e) 255;
  eight_sent = λ t e. two-at_most 1 t (t + 1 + 2 * e) 255;
  sixteen_sent = λ t e. two-at_most 1 t (t + 2 + 2 * e) 255;
  plain_word = λ n e. two-at_most n 255 (1 + 0 + 2 * e) n;
  eight_word = λ n e. two-at_most n 255 (1 + 1 + 2 * e) n;
  sixteen_word = λ n e. two-at_most n 255 (1 + 2 + 2 * e) n;
  passed = λ u. chain (alone 2 (is_unit 1024 u)) (two-at_most 1 (length u) (length u) 1024);
  numbered = λ n u. rw (whole_length (Some n) u 1 refl) (two-at_most 1 (length u) (1 + length u + 1) 1024);
  unnumbered = λ u. rw (whole_length None u 0 refl, zero-add (length u)) (two-at_most 1 (length u) (length u + 1) 1024);
  numbered_whole = λ w. two-at_most (1 + 1 + 1) (length w) (length w) 1024;
  unnumbered_whole = λ w. two-at_most (1 + 1) (length w) (length w) 1024;
}

-- ---- refusals

-- AL1M's three tests in their order
module _ (s r x : Bool) where
  first : Gives (al1m_tests s r x) 1 ↔ (s ≡ false)
  first = chain (given_exactly 1 (al1m_tests s r x) refl) (is_false s)

  second : Gives (al1m_tests s r x) 2 ↔ ((s ≡ true) × (r ≡ false))
  second = chain (given_exactly 2 (al1m_tests s r x) refl) (both_of (is_true s) (is_false r))

  third : {A : Type 0} → x ≡ true ↔ A → Gives (al1m_tests s r x) 3 ↔ ((s ≡ true) × ((r ≡ true) × A))
  third q = chain (given_exactly 3 (al1m_tests s r x) refl) (both_of (is_true s) (both_of (is_true r) q))

pub of_al1m : (t n b e k : ℕ) (lent : RepairLent) → OfAL1M t n b e k lent
of_al1m t n b e k lent =
    let s = is_setting b e in
    let r = is_sendable t b e in
    let x = ltb k (sent_octets t b e) in
    let w = is_word n b e in
    record {
      length1 = first s r false;
      length2 = second s r false;
      length3 = λ g. let z : false ≡ true = ((third s r false (λ h. h, λ h. h)).0 g).1.1 in never (cc);
      encode1 = first s r x;
      encode2 = second s r x;
      encode3 = third s r x (less k (sent_octets t b e));
      receive1 = first s w (not (has_repair_room n e lent));
      receive2 = second s w (not (has_repair_room n e lent));
      receive3 = third s w (not (has_repair_room n e lent)) (either_over n (length lent.repair) e (length lent.places));
    }

pub enough_lent : (n b e : ℕ) (lent : RepairLent) → 255 ≤ length lent.repair → 127 ≤ length lent.places → Gives (receive_tests n b e lent) 3 → ⊥
unfolding is_word
enough_lent n b e lent r l g =
    let q = (of_al1m 0 n b e 0 lent).receive3.0 g in
    let w = leb-true n 255 (both_true (leb n 255) (leb (1 + (kind_at b).octets + 2 * e) n) q.1.0).0 in
    ⊎_elim (λ h. omega (arith, w)) (λ h. omega (arith, ((settings b e).0 q.0).1)) q.1.1

pub unit-not : (u : List ℕ) → not (is_unit 1024 u) ≡ true ↔ ((1 ≤ length u) × (length u ≤ 1024) → ⊥)
unit-not u = denied (is_unit 1024 u) (two-at_most 1 (length u) (length u) 1024)

pub passes : (u : List ℕ) → 1 ≤ length u → length u ≤ 1024 → passed u ≡ told (record { badge = 4; changed = 0; unit = u })
unfolding passed
passes u h l = rw (le-leb 1 (length u) h, le-leb (length u) 1024 l)

pub whole_is : (n : ℕ) (u : List ℕ) → WholeIs n u
whole_is n u = record { numbered = refl; unnumbered = refl }

pub of_units : (n : Option ℕ) (s : Bool) (u out : List ℕ) → OfUnits n s u out
of_units n s u out = record {
  pass2 = chain (given_exactly 2 (pass_tests u) refl) (unit-not u);
  send2 = chain (given_exactly 2 (al2.send_tests n u out) refl) (is_false (al2.is_sendable n u));
  send3 = chain (given_exactly 3 (al2.send_tests n u out) refl)
      (both_of (is_true (al2.is_sendable n u)) (less (length out) (length (al2.whole n u))));
  read2 = chain (given_exactly 2 (al2.read_tests s u) refl) (is_false (al2.is_whole s u));
}

-- ---- checks

pub unchecked : (e : ℕ) → (is_bare none e ≡ true ↔ (e ≡ 0)) × ((is_bare eight e ≡ false) × (is_bare sixteen e ≡ false))
unfolding none eight sixteen
unchecked e = (rw (and-true (eqb e 0)) (equal e 0), (and-false (eqb e 0), and-false (eqb e 0)))

-- a unit behind its number, if it has one, and before an octet
parted : (n : Option ℕ) (u : List ℕ) (c : ℕ) → let w = (al2.field n ++ u) ++ c ∷ [] in
    let f = al2.field_length (is_numbered n) in take (length w - 1 - f) (drop f w) ≡ u
parted (Some m) u c =
    let k : length ((m ∷ u) ++ c ∷ []) - 1 - 1 ≡ length u = omega (arith, length-append u (c ∷ [])) in
    ap (λ (j : ℕ). take j (u ++ c ∷ [])) k ∙ take_at u (c ∷ []) (length u) refl
parted None u c =
    let k : length (u ++ c ∷ []) - 1 - 0 ≡ length u = omega (arith, length-append u (c ∷ [])) in
    ap (λ (j : ℕ). take j (u ++ c ∷ [])) k ∙ take_at u (c ∷ []) (length u) refl

enough : (n : Option ℕ) (u : List ℕ) (c : ℕ) → 1 ≤ length u → al2.field_length (is_numbered n) + 1 + 1 ≤ length ((al2.field n ++ u) ++ c ∷ [])
enough (Some m) u c h = omega (arith, length-append u (c ∷ []))
enough None u c h = omega (arith, length-append u (c ∷ []))

pub headed : (n : Option ℕ) (u x : List ℕ) → al2.number_of (is_numbered n) ((al2.field n ++ u) ++ x) ≡ n
headed (Some m) u x = refl
headed None u x = refl

counted_as : (u : List ℕ) (e : Due) {j k : ℕ} → j ≡ k
    → al2.handed_up (as_failed u) 0 (record { expected = e.expected; failed = j }) ≡ al2.handed_up (as_failed u) 0 (record { expected = e.expected; failed = k })
counted_as u e q = ap (λ (j : ℕ). al2.handed_up (as_failed u) 0 (record { expected = e.expected; failed = j })) q

capped : (c k : ℕ) → Counted true c k → min (c + 1) al2.most_failed ≡ k
capped c k (inl (l, q)) = omega arith
capped c k (inr (l, q)) = omega arith

pub settled-failed : (n : Option ℕ) (u : List ℕ) (e : Due) (k : ℕ) → Counted (is_numbered n) e.failed k
    → al2.settled n false u e ≡ al2.handed_up (as_failed u) 0 (record { expected = e.expected; failed = k })
settled-failed (Some n) u e k q = counted_as u e (capped e.failed k q)
settled-failed None u e k q = counted_as u e (sym q)

pub failed : (n : Option ℕ) (u : List ℕ) (c k : ℕ) (e : Due) → 1 ≤ length u → length (al2.field n ++ u) + 1 ≤ 1024
    → (c ∷ [] ≡ check_of eight (al2.field n ++ u) → ⊥) → Counted (is_numbered n) e.failed k
    → al2.received (is_numbered n) ((al2.field n ++ u) ++ c ∷ []) e
    ≡ told (al2.handed_up (record { badge = 3; changed = 0; unit = u }) 0 (record { expected = e.expected; failed = k }))
unfolding eight al2.received
failed n u c k e h l f q =
    let w = (al2.field n ++ u) ++ c ∷ [] in
    let long : length w ≤ 1024 = omega (arith, length-append (al2.field n ++ u) (c ∷ [])) in
    rw (le-leb (al2.field_length (is_numbered n) + 1 + 1) (length w) (enough n u c h), le-leb (length w) 1024 long, by (agrees eight w) refl, headed n u (c ∷ []), parted n u c)
    (ap told (settled-failed n u e k q))
  where
    by : (b : Bool) → agrees eight ((al2.field n ++ u) ++ c ∷ []) ≡ b → agrees eight ((al2.field n ++ u) ++ c ∷ []) ≡ false
    by true q = absurd (f ((checks_exactly.agreeing eight (al2.field n ++ u) (c ∷ []) refl).0 q))
    by false q = q
