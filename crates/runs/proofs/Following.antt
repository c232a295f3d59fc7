-- AL2's numbers over a run: each call by AL2 on a channel goes on from where the one before ended.
--
--   sent_of, due_of      a channel's numbers: the one sent next, and what is due
--   SentOne            what a sending adds on channel n, and the number that is sent next
--   sending_one        .. it does
--   TakenOne           what a taking adds on channel n, and what is due next
--   taking_one         .. it does
--   other-sending, other-taking   a sending leaves what is due, and a taking the number sent
--
-- Assumes nothing.
use mathlib.Core.Path.{◌≡◌, refl, ap, subst, ◌∙◌}
use mathlib.Core.Bool.{Bool, true, false, cond, not, ◌&&◌}
use mathlib.Core.List.{List, [], ◌∷◌}
use Prim.Native.Nat.{ℕ, ◌+◌, ◌%◌, ◌<◌}
use native.Mathlib.Decide.{ℕ_discrete}
use borrow.Author.Tests.{eq-eqb, ne_eqb, ltb-true, not-false}
use lib.Dec.{eqb}
use lib.ListN.{length, take}
use Rattle.calls.specs.Refusal.{Told, refused, told, Ended, ended, refusing}
use Rattle.calls.proofs.Laws.{by_test, by_tests, checked_leaves, checked_keeps}
use Rattle.checks.specs.Check.{agrees, eight}
use Rattle.adaptation.specs.AL2.{risen, whole, is_sendable, is_whole, unit_of, Receipt, settled, due_by, receipt_of, received}
use Rattle.adaptation.specs.declared.al2.Due.{Due}
use Rattle.adaptation.specs.declared.al2.Numbers.{Numbers}
use Rattle.std.specs.Prelude.{Some, None}
use Rattle.channels.specs.declared.Channel.{Channel}
use Rattle.channels.specs.declared.Channels.{Channels}
use Rattle.channels.specs.Channels.{place_of, is_in, put, numbering, place_count}
use Rattle.channels.specs.Claims.{channel_of}
use Rattle.channels.specs.Layers.{SendLent, expecting, sending_tests, sending, taking_tests, taking}
use Rattle.channels.proofs.Laws.{channel-put, channel_else, IsSent, sent_is}
use Rattle.runs.specs.Runs.{added}
use Rattle.runs.specs.Carried.{Coding, Reception}
use Rattle.runs.proofs.Same.{Same, same-put}
use Rattle.runs.proofs.Numbering.{on_same}

abbrev pub sent_of : Channel → ℕ
sent_of c = c.numbers.sent

abbrev pub due_of : Channel → Due
due_of c = c.numbers.due

-- ---- sending

-- the codings l of one call on channel n, where the number i is sent, and the number that is sent next
pub data SentOne (i : ℕ) : List Coding → ℕ → Type 0 where
  sent-none : SentOne i [] i
  sent_one : (u w : List ℕ) → is_sendable (Some i) u ≡ true → w ≡ whole (Some i) u → SentOne i (record { unit = u; octets = w } ∷ []) ((i + 1) % 256)

-- the channel once a unit was sent with a number
abbrev rising : Channel → Channel
rising c = numbering c (risen true c.numbers)

module _ (s : Channels) (full : length s.at ≡ place_count) (m : ℕ) (u out : List ℕ) (n : ℕ) where
  abbrev from : ℕ
  from = (channel_of s n).numbers.sent

  sent-by : (numbered : Bool) (t : Channels) (after : List ℕ) (k : ℕ) → IsSent s m numbered u out t after k → Dec (m ≡ n)
      → SentOne from (cond (numbered && eqb m n) (record { unit = u; octets = take k after } ∷ []) []) (channel_of t n).numbers.sent
  sent-by true t after k a (yes e) =
      let next : (channel_of t n).numbers.sent ≡ (from + 1) % 256 =
      ap (λ (y : Channels). (channel_of y n).numbers.sent) a.channels
      ∙ subst (λ (j : ℕ). (channel_of (put s (place_of s m) (rising (channel_of s m))) j).numbers.sent ≡ ((channel_of s j).numbers.sent + 1) % 256) e
      (ap (λ (y : Channel). y.numbers.sent) (channel-put s m (rising (channel_of s m)) full a.inside refl)) in
      rw (eq-eqb m n e, next)
      (sent_one u (take k after) (subst (λ (j : ℕ). is_sendable (Some (channel_of s j).numbers.sent) u ≡ true) e a.may)
      (a.octets ∙ ap (λ (j : ℕ). whole (Some (channel_of s j).numbers.sent) u) e))
  sent-by true t after k a (no f) =
      let next : (channel_of t n).numbers.sent ≡ from =
      ap (λ (y : Channels). (channel_of y n).numbers.sent) a.channels
      ∙ ap (λ (y : Channel). y.numbers.sent) (channel_else s m n (rising (channel_of s m)) full a.inside refl f) in
      rw (ne_eqb m n f, next) sent-none
  sent-by false t after k a d =
      let next : (channel_of t n).numbers.sent ≡ from =
      ap (λ (y : Channels). (channel_of y n).numbers.sent) a.channels
      ∙ on_same sent_of (same-put sent_of s (place_of s m) (channel_of s m) refl refl) n in
      rw next sent-none

  module _ (numbered : Bool) where
    abbrev lent : SendLent
    lent = record { channels = s; output = out }

    abbrev end : Ended ℕ SendLent
    end = sending lent m numbered u

    pub sending_one : SentOne from (added end.answer (λ k. cond (numbered && eqb m n) (record { unit = u; octets = take k end.left.output } ∷ []) []))
        (channel_of end.left.channels n).numbers.sent
    unfolding sending
    sending_one = by end.answer refl
      where
        left : (k : ℕ) → end.answer ≡ refused k → end.left ≡ lent
        left k e = checked_leaves lent (sending_tests lent m numbered u) _ _ k e

        by : (t : Told ℕ) → end.answer ≡ t
            → SentOne from (added t (λ k. cond (numbered && eqb m n) (record { unit = u; octets = take k end.left.output } ∷ []) []))
            (channel_of end.left.channels n).numbers.sent
        by (refused k) e = rw (left k e) sent-none
        by (told k) e =
            sent-by numbered end.left.channels end.left.output k
            (sent_is s m numbered u out end.left.channels end.left.output k (ap (λ (t : Told ℕ). ended t end.left) e)) (ℕ_discrete m n)

-- ---- taking

-- the receptions l of one call on channel n, where e is due, and what is due next
pub data TakenOne (e : Due) : List Reception → Due → Type 0 where
  taken_none : TakenOne e [] e
  taken_one : (w : List ℕ) (r : Receipt) → received true w e ≡ told r → TakenOne e (record { octets = w; receipt = r } ∷ []) (due_by r)

plain-stays : (w : List ℕ) (e : Due) → due_by (receipt_of false w e) ≡ e
plain-stays w e = by (agrees eight w)
  where
    by : (b : Bool) → due_by (settled None b (unit_of false w) e) ≡ e
    by true = refl
    by false = refl

module _ (s : Channels) (full : length s.at ≡ place_count) (m : ℕ) (w : List ℕ) (n : ℕ) where
  abbrev due : Due
  due = (channel_of s n).numbers.due

  taken-by : (numbered : Bool) → place_of s m < place_count → is_whole numbered w ≡ true → Dec (m ≡ n)
      → TakenOne due (cond (numbered && eqb m n) (record { octets = w; receipt = receipt_of numbered w (channel_of s m).numbers.due } ∷ []) [])
      (channel_of (put s (place_of s m) (expecting (channel_of s m) (due_by (receipt_of numbered w (channel_of s m).numbers.due)))) n).numbers.due
  unfolding received
  taken-by true i h (yes e) =
      rw (eq-eqb m n e, ← e, channel-put s m (expecting (channel_of s m) (due_by (receipt_of true w (channel_of s m).numbers.due))) full i refl) (taken_one w (receipt_of true w (channel_of s m).numbers.due) (rw h))
  taken-by true i h (no f) = rw (ne_eqb m n f, channel_else s m n (expecting (channel_of s m) (due_by (receipt_of true w (channel_of s m).numbers.due))) full i refl f) taken_none
  taken-by false i h d =
      rw (on_same due_of (same-put due_of s (place_of s m) (expecting (channel_of s m) (due_by (receipt_of false w (channel_of s m).numbers.due))) refl
      (plain-stays w (channel_of s m).numbers.due)) n) taken_none

  pub taking_one : (numbered : Bool)
      → TakenOne due (added (taking s m numbered w).answer (λ r. cond (numbered && eqb m n) (record { octets = w; receipt = r } ∷ []) []))
      (channel_of (taking s m numbered w).left n).numbers.due
  unfolding taking
  taking_one numbered =
      by_tests
      (λ (r : Ended Receipt Channels). TakenOne due (added r.answer (λ r. cond (numbered && eqb m n) (record { octets = w; receipt = r } ∷ []) []))
      (channel_of r.left n).numbers.due)
      (refusing s) (taking_tests s m numbered w) _ (λ k. taken_none)
      (λ none.
      let shut : not (is_in s m) ≡ false = search none in
      let short : not (is_whole numbered w) ≡ false = search none in
      taken-by numbered (ltb-true (place_of s m) place_count (not-false (is_in s m) shut)) (not-false (is_whole numbered w) short) (ℕ_discrete m n))

-- ---- what is left

pub other-sending : (s : Channels) (m : ℕ) (numbered : Bool) (u out : List ℕ) (n : ℕ)
    → (channel_of (sending (record { channels = s; output = out }) m numbered u).left.channels n).numbers.due ≡ (channel_of s n).numbers.due
unfolding sending
other-sending s m numbered u out n =
    checked_keeps (record { channels = s; output = out }) (sending_tests (record { channels = s; output = out }) m numbered u)
    (λ (r : SendLent). (channel_of r.channels n).numbers.due ≡ (channel_of s n).numbers.due) _ refl
    (λ none. on_same due_of (by_test (λ (x : Numbers). Same due_of (put s (place_of s m) (numbering (channel_of s m) x)) s) numbered
    (λ e. same-put due_of s (place_of s m) _ refl refl) (λ e. same-put due_of s (place_of s m) _ refl refl)) n)

pub other-taking : (s : Channels) (m : ℕ) (numbered : Bool) (w : List ℕ) (n : ℕ) → (channel_of (taking s m numbered w).left n).numbers.sent ≡ (channel_of s n).numbers.sent
unfolding taking
other-taking s m numbered w n =
    checked_keeps s (taking_tests s m numbered w) (λ (r : Channels). (channel_of r n).numbers.sent ≡ (channel_of s n).numbers.sent) _ refl
    (λ none. on_same sent_of (same-put sent_of s (place_of s m) _ refl refl) n)
