-- What AL1M's sending leaves (specs/Exactly.antt).
--
--   sendable             the unit may be sent, and there is room for it
--   long                 how many octets it is sent in
--   word                 they stand at the front
--   unit-sent            .. and begin with the unit
--   adaptation_exactly   what is left, with what else is claimed there
--
-- Assumes nothing.
use mathlib.Core.Path.{◌≡◌, refl, sym, ap, ap₂, ◌∙◌}
use mathlib.Core.Bool.{true, false}
use mathlib.Core.List.{List}
use Prim.Native.Nat.{ℕ, ◌+◌, ◌*◌, ◌≤◌}
use native.Mathlib.Omega.{arith}
use borrow.Author.Tests.{ltb-false}
use lib.Dec.{ltb}
use lib.ListN.{length, take, drop}
use lib.Seq.{take-take, take-add, take_at, drop_at}
use Rattle.octets.specs.Written.{written_front, written_behind}
use Rattle.std.specs.Prelude.{Ok}
use Rattle.checks.specs.Check.{Kind, check_of}
use Rattle.checks.specs.Width.{kind_at}
use Rattle.adaptation.specs.AL1M.{is_setting, is_sendable, sent_octets}
use Rattle.adaptation.specs.Sending.{message, Sends}
use Rattle.adaptation.specs.Exactly.{SentLeaves, AdaptationExactly}
use Rattle.adaptation.proofs.Applying.{of_al1m, enough_lent, of_units, passes, whole_is, unchecked, failed}
use Rattle.adaptation.proofs.Refusals.{refused_none}
use Rattle.adaptation.proofs.Coding.{message-length}
use Rattle.checks.proofs.Laws.{checks_exactly}

module _ (b e m : ℕ) (u before after : List ℕ) (h : Sends b e u before (Ok m) after) where
  abbrev κ : Kind
  κ = kind_at b

  abbrev t : ℕ
  t = length u

  -- the unit and its check
  abbrev k : ℕ
  k = t + κ.octets

  abbrev sent : List ℕ
  sent = h.1.sent

  pub sendable : (is_setting b e ≡ true) × (is_sendable t b e ≡ true) × (ltb (length before) (sent_octets t b e) ≡ false)
  sendable = refused_none (is_setting b e) (is_sendable t b e) (ltb (length before) (sent_octets t b e)) h.0

  pub long : m ≡ sent_octets t b e
  long = h.1.count ∙ h.1.coded.long ∙ ap (λ (i : ℕ). i + 2 * e) (message-length κ u)

  fits : length sent ≤ length before
  fits = omega (arith, ltb-false (length before) (sent_octets t b e) sendable.2, long, h.1.count)

  past : drop m after ≡ drop m before
  past =
      let end : m ≡ 0 + length sent = omega (arith, h.1.count) in
      ap₂ drop end h.1.written_is ∙ written_behind before 0 sent (omega (arith, fits)) ∙ ap (λ (i : ℕ). drop i before) (sym end)

  pub word : take m after ≡ sent
  word = ap₂ take h.1.count h.1.written_is ∙ written_front before sent fits

  begun : take k sent ≡ message κ u
  begun = ap (λ (i : ℕ). take i sent) (sym (message-length κ u)) ∙ h.1.coded.begins

  pub unit-sent : take t sent ≡ u
  unit-sent = sym (take-take t k sent (omega arith)) ∙ ap (take t) begun ∙ take_at u (check_of κ u) t refl

  -- a front of what was sent is a front of what is left
  front : (i : ℕ) → i ≤ m → take i after ≡ take i sent
  front i l = sym (take-take i m after l) ∙ ap (take i) word

  unit : take t after ≡ u
  unit = front t (omega (arith, long)) ∙ unit-sent

  sends : SentLeaves b e u before m after
  sends = record {
    long = long;
    unit = unit;
    check = sym (drop_at (take t after) (take κ.octets (drop t after)) t (ap length unit))
        ∙ ap (drop t) (sym (take-add t κ.octets after) ∙ front k (omega (arith, long)) ∙ begun) ∙ drop_at u (check_of κ u) t refl;
    code = rw word h.1.coded.code;
    past = past;
  }

pub adaptation_exactly : AdaptationExactly
adaptation_exactly = record {
  al1m = of_al1m;
  enough = enough_lent;
  units = of_units;
  passes = passes;
  whole = whole_is;
  checks = checks_exactly;
  unchecked = unchecked;
  failed = failed;
  sends = sends;
}
