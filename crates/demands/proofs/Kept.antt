-- A receiver that keeps AL1M's promise: it tries every word of as many octets as came.
--
--   received      what receiving may answer and leave, whatever came and was lent
--   some_keeps     so there is a receiver that keeps the promise
--
-- Assumes nothing.
use mathlib.Core.Path.{◌≡◌, refl, sym, ap, ◌∙◌}
use mathlib.Core.Bool.{Bool, true, false, not}
use mathlib.Core.List.{List, [], ◌∷◌}
use Prim.Native.Nat.{ℕ, ◌+◌, ◌*◌, ◌-◌, ◌≤◌, ◌<◌}
use Rattle.std.specs.Prelude.{Some, Result, Ok, Err}
use native.Mathlib.Omega.{arith}
use borrow.Author.Tests.{leb-true, lt-ltb}
use lib.Dec.{leb}
use lib.ListN.{length, take}
use Rattle.octets.specs.Exact.{is_true, two-at_most}
use Rattle.octets.specs.Tests.{both_true, never}
use Rattle.calls.specs.declared.Refusal.{Refusal}
use Rattle.calls.specs.declared.Refusal.TheVariants.{BadSetting, BadLength, NoRoom}
use Rattle.calls.specs.Refusal.{Told, refused, told, refusal, ◌when◌, number}
use Rattle.codeword.specs.Changed.{changed_places}
use Rattle.codeword.specs.CodeWord.{distance, Within, longest_word}
use Rattle.codeword.specs.Repair.{filled}
use Rattle.checks.specs.Check.{agrees}
use Rattle.checks.specs.Width.{kind_at}
use Rattle.adaptation.specs.declared.al1m.Judgement.{Judgement}
use Rattle.adaptation.specs.AL1M.{is_setting}
use Rattle.adaptation.specs.Receiving.{RepairLent, has_repair_room, is_word, receive_tests, is_bare, badge_of, unit_length, Receives}
use Rattle.adaptation.specs.declared.Badge.TheVariants.{OutOfReach}
use Rattle.adaptation.proofs.Laws.{refused_none}
use Rattle.demands.specs.Wrong.{SomeKeeps}
use Rattle.demands.proofs.Vectors.{receives, misses}
use Rattle.demands.proofs.Trying.{tried-within}

-- a number that these tests give is a refusal's
refused_as : (x y z : Bool) (k : ℕ) → refusal (1 when x ∷ 2 when y ∷ 3 when z ∷ []) ≡ refused k → (r : Refusal) × (number r ≡ k)
refused_as true y z k h = (BadSetting, cc)
refused_as false true z k h = (BadLength, cc)
refused_as false false true k h = (NoRoom, cc)
refused_as false false false k h = never cc

module _ (b e : ℕ) (w : List ℕ) (before : RepairLent) where
  abbrev Allowed : Type 0
  Allowed = (r : Result Judgement Refusal) × (after : RepairLent) × Receives b e w before r after

  module _ (setting : is_setting b e ≡ true) (is_one : is_word (length w) b e ≡ true) (room : length w ≤ length before.repair)
      (list : e ≤ length before.places) where
    parts : (leb (length w) longest_word ≡ true) × (leb (1 + (kind_at b).octets + 2 * e) (length w) ≡ true)
    unfolding is_word
    parts = both_true (leb (length w) longest_word) (leb (1 + (kind_at b).octets + 2 * e) (length w)) is_one

    long : 2 * e < length w
    long = omega (arith, leb-true (1 + (kind_at b).octets + 2 * e) (length w) parts.1)

    handed : Dec ((c : List ℕ) × Within e w c) → Allowed
    handed (yes (c, near)) = (
      Ok (record {
        badge = badge_of (is_bare (kind_at b) e) (Some (distance w c)) (agrees (kind_at b) (take (length w - 2 * e) c));
        changed = distance w c;
        length = unit_length (kind_at b) e (length w);
      }),
      filled before c (changed_places w c),
      receives b e w setting is_one parts.0 (lt-ltb (2 * e) (length w) long) before room list c near _ _ refl refl,
    )
    handed (no none) = (
      Ok (record { badge = OutOfReach; changed = 0; length = unit_length (kind_at b) e (length w) }),
      before,
      misses b e w setting is_one parts.0 (lt-ltb (2 * e) (length w) long) before room list (λ c h. none (c, h)) _ refl,
    )

    tried : Allowed
    tried = handed (tried-within e w (omega (arith, long, leb-true (length w) longest_word parts.0)))

  pub received : Allowed
  received = by (refusal (receive_tests (length w) b e before)) refl
    where
      by : (t : Told (Unit {0})) → refusal (receive_tests (length w) b e before) ≡ t → Allowed
      by (refused k) h =
          let r = refused_as (not (is_setting b e)) (not (is_word (length w) b e)) (not (has_repair_room (length w) e before)) k h in
          (Err r.0, before, record { first = h ∙ ap refused (sym r.1); same = refl })
      by (told u) h =
          let p = refused_none (is_setting b e) (is_word (length w) b e) (not (has_repair_room (length w) e before)) h in
          let q = (two-at_most (length w) (length before.repair) e (length before.places)).0 ((is_true (has_repair_room (length w) e before)).0 p.2) in
          tried p.0 p.1 q.0 q.1

pub some_keeps : SomeKeeps
some_keeps = (
  record { answer = λ b e w before. (received b e w before).0; leaves = λ b e w before. (received b e w before).1 },
  λ b e w before o h l. (received b e w before).2,
)
