-- Refusals (document 01, "Refusal numbers"): they leave everything as it came, and the first that applies decides.
--
--   sent-leaves      AL2's sending leaves the output
--   refused-not      AL1M's three tests: where none holds, none refuses
--   refused_none     .. and only there
--   refused-later    .. without a room: where nothing is refused, settings and length are right
--
-- Assumes nothing.
use mathlib.Core.Path.{◌≡◌, refl, sym, ap, ◌∙◌}
use mathlib.Core.Bool.{Bool, true, false}
use mathlib.Core.List.{List}
use Prim.Native.Nat.{ℕ}
use lib.ListN.{length}
use Rattle.octets.specs.Tests.{never}
use Rattle.octets.specs.Written.{written}
use Rattle.calls.specs.Refusal.{refused, told, Ended, checked, refusal, ended}
use Rattle.adaptation.specs.AL1M.{al1m_tests}
use Rattle.adaptation.specs.AL2.{whole, send_tests, sent}
use Rattle.std.specs.Prelude.{Option}
use Rattle.calls.proofs.Laws.{checked_leaves}

pub sent-leaves : (n : Option ℕ) (u out : List ℕ) (k : ℕ) (x : List ℕ) → ended (refused k) x ≡ sent n u out → x ≡ out
unfolding sent
sent-leaves n u out k x e =
    ap (λ (r : Ended ℕ (List ℕ)). r.left) e
    ∙ checked_leaves out (send_tests n u out) (length (whole n u)) (written out 0 (whole n u)) k (sym (ap (λ (r : Ended ℕ (List ℕ)). r.answer) e))

-- ---- AL1M's three tests in their order: the settings s, the length r, and a room x that is too small

module _ (s r x : Bool) where
  pub refused-not : s ≡ true → r ≡ true → x ≡ false → refusal (al1m_tests s r x) ≡ told tt
  refused-not h l o = rw (h, l, o)

pub refused_none : (s r x : Bool) → refusal (al1m_tests s r x) ≡ told tt → (s ≡ true) × (r ≡ true) × (x ≡ false)
refused_none true true true h = never (cc)
refused_none true true false h = (refl, refl, refl)
refused_none true false x h = never (cc)
refused_none false r x h = never (cc)

module _ {A : Type 0} (a : A) where
  pub refused-later : (s r : Bool) (b : A) → told b ≡ checked refused (al1m_tests s r false) (told a) → (s ≡ true) × (r ≡ true) × (b ≡ a)
  refused-later true true b h = (refl, refl, cc)
  refused-later true false b h = never (cc)
  refused-later false r b h = never (cc)
