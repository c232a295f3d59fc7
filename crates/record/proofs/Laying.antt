-- Stored units as octets: they can be read back in one way only.
--
--   flat_append        of one list behind another
--   flat-length        .. as many octets as the first's and the second's
--   stored-length      a stored unit has as many octets as its unit takes
--   laid-length        .. and stored units as many as theirs
--   five_numbers p      the numbers in a stored unit's header
--   changed_small      a changed count is at most 127
--   stored_fit         the numbers of a stored unit in range fit in its header
--   stored_parts       stored units with the same numbers and octets are equal
--   stored_same        two stored units that begin alike are equal, and so is what is behind them
--   stored-none        octets that begin with a stored unit are some
--   laid_front         what begins with stored units has them first
--   laid_same          two lists of stored units with the same octets are equal
--   ranges-append      stored units in range behind others
--   laid_none          no octets are no stored units
--
-- Assumes nothing.
use mathlib.Core.Path.{◌≡◌, refl, sym, ap, ap₂, ◌∙◌}
use mathlib.Core.Bool.{Bool, true, false}
use mathlib.Core.List.{List, [], ◌∷◌, ◌++◌, append_assoc, append-nil}
use Prim.Native.Nat.{ℕ, ◌+◌, ◌≤◌, ◌<◌}
use native.Mathlib.Omega.{arith}
use borrow.Author.Tests.{eqb-true, eqb-false}
use lib.Dec.{eqb}
use lib.ListN.{length, get_or, length-append}
use Rattle.octets.specs.High.{fields, Fit, append-same}
use Rattle.octets.proofs.Laws.{fields-length, fields-same}
use Rattle.octets.specs.Tests.{never}
use Rattle.record.specs.Recorded.{InRange, Changed, flat}
use Rattle.record.specs.Layout.{header_widths, size, total, Stored, stored_octets, laid}
use Rattle.record.specs.Walk.{units_of, AllStored}

pub flat_append : {A : Type 0} (f : A → List ℕ) (l m : List A) → flat f (l ++ m) ≡ flat f l ++ flat f m
unfolding flat
flat_append f [] m = refl
flat_append f (x ∷ l) m = ap (λ (r : List ℕ). f x ++ r) (flat_append f l m) ∙ sym (append_assoc (f x) (flat f l) (flat f m))

pub flat-length : {A : Type 0} (f : A → List ℕ) (l m : List A) → length (flat f (l ++ m)) ≡ length (flat f l) + length (flat f m)
flat-length f l m = ap length (flat_append f l m) ∙ length-append (flat f l) (flat f m)

-- ---- one stored unit

abbrev pub five_numbers : Stored → List ℕ
five_numbers p = p.unit.channel ∷ p.unit.badge ∷ p.unit.changed ∷ length p.unit.octets ∷ p.back ∷ []

pub stored-length : (p : Stored) → length (stored_octets p) ≡ size p.unit
stored-length p =
    length-append (fields header_widths (five_numbers p)) p.unit.octets
    ∙ ap (λ (n : ℕ). n + length p.unit.octets) (fields-length header_widths (five_numbers p) refl)

pub changed_small : (b n : ℕ) → Changed b n → n ≤ 127
changed_small b n h = by (eqb b 1) refl (eqb b 3) refl
  where
    by : (s : Bool) → eqb b 1 ≡ s → (t : Bool) → eqb b 3 ≡ t → n ≤ 127
    by true e t f = (h.corrected (eqb-true b 1 e)).1
    by false e true f = h.failed (eqb-true b 3 f)
    by false e false f = omega (arith, h.other (eqb-false b 1 e) (eqb-false b 3 f))

pub stored_fit : (p : Stored) → InRange p.unit → p.back < 4294967296 → Fit header_widths (five_numbers p)
stored_fit p r small =
    let k = changed_small p.unit.badge p.unit.changed r.ranges.changed_is in
    (r.channel_is, (omega (arith, r.ranges.badge_is), (omega (arith, k), (omega (arith, r.ranges.few), (small, tt)))))

stored_parts : {a d c f b g k h : ℕ} {o r : List ℕ} → a ≡ d → c ≡ f → b ≡ g → k ≡ h → o ≡ r
    → ◌≡◌ {A = Stored} (record { back = a; unit = record { channel = c; badge = b; changed = k; octets = o } })
    (record { back = d; unit = record { channel = f; badge = g; changed = h; octets = r } })
stored_parts p q r s t = rw (p, q, r, s, t)

pub stored_same : (p q : Stored) (x y : List ℕ) → InRange p.unit × (p.back < 4294967296) → InRange q.unit × (q.back < 4294967296)
    → stored_octets p ++ x ≡ stored_octets q ++ y → (p ≡ q) × (x ≡ y)
stored_same p q x y r s e =
    let split = fields-same header_widths (five_numbers p) (five_numbers q) (p.unit.octets ++ x) (q.unit.octets ++ y)
    (stored_fit p r.0 r.1) (stored_fit q s.0 s.1)
    (sym (append_assoc (fields header_widths (five_numbers p)) p.unit.octets x) ∙ e
    ∙ append_assoc (fields header_widths (five_numbers q)) q.unit.octets y) in
    let at : (i : ℕ) → get_or (five_numbers p) i 0 ≡ get_or (five_numbers q) i 0 = λ i. ap (λ (l : List ℕ). get_or l i 0) split.0 in
    let own = append-same p.unit.octets q.unit.octets x y (at 3) split.1 in
    (stored_parts (at 4) (at 0) (at 1) (at 2) own.0, own.1)

-- ---- stored units

pub laid-length : (ps : List Stored) → length (laid ps) ≡ total (units_of ps)
unfolding flat total
laid-length [] = refl
laid-length (p ∷ ps) = length-append (stored_octets p) (laid ps) ∙ omega (arith, stored-length p, laid-length ps)

pub ranges-append : (ps qs : List Stored) → AllStored ps → AllStored qs → AllStored (ps ++ qs)
ranges-append [] qs r s = s
ranges-append (p ∷ ps) qs r s = (r.0, ranges-append ps qs r.1 s)

stored-none : (p : Stored) (x : List ℕ) {A : Type 0} → [] ≡ stored_octets p ++ x → A
stored-none p x e = never (absurd (omega (arith, ap length e, length-append (stored_octets p) x, stored-length p)))

pub laid_front : (ps qs : List Stored) (y : List ℕ) → AllStored ps → AllStored qs → laid ps ++ y ≡ laid qs
    → (rest : List Stored) × (qs ≡ ps ++ rest) × (y ≡ laid rest)
unfolding flat
laid_front [] qs y r s e = (qs, refl, e)
laid_front (p ∷ ps) [] y r s e = stored-none p (laid ps ++ y) (sym e ∙ append_assoc (stored_octets p) (laid ps) y)
laid_front (p ∷ ps) (q ∷ qs) y r s e =
    let split = stored_same p q (laid ps ++ y) (laid qs) r.0 s.0 (sym (append_assoc (stored_octets p) (laid ps) y) ∙ e) in
    let more = laid_front ps qs y r.1 s.1 split.1 in
    (more.0, ap₂ (λ (a : Stored) (l : List Stored). a ∷ l) (sym split.0) more.1, more.2)

pub laid_none : (ps : List Stored) → [] ≡ laid ps → ps ≡ []
unfolding flat
laid_none [] e = refl
laid_none (p ∷ ps) e = stored-none p (laid ps) e

pub laid_same : (ps qs : List Stored) → AllStored ps → AllStored qs → laid ps ≡ laid qs → ps ≡ qs
laid_same ps qs r s e =
    let more = laid_front ps qs [] r s (append-nil (laid ps) ∙ e) in
    sym (more.1 ∙ ap (λ (l : List Stored). ps ++ l) (laid_none more.0 more.2) ∙ append-nil ps)
