-- What each badge of AL1M is given for.
--
--   passed, word-is       what is known of a word that is not refused
--   shown_found           where a code word lies within e octets: it, the places at which it differs and their number
--   badge-sent            .. the badge, where its check agrees
--   unit_found            .. and the unit that is handed up
--   badge_exactly         each badge is given exactly for what it is to be given for
--   found_is_shown, faultless_is_code_word, clean_exactly, corrected_exactly, out_of_reach_exactly, check_failed_exactly, unchecked_exactly, out_of_reach_leaves,
--   no_check_agrees         the claims of specs/Claims.antt on badges
--
-- Assumes nothing.
use mathlib.Core.Path.{◌≡◌, refl, sym, ap, ap₂, ◌∙◌, subst}
use mathlib.Core.Bool.{Bool, true, false, not}
use mathlib.Core.List.{List}
use Prim.Native.Nat.{ℕ, zero, suc, ◌+◌, ◌-◌, ◌*◌, ◌≤◌}
use Rattle.std.specs.Prelude.{Option, Some, None}
use native.Mathlib.Omega.{arith}
use borrow.Author.Tests.{leb-true, eqb-true}
use lib.Dec.{leb, eqb}
use lib.ListN.{length, take}
use lib.Seq.{take-take}
use Rattle.octets.specs.Exact.{is_true}
use Rattle.octets.specs.Tests.{both_true, never}
use Rattle.codeword.specs.CodeWord.{CodeWord, distance, Within, longest_word}
use Rattle.codeword.specs.Claims.{RepairShows}
use Rattle.codeword.specs.Repair.{RepairLent, has_repair_room, reads, Repaired, FoundIs, OutOfReachIs}
use Rattle.codeword.proofs.Laws.{distance_self, distance-zero, reads_true, found_is_it, without_parity}
use Rattle.calls.specs.Refusal.{told, refusal}
use Rattle.checks.specs.Check.{none, agrees}
use Rattle.checks.specs.Width.{kind_at}
use Rattle.adaptation.specs.AL1M.{is_setting}
use Rattle.adaptation.specs.Receiving.{is_word, receive_tests, is_bare, badge_of, changed_of, handed_unit, HandedIs}
use Rattle.adaptation.specs.Claims.{is_faulty, badge_of_sent, is_agreeing, FoundIsShown, FaultlessIsCodeWord, Earns, Exactly, CleanExactly, CorrectedExactly}
use Rattle.adaptation.specs.Claims.{OutOfReachExactly, CheckFailedExactly, UncheckedExactly, OutOfReachLeaves, NoCheckAgrees}
use Rattle.adaptation.specs.declared.Badge.{Badge}
use Rattle.adaptation.specs.declared.Badge.TheVariants.{Clean, Corrected, OutOfReach, CheckFailed, Unchecked}
use Rattle.adaptation.specs.declared.al1m.Judgement.{Judgement}
use Rattle.checks.proofs.Laws.{agrees-none}
use Rattle.adaptation.proofs.Refusals.{refused_none}
use Rattle.adaptation.proofs.Settings.{word-all}

-- ---- what is known of a word that is not refused

module _ (n e : ℕ) (w : List ℕ) (before : RepairLent) (allowed : refusal (receive_tests (length w) n e before) ≡ told tt) where
  pub passed : (is_setting n e ≡ true) × (is_word (length w) n e ≡ true) × (has_repair_room (length w) e before ≡ true)
  passed =
      let p = refused_none (is_setting n e) (is_word (length w) n e) (not (has_repair_room (length w) e before)) allowed in
      (p.0, p.1, (is_true (has_repair_room (length w) e before)).0 p.2)

  rooms : (leb (length w) (length before.repair) ≡ true) × (leb e (length before.places) ≡ true)
  rooms = both_true (leb (length w) (length before.repair)) (leb e (length before.places)) passed.2

  pub word-is : (length w ≤ longest_word) × (1 + (kind_at n).octets + 2 * e ≤ length w) × (length w ≤ length before.repair)
  word-is =
      let b = word-all (length w) n e passed.1 in
      (b.0, b.1, leb-true (length w) (length before.repair) rooms.0)

  fits : reads (length w) e before ≡ true
  fits =
      reads_true (length w) e before word-is.0 (omega (arith, word-is.1)) word-is.2 (leb-true e (length before.places) rooms.1)

-- ---- what was found, by what it is within

module _ (e : ℕ) (w : List ℕ) (before after : RepairLent) (c : List ℕ) (k : ℕ) (f : FoundIs e w before k after) (h : Within e w c) where
  shown : RepairShows w c before k after
  shown = found_is_it e w before after k f c h

  found_front : (i : ℕ) → i ≤ length w → take i after.repair ≡ take i c
  found_front i l = sym (take-take i (length w) after.repair l) ∙ ap (take i) shown.word

-- ---- the badge, undone

faultless : (b : Bool) (r : Option ℕ) (a : Bool) → is_faulty (badge_of b r a) ≡ false → (k : ℕ) × (r ≡ Some k) × (a ≡ true)
faultless b None a h = never (cc)
faultless b (Some k) false h = never (cc)
faultless b (Some k) true h = (k, refl, refl)

-- what each badge tells
abbrev Tells : Bool → Option ℕ → Bool → Badge → Type 0
Tells b r a Clean = (r ≡ Some 0) × (a ≡ true) × (b ≡ false)
Tells b r a Corrected = (k : ℕ) × (r ≡ Some (suc k)) × (a ≡ true)
Tells b r a OutOfReach = r ≡ None
Tells b r a CheckFailed = (k : ℕ) × (r ≡ Some k) × (a ≡ false)
Tells b r a Unchecked = (r ≡ Some 0) × (a ≡ true) × (b ≡ true)

tells : (b : Bool) (r : Option ℕ) (a : Bool) → Tells b r a (badge_of b r a)
tells b None a = refl
tells b (Some k) false = (k, refl, refl)
tells true (Some zero) true = (refl, refl, refl)
tells false (Some zero) true = (refl, refl, refl)
tells b (Some (suc k)) true = (k, refl, refl)

-- the part that the badge chooses
chosen : (b : Bool) (k t : ℕ) (w after c : List ℕ) → (k ≡ 0 → w ≡ c) → take t after ≡ take t c → handed_unit (badge_of b (Some k) true) w after t
    ≡ take t c
chosen true zero t w after c z h = ap (take t) (z refl)
chosen false zero t w after c z h = ap (take t) (z refl)
chosen b (suc k) t w after c z h = h

-- ---- what is handed up

module _ (n e : ℕ) (w : List ℕ) (before after : RepairLent) (j : Judgement) (allowed : refusal (receive_tests (length w) n e before) ≡ told tt)
    (h : HandedIs (kind_at n) e w before j after) where
  abbrev bare : Bool
  bare = is_bare (kind_at n) e

  -- whether the check in what stands in the lent octets agrees
  abbrev good : Bool
  good = agrees (kind_at n) (take (length w - 2 * e) after.repair)

  as_found : (k : ℕ) → h.reach ≡ Some k → FoundIs e w before k after
  as_found k q = subst (λ (x : Option ℕ). Repaired e w before x after) q h.repaired

  -- where a code word lies within e octets, it is found
  has_found : (c : List ℕ) → Within e w c → (k : ℕ) × (h.reach ≡ Some k)
  has_found c near = go h.reach h.repaired
    where
      go : (x : Option ℕ) → Repaired e w before x after → (k : ℕ) × (x ≡ Some k)
      go (Some k) f = (k, refl)
      go None f = absurd (f.none (fits n e w before allowed) c near)

  module _ (c : List ℕ) (near : Within e w c) where
    count : ℕ
    count = (has_found c near).0

    f : FoundIs e w before count after
    unfolding count
    f = as_found count (has_found c near).1

    front : (i : ℕ) → i ≤ length w → take i after.repair ≡ take i c
    front = found_front e w before after c count f near

    changed_is : count ≡ distance w c
    changed_is = (shown e w before after c count f near).count

    good-is : good ≡ is_agreeing n e c
    good-is = ap (agrees (kind_at n)) (front (length w - 2 * e) (omega arith)) ∙ ap (λ (l : ℕ). agrees (kind_at n) (take (l - 2 * e) c)) (sym near.long)

    badge_found : (a : Bool) → is_agreeing n e c ≡ a → j.badge ≡ badge_of bare (Some (distance w c)) a
    unfolding count
    badge_found a g = h.badge_is ∙ ap₂ (badge_of bare) ((has_found c near).1 ∙ ap Some changed_is) (good-is ∙ g)

    pub shown_found : RepairShows w c before j.changed after
    unfolding count
    shown_found = rw (h.changed_is, (has_found c near).1) (shown e w before after c count f near)

    module _ (a : is_agreeing n e c ≡ true) where
      pub badge-sent : j.badge ≡ badge_of_sent (kind_at n) e (distance w c)
      badge-sent = badge_found true a ∙ go (distance w c)
        where
          go : (k : ℕ) → badge_of bare (Some k) true ≡ badge_of_sent (kind_at n) e k
          go zero = refl
          go (suc k) = refl

      pub unit_found : handed_unit j.badge w after.repair j.length ≡ take j.length c
      unit_found =
          ap (λ (b : Badge). handed_unit b w after.repair j.length) (badge_found true a)
          ∙ chosen bare (distance w c) j.length w after.repair c (λ z. distance-zero w c (sym near.long) z) (front j.length (omega (arith, h.length_is)))

  -- ---- from the badge to what it is given for

  told-by : (x : Badge) → j.badge ≡ x → Tells bare h.reach good x
  told-by x q = subst (Tells bare h.reach good) (sym h.badge_is ∙ q) (tells bare h.reach good)

  -- a word that was found with no octet changed is the received one
  unchanged : h.reach ≡ Some 0 → good ≡ true → CodeWord e w × (is_agreeing n e w ≡ true)
  unchanged q a =
      let g = as_found 0 q in
      let same : g.found ≡ w = sym (distance-zero w g.found (sym g.within.long) (sym g.count)) in
      (rw same at g.within.code, ap (is_agreeing n e) (sym same) ∙ sym (good-is g.found g.within) ∙ a)

  given_for : (x : Badge) → j.badge ≡ x → Earns n e w x
  given_for Clean q = let t = told-by Clean q in let u = unchanged t.0 t.1 in (u.0, u.1, t.2)
  given_for Corrected q =
      let t = told-by Corrected q in
      let g = as_found (suc t.0) t.1 in (
        g.found,
        g.within,
        λ same. omega (arith, g.count, ap (distance w) same, distance_self w),
        sym (good-is g.found g.within) ∙ t.2,
      )
  given_for OutOfReach q =
      let lost : OutOfReachIs e w before after = subst (λ (x : Option ℕ). Repaired e w before x after) (told-by OutOfReach q) h.repaired in
      lost.none (fits n e w before allowed)
  given_for CheckFailed q =
      let t = told-by CheckFailed q in
      let g = as_found t.0 t.1 in
      (g.found, g.within, sym (good-is g.found g.within) ∙ t.2)
  given_for Unchecked q = let t = told-by Unchecked q in ((unchanged t.0 t.1).0.octets, t.2)

  -- ---- .. and back

  itself : CodeWord e w → Within e w w
  itself code = record { long = refl; code = code; near = omega (arith, distance_self w) }

  earned : (x : Badge) → Earns n e w x → j.badge ≡ x
  earned Clean (code, a, b) = badge_found w (itself code) true a ∙ (rw (distance_self w, b))
  earned Corrected (c, near, other, a) = badge_found c near true a ∙ go (distance w c) refl
    where
      go : (k : ℕ) → distance w c ≡ k → badge_of bare (Some k) true ≡ Corrected
      go zero z = absurd (other (sym (distance-zero w c (sym near.long) z)))
      go (suc k) z = refl
  earned OutOfReach far = h.badge_is ∙ go h.reach h.repaired
    where
      go : (x : Option ℕ) → Repaired e w before x after → badge_of bare x good ≡ OutOfReach
      go (Some k) p = absurd (far p.found p.within)
      go None p = refl
  earned CheckFailed (c, near, a) = badge_found c near false a
  earned Unchecked (o, b) =
      let t = both_true (eqb e 0) (eqb (kind_at n).octets 0) b in
      let no_code : e ≡ 0 = eqb-true e 0 t.0 in
      let code : CodeWord e w = rw no_code (without_parity w o) in
      badge_found w (itself code) true (agrees-none (kind_at n) (take (length w - 2 * e) w) (eqb-true (kind_at n).octets 0 t.1))
      ∙ (rw (distance_self w, b))

  lost-leaves : j.badge ≡ OutOfReach → (j.changed ≡ 0) × (after ≡ before)
  lost-leaves q =
      let lost : OutOfReachIs e w before after = subst (λ (x : Option ℕ). Repaired e w before x after) (told-by OutOfReach q) h.repaired in
      (h.changed_is ∙ ap changed_of (told-by OutOfReach q), lost.same)

-- ---- the claims

pub badge_exactly : (x : Badge) → Exactly x
badge_exactly x n e w before after j (allowed, h) = (given_for n e w before after j allowed h x, earned n e w before after j allowed h x)

pub clean_exactly : CleanExactly
clean_exactly = badge_exactly Clean

pub corrected_exactly : CorrectedExactly
corrected_exactly = badge_exactly Corrected

pub out_of_reach_exactly : OutOfReachExactly
out_of_reach_exactly = badge_exactly OutOfReach

pub check_failed_exactly : CheckFailedExactly
check_failed_exactly = badge_exactly CheckFailed

pub unchecked_exactly : UncheckedExactly
unchecked_exactly = badge_exactly Unchecked

pub out_of_reach_leaves : OutOfReachLeaves
out_of_reach_leaves n e w before after j (allowed, h) = lost-leaves n e w before after j allowed h

pub found_is_shown : FoundIsShown
found_is_shown n e w before after j (allowed, h) = shown_found n e w before after j allowed h

pub faultless_is_code_word : FaultlessIsCodeWord
faultless_is_code_word n e w before after j (allowed, h) q =
    let a = faultless (is_bare (kind_at n) e) h.reach (agrees (kind_at n) (take (length w - 2 * e) after.repair)) (ap is_faulty (sym h.badge_is) ∙ q) in
    let f = as_found n e w before after j allowed h a.0 a.1 in
    let c = f.found in
    let agreeing : is_agreeing n e c ≡ true = sym (good-is n e w before after j allowed h c f.within) ∙ a.2 in (
      c,
      record {
        within = f.within;
        agreeing = agreeing;
        changed = (shown_found n e w before after j allowed h c f.within).count;
        places = (shown_found n e w before after j allowed h c f.within).places;
        unit = unit_found n e w before after j allowed h c f.within agreeing;
      },
    )

pub no_check_agrees : NoCheckAgrees
unfolding none
no_check_agrees w = agrees-none none w refl
