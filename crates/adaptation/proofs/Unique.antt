-- Any two answers that a promise allows are equal, and so is what they leave in a lent output.
--
--   badge-once       of badges
--   badge_most       their numbers go to 4
--   passed-once      AL1's answers
--   read-once        .. to reading
--   says-once        .. to receiving, by what they say of a unit and what is due
--   received-once    .. so there is one
--
-- The other promises are equations `r ≡ ..`, for which `p ∙ sym q` is the proof. Assumes nothing.
use mathlib.Core.Path.{◌≡◌, refl, sym, ap, ap₂, ◌∙◌}
use mathlib.Core.Bool.{Bool, cond}
use Rattle.std.specs.Prelude.{Option, Some, None, Result, Ok, Err}
use Rattle.octets.specs.Tests.{never}
use mathlib.Core.List.{List}
use Prim.Native.Nat.{ℕ, ◌≤◌}
use native.Mathlib.Omega.{arith}
use lib.Dec.{eqb}
use Rattle.calls.specs.Refusal.{told}
use Rattle.calls.specs.declared.Refusal.{Refusal}
use Rattle.calls.proofs.Laws.{told_same, once, number-once}
use Rattle.adaptation.specs.Handed.{badge_number, Handed, handed}
use Rattle.adaptation.specs.AL1 as al1
use Rattle.adaptation.specs.AL2.{Parts, unit_of, apart, received, apart_says, receipt_says, received_says}
use Rattle.adaptation.specs.declared.al2.Due.{Due}
use Rattle.adaptation.specs.declared.Badge.{Badge}
use Rattle.adaptation.specs.declared.Badge.TheVariants.{Clean, Corrected, OutOfReach, CheckFailed, Unchecked}
use Rattle.adaptation.specs.declared.al2.Apart.{Apart}
use Rattle.adaptation.specs.declared.al2.Delivery.{Delivery}

-- ---- badges

badge_at : ℕ → Badge
badge_at n = cond (eqb n 0) Clean (cond (eqb n 1) Corrected (cond (eqb n 2) OutOfReach (cond (eqb n 3) CheckFailed Unchecked)))

badge-back : (b : Badge) → badge_at (badge_number b) ≡ b
unfolding badge_at
badge-back Clean = refl
badge-back Corrected = refl
badge-back OutOfReach = refl
badge-back CheckFailed = refl
badge-back Unchecked = refl

pub badge_most : (b : Badge) → badge_number b ≤ 4
badge_most Clean = omega arith
badge_most Corrected = omega arith
badge_most OutOfReach = omega arith
badge_most CheckFailed = omega arith
badge_most Unchecked = omega arith

pub badge-once : (a b : Badge) (n : ℕ) → badge_number a ≡ n → badge_number b ≡ n → a ≡ b
badge-once = once badge_number badge_at badge-back

-- ---- AL1

handed_badges : (a b : Badge) (u : List ℕ) → told (handed a u) ≡ told (handed b u) → badge_number a ≡ badge_number b
handed_badges a b u h = ap (λ (x : Handed). x.badge) (told_same (handed a u) (handed b u) h)

pub passed-once : (u : List ℕ) (a b : Result Badge Refusal) → al1.passed_says a u ≡ al1.passed u → al1.passed_says b u ≡ al1.passed u → a ≡ b
passed-once u (Ok a) (Ok b) p q = ap Ok (badge-once a b (badge_number b) (handed_badges a b u (p ∙ sym q)) refl)
passed-once u (Ok a) (Err s) p q = never (cc)
passed-once u (Err r) (Ok b) p q = never (cc)
passed-once u (Err r) (Err s) p q = ap Err (number-once r s (cc))

-- ---- AL2

pub read-once : (s : Bool) (w : List ℕ) (a b : Result Apart Refusal)
    → apart_says a (unit_of s w) ≡ apart s w → apart_says b (unit_of s w) ≡ apart s w → a ≡ b
read-once s w (Ok a) (Ok b) p q =
    let same = told_same (record { number = a.number; agreeing = a.agrees; unit = unit_of s w }) (record { number = b.number; agreeing = b.agrees; unit = unit_of s w }) (p ∙ sym q) in
    ap₂ (λ (n : Option ℕ) (t : Bool). Ok (record { number = n; agrees = t })) (ap (λ (x : Parts). x.number) same) (ap (λ (x : Parts). x.agreeing) same)
read-once s w (Ok a) (Err t) p q = never (cc)
read-once s w (Err r) (Ok b) p q = never (cc)
read-once s w (Err r) (Err t) p q = ap Err (number-once r t (cc))

delivery : Badge → ℕ → Due → Delivery
delivery b k e = record { badge = b; missing = k; due = e }

receipt-once : (u : List ℕ) (e : Due) (a b : Option Delivery) → receipt_says a u e ≡ receipt_says b u e → a ≡ b
unfolding delivery
receipt-once u e (Some a) (Some b) h =
    let shown : handed a.badge u ≡ handed b.badge u = cc in
    let badge : badge_number a.badge ≡ badge_number b.badge = ap (λ (x : Handed). x.badge) shown in
    let missing : a.missing ≡ b.missing = cc in
    let due : a.due ≡ b.due = cc in
    let same : a ≡ b = ap (λ (x : Badge). delivery x a.missing a.due) (badge-once a.badge b.badge (badge_number b.badge) badge refl) ∙ ap₂ (delivery b.badge) missing due in
    ap Some same
receipt-once u e (Some a) None h = never (cc)
receipt-once u e None (Some b) h = never (cc)
receipt-once u e None None h = refl

pub says-once : (u : List ℕ) (e : Due) (a b : Result (Option Delivery) Refusal) → received_says a u e ≡ received_says b u e → a ≡ b
says-once u e (Ok a) (Ok b) h = ap Ok (receipt-once u e a b (cc))
says-once u e (Ok a) (Err s) h = never (cc)
says-once u e (Err r) (Ok b) h = never (cc)
says-once u e (Err r) (Err s) h = ap Err (number-once r s (cc))

pub received-once : (s : Bool) (w : List ℕ) (e : Due) (a b : Result (Option Delivery) Refusal)
    → received_says a (unit_of s w) e ≡ received s w e → received_says b (unit_of s w) e ≡ received s w e → a ≡ b
received-once s w e a b p q = says-once (unit_of s w) e a b (p ∙ sym q)
