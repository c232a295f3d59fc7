-- Laws of slots, and of what a cut leaves of them.
--
--   Filled l           each of the slots l has at least one octet
--   filled-append      slots one behind another, if both are filled
--   filled-length      filled slots are at most as many as their octets
--   by_octets          by whether there is an octet at all
--   cut-append         what is cut from two lists of slots: of the second, what the first leaves
--   cut_octets         the octets that a cut leaves
--   cut_most           .. are at most as many as were asked for
--   cut_filled         a cut leaves no slot without an octet, where there was none
--   cut_fits           .. so that there are at most as many slots as octets asked for
--   cut-cut            a cut of a cut
--   cut_all            slots with no more octets than are asked for stay as they are
--   octets-append      the octets of two lists of slots
--   channels-append    .. and the channels of those
--   channels-length    there is a channel for each octet
--   channels-cut       .. so that a cut takes the channels of the first octets
--   copies_nothing     nothing, over and over, is nothing
--   copies_filled      filled slots, over and over, are filled
--   copies_octets      .. and have their octets as often
--   cut-both           a cut of two lists of slots, by what it leaves of each
--   copies_alike       passes of two lists of which a cut leaves the same
--   copies_enough      a cut leaves the same of enough passes and of more
--
-- Assumes nothing.
use mathlib.Core.Path.{◌≡◌, refl, sym, ap, ap₂, ◌∙◌}
use mathlib.Core.List.{List, [], ◌∷◌, ◌++◌, append_assoc}
use Prim.Native.Nat.{ℕ, zero, suc, ◌+◌, ◌*◌, ◌-◌, ◌≤◌, min}
use native.Mathlib.Nat.{suc-min-suc}
use native.Mathlib.Omega.{arith}
use borrow.Author.Tests.{ne_eqb}
use lib.ListN.{length, take, length-append}
use Rattle.table.specs.Slots.{Slot, copies, cut, octets_of, channels_of}
use Rattle.table.proofs.Apart.{cut-none}

-- ---- filled slots

unfoldable pub Filled : List Slot → Type 0
Filled [] = Unit {0}
Filled (x ∷ l) = (1 ≤ x.octets) × Filled l

pub filled-append : (a b : List Slot) → Filled a → Filled b → Filled (a ++ b)
unfolding Filled
filled-append [] b p q = q
filled-append (x ∷ a) b p q = (p.0, filled-append a b p.1 q)

pub filled-length : (l : List Slot) → Filled l → length l ≤ octets_of l
unfolding Filled octets_of
filled-length [] p = omega arith
filled-length (x ∷ l) p = omega (arith, p.0, filled-length l p.1)

-- ---- cuts

-- whether there is an octet at all
pub by_octets : (P : ℕ → Type 0) (n : ℕ) → P 0 → ((n ≡ 0 → ⊥) → P n) → P n
by_octets P zero p q = p
by_octets P (suc n) p q = q (λ z. omega arith)

pub cut-append : (n : ℕ) (a b : List Slot) → cut n (a ++ b) ≡ cut n a ++ cut (n - octets_of (cut n a)) b
unfolding cut octets_of
cut-append n [] b = let e : n - 0 ≡ n = omega arith in rw e
cut-append n (x ∷ a) b =
    by_octets (λ (n : ℕ). cut n (x ∷ a ++ b) ≡ cut n (x ∷ a) ++ cut (n - octets_of (cut n (x ∷ a))) b) n (sym (cut-none b)) (λ h.
    let e : n - (min x.octets n + octets_of (cut (n - x.octets) a)) ≡ n - x.octets - octets_of (cut (n - x.octets) a) = omega arith in
    rw (ne_eqb n 0 h, e, cut-append (n - x.octets) a b))

pub cut_octets : (n : ℕ) (l : List Slot) → octets_of (cut n l) ≡ min n (octets_of l)
unfolding cut octets_of
cut_octets n [] = omega arith
cut_octets n (x ∷ l) =
    by_octets (λ (n : ℕ). octets_of (cut n (x ∷ l)) ≡ min n (x.octets + octets_of l)) n (omega arith) (λ h.
    rw (ne_eqb n 0 h, cut_octets (n - x.octets) l) (omega arith))

pub cut_most : (n : ℕ) (l : List Slot) → octets_of (cut n l) ≤ n
cut_most n l = omega (arith, cut_octets n l)

pub cut_filled : (n : ℕ) (l : List Slot) → Filled l → Filled (cut n l)
unfolding cut Filled
cut_filled n [] p = tt
cut_filled n (x ∷ l) p =
    by_octets (λ (n : ℕ). Filled (cut n (x ∷ l))) n tt (λ h.
    rw (ne_eqb n 0 h) (omega (arith, p.0), cut_filled (n - x.octets) l p.1))

pub cut_fits : (n : ℕ) (l : List Slot) → Filled l → length (cut n l) ≤ n
cut_fits n l p = omega (arith, filled-length (cut n l) (cut_filled n l p), cut_most n l)

min_thrice : (x m n : ℕ) → min (min x m) n ≡ min x (min n m)
min_thrice x m n = omega arith

min-less : (x m n : ℕ) → min (n - min x m) (m - x) ≡ min n m - x
min-less x m n = omega arith

pub cut-cut : (n m : ℕ) (l : List Slot) → cut n (cut m l) ≡ cut (min n m) l
unfolding cut
cut-cut n m [] = refl
cut-cut n m (x ∷ l) =
    by_octets (λ (m : ℕ). cut n (cut m (x ∷ l)) ≡ cut (min n m) (x ∷ l)) m (let e : min n 0 ≡ 0 = omega arith in rw e) (λ h.
    by_octets (λ (n : ℕ). cut n (cut m (x ∷ l)) ≡ cut (min n m) (x ∷ l)) n (cut-none (cut m (x ∷ l)) ∙ let e : min 0 m ≡ 0 = omega arith in rw e) (λ k.
    let z : min n m ≡ 0 → ⊥ = λ z. omega arith in
    rw (ne_eqb m 0 h, ne_eqb n 0 k, ne_eqb _ 0 z, cut-cut (n - min x.octets m) (m - x.octets) l, min_thrice, min-less)))

pub cut_all : (n : ℕ) (l : List Slot) → Filled l → octets_of l ≤ n → cut n l ≡ l
unfolding cut Filled octets_of
cut_all n [] p h = refl
cut_all n (x ∷ l) p h =
    let z : n ≡ 0 → ⊥ = λ z. omega (arith, p.0) in
    let e : min x.octets n ≡ x.octets = omega arith in
    rw (ne_eqb n 0 z, e, cut_all (n - x.octets) l p.1 (omega arith))

-- ---- one behind another

pub octets-append : (a b : List Slot) → octets_of (a ++ b) ≡ octets_of a + octets_of b
unfolding octets_of
octets-append [] b = omega arith
octets-append (x ∷ a) b = rw (octets-append a b) (omega arith)

pub channels-append : (a b : List Slot) → channels_of (a ++ b) ≡ channels_of a ++ channels_of b
unfolding channels_of
channels-append [] b = refl
channels-append (x ∷ a) b = rw (channels-append a b) (sym (append_assoc (copies x.octets (x.channel ∷ [])) (channels_of a) (channels_of b)))

copies_length : (n x : ℕ) → length (copies n (x ∷ [])) ≡ n
unfolding copies
copies_length zero x = refl
copies_length (suc n) x = ap suc (copies_length n x)

pub channels-length : (l : List Slot) → length (channels_of l) ≡ octets_of l
unfolding channels_of octets_of
channels-length [] = refl
channels-length (x ∷ l) =
    length-append (copies x.octets (x.channel ∷ [])) (channels_of l) ∙ ap₂ (λ (a b : ℕ). a + b) (copies_length x.octets x.channel) (channels-length l)

take_nothing : (n : ℕ) → take {A = ℕ} n [] ≡ []
take_nothing zero = refl
take_nothing (suc n) = refl

take-copies : (n m x : ℕ) → take n (copies m (x ∷ [])) ≡ copies (min m n) (x ∷ [])
unfolding copies
take-copies zero m x = let e : min m 0 ≡ 0 = omega arith in rw e
take-copies (suc n) zero x = let e : min 0 (suc n) ≡ 0 = omega arith in rw e
take-copies (suc n) (suc m) x = rw (suc-min-suc m n) (ap (λ (l : List ℕ). x ∷ l) (take-copies n m x))

take-both : (n : ℕ) (a b : List ℕ) → take n (a ++ b) ≡ take n a ++ take (n - length a) b
take-both n [] b = let e : n - 0 ≡ n = omega arith in rw e (ap (λ (l : List ℕ). l ++ take n b) (sym (take_nothing n)))
take-both zero (x ∷ a) b = let e : 0 - suc (length a) ≡ 0 = omega arith in rw e
take-both (suc n) (x ∷ a) b = let e : suc n - suc (length a) ≡ n - length a = omega arith in rw e (ap (λ (l : List ℕ). x ∷ l) (take-both n a b))

pub channels-cut : (n : ℕ) (l : List Slot) → channels_of (cut n l) ≡ take n (channels_of l)
unfolding cut channels_of
channels-cut n [] = sym (take_nothing n)
channels-cut n (x ∷ l) =
    by_octets (λ (n : ℕ). channels_of (cut n (x ∷ l)) ≡ take n (channels_of (x ∷ l))) n refl (λ h.
    rw (ne_eqb n 0 h, channels-cut (n - x.octets) l)
    (sym (take-both n (copies x.octets (x.channel ∷ [])) (channels_of l)
    ∙ ap₂ (λ (a : List ℕ) (m : ℕ). a ++ take (n - m) (channels_of l)) (take-copies n x.octets x.channel) (copies_length x.octets x.channel))))

-- ---- passes

pub copies_nothing : (n : ℕ) → copies {A = Slot} n [] ≡ []
unfolding copies
copies_nothing zero = refl
copies_nothing (suc n) = copies_nothing n

pub copies_filled : (n : ℕ) (l : List Slot) → Filled l → Filled (copies n l)
unfolding copies Filled
copies_filled zero l p = tt
copies_filled (suc n) l p = filled-append l (copies n l) p (copies_filled n l p)

pub copies_octets : (n : ℕ) (l : List Slot) → octets_of (copies n l) ≡ n * octets_of l
unfolding copies octets_of
copies_octets zero l = omega arith
copies_octets (suc n) l = octets-append l (copies n l) ∙ rw (copies_octets n l) (omega arith)

pub cut-both : (k : ℕ) (x y u v : List Slot) → cut k x ≡ cut k y → cut (k - octets_of (cut k y)) u ≡ cut (k - octets_of (cut k y)) v
    → cut k (x ++ u) ≡ cut k (y ++ v)
cut-both k x y u v p q =
    cut-append k x u ∙ ap (λ (z : List Slot). z ++ cut (k - octets_of z) u) p ∙ ap (λ (z : List Slot). cut k y ++ z) q ∙ sym (cut-append k y v)

pub copies_alike : (most n : ℕ) (x y : List Slot) → ((k : ℕ) → k ≤ most → cut k x ≡ cut k y) → (k : ℕ) → k ≤ most → cut k (copies n x) ≡ cut k (copies n y)
unfolding copies
copies_alike most zero x y h k l = refl
copies_alike most (suc n) x y h k l =
    cut-both k x y (copies n x) (copies n y) (h k l) (copies_alike most n x y h (k - octets_of (cut k y)) (omega arith))

some_enough : (x : List Slot) → 1 ≤ octets_of x → (a b k : ℕ) → k ≤ a → k ≤ b → cut k (copies a x) ≡ cut k (copies b x)
unfolding copies cut
some_enough x s zero b k p q = let z : k ≡ 0 = omega arith in rw z (sym (cut-none (copies b x)))
some_enough x s (suc a) zero k p q = let z : k ≡ 0 = omega arith in rw z (cut-none (copies (suc a) x))
some_enough x s (suc a) (suc b) k p q =
    let o = cut_octets k x in
    cut-both k x x (copies a x) (copies b x) refl (some_enough x s a b (k - octets_of (cut k x)) (omega arith) (omega arith))

pub copies_enough : (x : List Slot) → Filled x → (a b k : ℕ) → k ≤ a → k ≤ b → cut k (copies a x) ≡ cut k (copies b x)
unfolding Filled octets_of
copies_enough [] f a b k p q = rw (copies_nothing a, copies_nothing b)
copies_enough (x ∷ l) f a b k p q = some_enough (x ∷ l) (omega (arith, f.0)) a b k p q
