-- Numbers in octets, the highest octet first.
--
--   high k n        n in k octets
--   worth_from n l   the number that begins with n, and goes on with the octets l
--   worth l         .. that the octets l are
--   high-length     k octets
--   high_next       a number with an octet more at its low end
--   worth-snoc      what octets with one more at the end are worth
--   worth-high      a number that fits is what its octets are worth
--   fields ws ns    the numbers ns one behind another, the first in as many octets as the first of ws says, and so on
--   Fit ws ns       .. each fits
--   widths ws       the octets of the whole row
--   append-same     two lists whose fronts have one length are equal part by part
--   one-octet       an octet is itself
--   part-snoc       a part with one octet more
--   first_octet     .. of one octet
--
-- Assumes nothing.
use Rattle.std.specs.Prelude.{◌≡◌, refl, List, [], ◌∷◌, ◌++◌, ℕ, zero, suc, ◌+◌, ◌*◌, ◌/◌, ◌%◌, ◌^◌, ◌<◌, length, get_or, take, drop}
use Rattle.std.proofs.Common.{sym, ap, ap₂, ◌∙◌, pow-suc, div-lt_iff_lt-mul, arith, length-append, length-drop, take-suc, drop-cons, get_or-drop, take_at, drop_at}

unfoldable pub high : ℕ → ℕ → List ℕ
high zero n = []
high (suc k) n = high k (n / 256) ++ n % 256 ∷ []

abbrev pub worth_from : ℕ → List ℕ → ℕ
worth_from n [] = n
worth_from n (x ∷ l) = worth_from (n * 256 + x) l

abbrev pub worth : List ℕ → ℕ
worth = worth_from 0

pub high-length : (k n : ℕ) → length (high k n) ≡ k
unfolding high
high-length zero n = refl
high-length (suc k) n = length-append (high k (n / 256)) (n % 256 ∷ []) ∙ omega (arith, high-length k (n / 256))

pub high_next : (k n x : ℕ) → x < 256 → high (suc k) (n * 256 + x) ≡ high k n ++ x ∷ []
unfolding high
high_next k n x h =
    let d : (n * 256 + x) / 256 ≡ n = omega arith in
    let m : (n * 256 + x) % 256 ≡ x = omega arith in
    ap₂ (λ (a b : ℕ). high k a ++ b ∷ []) d m

pub worth-snoc : (n : ℕ) (l : List ℕ) (x : ℕ) → worth_from n (l ++ x ∷ []) ≡ worth_from n l * 256 + x
worth-snoc n [] x = refl
worth-snoc n (y ∷ l) x = worth-snoc (n * 256 + y) l x

pub worth-high : (k n : ℕ) → n < 256 ^ k → worth (high k n) ≡ n
unfolding high
worth-high zero n h = omega (arith, h)
worth-high (suc k) n h =
    let small : n / 256 < 256 ^ k = (div-lt_iff_lt-mul {k = 256} (omega arith)).1 (rw (pow-suc) at h) in
    worth-snoc 0 (high k (n / 256)) (n % 256) ∙ ap (λ (a : ℕ). a * 256 + n % 256) (worth-high k (n / 256) small) ∙ omega arith

pub one-octet : (a : ℕ) → a < 256 → high 1 a ≡ a ∷ []
unfolding high
one-octet a h = let m : a % 256 ≡ a = omega arith in ap (λ (x : ℕ). x ∷ []) m

pub part-snoc : (k at : ℕ) (s : List ℕ) → at + k < length s → take (suc k) (drop at s) ≡ take k (drop at s) ++ get_or s (at + k) 0 ∷ []
part-snoc k at s h =
    take-suc (drop at s) k 0 (rw (length-drop at s) (omega arith)) ∙ ap (λ (x : ℕ). take k (drop at s) ++ x ∷ []) (get_or-drop at s k 0)

pub first_octet : (at : ℕ) (s : List ℕ) → at < length s → get_or s at 0 < 256 → take 1 (drop at s) ≡ high 1 (get_or s at 0)
first_octet at s h small = ap (take 1) (drop-cons s at 0 h) ∙ sym (one-octet (get_or s at 0) small)

-- ---- numbers in a row

abbrev pub fields : List ℕ → List ℕ → List ℕ
fields [] ns = []
fields (w ∷ ws) [] = []
fields (w ∷ ws) (n ∷ ns) = high w n ++ fields ws ns

abbrev pub Fit : List ℕ → List ℕ → Type 0
Fit [] [] = Unit {0}
Fit [] (n ∷ ns) = ⊥
Fit (w ∷ ws) [] = ⊥
Fit (w ∷ ws) (n ∷ ns) = (n < 256 ^ w) × Fit ws ns

abbrev pub widths : List ℕ → ℕ
widths [] = 0
widths (w ∷ ws) = w + widths ws

-- two lists whose fronts have one length are equal part by part
pub append-same : {A : Type 0} (a b x y : List A) → length a ≡ length b → a ++ x ≡ b ++ y → (a ≡ b) × (x ≡ y)
append-same a b x y l e = (
  sym (take_at a x (length b) l) ∙ ap (take (length b)) e ∙ take_at b y (length b) refl,
  sym (drop_at a x (length b) l) ∙ ap (drop (length b)) e ∙ drop_at b y (length b) refl,
)
