-- What follows of numbers in octets, the highest octet first (`specs/High.antt`).
--
--   high_same       two numbers that fit in k octets and have the same are equal
--   octets_next     a part with one octet more, where the part is a number in k octets
--   part-high       a part of octets is the number that it is worth
--   worth-same      .. so that two of one length and worth are equal
--   next_byte       a byte of a number is the one below it of the number without its low end
--   bytes_next      the bytes of a number are those without its low end, and its low end
--   bytes-high      .. and so the number in octets
--   be_bytes-high   `to_be_bytes` is the number in as many octets as its type has
--   fields-length   the length of a row of numbers is the widths' sum
--   fields-same     two rows of numbers that fit, with the same octets, are equal, and so is what stands behind them
--
-- Assumes nothing.
use Rattle.std.specs.Prelude.{◌≡◌, refl, List, [], ◌∷◌, ◌++◌, ℕ, zero, suc, ◌+◌, ◌*◌, ◌/◌, ◌%◌, ◌^◌, ◌≤◌, ◌<◌, length, get_or, take, drop}
use Rattle.std.proofs.Common.{sym, ap, ap₂, ◌∙◌, append_assoc, arith, length-append}
use Rattle.std.proofs.Math.Nat.{pow-succ', div-div-eq-div-mul}
use Rattle.std.specs.Int.{Width, byte_len, byte_at, bytes_high_first, to_be_bytes}
use Rattle.octets.specs.High.{high, worth, high-length, high_next, worth-snoc, worth-high, part-snoc, fields, Fit, widths, append-same}

pub high_same : (k n m : ℕ) → n < 256 ^ k → m < 256 ^ k → high k n ≡ high k m → n ≡ m
high_same k n m h j e = sym (worth-high k n h) ∙ ap worth e ∙ worth-high k m j

-- of a part that is n in k octets and the octet behind it
pub octets_next : (k at n : ℕ) (s : List ℕ) → at + k < length s → get_or s (at + k) 0 < 256 → take k (drop at s) ≡ high k n
    → take (suc k) (drop at s) ≡ high (suc k) (n * 256 + get_or s (at + k) 0)
octets_next k at n s h small e =
    part-snoc k at s h ∙ ap (λ (l : List ℕ). l ++ get_or s (at + k) 0 ∷ []) e ∙ sym (high_next k n (get_or s (at + k) 0) small)

part-high : (k at : ℕ) (s : List ℕ) → at + k ≤ length s → ((i : ℕ) → get_or s i 0 < 256)
    → take k (drop at s) ≡ high k (worth (take k (drop at s)))
unfolding high
part-high zero at s h small = refl
part-high (suc k) at s h small =
    let part = take k (drop at s) in
    octets_next k at (worth part) s (omega arith) (small (at + k)) (part-high k at s (omega arith) small)
    ∙ ap (high (suc k)) (sym (ap worth (part-snoc k at s (omega arith)) ∙ worth-snoc 0 part (get_or s (at + k) 0)))

pub worth-same : (k at : ℕ) (s t : List ℕ) → at + k ≤ length s → at + k ≤ length t → ((i : ℕ) → get_or s i 0 < 256) → ((i : ℕ) → get_or t i 0 < 256)
    → worth (take k (drop at s)) ≡ worth (take k (drop at t)) → take k (drop at s) ≡ take k (drop at t)
worth-same k at s t h j f g e = part-high k at s h f ∙ ap (high k) e ∙ sym (part-high k at t j g)

-- ---- what `to_be_bytes` answers

next_byte : (k n : ℕ) → byte_at (suc k) n ≡ byte_at k (n / 256)
next_byte zero n = refl
next_byte (suc k) n = ap (λ (m : ℕ). m % 256) (ap (λ (d : ℕ). n / d) (pow-succ' 256 (suc k)) ∙ sym (div-div-eq-div-mul n 256 (256 ^ suc k)))

bytes_next : (k n : ℕ) → bytes_high_first (suc k) n ≡ bytes_high_first k (n / 256) ++ n % 256 ∷ []
bytes_next zero n = refl
bytes_next (suc k) n = ap₂ (λ (a : ℕ) (l : List ℕ). a ∷ l) (next_byte k n) (bytes_next k n)

bytes-high : (k n : ℕ) → bytes_high_first k n ≡ high k n
unfolding high
bytes-high zero n = refl
bytes-high (suc k) n = bytes_next k n ∙ ap (λ (l : List ℕ). l ++ n % 256 ∷ []) (bytes-high k (n / 256))

pub be_bytes-high : (w : Width) (n : ℕ) → to_be_bytes w n ≡ high (byte_len w) n
be_bytes-high w n = bytes-high (byte_len w) n

-- ---- numbers in a row

pub fields-length : (ws ns : List ℕ) → length ws ≡ length ns → length (fields ws ns) ≡ widths ws
fields-length [] ns h = refl
fields-length (w ∷ ws) [] h = absurd (omega arith)
fields-length (w ∷ ws) (n ∷ ns) h =
    length-append (high w n) (fields ws ns) ∙ ap₂ (λ (a b : ℕ). a + b) (high-length w n) (fields-length ws ns (omega arith))

pub fields-same : (ws ns ms : List ℕ) (x y : List ℕ) → Fit ws ns → Fit ws ms → fields ws ns ++ x ≡ fields ws ms ++ y → (ns ≡ ms) × (x ≡ y)
fields-same [] [] [] x y f g e = (refl, e)
fields-same (w ∷ ws) (n ∷ ns) (m ∷ ms) x y f g e =
    let split = append-same (high w n) (high w m) (fields ws ns ++ x) (fields ws ms ++ y) (high-length w n ∙ sym (high-length w m))
    (sym (append_assoc (high w n) (fields ws ns) x) ∙ e ∙ append_assoc (high w m) (fields ws ms) y) in
    let rest = fields-same ws ns ms x y f.1 g.1 split.1 in
    (ap₂ (λ (a : ℕ) (l : List ℕ). a ∷ l) (high_same w n m f.0 g.0 split.0) rest.0, rest.1)
fields-same [] (n ∷ ns) ms x y f g e = absurd f
fields-same [] [] (m ∷ ms) x y f g e = absurd g
fields-same (w ∷ ws) [] ms x y f g e = absurd f
fields-same (w ∷ ws) (n ∷ ns) [] x y f g e = absurd g
