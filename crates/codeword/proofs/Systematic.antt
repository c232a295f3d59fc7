-- Encoding: the message with its parity is the one code word that begins with the message.
--
--   octets-append, octets-take    octets of lists put together and cut
--   parity_code_word               message and parity are a code word
--   code_word_parity               and in a code word that begins with the message the rest is its parity
--   parity_unique                 which is the only one
--   code_word_begins               a code word that begins with the message is the message and its parity
--   code_word_only                 .. so there is one
--   register_parity               what the register holds at the end is the parity
--   encoded-unique                any two answers that encoding's promise allows are equal, what is left in the lent octets included
--   encodes_true, encodes-all     what fits
--   encoded_done                  what fits is encoded
--   encoded-is                    what the promise says where the message fits
--
-- Assumes nothing.
use mathlib.Core.Path.{◌≡◌, refl, sym, ap, ◌∙◌}
use mathlib.Core.Bool.{true}
use mathlib.Core.List.{List, [], ◌∷◌, ◌++◌}
use Prim.Native.Nat.{ℕ, zero, suc, ◌+◌, ◌*◌, ◌≤◌, ◌<◌}
use Rattle.std.specs.Prelude.{Option, Some, None}
use native.Mathlib.Omega.{arith}
use borrow.Author.Tests.{lt-ltb, le-leb, ltb-true, leb-true}
use lib.Dec.{leb, ltb}
use lib.ListN.{length, take, drop, length-drop, take-append-drop}
use lib.Seq.{length-take-le}
use Rattle.octets.specs.Tests.{never, three_true}
use Rattle.octets.specs.Written.{written}
use Rattle.algebra.specs.Polynomial.{polynomial, raised}
use Rattle.algebra.proofs.Laws.{below-rooted, rooted-top, remainder_unique, polynomial-append, polynomial-same}
use Rattle.codeword.specs.Element.{elements}
use Rattle.codeword.specs.CodeWord.{longest_word, generator, word, Octets, CodeWord}
use Rattle.codeword.specs.Encoding.{Parity, encodes, Done, Encoded}
use Rattle.codeword.specs.Register.{RemainderIs}
use Rattle.codeword.proofs.Word.{word-length, word-append, word_same, below_word}

-- ---- octets of lists put together

pub octets-append : (u p : List ℕ) → Octets u → Octets p → Octets (u ++ p)
octets-append [] p hu hp i = hp i
octets-append (a ∷ u) p hu hp zero = hu 0
octets-append (a ∷ u) p hu hp (suc i) = octets-append u p (λ j. hu (suc j)) hp i

octets_right : (u p : List ℕ) → Octets (u ++ p) → Octets p
octets_right [] p h = h
octets_right (a ∷ u) p h = octets_right u p (λ j. h (suc j))

pub octets-take : (m : ℕ) (p : List ℕ) → Octets p → Octets (take m p)
octets-take zero p h i = omega arith
octets-take (suc m) [] h i = omega arith
octets-take (suc m) (a ∷ p) h zero = h 0
octets-take (suc m) (a ∷ p) h (suc i) = octets-take m p (λ j. h (suc j)) i

-- ---- the code word

whole : (e : ℕ) (u p : List ℕ) → length p ≡ 2 * e
    → polynomial elements (word (u ++ p)) ≡ Rattle.algebra.specs.Series.◌⊞◌ elements (raised elements (2 * e) (polynomial elements (word u)))
    (polynomial elements (word p))
whole e u p l =
    ap (polynomial elements) (word-append u p) ∙ polynomial-append elements (word u) (word p)
    ∙ (rw (word-length p, l))

pub parity_code_word : (e : ℕ) (u p : List ℕ) → Octets u → Parity e u p → CodeWord e (u ++ p)
parity_code_word e u p o r = record { octets = octets-append u p o r.octets; divided = rw (whole e u p r.long) r.remainder.divides }

pub code_word_parity : (e : ℕ) (u p : List ℕ) → length p ≡ 2 * e → CodeWord e (u ++ p) → Parity e u p
code_word_parity e u p l c = record {
  long = l;
  octets = octets_right u p c.octets;
  remainder = record { small = rw l at (below_word p); divides = rw (whole e u p l) at c.divided };
}

pub parity_unique : (e : ℕ) (u p q : List ℕ) → Parity e u p → Parity e u q → p ≡ q
unfolding generator
parity_unique e u p q hp hq =
    word_same p q hp.octets hq.octets
    (polynomial-same elements (word p) (word q) (word-length p ∙ hp.long ∙ sym hq.long ∙ sym (word-length q))
    (remainder_unique elements (2 * e) (generator e) _ _ _ (below-rooted elements (2 * e) _) (rooted-top elements (2 * e) _) hp.remainder hq.remainder))

pub code_word_begins : (e : ℕ) (u c : List ℕ) → length c ≡ length u + 2 * e → CodeWord e c → take (length u) c ≡ u
    → (c ≡ u ++ drop (length u) c) × Parity e u (drop (length u) c)
code_word_begins e u c l code begins =
    let split : c ≡ u ++ drop (length u) c = sym (take-append-drop (length u) c) ∙ ap (λ (x : List ℕ). x ++ drop (length u) c) begins in
    (split, code_word_parity e u (drop (length u) c) (length-drop (length u) c ∙ (omega (arith, l))) (rw split at code))

pub code_word_only : (e : ℕ) (u c d : List ℕ) → length c ≡ length u + 2 * e → length d ≡ length u + 2 * e → CodeWord e c → CodeWord e d
    → take (length u) c ≡ u → take (length u) d ≡ u → c ≡ d
code_word_only e u c d lc ld cc dc bc bd =
    let p = code_word_begins e u c lc cc bc in
    let q = code_word_begins e u d ld dc bd in
    p.0 ∙ ap (λ (x : List ℕ). u ++ x) (parity_unique e u _ _ p.1 q.1) ∙ sym q.0

-- ---- what the function answers

pub register_parity : (e : ℕ) (u p : List ℕ) → 2 * e ≤ length p → RemainderIs (2 * e) u p → Parity e u (take (2 * e) p)
unfolding generator
register_parity e u p l r = record { long = length-take-le (2 * e) p l; octets = octets-take (2 * e) p r.octets; remainder = r.remainder }

pub encoded-unique : (e : ℕ) (u before : List ℕ) (r q : Option ℕ) (after left : List ℕ)
    → Encoded e u before r after → Encoded e u before q left → (r ≡ q) × (after ≡ left)
encoded-unique e u before (Some n) (Some m) after left p q = (
  ap Some (p.1.count ∙ sym q.1.count),
  p.1.written_is ∙ ap (λ (x : List ℕ). written before 0 (u ++ x)) (parity_unique e u _ _ p.1.right q.1.right) ∙ sym q.1.written_is,
)
encoded-unique e u before (Some n) None after left p q = let a = p.0 in let b = q.0 in never (cc)
encoded-unique e u before None (Some m) after left p q = let a = p.0 in let b = q.0 in never (cc)
encoded-unique e u before None None after left p q = (refl, p.1 ∙ sym q.1)

pub encodes_true : (k e room : ℕ) → 0 < k → k + 2 * e ≤ longest_word → k + 2 * e ≤ room → encodes k e room ≡ true
encodes_true k e room some all fits = rw (lt-ltb 0 k some, le-leb (k + 2 * e) longest_word all, le-leb (k + 2 * e) room fits)

pub encoded-is : (e : ℕ) (u before after : List ℕ) (r : Option ℕ) → encodes (length u) e (length before) ≡ true → Encoded e u before r after
    → (n : ℕ) × (r ≡ Some n) × Done e u before n after
encoded-is e u before after (Some n) h p = (n, refl, p.1)
encoded-is e u before after None h p = let b = p.0 in never (cc)

pub encoded_done : (e n : ℕ) (u before p after : List ℕ) → 0 < length u → length u + 2 * e ≤ longest_word → length u + 2 * e ≤ length before
    → Parity e u p → n ≡ length u + 2 * e → after ≡ written before 0 (u ++ p) → Encoded e u before (Some n) after
encoded_done e n u before p after some all room r c w =
    (encodes_true (length u) e (length before) some all room, record { parity = p; right = r; count = c; written_is = w })

pub encodes-all : (k e room : ℕ) → encodes k e room ≡ true → (0 < k) × (k + 2 * e ≤ longest_word) × (k + 2 * e ≤ room)
encodes-all k e room h =
    let t = three_true (ltb 0 k) (leb (k + 2 * e) longest_word) (leb (k + 2 * e) room) h in
    (ltb-true 0 k t.0, leb-true (k + 2 * e) longest_word t.1, leb-true (k + 2 * e) room t.2)
