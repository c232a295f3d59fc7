-- The repair: what the steps show, put together.
--
--   clean_found             a word whose syndromes are zero is found, unchanged
--   long_lost               a locator longer than e: no code word within e
--   roots_lost              a locator with fewer roots among the places than its length: none either
--   corrected_found         as many roots as its length: with Forney's values added there, the code word within e; the roots' places are those
--                           at which it differs, and the count is right
--   reads_true, reads_all   which words are of the code, and have room
--
-- Assumes nothing.
use mathlib.Core.Path.{◌≡◌, refl, sym, ap, ap₂, ◌∙◌}
use mathlib.Core.Logic.{◌≢◌, inr}
use mathlib.Core.Bool.{true}
use mathlib.Core.List.{List, ◌++◌}
use Prim.Native.Nat.{ℕ, suc, ◌+◌, ◌*◌, ◌-◌, ◌/◌, ◌≤◌, ◌<◌}
use native.Mathlib.Omega.{arith}
use native.Mathlib.Decide.{dec_lt}
use borrow.Author.Tests.{le-leb, lt-ltb, leb-true, ltb-true}
use lib.Dec.{leb, ltb}
use lib.ListN.{length, get_or, take, drop, length-drop, get_or-eq_default, take-append-drop}
use lib.Seq.{length-take-le, get_or-take, ext_get_or, get_or-drop}
use Rattle.octets.specs.Tests.{both_true, three_true}
use Rattle.octets.specs.Written.{written, written_nothing, written-length, written_inside, written_outside}
use Rattle.algebra.specs.Lists.{Lists}
use Rattle.algebra.specs.Series.{Series, operations}
use Rattle.algebra.specs.Power.{pow}
use Rattle.algebra.specs.Value.{ev}
use Rattle.algebra.specs.Points.{Distinct, Inverses}
use Rattle.algebra.specs.PowerSum.{psum}
use Rattle.algebra.specs.Support.{weight}
use Rattle.algebra.specs.Derivative.{deriv, odds}
use Rattle.algebra.proofs.Laws.{⊕_self, ⊕-cancel, ⊕-𝟘, ⊙-assoc, ⊙-comm, ⊙_inv, ⊙-𝟙, ⊞-at, ev_local, odds-at, deriv-odds}
use Rattle.algebra.proofs.Laws.{least-weight, scaled_complete, scaled-divisor, scaled_sound, scaled_lists, eq_of-sum, lists_as}
use Rattle.field.specs.Octet.{order}
use Rattle.codeword.specs.Element.{elements, element, octet, α}
use Rattle.codeword.specs.Element.Laws.{octet-mul, element-octet, element-sum, element-product, element-inverse}
use Rattle.codeword.specs.CodeWord.{longest_word, Octets, distance, Within}
use Rattle.codeword.specs.Places.{places, locators, inverses, value}
use Rattle.codeword.specs.Syndromes.{SyndromesAre, all_zero}
use Rattle.codeword.specs.Locator.{Located, LocatorIs, EvaluatorIs}
use Rattle.codeword.specs.Search.{value_of, SearchIs}
use Rattle.codeword.specs.Values.{OddsAre, error_of, Corrected}
use Rattle.codeword.specs.Repair.{RepairLent, lending, has_repair_room, reads, FoundIs}
use Rattle.codeword.proofs.Word.{places-at, locators-distinct, locators-inverse}
use Rattle.codeword.proofs.Criterion.{code_word-zero, zero_code_word}
use Rattle.codeword.proofs.Counting.{places_exactly, changed-none}
use Rattle.codeword.proofs.Distance.{element-same, difference, distance-weight, distance_self, difference-value}
use Rattle.codeword.proofs.Joining.{zero-syndromes}
use Rattle.codeword.proofs.Correcting.{value_of-octet}
use Rattle.codeword.proofs.Systematic.{octets-take}

infixl 60 ◌⊕◌
infixl 70 ◌⊙◌ ◌⊛◌
open elements use {Carrier as F, add as ◌⊕◌, mul as ◌⊙◌, inv, nil as 𝟘}
open operations elements use {◌⊛◌}

same_drop : (n : ℕ) (u v : List ℕ) → length u ≡ length v → length (drop n u) ≡ length (drop n v)
same_drop n u v e = length-drop n u ∙ ap (λ (k : ℕ). k - n) e ∙ sym (length-drop n v)

-- ---- a clean word

pub clean_found : (e : ℕ) (w : List ℕ) (before : RepairLent) (s u : List ℕ) → reads (length w) e before ≡ true → 2 * e < order → Octets w
    → SyndromesAre (2 * e) w s → all_zero (2 * e) s ≡ true → u ≡ written before.repair 0 w → FoundIs e w before 0 (lending u before.places)
clean_found e w before s u fits small o sy z is = record {
  fits = fits;
  found = w;
  within = record { long = refl; code = zero-syndromes e w s small o sy z; near = rw (distance_self w) (omega arith) };
  count = sym (distance_self w);
  filled_is = ap₂ lending is (sym (ap (written before.places 0) (changed-none w) ∙ written_nothing before.places 0));
}

-- ---- what the steps show

module _ (e : ℕ) (w s c : List ℕ) (l : ℕ) (n-small : length w ≤ longest_word) (o : Octets w) (sy : SyndromesAre (2 * e) w s) (lo : LocatorIs (2 * e) s c l) where
  distinct : Distinct elements (length w) (locators (length w))
  distinct = locators-distinct (length w) n-small

  inverse : Inverses elements (length w) (locators (length w)) (inverses (length w))
  inverse = locators-inverse (length w) n-small

  -- the syndromes of the error that turns a code word into w
  syndrome : (i : ℕ) → i < 2 * e → places s i ≡ value w (pow elements α (suc i))
  syndrome i h = places-at s i ∙ sy.used i h

  error_syndromes : (v : List ℕ) → Within e w v → (i : ℕ) → i < 2 * e → places s i ≡ psum elements (length w) (difference w v) (locators (length w)) (suc i)
  error_syndromes v h i k = syndrome i k ∙ sym (difference-value w v (sym h.long) (suc i) ∙ (rw (code_word-zero e v h.code i k) (⊕-𝟘 elements _)))

  error-weight : (v : List ℕ) → (h : Within e w v) → weight elements (length w) (difference w v) ≤ e
  error-weight v h = rw (← distance-weight w v (sym h.long) o h.code.octets) h.near

  twice : (v : List ℕ) → (h : Within e w v) → weight elements (length w) (difference w v) + weight elements (length w) (difference w v) ≤ 2 * e
  twice v h = omega (arith, error-weight v h)

  pub long_lost : e < l → (v : List ℕ) → Within e w v → ⊥
  long_lost k v h =
      omega (
        arith,
        error-weight v h,
        least-weight elements distinct inverse lo.least (difference w v) (error_syndromes v h),
      )

  pub roots_lost : (at : List ℕ) (count : ℕ) → l ≤ e → SearchIs (length w) l c at count → count ≢ l → (v : List ℕ) → Within e w v → ⊥
  roots_lost at count short se ne v h =
      ne (scaled_complete elements distinct inverse (lo.located (omega arith)).state (difference w v) (twice v h) (error_syndromes v h) count _
      se.search)

  -- ---- as many roots as the length

  module _ (at ov de : List ℕ) (se : SearchIs (length w) l c at l) (short : l ≤ e) (evaluator : EvaluatorIs (2 * e) s c ov l)
      (derivative : OddsAre l c de) where
    located : Located (2 * e) s c l
    located = lo.located (omega arith)

    value-element : (p : List ℕ) (f : Series elements) (n : ℕ) (x : F) → ((i : ℕ) → i < n → places p i ≡ f i) → element (value_of p n (octet x)) ≡ ev elements n f x
    unfolding value_of
    value-element p f n x same = element-octet _ ∙ ap (ev elements n (places p)) (element-octet x) ∙ ev_local elements n (places p) f x same

    -- the derivative at x, from the odd coefficients at x²
    derivative-element : (x : F) → element (value_of de ((l + 1) / 2) (octet (x ⊙ x))) ≡ ev elements l (deriv elements (places c)) x
    derivative-element x =
        value-element de (odds elements (places c)) ((l + 1) / 2) (x ⊙ x)
        (λ i h. places-at de i ∙ ap element (derivative.used i (omega arith)) ∙ sym (odds-at elements (places c) i ∙ places-at c (2 * i + 1)))
        ∙ sym (deriv-odds elements l (places c) x)

    error-element : (k : ℕ) → element (error_of ov de l (octet (inverses (length w) k)))
        ≡ ev elements l (places c ⊛ places s) (inverses (length w) k) ⊙ inv (ev elements l (deriv elements (places c)) (inverses (length w) k))
    unfolding error_of
    error-element k =
        element-product _ _
        ∙ ap₂ (λ (x y : F). x ⊙ y)
        (value-element ov (places c ⊛ places s) l (inverses (length w) k) (λ i h. evaluator.product (omega arith) i (omega arith)))
        (element-inverse _ (value_of-octet de ((l + 1) / 2) _) ∙ ap inv
        (ap (λ (y : ℕ). element (value_of de ((l + 1) / 2) y)) (sym (octet-mul _ _)) ∙ derivative-element (inverses (length w) k)))

    divided : (j : ℕ) → j < l
        → element (error_of ov de l (octet (inverses (length w) (get_or at j 0)))) ⊙ ev elements l (deriv elements (places c)) (inverses (length w) (get_or at j 0))
        ≡ ev elements l (places c ⊛ places s) (inverses (length w) (get_or at j 0))
    divided j h =
        ap (λ (x : F). x ⊙ ev elements l (deriv elements (places c)) (inverses (length w) (get_or at j 0))) (error-element (get_or at j 0))
        ∙ ⊙-assoc elements _ _ _
        ∙ ap (λ (x : F). ev elements l (places c ⊛ places s) (inverses (length w) (get_or at j 0)) ⊙ x)
        (⊙-comm elements _ _ ∙ ⊙_inv elements _
        (scaled-divisor elements distinct inverse located.state (λ i. get_or at i 0) se.search j h))
        ∙ ⊙-𝟙 elements _

    module _ (before : List ℕ) (u : List ℕ) (room : length w ≤ length before) (co : Corrected (length w) l l at ov de (written before 0 w) u) where
      u-long : length u ≡ length before
      u-long = co.long ∙ written-length before 0 w (omega arith)

      long : length (take (length w) u) ≡ length w
      long = length-take-le (length w) u (omega (arith, u-long))

      copied : (p : ℕ) → p < length w → get_or (written before 0 w) p 0 ≡ get_or w p 0
      copied p h = let z : p ≡ 0 + p = omega arith in ap (λ (k : ℕ). get_or (written before 0 w) k 0) z ∙ written_inside before 0 w (omega arith) p 0 h

      repaired-at : (p : ℕ) → p < length w → get_or (take (length w) u) p 0 ≡ get_or u p 0
      repaired-at p h = get_or-take (length w) u p 0 h

      difference-at : (p : ℕ) → difference w (take (length w) u) p ≡ element (get_or w p 0) ⊕ element (get_or (take (length w) u) p 0)
      difference-at p = ⊞-at elements _ _ p ∙ ap₂ (λ (x y : F). x ⊕ y) (places-at w p) (places-at (take (length w) u) p)

      same_none : (p : ℕ) → get_or (take (length w) u) p 0 ≡ get_or w p 0 → difference w (take (length w) u) p ≡ 𝟘
      same_none p h = difference-at p ∙ (rw h (⊕_self elements _))

      elsewhere : (p : ℕ) → (ev elements (suc l) (places c) (inverses (length w) p) ≡ 𝟘 → ⊥) → difference w (take (length w) u) p ≡ 𝟘
      elsewhere p no-root = same_none p (elim (dec_lt p (length w)) [
        | yes h ↦ repaired-at p h ∙ co.same p (λ j m z. no-root (rw z at (se.search.each j m))) ∙ copied p h
        | no h ↦ get_or-eq_default (take (length w) u) 0 (beyond (take (length w) u) long h) ∙ sym (get_or-eq_default w 0 (beyond w refl h))
      ])
        where
          beyond : (x : List ℕ) → length x ≡ length w → (p < length w → ⊥) → length x ≤ p
          beyond x q h = omega arith

      listed : (j : ℕ) → j < l → difference w (take (length w) u) (get_or at j 0) ≡ element (error_of ov de l (octet (inverses (length w) (get_or at j 0))))
      listed j h =
          difference-at (get_or at j 0)
          ∙ (rw (repaired-at (get_or at j 0) inside, co.changed j h, copied (get_or at j 0) inside)
          (ap (λ (x : F). element (get_or w (get_or at j 0) 0) ⊕ x) (element-sum _ _) ∙ ⊕-cancel elements _ _))
        where
          inside : get_or at j 0 < length w
          inside = se.search.inside j h

      valued : (j : ℕ) → j < l
          → difference w (take (length w) u) (get_or at j 0) ⊙ ev elements l (deriv elements (places c)) (inverses (length w) (get_or at j 0))
          ≡ ev elements l (places c ⊛ places s) (inverses (length w) (get_or at j 0))
      valued j h =
          ap (λ (x : F). x ⊙ ev elements l (deriv elements (places c)) (inverses (length w) (get_or at j 0))) (listed j h) ∙ divided j h

      sound : ((i : ℕ) → i < 2 * e → psum elements (length w) (difference w (take (length w) u)) (locators (length w)) (suc i) ≡ places s i)
          × (weight elements (length w) (difference w (take (length w) u)) ≡ l)
      sound =
          scaled_sound elements distinct inverse located.state (λ i. get_or at i 0) se.search
          (difference w (take (length w) u)) (omega arith) elsewhere valued

      octets_repaired : Octets (take (length w) u)
      octets_repaired = octets-take (length w) u co.octets

      -- the roots are at the places where the words differ
      differ : (p : ℕ) → difference w (take (length w) u) p ≡ 𝟘 → get_or w p 0 ≡ get_or (take (length w) u) p 0
      differ p z = element-same _ _ (o p) (octets_repaired p) (eq_of-sum elements _ _ (sym (difference-at p) ∙ z))

      at_long : length (take l at) ≡ l
      at_long = length-take-le l at (omega (arith, se.long, short))

      places-listed : Lists (length w) (length (take l at)) (λ p. get_or w p 0 ≢ get_or (take (length w) u) p 0) (λ j. get_or (take l at) j 0)
      places-listed = rw at_long (lists_as (length w) l _ (λ p. get_or w p 0 ≢ get_or (take (length w) u) p 0) (λ j. get_or at j 0) _
          (λ p h ne q. ne (same_none p (sym q))) (λ p h ne z. ne (differ p z)) (λ j h. sym (get_or-take l at j 0 h))
          (scaled_lists elements distinct inverse located.state (λ i. get_or at i 0) se.search
          (difference w (take (length w) u)) (omega arith) elsewhere valued))

      zero-value : (i : ℕ) → i < 2 * e → value (take (length w) u) (pow elements α (suc i)) ≡ 𝟘
      zero-value i h =
          sym (⊕-cancel elements (value w (pow elements α (suc i))) _)
          ∙ ap (λ (x : F). value w (pow elements α (suc i)) ⊕ x) (sym (difference-value w (take (length w) u) (sym long) (suc i)) ∙ sound.0 i h ∙ syndrome i h)
          ∙ ⊕_self elements _

      pub corrected_found : 2 * e < order → (list left : List ℕ) → reads (length w) e (lending before list) ≡ true → left ≡ written list 0 (take l at)
          → FoundIs e w (lending before list) l (lending u left)
      corrected_found small list left fits is = record {
        fits = fits;
        found = take (length w) u;
        within = record {
          long = long;
          code = zero_code_word e (take (length w) u) small octets_repaired zero-value;
          near = omega (arith, apart);
        };
        count = sym apart;
        filled_is = ap₂ lending kept (is ∙ ap (written list 0) ((places_exactly w (take (length w) u) (take l at) long).1 places-listed));
      }
        where
          apart : distance w (take (length w) u) ≡ l
          apart = distance-weight w (take (length w) u) (sym long) o octets_repaired ∙ sound.1

          behind : drop (length w) u ≡ drop (length w) before
          behind = ext_get_or 0 (drop (length w) u) (drop (length w) before) (same_drop (length w) u before u-long) (λ i h.
              get_or-drop (length w) u i 0 ∙ co.same (length w + i) (λ j m z. far i j m z)
              ∙ written_outside before 0 w (omega arith) (length w + i) 0 (inr (omega arith)) ∙ sym (get_or-drop (length w) before i 0))
            where
              far : (i j : ℕ) → j < l → get_or at j 0 ≡ length w + i → ⊥
              far i j m z = omega (arith, se.search.inside j m)

          kept : u ≡ written before 0 (take (length w) u)
          kept =
              let z : length w ≡ 0 + length (take (length w) u) = omega (arith, long) in
              sym (take-append-drop (length w) u) ∙ ap (λ (x : List ℕ). take (length w) u ++ x) (behind ∙ ap (λ (k : ℕ). drop k before) z)

-- ---- whether the word is one of the code

pub reads_true : (n e : ℕ) (lent : RepairLent) → n ≤ longest_word → 2 * e < n → n ≤ length lent.repair → e ≤ length lent.places
    → reads n e lent ≡ true
reads_true n e lent a b c d = rw (le-leb n longest_word a, lt-ltb (2 * e) n b, le-leb n (length lent.repair) c, le-leb e (length lent.places) d)

pub reads_all : (n e : ℕ) (lent : RepairLent) → reads n e lent ≡ true
    → (n ≤ longest_word) × (2 * e < n) × (n ≤ length lent.repair) × (e ≤ length lent.places)
reads_all n e lent h =
    let t = three_true (leb n longest_word) (ltb (2 * e) n) (has_repair_room n e lent) h in
    let r = both_true (leb n (length lent.repair)) (leb e (length lent.places)) t.2 in
    (leb-true n longest_word t.0, ltb-true (2 * e) n t.1, leb-true n (length lent.repair) r.0, leb-true e (length lent.places) r.1)
