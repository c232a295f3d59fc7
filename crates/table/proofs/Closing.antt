-- How many octets an entry has: a finite one those of its elements, one that ends until closing as many as any payload.
--
--   finite-or_closing  an entry is finite, or its last element repeats until closing
--   finite_octets      the octets of a finite one
--   closing_octets     .. and one that ends until closing has enough for every payload
--   closing_takes      .. so that it takes all of it
--   finite-exactly     a payload has more octets than its entry exactly where that is finite and has fewer
--
-- Assumes nothing.
use mathlib.Core.Path.{◌≡◌, refl, sym, ap, ap₂, ◌∙◌}
use mathlib.Core.Bool.{Bool, true, false, cond, not, ◌&&◌}
use Prim.Native.Nat.{ℕ, zero, suc, ◌+◌, ◌*◌, ◌≤◌, ◌<◌}
use native.Mathlib.Omega.{arith}
use borrow.Author.Tests.{not-false}
use Rattle.octets.specs.Tests.{both_true, never}
use Rattle.table.specs.Entry.{Count, times, until_closing, Elements, none, channel, list, size, is_none, is_count, is_list, is_times, is_finite, is_closing, octets_in}
use Rattle.table.specs.Slots.{passes, copies, slots, cut, octets_of}
use Rattle.table.specs.Claims.{FiniteOrClosing, ClosingTakesAll, FiniteExactly}
use Rattle.table.proofs.Cutting.{cut_octets, octets-append, copies_octets}
use Rattle.table.proofs.Expanding.{passes_enough, passes-once}
use Rattle.table.proofs.Parts.{count-once, channel_is, list_is, entry_is, some-none}

-- ---- finite, or not

inner-times : (r : Count) → is_count false r ≡ true → is_times r ≡ true
inner-times (times k) e = refl
inner-times until_closing e = never (cc)

inner_finite : (l : Elements) → is_list false l ≡ true → is_finite l ≡ true
unfolding is_finite
inner_finite none e = refl
inner_finite (channel r c l) e = let p = channel_is false r c l e in rw (inner-times r p.count) (inner_finite l p.behind)
inner_finite (list r i l) e = let p = list_is false r i l e in rw (inner-times r p.count, inner_finite i p.inner) (inner_finite l p.behind)

last_step : (r : Count) (l : Elements) → is_count (is_none l) r ≡ true → (is_none l ≡ false → is_finite l ≡ not (is_closing l))
    → (is_times r && is_finite l) ≡ not (cond (is_none l) (not (is_times r)) (is_closing l))
unfolding is_finite
last_step (times k) none e h = refl
last_step until_closing none e h = refl
last_step r (channel q c l) e h = rw (inner-times r e) (h refl)
last_step r (list q i l) e h = rw (inner-times r e) (h refl)

finite_closing : (l : Elements) → is_none l ≡ false → is_list true l ≡ true → is_finite l ≡ not (is_closing l)
unfolding is_finite is_closing
finite_closing none z e = never (cc)
finite_closing (channel r c l) z e = let p = channel_is true r c l e in last_step r l p.count (λ m. finite_closing l m p.behind)
finite_closing (list r i l) z e =
    let p = list_is true r i l e in
    rw (inner_finite i p.inner) (last_step r l p.count (λ m. finite_closing l m p.behind))

pub finite-or_closing : FiniteOrClosing
finite-or_closing l e = let p = entry_is l e in finite_closing l (some-none l p.some) p.sound

-- ---- octets

pub finite_octets : (n : ℕ) (l : Elements) → is_finite l ≡ true → octets_of (slots n l) ≡ octets_in l
unfolding is_finite slots octets_of octets_in
finite_octets n none e = refl
finite_octets n (channel (times k) c l) e = ap (λ (m : ℕ). k + m) (finite_octets n l e)
finite_octets n (channel until_closing c l) e = never (cc)
finite_octets n (list (times k) i l) e =
    let p = both_true (is_finite i) (is_finite l) e in
    octets-append (copies k (slots n i)) (slots n l)
    ∙ ap₂ (λ (a b : ℕ). a + b) (copies_octets k (slots n i) ∙ ap (λ (m : ℕ). k * m) (finite_octets n i p.0)) (finite_octets n l p.1)
finite_octets n (list until_closing i l) e = never (cc)

product_least : (a b : ℕ) → 1 ≤ b → a ≤ a * b
product_least zero b h = omega arith
product_least (suc a) b h = omega (arith, product_least a b h)

some_octets : (n : ℕ) (top : Bool) (l : Elements) → 1 ≤ n → is_list top l ≡ true → 1 ≤ size l → 1 ≤ octets_of (slots n l)
unfolding slots octets_of size
some_octets n top none h e s = absurd (omega arith)
some_octets n top (channel r c l) h e s =
    let p = channel_is top r c l e in
    omega (arith, passes-once n r h (count-once (top && is_none l) r p.count))
some_octets n top (list r i l) h e s =
    let p = list_is top r i l e in
    let o = some_octets n false i h p.inner (omega (arith, p.pair)) in
    let x = slots n i in
    omega (
      arith,
      passes-once n r h (count-once (top && is_none l) r p.count),
      octets-append (copies (passes n r) x) (slots n l),
      copies_octets (passes n r) x,
      product_least (passes n r) (octets_of x) o,
    )

-- one that is the last repeats until closing, or those behind it end so
closing_step : (r : Count) (l : Elements) → cond (is_none l) (not (is_times r)) (is_closing l) ≡ true → (n a : ℕ)
    → (r ≡ until_closing → n ≤ a) → (is_closing l ≡ true → n ≤ a) → n ≤ a
unfolding is_closing
closing_step (times k) none e n a p q = never (cc)
closing_step until_closing none e n a p q = p refl
closing_step r (channel o c l) e n a p q = q e
closing_step r (list o i l) e n a p q = q e

pub closing_octets : (n : ℕ) (l : Elements) → is_list true l ≡ true → is_closing l ≡ true → n ≤ octets_of (slots n l)
unfolding slots octets_of is_closing
closing_octets n none e z = never (cc)
closing_octets n (channel r c l) e z =
    let p = channel_is true r c l e in
    closing_step r l z n _ (λ u. rw u (omega (arith, passes_enough n n (omega arith)))) (λ m. omega (arith, closing_octets n l p.behind m))
closing_octets zero (list r i l) e z = omega arith
closing_octets (suc n) (list r i l) e z =
    let p = list_is true r i l e in
    let x = slots (suc n) i in
    let o = some_octets (suc n) false i (omega arith) p.inner (omega (arith, p.pair)) in
    let w = octets-append (copies (passes (suc n) r) x) (slots (suc n) l) in
    closing_step r l z (suc n) _
    (λ u. omega (arith, w, copies_octets (passes (suc n) r) x, ap (λ (q : Count). passes (suc n) q * octets_of x) u, product_least (suc n) (octets_of x) o))
    (λ m. omega (arith, w, closing_octets (suc n) l p.behind m))

-- ---- payloads

pub closing_takes : ClosingTakesAll
closing_takes l n e z = let h = closing_octets n l (entry_is l e).sound z in omega (arith, cut_octets n (slots n l))

pub finite-exactly : FiniteExactly
finite-exactly l n e = (λ h. go h (is_finite l) refl, λ p. omega (arith, cut_octets n (slots n l), finite_octets n l p.0, p.1))
  where
    go : octets_of (cut n (slots n l)) < n → (b : Bool) → is_finite l ≡ b → (is_finite l ≡ true) × (octets_in l < n)
    go h true f = (f, omega (arith, cut_octets n (slots n l), finite_octets n l f))
    go h false f = absurd (omega (arith, closing_takes l n e (not-false (is_closing l) (sym (finite-or_closing l e) ∙ f))))
