-- What the locator step answers.
--
--   margin                    how many zeros b and t stand behind
--   HasMargin b               these are zeros
--   behind b                  the series of what stands behind them
--   ProductTo m s c d         d is the product of c and the syndromes s, as far as the first m coefficients
--   second, room              where d begins in the array z, and how long that is; v has the margin besides
--   part o n z                the n octets of z from o on
--   of_c, of_d, of_b, of_t        what of z is c and d, and of v b and t
--   MasseyStateIs m s z v r l shift q    the state of Berlekamp and Massey's algorithm after r of m syndromes s, as the code keeps it: the
--                             recurrence c of length l, times a constant; b, the one from before l last grew, shifted since by `shift`; q, what
--                             b failed by; d and t, the products of c and b with s
--   block_at low i             where block i of 16 stands: the first `low` blocks are c's, the others d's
--   Among low high k          k is a place of the first `low` blocks of c, or of the first `high` of d
--   Mended low high p n a q z v w    w is a z + q x^n v, v's margin aside, at those places from p on; the rest is as in z
--   Saved grows o x v u       u is v, but where the length grows for the 16 octets from o on, which are x
--   Kept grows low high p z v u      u is v, but where the length grows for those places from p on, behind the margin, which are z's
--   Stepped e r ..            one step: from the state after r syndromes to that after r + 1; where its length is above e, that length alone
--   Located m s c l           c is the shortest recurrence for the first m of the syndromes s, times a constant that is not zero; l its length
--   LocatorIs m s c l         no recurrence for them is shorter than l, and c has no coefficient past l; where l is at most m / 2, c is as above
--   EvaluatorIs m s c o l     .. and o is then its product with s, whose first l coefficients are the error evaluator
--
-- Assumes nothing.
use Rattle.std.specs.Prelude.{◌≡◌, ◌⊎◌, Bool, true, false, cond, List, ℕ, suc, ◌+◌, ◌*◌, ◌-◌, ◌≤◌, ◌<◌, ltb, length, get_or, take, drop}
use Rattle.algebra.specs.Series as Ser
use Rattle.algebra.specs.Series.{Series, Below}
use Rattle.algebra.specs.Polynomial.{raised}
use Rattle.algebra.specs.Massey.{Least, ScaledState}
use Rattle.field.specs.Octet as Octet
use Rattle.codeword.specs.Element.{elements, element}
use Rattle.codeword.specs.Lanes.{lanes, Stored}
use Rattle.codeword.specs.Places.{places}

abbrev pub margin : ℕ
margin = 256

abbrev pub HasMargin : List ℕ → Type 0
HasMargin b = (k : ℕ) → k < margin → get_or b k 0 ≡ 0

unfoldable pub behind : List ℕ → Series elements
behind b k = places b (margin + k)

abbrev pub ProductTo : ℕ → List ℕ → Series elements → Series elements → Type 0
ProductTo m s c d = (k : ℕ) → k < m → d k ≡ Ser.◌⊛◌ elements c (places s) k

abbrev pub second : ℕ
second = 384

abbrev pub room : ℕ
room = 640

unfoldable pub part : ℕ → ℕ → List ℕ → List ℕ
part o n z = take n (drop o z)

abbrev pub of_c : List ℕ → List ℕ
of_c z = part 0 128 z

abbrev pub of_d : List ℕ → List ℕ
of_d z = part second 256 z

abbrev pub of_b : List ℕ → List ℕ
of_b v = part 0 (margin + 128) v

abbrev pub of_t : List ℕ → List ℕ
of_t v = part second (margin + 256) v

pub record MasseyStateIs (m : ℕ) (s z v : List ℕ) (r l shift q : ℕ) : Type 0 where
  pub shift_small : shift ≤ suc r
  pub product : ProductTo m s (places (of_c z)) (places (of_d z))
  pub b_margin : HasMargin (of_b v)
  pub t_margin : HasMargin (of_t v)
  pub earlier : ProductTo m s (behind (of_b v)) (behind (of_t v))
  pub state : ScaledState elements (places s) (places (of_c z)) (raised elements shift (behind (of_b v))) r l (element q)

unfoldable pub block_at : ℕ → ℕ → ℕ
block_at low i = cond (ltb i low) (lanes * i) (second + lanes * (i - low))

abbrev pub Among : ℕ → ℕ → ℕ → Type 0
Among low high k = (k < lanes * low) ⊎ ((second ≤ k) × (k < second + lanes * high))

pub record Mended (low high p n a q : ℕ) (z v w : List ℕ) : Type 0 where
  pub long : length w ≡ length z
  pub done : (k : ℕ) → p ≤ k → Among low high k → get_or w k 0 ≡ Octet.sum (Octet.product a (get_or z k 0)) (Octet.product q (get_or v (margin + k - n) 0))
  pub left : (k : ℕ) → (k < p) ⊎ (Among low high k → ⊥) → get_or w k 0 ≡ get_or z k 0

pub record Saved (grows : Bool) (o : ℕ) (x v u : List ℕ) : Type 0 where
  pub stored : grows ≡ true → Stored lanes o x v u
  pub same : grows ≡ false → u ≡ v

pub record Kept (grows : Bool) (low high p : ℕ) (z v u : List ℕ) : Type 0 where
  pub long : length u ≡ length v
  pub done : grows ≡ true → (k : ℕ) → p ≤ k → Among low high k → get_or u (margin + k) 0 ≡ get_or z k 0
  pub left : (i : ℕ) → (i < margin + p) ⊎ (Among low high (i - margin) → ⊥) → get_or u i 0 ≡ get_or v i 0
  pub same : grows ≡ false → u ≡ v

-- of any syndromes s that the state before it is of
pub record Stepped (e r : ℕ) (z v : List ℕ) (l shift q : ℕ) (z' v' : List ℕ) (l' shift' q' : ℕ) : Type 0 where
  pub long : length z' ≡ length z
  pub least : (s : List ℕ) → MasseyStateIs (2 * e) s z v r l shift q → Least elements (r + 1) l' (places s)
  pub below : (s : List ℕ) → MasseyStateIs (2 * e) s z v r l shift q → Below elements (suc l') (places (of_c z'))
  pub next : (s : List ℕ) → MasseyStateIs (2 * e) s z v r l shift q → l' ≤ e → MasseyStateIs (2 * e) s z' v' (r + 1) l' shift' q'

pub record Located (m : ℕ) (s c : List ℕ) (l : ℕ) : Type 0 where
  pub B : Series elements
  pub q : elements.Carrier
  pub state : ScaledState elements (places s) (places c) B m l q

pub record LocatorIs (m : ℕ) (s c : List ℕ) (l : ℕ) : Type 0 where
  pub least : Least elements m l (places s)
  pub below : Below elements (suc l) (places c)
  pub located : l + l ≤ m → Located m s c l

pub record EvaluatorIs (m : ℕ) (s c o : List ℕ) (l : ℕ) : Type 0 where
  pub product : l + l ≤ m → ProductTo m s (places c) (places o)
