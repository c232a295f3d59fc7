-- The syndromes of a word, from the values of its columns.
--
--   value_rows                                   the value of a word's polynomial by its columns
--   Syndrome w i x                               x is syndrome i of w
--   joined_one, joined_two                       16 of them, and 32 more
--   joined_done                                  all of them
--   all_zero-none, all_zero_more                   all of them zero, as far as the | of them tells
--   zero-syndromes                               a word whose syndromes are all zero is a code word
--
-- Assumes nothing.
use mathlib.Core.Path.{◌≡◌, refl, sym, ap, ◌∙◌}
use mathlib.Core.Bool.{Bool, true, false, cond}
use mathlib.Core.List.{List}
use Prim.Native.Nat.{ℕ, zero, suc, ◌+◌, ◌*◌, ◌%◌, ◌≤◌, ◌<◌}
use native.Mathlib.Numerals.{add-one}
use native.Mathlib.Omega.{arith}
use native.Mathlib.Decide.{ℕ_discrete}
use native.Mathlib.Nat.{zero-add}
use borrow.Author.Tests.{eqb-true, ne_eqb}
use lib.Bits.{bit_or, or_add_and, or_zero_r, and_le_r, and_comm}
use lib.Dec.{eqb}
use lib.ListN.{length, get_or, take}
use Rattle.octets.specs.Tests.{never}
use Rattle.octets.specs.Written.{written, written-length}
use Rattle.algebra.specs.Power.{pow}
use Rattle.algebra.specs.Polynomial.{polynomial}
use Rattle.algebra.specs.Value.{ev}
use Rattle.algebra.proofs.Laws.{ev_more, ev_local, ev_rows, pow-pow}
use Rattle.field.specs.Octet as Octet
use Rattle.codeword.specs.Element.{elements, element, α}
use Rattle.codeword.specs.Element.Laws.{element-zero}
use Rattle.codeword.proofs.Element.Laws.{element-power}
use Rattle.codeword.specs.CodeWord.{longest_word, word, Octets, CodeWord}
use Rattle.codeword.specs.Places.{value}
use Rattle.codeword.specs.Lanes.{lanes, along}
use Rattle.codeword.specs.Rows.{spaced, column, Known, Evaluated, ColumnsAre}
use Rattle.codeword.specs.Syndromes.{SyndromesAre, all_zero}
use Rattle.codeword.proofs.Word.{below_word, pow_wrap}
use Rattle.codeword.proofs.Columns.{spaced-at, Blocks, blocks-next}
use Rattle.codeword.specs.Register.{Padded}
use Rattle.codeword.proofs.Arrays.{padded-used, padded-unused}
use Rattle.codeword.proofs.Criterion.{zero_code_word}

-- ---- columns

pub value_rows : (w : List ℕ) (x : elements.Carrier) → length w ≤ longest_word
    → value w x ≡ ev elements 15 (λ q. ev elements 17 (column w q) (pow elements x 15)) x
unfolding value column
value_rows w x h =
    sym (ev_more elements (length w) longest_word (polynomial elements (word w)) x (below_word w) h)
    ∙ ev_rows elements 15 17 (polynomial elements (word w)) x

-- the value at x = αⁱ, from those of the columns at α^15r, where r is i modulo 17
column_values : (w v : List ℕ) (i r : ℕ) → length w ≤ longest_word → 15 * r % Octet.order ≡ 15 * i % Octet.order → Known w r v
    → ev elements 15 (spaced v 48 r) (pow elements α i) ≡ value w (pow elements α i)
column_values w v i r h e f =
    let point : pow elements α (15 * r) ≡ pow elements (pow elements α i) 15 =
    sym (pow_wrap (15 * r)) ∙ ap (pow elements α) e ∙ pow_wrap (15 * i) ∙ ap (pow elements α) (omega arith) ∙ sym (pow-pow elements α i 15) in
    sym (value_rows w (pow elements α i) h
    ∙ ev_local elements 15 _ _ _ (λ q l. sym (spaced-at v 48 r q (48 * q + r) refl ∙ f.used q l ∙ ap (ev elements 17 (column w q)) point)))

abbrev pub Syndrome : List ℕ → ℕ → ℕ → Type 0
Syndrome w i x = element x ≡ value w (pow elements α (suc i))

joined_lane : (n : ℕ) {m : ℕ} {w v a : List ℕ} → length w ≤ longest_word → ColumnsAre m w v → Evaluated 15 (along (n + 1)) v 48 (n % 17 + 1) a
    → (j : ℕ) → j < lanes → n + j < m → Syndrome w (n + j) (get_or a j 0)
joined_lane n {m} {w} {v} {a} h values e j l k =
    let next : n + 1 + j ≡ suc (n + j) = omega arith in
    let point : element (along (n + 1) j) ≡ pow elements α (suc (n + j)) = element-power (n + 1 + j) ∙ ap (pow elements α) next in
    e.used j l
    ∙ (rw point (column_values w v (suc (n + j)) (n % 17 + 1 + j) h (omega arith) (values (n % 17 + 1 + j) (omega arith) (omega arith) (omega arith))))

pub joined_one : {m : ℕ} {w v a : List ℕ} → length w ≤ longest_word → ColumnsAre m w v → Evaluated 15 (along 1) v 48 1 a → Blocks (Syndrome w) lanes m a
joined_one h values e i l k = rw (zero-add i) at (joined_lane 0 h values e i l (rw (zero-add i) k))

pub joined_two : (n : ℕ) (s : List ℕ) {m : ℕ} {w v a b : List ℕ} → length w ≤ longest_word → ColumnsAre m w v → n + 32 ≤ length s
    → Evaluated 15 (along (n + 1)) v 48 (n % 17 + 1) a → Evaluated 15 (along (n + 1 + lanes)) v 48 ((n + lanes) % 17 + 1) b → Blocks (Syndrome w) n m s
    → Blocks (Syndrome w) (n + 32) m (written (written s n a) (n + lanes) b)
joined_two n s {m} {w} {v} {a} {b} h values room low high old =
    rw (sum) at (blocks-next (Syndrome w) (n + lanes) m (written s n a) b (omega (arith, long)) high.long
    (blocks-next (Syndrome w) n m s a (omega arith) low.long old (joined_lane n h values low)) (joined_lane (n + lanes) h values (rw next at high)))
  where
    sum : n + lanes + lanes ≡ n + 32
    sum = omega arith

    next : n + 1 + lanes ≡ n + lanes + 1
    next = omega arith

    long : length (written s n a) ≡ length s
    long = written-length s n a (omega (arith, low.long))

pub joined_done : {n m : ℕ} {w r : List ℕ} (s : List ℕ) → m ≤ n → Blocks (Syndrome w) n m s
    → Padded longest_word (take m s) r → SyndromesAre m w r
joined_done s l h p = record { used = λ i k. ap element (padded-used s p i k) ∙ h i (omega arith) k; unused = padded-unused s p }

-- ---- all zero

all_zero-all : (m : ℕ) (s : List ℕ) → all_zero m s ≡ true → (i : ℕ) → i < m → get_or s i 0 ≡ 0
unfolding all_zero
all_zero-all zero s e i l = absurd (omega arith)
all_zero-all (suc m) s e i l = go (eqb (get_or s m 0) 0) refl e (all_zero-all m s) (ℕ_discrete i m)
  where
    go : (b : Bool) → eqb (get_or s m 0) 0 ≡ b → cond b (all_zero m s) false ≡ true → (all_zero m s ≡ true → (i : ℕ) → i < m → get_or s i 0 ≡ 0)
        → Dec (i ≡ m) → get_or s i 0 ≡ 0
    go true t e ih (yes p) = rw p (eqb-true _ _ t)
    go true t e ih (no n) = ih e i (omega arith)
    go false t e ih d = never (cc)

pub all_zero-none : (s : List ℕ) → eqb 0 0 ≡ all_zero 0 s
unfolding all_zero
all_zero-none s = refl

-- a | b is zero where both are
or-zero : (a b : ℕ) → bit_or a b ≡ 0 → (a ≡ 0) × (b ≡ 0)
or-zero a b e = (omega (arith, or_add_and a b, and_le_r a b), omega (arith, or_add_and a b, and_comm a b, and_le_r b a))

or_eqb : (a b : ℕ) → eqb (bit_or a b) 0 ≡ cond (eqb b 0) (eqb a 0) false
or_eqb a b = go (ℕ_discrete (bit_or a b) 0) (ℕ_discrete b 0)
  where
    go : Dec (bit_or a b ≡ 0) → Dec (b ≡ 0) → eqb (bit_or a b) 0 ≡ cond (eqb b 0) (eqb a 0) false
    go d (yes z) = rw (z, or_zero_r)
    go (yes e) (no n) = absurd (n (or-zero a b e).1)
    go (no m) (no n) = ne_eqb _ _ m ∙ sym (rw (ne_eqb b 0 n))

pub all_zero_more : (i any : ℕ) (s : List ℕ) → eqb any 0 ≡ all_zero i s → eqb (bit_or any (get_or s i 0)) 0 ≡ all_zero (i + 1) s
unfolding all_zero
all_zero_more i any s h = or_eqb any (get_or s i 0) ∙ (rw (add-one i, h))

pub zero-syndromes : (e : ℕ) (w s : List ℕ) → 2 * e < Octet.order → Octets w → SyndromesAre (2 * e) w s → all_zero (2 * e) s ≡ true → CodeWord e w
zero-syndromes e w s h o sy z =
    zero_code_word e w h o (λ i l. sym (sy.used i l) ∙ ap element (all_zero-all (2 * e) s z i l) ∙ element-zero)
