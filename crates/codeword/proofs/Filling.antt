-- The values of the word's columns, filled in for one root after another.
--
--   spread_start, spread-next       one lane after another
--   filling_spread, filling-past    at one root: the lanes spread, or none where the root is past m
--   filling_start, filling-next     one root after another
--   repeated_start, repeated-next   one row after another
--   repeated-stays, repeated-filled   what is filled in stays so, and is so 17 further on
--
-- Assumes nothing.
use mathlib.Core.Path.{◌≡◌, refl, sym, ap, ◌∙◌}
use mathlib.Core.Logic.{◌⊎◌, inl, inr}
use mathlib.Core.List.{List}
use Prim.Native.Nat.{ℕ, ◌+◌, ◌-◌, ◌*◌, ◌%◌, ◌≤◌, ◌<◌}
use native.Mathlib.Omega.{arith}
use native.Mathlib.Decide.{ℕ_discrete, dec_lt}
use lib.Dec.{lit<}
use lib.ListN.{length, get_or, set, length-set}
use lib.Seq.{get_or-set_same, get_or-set_other}
use Rattle.algebra.specs.Power.{pow}
use Rattle.octets.specs.Written.{written, written-length, written_inside, written_outside}
use Rattle.field.specs.Octet as Octet
use Rattle.codeword.specs.Element.{elements, element, α}
use Rattle.codeword.proofs.Element.Laws.{element-power}
use Rattle.codeword.specs.Lanes.{lanes, Lanes}
use Rattle.codeword.specs.Rows.{Evaluated, Spread, Known, Worth, Filling, Repeated}
use Rattle.codeword.proofs.Word.{pow_wrap}

pub spread_start : {r : ℕ} {a v : List ℕ} → Spread 0 r a v v
spread_start = record { long = refl; done = λ i l. absurd (omega arith); left = λ k l. refl }

pub spread-next : {n r x : ℕ} {a v u : List ℕ} → Spread n r a v u → n < 15 → r < 48 → length v ≡ 720 → x ≡ get_or a n 0
    → Spread (n + 1) r a v (set u (48 * (14 - n) + r) x)
spread-next {n} {r} {x} {a} {v} {u} h l m long e = record {
  long = length-set u _ x ∙ h.long;
  done = λ i j. go i j (ℕ_discrete i n);
  left = λ k ne. get_or-set_other u _ k x 0 (ne n (omega arith)) ∙ h.left k (λ i j. ne i (omega arith));
}
  where
    go : (i : ℕ) → i < n + 1 → Dec (i ≡ n) → get_or (set u (48 * (14 - n) + r) x) (48 * (14 - i) + r) 0 ≡ get_or a i 0
    go i j (yes p) = rw p (get_or-set_same u (48 * (14 - n) + r) x 0 (omega (arith, h.long)) ∙ e)
    go i j (no p) = get_or-set_other u (48 * (14 - n) + r) (48 * (14 - i) + r) x 0 (omega arith) ∙ h.done i (omega arith)

-- ---- the columns' values, root by root

pub filling_spread : {n r m y : ℕ} {f a v u : List ℕ} → r < 48 → y ≡ Octet.power Octet.α (15 * r) → Evaluated n (λ i. y) f 16 0 a → Spread 15 r a v u → Filling n f 1 (λ j. r) m v u
filling_spread {n} {r} {m} {y} {f} {a} {v} {u} l at h s = record {
  stays = λ w W k m old. go w (W 0 (lit< tt)) k m old (ℕ_discrete k r);
  filled = λ w W j k e. new w (W 0 (lit< tt));
}
  where
    point : element y ≡ pow elements α (15 * r)
    point = ap element at ∙ element-power (15 * r)

    new : (w : List ℕ) → Worth w n r f → Known w r u
    new w W = record {
      used = λ q k.
          let e : 48 * q + r ≡ 48 * (14 - (14 - q)) + r = omega arith in
          let back : 14 - (14 - q) ≡ q = omega arith in
          let lane : 0 + (14 - q) ≡ 14 - q = omega arith in
          ap (λ (i : ℕ). element (get_or u i 0)) e ∙ ap element (s.done (14 - q) (omega arith)) ∙ (rw (lane, point) at (h.used (14 - q) (omega arith)))
          ∙ (rw back at (W.worth (14 - q) (omega arith)));
    }

    go : (w : List ℕ) → Worth w n r f → (k : ℕ) → k < 48 → Known w k v → Dec (k ≡ r) → Known w k u
    go w W k m old (yes e) = rw e (new w W)
    go w W k m old (no ne) = record { used = λ q j. ap element (s.left (48 * q + k) (λ i o. omega arith)) ∙ old.used q j }

pub filling-past : {n r m : ℕ} {f v : List ℕ} → m < r → Filling n f 1 (λ j. r) m v v
filling-past l = record { stays = λ w W r m old. old; filled = λ w W j k e. absurd (omega arith) }

pub filling_start : {n m : ℕ} {f v : List ℕ} {roots : ℕ → ℕ} → Filling n f 0 roots m v v
filling_start = record { stays = λ w W r m old. old; filled = λ w W j k e. absurd (omega arith) }

pub filling-next : {n m c : ℕ} {f v u x : List ℕ} {roots : ℕ → ℕ} → ((j : ℕ) → j < c → roots j < 48) → Filling n f c roots m v u
    → Filling n f 1 (λ j. roots c) m u x → Filling n f (c + 1) roots m v x
filling-next {n} {m} {c} {f} {v} {u} {x} {roots} small a b = record {
  stays = λ w W r l old. b.stays w (λ j k. W c (omega arith)) r l (a.stays w (λ j k. W j (omega arith)) r l old);
  filled = λ w W j l e. go w W j l e (ℕ_discrete j c);
}
  where
    go : (w : List ℕ) → ((j : ℕ) → j < c + 1 → Worth w n (roots j) f) → (j : ℕ) → j < c + 1 → roots j ≤ m → Dec (j ≡ c) → Known w (roots j) x
    go w W j l e (yes p) = rw p (b.filled w (λ j k. W c (omega arith)) 0 (lit< tt) (rw p at e))
    go w W j l e (no p) =
        b.stays w (λ j k. W c (omega arith)) (roots j) (small j (omega arith)) (a.filled w (λ j k. W j (omega arith)) j (omega arith) e)

-- ---- twice round

pub repeated_start : {v : List ℕ} → Repeated 0 v v
repeated_start = record { long = refl; behind = λ q i l. absurd (omega arith); left = λ q i l. refl }

pub repeated-next : {n : ℕ} {v u a : List ℕ} → n < 15 → length v ≡ 720 → Lanes (λ k. get_or u (48 * n + 1 + k) 0) a → Repeated n v u
    → Repeated (n + 1) v (written u (48 * n + 18) a)
repeated-next {n} {v} {u} {a} l long h old = record {
  long = written-length u (48 * n + 18) a fits ∙ old.long;
  behind = λ q i k m. new q i k m (ℕ_discrete q n);
  left = λ q i m. written_outside u (48 * n + 18) a fits (48 * q + i) 0 (apart q i m (dec_lt n q)) ∙ old.left q i m;
}
  where
    fits : 48 * n + 18 + length a ≤ length u
    fits = omega (arith, h.long, old.long)

    apart : (q i : ℕ) → i < 18 → Dec (n < q) → (48 * q + i < 48 * n + 18) ⊎ (48 * n + 18 + length a ≤ 48 * q + i)
    apart q i m (yes k) = inr (omega (arith, h.long))
    apart q i m (no k) = inl (omega arith)

    new : (q i : ℕ) → q < n + 1 → i < lanes → Dec (q ≡ n) → get_or (written u (48 * n + 18) a) (48 * q + 18 + i) 0 ≡ get_or v (48 * q + 1 + i) 0
    new q i k m (yes e) =
        let s : 48 * n + 1 + i ≡ 48 * n + (1 + i) = omega arith in
        rw e (written_inside u (48 * n + 18) a fits i 0 (omega (arith, h.long)) ∙ h.entry i m ∙ (rw s (old.left n (1 + i) (omega arith))))
    new q i k m (no e) = written_outside u (48 * n + 18) a fits (48 * q + 18 + i) 0 (inl (omega arith)) ∙ old.behind q i (omega arith) m

pub repeated-stays : {w v u : List ℕ} {r : ℕ} → Repeated 15 v u → r < 18 → Known w r v → Known w r u
repeated-stays h l f = record { used = λ q m. ap element (h.left q _ l) ∙ f.used q m }

pub repeated-filled : {w v u : List ℕ} (r : ℕ) → Repeated 15 v u → r < lanes → Known w (1 + r) v → Known w (18 + r) u
repeated-filled r h l f = record {
  used = λ q m.
      let a : 48 * q + (18 + r) ≡ 48 * q + 18 + r = omega arith in
      let b : 48 * q + 1 + r ≡ 48 * q + (1 + r) = omega arith in
      let c : 15 * (18 + r) % Octet.order ≡ 15 * (1 + r) % Octet.order = omega arith in
      let point : pow elements α (15 * (18 + r)) ≡ pow elements α (15 * (1 + r)) =
      sym (pow_wrap (15 * (18 + r))) ∙ ap (pow elements α) c ∙ pow_wrap (15 * (1 + r)) in
      rw (a, point) (ap element (h.behind q r m l) ∙ (rw b (f.used q m)));
}
