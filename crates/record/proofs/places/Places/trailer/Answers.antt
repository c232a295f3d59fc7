use Rattle.std.proofs.Common.{◌≡◌, refl, sym, ap, ap₂, ◌∙◌, List, [], ◌∷◌, ◌++◌, append_assoc, append-nil, ℕ, ◌+◌, ◌*◌, ◌≤◌, ◌<◌, add-one, arith, length, get_or, take, drop, length-append, drop_of_length-le, length-take-le, take_at, drop-cons, w32}
use Rattle.octets.specs.High.{high, fields, high-length}
use Rattle.octets.specs.Written.{written, written-length, written-append}
use Rattle.octets.proofs.Laws.{be_bytes-high, fields-length}
use Rattle.record.proofs.Placing.{octets-length}
use Rattle.record.specs.Recorded.{flat}
use Rattle.record.specs.Trailer.{mark}
use Rattle.record.specs.Walk.{place_octets}
use Rattle.record.specs.declared.place.Place.{Place}
use Rattle.record.proofs.places.Places.trailer.Goals as goal

module _ (l : List Place) (full : length l ≡ 16) (t : List ℕ) (j : ℕ) (long : length t ≡ 236)
    (so_far : take (14 * j) t ++ flat place_octets (drop j l) ≡ flat place_octets l) where
  on : (d : Place) → j < 16 → take (14 * (j + 1)) (written t (14 * j) (place_octets (get_or l j d))) ++ flat place_octets (drop (j + 1) l) ≡ flat place_octets l
  unfolding flat
  on d h =
      let r = place_octets (get_or l j d) in
      let wide : length r ≡ 14 = octets-length (get_or l j d) in
      let fits : 14 * j ≤ length t = omega arith in
      let next : length (take (14 * j) t ++ r) ≡ 14 * (j + 1)
      = length-append (take (14 * j) t) r ∙ rw (length-take-le (14 * j) t fits) (omega (arith, wide)) in
      let rest : flat place_octets (drop j l) ≡ r ++ flat place_octets (drop (j + 1) l)
      = ap (flat place_octets) (drop-cons l j d (omega arith)) ∙ rw add-one refl in
      ap (λ (x : List ℕ). x ++ flat place_octets (drop (j + 1) l))
      (take_at (take (14 * j) t ++ r) (drop (14 * j + length r) t) (14 * (j + 1)) next)
      ∙ append_assoc (take (14 * j) t) r (flat place_octets (drop (j + 1) l))
      ∙ ap (λ (x : List ℕ). take (14 * j) t ++ x) (sym rest) ∙ so_far

  ended : 16 ≤ j → j ≤ 16 → (s : List ℕ) → length s ≡ 12 → written t 224 s ≡ flat place_octets l ++ s
  unfolding flat
  ended h g s short =
      let all : j ≡ 16 = omega arith in
      let none : length t ≤ 224 + length s = omega arith in
      let gone : length l ≤ j = omega arith in
      let last : take 224 t ≡ flat place_octets l
      = ap (λ (n : ℕ). take (14 * n) t) (sym all) ∙ sym (append-nil (take (14 * j) t))
      ∙ ap (λ (x : List Place). take (14 * j) t ++ flat place_octets x) (sym (drop_of_length-le l gone)) ∙ so_far in
      ap (λ (x : List ℕ). take 224 t ++ s ++ x) (drop_of_length-le t none) ∙ append-nil (take 224 t ++ s) ∙ ap (λ (x : List ℕ). x ++ s) last

-- two numbers and the mark, one behind another
three : (t : List ℕ) (n m : ℕ) → length t ≡ 236 → {a b first second last : List ℕ} → a ≡ high 4 n → b ≡ high 4 m
    → first ≡ written t 224 a → second ≡ written first 228 b → last ≡ written second 232 mark
    → last ≡ written t 224 (fields (4 ∷ 4 ∷ []) (n ∷ m ∷ []) ++ mark)
three t n m long a_is b_is e f g =
    let a = high 4 n in
    let b = high 4 m in
    let four = high-length 4 n in
    let more = high-length 4 m in
    let at : 228 ≡ 224 + length a = omega arith in
    let behind : 232 ≡ 224 + length (a ++ b) = omega (arith, length-append a b) in
    g ∙ ap₂ (λ (x : List ℕ) (k : ℕ). written x k mark)
    (f ∙ ap₂ (λ (x y : List ℕ). written x 228 y) (e ∙ ap (written t 224) a_is) b_is
    ∙ ap (λ (k : ℕ). written (written t 224 a) k b) at ∙ written-append t 224 a (omega arith) b) behind
    ∙ written-append t 224 (a ++ b) (omega (arith, length-append a b)) mark
    ∙ ap (λ (x : List ℕ). written t 224 ((a ++ x) ++ mark)) (sym (append-nil b))

pub loop-j-preserved : goal.loop-j-preserved
loop-j-preserved c =
    let i = c.loop-j.invariant in
    let l = c.args.self.now.all in
    let q = get_or l c.loop-j.j _ in
    let wide : length (place_octets q) ≡ 14 = octets-length q in
    let e : c.write.new.dst ≡ written c.loop-j.trailer (14 * c.loop-j.j) (place_octets q) =
    c.write.ensures ∙ ap (λ (x : List ℕ). written c.loop-j.trailer (14 * c.loop-j.j) x) c.octets.ensures in (
      ap length e ∙ written-length c.loop-j.trailer (14 * c.loop-j.j) (place_octets q) (omega arith) ∙ i.0,
      rw e (on l (omega arith) _ _ i.0 i.1 _ c.loop-j-test.true),
    )

pub returns : goal.returns
returns c =
    let a = c.args in
    let i = c.loop-j.invariant in
    let ns = a.units ∷ a.before ∷ [] in
    let short : length (fields (4 ∷ 4 ∷ []) ns ++ mark) ≡ 12
    = length-append (fields (4 ∷ 4 ∷ []) ns) mark ∙ ap (λ (n : ℕ). n + 4) (fields-length (4 ∷ 4 ∷ []) ns refl) in
    three c.loop-j.trailer a.units a.before i.0 (c.to_be_bytes.ensures ∙ be_bytes-high w32 a.units)
    (c.to_be_bytes-2.ensures ∙ be_bytes-high w32 a.before) c.write-2.ensures c.write-3.ensures c.write-4.ensures
    ∙ ended a.self.now.all (omega arith) c.loop-j.trailer c.loop-j.j i.0 i.1 c.loop-j-test.false c.loop-j.auto.j-end
    (fields (4 ∷ 4 ∷ []) ns ++ mark) short
