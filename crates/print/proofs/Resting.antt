-- What stands in the buffer, text by text.
--
--   rests-append  text is put, and text behind it
--   rests-behind  an octet is put in a buffer that had room
--   rests-first   one is put in a full buffer, which went out
--
-- Assumes nothing.
use Rattle.std.proofs.Common.{ℕ, ◌≡◌, ◌+◌, ◌-◌, ◌*◌, ◌<◌, List, [], ◌∷◌, ◌++◌, length, take, drop, set, refl, sym, ap, ◌∙◌, append_assoc, arith, length-append, length-drop, length-take}
use Rattle.std.proofs.lemmas.List.{drop-append-le, drop-drop, drop_at, take_more_set}
use Rattle.print.specs.Buffer.{Rests}

pub rests-append : {u v w : List ℕ} (s t : List ℕ) → Rests u s v → Rests v t w → Rests u (s ++ t) w
rests-append {u} {v} {w} s t a b =
    let long : length v ≡ length (u ++ s) - 4096 * a.times = ap length a.rest ∙ length-drop (4096 * a.times) (u ++ s) in
    let both : 4096 * a.times + 4096 * b.times ≡ 4096 * (a.times + b.times) = omega arith in
    record {
      times = a.times + b.times;
      within = omega (arith, a.within, b.within, long, length-append u (s ++ t), length-append s t, length-append u s, length-append v t);
      rest = b.rest ∙ ap (λ x. drop (4096 * b.times) (x ++ t)) a.rest
          ∙ ap (drop (4096 * b.times)) (sym (drop-append-le (4096 * a.times) (u ++ s) t a.within))
          ∙ drop-drop (4096 * b.times) (4096 * a.times) ((u ++ s) ++ t)
          ∙ ap (λ k. drop k ((u ++ s) ++ t)) both
          ∙ ap (drop (4096 * (a.times + b.times))) (append_assoc u s t);
    }

-- an octet is put behind what stands there, or at the front of the buffer that went out
pub rests-behind : (old now : List ℕ) (n m octet : ℕ) → m ≡ n → now ≡ old → n < length old → Rests (take n old) (octet ∷ []) (take (m + 1) (set now m octet))
rests-behind old now n m octet at same room = rw (at, same, take_more_set old n octet room) (record { times = 0; within = omega arith; rest = refl })

pub rests-first : (old now : List ℕ) (n m octet : ℕ) → m ≡ 0 → n ≡ 4096 → length old ≡ 4096 → 0 < length now → Rests (take n old) (octet ∷ []) (take (m + 1) (set now m octet))
rests-first old now n m octet at all long some =
    let full : length (take n old) ≡ 4096 = length-take n old ∙ omega arith in
    rw (at, take_more_set now 0 octet some) (record { times = 1; within = omega (arith, length-append (take n old) (octet ∷ [])); rest = sym (drop_at (take n old) (octet ∷ []) 4096 full) })
