-- The channels of the units passed, as the numbers of a list are gone through.
--
--   Split m us       the numbers m are of the last units of us
--   Using n m p      p has the channels of the units before the last numbers m of the numbers n, whatever the units' octets are
--   using_none       .. of none
--   front, channel   .. the next unit, and its channel
--   using_next       .. of one unit more
--   using-over       where there is no room for one unit's channel, there is none for all
--   using-all        at the end
--
-- Assumes nothing.
use mathlib.Core.Path.{◌≡◌, refl, sym, ap, subst, ◌∙◌}
use mathlib.Core.List.{List, [], ◌∷◌, ◌++◌, reverse, reverse_aux, reverse-reverse, reverse_aux-reverse_aux-nil}
use Prim.Native.Nat.{ℕ, ◌<◌}
use native.Mathlib.Omega.{arith}
use lib.ListN.{length, get_or}
use Rattle.std.specs.Prelude.{Ok}
use Rattle.record.specs.Recorded.{Recorded, numbers_of}
use Rattle.record.specs.Trailer.{insert, used, most_channels}
use Rattle.record.specs.Walk.{PlacesAre, Inserts}
use Rattle.record.specs.declared.places.Places.{Places}
use Rattle.record.proofs.Listing.{Front, four_lent, none_lent}
use Rattle.record.proofs.Ranking.{used-longer}

-- the numbers m of a list us stand behind those of the units past
pub record Split (m : List ℕ) (us : List Recorded) : Type 0 where
  pub past : List Recorded
  pub rest : List Recorded
  pub list : us ≡ reverse_aux past rest
  pub numbers : m ≡ numbers_of rest

abbrev pub Using : List ℕ → List ℕ → Places → Type 0
Using n m p = (us : List Recorded) → n ≡ numbers_of us → (s : Split m us) × PlacesAre (used s.past) [] p

pub using_none : (n : List ℕ) {m : List ℕ} {p : Places} → m ≡ n → PlacesAre [] [] p → Using n m p
unfolding used
using_none n e h us l = (record { past = []; rest = us; list = refl; numbers = e ∙ l }, h)

module _ {n m : List ℕ} {p : Places} (h : Using n m p) where
  module _ (x k : List ℕ) (four : length x ≡ 4) (cut : m ≡ x ++ k) where
    front : {us : List Recorded} (s : Split m us) → Front x k s.rest
    front s = four_lent x k s.rest four (sym cut ∙ s.numbers)

    channel : {us : List Recorded} (s : Split m us) → get_or x 0 0 ≡ (front s).first.channel
    channel s = ap (λ (l : List ℕ). get_or l 0 0) (front s).numbers

    pub using_next : {q : Places} → Inserts p (get_or x 0 0) (Ok tt) q → Using n k q
    unfolding used
    using_next {q} f us e =
        let s = (h us e).0 in
        let v = front s in (
          record { past = v.first ∷ s.past; rest = v.others; list = s.list ∙ ap (reverse_aux s.past) v.list; numbers = v.behind },
          subst (λ (c : ℕ). PlacesAre (insert c (used s.past)) [] q) (channel s) (f (used s.past) (h us e).1),
        )

    pub using-over : ((cs : List ℕ) → PlacesAre cs [] p → most_channels < length (insert (get_or x 0 0) cs))
        → (us : List Recorded) → n ≡ numbers_of us → most_channels < length (used (reverse us))
    unfolding used
    using-over f us e =
        let s = (h us e).0 in
        let v = front s in
        let over : most_channels < length (used (v.first ∷ s.past))
        = subst (λ (c : ℕ). most_channels < length (insert c (used s.past))) (channel s) (f (used s.past) (h us e).1) in
        let turned : reverse us ≡ reverse_aux v.others (v.first ∷ s.past)
        = ap reverse (s.list ∙ ap (reverse_aux s.past) v.list) ∙ reverse_aux-reverse_aux-nil s.past (v.first ∷ v.others) in
        rw turned (omega (arith, over, used-longer v.others (v.first ∷ s.past)))

  pub using-all : length m < 4 → (us : List Recorded) → n ≡ numbers_of us → PlacesAre (used (reverse us)) [] p
  using-all few us e =
      let s = (h us e).0 in
      let turned : reverse us ≡ s.past
      = ap reverse (s.list ∙ ap (reverse_aux s.past) (none_lent m s.rest few s.numbers)) ∙ reverse-reverse s.past in
      subst (λ (l : List Recorded). PlacesAre (used l) [] p) (sym turned) (h us e).1
