-- `position` answers the first place whose channel is not below; where there is none, that is the number of places.
use Rattle.std.proofs.Common.{◌≡◌, refl, sym, ap, ◌∙◌, rules, tests, Bool, true, false, not, cond, List, [], ◌∷◌, map, ℕ, suc, ◌+◌, ◌≤◌, ltb, leb, length, take, length-take-le, lt-ltb, le-ltb, leb-true, leb-false, ltb-false, arith, Option, Some, None}
use Rattle.std.proofs.lemmas.List.{length-map}
use Rattle.std.specs.Option.{unwrap_or}
use Rattle.std.specs.List.{position_or_len}
use Rattle.std.proofs.lemmas.Iterator.{YieldsList-from_slice}
use Rattle.std.proofs.lemmas.Iterator.Search.{position_from_yields_List}
use Rattle.record.specs.Walk.{rank}
use Rattle.record.specs.declared.place.Place.{Place}
use Rattle.record.proofs.Ranking.{rank_few}
use Rattle.record.proofs.places.Places.rank.Goals as goal

over : (c x : ℕ) → not (leb c x) ≡ ltb x c
over c x = by (leb c x) refl
  where
    by : (b : Bool) → leb c x ≡ b → not b ≡ ltb x c
    by true e = sym (le-ltb x c (leb-true c x e))
    by false e = sym (lt-ltb x c (leb-false c x e))

abbrev channel_of : Place → ℕ
channel_of q = q.channel

ranked : (c : ℕ) (l : List Place) → position_or_len (λ (q : Place). leb c q.channel) l ≡ rank c (map channel_of l)
unfolding rank
ranked c [] = refl
ranked c (q ∷ l) =
    let next : 1 + rank c (map channel_of l) ≡ suc (rank c (map channel_of l)) = omega arith in
    rw (over c q.channel, ranked c l) (ap (λ (n : ℕ). cond (ltb q.channel c) n 0) next)

first_or : (k n m : ℕ) → k ≤ n → m ≡ n → unwrap_or (cond (ltb k n) (Some k) None) m ≡ k
first_or k n m h e = by (ltb k n) refl
  where
    by : (b : Bool) → ltb k n ≡ b → unwrap_or (cond b (Some k) None) m ≡ k
    by true f = refl
    by false f = omega (arith, ltb-false k n f)

pub returns : goal.returns
returns c =
    let a = c.args in
    let p = a.self.now in
    let l = take p.count p.all in
    let place = ranked a.channel l in
    let long : length l ≡ p.count = length-take-le p.count p.all (omega arith) in
    let few : position_or_len (λ (q : Place). leb a.channel q.channel) l ≤ length l =
    omega (arith, place, rank_few a.channel (map channel_of l), length-map l channel_of) in
    let found = position_from_yields_List (λ (q : Place). leb a.channel q.channel) _ _ c.position.result c.position.ensures.ran
    (YieldsList-from_slice l cc) (λ x b q k. search (rules, tests)) in
    let is = c.unwrap_or.ensures ∙ ap (λ (o : Option ℕ). unwrap_or o p.count) found ∙ first_or _ _ _ few (sym long) ∙ place in
    record { is = is; within = omega (arith, is, place, few, long) }
