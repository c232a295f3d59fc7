-- The channels of a record, ascending. A number stands among ascending ones at the place that its rank says, since all before it are below it.
--
--   Above x cs          each of x ∷ cs is below the next
--   Ascending cs        .. of cs
--   Has c cs            c is one of cs
--   Inserting c x cs l  what `insert` can make of x ∷ cs
--   inserting           .. and it makes one of these
--   above_ascending     what stands above x is ascending
--   above_has           .. and all of it is above x
--   insert_above        a number above x, inserted above x
--   insert_ascending    ascending numbers with one more are ascending
--   used_ascending      the used channels are
--   insert_has          what is inserted is there
--   insert_keeps        .. with all that was there
--   insert_only         .. and nothing else
--   insert-longer       inserting makes no list shorter
--   insert-there        a number that stands at its rank is not inserted again
--   insert_new          .. and one that does not is put there
--   used-longer         more units have no fewer channels
--   used_keeps          .. and have those that were there
--   used_has            a unit's channel is one of the used ones
--   rank_few            a rank is at most the length
--   rank_found          a number that is there stands at its rank
--
-- Assumes nothing.
use mathlib.Core.Path.{◌≡◌, refl, sym, ap}
use mathlib.Core.Logic.{◌⊎◌, inl, inr}
use mathlib.Core.Bool.{Bool, true, false, cond}
use mathlib.Core.List.{List, [], ◌∷◌, ◌++◌, reverse_aux}
use Prim.Native.Nat.{ℕ, suc, ◌≤◌, ◌<◌}
use native.Mathlib.Omega.{arith}
use borrow.Author.Tests.{lt-ltb, le-ltb, ltb-true, ltb-false, eqb-true, eqb-false}
use lib.Dec.{eqb, ltb}
use lib.ListN.{length, get_or, take, drop}
use Rattle.record.specs.Recorded.{Recorded}
use Rattle.record.specs.Trailer.{insert, used}
use Rattle.record.specs.Walk.{rank}

abbrev pub Above : ℕ → List ℕ → Type 0
Above x [] = Unit {0}
Above x (y ∷ cs) = (x < y) × Above y cs

abbrev pub Ascending : List ℕ → Type 0
Ascending [] = Unit {0}
Ascending (x ∷ cs) = Above x cs

abbrev pub Has : ℕ → List ℕ → Type 0
Has c [] = ⊥
Has c (x ∷ cs) = (x ≡ c) ⊎ Has c cs

data Inserting (c x : ℕ) (cs : List ℕ) : List ℕ → Type 0 where
  behind : x < c → Inserting c x cs (x ∷ insert c cs)
  there : x ≡ c → Inserting c x cs (x ∷ cs)
  before : c < x → Inserting c x cs (c ∷ x ∷ cs)

inserting : (c x : ℕ) (cs : List ℕ) → Inserting c x cs (insert c (x ∷ cs))
unfolding insert
inserting c x cs = by (ltb x c) (eqb x c) refl refl
  where
    by : (l e : Bool) → ltb x c ≡ l → eqb x c ≡ e → Inserting c x cs (cond l (x ∷ insert c cs) (cond e (x ∷ cs) (c ∷ x ∷ cs)))
    by true e h g = behind (ltb-true x c h)
    by false true h g = there (eqb-true x c g)
    by false false h g =
        let f : x ≡ c → ⊥ = eqb-false x c g in
        before (omega (arith, f, ltb-false x c h))

-- ---- ascending

pub above_ascending : (x : ℕ) (cs : List ℕ) → Above x cs → Ascending cs
above_ascending x [] h = h
above_ascending x (y ∷ cs) h = h.1

above_has : (x c : ℕ) (cs : List ℕ) → Above x cs → Has c cs → x < c
above_has x c (y ∷ cs) h (inl e) = omega (arith, h.0)
above_has x c (y ∷ cs) h (inr g) = omega (arith, h.0, above_has y c cs h.1 g)
above_has x c [] h g = absurd g

insert_above : (x c : ℕ) (cs : List ℕ) → x < c → Above x cs → Above x (insert c cs)
unfolding insert
insert_above x c [] l h = (l, h)
insert_above x c (y ∷ cs) l h = by (insert c (y ∷ cs)) (inserting c y cs) (insert_above y c cs)
  where
    by : (r : List ℕ) → Inserting c y cs r → (y < c → Above y cs → Above y (insert c cs)) → Above x r
    by _ (behind g) ih = (h.0, ih g h.1)
    by _ (there e) ih = h
    by _ (before g) ih = (l, (g, h.1))

insert_ascending : (c : ℕ) (cs : List ℕ) → Ascending cs → Ascending (insert c cs)
unfolding insert
insert_ascending c [] h = h
insert_ascending c (x ∷ cs) h = by (insert c (x ∷ cs)) (inserting c x cs)
  where
    by : (r : List ℕ) → Inserting c x cs r → Ascending r
    by _ (behind g) = insert_above x c cs g h
    by _ (there e) = h
    by _ (before g) = (g, h)

pub used_ascending : (past : List Recorded) → Ascending (used past)
unfolding used
used_ascending [] = tt
used_ascending (u ∷ past) = insert_ascending u.channel (used past) (used_ascending past)

-- ---- inserting

pub insert_has : (c : ℕ) (cs : List ℕ) → Has c (insert c cs)
unfolding insert
insert_has c [] = inl refl
insert_has c (x ∷ cs) = by (insert c (x ∷ cs)) (inserting c x cs) (insert_has c cs)
  where
    by : (r : List ℕ) → Inserting c x cs r → Has c (insert c cs) → Has c r
    by _ (behind g) ih = inr ih
    by _ (there e) ih = inl e
    by _ (before g) ih = inl refl

pub insert_keeps : (c d : ℕ) (cs : List ℕ) → Has d cs → Has d (insert c cs)
insert_keeps c d [] h = absurd h
insert_keeps c d (x ∷ cs) h = by (insert c (x ∷ cs)) (inserting c x cs) (insert_keeps c d cs) h
  where
    by : (r : List ℕ) → Inserting c x cs r → (Has d cs → Has d (insert c cs)) → (x ≡ d) ⊎ Has d cs → Has d r
    by _ (behind g) ih (inl e) = inl e
    by _ (behind g) ih (inr k) = inr (ih k)
    by _ (there e) ih k = k
    by _ (before g) ih k = inr k

pub insert_only : (c d : ℕ) (cs : List ℕ) → Has d (insert c cs) → (d ≡ c) ⊎ Has d cs
unfolding insert
insert_only c d [] (inl e) = inl (sym e)
insert_only c d [] (inr h) = absurd h
insert_only c d (x ∷ cs) h = by (insert c (x ∷ cs)) (inserting c x cs) (insert_only c d cs) h
  where
    by : (r : List ℕ) → Inserting c x cs r → (Has d (insert c cs) → (d ≡ c) ⊎ Has d cs) → Has d r → (d ≡ c) ⊎ ((x ≡ d) ⊎ Has d cs)
    by _ (behind g) ih (inl e) = inr (inl e)
    by _ (behind g) ih (inr k) = on (ih k)
      where
        on : (d ≡ c) ⊎ Has d cs → (d ≡ c) ⊎ ((x ≡ d) ⊎ Has d cs)
        on (inl e) = inl e
        on (inr j) = inr (inr j)
    by _ (there e) ih k = inr k
    by _ (before g) ih (inl e) = inl (sym e)
    by _ (before g) ih (inr k) = inr k

pub insert-longer : (c : ℕ) (cs : List ℕ) → length cs ≤ length (insert c cs)
insert-longer c [] = omega arith
insert-longer c (x ∷ cs) = by (insert c (x ∷ cs)) (inserting c x cs) (insert-longer c cs)
  where
    by : (r : List ℕ) → Inserting c x cs r → length cs ≤ length (insert c cs) → suc (length cs) ≤ length r
    by _ (behind g) ih = omega arith
    by _ (there e) ih = omega arith
    by _ (before g) ih = omega arith

pub used-longer : (more past : List Recorded) → length (used past) ≤ length (used (reverse_aux more past))
unfolding used
used-longer [] past = omega arith
used-longer (u ∷ more) past = omega (arith, insert-longer u.channel (used past), used-longer more (u ∷ past))

used_keeps : (c : ℕ) (more past : List Recorded) → Has c (used past) → Has c (used (reverse_aux more past))
unfolding used
used_keeps c [] past h = h
used_keeps c (u ∷ more) past h = used_keeps c more (u ∷ past) (insert_keeps u.channel c (used past) h)

pub used_has : (past rest : List Recorded) (u : Recorded) → Has u.channel (used (reverse_aux rest (u ∷ past)))
unfolding used
used_has past rest u = used_keeps u.channel rest (u ∷ past) (insert_has u.channel (used past))

-- ---- ranks

pub rank_few : (c : ℕ) (cs : List ℕ) → rank c cs ≤ length cs
unfolding rank
rank_few c [] = omega arith
rank_few c (x ∷ cs) = by (ltb x c) (rank_few c cs)
  where
    by : (b : Bool) → rank c cs ≤ length cs → cond b (suc (rank c cs)) 0 ≤ suc (length cs)
    by true h = omega arith
    by false h = omega arith

pub rank_found : (c : ℕ) (cs : List ℕ) → Ascending cs → Has c cs → (rank c cs < length cs) × (get_or cs (rank c cs) 0 ≡ c)
unfolding rank
rank_found c [] a h = absurd h
rank_found c (x ∷ cs) a (inl e) = rw (le-ltb x c (omega arith)) (omega arith, e)
rank_found c (x ∷ cs) a (inr h) =
    let on = rank_found c cs (above_ascending x cs a) h in
    rw (lt-ltb x c (above_has x c cs a h)) (omega (arith, on.0), on.1)

-- what `insert` does, by the rank
pub insert-there : (c : ℕ) (cs : List ℕ) → rank c cs < length cs → get_or cs (rank c cs) 0 ≡ c → insert c cs ≡ cs
unfolding rank
insert-there c [] h e = absurd (omega arith)
insert-there c (x ∷ cs) h e = by (insert c (x ∷ cs)) (inserting c x cs) (insert-there c cs) h e
  where
    by : (r : List ℕ) → Inserting c x cs r → (rank c cs < length cs → get_or cs (rank c cs) 0 ≡ c → insert c cs ≡ cs)
        → rank c (x ∷ cs) < suc (length cs) → get_or (x ∷ cs) (rank c (x ∷ cs)) 0 ≡ c → r ≡ x ∷ cs
    by _ (behind g) ih h e =
        let few : suc (rank c cs) < suc (length cs) = rw (lt-ltb x c g) at h in
        ap (λ (l : List ℕ). x ∷ l) (ih (omega arith) (rw (lt-ltb x c g) at e))
    by _ (there g) ih h e = refl
    by _ (before g) ih h e =
        let low : c ≤ x = omega arith in
        let same : x ≡ c = rw (le-ltb x c low) at e in
        absurd (omega arith)

pub insert_new : (c : ℕ) (cs : List ℕ) → (rank c cs < length cs → get_or cs (rank c cs) 0 ≡ c → ⊥)
    → insert c cs ≡ take (rank c cs) cs ++ c ∷ drop (rank c cs) cs
unfolding rank insert
insert_new c [] f = refl
insert_new c (x ∷ cs) f = by (insert c (x ∷ cs)) (inserting c x cs) (insert_new c cs) f
  where
    by : (r : List ℕ) → Inserting c x cs r
        → ((rank c cs < length cs → get_or cs (rank c cs) 0 ≡ c → ⊥) → insert c cs ≡ take (rank c cs) cs ++ c ∷ drop (rank c cs) cs)
        → (rank c (x ∷ cs) < suc (length cs) → get_or (x ∷ cs) (rank c (x ∷ cs)) 0 ≡ c → ⊥)
        → r ≡ take (rank c (x ∷ cs)) (x ∷ cs) ++ c ∷ drop (rank c (x ∷ cs)) (x ∷ cs)
    by _ (behind g) ih f =
        let on : suc (rank c cs) < suc (length cs) → get_or cs (rank c cs) 0 ≡ c → ⊥ = rw (lt-ltb x c g) at f in
        rw (lt-ltb x c g) (ap (λ (l : List ℕ). x ∷ l) (ih (λ h e. on (omega arith) e)))
    by _ (there g) ih f = absurd (rw (le-ltb x c (omega arith)) at f (omega arith) g)
    by _ (before g) ih f = rw (le-ltb x c (omega arith))
