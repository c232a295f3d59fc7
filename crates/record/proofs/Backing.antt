-- Units with the back offsets that they ought to have: those of the units so far, and then those of the others.
--
--   units-append     the units of stored ones behind others
--   units_onto       .. and of those in front of others, turned round
--   units-turned     .. and all of it turned round
--   backed-units     the units are those that were given their back offsets
--   backed_onto      behind units so far, the latest first, come the others with theirs
--   body-length      the units' octets are as many as the units take
--   last_small       a back offset has four octets
--   backed_ranges    .. so that units in range are stored units in range
--   units-behind     the units so far, and the others
--   back_right       where stored units have the back offsets that they ought to have, so have those behind the units so far
--   back_next        the first of them joins the units so far
--
-- Assumes nothing.
use mathlib.Core.Path.{◌≡◌, refl, sym, ap, ◌∙◌}
use mathlib.Core.Bool.{Bool, true, false, cond}
use mathlib.Core.List.{List, [], ◌∷◌, ◌++◌, append_assoc, reverse, reverse_aux, reverse_aux-eq, reverse_aux-append, reverse-reverse}
use Prim.Native.Nat.{ℕ, ◌+◌, ◌≤◌, ◌<◌}
use native.Mathlib.Omega.{arith}
use lib.Dec.{eqb}
use lib.ListN.{length}
use Rattle.octets.specs.High.{append-same}
use Rattle.record.specs.Recorded.{Recorded, AllInRange}
use Rattle.record.specs.Layout.{total, last, Stored, backed, body_of}
use Rattle.record.specs.Trailer.{most_before}
use Rattle.record.specs.Walk.{units_of, AllStored}
use Rattle.record.proofs.Laying.{laid-length}

pub units-append : (ps qs : List Stored) → units_of (ps ++ qs) ≡ units_of ps ++ units_of qs
units-append [] qs = refl
units-append (p ∷ ps) qs = ap (λ (l : List Recorded). p.unit ∷ l) (units-append ps qs)

pub units_onto : (ps qs : List Stored) → units_of (reverse_aux ps qs) ≡ reverse_aux (units_of ps) (units_of qs)
units_onto [] qs = refl
units_onto (p ∷ ps) qs = units_onto ps (p ∷ qs)

-- the units of stored ones that were gone through, and others behind them, from the other end
pub units-turned : (past : List Stored) (us : List Recorded) → reverse (units_of (reverse past) ++ us) ≡ reverse_aux us (units_of past)
units-turned past us =
    reverse_aux-append (units_of (reverse past)) us [] ∙ ap (λ (l : List Recorded). reverse_aux us (reverse l)) (units_onto past [])
    ∙ ap (reverse_aux us) (reverse-reverse (units_of past))

pub backed-units : (past us : List Recorded) → units_of (backed past us) ≡ us
unfolding backed
backed-units past [] = refl
backed-units past (u ∷ us) = ap (λ (l : List Recorded). u ∷ l) (backed-units (u ∷ past) us)

pub body-length : (us : List Recorded) → length (body_of us) ≡ total us
body-length us = laid-length (backed [] us) ∙ ap total (backed-units [] us)

pub backed_onto : (past us : List Recorded) → backed [] (reverse_aux past us) ≡ backed [] (reverse_aux past []) ++ backed past us
unfolding backed
backed_onto [] us = refl
backed_onto (x ∷ past) us =
    let s : Stored = record { back = last x.channel past; unit = x } in
    backed_onto past (x ∷ us) ∙ sym (append_assoc (backed [] (reverse_aux past [])) (s ∷ []) (backed (x ∷ past) us))
    ∙ ap (λ (l : List Stored). l ++ backed (x ∷ past) us) (sym (backed_onto past (x ∷ [])))

pub last_small : (c : ℕ) (past : List Recorded) → total past ≤ most_before → last c past < 4294967296
unfolding last total
last_small c [] h = omega arith
last_small c (u ∷ past) h = by (eqb u.channel c) (last_small c past (omega (arith, h)))
  where
    by : (t : Bool) → last c past < 4294967296 → cond t (total past) (last c past) < 4294967296
    by true l = omega (arith, h)
    by false l = l

pub backed_ranges : (past us : List Recorded) → AllInRange us → total past + total us ≤ most_before → AllStored (backed past us)
unfolding backed total
backed_ranges past [] r h = tt
backed_ranges past (u ∷ us) r h =
    ((r.0, last_small u.channel past (omega (arith, h))), backed_ranges (u ∷ past) us r.1 (omega (arith, h)))

-- ---- what the walk over stored units finds

pub units-behind : (past : List Recorded) (rest : List Stored) → units_of (backed [] (reverse_aux past []) ++ rest) ≡ reverse_aux past (units_of rest)
units-behind past rest =
    units-append (backed [] (reverse_aux past [])) rest ∙ ap (λ (l : List Recorded). l ++ units_of rest) (backed-units [] (reverse_aux past []))
    ∙ sym (reverse_aux-eq past (units_of rest))

pub back_right : (past : List Recorded) (rest : List Stored)
    → backed [] (reverse_aux past []) ++ rest ≡ backed [] (units_of (backed [] (reverse_aux past []) ++ rest)) → rest ≡ backed past (units_of rest)
back_right past rest e =
    (append-same (backed [] (reverse_aux past [])) (backed [] (reverse_aux past [])) rest (backed past (units_of rest)) refl
    (e ∙ ap (backed []) (units-behind past rest) ∙ backed_onto past (units_of rest))).1

pub back_next : (past : List Recorded) (q : Stored) (rest : List Stored) → q.back ≡ last q.unit.channel past
    → backed [] (reverse_aux past []) ++ q ∷ rest ≡ backed [] (reverse_aux (q.unit ∷ past) []) ++ rest
unfolding backed
back_next past q rest e =
    let s : Stored = record { back = last q.unit.channel past; unit = q.unit } in
    ap (λ (k : ℕ). backed [] (reverse_aux past []) ++ record { back = k; unit = q.unit } ∷ rest) e
    ∙ sym (append_assoc (backed [] (reverse_aux past [])) (s ∷ []) rest)
    ∙ ap (λ (l : List Stored). l ++ rest) (sym (backed_onto past (q.unit ∷ [])))
