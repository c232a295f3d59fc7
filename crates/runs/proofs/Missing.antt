-- What AL2 tells as missing over a run: the claims of specs/Missing.antt, by what AL2 tells of passages (the layers' `MissingIsLost`).
--
--   lost-shown          as many as were lost
--   nothing-missing     none, where units are damaged and none is lost
--   missing_over_runs   both, and the same over packets
--
-- Assumes nothing.
use mathlib.Core.Path.{◌≡◌, refl, sym, ap, ap₂, subst, ◌∙◌}
use mathlib.Core.Bool.{Bool, true, false, cond, ◌&&◌}
use mathlib.Core.List.{List, [], ◌∷◌}
use Prim.Native.Nat.{ℕ, ◌+◌, ◌-◌, ◌%◌}
use native.Mathlib.Omega.{arith}
use borrow.Author.Tests.{le-leb, leb-true}
use lib.Dec.{leb}
use lib.ListN.{length}
use Rattle.octets.specs.Each.{Each, each_none, each_more, each_map, each-length}
use Rattle.octets.specs.Tests.{both_true}
use Rattle.checks.specs.Check.{agrees, eight}
use Rattle.adaptation.specs.Handed.{longest_unit, is_unit}
use Rattle.adaptation.specs.AL2.{whole, is_sendable, is_whole, unit_of}
use Rattle.adaptation.specs.AL2Claims.{as_sent, as_failed, wholes_from, receipts}
use Rattle.adaptation.specs.AL2Missing.{Passage, intact, damaged, arriving, Shown, shown_of, showing, Passable}
use Rattle.std.specs.Prelude.{Some}
use Rattle.adaptation.proofs.Laws.{whole_length, sizes, missing_is_lost}
use Rattle.runs.specs.Runs.{other, end_at}
use Rattle.runs.specs.Demand.{without_last, is_waiting, wholly_sent}
use Rattle.runs.specs.Carried.{ending, Reception, taken_by, codings, receptions, units_coded, wholes_taken, receipts_told}
use Rattle.runs.specs.Missing.{ShownIn, LostShown, Noticed, has_short_gaps, shown_in_noise, ByAL2InNoise, NothingMissing, PacketsLostShown, PacketsNothingMissing, MissingOverRuns}
use Rattle.runs.proofs.Delivering.{demand_met}
use Rattle.runs.proofs.Handing.{MayFrom, may_without, wholes_without, coded, told-receipts}
use Rattle.runs.proofs.Crossing as crossing

shown_in : (got : List Reception) → receipts_told got ≡ receipts (wholes_taken got) (record { expected = 0; failed = 0 }) → ShownIn got
shown_in got q l e may =
    ap shown_of (q ∙ ap (λ (ws : List (List ℕ)). receipts ws (record { expected = 0; failed = 0 })) e) ∙ missing_is_lost 0 l (omega arith) may

pub lost-shown : LostShown
lost-shown R r i n = shown_in (receptions r i n) (told-receipts r i n)

-- ---- where nothing is lost

-- what became of units of which wholes came
abbrev passages : List (List ℕ) → List (List ℕ) → List Passage
passages us [] = []
passages [] (w ∷ ws) = []
passages (u ∷ us) (w ∷ ws) = cond (agrees eight w) (intact u) (damaged w) ∷ passages us ws

-- the units us were sent from number i on, and the checks of g wholes before ws disagreed
record Fated (i g : ℕ) (us ws : List (List ℕ)) : Type 0 where
  arrives : arriving i (passages us ws) ≡ ws
  may : Passable g (passages us ws)
  shows : showing 0 (passages us ws) ≡ shown_in_noise us ws

fated-more : (u w : List ℕ) (us ws : List (List ℕ)) (i g : ℕ) → is_sendable (Some i) u ≡ true → length (whole (Some i) u) ≡ length w
    → Noticed (whole (Some i) u) w → (b : Bool) → agrees eight w ≡ b → cond b (leb g 127 && has_short_gaps 0 ws) (has_short_gaps (g + 1) ws) ≡ true
    → ((h : ℕ) → has_short_gaps h ws ≡ true → Fated ((i + 1) % 256) h us ws) → Fated i g (u ∷ us) (w ∷ ws)
fated-more u w us ws i g su long noticed true q near f =
    let n = both_true (leb g 127) (has_short_gaps 0 ws) near in
    let s = sizes (Some i) u su in
    let l = whole_length (Some i) u 1 refl in
    let fits : is_unit (longest_unit - 2) u ≡ true = rw (le-leb 1 (length u) s.0, le-leb (length u) (longest_unit - 2) (omega (arith, l, s))) in
    let r = f 0 n.1 in
    record {
      arrives = rw q (ap₂ (λ (v : List ℕ) (vs : List (List ℕ)). v ∷ vs) (sym (noticed q)) r.arrives);
      may = rw q (leb-true g 127 n.0, fits, r.may);
      shows = rw q (ap (λ (m : List Shown). record { handed = as_sent u; missing = 0 } ∷ m) r.shows);
    }
fated-more u w us ws i g su long noticed false q near f =
    let s = sizes (Some i) u su in
    let l = whole_length (Some i) u 1 refl in
    let taken : is_whole true w ≡ true = rw (le-leb 3 (length w) (omega (arith, l, s, long)), le-leb (length w) longest_unit (omega (arith, s, long))) in
    let r = f (g + 1) near in
    record {
      arrives = rw q (ap (λ (vs : List (List ℕ)). w ∷ vs) r.arrives);
      may = rw q (taken, q, r.may);
      shows = rw q (ap (λ (m : List Shown). record { handed = as_failed (unit_of true w); missing = 0 } ∷ m) r.shows);
    }

fated : (us ws : List (List ℕ)) (i g : ℕ) → MayFrom i us → Each (λ v w. length v ≡ length w) (wholes_from i us) ws → Each Noticed (wholes_from i us) ws
    → has_short_gaps g ws ≡ true → Fated i g us ws
fated [] [] i g may each_none n near = record { arrives = refl; may = tt; shows = refl }
fated (u ∷ us) (w ∷ ws) i g may (each_more long longs) (each_more noticed all) near =
    fated-more u w us ws i g may.0 long noticed (agrees eight w) refl near (λ h c. fated us ws ((i + 1) % 256) h may.1 longs all c)
fated [] (w ∷ ws) i g may long n near = elim long [ ]
fated (u ∷ us) [] i g may long n near = elim long [ ]

-- without the last unit, where it is still on its way
module _ (us : List (List ℕ)) where
  wholes-by : (b : Bool) → cond b (without_last (wholes_from 0 us)) (wholes_from 0 us) ≡ wholes_from 0 (cond b (without_last us) us)
  wholes-by true = wholes_without 0 us
  wholes-by false = refl

  may-by : (b : Bool) → MayFrom 0 us → MayFrom 0 (cond b (without_last us) us)
  may-by true m = may_without 0 us m
  may-by false m = m

pub nothing-missing : NothingMissing
nothing-missing R r i n q posted took noticed near =
    let c = coded r i n in
    let us = units_coded (codings r i n) in
    let got = receptions r (other i) n in
    let b = is_waiting (end_at (ending r) i).link.channels n in
    let sent : wholly_sent (end_at (ending r) i) n ≡ wholes_from 0 (cond b (without_last us) us) =
    ap (λ (l : List (List ℕ)). cond b (without_last l) l) (posted ∙ c.wholes) ∙ wholes-by us b in
    let long = each_map (λ v w e. each-length e) ((demand_met R r.lent r.events r.permitted).complete i n q) in
    let f = fated (cond b (without_last us) us) (wholes_taken got) 0 0 (may-by us b c.may) (rw (← sent, took) long) (rw (← sent) noticed) near in
    shown_in got (told-receipts r (other i) n) (passages (cond b (without_last us) us) (wholes_taken got)) (sym f.arrives) f.may ∙ f.shows

-- ---- over packets

packets-lost-shown : PacketsLostShown
packets-lost-shown R r i n = subst ShownIn (crossing.listed r (taken_by n) i) (lost-shown R (crossing.whole r) i n)

packets-nothing_missing : PacketsNothingMissing
packets-nothing_missing R r i n = crossing.crossed r i n (λ x coded got. ByAL2InNoise x i n coded got) (nothing-missing R (crossing.whole r) i n)

pub missing_over_runs : MissingOverRuns
missing_over_runs = record {
  lost_shown = lost-shown;
  nothing_missing = nothing-missing;
  packets_lost_shown = packets-lost-shown;
  packets_nothing_missing = packets-nothing_missing;
}
