-- The two ends between payloads: what joins the units posted to those delivered.
--
--   waiting_at           the octets of channel c that wait at place p
--   way                 the unit under way at place p: what the receiver holds of it and what still waits, if octets of it wait
--   Twin c d            one place at the two ends: a unit under way fits; one that is not holds nothing; and only a segmentable channel does
--   Matched             seats alike, arrays of their lengths, twins at each place, and on each channel the units posted are those
--                       delivered and the one under way
--   Change              what a call changes at one place p, and leaves alone elsewhere
--   changed             after it the ends match again
--   full-there          as many places at the receiver
--   matched-same        the ends match where the sender's channels differ in what does not wait
--   posted_matched      .. and so after a post
--
-- Assumes nothing.
use mathlib.Core.Path.{◌≡◌, refl, sym, ap, ap₂, ◌∙◌}
use mathlib.Core.Logic.{◌≢◌, ◌⊎◌, inl, inr, ⊎_elim}
use mathlib.Core.Bool.{false, cond}
use mathlib.Core.List.{List, [], ◌∷◌, ◌++◌, append-nil}
use Prim.Native.Nat.{ℕ, ◌+◌, ◌*◌, ◌-◌, ◌≤◌, ◌<◌, min}
use native.Mathlib.Decide.{ℕ_discrete, dec_lt}
use native.Mathlib.Omega.{arith}
use borrow.Author.Tests.{le-leb}
use lib.Dec.{leb}
use lib.ListN.{length, take, drop}
use Rattle.octets.specs.Written.{written, written-length, written_part}
use Rattle.channels.specs.declared.Channel.{Channel}
use Rattle.channels.specs.declared.Channels.{Channels}
use Rattle.channels.specs.Channels.{place_of, channel_at, put, waiting, waits, waiting_from, place_count, all_octets, place_octets}
use Rattle.multiplex.specs.Units.{UnitOn, units_on}
use Rattle.channels.proofs.Laws.{seat, seats, place-seats, seats-put, seats-length, place_unique, vacant-behind, put-there, put-elsewhere, held_at}
use Rattle.runs.proofs.Same.{Same, waiting_count, same_at}
use Rattle.octets.specs.Parts.{apart, part_elsewhere}
use Rattle.multiplex.proofs.Laws.{unit_on, on_this, on-other}

abbrev pub waiting_at : Channel → List ℕ → ℕ → List ℕ
waiting_at c w p = take (waits c) (drop (waiting_from c p) w)

-- where k octets wait
abbrev way_of : (k : ℕ) → List ℕ → Channel → List ℕ → ℕ → List (List ℕ)
way_of k w d h p = cond (leb 1 k) ((held_at d h p ++ take (min k place_octets) (drop (place_octets * p + (place_octets - min k place_octets)) w)) ∷ []) []

abbrev pub way : Channel → List ℕ → Channel → List ℕ → ℕ → List (List ℕ)
way c w d h p = way_of c.waiting w d h p

pub record Twin (c d : Channel) : Type 0 where
  pub bounded : d.held + c.waiting ≤ place_octets
  pub ended : c.waiting ≡ 0 → d.held ≡ 0
  pub whole : d.segmentable ≡ false → d.held ≡ 0

pub record Matched (s : Channels) (w : List ℕ) (r : Channels) (h : List ℕ) (sent got : List UnitOn) : Type 0 where
  pub alike : seats s ≡ seats r
  pub full : length s.at ≡ place_count
  pub waiting_room : length w ≡ all_octets
  pub held_room : length h ≡ all_octets
  pub each : (p : ℕ) → Twin (channel_at s p) (channel_at r p)
  pub log : (n : ℕ) → units_on n sent ≡ units_on n got ++ way (channel_at s (place_of s n)) w (channel_at r (place_of s n)) h (place_of s n)

-- ---- a change at one place

pub record Change (s : Channels) (w : List ℕ) (r : Channels) (h : List ℕ) (sent got : List UnitOn) (p : ℕ) (c : Channel) (w' : List ℕ) (r' : Channels)
    (h' : List ℕ) (sent' got' : List UnitOn) : Type 0 where
  pub seated : seat c ≡ seat (channel_at s p)
  pub alike : seats r' ≡ seats r
  pub others : (q : ℕ) → q ≢ p → channel_at r' q ≡ channel_at r q
  pub waiting_room : length w' ≡ all_octets
  pub held_room : length h' ≡ all_octets
  pub twin : Twin c (channel_at r' p)
  pub waits_else : (q : ℕ) → q < place_count → q ≢ p → waiting_at (channel_at s q) w' q ≡ waiting_at (channel_at s q) w q
  pub holds_else : (q : ℕ) → q < place_count → q ≢ p → held_at (channel_at r q) h' q ≡ held_at (channel_at r q) h q
  pub here : (n : ℕ) → place_of s n ≡ p → units_on n sent' ≡ units_on n got' ++ way c w' (channel_at r' p) h' p
  pub elsewhere : (n : ℕ) → place_of s n ≢ p → (units_on n sent' ≡ units_on n sent) × (units_on n got' ≡ units_on n got)

module _ {s : Channels} {w : List ℕ} {r : Channels} {h : List ℕ} {sent got : List UnitOn} (m : Matched s w r h sent got) where
  pub full-there : length r.at ≡ place_count
  full-there = sym (seats-length s r m.alike) ∙ m.full

  module _ {p : ℕ} {c : Channel} {w' : List ℕ} {r' : Channels} {h' : List ℕ} {sent' got' : List UnitOn} (inside : p < place_count)
      (x : Change s w r h sent got p c w' r' h' sent' got') where
    same_place : (n : ℕ) → place_of (put s p c) n ≡ place_of s n
    same_place = place-seats (put s p c) s (seats-put s p c x.seated)

    twins : (q : ℕ) → Dec (q ≡ p) → Twin (channel_at (put s p c) q) (channel_at r' q)
    twins q (yes e) = rw (e, put-there s m.full p c inside) x.twin
    twins q (no f) = rw (put-elsewhere s p q c f, x.others q f) (m.each q)

    -- the way at another place
    same_way : (q : ℕ) → Dec (q < place_count) → q ≢ p
        → way (channel_at (put s p c) q) w' (channel_at r' q) h' q ≡ way (channel_at s q) w (channel_at r q) h q
    same_way q (yes l) f = rw (put-elsewhere s p q c f, x.others q f, x.waits_else q l f, x.holds_else q l f)
    same_way q (no l) f = rw (put-elsewhere s p q c f, vacant-behind s m.full q (omega arith))

    logs : (n : ℕ) → Dec (place_of s n ≡ p)
        → units_on n sent' ≡ units_on n got' ++ way (channel_at (put s p c) (place_of s n)) w' (channel_at r' (place_of s n)) h' (place_of s n)
    logs n (yes e) = rw (e, put-there s m.full p c inside) (x.here n e)
    logs n (no f) =
        (x.elsewhere n f).0 ∙ m.log n
        ∙ ap₂ (λ (a b : List (List ℕ)). a ++ b) (sym (x.elsewhere n f).1) (sym (same_way (place_of s n) (dec_lt (place_of s n) place_count) f))

    pub changed : Matched (put s p c) w' r' h' sent' got'
    changed = record {
      alike = seats-put s p c x.seated ∙ m.alike ∙ sym x.alike;
      full = seats-length (put s p c) s (seats-put s p c x.seated) ∙ m.full;
      waiting_room = x.waiting_room;
      held_room = x.held_room;
      each = λ q. twins q (ℕ_discrete q p);
      log = λ n. rw (same_place n) (logs n (ℕ_discrete (place_of s n) p));
    }

-- ---- another sender with as much waiting

pub matched-same : {s t : Channels} {w : List ℕ} {r : Channels} {h : List ℕ} {sent got : List UnitOn} → Matched s w r h sent got → Same waiting_count s t
    → Matched t w r h sent got
matched-same {s} {t} {w} {r} {h} {sent} {got} m e =
    let at : (p : ℕ) → (channel_at s p).waiting ≡ (channel_at t p).waiting = same_at waiting_count e in
    record {
      alike = sym e.seated ∙ m.alike;
      full = sym (seats-length s t e.seated) ∙ m.full;
      waiting_room = m.waiting_room;
      held_room = m.held_room;
      each = λ p. let k = m.each p in
          record { bounded = rw (← (at p)) k.bounded; ended = λ q. k.ended (at p ∙ q); whole = k.whole };
      log = λ n. m.log n
          ∙ ap (λ (p : ℕ). units_on n got ++ way (channel_at s p) w (channel_at r p) h p) (place-seats s t e.seated n)
          ∙ ap (λ (k : ℕ). units_on n got ++ way_of k w (channel_at r (place_of t n)) h (place_of t n)) (at (place_of t n));
    }

-- ---- a post

module _ {s : Channels} {w : List ℕ} {r : Channels} {h : List ℕ} {sent got : List UnitOn} (m : Matched s w r h sent got) (n : ℕ) (u : List ℕ)
    (some : 1 ≤ length u) (fits : length u ≤ place_octets) (p : ℕ) (place : place_of s n ≡ p) (inside : p < place_count) (free : (channel_at s p).waiting ≡ 0) where
  abbrev at : ℕ
  at = place_octets * p + (place_octets - length u)

  abbrev with : Channel
  with = waiting (channel_at s p) (length u)

  room : at + length u ≤ length w
  room = omega (arith, m.waiting_room)

  none-held : (channel_at r p).held ≡ 0
  none-held = (m.each p).ended free

  post_else : (q : ℕ) → q < place_count → q ≢ p → waiting_at (channel_at s q) (written w at u) q ≡ waiting_at (channel_at s q) w q
  post_else q l f =
      part_elsewhere w at u room (waits (channel_at s q)) (waiting_from (channel_at s q) q)
      (⊎_elim {C = (waiting_from (channel_at s q) q + waits (channel_at s q) ≤ at) ⊎ (at + length u ≤ waiting_from (channel_at s q) q)}
      (λ a. inl (omega arith)) (λ a. inr (omega arith)) (apart p q f))

  post-way : way with (written w at u) (channel_at r p) h p ≡ u ∷ []
  post-way =
      let e : min (length u) place_octets ≡ length u = omega arith in
      rw (le-leb 1 (length u) some, none-held, e) (ap (λ (x : List ℕ). x ∷ []) (written_part w at u room))

  none_under-way : (k : ℕ) → place_of s k ≡ p → units_on k sent ≡ units_on k got
  none_under-way k e =
      let f : way (channel_at s (place_of s k)) w (channel_at r (place_of s k)) h (place_of s k) ≡ [] = rw (e, free) in
      m.log k ∙ ap (λ (x : List (List ℕ)). units_on k got ++ x) f ∙ append-nil (units_on k got)

  post-here : (k : ℕ) → place_of s k ≡ p → units_on k (sent ++ unit_on n u ∷ []) ≡ units_on k got ++ way with (written w at u) (channel_at r p) h p
  post-here k e =
      on_this k n sent u (place_unique s m.full n k p inside place e)
      ∙ ap (λ (x : List (List ℕ)). x ++ u ∷ []) (none_under-way k e)
      ∙ ap (λ (x : List (List ℕ)). units_on k got ++ x) (sym post-way)

  pub posted_matched : Matched (put s p with) (written w at u) r h (sent ++ unit_on n u ∷ []) got
  posted_matched = changed m inside (record {
    seated = refl;
    alike = refl;
    others = λ q f. refl;
    waiting_room = written-length w at u room ∙ m.waiting_room;
    held_room = m.held_room;
    twin = record { bounded = omega (arith, none-held); ended = λ e. none-held; whole = (m.each p).whole };
    waits_else = post_else;
    holds_else = λ q l f. refl;
    here = post-here;
    elsewhere = λ k f. (on-other k n sent u (λ e. f (ap (place_of s) (sym e) ∙ place)), refl);
  })
