-- One direction of a run: what the one end has posted, what is on its way, and what the other end has delivered.
--
--   Linked            there is a receiver to which nothing came changed: to it lead what was delivered, and then the payloads on their way; with
--                     it the sender matches, and the true receiver is its shadow
--   LinkedEnds        .. of two ends
--   linked_sender     so it is where the sender's channels differ in what does not wait
--   linked_receiver   .. and where the receiver's differ in what is not held
--   linked-post       .. after a post
--   linked_pay        .. with one more payload on its way
--   linked_open       .. after the same opening at both ends
--   told-once         a delivery tells of one list of units
--   Came, linked_come   .. after the oldest payload has come
--   linked-more       .. and where more is allowed
--   linked-start      .. and at first
--
-- Assumes nothing.
use mathlib.Core.Path.{◌≡◌, refl, sym, subst, ◌∙◌}
use mathlib.Core.Bool.{Bool}
use mathlib.Core.List.{List, [], ◌∷◌, ◌++◌, append_assoc}
use Prim.Native.Nat.{ℕ, ◌+◌, ◌*◌, ◌-◌, ◌≤◌, ◌<◌}
use native.Mathlib.Decide.{ℕ_discrete}
use native.Mathlib.Omega.{arith}
use lib.ListN.{length}
use Rattle.octets.specs.Each.{Each, each_none, each_append, each-length, each_map}
use Rattle.octets.specs.Written.{written}
use Rattle.table.specs.Slots.{payload_slots}
use Rattle.table.specs.Table.{entry_of}
use Rattle.channels.specs.declared.Channels.{Channels}
use Rattle.channels.specs.Channels.{start, fresh, place_of, free_place, channel_at, put, waiting, held_of, place_count, place_octets, all_octets}
use Rattle.channels.proofs.Laws.{put-there, put-elsewhere, orderly-put, start_bounded}
use Rattle.multiplex.specs.Demultiplexer.{Delivery, delivery}
use Rattle.multiplex.specs.Multiplexer.{walked}
use Rattle.multiplex.specs.Units.{UnitOn}
use Rattle.multiplex.proofs.Laws.{unit_on, Tells, tells_read}
use Rattle.runs.specs.Runs.{Parcel, End}
use Rattle.runs.proofs.Same.{Same, held_count, waiting_count, same_self, same_puts}
use Rattle.runs.proofs.Matching.{Matched, matched-same, posted_matched}
use Rattle.runs.proofs.Opening.{opened_matched, start_alike, start_matched}
use Rattle.runs.proofs.Shadowing.{UnitAlike, Shadow, shadow-same, Parallel}
use Rattle.runs.proofs.Going.{Welcome, welcome-same, Going, Way, way-none, way_next, way-behind, came_parallel}
use Rattle.runs.proofs.Accepting.{Made, parcel, sound, going, carried_over}

pub record Linked (R : ℕ → ℕ → Type 0) (t : List ℕ) (s : Channels) (w : List ℕ) (sent : List UnitOn) (coming : List Parcel) (r : Channels) (h : List ℕ)
    (got : List UnitOn) : Type 0 where
  -- the receiver to which nothing came changed: now, and once all has come
  pub s₀ : Channels
  pub g₀ : List ℕ
  pub got₀ : List UnitOn
  pub s₁ : Channels
  pub g₁ : List ℕ
  pub rest : List UnitOn
  pub way : Way t s₀ g₀ coming s₁ g₁ rest
  pub matched : Matched s w s₁ g₁ sent (got₀ ++ rest)
  pub shadow : Shadow R s₀ g₀ r h
  pub alike : Each (UnitAlike R) got₀ got

abbrev pub LinkedEnds : (ℕ → ℕ → Type 0) → End → End → Type 0
LinkedEnds R a b = Linked R b.link.table a.link.channels a.link.waiting a.posted b.coming b.link.channels b.link.held b.delivered

module _ {R : ℕ → ℕ → Type 0} {t : List ℕ} {s : Channels} {w : List ℕ} {sent : List UnitOn} {coming : List Parcel} {r : Channels} {h : List ℕ}
    {got : List UnitOn} (k : Linked R t s w sent coming r h got) where
  -- the same receiver to which nothing came changed, with another sender
  matching : {s' : Channels} {w' : List ℕ} {sent' : List UnitOn} → Matched s' w' k.s₁ k.g₁ sent' (k.got₀ ++ k.rest) → Linked R t s' w' sent' coming r h got
  matching m = record {
    s₀ = k.s₀;
    g₀ = k.g₀;
    got₀ = k.got₀;
    s₁ = k.s₁;
    g₁ = k.g₁;
    rest = k.rest;
    way = k.way;
    matched = m;
    shadow = k.shadow;
    alike = k.alike;
  }

  pub linked_sender : {s' : Channels} → Same waiting_count s s' → Linked R t s' w sent coming r h got
  linked_sender e = matching (matched-same k.matched e)

  pub linked_receiver : {r' : Channels} → Same held_count r r' → Linked R t s w sent coming r' h got
  linked_receiver e = record {
    s₀ = k.s₀;
    g₀ = k.g₀;
    got₀ = k.got₀;
    s₁ = k.s₁;
    g₁ = k.g₁;
    rest = k.rest;
    way = k.way;
    matched = k.matched;
    shadow = shadow-same k.shadow e;
    alike = k.alike;
  }

  pub linked-post : (n : ℕ) (u : List ℕ) → 1 ≤ length u → length u ≤ place_octets → place_of s n < place_count → (channel_at s (place_of s n)).waiting ≡ 0
      → Linked R t (put s (place_of s n) (waiting (channel_at s (place_of s n)) (length u)))
      (written w (place_octets * place_of s n + (place_octets - length u)) u) (sent ++ unit_on n u ∷ []) coming r h got
  linked-post n u some fits i free = matching (posted_matched k.matched n u some fits (place_of s n) refl i free)

  pub linked_pay : (c room : ℕ) (made : Made s t c room)
      → Linked R t (walked s (payload_slots (entry_of t c) room)).channels w sent (coming ++ parcel k.matched t c room made ∷ []) r h got
  linked_pay c room made =
      let m = k.matched in
      record {
        s₀ = k.s₀;
        g₀ = k.g₀;
        got₀ = k.got₀;
        s₁ = _;
        g₁ = _;
        rest = k.rest ++ (sound m t c room made).units;
        way = way-behind k.way (going m t c room made);
        matched = subst (Matched _ w _ _ sent) (append_assoc k.got₀ k.rest (sound m t c room made).units) (carried_over m t c room made);
        shadow = k.shadow;
        alike = k.alike;
      }

-- ---- an opening, with nothing on its way

open_shadow : {R : ℕ → ℕ → Type 0} {s : Channels} {g : List ℕ} {r : Channels} {h : List ℕ} → Shadow R s g r h → (p n : ℕ) (b : Bool) → p < place_count
    → Shadow R (put s p (fresh n b)) g (put r p (fresh n b)) h
open_shadow {R} {s} {g} {r} {h} x p n b i = record {
  same = same_puts held_count x.same p (fresh n b) (fresh n b) refl refl;
  orderly₀ = orderly-put x.orderly₀ i (fresh n b) g (omega arith) (λ e. refl) x.orderly₀.room;
  orderly = orderly-put x.orderly i (fresh n b) h (omega arith) (λ e. refl) x.orderly.room;
  held = λ q l. by q l (ℕ_discrete q p);
}
  where
    by : (q : ℕ) → q < place_count → Dec (q ≡ p) → Each R (held_of (put s p (fresh n b)) g q) (held_of (put r p (fresh n b)) h q)
    by q l (yes e) = rw (e, put-there s x.orderly₀.full p (fresh n b) i, put-there r x.orderly.full p (fresh n b) i) each_none
    by q l (no f) = rw (put-elsewhere s p q (fresh n b) f, put-elsewhere r p q (fresh n b) f) (x.held q l)

module _ {R : ℕ → ℕ → Type 0} {t : List ℕ} {s : Channels} {w : List ℕ} {sent : List UnitOn} {r : Channels} {h : List ℕ} {got : List UnitOn} where
  pub linked_open : Linked R t s w sent [] r h got → (t' : List ℕ) (p n : ℕ) (b : Bool) → free_place s ≡ p → p < place_count → place_count ≤ place_of s n
      → Linked R t' (put s p (fresh n b)) w sent [] (put r p (fresh n b)) h got
  linked_open k t' p n b place i unknown = by k.way k.matched
    where
      by : {s₁ : Channels} {g₁ : List ℕ} {us : List UnitOn} → Way t k.s₀ k.g₀ [] s₁ g₁ us → Matched s w s₁ g₁ sent (k.got₀ ++ us)
          → Linked R t' (put s p (fresh n b)) w sent [] (put r p (fresh n b)) h got
      by way-none m = record {
        s₀ = put k.s₀ p (fresh n b);
        g₀ = k.g₀;
        got₀ = k.got₀;
        s₁ = put k.s₀ p (fresh n b);
        g₁ = k.g₀;
        rest = [];
        way = way-none;
        matched = opened_matched m n b p place i unknown;
        shadow = open_shadow k.shadow p n b i;
        alike = k.alike;
      }

-- ---- the oldest payload comes

pub told-once : {d : Delivery} {us vs : List UnitOn} → Tells d us → Tells d vs → us ≡ vs
told-once {d} {us} {vs} a b = sym (tells_read d us [] [] a) ∙ tells_read d vs [] [] b

module _ {R : ℕ → ℕ → Type 0} {t : List ℕ} {s : Channels} {w : List ℕ} {sent : List UnitOn} {q : Parcel} {coming : List Parcel} {r : Channels} {h : List ℕ}
    {got : List UnitOn} where
  -- it is welcome, and what it leads to
  pub record Came (k : Linked R t s w sent (q ∷ coming) r h got) (xs : List ℕ) : Type 0 where
    pub s' : Channels
    pub g' : List ℕ
    pub us : List UnitOn
    pub went : Going t k.s₀ k.g₀ q s' g' us
    pub welcomed : Welcome r t q.code q.mark went.pieces xs
    pub parallel : Parallel R (delivery k.s₀ k.g₀ q.mark went.pieces q.octets) (delivery r h q.mark went.pieces xs)
    pub linked : Linked R t s w sent coming (delivery r h q.mark went.pieces xs).channels (delivery r h q.mark went.pieces xs).held
        (got ++ parallel.units)

  pub linked_come : (k : Linked R t s w sent (q ∷ coming) r h got) (xs : List ℕ) → Each R q.octets xs → Came k xs
  linked_come k xs e = by k.way k.matched
    where
      by : {s₁ : Channels} {g₁ : List ℕ} {us : List UnitOn} → Way t k.s₀ k.g₀ (q ∷ coming) s₁ g₁ us → Matched s w s₁ g₁ sent (k.got₀ ++ us) → Came k xs
      by {s₁} {g₁} (way_next {s₁ = s'} {g₁ = g'} {us = us} {vs = vs} v rest) m =
          let p = came_parallel k.shadow v.welcomed e in
          record {
            s' = s';
            g' = g';
            us = us;
            went = v;
            welcomed = welcome-same k.shadow.same (each-length e) v.welcomed;
            parallel = p;
            linked = record {
              s₀ = s';
              g₀ = g';
              got₀ = k.got₀ ++ us;
              s₁ = s₁;
              g₁ = g₁;
              rest = vs;
              way = rest;
              matched = subst (Matched s w s₁ g₁ sent) (sym (append_assoc k.got₀ us vs)) m;
              shadow = rw (v.channels, v.held) at p.shadow;
              alike = each_append k.alike (subst (λ (l : List UnitOn). Each (UnitAlike R) l p.units) (told-once p.tells₀ v.tells) p.alike);
            };
          }

-- ---- where more is allowed

pub linked-more : {R S : ℕ → ℕ → Type 0} → ((x y : ℕ) → R x y → S x y) → {t : List ℕ} {s : Channels} {w : List ℕ} {sent : List UnitOn} {coming : List Parcel}
    {r : Channels} {h : List ℕ} {got : List UnitOn} → Linked R t s w sent coming r h got → Linked S t s w sent coming r h got
linked-more f k = record {
  s₀ = k.s₀;
  g₀ = k.g₀;
  got₀ = k.got₀;
  s₁ = k.s₁;
  g₁ = k.g₁;
  rest = k.rest;
  way = k.way;
  matched = k.matched;
  shadow = record {
    same = k.shadow.same;
    orderly₀ = k.shadow.orderly₀;
    orderly = k.shadow.orderly;
    held = λ p i. each_map f (k.shadow.held p i);
  };
  alike = each_map (λ u v a. record { channel = a.channel; octets = each_map f a.octets }) k.alike;
}

-- ---- at first

pub linked-start : (R : ℕ → ℕ → Type 0) (t w h : List ℕ) → length w ≡ all_octets → length h ≡ all_octets → Linked R t start w [] [] start h []
linked-start R t w h ew eh = record {
  s₀ = start;
  g₀ = h;
  got₀ = [];
  s₁ = start;
  g₁ = h;
  rest = [];
  way = way-none;
  matched = start_matched w h ew eh;
  shadow = record {
    same = same_self held_count start;
    orderly₀ = (start_bounded h w eh ew).orderly;
    orderly = (start_bounded h w eh ew).orderly;
    held = λ p i. rw (start_alike held_count 0 refl refl p) each_none;
  };
  alike = each_none;
}
