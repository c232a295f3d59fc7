-- Two receivers with the same channels, of which one gets octets changed on the way: what the one makes of a payload stands to what the
-- other makes of it as each octet that came stands to the one sent.
--
--   UnitAlike R u v    units of one channel, each octet of v as R allows
--   Shadow R ..        channels alike and with as many octets held, in order, and each held octet as R allows
--   shadow-same        .. and so where other channels hold as much
--   Parallel R c d     of two deliveries: shadows, and the units finished alike
--   none_parallel      before the first octet
--   slots_parallel     after the octets of slots
--   closed_parallel    after the closing mark
--
-- Assumes nothing.
use mathlib.Core.Path.{◌≡◌, refl, sym, ap, ap₂, subst, ◌∙◌}
use mathlib.Core.Logic.{◌≢◌}
use mathlib.Core.Bool.{Bool, true, false, cond, not, ◌||◌}
use mathlib.Core.List.{List, [], ◌∷◌, ◌++◌}
use Prim.Native.Nat.{ℕ, ◌+◌, ◌*◌, ◌≤◌, ◌<◌}
use native.Mathlib.Decide.{ℕ_discrete}
use native.Mathlib.Omega.{arith}
use borrow.Author.Tests.{ltb-true, leb-true}
use lib.Dec.{leb}
use lib.ListN.{length, take, drop, length-drop}
use lib.Seq.{length-take-le}
use Rattle.octets.specs.Tests.{both_true}
use Rattle.octets.specs.Each.{Each, each_none, each_more, each-length, each_append, each_take, each-drop}
use Rattle.table.specs.Slots.{Slot, octets_of, numbers_of}
use Rattle.channels.specs.declared.Channel.{Channel}
use Rattle.channels.specs.declared.Channels.{Channels}
use Rattle.channels.specs.Channels.{place_of, is_in, channel_at, put, holding, held_of, place_count, place_octets, all_open}
use Rattle.channels.specs.Claims.{Orderly}
use Rattle.channels.proofs.Laws.{Seat, seat, seat-at, seats-length, put-there, put-elsewhere, held_at, held_grown, held_else, orderly_joined, orderly_emptied}
use Rattle.multiplex.specs.Pieces.{placed}
use Rattle.multiplex.specs.Demultiplexer.{Delivery, nothing, finished, joined, took, took_all, closed, counted, has_room, fits}
use Rattle.multiplex.specs.Units.{UnitOn}
use Rattle.multiplex.proofs.Laws.{unit_on, Tells, tells-nothing, tells-finished, counted-took}
use Rattle.runs.proofs.Same.{Same, held_count, same_after, same_at, same_puts}

pub record UnitAlike (R : ℕ → ℕ → Type 0) (u v : UnitOn) : Type 0 where
  pub channel : u.channel ≡ v.channel
  pub octets : Each R u.octets v.octets

pub record Shadow (R : ℕ → ℕ → Type 0) (s : Channels) (g : List ℕ) (r : Channels) (h : List ℕ) : Type 0 where
  pub same : Same held_count s r
  pub orderly₀ : Orderly s g
  pub orderly : Orderly r h
  pub held : (p : ℕ) → p < place_count → Each R (held_of s g p) (held_of r h p)

pub shadow-same : {R : ℕ → ℕ → Type 0} {s : Channels} {g : List ℕ} {r t : Channels} {h : List ℕ} → Shadow R s g r h → Same held_count r t → Shadow R s g t h
shadow-same {R} {s} {g} {r} {t} {h} x e =
    let at : (p : ℕ) → (channel_at r p).held ≡ (channel_at t p).held = same_at held_count e in
    record {
      same = same_after held_count x.same e;
      orderly₀ = x.orderly₀;
      orderly = record {
        full = sym (seats-length r t e.seated) ∙ x.orderly.full;
        room = x.orderly.room;
        bounded = λ p. subst (λ (k : ℕ). k ≤ place_octets) (at p) (x.orderly.bounded p);
        whole = λ p q. sym (at p) ∙ x.orderly.whole p (ap (λ (z : Seat). z.segmentable) (seat-at r t e.seated p) ∙ q);
      };
      held = λ p i. subst (λ (k : ℕ). Each R (held_of s g p) (take k (drop (place_octets * p) h))) (at p) (x.held p i);
    }

pub record Parallel (R : ℕ → ℕ → Type 0) (c d : Delivery) : Type 0 where
  pub shadow : Shadow R c.channels c.held d.channels d.held
  pub units₀ : List UnitOn
  pub units : List UnitOn
  pub tells₀ : Tells c units₀
  pub tells : Tells d units
  pub alike : Each (UnitAlike R) units₀ units

pub none_parallel : {R : ℕ → ℕ → Type 0} {s : Channels} {g : List ℕ} {r : Channels} {h : List ℕ} → Shadow R s g r h
    → Parallel R (nothing s g) (nothing r h)
none_parallel {R} {s} {g} {r} {h} x =
    record { shadow = x; units₀ = []; units = []; tells₀ = tells-nothing s g; tells = tells-nothing r h; alike = each_none }

-- ---- one piece

module _ {R : ℕ → ℕ → Type 0} {c d : Delivery} (o : Parallel R c d) (p : ℕ) (inside : p < place_count) where
  abbrev there₀ : Channel
  there₀ = channel_at c.channels p

  abbrev there : Channel
  there = channel_at d.channels p

  same-seat : seat there₀ ≡ seat there
  same-seat = seat-at c.channels d.channels o.shadow.same.seated p

  -- one more unit of the channel at p
  with_unit : {u v : List ℕ} → Each R u v
      → Each (UnitAlike R) (o.units₀ ++ unit_on there₀.number.0 u ∷ []) (o.units ++ unit_on there.number.0 v ∷ [])
  with_unit e =
      let n : there₀.number.0 ≡ there.number.0 = ap (λ (z : Seat). z.number) same-seat in
      each_append o.alike (each_more (record { channel = n; octets = e }) each_none)

  -- what each place holds, once the channels at p are a and b and the octets held are g and h
  module _ (a b : Channel) (g h : List ℕ) (here : Each R (held_at a g p) (held_at b h p))
      (else₀ : (q : ℕ) → q ≢ p → held_at (channel_at c.channels q) g q ≡ held_of c.channels c.held q)
      (else : (q : ℕ) → q ≢ p → held_at (channel_at d.channels q) h q ≡ held_of d.channels d.held q) where
    held-put : (q : ℕ) → q < place_count → Dec (q ≡ p) → Each R (held_of (put c.channels p a) g q) (held_of (put d.channels p b) h q)
    held-put q i (yes e) =
        rw (e, put-there c.channels o.shadow.orderly₀.full p a inside, put-there d.channels o.shadow.orderly.full p b inside) here
    held-put q i (no f) =
        rw (put-elsewhere c.channels p q a f, put-elsewhere d.channels p q b f, else₀ q f, else q f) (o.shadow.held q i)

  pub closed_parallel : Parallel R (closed c p) (closed d p)
  closed_parallel =
      let u = held_of c.channels c.held p in
      let v = held_of d.channels d.held p in
      let a = tells-finished c o.units₀ there₀.number.0 u o.tells₀ in
      let b = tells-finished d o.units there.number.0 v o.tells in
      record {
        shadow = record {
          same = same_puts held_count o.shadow.same p (holding there₀ 0) (holding there 0) same-seat refl;
          orderly₀ = orderly_emptied o.shadow.orderly₀ inside;
          orderly = orderly_emptied o.shadow.orderly inside;
          held = λ q i. held-put (holding there₀ 0) (holding there 0) c.held d.held each_none (λ q f. refl) (λ q f. refl) q i (ℕ_discrete q p);
        };
        units₀ = o.units₀ ++ unit_on there₀.number.0 u ∷ [];
        units = o.units ++ unit_on there.number.0 v ∷ [];
        tells₀ = record { octets = a.octets; units = a.units; count = a.count };
        tells = record { octets = b.octets; units = b.units; count = b.count };
        alike = with_unit (o.shadow.held p inside);
      }

  module _ {x y : List ℕ} (e : Each R x y) where
    finished_parallel : Parallel R (finished c there₀.number.0 x) (finished d there.number.0 y)
    finished_parallel = record {
      shadow = o.shadow;
      units₀ = o.units₀ ++ unit_on there₀.number.0 x ∷ [];
      units = o.units ++ unit_on there.number.0 y ∷ [];
      tells₀ = tells-finished c o.units₀ there₀.number.0 x o.tells₀;
      tells = tells-finished d o.units there.number.0 y o.tells;
      alike = with_unit e;
    }

    joined_parallel : there₀.held + length x ≤ place_octets → there₀.segmentable ≡ true → there.segmentable ≡ true
        → Parallel R (joined c p x) (joined d p y)
    joined_parallel room g k =
        let n : there₀.held + length x ≡ there.held + length y = ap₂ ◌+◌ (same_at held_count o.shadow.same p) (each-length e) in
        let fit : there.held + length y ≤ place_octets = omega (arith, n) in
        record {
          shadow = record {
            same = same_puts held_count o.shadow.same p (holding there₀ (there₀.held + length x)) (holding there (there.held + length y)) same-seat n;
            orderly₀ = orderly_joined o.shadow.orderly₀ inside x room g;
            orderly = orderly_joined o.shadow.orderly inside y fit k;
            held = λ q i. held-put (holding there₀ (there₀.held + length x)) (holding there (there.held + length y)) (joined c p x).held (joined d p y).held
                (rw (held_grown o.shadow.orderly₀ inside x room, held_grown o.shadow.orderly inside y fit) (each_append (o.shadow.held p inside) e))
                (held_else o.shadow.orderly₀ inside x room) (held_else o.shadow.orderly inside y fit) q i (ℕ_discrete q p);
          };
          units₀ = o.units₀;
          units = o.units;
          tells₀ = record { octets = o.tells₀.octets; units = o.tells₀.units; count = o.tells₀.count };
          tells = record { octets = o.tells.octets; units = o.tells.units; count = o.tells.count };
          alike = o.alike;
        }

    took_parallel : has_room c.channels p (length x) ≡ true → Parallel R (took c p x) (took d p y)
    took_parallel h = by there₀.segmentable refl there.segmentable (ap (λ (z : Seat). z.segmentable) (sym same-seat)) h
      where
        by : (g : Bool) → there₀.segmentable ≡ g → (k : Bool) → k ≡ there₀.segmentable → (not g || leb (there₀.held + length x) place_octets) ≡ true
            → Parallel R (cond g (joined c p x) (finished c there₀.number.0 x)) (cond k (joined d p y) (finished d there.number.0 y))
        by true g k s h = rw (s ∙ g) (joined_parallel (leb-true (there₀.held + length x) place_octets h) g (ap (λ (z : Seat). z.segmentable) (sym same-seat) ∙ g))
        by false g k s h = rw (s ∙ g) finished_parallel

-- ---- piece after piece

pub slots_parallel : {R : ℕ → ℕ → Type 0} (s : Channels) (l : List Slot) {c d : Delivery} {xs ys : List ℕ} → Parallel R c d → Each R xs ys
    → all_open s (numbers_of l) ≡ true → fits c.channels (placed s l) ≡ true → octets_of l ≤ length xs
    → Parallel R (took_all c (placed s l) xs) (took_all d (placed s l) ys)
unfolding all_open fits placed octets_of took_all
slots_parallel s [] o e a f h = o
slots_parallel {R} s (y ∷ l) {c} {d} {xs} {ys} o e a f h =
    let k = y.octets in
    let p = place_of s y.channel in
    let x = take k xs in
    let size : length x ≡ k = length-take-le k xs (omega arith) in
    let known = both_true (is_in s y.channel) (all_open s (numbers_of l)) a in
    let fitting = both_true (has_room c.channels p k) (fits (counted c.channels p k) (placed s l)) f in
    let same : counted c.channels p k ≡ (took c p x).channels = ap (counted c.channels p) (sym size) ∙ counted-took c p x in
    slots_parallel s l
    (took_parallel o p (ltb-true p place_count known.0) (each_take k e) (ap (has_room c.channels p) size ∙ fitting.0))
    (each-drop k e) known.1 (ap (λ (t : Channels). fits t (placed s l)) (sym same) ∙ fitting.1) (rw (length-drop k xs) (omega arith))
