-- Every permitted event keeps both directions of a run linked, and so does every run of them.
--
--   same-sending, same-taking   AL2's calls change numbers alone
--   open_pair         an opening at both ends, with nothing on its way
--   replace_pair      .. and a table change
--   Kept              what is kept of both ends
--   step_kept         each permitted event keeps it
--   run-kept          .. and so does every run
--
-- Assumes nothing.
use mathlib.Core.Path.{◌≡◌, refl, sym, ap, ◌∙◌}
use mathlib.Core.Logic.{inl, inr}
use mathlib.Core.Bool.{Bool, true}
use mathlib.Core.List.{List, [], ◌∷◌, ◌++◌}
use Prim.Native.Nat.{ℕ}
use borrow.Author.Tests.{ltb-false, leb-false}
use Rattle.calls.specs.Refusal.{refused, Ended, refusing}
use Rattle.calls.proofs.Laws.{both_tests, checked_keeps}
use Rattle.table.specs.Table.{replaced}
use Rattle.adaptation.specs.declared.al2.Numbers.{Numbers}
use Rattle.channels.specs.declared.Channel.{Channel}
use Rattle.channels.specs.declared.Channels.{Channels}
use Rattle.channels.specs.Channels.{place_of, free_place, channel_at, put, opened, open_tests, numbering, place_count}
use Rattle.channels.specs.Layers as layers
use Rattle.channels.proofs.Laws.{seats, free-seats, place-seats}
use Rattle.multiplex.specs.Units.{UnitOn}
use Rattle.multiplex.specs.Calls as call
use Rattle.multiplex.specs.Calls.{Link, Call, ours, called_by, called}
use Rattle.multiplex.proofs.Laws.{calls_refuse}
use Rattle.runs.specs.Runs.{Side, near, far, other, Parcel, End, World, end_at, Event, both, calls, posts, pays, arrives, with, sending, after, step, run}
use Rattle.runs.specs.Demand.{is_shared, is_by_layer, Quiet, Permitted, PermittedAll}
use Rattle.runs.proofs.Permitting.{by_layer, by_shared}
use Rattle.runs.proofs.Same.{Same, held_count, waiting_count, same_self, same_back, same-put}
use Rattle.runs.proofs.Going.{Way, way-none}
use Rattle.runs.proofs.Matching.{Matched}
use Rattle.runs.proofs.Linking.{Linked, linked_open}
use Rattle.runs.proofs.Running.{Pair, pair-back, layer_pair, none_pair, post_pair, pay_pair}
use Rattle.runs.proofs.Coming.{come_pair}

-- ---- AL2

module _ (f : Channel → ℕ) (blind : (c : Channel) (m : Numbers) → f (numbering c m) ≡ f c) (s : Channels) (n : ℕ) (numbered : Bool) where
  abbrev p : ℕ
  p = place_of s n

  renumbered : (m : Numbers) → Same f s (put s p (numbering (channel_at s p) m))
  renumbered m = same_back f (same-put f s p (numbering (channel_at s p) m) refl (blind (channel_at s p) m))

  pub same-sending : (u out : List ℕ) → Same f s (layers.sending (record { channels = s; output = out }) n numbered u).left.channels
  unfolding layers.sending
  same-sending u out =
      checked_keeps (record { channels = s; output = out }) (layers.sending_tests (record { channels = s; output = out }) n numbered u)
      (λ (r : layers.SendLent). Same f s r.channels) _ (same_self f s)
      (λ none. renumbered _)

  pub same-taking : (w : List ℕ) → Same f s (layers.taking s n numbered w).left
  unfolding layers.taking
  same-taking w = checked_keeps s (layers.taking_tests s n numbered w) (λ (r : Channels). Same f s r) _ (same_self f s) (λ none. renumbered _)

-- ---- at both ends

-- with nothing on its way
quiet-seats : {R : ℕ → ℕ → Type 0} {t : List ℕ} {s : Channels} {w : List ℕ} {sent : List UnitOn} {r : Channels} {h : List ℕ} {got : List UnitOn}
    → Linked R t s w sent [] r h got → seats s ≡ seats r
quiet-seats {R} {t} {s} {w} {sent} {r} k = by k.way k.matched
  where
    by : {s₁ : Channels} {g₁ : List ℕ} {us : List UnitOn} → Way t k.s₀ k.g₀ [] s₁ g₁ us → Matched s w s₁ g₁ sent (k.got₀ ++ us) → seats s ≡ seats r
    by way-none m = m.alike ∙ k.shadow.same.seated

quiet_table : {R : ℕ → ℕ → Type 0} {t : List ℕ} (t' : List ℕ) {s : Channels} {w : List ℕ} {sent : List UnitOn} {r : Channels} {h : List ℕ} {got : List UnitOn}
    → Linked R t s w sent [] r h got → Linked R t' s w sent [] r h got
quiet_table {R} {t} t' {s} {w} {sent} {r} {h} {got} k = by k.way k.matched
  where
    by : {s₁ : Channels} {g₁ : List ℕ} {us : List UnitOn} → Way t k.s₀ k.g₀ [] s₁ g₁ us → Matched s w s₁ g₁ sent (k.got₀ ++ us)
        → Linked R t' s w sent [] r h got
    by way-none m = record {
      s₀ = k.s₀;
      g₀ = k.g₀;
      got₀ = k.got₀;
      s₁ = k.s₀;
      g₁ = k.g₀;
      rest = [];
      way = way-none;
      matched = m;
      shadow = k.shadow;
      alike = k.alike;
    }

module _ {R : ℕ → ℕ → Type 0} {a b : End} (k : Pair R a b) (qa : a.coming ≡ []) (qb : b.coming ≡ []) where
  abbrev table_of : End → List ℕ → Link
  table_of e t = record { channels = e.link.channels; held = e.link.held; waiting = e.link.waiting; table = t }

  pub replace_pair : (c : ℕ) (s : List ℕ)
      → Pair R (with a (table_of a (replaced a.link.table c s).left)) (with b (table_of b (replaced b.link.table c s).left))
  replace_pair c s = record {
    tables = ap (λ (t : List ℕ). (replaced t c s).left) k.tables;
    unrefused = k.unrefused;
    unrefused₁ = k.unrefused₁;
    there = rw qb (quiet_table _ (rw qb at k.there));
    back = rw qa (quiet_table _ (rw qa at k.back));
  }

  abbrev channels_of : End → Ended (Unit {0}) Channels → End
  channels_of e r = with e (call.with e.link r.left)

  pub open_pair : (n : ℕ) (g : Bool) → Pair R (channels_of a (opened a.link.channels n g)) (channels_of b (opened b.link.channels n g))
  unfolding opened
  open_pair n g =
      let s = a.link.channels in
      let r = b.link.channels in
      let there : Linked R b.link.table s a.link.waiting a.posted [] r b.link.held b.delivered = rw qb at k.there in
      let back : Linked R a.link.table r b.link.waiting b.posted [] s a.link.held a.delivered = rw qa at k.back in
      let e : seats s ≡ seats r = quiet-seats there in
      rw (← (place-seats s r e n), ← (free-seats s r e))
      (both_tests (λ (x y : Ended (Unit {0}) Channels). Pair R (channels_of a x) (channels_of b y)) (refusing s) (refusing r) (open_tests s n) _ _
      (λ i. record { tables = k.tables; unrefused = k.unrefused; unrefused₁ = k.unrefused₁; there = k.there; back = k.back })
      (λ none.
      let i = leb-false place_count (free_place s) none.1.0 in
      let u = ltb-false (place_of s n) place_count none.0 in
      record {
        tables = k.tables;
        unrefused = k.unrefused;
        unrefused₁ = k.unrefused₁;
        there = rw qb (linked_open there b.link.table (free_place s) n g refl i u);
        back = rw qa (linked_open back a.link.table (free_place s) n g (sym (free-seats s r e)) i (rw (← (place-seats s r e n)) u));
      }))

-- ---- a run

abbrev pub Kept : (ℕ → ℕ → Type 0) → World → Type 0
Kept R x = Pair R x.near_end x.far_end

-- what an end does keeps both, by whose end it is
module _ {R : ℕ → ℕ → Type 0} (x : World) (k : Kept R x) where
  pair-at : (i : Side) → Pair R (end_at x i) (end_at x (other i))
  pair-at near = k
  pair-at far = pair-back k

  kept-after : (i : Side) (e : End) (l : List Parcel) → Pair R e (sending (end_at x (other i)) l) → Kept R (after x i e l)
  kept-after near e l p = p
  kept-after far e l p = pair-back p

  layer-kept : (i : Side) (c : Call) → is_by_layer c ≡ true → Pair R (with (end_at x i) (called (end_at x i).link c).left) (end_at x (other i))
  unfolding called_by
  layer-kept i =
      by_layer (λ c. Pair R (with (end_at x i) (called (end_at x i).link c).left) (end_at x (other i)))
      (λ n numbered u out. layer_pair (pair-at i) _ (same-sending waiting_count (λ c m. refl) _ n numbered u out)
      (same-sending held_count (λ c m. refl) _ n numbered u out))
      (λ n numbered w. layer_pair (pair-at i) _ (same-taking waiting_count (λ c m. refl) _ n numbered w) (same-taking held_count (λ c m. refl) _ n numbered w))

  refused-kept : (i : Side) (c : Call) (j : ℕ) → (called (end_at x i).link c).answer ≡ refused j
      → Pair R (with (end_at x i) (called (end_at x i).link c).left) (end_at x (other i))
  refused-kept i c j e =
      let p = pair-at i in
      rw ((calls_refuse (end_at x i).link c).leaves j e)
      (record { tables = p.tables; unrefused = p.unrefused; unrefused₁ = p.unrefused₁; there = p.there; back = p.back })

  shared_kept : (c : Call) → is_shared c ≡ true → Quiet x
      → Pair R (with x.near_end (called x.near_end.link c).left) (with x.far_end (called x.far_end.link c).left)
  unfolding called_by
  shared_kept c e q =
      by_shared (λ c. Pair R (with x.near_end (called x.near_end.link c).left) (with x.far_end (called x.far_end.link c).left))
      (open_pair k (q near) (q far)) (replace_pair k (q near) (q far)) c e

pub step_kept : {R : ℕ → ℕ → Type 0} (x : World) (e : Event) → Kept R x → Permitted R x e → Kept R (step (λ j. ours) x e)
unfolding step called_by
step_kept x (both c) k p = shared_kept x k c p.0 p.1
step_kept x (calls i c) k (inl p) = kept-after x k i _ [] (none_pair (layer-kept x k i c p))
step_kept x (calls i c) k (inr (j, p)) = kept-after x k i _ [] (none_pair (refused-kept x k i c j p))
step_kept x (posts i n u) k p = kept-after x k i _ [] (none_pair (post_pair (pair-at x k i) n u))
step_kept x (pays i c room payload) k p = kept-after x k i _ _ (pay_pair (pair-at x k i) c room payload)
step_kept x (arrives i xs output units) k (q, rest, e, f) =
    kept-after x k i _ [] (none_pair (come_pair (pair-at x k i) q rest e xs output units f))

pub run-kept : (R : ℕ → ℕ → Type 0) (es : List Event) (x : World) → Kept R x → PermittedAll R (λ j. ours) x es → Kept R (run (λ j. ours) x es)
unfolding run PermittedAll
run-kept R [] x k p = k
run-kept R (e ∷ es) x k p = run-kept R es (step (λ j. ours) x e) (step_kept x e k p.0) p.1
