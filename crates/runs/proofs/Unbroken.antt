-- What AL2's calls on a channel make over a run, one call going on where the one before ended.
--
--   Many One        steps of One, one behind another
--   Follows         what is needed of a thing that calls by AL2 on channel n add to a list, and of what they go by of that channel
--   run_follows     then over a run it goes on from call to call
--
-- Assumes nothing.
use mathlib.Core.Path.{◌≡◌, refl, ap}
use mathlib.Core.Logic.{inl, inr}
use mathlib.Core.Bool.{Bool, true}
use mathlib.Core.List.{List, [], ◌∷◌, ◌++◌}
use Prim.Native.Nat.{ℕ}
use lib.ListN.{length}
use Rattle.calls.specs.Refusal.{refused}
use Rattle.channels.specs.declared.Channel.{Channel}
use Rattle.channels.specs.declared.Channels.{Channels}
use Rattle.channels.specs.Channels.{vacant, fresh, holding, waiting, place_count}
use Rattle.channels.specs.Claims.{channel_of}
use Rattle.multiplex.specs.Calls.{Link, Call, Answer, ours, called_by, called}
use Rattle.multiplex.proofs.Laws.{calls_refuse}
use Rattle.runs.specs.Runs.{Side, near, far, End, World, end_at, Event, both, calls, posts, pays, arrives, added, step, run}
use Rattle.runs.specs.Demand.{is_shared, is_by_layer, Permitted, PermittedAll}
use Rattle.runs.specs.Carried.{called_at, over_run}
use Rattle.runs.proofs.Permitting.{by_shared}
use Rattle.runs.proofs.Same.{Same}
use Rattle.runs.proofs.Numbering.{on_channel, on_same, on-opened, post-keeps, pay-keeps, come-keeps}
use Rattle.runs.proofs.Stepping.{Kept, step_kept}

pub data Many {A B : Type 0} (One : B → List A → B → Type 0) : B → List A → B → Type 0 where
  many-none : {a : B} → Many One a [] a
  many_more : {a b c : B} {l m : List A} → One a l b → Many One b m c → Many One a (l ++ m) c

pub record Follows {A B : Type 0} (f : Channel → B) (n : ℕ) (g : Call → Answer → List A) (One : B → List A → B → Type 0) : Type 0 where
  pub none : (a : B) → One a [] a
  pub blind_w : (c : Channel) (k : ℕ) → f (waiting c k) ≡ f c
  pub blind_h : (c : Channel) (k : ℕ) → f (holding c k) ≡ f c
  pub new : (m : ℕ) (b : Bool) → f (fresh m b) ≡ f vacant
  pub layer : (x : Link) (c : Call) → length x.channels.at ≡ place_count → is_by_layer c ≡ true
      → One (f (channel_of x.channels n)) (added (called x c).answer (g c)) (f (channel_of (called x c).left.channels n))

module _ {A B : Type 0} {f : Channel → B} {n : ℕ} {g : Call → Answer → List A} {One : B → List A → B → Type 0} (k : Follows f n g One) where
  -- where that stays, nothing is added
  stays : {a b : B} → b ≡ a → One a [] b
  stays {a} e = rw e (k.none a)

  refused-stays : (x : Link) (c : Call) (j : ℕ) → (called x c).answer ≡ refused j
      → One (f (channel_of x.channels n)) (added (called x c).answer (g c)) (f (channel_of (called x c).left.channels n))
  refused-stays x c j e = rw e (stays (ap (λ (y : Link). f (channel_of y.channels n)) ((calls_refuse x c).leaves j e)))

  shared-stays : (x : Link) (c : Call) → length x.channels.at ≡ place_count → is_shared c ≡ true
      → f (channel_of (called x c).left.channels n) ≡ f (channel_of x.channels n)
  unfolding called_by
  shared-stays x c full =
      by_shared (λ c. f (channel_of (called x c).left.channels n) ≡ f (channel_of x.channels n)) (λ m b. on-opened f k.new x.channels full m b n)
      (λ c s. refl) c

  module _ {R : ℕ → ℕ → Type 0} (x : World) (kept : Kept R x) where
    full : (i : Side) → length (end_at x i).link.channels.at ≡ place_count
    full near = kept.back.shadow.orderly.full
    full far = kept.there.shadow.orderly.full

    own : (i : Side) (c : Call) → Permitted R x (calls i c)
        → One (on_channel f (end_at x i) n) (added (called (end_at x i).link c).answer (g c)) (f (channel_of (called (end_at x i).link c).left.channels n))
    own i c (inl e) = k.layer (end_at x i).link c (full i) e
    own i c (inr (j, e)) = refused-stays (end_at x i).link c j e

    kept_by : {s : Channels} (e : End) → Same f s e.link.channels → One (on_channel f e n) [] (f (channel_of s n))
    kept_by e q = stays (on_same f q n)

    event_follows : (i : Side) (e : Event) → Permitted R x e → One (on_channel f (end_at x i) n) (called_at g x i e) (on_channel f (end_at (step (λ j. ours) x e) i) n)
    unfolding step
    event_follows near (both c) p = stays (shared-stays x.near_end.link c (full near) p.0)
    event_follows far (both c) p = stays (shared-stays x.far_end.link c (full far) p.0)
    event_follows near (calls near c) p = own near c p
    event_follows near (calls far c) p = k.none _
    event_follows far (calls near c) p = k.none _
    event_follows far (calls far c) p = own far c p
    event_follows near (posts near m u) p = kept_by x.near_end (post-keeps f k.blind_w k.blind_h x.near_end m u)
    event_follows near (posts far m u) p = k.none _
    event_follows far (posts near m u) p = k.none _
    event_follows far (posts far m u) p = kept_by x.far_end (post-keeps f k.blind_w k.blind_h x.far_end m u)
    event_follows near (pays near c room payload) p = kept_by x.near_end (pay-keeps f k.blind_w k.blind_h x.near_end c room payload)
    event_follows near (pays far c room payload) p = k.none _
    event_follows far (pays near c room payload) p = k.none _
    event_follows far (pays far c room payload) p = kept_by x.far_end (pay-keeps f k.blind_w k.blind_h x.far_end c room payload)
    event_follows near (arrives near xs o u) p = kept_by x.near_end (come-keeps f k.blind_w k.blind_h x.near_end x.near_end.coming xs o u)
    event_follows near (arrives far xs o u) p = k.none _
    event_follows far (arrives near xs o u) p = k.none _
    event_follows far (arrives far xs o u) p = kept_by x.far_end (come-keeps f k.blind_w k.blind_h x.far_end x.far_end.coming xs o u)

  pub run_follows : {R : ℕ → ℕ → Type 0} (es : List Event) (x : World) (i : Side) → Kept R x → PermittedAll R (λ j. ours) x es
      → Many One (on_channel f (end_at x i) n) (over_run g x i es) (on_channel f (end_at (run (λ j. ours) x es) i) n)
  unfolding run PermittedAll over_run
  run_follows [] x i kept p = many-none
  run_follows (e ∷ es) x i kept p =
      many_more (event_follows x kept i e p.0) (run_follows es (step (λ j. ours) x e) i (step_kept x e kept p.0) p.1)
