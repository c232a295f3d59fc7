-- The claims of specs/Claims.antt.
--
--   start_bounded, calls_keep_bounds                     what every call keeps
--   taken_as_sent                                       AL2 from channel to channel
--   after_unique, post_unique, send_unique, take_unique   any two answers are equal
--   promises_say                                       what the promises say
--
-- Assumes nothing.
use mathlib.Core.Path.{sym, ap, ◌∙◌}
use mathlib.Core.Bool.{Bool}
use mathlib.Core.List.{List}
use Prim.Native.Nat.{ℕ}
use Rattle.calls.specs.Refusal.{Ended}
use Rattle.calls.proofs.Laws.{both_say-once}
use Rattle.adaptation.specs.AL2.{Receipt, unit_of}
use Rattle.adaptation.proofs.Laws.{says-once}
use Rattle.channels.specs.declared.Channels.{Channels}
use Rattle.channels.specs.Channels.{Post, place_of, channel_at, posted}
use Rattle.channels.specs.Layers.{SendLent, sending}
use Rattle.channels.specs.Claims.{StartBounded, CallsKeepBounds, TakenAsSent, AfterUnique, PostUnique, SendUnique, TakeUnique, PromisesSay}
use Rattle.channels.proofs.Keeping.{taken_as-sent}
use Rattle.channels.proofs.Bounds.{start-bounded, keeps_bounds}

pub start_bounded : StartBounded
start_bounded = start-bounded

pub calls_keep_bounds : CallsKeepBounds
calls_keep_bounds = keeps_bounds

pub taken_as_sent : TakenAsSent
taken_as_sent = taken_as-sent

pub after_unique : AfterUnique
after_unique = both_say-once

pub post_unique : PostUnique
post_unique s w n u v t a b x y p q =
    let e = both_say-once a b (record { channels = x; octets = v }) (record { channels = y; octets = t }) (posted s w n u) p q in
    (e.0, ap (λ (z : Post). z.channels) e.1, ap (λ (z : Post). z.octets) e.1)

pub send_unique : SendUnique
send_unique s out n numbered u v t a b x y p q =
    let e =
    both_say-once a b (record { channels = x; output = v }) (record { channels = y; output = t })
    (sending (record { channels = s; output = out }) n numbered u) p q in
    (e.0, ap (λ (z : SendLent). z.channels) e.1, ap (λ (z : SendLent). z.output) e.1)

pub take_unique : TakeUnique
take_unique s n numbered w a b x y p q =
    let e = p ∙ sym q in (
      says-once (unit_of numbered w) (channel_at s (place_of s n)).numbers.due a b (ap (λ (r : Ended Receipt Channels). r.answer) e),
      ap (λ (r : Ended Receipt Channels). r.left) e,
    )

pub promises_say : (s : Channels) (n : ℕ) (numbered : Bool) (u : List ℕ) → PromisesSay s n numbered u
promises_say s n numbered u = record { posts = λ w v t r p. p; sends = λ out v t r p. p; takes = λ t r p. p }
