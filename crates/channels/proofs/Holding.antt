-- What a place holds, in an orderly state: octets that join it, and the places beside it.
--
--   held_at            the octets that channel d holds at place p
--   orderly-put       a place put in order leaves all in order
--   filled-room       the array keeps its length
--   held_grown        octets that join what place p holds
--   held_else         .. leave what other places hold
--   orderly_joined    .. and all in order
--   orderly_emptied   so does a place that is emptied
--
-- Assumes nothing.
use mathlib.Core.Path.{◌≡◌, refl, ◌∙◌}
use mathlib.Core.Logic.{◌≢◌, ◌⊎◌, inl, inr, ⊎_elim}
use mathlib.Core.Bool.{true, false}
use mathlib.Core.List.{List, ◌++◌}
use Prim.Native.Nat.{ℕ, ◌+◌, ◌*◌, ◌≤◌, ◌<◌}
use native.Mathlib.Omega.{arith}
use lib.ListN.{length, take, drop, length-set}
use Rattle.octets.specs.Tests.{never}
use Rattle.octets.specs.Written.{written, written-length}
use Rattle.channels.specs.declared.Channel.{Channel}
use Rattle.channels.specs.declared.Channels.{Channels}
use Rattle.channels.specs.Channels.{place_count, place_octets, all_octets, vacant, channel_at, put, holding}
use Rattle.channels.specs.Claims.{Orderly}
use Rattle.channels.proofs.Seats.{each_set}
use Rattle.octets.specs.Parts.{apart, part_elsewhere, part_grown}

abbrev pub held_at : Channel → List ℕ → ℕ → List ℕ
held_at d h p = take d.held (drop (place_octets * p) h)

module _ {r : Channels} {h : List ℕ} (o : Orderly r h) {p : ℕ} (inside : p < place_count) where
  pub orderly-put : (d : Channel) (h' : List ℕ) → d.held ≤ place_octets → (d.segmentable ≡ false → d.held ≡ 0) → length h' ≡ all_octets
      → Orderly (put r p d) h'
  orderly-put d h' b f e = record {
    full = length-set r.at p d ∙ o.full;
    room = e;
    bounded = each_set (λ c. c.held ≤ place_octets) vacant r.at p d o.bounded b;
    whole = each_set (λ c. c.segmentable ≡ false → c.held ≡ 0) vacant r.at p d o.whole f;
  }

  pub orderly_emptied : Orderly (put r p (holding (channel_at r p) 0)) h
  orderly_emptied = orderly-put (holding (channel_at r p) 0) h (omega arith) (λ e. refl) o.room

  -- ---- octets that join

  module _ (x : List ℕ) (fits : (channel_at r p).held + length x ≤ place_octets) where
    abbrev there : Channel
    there = channel_at r p

    abbrev more : Channel
    more = holding there (there.held + length x)

    abbrev filled : List ℕ
    filled = written h (place_octets * p + there.held) x

    space : place_octets * p + there.held + length x ≤ length h
    space = omega (arith, o.room)

    pub filled-room : length filled ≡ all_octets
    filled-room = written-length h (place_octets * p + there.held) x space ∙ o.room

    pub held_grown : held_at more filled p ≡ held_at there h p ++ x
    held_grown = part_grown h (place_octets * p) there.held x space

    pub held_else : (q : ℕ) → q ≢ p → held_at (channel_at r q) filled q ≡ held_at (channel_at r q) h q
    held_else q f =
        part_elsewhere h (place_octets * p + there.held) x space (channel_at r q).held (place_octets * q)
        (⊎_elim {C = (place_octets * q + (channel_at r q).held ≤ place_octets * p + there.held) ⊎ (place_octets * p + there.held + length x ≤ place_octets * q)}
        (λ a. inl (omega (arith, o.bounded q))) (λ a. inr (omega arith)) (apart p q f))

    pub orderly_joined : there.segmentable ≡ true → Orderly (put r p more) filled
    orderly_joined g =
        orderly-put more filled fits (λ e. never (cc)) filled-room
