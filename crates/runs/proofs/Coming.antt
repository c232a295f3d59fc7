-- The oldest payload on its way comes to an end: both directions stay linked.
--
--   come_pair         it is delivered, or stays on its way
--
-- Assumes nothing.
use mathlib.Core.Path.{◌≡◌, refl, sym, subst}
use mathlib.Core.Bool.{cond}
use mathlib.Core.List.{List, ◌∷◌, ◌++◌}
use Prim.Native.Nat.{ℕ}
use native.Mathlib.Omega.{arith}
use Rattle.octets.specs.Each.{Each}
use Rattle.calls.specs.Refusal.{Ended, ended, leaving}
use Rattle.calls.proofs.Laws.{by_test}
use Rattle.multiplex.specs.Demultiplexer.{Delivery, DemuxLent, delivery, too_small, writes}
use Rattle.multiplex.specs.Units.{UnitOn}
use Rattle.multiplex.specs.Calls.{Link, Answer, finished, telling, ours, called_by}
use Rattle.multiplex.proofs.Laws.{tells_read}
use Rattle.runs.specs.Runs.{Parcel, End, lacks_room, taking, arriving}
use Rattle.runs.proofs.Same.{waiting_count, same_back, same-delivery}
use Rattle.runs.proofs.Going.{welcome}
use Rattle.runs.proofs.Linking.{Linked, linked_sender, Came, linked_come}
use Rattle.runs.proofs.Running.{Pair}

module _ {R : ℕ → ℕ → Type 0} {a b : End} (k : Pair R a b) {q : Parcel} {rest : List Parcel} (xs output units : List ℕ) (e : Each R q.octets xs)
    (back : Linked R a.link.table b.link.channels b.link.waiting b.posted (q ∷ rest) a.link.channels a.link.held a.delivered) where
  abbrev lent : DemuxLent
  lent = record { channels = a.link.channels; held = a.link.held; output = output; units = units }

  came : Came back xs
  came = linked_come back xs e

  abbrev d : Delivery
  d = delivery a.link.channels a.link.held q.mark came.went.pieces xs

  -- the end by how the call ended
  abbrev Got : Ended ℕ DemuxLent → Type 0
  Got z =
      let r : Ended Answer Link = ended (telling z.answer (λ j. finished j z.left.output z.left.units))
      (record { channels = z.left.channels; held = z.left.held; waiting = a.link.waiting; table = a.link.table }) in
      Pair R (cond (lacks_room r.answer) a (taking a rest r)) b

  delivered : Got (leaving d.count (writes d output units))
  delivered = record {
    tables = k.tables;
    unrefused = omega (arith, k.unrefused);
    unrefused₁ = k.unrefused₁;
    there = linked_sender k.there
        (same_back waiting_count (same-delivery waiting_count (λ c k. refl) a.link.channels a.link.held q.mark came.went.pieces xs));
    back = subst (λ (l : List UnitOn). Linked R a.link.table b.link.channels b.link.waiting b.posted rest d.channels d.held (a.delivered ++ l))
        (sym (tells_read d came.parallel.units output units came.parallel.tells)) came.linked;
  }

  comes : Pair R (arriving (λ j. ours) a (q ∷ rest) xs output units) b
  unfolding called_by
  comes =
      subst Got (sym (welcome lent came.welcomed)) (by_test Got (too_small d output units) (λ h. k) (λ h. delivered))

pub come_pair : {R : ℕ → ℕ → Type 0} {a b : End} → Pair R a b → (q : Parcel) (rest : List Parcel) → a.coming ≡ q ∷ rest → (xs output units : List ℕ)
    → Each R q.octets xs → Pair R (arriving (λ j. ours) a a.coming xs output units) b
come_pair {R} {a} {b} k q rest e xs output units f =
    subst (λ (l : List Parcel). Pair R (arriving (λ j. ours) a l xs output units) b) (sym e)
    (comes k xs output units f
    (subst (λ (l : List Parcel). Linked R a.link.table b.link.channels b.link.waiting b.posted l a.link.channels a.link.held a.delivered) e
    k.back))
