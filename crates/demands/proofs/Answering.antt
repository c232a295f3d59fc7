-- Whatever keeps the refusals of an operation answers a call of it: for each there is a call that nothing refuses.
--
--   answered            a call that no test refuses is not refused
--   refusers_fail        nothing that keeps the refusals of an operation refuses every call of it
--   some_keeps_refusals   the definitions keep them
--   encoders_fail        nothing that keeps those of AL1M's sending refuses every unit
--
-- Assumes nothing.
use mathlib.Core.Path.{◌≡◌, refl}
use mathlib.Core.Bool.{true, false}
use mathlib.Core.List.{List, [], ◌∷◌}
use Prim.Native.Nat.{ℕ}
use lib.ListN.{length, replicate, length-replicate}
use Rattle.calls.specs.Refusal.{refused, told, Ended, Test, refusal, Refuses}
use Rattle.calls.proofs.Laws.{told-refused}
use Rattle.codeword.specs.CodeWord.{Octets}
use Rattle.checks.specs.Bits.{octets_of}
use Rattle.checks.specs.Check.{check_of, none, eight}
use Rattle.checks.specs.Width.{width_of}
use Rattle.adaptation.specs.AL1M.{is_setting, is_sendable}
use Rattle.adaptation.specs.Sending.{encode_tests}
use Rattle.table.specs.Entry.{size, all_elements, depth, is_list, is_entry_tree, element_numbers}
use Rattle.table.specs.Cursor.{many, head_at, element_at, skip}
use Rattle.table.specs.Form.{in_turn, element_as, list_as, tree_of, is_entry}
use Rattle.table.specs.Slots as slots
use Rattle.table.specs.Table.{entry_of, is_defined}
use Rattle.channels.specs.Search.{first}
use Rattle.channels.specs.Channels.{all_octets, start, place_of, free_place, all_open, opened, posted}
use Rattle.multiplex.specs.Pieces.{placed, total}
use Rattle.multiplex.specs.Demultiplexer.{fits, took_all, delivery}
use Rattle.multiplex.specs.Multiplexer.{walked}
use Rattle.multiplex.specs.Calls.{Link, Call, called, called_by, tests_of, led, begun}
use Rattle.multiplex.specs.Calls as calls
use Rattle.multiplex.proofs.Laws.{calls_refuse}
use Rattle.demands.specs.Refusers.{Operation, operation_of, RefusersFail, SomeKeepsRefusals, EncodersFail}
use Rattle.demands.specs.Refusers as operation
use Rattle.demands.proofs.Vectors.{octets-by}

pub answered : {A X : Type 0} (d : Ended A X) (l : List Test) (x : X) → Refuses d l x → refusal l ≡ told tt → (k : ℕ) × (d.answer ≡ refused k) → ⊥
answered d l x r unrefused (k, e) = told-refused unrefused ((r.exactly k).0 e)

-- ---- an end's calls

blank : List ℕ
blank = replicate all_octets 0

blank-length : length blank ≡ all_octets
unfolding blank
blank-length = length-replicate {A = ℕ} all_octets 0

-- the state at first, and that after these calls
abbrev after : List Call → Link
after cs = led (begun blank blank) cs

-- a call that nothing refuses in the state that others lead to
record Asked (o : Operation) : Type 0 where
  before : List Call
  call : Call
  is : operation_of call ≡ o
  unrefused : refusal (tests_of (after before) call) ≡ told tt

-- channel 0 is open at first, and 1 is not
asked : (o : Operation) → Asked o
unfolding led called_by start first place_of free_place all_open opened posted is_entry size all_elements depth is_list is_entry_tree
    element_numbers many head_at element_at skip in_turn element_as list_as tree_of entry_of is_defined slots.payload_slots slots.cut slots.slots slots.octets_of placed total fits took_all delivery walked octets_of
    check_of eight
asked operation.opening = record { before = []; call = calls.opening 1 true; is = refl; unrefused = refl }
asked operation.closing = record { before = calls.opening 1 true ∷ []; call = calls.closing 1; is = refl; unrefused = refl }
asked operation.resetting = record { before = []; call = calls.resetting 0; is = refl; unrefused = refl }
asked operation.posting = record { before = []; call = calls.posting 0 (1 ∷ []); is = refl; unrefused = refl }
asked operation.replacing = record { before = []; call = calls.replacing 1 (1 ∷ 1 ∷ 0 ∷ 0 ∷ []); is = refl; unrefused = refl }
asked operation.demultiplexing = record { before = []; call = calls.demultiplexing 0 false (1 ∷ []) [] []; is = refl; unrefused = refl }
asked operation.multiplexing =
    record { before = calls.posting 0 (1 ∷ []) ∷ []; call = calls.multiplexing 0 1 (0 ∷ []); is = refl; unrefused = refl }
asked operation.sending = record { before = []; call = calls.sending 0 false (1 ∷ []) (0 ∷ 0 ∷ []); is = refl; unrefused = refl }
asked operation.taking = record { before = []; call = calls.taking 0 false (1 ∷ 0 ∷ []); is = refl; unrefused = refl }

pub refusers_fail : RefusersFail
refusers_fail o L keeps refuses =
    let a = asked o in
    answered _ _ _ (keeps blank blank blank-length blank-length a.before a.call a.is) a.unrefused
    (refuses blank blank blank-length blank-length a.before a.call a.is)

pub some_keeps_refusals : SomeKeepsRefusals
some_keeps_refusals = (called, λ o h w p q cs c e. calls_refuse (led (begun h w) cs) c)

-- ---- AL1M's sending

one : Octets (1 ∷ [])
one = octets-by (1 ∷ []) tt

sendable : refusal (encode_tests 1 0 0 1) ≡ told tt
unfolding is_setting is_sendable width_of none
sendable = refl

pub encoders_fail : EncodersFail
encoders_fail E keeps refuses =
    answered _ _ _ (keeps 0 0 (1 ∷ []) (1 ∷ []) one one) sendable (refuses 0 0 (1 ∷ []) (1 ∷ []) one one)
