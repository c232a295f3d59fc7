-- What writing refuses and leaves, and that it is read again.
--
--   of_writing       when each refusal is given
--   write_answered   what is left where none is
--   read_back        what was written is read
--
-- Assumes nothing.
use mathlib.Core.Path.{◌≡◌, refl, sym, ap}
use mathlib.Core.Logic.{◌⊎◌, inl, inr}
use mathlib.Core.Bool.{Bool, true, false}
use mathlib.Core.List.{List, [], ◌∷◌}
use Prim.Native.Nat.{ℕ, ◌+◌, ◌≤◌}
use native.Mathlib.Omega.{arith}
use borrow.Author.Tests.{ltb-false}
use lib.Dec.{ltb}
use lib.ListN.{length}
use Rattle.octets.specs.Exact.{chain, both_of, less, not-less}
use Rattle.octets.specs.Tests.{never}
use Rattle.octets.specs.Written.{written, written_front, written_behind, written-length}
use Rattle.calls.specs.Refusal.{refused, Ended, leaving, refusing, ◌when◌, refusal}
use Rattle.calls.proofs.Laws.{told-refused, leaving-same, by_tests, given_exactly}
use Rattle.packets.specs.Header.{header_of}
use Rattle.packets.specs.Packet.{packet_of, write_tests, wrote}
use Rattle.packets.specs.Claims.{OfWriting, WriteAnswered, ReadBack}
use Rattle.packets.proofs.Refusals.{wrote-refuses}
use Rattle.packets.proofs.Parts.{payload-at, packet-length}
use Rattle.packets.proofs.Carrying.{own_near, packet-read}

numbers : (s t r : Bool) (k : ℕ) → refusal (4 when s ∷ 2 when t ∷ 3 when r ∷ []) ≡ refused k → (k ≡ 4) ⊎ ((k ≡ 2) ⊎ (k ≡ 3))
numbers true t r k e = inl (cc)
numbers false true r k e = inr (inl (cc))
numbers false false true k e = inr (inr (cc))
numbers false false false k e = never (cc)

module _ (o : Bool) (c : ℕ) (m : Bool) (xs before : List ℕ) where
  pub of_writing : OfWriting o c m xs before
  of_writing =
      let tests = write_tests c xs (length before) in
      let by = wrote-refuses o c m xs before in
      record {
        write4 = chain (by.exactly 4) (chain (given_exactly 4 tests refl) (less 15 c));
        write2 = chain (by.exactly 2) (chain (given_exactly 2 tests refl) (both_of (not-less 15 c) (less 254 (length xs))));
        write3 =
            chain (by.exactly 3)
            (chain (given_exactly 3 tests refl) (both_of (not-less 15 c) (both_of (not-less 254 (length xs)) (less (length before) (length xs + 7)))));
        others = λ k e. (numbers (ltb 15 c) (ltb 254 (length xs)) (ltb (length before) (length xs + 7)) k ((by.exactly k).0 e), by.leaves k e);
      }

-- what an answered call was handed, and what it leaves
record Answered (o : Bool) (c : ℕ) (m : Bool) (xs before after : List ℕ) (n : ℕ) : Type 0 where
  code : c ≤ 15
  short : length xs ≤ 254
  room : length xs + 7 ≤ length before
  octets : n ≡ length xs + 7
  laid : after ≡ written before 0 (packet_of o c m xs)

answered_is : (o : Bool) (c : ℕ) (m : Bool) (xs before after : List ℕ) (n : ℕ) → wrote o c m xs before ≡ leaving n after → Answered o c m xs before after n
unfolding wrote
answered_is o c m xs before after n =
    by_tests (λ (r : Ended ℕ (List ℕ)). r ≡ leaving n after → Answered o c m xs before after n) (refusing before) (write_tests c xs (length before))
    (leaving (length xs + 7) (written before 0 (packet_of o c m xs)))
    (λ k e. told-refused (ap (λ (r : Ended ℕ (List ℕ)). r.answer) e) refl)
    (λ none e.
    let same = leaving-same (length xs + 7) n (written before 0 (packet_of o c m xs)) after e in
    record {
      code = ltb-false 15 c none.0;
      short = ltb-false 254 (length xs) none.1.0;
      room = ltb-false (length before) (length xs + 7) none.1.1.0;
      octets = sym same.0;
      laid = sym same.1;
    })

pub write_answered : WriteAnswered
write_answered o c m xs before after n e =
    let a = answered_is o c m xs before after n e in
    let p = packet_of o c m xs in
    let long = packet-length o c m xs in
    let fits : 0 + length p ≤ length before = omega arith in
    let front : n ≡ length p = omega arith in
    let behind : n ≡ 0 + length p = omega arith in (
      a.octets,
      rw (a.laid, front) (written_front before p (omega arith)),
      rw (a.laid, behind) (written_behind before 0 p fits),
      rw a.laid (written-length before 0 p fits),
    )

pub read_back : ReadBack
read_back o c m xs before after rest n e =
    let a = answered_is o c m xs before after n e in
    let w = write_answered o c m xs before after n e in
    rw w.1 (
      packet-read o (header_of c (length xs)) xs m rest c refl a.code a.short (own_near (header_of c (length xs))),
      payload-at o (header_of c (length xs)) refl m xs rest,
    )
