-- What reading and writing refuse, and how large what they tell is.
--
--   read-refuses      reading refuses by its tests, in their order
--   wrote-refuses     .. and so does writing, which then leaves what was lent
--   read-told-small   a code of at most 15, and a length of at most 254
--   write-small       a packet of at most 261 octets
--
-- Assumes nothing.
use mathlib.Core.Path.{◌≡◌, refl}
use mathlib.Core.Bool.{Bool}
use mathlib.Core.List.{List}
use Prim.Native.Nat.{ℕ, ◌+◌, ◌≤◌}
use native.Mathlib.Omega.{arith}
use borrow.Author.Tests.{ltb-false}
use lib.ListN.{length}
use Rattle.octets.specs.Written.{written}
use Rattle.calls.specs.Refusal.{Told, refused, told, Ended, ended, leaving, refusing, Refuses}
use Rattle.calls.proofs.Laws.{told-refused, told_same, by_tests, checked_refuses, told_refuses}
use Rattle.packets.specs.Packet.{packet_of, write_tests, wrote, Heading, heading, is_mark, code_in, length_in, closing_in, read_tests, read}

pub read-refuses : (u : List ℕ) → Refuses {X = Unit {0}} (ended (read u) tt) (read_tests u) tt
unfolding read
read-refuses u = told_refuses (read_tests u) (heading (code_in u) (is_mark (closing_in u)) (length_in u))

pub read-told-small : (u : List ℕ) (p : Heading) → read u ≡ told p → (p.code ≤ 15) × (p.length ≤ 254)
unfolding read
read-told-small u p =
    by_tests (λ (r : Told Heading). r ≡ told p → (p.code ≤ 15) × (p.length ≤ 254)) refused (read_tests u)
    (told (heading (code_in u) (is_mark (closing_in u)) (length_in u))) (λ k e. told-refused e refl)
    (λ none e. rw (← told_same _ _ e) (omega arith, ltb-false 254 (length_in u) none.1.1.1.0))

module _ (o : Bool) (c : ℕ) (m : Bool) (xs before : List ℕ) where
  pub wrote-refuses : Refuses (wrote o c m xs before) (write_tests c xs (length before)) before
  unfolding wrote
  wrote-refuses = checked_refuses before (write_tests c xs (length before)) (length xs + 7) (written before 0 (packet_of o c m xs))

  pub write-small : (n : ℕ) → (wrote o c m xs before).answer ≡ told n → n ≤ 261
  unfolding wrote
  write-small n =
      by_tests (λ (r : Ended ℕ (List ℕ)). r.answer ≡ told n → n ≤ 261) (refusing before) (write_tests c xs (length before))
      (leaving (length xs + 7) (written before 0 (packet_of o c m xs))) (λ k e. told-refused e refl)
      (λ none e. rw (← told_same _ _ e) (omega (arith, ltb-false 254 (length xs) none.1.0)))
