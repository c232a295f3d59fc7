-- The list of finished units, read one at a time.
--
--   unit-there    unit j of a list that has it
--   list_read     unit j, as it is read, is unit j of those that the list tells of
--
-- Assumes nothing.
use mathlib.Core.Path.{◌≡◌, sym, ap, ◌∙◌}
use mathlib.Core.List.{List}
use Prim.Native.Nat.{ℕ, zero, suc, ◌+◌, ◌*◌, ◌/◌, ◌≤◌}
use native.Mathlib.Omega.{arith}
use borrow.Author.Tests.{lt-leb}
use lib.ListN.{length, get_or, drop, length-drop}
use lib.Seq.{get_or-drop}
use Rattle.std.specs.Prelude.{Some}
use Rattle.multiplex.specs.Units.{unit_at, unit_in, units_in}
use Rattle.multiplex.specs.Claims.{ListRead}

pub unit-there : (l : List ℕ) (j : ℕ) → 3 * j + 3 ≤ length l
    → unit_at l j ≡ Some (record { channel = record { 0 = get_or l (3 * j) 0 }; start = get_or l (3 * j + 1) 0; length = get_or l (3 * j + 2) 0 })
unfolding unit_at
unit-there l j h = rw (lt-leb (length l / 3) j (omega arith))

unit-later : (l : List ℕ) (j : ℕ) → 3 * suc j + 3 ≤ length l → unit_at (drop 3 l) j ≡ unit_at l (suc j)
unit-later l j h =
    let a : 3 + 3 * j ≡ 3 * suc j = omega arith in
    let b : 3 + (3 * j + 1) ≡ 3 * suc j + 1 = omega arith in
    let c : 3 + (3 * j + 2) ≡ 3 * suc j + 2 = omega arith in
    unit-there (drop 3 l) j (rw (length-drop 3 l) (omega arith))
    ∙ rw (get_or-drop 3 l (3 * j) 0, get_or-drop 3 l (3 * j + 1) 0, get_or-drop 3 l (3 * j + 2) 0, a, b, c) (sym (unit-there l (suc j) h))

pub list_read : ListRead
unfolding units_in
list_read output units zero j d h r = absurd (omega arith)
list_read output units (suc k) zero d h r = ap (unit_in output) (sym (unit-there units 0 (omega arith)))
list_read output units (suc k) (suc j) d h r =
    list_read output (drop 3 units) k j d (omega arith) (rw (length-drop 3 units) (omega arith)) ∙ ap (unit_in output) (unit-later units j (omega arith))
