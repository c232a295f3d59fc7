-- Which flag stands at the front, by its octets.
--
--   rest-whole        all that is behind a place, up to the end
--   is_plain, is-complemented, is-neither   what the two tests tell
--   nothing_there     behind the end stands neither
--   rest_is           what is taken from a place up to the end
--   standing          both, by which the code looks for a flag
--
-- Assumes nothing.
use mathlib.Core.Path.{◌≡◌, refl, ◌∙◌}
use mathlib.Core.Bool.{true, false}
use mathlib.Core.List.{List, []}
use Prim.Native.Nat.{ℕ, ◌-◌, ◌<◌, ◌≤◌}
use native.Mathlib.Omega.{arith}
use lib.ListN.{length, take, drop, length-drop, drop_of_length-le}
use lib.Seq.{take_all}
use Rattle.packets.specs.Flag.{is_flag, flag_in}
use Rattle.packets.specs.declared.flags.Flag.TheVariants.{Plain, Complemented}
use Rattle.std.specs.Prelude.{Some, None, slice_range}

pub rest-whole : (k : ℕ) (u : List ℕ) → take (length u - k) (drop k u) ≡ drop k u
rest-whole k u = take_all (length u - k) (drop k u) (rw length-drop (omega arith))

module _ (u : List ℕ) where
  pub is_plain : is_flag false u ≡ true → flag_in u ≡ Some Plain
  unfolding flag_in
  is_plain h = rw h

  pub is-complemented : is_flag false u ≡ false → is_flag true u ≡ true → flag_in u ≡ Some Complemented
  unfolding flag_in
  is-complemented h k = rw (h, k)

  pub is-neither : is_flag false u ≡ false → is_flag true u ≡ false → flag_in u ≡ None
  unfolding flag_in
  is-neither h k = rw (h, k)

pub nothing_there : (k : ℕ) (u : List ℕ) → length u < k → flag_in (drop k u) ≡ None
nothing_there k u h = let l : length u ≤ k = omega arith in rw (drop_of_length-le u l) (is-neither [] refl refl)

pub rest_is : (k : ℕ) (u v : List ℕ) → v ≡ slice_range u k (length u) → v ≡ drop k u
rest_is k u v e = e ∙ rest-whole k u

pub ruleset standing = (nothing_there, rest_is)
