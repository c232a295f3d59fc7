-- The field of two elements, over which the checks divide ("módulo 2": 000, 7.3.3.2.3).
--
--   plus a b   a + b: 1 + 1 = 0
--   𝔹          the field; its product is "and"
--
-- plus_assoc, plus_comm, plus_nil, plus_self, and-plus and and-inverse are its laws, case by case.
-- Assumes nothing.
use Rattle.std.specs.Prelude.{Bool, true, false, not, ◌&&◌, ◌≢◌, ◌≡◌, refl}
use Rattle.std.proofs.Common.{true≢false}
use Rattle.std.proofs.Math.Bool.{Bool-discrete, and_assoc, and_comm, and-true}
use Rattle.algebra.specs.Field.{Field}

abbrev pub plus : Bool → Bool → Bool
plus true b = not b
plus false b = b

pub plus_assoc : (a b c : Bool) → plus (plus a b) c ≡ plus a (plus b c)
plus_assoc true true true = refl
plus_assoc true true false = refl
plus_assoc true false c = refl
plus_assoc false b c = refl

pub plus_comm : (a b : Bool) → plus a b ≡ plus b a
plus_comm true true = refl
plus_comm true false = refl
plus_comm false true = refl
plus_comm false false = refl

pub plus_nil : (a : Bool) → plus a false ≡ a
plus_nil true = refl
plus_nil false = refl

pub plus_self : (a : Bool) → plus a a ≡ false
plus_self true = refl
plus_self false = refl

pub and-plus : (a b c : Bool) → (a && plus b c) ≡ plus (a && b) (a && c)
and-plus true b c = refl
and-plus false b c = refl

pub and-inverse : (a : Bool) → a ≢ false → (a && a) ≡ true
and-inverse true h = refl
and-inverse false h = absurd (h refl)

abbrev pub 𝔹 : Field
𝔹 = record {
  Carrier = Bool;
  add = plus;
  mul = ◌&&◌;
  nil = false;
  one = true;
  inv = λ a. a;
  add_assoc = plus_assoc;
  add_comm = plus_comm;
  add_nil = plus_nil;
  add_self = plus_self;
  mul_assoc = and_assoc;
  mul_comm = and_comm;
  mul_one = and-true;
  mul_add = and-plus;
  mul_inv = and-inverse;
  one_ne_nil = true≢false;
  decide = Bool-discrete;
}
