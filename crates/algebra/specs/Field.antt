-- Fields of characteristic 2.
--
--   Field    a commutative field in which x + x = 0, as one record
--
-- Its laws in the form that proofs cite, and the ruleset `ring`, are in proofs/Ring.antt. Assumes nothing.
use Rattle.std.specs.Prelude.{◌≡◌, ◌≢◌}

pub record Field : Type 1 where
  pub Carrier : Type 0
  pub add : Carrier → Carrier → Carrier
  pub mul : Carrier → Carrier → Carrier
  pub nil : Carrier
  pub one : Carrier
  pub inv : Carrier → Carrier
  pub add_assoc : (a b c : Carrier) → add (add a b) c ≡ add a (add b c)
  pub add_comm : (a b : Carrier) → add a b ≡ add b a
  pub add_nil : (a : Carrier) → add a nil ≡ a
  pub add_self : (a : Carrier) → add a a ≡ nil
  pub mul_assoc : (a b c : Carrier) → mul (mul a b) c ≡ mul a (mul b c)
  pub mul_comm : (a b : Carrier) → mul a b ≡ mul b a
  pub mul_one : (a : Carrier) → mul a one ≡ a
  pub mul_add : (a b c : Carrier) → mul a (add b c) ≡ add (mul a b) (mul a c)
  pub mul_inv : (a : Carrier) → a ≢ nil → mul a (inv a) ≡ one
  pub one_ne_nil : one ≢ nil
  pub decide : (a b : Carrier) → Dec (a ≡ b)
