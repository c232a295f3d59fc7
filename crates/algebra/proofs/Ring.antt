-- The laws of a field of characteristic 2, and what follows from them.
--
--   ⊕-assoc, ⊕-comm, ⊕_left, ⊕-𝟘, 𝟘-⊕    the sum: associative, commutative, with zero
--   ⊕_self, ⊕-cancel                       each element is its own negative
--   ⊙-assoc, ⊙-comm, ⊙_left, ⊙-𝟙, 𝟙-⊙    the product: associative, commutative, with one
--   ⊙-𝟘, 𝟘-⊙, ⊙-⊕, ⊕-⊙                   zero, and distributive
--   eq_of-sum, sum_of-eq, sum-ne           a + b = 0 says a = b
--   ⊙_inv                                  inverses
--   factor, mul-ne, ⊙-cancel               no divisors of zero
--   ring                                   for `simp ring`, which sorts both sides of an equation: with a + a = 0 it brings any
--                                          two equal sums of products to one form
--
-- Assumes nothing.
use mathlib.Core.Path.{◌≡◌, sym, ◌∙◌, ap, ◌≡⟨◌⟩◌, ◌∎}
use mathlib.Core.Logic.{◌≢◌}
use Rattle.algebra.specs.Field.{Field}

module _ (𝓕 : Field) where
  infixl 60 ◌⊕◌
  infixl 70 ◌⊙◌
  open 𝓕 use {Carrier as F, add as ◌⊕◌, mul as ◌⊙◌, nil as 𝟘, one as 𝟙, inv}

  pub ⊕-assoc : (a b c : F) → a ⊕ b ⊕ c ≡ a ⊕ (b ⊕ c)
  ⊕-assoc = 𝓕.add_assoc

  pub ⊕-comm : (a b : F) → a ⊕ b ≡ b ⊕ a
  ⊕-comm = 𝓕.add_comm

  pub ⊕-𝟘 : (a : F) → a ⊕ 𝟘 ≡ a
  ⊕-𝟘 = 𝓕.add_nil

  pub ⊕_self : (a : F) → a ⊕ a ≡ 𝟘
  ⊕_self = 𝓕.add_self

  pub ⊙-assoc : (a b c : F) → a ⊙ b ⊙ c ≡ a ⊙ (b ⊙ c)
  ⊙-assoc = 𝓕.mul_assoc

  pub ⊙-comm : (a b : F) → a ⊙ b ≡ b ⊙ a
  ⊙-comm = 𝓕.mul_comm

  pub ⊙-𝟙 : (a : F) → a ⊙ 𝟙 ≡ a
  ⊙-𝟙 = 𝓕.mul_one

  pub ⊙-⊕ : (a b c : F) → a ⊙ (b ⊕ c) ≡ a ⊙ b ⊕ a ⊙ c
  ⊙-⊕ = 𝓕.mul_add

  pub ⊙_inv : (a : F) → a ≢ 𝟘 → a ⊙ inv a ≡ 𝟙
  ⊙_inv = 𝓕.mul_inv

  pub 𝟘-⊕ : (a : F) → 𝟘 ⊕ a ≡ a
  𝟘-⊕ a = ⊕-comm 𝟘 a ∙ ⊕-𝟘 a

  pub ⊕_left : (a b c : F) → a ⊕ (b ⊕ c) ≡ b ⊕ (a ⊕ c)
  ⊕_left a b c = sym (⊕-assoc a b c) ∙ ap (λ x. x ⊕ c) (⊕-comm a b) ∙ ⊕-assoc b a c

  pub ⊕-cancel : (a b : F) → a ⊕ (a ⊕ b) ≡ b
  ⊕-cancel a b = rw (← ⊕-assoc a a b, ⊕_self, 𝟘-⊕)

  pub 𝟙-⊙ : (a : F) → 𝟙 ⊙ a ≡ a
  𝟙-⊙ a = ⊙-comm 𝟙 a ∙ ⊙-𝟙 a

  pub ⊙_left : (a b c : F) → a ⊙ (b ⊙ c) ≡ b ⊙ (a ⊙ c)
  ⊙_left a b c = sym (⊙-assoc a b c) ∙ ap (λ x. x ⊙ c) (⊙-comm a b) ∙ ⊙-assoc b a c

  pub ⊕-⊙ : (a b c : F) → (a ⊕ b) ⊙ c ≡ a ⊙ c ⊕ b ⊙ c
  ⊕-⊙ a b c = rw (⊙-comm (a ⊕ b) c, ⊙-⊕, ⊙-comm c a, ⊙-comm c b)

  pub ⊙-𝟘 : (a : F) → a ⊙ 𝟘 ≡ 𝟘
  ⊙-𝟘 a = sym (⊕-cancel (a ⊙ 𝟘) (a ⊙ 𝟘)) ∙ ap (λ x. a ⊙ 𝟘 ⊕ x) (sym (⊙-⊕ a 𝟘 𝟘) ∙ ap (λ x. a ⊙ x) (⊕-𝟘 𝟘)) ∙ ⊕_self (a ⊙ 𝟘)

  pub 𝟘-⊙ : (a : F) → 𝟘 ⊙ a ≡ 𝟘
  𝟘-⊙ a = ⊙-comm 𝟘 a ∙ ⊙-𝟘 a

  -- a ⊕ b ≡ 𝟘 says a ≡ b
  pub eq_of-sum : (a b : F) → a ⊕ b ≡ 𝟘 → a ≡ b
  eq_of-sum a b h = sym (⊕-𝟘 a) ∙ ap (λ x. a ⊕ x) (sym h) ∙ ⊕-cancel a b

  pub sum_of-eq : (a b : F) → a ≡ b → a ⊕ b ≡ 𝟘
  sum_of-eq a b h = rw h (⊕_self b)

  pub sum-ne : (a b : F) → a ≢ b → a ⊕ b ≢ 𝟘
  sum-ne a b h e = h (eq_of-sum a b e)

  -- a field has no divisors of zero
  pub factor : (a b : F) → a ≢ 𝟘 → a ⊙ b ≡ 𝟘 → b ≡ 𝟘
  factor a b h e =
      b ≡⟨ sym (𝟙-⊙ b) ⟩
      𝟙 ⊙ b ≡⟨ ap (λ x. x ⊙ b) (sym (⊙_inv a h) ∙ ⊙-comm a (inv a)) ⟩
      inv a ⊙ a ⊙ b ≡⟨ ⊙-assoc (inv a) a b ⟩
      inv a ⊙ (a ⊙ b) ≡⟨ ap (λ x. inv a ⊙ x) e ⟩
      inv a ⊙ 𝟘 ≡⟨ ⊙-𝟘 (inv a) ⟩
      𝟘 ∎

  pub mul-ne : (a b : F) → a ≢ 𝟘 → b ≢ 𝟘 → a ⊙ b ≢ 𝟘
  mul-ne a b h k e = k (factor a b h e)

  pub ⊙-cancel : (a b c : F) → a ≢ 𝟘 → a ⊙ b ≡ a ⊙ c → b ≡ c
  ⊙-cancel a b c h e = eq_of-sum b c (factor a (b ⊕ c) h (⊙-⊕ a b c ∙ sum_of-eq _ _ e))

pub ruleset ring = (⊕-assoc, ⊕-comm, ⊕_left, ⊕-𝟘, 𝟘-⊕, ⊕_self, ⊕-cancel, ⊙-assoc, ⊙-comm, ⊙_left, ⊙-𝟙, 𝟙-⊙, ⊙-𝟘, 𝟘-⊙, ⊙-⊕, ⊕-⊙)
