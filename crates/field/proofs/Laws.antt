-- The face of this crate to others, beside `specs/Octet/Laws.antt`: the laws that hang on which element α is, passed on from the files that
-- prove them.
--
--   α            powers_distinct, powers-all, power_wrap, alpha-around
--   the inverse  product-inverse, which is told from α's powers
--   the claims   product_is, product_only, inverse_only, by `specs/Octet/Exactly.antt`
--
-- Assumes nothing.
pub use Rattle.field.proofs.Octet.Order.{alpha-around, powers_distinct, powers-all}
pub use Rattle.field.proofs.Octet.Inverse.{power_wrap, product-inverse}
pub use Rattle.field.proofs.Octet.Exactly.{product_is, product_only, inverse_only}
