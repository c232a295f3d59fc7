-- The laws of the field, as they are handed upward beside those of α and the inverse (`proofs/Laws.antt`) and the table (`Octet.Table`). `sum` and `product`
-- obey the laws of a commutative ring at all numbers; a law that holds of octets only says so.
--
--   sum       sum_octet, sum_low, sum-assoc, sum_comm, sum_left-comm, sum_swap, sum-zero, sum_self;
--             sum_xor: it is exclusive or
--   product   product_octet, product_low, product-assoc, product-comm, product-sum, sum-product, product-zero, zero-product,
--             product_one, one_product
--   inverse   inverse_octet, inverse-zero
--   power     power_octet, power_zero, power-suc, power-add, power-mul, one_power
--
-- Assumes nothing.
pub use Rattle.field.specs.Octet.Sum.{sum_xor, sum_octet, sum_low, sum-assoc, sum_comm, sum_left-comm, sum_swap, sum-zero, sum_self}
pub use Rattle.field.specs.Octet.Product.{product_octet, product_low, sum-product, product-sum}
pub use Rattle.field.specs.Octet.Ring.{product-comm, product-assoc, product-zero, zero-product, one_product, product_one}
pub use Rattle.field.specs.Octet.Power.{power_zero, power-suc, power_octet, power-add, power-mul, one_power}
pub use Rattle.field.specs.Octet.Inverse.{inverse_octet, inverse-zero}
