-- The face of this crate to others: the laws that they cite, passed on from the files that prove them. No other file of these
-- proofs is imported from outside.
--
--   the field       ring, for `simp ring`; ⊕-comm, ⊕-𝟘, ⊕_self, ⊕-cancel, ⊙-comm, ⊙-assoc, ⊙-𝟘, ⊙-𝟙, ⊙_inv; eq_of-sum, sum_of-eq
--   series          the clauses of their operations: tl-⊞, ⊞-at, ⊡-at, none-at, unit-zero, unit-suc; unit-⊛, mixed-⊛ of a product;
--                   below_more of degrees
--   values          ev_zero, ev-⊞ of the operations; ev-monomial; ev_more, ev_local: which coefficients are read; ev-snoc, ev_rows: the
--                   last coefficient, and all of them in rows; ev_added: a coefficient added to; terms-zero, terms-suc
--   powers          pow-zero, pow-suc, pow-add, pow_times, pow-pow, rising-at
--   power sums      psum-zero, psum-suc, psum-⊞
--   polynomials     polynomial-none, polynomial-cons, polynomial-at, polynomial-append, polynomial-same of a list; raised-zero,
--                   raised-suc, raised-none, raised-⊛, raised-low, raised_high, raised_local, polynomial-raised of x^n f; below-polynomial of degrees
--   roots           rooted-top, below-rooted of (x - X₀) .. (x - Xₘ₋₁); divides-root, roots_divide: what it divides; quo-next, below-quo: its quotients;
--                   geometric_down, geometric_symmetric: its coefficients, where the Xᵢ are α, α², ..
--   interpolation   total-zero, total-suc, total-same, total_more of sums; part-is, part_value, part-ne of the parts;
--                   interpolated-at, interpolated-remainder of a sum of them
--   remainders      divides_nothing, divides-lowered, with ⊞_self; remainder_unique; the claims of specs/Remainder.antt: remainder_only, division_leaves
--   long division   sum-length, remainder-length, remainder-raised, remainder-sum, polynomial-zeros; register-length, register-none, register_more, register-zeros
--   loops           from_zero, horner of Horner's rule
--   derivative      odds-at, deriv-odds
--   weight          weight-zero, weight-suc; left-ne: a factor of 1 is not zero; light-is-none: the distance of the code
--   Massey's loop   scaled_start, scaled_below, scaled-zero, scaled_keep, scaled_grow
--   lists           lists-none, front, lists-skip, lists-take, lists_as, lists-same of rising lists of places
--   the repair      least-weight, scaled_complete, scaled-divisor, scaled_sound, scaled_lists
--
-- Assumes nothing.
pub use Rattle.algebra.proofs.Ring.{ring, ⊕-comm, ⊕-𝟘, ⊕_self, ⊕-cancel, ⊙-comm, ⊙-assoc, ⊙-𝟘, ⊙-𝟙, ⊙_inv, eq_of-sum, sum_of-eq}
pub use Rattle.algebra.proofs.Product.{tl-⊞, ⊞-at, ⊡-at, none-at, unit-zero, unit-suc}
pub use Rattle.algebra.proofs.Product.{unit-⊛, mixed-⊛, below_more}
pub use Rattle.algebra.proofs.Value.{ev_zero, ev-⊞, ev-monomial, ev_more, ev_local}
pub use Rattle.algebra.proofs.Rows.{ev-snoc, ev_rows, ev_added, terms-zero, terms-suc}
pub use Rattle.algebra.proofs.Powers.{pow-zero, pow-suc, pow-add, pow_times, pow-pow, rising-at}
pub use Rattle.algebra.proofs.PowerSum.{psum-zero, psum-suc}
pub use Rattle.algebra.proofs.Polynomial.{polynomial-none, polynomial-cons, polynomial-at, polynomial-append}
pub use Rattle.algebra.proofs.Polynomial.{polynomial-same, raised-zero, raised-suc, raised-none}
pub use Rattle.algebra.proofs.Polynomial.{raised-⊛, raised-low, raised_high, raised_local, below-polynomial}
pub use Rattle.algebra.proofs.Remainder.{remainder_unique}
pub use Rattle.algebra.proofs.Roots.{rooted-top, below-rooted, divides-root, roots_divide, quo-next, below-quo}
pub use Rattle.algebra.proofs.Geometric.{geometric_down, geometric_symmetric}
pub use Rattle.algebra.proofs.Interpolation.{total-zero, total-suc, total-same, total_more, part-is, part_value, part-ne}
pub use Rattle.algebra.proofs.Interpolation.{interpolated-at, interpolated-remainder}
pub use Rattle.algebra.proofs.Division.{sum-length, ⊞_self, divides_nothing, divides-lowered, remainder-length, polynomial-zeros, polynomial-raised}
pub use Rattle.algebra.proofs.Theorems.{remainder_only, division_leaves}
pub use Rattle.algebra.proofs.Register.{remainder-raised, remainder-sum, register-length, register-none, register_more, register-zeros}
pub use Rattle.algebra.proofs.Loop.{from_zero, horner}
pub use Rattle.algebra.proofs.Derivative.{odds-at, deriv-odds}
unfoldable pub use Rattle.algebra.proofs.Listing.{front}
pub use Rattle.algebra.proofs.Listing.{lists-none, lists-skip, lists-take, lists_as, lists-same}
pub use Rattle.algebra.proofs.Support.{weight-zero, weight-suc}
pub use Rattle.algebra.proofs.Locator.{left-ne}
pub use Rattle.algebra.proofs.Distance.{psum-⊞, light-is-none}
pub use Rattle.algebra.proofs.Repair.{least-weight}
pub use Rattle.algebra.proofs.Scaled.{scaled_start, scaled_below, scaled-zero, scaled_keep, scaled_grow, scaled_complete, scaled-divisor, scaled_sound, scaled_lists}
