-- The matrix of B.3.2.1.3, and the polynomial that the clause names beside it.
--
--   row p1 .. p12   a row of the matrix as a number: the bit printed first is its bit 1
--   matrix          the rows in the order and in the print of 000 (002 prints the same, and so does C.4.1.5.4 for the control field)
--   polynomial      G = 1 + X^2 + X^4 + X^5 + X^6 + X^10 + X^11, as a number: the coefficient of X^i is its bit i + 1
--
-- One row worked through: the first, 1 0 1 0 1 1 1 0 0 0 1 1, has ones at P1, P3, P5, P6, P7, P11 and P12: 1 + 4 + 16 + 32 + 64 + 1024 + 2048 = 3189.
--
-- Assumes nothing.
use Rattle.std.specs.Prelude.{List, [], ◌∷◌, ℕ, ◌+◌, ◌*◌, ◌^◌}

abbrev pub row : (p1 p2 p3 p4 p5 p6 p7 p8 p9 p10 p11 p12 : ℕ) → ℕ
row p1 p2 p3 p4 p5 p6 p7 p8 p9 p10 p11 p12 =
    p1 + 2 * (p2 + 2 * (p3 + 2 * (p4 + 2 * (p5 + 2 * (p6 + 2 * (p7 + 2 * (p8 + 2 * (p9 + 2 * (p10 + 2 * (p11 + 2 * p12))))))))))

unfoldable pub matrix : List ℕ
matrix =
    row 1 0 1 0 1 1 1 0 0 0 1 1
    ∷ row 1 1 1 1 1 0 0 1 0 0 1 0
    ∷ row 1 1 0 1 0 0 1 0 1 0 1 1
    ∷ row 1 1 0 0 0 1 1 1 0 1 1 0
    ∷ row 1 1 0 0 1 1 0 1 1 0 0 1
    ∷ row 0 1 1 0 0 1 1 0 1 1 0 1
    ∷ row 0 0 1 1 0 0 1 1 0 1 1 1
    ∷ row 1 0 1 1 0 1 1 1 1 0 0 0
    ∷ row 0 1 0 1 1 0 1 1 1 1 0 0
    ∷ row 0 0 1 0 1 1 0 1 1 1 1 0
    ∷ row 1 0 1 1 1 0 0 0 1 1 0 1
    ∷ row 0 1 0 1 1 1 0 0 0 1 1 1
    ∷ []

abbrev pub polynomial : ℕ
polynomial = 2 ^ 0 + 2 ^ 2 + 2 ^ 4 + 2 ^ 5 + 2 ^ 6 + 2 ^ 10 + 2 ^ 11
