-- Which octets of a word were changed (document 02, ticket 2).
--
--   changed_places w c   the places at which two words of one length differ, ascending, from 0 at the first octet
--
-- Assumes nothing.
use Rattle.std.specs.Prelude.{cond, List, [], ◌∷◌, map, ℕ, suc, eqb}

-- the first octet, if it differs, and the places of the others, each one further on
unfoldable pub changed_places : List ℕ → List ℕ → List ℕ
changed_places [] c = []
changed_places (a ∷ w) [] = []
changed_places (a ∷ w) (b ∷ c) = cond (eqb a b) (map suc (changed_places w c)) (0 ∷ map suc (changed_places w c))
