-- What is claimed of encoding and repair, over every word and every setting; proofs/Counting.antt proves `DistanceIs`, `PlacesExactly` and
-- `PlacesCounted`, and proofs/Theorems.antt each other claim. `encodes` holds exactly of messages of at least one octet that have with their
-- parity at most `longest_word`, where there is room.
--
--   is_found r            whether a repair's answer is that it found a code word
--   DistanceIs           the distance of two words is the number of octets in which they differ
--   PlacesExactly        numbers are the changed places of two words of one length exactly if they list, ascending, every place at which the
--                        words differ and no other, the first octet being at place 0
--   PlacesCounted        there are as many of them as octets in which the words differ
--   EncodedIsCodeWord    encoding gives a code word that begins with the message
--   EncodedIsOnly        .. and the only one of its length that does
--   CodeWordsApart       two code words of one length that differ in at most 2e octets are equal
--   WithoutParity        with e = 0 every word of octets is a code word
--   ZeroSyndromes        a word is a code word exactly when the values of its polynomial at α, α², .., α^2e are zero
--   ReadsExactly         a repair is tried exactly of a word of at most 255 octets and more than 2e, with room for it and for e places
--   FoundExactly         a repair finds a code word exactly when one of that length differs from the word in at most e octets
--   RepairShows w c before k after   after a repair of w the code word c, and the places at which it differs from w, stand at the front of what was
--                        lent, the rest is as it was, and k is the number of those places and of the octets that differ
--   FoundIsIt            .. what is found is that code word: it, its places and their number are shown
--   NeverSecond          .. and there is never a second one
--   LostUntouched        where it finds none, the lent octets and the lent list are as they came
--   UnusedZero           the syndromes past 2e are zero, and so are the locator's coefficients past its length
--   EncodedUnique        any two answers that encoding's promise allows are equal, lent octets included
--   RepairedUnique       any two answers that the repair's promise allows are equal, lent octets and lent list included
--
-- Assumes nothing.
use Rattle.std.specs.Prelude.{◌≡◌, ◌≢◌, ◌↔◌, Bool, true, false, Option, Some, None, List, [], ◌∷◌, ℕ, suc, ◌+◌, ◌*◌, ◌≤◌, ◌<◌, length, get_or, take, drop}
use Rattle.algebra.specs.Lists.{Lists}
use Rattle.algebra.specs.Power.{pow}
use Rattle.field.specs.Octet.{order}
use Rattle.codeword.specs.Element.{elements, α}
use Rattle.codeword.specs.Changed.{changed_places}
use Rattle.codeword.specs.CodeWord.{longest_word, Octets, CodeWord, distance, Within}
use Rattle.codeword.specs.Places.{value}
use Rattle.codeword.specs.Syndromes.{SyndromesAre}
use Rattle.codeword.specs.Locator.{LocatorIs}
use Rattle.codeword.specs.Encoding.{encodes, Encoded}
use Rattle.codeword.specs.Repair.{RepairLent, reads, Repaired}

abbrev pub is_found : Option ℕ → Bool
is_found (Some changed) = true
is_found None = false

abbrev pub DistanceIs : Type 0
DistanceIs =
    (a b : ℕ) (v w : List ℕ)
    → (distance [] [] ≡ 0) × (distance (a ∷ v) (a ∷ w) ≡ distance v w) × ((a ≡ b → ⊥) → distance (a ∷ v) (b ∷ w) ≡ 1 + distance v w)

abbrev pub PlacesExactly : Type 0
PlacesExactly =
    (w c l : List ℕ) → length c ≡ length w
    → l ≡ changed_places w c ↔ Lists (length w) (length l) (λ p. get_or w p 0 ≢ get_or c p 0) (λ j. get_or l j 0)

abbrev pub PlacesCounted : Type 0
PlacesCounted = (w c : List ℕ) → length c ≡ length w → length (changed_places w c) ≡ distance w c

abbrev pub EncodedIsCodeWord : Type 0
EncodedIsCodeWord =
    (e : ℕ) (u before after : List ℕ) (r : Option ℕ) → Octets u → encodes (length u) e (length before) ≡ true → Encoded e u before r after
    → (n : ℕ) × (r ≡ Some n) × (n ≡ length u + 2 * e) × CodeWord e (take n after) × (take (length u) after ≡ u) × (drop n after ≡ drop n before)

abbrev pub EncodedIsOnly : Type 0
EncodedIsOnly =
    (e : ℕ) (u before after : List ℕ) (r : Option ℕ) → encodes (length u) e (length before) ≡ true → Encoded e u before r after
    → (n : ℕ) × (r ≡ Some n) × ((c : List ℕ) → length c ≡ n → CodeWord e c → take (length u) c ≡ u → c ≡ take n after)

abbrev pub CodeWordsApart : Type 0
CodeWordsApart = (e : ℕ) (v w : List ℕ) → length v ≡ length w → length v ≤ longest_word → CodeWord e v → CodeWord e w → distance v w ≤ 2 * e → v ≡ w

abbrev pub WithoutParity : Type 0
WithoutParity = (w : List ℕ) → Octets w → CodeWord 0 w

abbrev pub ZeroSyndromes : Type 0
ZeroSyndromes = (e : ℕ) (w : List ℕ) → 2 * e < order → Octets w → CodeWord e w ↔ ((i : ℕ) → i < 2 * e → value w (pow elements α (suc i)) ≡ elements.nil)

abbrev pub ReadsExactly : Type 0
ReadsExactly =
    (n e : ℕ) (lent : RepairLent)
    → reads n e lent ≡ true ↔ ((n ≤ 255) × (2 * e < n) × (n ≤ length lent.repair) × (e ≤ length lent.places))

abbrev pub FoundExactly : Type 0
FoundExactly =
    (e : ℕ) (w : List ℕ) (before after : RepairLent) (r : Option ℕ) → reads (length w) e before ≡ true → Repaired e w before r after
    → is_found r ≡ true ↔ ((c : List ℕ) × Within e w c)

pub record RepairShows (w c : List ℕ) (before : RepairLent) (changed : ℕ) (after : RepairLent) : Type 0 where
  pub word : take (length w) after.repair ≡ c
  pub behind : drop (length w) after.repair ≡ drop (length w) before.repair
  pub places : take changed after.places ≡ changed_places w c
  pub past : drop changed after.places ≡ drop changed before.places
  -- "the changed count is the number of places"
  pub number : changed ≡ length (changed_places w c)
  pub count : changed ≡ distance w c

abbrev pub FoundIsIt : Type 0
FoundIsIt =
    (e : ℕ) (w : List ℕ) (before after : RepairLent) (changed : ℕ) → Repaired e w before (Some changed) after
    → (c : List ℕ) → Within e w c → RepairShows w c before changed after

abbrev pub NeverSecond : Type 0
NeverSecond = (e : ℕ) (w c d : List ℕ) → length w ≤ longest_word → Within e w c → Within e w d → c ≡ d

abbrev pub LostUntouched : Type 0
LostUntouched = (e : ℕ) (w : List ℕ) (before after : RepairLent) → Repaired e w before None after → after ≡ before

-- "have room for 255 coefficients, zero where unused"
abbrev pub UnusedZero : Type 0
UnusedZero =
    (e : ℕ) (w s c : List ℕ) (l : ℕ) → SyndromesAre (2 * e) w s → LocatorIs (2 * e) s c l → Octets c
    → ((i : ℕ) → 2 * e ≤ i → get_or s i 0 ≡ 0) × ((i : ℕ) → l < i → get_or c i 0 ≡ 0)

abbrev pub EncodedUnique : Type 0
EncodedUnique =
    (e : ℕ) (u before : List ℕ) (r q : Option ℕ) (after left : List ℕ) → Encoded e u before r after → Encoded e u before q left → (r ≡ q) × (after ≡ left)

abbrev pub RepairedUnique : Type 0
RepairedUnique =
    (e : ℕ) (w : List ℕ) (before : RepairLent) (r q : Option ℕ) (after left : RepairLent)
    → Repaired e w before r after → Repaired e w before q left → (r ≡ q) × (after ≡ left)
