-- Wrong receivers, set against AL1M's promise (document 01, "How firmly the answers stand"): none of them keeps it, and some receiver
-- does. What they do with numbers that are no octets is nobody's business: word and what is lent are octets throughout. What is over
-- sequences of calls, a demultiplexer that serves the first payload and afterwards moves no octet, one that refuses everything, and a
-- multiplexer that refuses everything or never sends, stands in the claims of `runs`; a library that refuses every call of one operation, in
-- specs/Refusers.antt.
--
--   Receiver        anything that answers a received word, and leaves something of what it was lent for the repair
--   OfWords P       P holds of every width, e, word of octets, and octets and list of octets that are lent
--   Keeps R         every answer of R is one that receiving's promise allows
--   SomeKeeps       there is a receiver that does; proofs/Kept.antt proves it
--   Always R P      P holds of every unit that R hands up
--   RefusesAll      it refuses everything
--   FindsNothing    it finds nothing ever
--   SameUnit        it hands up the same unit always
--   SaysClean       it copies the word and says clean
--   Somewhere R P   P does not hold, for some word that R hands up and the code word within reach of it
--   Miscounts       its changed count is not the number of differing octets, for some such word
--   Misplaces       it does not list the places of the differing octets, for some such word
--   Wrong           none of these keeps the promise; proofs/Refuted.antt proves it
--
-- Assumes nothing.
use Rattle.std.specs.Prelude.{◌≡◌, List, ℕ, take, Result, Ok, Err}
use Rattle.octets.specs.Written.{written}
use Rattle.calls.specs.declared.Refusal.{Refusal}
use Rattle.codeword.specs.Changed.{changed_places}
use Rattle.codeword.specs.CodeWord.{Octets, distance, Within}
use Rattle.adaptation.specs.Receiving.{RepairLent, Receives, handed_unit}
use Rattle.adaptation.specs.declared.Badge.TheVariants.{Clean, OutOfReach}
use Rattle.adaptation.specs.declared.al1m.Judgement.{Judgement}

pub record Receiver : Type 0 where
  pub answer : (width e : ℕ) → (word : List ℕ) → (lent : RepairLent) → Result Judgement Refusal
  pub leaves : (width e : ℕ) → (word : List ℕ) → (lent : RepairLent) → RepairLent

abbrev pub OfWords : ((width e : ℕ) → (word : List ℕ) → (lent : RepairLent) → Type 0) → Type 0
OfWords P = (b e : ℕ) (w : List ℕ) (before : RepairLent) → Octets w → Octets before.repair → Octets before.places → P b e w before

abbrev pub Keeps : Receiver → Type 0
Keeps R = OfWords (λ b e w before. Receives b e w before (R.answer b e w before) (R.leaves b e w before))

abbrev pub SomeKeeps : Type 0
SomeKeeps = (R : Receiver) × Keeps R

-- P holds of every unit that R hands up
abbrev pub Always : Receiver → ((word : List ℕ) → (lent after : RepairLent) → Judgement → Type 0) → Type 0
Always R P = OfWords (λ b e w before. (j : Judgement) → R.answer b e w before ≡ Ok j → P w before (R.leaves b e w before) j)

abbrev pub RefusesAll : Receiver → Type 0
RefusesAll R = OfWords (λ b e w before. (r : Refusal) × (R.answer b e w before ≡ Err r))

abbrev pub FindsNothing : Receiver → Type 0
FindsNothing R = Always R (λ w before after j. j.badge ≡ OutOfReach)

abbrev pub SameUnit : Receiver → Type 0
SameUnit R = (u : List ℕ) × Always R (λ w before after j. handed_unit j.badge w after.repair j.length ≡ u)

abbrev pub SaysClean : Receiver → Type 0
SaysClean R = Always R (λ w before after j. (j.badge ≡ Clean) × (after.repair ≡ written before.repair 0 w))

pub record Somewhere (R : Receiver) (P : (word found : List ℕ) → (after : RepairLent) → Judgement → Type 0) : Type 0 where
  pub width : ℕ
  pub e : ℕ
  pub word : List ℕ
  pub lent : RepairLent
  pub word_octets : Octets word
  pub lent_octets : Octets lent.repair
  pub list_octets : Octets lent.places
  pub found : List ℕ
  pub told : Judgement
  pub answers : R.answer width e word lent ≡ Ok told
  pub within : Within e word found
  pub differs : P word found (R.leaves width e word lent) told → ⊥

abbrev pub Miscounts : Receiver → Type 0
Miscounts R = Somewhere R (λ w c after j. j.changed ≡ distance w c)

abbrev pub Misplaces : Receiver → Type 0
Misplaces R = Somewhere R (λ w c after j. take (distance w c) after.places ≡ changed_places w c)

pub record Wrong : Type 0 where
  pub refuses_all : (R : Receiver) → Keeps R → RefusesAll R → ⊥
  pub finds_nothing : (R : Receiver) → Keeps R → FindsNothing R → ⊥
  pub same_unit : (R : Receiver) → Keeps R → SameUnit R → ⊥
  pub says_clean : (R : Receiver) → Keeps R → SaysClean R → ⊥
  pub miscounts : (R : Receiver) → Keeps R → Miscounts R → ⊥
  pub misplaces : (R : Receiver) → Keeps R → Misplaces R → ⊥
