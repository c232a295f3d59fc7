-- The claims of specs/Claims.antt, but for `DistanceIs`, `PlacesExactly` and `PlacesCounted` (Counting.antt).
--
--   encoded_is_code_word, encoded_is_only, encoded_unique                      of encoding
--   code_words_apart, without_parity, zero_syndromes, never_second            of code words
--   reads_exactly, found_exactly, found_is_it, lost_untouched, unused_zero, repaired_unique   of the repair
--
-- Assumes nothing.
use mathlib.Core.Path.{◌≡◌, refl, sym, ap, ap₂, ◌∙◌}
use mathlib.Core.Bool.{true}
use mathlib.Core.List.{List, ◌++◌}
use Prim.Native.Nat.{ℕ, ◌+◌}
use native.Mathlib.Omega.{arith}
use Rattle.std.specs.Prelude.{Some, None}
use lib.Dec.{lit<}
use lib.ListN.{length, take, drop, length-append}
use lib.Seq.{take-take}
use Rattle.octets.specs.Tests.{never}
use Rattle.octets.specs.Written.{written, written_part, written_behind}
use Rattle.codeword.specs.Element.{octet}
use Rattle.codeword.specs.Element.Laws.{octet-element, octet-nil}
use Rattle.codeword.specs.Changed.{changed_places}
use Rattle.codeword.specs.CodeWord.{distance}
use Rattle.codeword.specs.Encoding.{encodes, Done}
use Rattle.codeword.specs.Repair.{RepairLent, filled}
use Rattle.codeword.specs.Claims.{EncodedIsCodeWord, EncodedIsOnly, CodeWordsApart, WithoutParity, ZeroSyndromes}
use Rattle.codeword.specs.Claims.{ReadsExactly, FoundExactly, FoundIsIt, NeverSecond, LostUntouched, UnusedZero, EncodedUnique, RepairedUnique}
use Rattle.codeword.proofs.Word.{places-at}
use Rattle.codeword.proofs.Counting.{places_counted}
use Rattle.codeword.proofs.Criterion.{code_word-zero, zero_code_word}
use Rattle.codeword.proofs.Distance.{code_words-apart, within_unique}
use Rattle.codeword.proofs.Systematic.{parity_code_word, code_word_begins, parity_unique, encoded-unique, encoded-is, encodes-all}
use Rattle.codeword.proofs.Repairing.{reads_true, reads_all}

-- ---- what was written at the front

front : (before s : List ℕ) → Prim.Native.Nat.◌≤◌ (length s) (length before) → take (length s) (written before 0 s) ≡ s
front before s h = written_part before 0 s (omega arith)

rest : (before s : List ℕ) (n : ℕ) → n ≡ length s → Prim.Native.Nat.◌≤◌ n (length before) → drop n (written before 0 s) ≡ drop n before
rest before s n e h = let z : n ≡ 0 + length s = omega arith in rw z (written_behind before 0 s (omega arith))

-- ---- encoding

module _ (e : ℕ) (u before after : List ℕ) (n : ℕ) (fits : encodes (length u) e (length before) ≡ true) (d : Done e u before n after) where
  n-is : n ≡ length (u ++ d.parity)
  n-is = d.count ∙ ap (λ (k : ℕ). length u + k) (sym d.right.long) ∙ sym (length-append u d.parity)

  room : Prim.Native.Nat.◌≤◌ (length (u ++ d.parity)) (length before)
  room = omega (arith, (encodes-all (length u) e (length before) fits).2, n-is, d.count)

  whole : take n after ≡ u ++ d.parity
  whole = ap₂ take n-is d.written_is ∙ front before (u ++ d.parity) room

pub encoded_is_code_word : EncodedIsCodeWord
encoded_is_code_word e u before after r o fits p =
    let done = encoded-is e u before after r fits p in
    let n = done.0 in
    let d = done.2 in
    let w = whole e u before after n fits d in
    let long = n-is e u before after n fits d in (
      n,
      done.1,
      d.count,
      rw w (parity_code_word e u d.parity o d.right),
      sym (take-take (length u) n after (omega (arith, d.count))) ∙ ap (take (length u)) w ∙ lib.Seq.take-append_seam u d.parity,
      ap (drop n) d.written_is ∙ rest before (u ++ d.parity) n long (omega (arith, long, room e u before after n fits d)),
    )

pub encoded_is_only : EncodedIsOnly
encoded_is_only e u before after r fits p =
    let done = encoded-is e u before after r fits p in
    let d = done.2 in (
      done.0,
      done.1,
      λ c l code begins. let s = code_word_begins e u c (l ∙ d.count) code begins in
          s.0 ∙ ap (λ (x : List ℕ). u ++ x) (parity_unique e u _ _ s.1 d.right) ∙ sym (whole e u before after done.0 fits d),
    )

pub encoded_unique : EncodedUnique
encoded_unique = encoded-unique

-- ---- code words

pub code_words_apart : CodeWordsApart
code_words_apart = code_words-apart

pub without_parity : WithoutParity
without_parity w o = zero_code_word 0 w (lit< tt) o (λ i m. absurd (omega arith))

pub zero_syndromes : ZeroSyndromes
zero_syndromes e w h o = (code_word-zero e w, zero_code_word e w h o)

pub never_second : NeverSecond
never_second = within_unique

-- ---- the repair

pub reads_exactly : ReadsExactly
reads_exactly n e lent = (reads_all n e lent, λ h. reads_true n e lent h.0 h.1 h.2 h.3)

pub found_exactly : FoundExactly
found_exactly e w before after (Some k) fits p = (λ t. (p.found, p.within), λ c. refl)
found_exactly e w before after None fits p = (
  (λ t. never (cc)),
  (λ c. absurd (p.none fits c.0 c.1)),
)

pub found_is_it : FoundIsIt
found_is_it e w before after changed p c h =
    let f = reads_all (length w) e before p.fits in
    let same : p.found ≡ c = within_unique e w p.found c f.0 p.within h in
    let left : after ≡ filled before c (changed_places w c) = p.filled_is ∙ ap (λ (x : List ℕ). filled before x (changed_places w x)) same in
    let many : changed ≡ distance w c = p.count ∙ ap (distance w) same in
    let number : changed ≡ length (changed_places w c) = many ∙ sym (places_counted w c h.long) in
    record {
      word = ap₂ take (sym h.long) (ap (λ (x : RepairLent). x.repair) left) ∙ front before.repair c (omega (arith, h.long));
      behind = ap (λ (x : RepairLent). drop (length w) x.repair) left ∙ rest before.repair c (length w) (sym h.long) f.2;
      places = ap₂ take number (ap (λ (x : RepairLent). x.places) left) ∙ front before.places (changed_places w c) (omega (arith, h.near));
      past = ap (λ (x : RepairLent). drop changed x.places) left ∙ rest before.places (changed_places w c) changed number (omega (arith, h.near));
      number = number;
      count = many;
    }

pub lost_untouched : LostUntouched
lost_untouched e w before after p = p.same

pub unused_zero : UnusedZero
unused_zero e w s c l sy lo o = (
  sy.unused,
  λ i h. sym (octet-element _ (o i)) ∙ ap octet (sym (places-at c i) ∙ lo.below i h) ∙ octet-nil,
)

pub repaired_unique : RepairedUnique
repaired_unique e w before (Some k) (Some j) after left p q =
    let f = reads_all (length w) e before p.fits in
    let same : p.found ≡ q.found = within_unique e w p.found q.found f.0 p.within q.within in (
      ap Some (p.count ∙ ap (distance w) same ∙ sym q.count),
      p.filled_is ∙ ap (λ (x : List ℕ). filled before x (changed_places w x)) same ∙ sym q.filled_is,
    )
repaired_unique e w before (Some k) None after left p q = absurd (q.none p.fits p.found p.within)
repaired_unique e w before None (Some j) after left p q = absurd (p.none q.fits q.found q.within)
repaired_unique e w before None None after left p q = (refl, p.same ∙ sym q.same)
