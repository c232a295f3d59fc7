-- How programs print octets and numbers, as text in ASCII.
--
--   hex           an octet's two digits, the upper case ones of 16
--   octets_text   octets in hex, one behind another; `-` for none
--   list_text     numbers in decimal, parted by commas; `-` for none
--   no_word       why the system gives no word
--   reason        why there is no word, in Linux's words
use Rattle.std.specs.Prelude.{ℕ, true, ◌/◌, ◌%◌, List, [], ◌∷◌, ◌++◌}
use Rattle.std.specs.Fmt.{digit_glyph, decimal}
use Rattle.std.specs.List.{flat_map}
use Rattle.std.specs.declared.env.FillError.{FillError}
use Rattle.std.specs.declared.env.FillError.TheVariants as unfilled
use Rattle.print.specs.declared.words.NoWord.{NoWord}
use Rattle.print.specs.declared.words.NoWord.TheVariants.{Missing, TooLong, NotText}
use lib.Chars.{codes}

abbrev pub hex : ℕ → List ℕ
hex n = digit_glyph true (n / 16) ∷ digit_glyph true (n % 16) ∷ []

abbrev pub octets_text : List ℕ → List ℕ
octets_text [] = 45 ∷ []
octets_text (n ∷ s) = flat_map hex (n ∷ s)

abbrev pub list_text : List ℕ → List ℕ
list_text [] = 45 ∷ []
list_text (n ∷ s) = decimal n ++ flat_map (λ m. 44 ∷ decimal m) s

abbrev pub no_word : FillError → NoWord
no_word unfilled.NotPresent = Missing
no_word unfilled.TooLong = TooLong

abbrev pub reason : NoWord → List ℕ
reason Missing = codes "Invalid argument"
reason TooLong = codes "File name too long"
reason NotText = codes "Invalid or incomplete multibyte or wide character"
