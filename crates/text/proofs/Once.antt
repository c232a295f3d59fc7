-- Any two answers are equal, since each promise is an equation on the answer and one on what is left.
--
--   decoded_once    of decoding a text
--   given_once      .. and a word
--
-- Assumes nothing.
use mathlib.Core.Path.{sym, ◌∙◌}
use Rattle.text.specs.Claims.{DecodedUnique, GivenUnique}

pub decoded_once : DecodedUnique
decoded_once s out after left r q d e = (d.answer ∙ sym e.answer, d.stands ∙ sym e.stands)

pub given_once : GivenUnique
given_once s to out after left r q at place d e = (d.answer ∙ sym e.answer, d.place ∙ sym e.place, d.stands ∙ sym e.stands)
