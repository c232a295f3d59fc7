-- The closing mark: where it is right, the place whose unit it ends, and what it makes of a tally and of what is shown.
--
--   marked_right    no refusal 7: the mark is right, and the place is the last piece's, where it is set
--   marked_wrong    .. and else it is wrong
--   some_marked, none_marked   whether the mark is set, by the place
--
-- Assumes nothing.
use mathlib.Core.Path.{◌≡◌, refl, sym, ◌∙◌}
use mathlib.Core.List.{List}
use mathlib.Core.Bool.{Bool, true, false, cond, not, ◌&&◌, and-false}
use Prim.Native.Nat.{ℕ}
use borrow.Author.Tests.{lt-ltb}
use lib.Dec.{ltb}
use lib.ListN.{length}
use Rattle.std.specs.Prelude.{Option, Some, None, Result, Ok, Err}
use Rattle.octets.specs.Tests.{never}
use Rattle.calls.specs.declared.Refusal.{Refusal}
use Rattle.calls.specs.declared.Refusal.TheVariants.{BadMark}
use Rattle.channels.specs.declared.Channels.{Channels}
use Rattle.channels.specs.Channels.{channel_at, place_count}
use Rattle.channels.proofs.Laws.{segmentable-place}
use Rattle.multiplex.specs.Pieces.{laid, last_place}
use Rattle.multiplex.specs.Tally.{marked}
use Rattle.multiplex.proofs.Closing.{last-laid}

pub some_marked : (q p : ℕ) (m : Bool) → cond m (Some q) None ≡ Some p → (m ≡ true) × (p ≡ q)
some_marked q p true e = (refl, cc)
some_marked q p false e = never cc

pub none_marked : (q : ℕ) (m : Bool) → cond m (Some q) None ≡ None → m ≡ false
none_marked q true e = never cc
none_marked q false e = refl

module _ (s : Channels) (mark : Bool) (ps ls : List ℕ) (same : length ps ≡ length ls) (full : length s.at ≡ place_count) where
  abbrev q : ℕ
  q = last_place (laid ps ls)

  abbrev wrong : Bool
  wrong = mark && not (channel_at s q).segmentable

  abbrev answer : Bool → Bool → Result (Option ℕ) Refusal
  answer m g = cond m (cond g (Ok (Some q)) (Err BadMark)) (Ok None)

  good : (ltb q place_count && (channel_at s q).segmentable) ≡ (channel_at s q).segmentable
  good = by (channel_at s q).segmentable refl
    where
      by : (g : Bool) → (channel_at s q).segmentable ≡ g → (ltb q place_count && g) ≡ g
      by true e = rw (lt-ltb q place_count (segmentable-place s q full e)) refl
      by false e = and-false (ltb q place_count)

  marked-is : marked s mark ps ≡ answer mark (channel_at s q).segmentable
  marked-is = rw (← last-laid ps ls same, good) refl

  right : (m g : Bool) (o : Option ℕ) → answer m g ≡ Ok o → ((m && not g) ≡ false) × (o ≡ cond m (Some q) None)
  right true true o e = (refl, cc)
  right true false o e = never cc
  right false g o e = (refl, cc)

  pub marked_right : (o : Option ℕ) → marked s mark ps ≡ Ok o → (wrong ≡ false) × (o ≡ cond mark (Some q) None)
  marked_right o e = right mark (channel_at s q).segmentable o (sym marked-is ∙ e)

  bad : (m g : Bool) (r : Refusal) → answer m g ≡ Err r → ((m && not g) ≡ true) × (r ≡ BadMark)
  bad true true r e = never cc
  bad true false r e = (refl, cc)
  bad false g r e = never cc

  pub marked_wrong : (r : Refusal) → marked s mark ps ≡ Err r → (wrong ≡ true) × (r ≡ BadMark)
  marked_wrong r e = bad mark (channel_at s q).segmentable r (sym marked-is ∙ e)
