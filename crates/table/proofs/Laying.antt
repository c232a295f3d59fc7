-- Laying slots down, one list behind another.
--
--   lays_empty, lays-none, lays_one   no slots; any, where no octet is left; and one slot
--   kept-channels, kept_lengths   both lists keep their lengths
--   room_after                there is still room once slots were laid
--   lays-both                 two lists of slots laid one behind the other are both laid
--   lays_first                .. and so they are where the first laid nothing and has no slot only if the second has none
--   Under                     what a loop keeps: when the rest has been laid, all has
--   under_way, under_turn     at its start, and after a turn
--   under_done, under_idle    all is laid when nothing is left to lay; and when a turn laid nothing
--   Onward, onward_turn, onward_done, onward_idle   .. and the lists are the same two throughout
--
-- Assumes nothing.
use mathlib.Core.Path.{◌≡◌, refl, sym, ap, ap₂, ◌∙◌}
use mathlib.Core.List.{List, [], ◌∷◌, ◌++◌, map, map-append, append_assoc, append-nil}
use Prim.Native.Nat.{ℕ, zero, suc, ◌+◌, ◌-◌, ◌≤◌, ◌<◌, min}
use native.Mathlib.Numerals.{add-one}
use native.Mathlib.Omega.{arith}
use borrow.Author.Tests.{ne_eqb}
use lib.ListN.{length, set, take, drop, length-append, length-map}
use lib.Seq.{set_split}
use Rattle.octets.specs.Written.{written, written_nothing, written-length, written-append}
use Rattle.table.specs.declared.walk.Laid.{Laid}
use Rattle.table.specs.declared.walk.Laying.{Laying}
use Rattle.table.specs.Slots.{Slot, cut, octets_of}
use Rattle.table.proofs.Apart.{cut-none}
use Rattle.table.proofs.Cutting.{Filled, filled-length, cut-append, cut_octets, cut_most, cut_filled, cut_fits, octets-append}
use Rattle.table.specs.Lays.{Room, Lays, LaysOn}

lays_nothing : (from : Laid) (c l : List ℕ) → Lays from [] from c l c l
unfolding octets_of
lays_nothing from c l = record {
  count = omega arith;
  left = omega arith;
  channels = sym (written_nothing c from.count);
  lengths = sym (written_nothing l from.count);
}

pub lays_empty : (from : Laid) (x : List Slot) (c l : List ℕ) → x ≡ [] → Lays from (cut from.left x) from c l c l
unfolding cut
lays_empty from x c l e = rw e (lays_nothing from c l)

set-written : (d : List ℕ) (k v : ℕ) → k < length d → set d k v ≡ written d k (v ∷ [])
set-written d k v h =
    set_split d k v h ∙ sym (append_assoc (take k d) (v ∷ []) (drop (k + 1) d) ∙ ap (λ (n : ℕ). take k d ++ v ∷ drop n d) (add-one k))

pub lays-none : (from : Laid) (x : List Slot) (c l : List ℕ) → from.left ≡ 0 → Lays from (cut from.left x) from c l c l
lays-none from x c l e = let z : cut from.left x ≡ [] = ap (λ (n : ℕ). cut n x) e ∙ cut-none x in rw z (lays_nothing from c l)

pub lays_one : (from to : Laid) (x : Slot) (v : ℕ) (c l : List ℕ) → Room from c l → (from.left ≡ 0 → ⊥) → v ≡ min x.octets from.left
    → to.count ≡ from.count + 1 → to.left ≡ from.left - x.octets
    → Lays from (cut from.left (x ∷ [])) to c l (set c from.count x.channel) (set l from.count v)
unfolding cut octets_of
lays_one from to x v c l room some e k h =
    rw (ne_eqb from.left 0 some, e) (record {
      count = k;
      left = omega arith;
      channels = set-written c from.count x.channel (omega (arith, room.for_channels));
      lengths = set-written l from.count (min x.octets from.left) (omega (arith, room.for_lengths));
    })

-- slots of which a cut leaves no octet are none, or none was asked for
empty_filled : (x : List Slot) → Filled x → octets_of x ≡ 0 → x ≡ []
unfolding Filled octets_of
empty_filled [] p e = refl
empty_filled (s ∷ x) p e = absurd (omega (arith, p.0))

same-cut : (n : ℕ) (x y : List Slot) → Filled x → (x ≡ [] → y ≡ []) → octets_of (cut n x) ≡ 0 → cut n (x ++ y) ≡ cut n x
same-cut zero x y p h e = cut-none (x ++ y) ∙ sym (cut-none x)
same-cut (suc n) x y p h e =
    let z = empty_filled x p (omega (arith, cut_octets (suc n) x)) in
    rw (h z, append-nil)

module _ (from mid : Laid) (x : List Slot) (c l c₁ l₁ : List ℕ) (full : Filled x) (room : Room from c l)
    (first : Lays from (cut from.left x) mid c l c₁ l₁) where
  fits : (f : Slot → ℕ) (d : List ℕ) → from.count + from.left ≤ length d → from.count + length (map f (cut from.left x)) ≤ length d
  fits f d h = omega (arith, length-map (cut from.left x) f, cut_fits from.left x full)

  fewer : mid.count + mid.left ≤ from.count + from.left
  fewer = omega (arith, first.count, first.left, filled-length (cut from.left x) (cut_filled from.left x full), cut_most from.left x)

  pub kept-channels : length c₁ ≡ length c
  kept-channels =
      ap length first.channels ∙ written-length c from.count (map (λ (x : Slot). x.channel) (cut from.left x))
      (fits (λ (x : Slot). x.channel) c room.for_channels)

  pub kept_lengths : length l₁ ≡ length l
  kept_lengths =
      ap length first.lengths ∙ written-length l from.count (map (λ (x : Slot). x.octets) (cut from.left x))
      (fits (λ (x : Slot). x.octets) l room.for_lengths)

  pub room_after : Room mid c₁ l₁
  room_after = record {
    for_channels = omega (arith, fewer, room.for_channels, kept-channels);
    for_lengths = omega (arith, fewer, room.for_lengths, kept_lengths);
  }

  -- what is written behind the first slots
  behind : (f : Slot → ℕ) (d d₁ d₂ : List ℕ) (b : List Slot) → from.count + from.left ≤ length d
      → d₁ ≡ written d from.count (map f (cut from.left x)) → d₂ ≡ written d₁ mid.count (map f b)
      → d₂ ≡ written d from.count (map f (cut from.left x ++ b))
  behind f d d₁ d₂ b h p q =
      let a = cut from.left x in
      let e : mid.count ≡ from.count + length (map f a) = first.count ∙ ap (λ (n : ℕ). from.count + n) (sym (length-map a f)) in
      q ∙ ap₂ (λ (u : List ℕ) (n : ℕ). written u n (map f b)) p e ∙ written-append d from.count (map f a) (fits f d h) (map f b)
      ∙ ap (written d from.count) (sym (map-append f a b))

  pub lays-both : (to : Laid) (y : List Slot) (c₂ l₂ : List ℕ) → Lays mid (cut mid.left y) to c₁ l₁ c₂ l₂
      → Lays from (cut from.left (x ++ y)) to c l c₂ l₂
  lays-both to y c₂ l₂ second =
      let a = cut from.left x in
      let b = cut mid.left y in
      let e : cut from.left (x ++ y) ≡ a ++ b = cut-append from.left x y ∙ ap (λ (n : ℕ). a ++ cut n y) (sym first.left) in
      rw e (record {
        count = omega (arith, first.count, second.count, length-append a b);
        left = omega (arith, first.left, second.left, octets-append a b);
        channels = behind (λ (x : Slot). x.channel) c c₁ c₂ b room.for_channels first.channels second.channels;
        lengths = behind (λ (x : Slot). x.octets) l l₁ l₂ b room.for_lengths first.lengths second.lengths;
      })

  pub lays_first : (y : List Slot) → (x ≡ [] → y ≡ []) → mid.left ≡ from.left → Lays from (cut from.left (x ++ y)) mid c l c₁ l₁
  lays_first y h e = rw (same-cut from.left x y full h (omega (arith, first.left, cut_most from.left x))) first

-- ---- loops

pub record Under (from : Laid) (all : List Slot) (c₀ l₀ : List ℕ) (laid : Laid) (rest : List Slot) (c l : List ℕ) : Type 0 where
  pub room : Room laid c l
  pub for_channels : length c ≡ length c₀
  pub for_lengths : length l ≡ length l₀
  pub remains : (to : Laid) (c₂ l₂ : List ℕ) → Lays laid (cut laid.left rest) to c l c₂ l₂ → Lays from (cut from.left all) to c₀ l₀ c₂ l₂

pub under_way : (from : Laid) (all rest : List Slot) (c l : List ℕ) → Room from c l → rest ≡ all → Under from all c l from rest c l
under_way from all rest c l room e =
    rw e (record { room = room; for_channels = refl; for_lengths = refl; remains = λ to c₂ l₂ h. h })

module _ {from : Laid} {all : List Slot} {c₀ l₀ : List ℕ} {laid : Laid} {rest : List Slot} {c l : List ℕ} (u : Under from all c₀ l₀ laid rest c l) where
  pub under_done : rest ≡ [] → Lays from (cut from.left all) laid c₀ l₀ c l
  under_done e = u.remains laid c l (lays_empty laid rest c l e)

  module _ (x y : List Slot) (full : Filled x) {next : Laid} {c₁ l₁ : List ℕ} (turn : Lays laid (cut laid.left x) next c l c₁ l₁) (e : rest ≡ x ++ y) where
    pub under_turn : Under from all c₀ l₀ next y c₁ l₁
    under_turn = record {
      room = room_after laid next x c l c₁ l₁ full u.room turn;
      for_channels = kept-channels laid next x c l c₁ l₁ full u.room turn ∙ u.for_channels;
      for_lengths = kept_lengths laid next x c l c₁ l₁ full u.room turn ∙ u.for_lengths;
      remains = λ to c₂ l₂ h. u.remains to c₂ l₂ (rw e (lays-both laid next x c l c₁ l₁ full u.room turn to y c₂ l₂ h));
    }

    pub under_idle : (x ≡ [] → y ≡ []) → next.left ≡ laid.left → Lays from (cut from.left all) next c₀ l₀ c₁ l₁
    under_idle h d = u.remains next c₁ l₁ (rw e (lays_first laid next x c l c₁ l₁ full u.room turn y h d))

-- ---- .. into what is laid down so far

pub record Onward (from : Laying) (all : List Slot) (laid : Laying) (rest : List Slot) : Type 0 where
  pub under : Under from.laid all from.channels.now from.lengths.now laid.laid rest laid.channels.now laid.lengths.now
  pub same_channels : laid.channels.ghost_name ≡ from.channels.ghost_name
  pub same_lengths : laid.lengths.ghost_name ≡ from.lengths.ghost_name

module _ {from : Laying} {all : List Slot} {laid : Laying} {rest : List Slot} (u : Onward from all laid rest) where
  pub onward_done : rest ≡ [] → LaysOn from (cut from.laid.left all) laid
  onward_done e = record { lays = under_done u.under e; same_channels = u.same_channels; same_lengths = u.same_lengths }

  module _ (x y : List Slot) (full : Filled x) {next : Laying} (turn : LaysOn laid (cut laid.laid.left x) next) (e : rest ≡ x ++ y) where
    pub onward_turn : Onward from all next y
    onward_turn = record {
      under = under_turn u.under x y full turn.lays e;
      same_channels = turn.same_channels ∙ u.same_channels;
      same_lengths = turn.same_lengths ∙ u.same_lengths;
    }

    pub onward_idle : (x ≡ [] → y ≡ []) → next.laid.left ≡ laid.laid.left → LaysOn from (cut from.laid.left all) next
    onward_idle h d = record {
      lays = under_idle u.under x y full turn.lays e h d;
      same_channels = turn.same_channels ∙ u.same_channels;
      same_lengths = turn.same_lengths ∙ u.same_lengths;
    }
