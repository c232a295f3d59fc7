-- What the loop of the multiplexer's walk keeps, and what its steps make of it.
--
--   before ps r   the walk r behind the pieces ps
--   given         the slots that stand at the front of two lists
--   Walking       at slot j: the pieces before it stand in the lists, and the walk from it on is still to come
--   begun         at the first slot
--   ended         where the walk stops behind the last slot
--   closed        not every channel that it reaches is open, where that before it is not
--   blocked       .. where nothing can be sent
--   goes          one piece more
--   last          .. and where that is the last
--
-- Assumes nothing.
use mathlib.Core.Path.{◌≡◌, refl, sym, ap, subst, ◌∙◌}
use mathlib.Core.Bool.{true, false}
use mathlib.Core.List.{List, [], ◌∷◌, ◌++◌, append_assoc, append-nil}
use Prim.Native.Nat.{ℕ, ◌+◌, ◌*◌, ◌≤◌, ◌<◌}
use native.Mathlib.Numerals.{add-one}
use native.Mathlib.Omega.{arith}
use lib.ListN.{length, take, drop, get_or, set, length-set}
use lib.Seq.{length-take-le, take-suc-set, get_or-take, get_or-set_other}
use Rattle.table.specs.Table.{longest_payload}
use Rattle.table.specs.Slots.{Slot}
use Rattle.channels.specs.declared.Channels.{Channels}
use Rattle.multiplex.specs.declared.multiplexer.Turn.{Turn}
use Rattle.multiplex.specs.declared.multiplexer.Turn.TheVariants.{Stop, On, Last}
use Rattle.channels.specs.Channels.{place_of, channel_at, place_count, place_octets}
use Rattle.multiplex.specs.Pieces.{piece, paired, Piece, laid, total}
use Rattle.multiplex.specs.Multiplexer.{left, Walk, stopped, walked}
use Rattle.multiplex.specs.Walks.{turned, slotted, WalkIs}
use Rattle.multiplex.proofs.Slotting.{paired_at, paired-end, paired-next, total-append}
use Rattle.multiplex.proofs.Walking.{turn_on, by_turn, walked-closed, walked_open}

abbrev pub before : List Piece → Walk → Walk
before ps r = record { pieces = ps ++ r.pieces; mark = r.mark; all_open = r.all_open; channels = r.channels }

abbrev pub given : ℕ → List ℕ → List ℕ → List Slot
given n ns ls = slotted (take n ns) (take n ls)

pub record Walking (n : ℕ) (ns₀ ls₀ : List ℕ) (s₀ : Channels) (ns ls : List ℕ) (s : Channels) (octets j : ℕ) : Type 0 where
  pub within : j ≤ n
  pub most : octets ≤ place_octets * j
  pub numbers : length ns ≡ length ns₀
  pub lengths : length ls ≡ length ls₀
  pub later_numbers : (i : ℕ) → j ≤ i → get_or ns i 0 ≡ get_or ns₀ i 0
  pub later_lengths : (i : ℕ) → j ≤ i → get_or ls i 0 ≡ get_or ls₀ i 0
  pub counted : octets ≡ total (laid (take j ns) (take j ls))
  pub walk : walked s₀ (given n ns₀ ls₀) ≡ before (laid (take j ns) (take j ls)) (walked s (drop j (given n ns₀ ls₀)))

pub begun : (n : ℕ) (ns ls : List ℕ) (s : Channels) → Walking n ns ls s ns ls s 0 0
unfolding paired total
begun n ns ls s = record {
  within = omega arith;
  most = omega arith;
  numbers = refl;
  lengths = refl;
  later_numbers = λ i h. refl;
  later_lengths = λ i h. refl;
  counted = refl;
  walk = refl;
}

module _ (n : ℕ) (ns₀ ls₀ : List ℕ) (s₀ : Channels) (ns ls : List ℕ) (s : Channels) (octets j : ℕ)
    (fits : (n ≤ longest_payload) × (n ≤ length ns₀) × (n ≤ length ls₀)) (w : Walking n ns₀ ls₀ s₀ ns ls s octets j) where
  abbrev all : List Slot
  all = given n ns₀ ls₀

  abbrev so_far : List Piece
  so_far = laid (take j ns) (take j ls)

  stops : walked s (drop j all) ≡ stopped s true
      → WalkIs (walked s₀ all) (record { count = j; octets = octets; mark = false; channels = s }) ns ls
  stops e =
      let whole = w.walk ∙ ap (before so_far) e in
      let pieces = sym (ap (λ (r : Walk). r.pieces) whole ∙ append-nil so_far) in
      record {
        within = omega (arith, w.within);
        pieces = pieces;
        octets = w.counted ∙ ap total pieces;
        mark = sym (ap (λ (r : Walk). r.mark) whole);
        all_open = sym (ap (λ (r : Walk). r.all_open) whole);
        channels = sym (ap (λ (r : Walk). r.channels) whole);
      }

  pub ended : n ≤ j → WalkIs (walked s₀ all) (record { count = n; octets = octets; mark = false; channels = s }) ns ls
  unfolding walked
  ended h =
      let m : length (take n ns₀) ≤ j = rw (length-take-le n ns₀ (omega arith)) h in
      let e : j ≡ n = omega (arith, w.within) in
      subst (λ (k : ℕ). WalkIs (walked s₀ all) (record { count = k; octets = octets; mark = false; channels = s }) ns ls) e
      (stops (ap (walked s) (paired-end _ (take n ns₀) (take n ls₀) j m)))

  module _ (h : j < n) (p : ℕ) (e : p ≡ place_of s (get_or ns j 0)) where
    here : Slot
    here = record { channel = get_or ns j 0; octets = get_or ls j 0 }

    at : drop j all ≡ here ∷ drop (j + 1) all
    unfolding here
    at =
        let a : j < length (take n ns₀) = rw (length-take-le n ns₀ (omega arith)) h in
        let b : j < length (take n ls₀) = rw (length-take-le n ls₀ (omega arith)) h in
        let i : j ≤ j = omega arith in
        paired_at _ (take n ns₀) (take n ls₀) j a b
        ∙ rw (get_or-take n ns₀ j 0 h, get_or-take n ls₀ j 0 h, w.later_numbers j i, w.later_lengths j i)

    pub closed : place_count ≤ p → false ≡ (walked s₀ all).all_open
    unfolding here
    closed far =
        sym (ap (λ (r : Walk). r.all_open) (w.walk ∙ ap (before so_far) (ap (walked s) at ∙ walked-closed s here (drop (j + 1) all) p e far)))

    module _ (near : p < place_count) where
      turned-at : (t : Turn) → t ≡ turned (channel_at s p) (get_or ls j 0) → walked s (drop j all) ≡ by_turn s p (λ r. walked r (drop (j + 1) all)) t
      unfolding here
      turned-at t f = ap (walked s) at ∙ walked_open s here (drop (j + 1) all) p e near ∙ ap (by_turn s p (λ r. walked r (drop (j + 1) all))) (sym f)

      pub blocked : Stop ≡ turned (channel_at s p) (get_or ls j 0)
          → WalkIs (walked s₀ all) (record { count = j; octets = octets; mark = false; channels = s }) ns ls
      blocked f = stops (turned-at Stop f)

      -- the lists with one piece more
      module _ (k : ℕ) where
        more : laid (take (j + 1) (set ns j p)) (take (j + 1) (set ls j k)) ≡ so_far ++ record { place = p; octets = k } ∷ []
        more =
            let a : j < length ns = omega (arith, w.numbers) in
            let b : j < length ls = omega (arith, w.lengths) in
            let c : length (take j ns) ≡ length (take j ls) = length-take-le j ns (omega arith) ∙ sym (length-take-le j ls (omega arith)) in
            rw (add-one j, take-suc-set ns j p a, take-suc-set ls j k b) (paired-next piece (take j ns) (take j ls) p k c)

        counts : octets + k ≡ total (laid (take (j + 1) (set ns j p)) (take (j + 1) (set ls j k)))
        unfolding total
        counts = rw more (omega (arith, w.counted, total-append so_far (record { place = p; octets = k } ∷ [])))

        pub goes : On k ≡ turned (channel_at s p) (get_or ls j 0) → Walking n ns₀ ls₀ s₀ (set ns j p) (set ls j k) (left s p k) (octets + k) (j + 1)
        goes f = record {
          within = omega arith;
          most = omega (arith, w.most, (turn_on (channel_at s p) (get_or ls j 0) k (sym f)).0);
          numbers = length-set ns j p ∙ w.numbers;
          lengths = length-set ls j k ∙ w.lengths;
          later_numbers = λ i l. get_or-set_other ns j i p 0 (λ z. omega arith) ∙ w.later_numbers i (omega arith);
          later_lengths = λ i l. get_or-set_other ls j i k 0 (λ z. omega arith) ∙ w.later_lengths i (omega arith);
          counted = counts;
          walk =
              w.walk ∙ ap (before so_far) (turned-at (On k) f)
              ∙ rw (more, append_assoc so_far (record { place = p; octets = k } ∷ []) (walked (left s p k) (drop (j + 1) all)).pieces);
        }

        pub last : Last k ≡ turned (channel_at s p) (get_or ls j 0)
            → WalkIs (walked s₀ all) (record { count = j + 1; octets = octets + k; mark = (channel_at s p).segmentable; channels = left s p k })
            (set ns j p) (set ls j k)
        last f =
            let whole = w.walk ∙ ap (before so_far) (turned-at (Last k) f) in
            let pieces = more ∙ sym (ap (λ (r : Walk). r.pieces) whole) in
            record {
              within = omega arith;
              pieces = pieces;
              octets = counts ∙ ap total pieces;
              mark = sym (ap (λ (r : Walk). r.mark) whole);
              all_open = sym (ap (λ (r : Walk). r.all_open) whole);
              channels = sym (ap (λ (r : Walk). r.channels) whole);
            }
