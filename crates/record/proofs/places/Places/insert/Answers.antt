-- The used places' channels are those of the list, so the rank is the place of the channel, and there it either stands already or is put in.
use Rattle.std.proofs.Common.{◌≡◌, refl, sym, ap, ap₂, ◌∙◌, List, [], ◌∷◌, ◌++◌, append_assoc, map, ℕ, suc, ◌+◌, ◌-◌, ◌≤◌, ◌<◌, add-one, arith, length, get_or, set, take, drop, replicate, length-append, length-drop, length-take-le, take-suc, take_at}
use Rattle.std.specs.List.{copy_within}
use Rattle.std.proofs.lemmas.List.{map-append, take-map, drop-map, length-map, take-append-le, drop-append-le}
use lib.Seq.{set-append_seam, drop-append-add}
use Rattle.record.proofs.Ranking.{insert-there, insert_new, rank_few}
use Rattle.record.proofs.Placing.{fresh_kept, places_rank, places-at}
use Rattle.record.specs.Trailer.{insert, most_channels}
use Rattle.record.specs.Walk.{rank, rank_in, fresh, kept, all_places, PlacesAre}
use Rattle.record.specs.declared.place.Place.{Place}
use Rattle.record.specs.declared.places.Places.{Places}
use Rattle.record.proofs.places.Places.insert.Goals as goal
use Rattle.record.proofs.places.Places.insert.Goals.{else-i-self-via-then-i-self+else-self-i, else-i-self-via-else-i-self}

-- room made at i in l, of n elements, behind which there are at least one more
opened : (l : List Place) (v z : Place) (i k : ℕ) → i ≤ length l
    → set (copy_within (l ++ replicate (suc k) z) i (length l) (i + 1)) i v ≡ (take i l ++ v ∷ drop i l) ++ replicate k z
opened l v z i k h =
    let zs : List Place = replicate (suc k) z in
    let xs = l ++ zs in
    let n = length l in
    let y = get_or xs i z in
    let inside : i < length xs = omega (arith, length-append l zs) in
    let end : i + 1 + (n - i) ≡ n + 1 = omega arith in
    let front : take (i + 1) xs ≡ take i l ++ y ∷ []
    = ap (λ (m : ℕ). take m xs) (add-one i) ∙ take-suc xs i z inside ∙ ap (λ (a : List Place). a ++ y ∷ []) (take-append-le i l zs h) in
    let middle : take (n - i) (drop i xs) ≡ drop i l
    = ap (take (n - i)) (drop-append-le i l zs h) ∙ take_at (drop i l) zs (n - i) (length-drop i l) in
    let rest : drop (i + 1 + (n - i)) xs ≡ replicate k z = ap (λ (m : ℕ). drop m xs) end ∙ drop-append-add l zs 1 in
    let behind = drop i l ++ replicate k z in
    let all : copy_within xs i n (i + 1) ≡ take i l ++ y ∷ behind
    = ap₂ (λ (a b : List Place). a ++ b) (ap₂ (λ (a b : List Place). a ++ b) front middle) rest
    ∙ append_assoc (take i l ++ y ∷ []) (drop i l) (replicate k z) ∙ append_assoc (take i l) (y ∷ []) behind in
    ap₂ (λ (a : List Place) (j : ℕ). set a j v) all (sym (length-take-le i l h)) ∙ set-append_seam (take i l) y behind v
    ∙ sym (append_assoc (take i l) (v ∷ drop i l) (replicate k z))

-- .. of equals
opened_same : (v : Place) {x y : List Place} {i j m n : ℕ} → x ≡ y → i ≡ j → m ≡ n
    → set (copy_within x i m (i + 1)) i v ≡ set (copy_within y j n (j + 1)) j v
opened_same v e f g = rw (e, f, g)

put-length : (cs : List ℕ) (c i : ℕ) → i ≤ length cs → length (take i cs ++ c ∷ drop i cs) ≡ suc (length cs)
put-length cs c i h = length-append (take i cs) (c ∷ drop i cs) ∙ rw (length-take-le i cs h, length-drop) (omega arith)

module _ {cs : List ℕ} {p : Places} (h : PlacesAre cs [] p) (c : ℕ) where
  found : rank_in p c < p.count → (d : Place) → (get_or p.all (rank_in p c) d).channel ≡ c → PlacesAre (insert c cs) [] p
  found l d e =
      let r = places_rank h c in
      let inside : rank c cs < length cs = omega (arith, r, h.count_is) in
      let there : get_or cs (rank c cs) 0 ≡ c
      = sym (ap (λ (q : Place). q.channel) (ap (λ (i : ℕ). get_or p.all i d) r ∙ places-at h (rank c cs) d inside)) ∙ e in
      rw (insert-there c cs inside there) h

  module _ (d : Place) (new : rank_in p c < p.count → (get_or p.all (rank_in p c) d).channel ≡ c → ⊥) where
    inserts : insert c cs ≡ take (rank c cs) cs ++ c ∷ drop (rank c cs) cs
    inserts =
        insert_new c cs (λ l e. new (omega (arith, places_rank h c, h.count_is))
        (ap (λ (q : Place). q.channel) (ap (λ (i : ℕ). get_or p.all i d) (places_rank h c) ∙ places-at h (rank c cs) d l) ∙ e))

    longer : length (insert c cs) ≡ suc (length cs)
    longer = ap length inserts ∙ put-length cs c (rank c cs) (rank_few c cs)

    over : p.count ≡ most_channels → most_channels < length (insert c cs)
    over e = omega (arith, longer, h.count_is)

    put : (p.count ≡ most_channels → ⊥) → {q : Places} → q.count ≡ p.count + 1
        → q.all ≡ set (copy_within p.all (rank_in p c) p.count (rank_in p c + 1)) (rank_in p c) (fresh c) → PlacesAre (insert c cs) [] q
    put some {q} count all =
        let i = rank c cs in
        let more : most_channels - length cs ≡ suc (15 - length cs) = omega (arith, h.count_is, h.few, some) in
        let padded : all_places cs [] ≡ map fresh cs ++ replicate (suc (15 - length cs)) (fresh 0)
        = ap₂ (λ (l : List Place) (k : ℕ). l ++ replicate k (fresh 0)) (fresh_kept cs) more in
        let mapped : map (kept []) (insert c cs) ≡ take i (map fresh cs) ++ fresh c ∷ drop i (map fresh cs)
        = fresh_kept (insert c cs) ∙ ap (map fresh) inserts ∙ map-append fresh (take i cs) (c ∷ drop i cs)
        ∙ ap₂ (λ (a b : List Place). a ++ fresh c ∷ b) (sym (take-map fresh i cs)) (sym (drop-map fresh i cs)) in
        let less : 15 - length cs ≡ most_channels - length (insert c cs) = omega (arith, longer) in
        let left : replicate (15 - length cs) (fresh 0) ≡ replicate (most_channels - length (insert c cs)) (fresh 0)
        = ap (λ (k : ℕ). replicate k (fresh 0)) less in
        record {
          few = omega (arith, longer, h.count_is, h.few, some);
          count_is = count ∙ omega (arith, longer, h.count_is);
          all_are = all ∙ opened_same (fresh c) (h.all_are ∙ padded) (places_rank h c) (h.count_is ∙ sym (length-map cs fresh))
              ∙ opened (map fresh cs) (fresh c) (fresh 0) (rank c cs) (15 - length cs) (rw length-map (rank_few c cs)) ∙ ap₂ ◌++◌ (sym mapped) left;
        }

abbrev zeros : Place
zeros = record { channel = 0; last = 0; units = 0; damaged = 0 }

-- what stands at one place
channel_at : (p : Places) {i j : ℕ} → i ≡ j → (get_or p.all i zeros).channel ≡ (get_or p.all j zeros).channel
channel_at p e = ap (λ (k : ℕ). (get_or p.all k zeros).channel) e

pub returns-then-self-i : goal.returns-then-self-i
returns-then-self-i c =
    let p = c.args.self.now in
    let is = c.rank-i.ensures.is in
    λ cs h. found h c.args.channel (omega (arith, is, c.if-i-self.true)) zeros (sym (channel_at p is) ∙ c.if-self-i.true)

pub returns-then-self-eq-MOST_CHANNELS : goal.returns-then-self-eq-MOST_CHANNELS
returns-then-self-eq-MOST_CHANNELS c =
    let p = c.args.self.now in
    let is = c.rank-i.ensures.is in (
      refl,
      λ cs h. over h c.args.channel zeros (λ l e. elim c.else-i-self.branch [
        | else-i-self-via-then-i-self+else-self-i w ↦ w.if-self-i.false (channel_at p is ∙ e)
        | else-i-self-via-else-i-self w ↦ omega (arith, is)
      ]) c.if-self-eq-MOST_CHANNELS.true,
    )

pub returns : goal.returns
returns c =
    let p = c.args.self.now in
    let is = c.rank-i.ensures.is in
    let all : set c.copy_within.new.self c.rank-i.result c.of.result
    ≡ set (copy_within p.all (rank_in p c.args.channel) p.count (rank_in p c.args.channel + 1)) (rank_in p c.args.channel) (fresh c.args.channel)
    = rw (c.copy_within.ensures.after, c.of.ensures) (opened_same (fresh c.args.channel) refl is refl) in
    λ cs h. put h c.args.channel zeros (λ l e. elim c.else-i-self.branch [
      | else-i-self-via-then-i-self+else-self-i w ↦ w.if-self-i.false (channel_at p is ∙ e)
      | else-i-self-via-else-i-self w ↦ omega (arith, is)
    ]) c.if-self-eq-MOST_CHANNELS.false refl all
