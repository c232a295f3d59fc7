-- Packets one behind another, the closing flag of each being the next one's first.
--
--   stream-brings      a stream brings its first payload, and the others from where the next packet's flag lies
--   same-behind        what is behind a flag
--   stream-made        what does so is a stream
--   stream-is          packets in a stream, each from behind the flag of the one before
--   stream-written     packets that were written one behind another are a stream
--   stream-read        reading in turn reads each payload,
--   stream-read-back   and of packets as they were written exactly these
--
-- Assumes nothing.
use mathlib.Core.Path.{◌≡◌, refl, sym, ap, subst, ◌∙◌}
use mathlib.Core.Bool.{Bool, true, false}
use mathlib.Core.List.{List, [], ◌∷◌, ◌++◌, append_assoc}
use Prim.Native.Nat.{ℕ}
use lib.ListN.{length, drop}
use lib.Seq.{drop_at}
use Rattle.octets.specs.Each.{Each, each_none, each_more, each_map, each_same}
use Rattle.calls.specs.Refusal.{Told}
use Rattle.packets.specs.Flag.{flag_of}
use Rattle.packets.specs.Header.{header_of}
use Rattle.packets.proofs.Laws.{flag-length}
use Rattle.packets.specs.Packet.{packet_of, Heading, read}
use Rattle.runs.specs.Runs.{Parcel, added}
use Rattle.runs.specs.Packets.{Body, Brings, stream-none, stream-more, bodies_of, parcel_at, read_all, ParcelAlike}
use Rattle.runs.specs.OverPackets.{StreamIs, StreamBrings, StreamMade, StreamWritten, StreamRead, StreamReadBack}
use Rattle.runs.proofs.Bringing.{brought-next, brought-read, brought_alike, body-written, apart}

abbrev opened : {R : ℕ → ℕ → Type 0} {q : Parcel} {v w : List ℕ} → (o : Bool) → Body R q v w → Brings R q (flag_of o ++ v)
opened {v = v} {w = w} o b = record { opens = o; behind = v; rest = w; is = refl; body = b }

pub stream-brings : StreamBrings
stream-brings R o q qs v (stream-more b s) = (opened o b, (_, brought-next (opened o b), s))

pub same-behind : (o m : Bool) (v w : List ℕ) → flag_of o ++ v ≡ flag_of m ++ w → v ≡ w
same-behind false false v w e = ap (drop 2) e
same-behind false true v w e = ap (drop 2) e
same-behind true false v w e = ap (drop 2) e
same-behind true true v w e = ap (drop 2) e

pub stream-made : StreamMade
stream-made R o q qs v w b e s =
    let there = same-behind o b.opens v b.behind b.is in
    let behind = same-behind q.mark q.mark b.rest w (sym (brought-next b) ∙ e) in
    let body : Body R q v w = rw (there, ← behind) b.body in
    stream-more body s

pub stream-is : StreamIs
unfolding bodies_of
stream-is o q qs =
    let p = packet_of o q.code q.mark q.octets in
    sym (apart (flag_of o) (header_of q.code (length q.octets)) q.octets (flag_of q.mark) (bodies_of qs)) ∙ ap (λ (v : List ℕ). p ++ v) (sym (drop_at (flag_of q.mark) (bodies_of qs) 2 (flag-length q.mark)))

pub stream-written : StreamWritten
unfolding bodies_of
stream-written R r [] rest = stream-none
stream-written R r (q ∷ qs) rest =
    stream-more
    (subst (λ (v : List ℕ). Body R q v (bodies_of qs ++ rest))
    (sym (append_assoc (header_of q.code (length q.octets) ++ q.octets ++ flag_of q.mark) (bodies_of qs) rest))
    (body-written R r q (bodies_of qs ++ rest))) (stream-written R r qs rest)

pub stream-read : StreamRead
unfolding read_all
stream-read R o [] v a stream-none = each_none
stream-read R o (q ∷ qs) v a (stream-more {w = w} b s) =
    let u = flag_of o ++ v in
    let k = opened o b in
    subst (λ (t : Told Heading). Each (ParcelAlike R) (q ∷ qs) (added t (λ p. parcel_at p u ∷ read_all read (length qs) (drop p.next u))))
    (sym (brought-read k a.0))
    (each_more (brought_alike k)
    (subst (λ (l : List ℕ). Each (ParcelAlike R) qs (read_all read (length qs) l)) (sym (brought-next k)) (stream-read R q.mark qs w a.1 s)))

alike_same : (q p : Parcel) → ParcelAlike ◌≡◌ q p → q ≡ p
alike_same q p a =
    ap (λ (c : ℕ). record { code = c; mark = q.mark; octets = q.octets }) a.code
    ∙ ap (λ (m : Bool). record { code = p.code; mark = m; octets = q.octets }) a.mark
    ∙ ap (λ (l : List ℕ). record { code = p.code; mark = p.mark; octets = l }) (each_same a.octets)

pub stream-read-back : StreamReadBack
stream-read-back o qs rest a =
    ap (read_all read (length qs)) (append_assoc (flag_of o) (bodies_of qs) rest)
    ∙ sym (each_same (each_map alike_same (stream-read ◌≡◌ o qs (bodies_of qs ++ rest) a (stream-written ◌≡◌ (λ x. refl) qs rest))))
