-- What is read of octets that bring a payload: its code and its mark, with its payload where it lies and the next packet's flag behind it.
--
--   said               what the packet of a payload says
--   brought-parts      the octets: flag and header, the payload, the closing flag and what is behind it
--   brought_payload    the payload lies there,
--   brought-next       and the closing flag where the next packet begins
--   brought-read       so it is read
--   brought_alike      .. as the payload was sent, but for what R allows
--   apart              a packet with its opening flag apart
--   read-brings        what is read so brings the payload
--   brings_exactly     both
--   body-written       a packet as it was written, behind its opening flag
--   packet-brings      a packet brings its payload
--   written-brings     what `write` writes brings the payload
--
-- Assumes nothing.
use mathlib.Core.Path.{◌≡◌, refl, sym, ap, subst, ◌∙◌}
use mathlib.Core.Bool.{Bool}
use mathlib.Core.List.{List, ◌++◌, append_assoc}
use Prim.Native.Nat.{ℕ}
use native.Mathlib.Omega.{arith}
use lib.ListN.{length, take, drop, length-append}
use lib.Seq.{take_at, drop_at, drop-drop}
use Rattle.octets.specs.Each.{Each, each-length, each-any, each_self}
use Rattle.calls.specs.Refusal.{told}
use Rattle.packets.specs.Flag.{flag_of}
use Rattle.packets.specs.Header.{header_of}
use Rattle.packets.specs.Packet.{packet_of, Heading, heading, read}
use Rattle.packets.specs.Claims.{Carries}
use Rattle.packets.proofs.Laws.{packets, flag-length, none_wrong}
use Rattle.runs.specs.Runs.{Parcel}
use Rattle.runs.specs.Packets.{Body, Brings, Packable, parcel_at, ParcelAlike}
use Rattle.runs.specs.OverPackets.{BringsExactly, WrittenBrings}

abbrev pub said : Parcel → Heading
said q = heading q.code q.mark (length q.octets)

module _ {R : ℕ → ℕ → Type 0} {q : Parcel} {u : List ℕ} (b : Brings R q u) where
  abbrev front : List ℕ
  front = flag_of b.opens ++ b.body.header

  abbrev behind : List ℕ
  behind = flag_of q.mark ++ b.rest

  five : length front ≡ 5
  five = length-append (flag_of b.opens) b.body.header ∙ rw (flag-length b.opens, b.body.three)

  many : length b.body.payload ≡ length q.octets
  many = sym (each-length b.body.changed)

  pub brought-parts : u ≡ front ++ (b.body.payload ++ behind)
  brought-parts =
      let h = b.body.header in
      let p = b.body.payload in
      let f = flag_of q.mark in
      b.is
      ∙ ap (λ (v : List ℕ). flag_of b.opens ++ v) (b.body.is ∙ append_assoc (h ++ p) f b.rest ∙ append_assoc h p behind)
      ∙ sym (append_assoc (flag_of b.opens) h (p ++ behind))

  from_payload : drop 5 u ≡ b.body.payload ++ behind
  from_payload = ap (λ (v : List ℕ). drop 5 v) brought-parts ∙ drop_at front (b.body.payload ++ behind) 5 five

  pub brought_payload : (parcel_at (said q) u).octets ≡ b.body.payload
  brought_payload = ap (λ (v : List ℕ). take (length q.octets) v) from_payload ∙ take_at b.body.payload behind (length q.octets) many

  pub brought-next : drop (said q).next u ≡ flag_of q.mark ++ b.rest
  brought-next =
      sym (drop-drop (length q.octets) 5 u) ∙ ap (λ (v : List ℕ). drop (length q.octets) v) from_payload
      ∙ drop_at b.body.payload behind (length q.octets) many

  module _ (h : Packable q) where
    carries : Carries u (said q)
    carries = record {
      opens = b.opens;
      header = b.body.header;
      payload = b.body.payload;
      rest = b.rest;
      is = brought-parts ∙ sym (append_assoc front b.body.payload behind) ∙ sym (append_assoc (front ++ b.body.payload) (flag_of q.mark) b.rest);
      three = b.body.three;
      near = omega (arith, b.body.few);
      code = h.0;
      long = many;
      fits = h.1;
      next = refl;
    }

    pub brought-read : read u ≡ told (said q)
    brought-read = (packets.read_exactly u (said q)).1 carries

  pub brought_alike : ParcelAlike R q (parcel_at (said q) u)
  brought_alike = record { code = refl; mark = refl; octets = subst (Each R q.octets) (sym brought_payload) b.body.changed }

-- ---- .. and nothing else

-- the first of five lists apart
pub apart : (f h p g w : List ℕ) → f ++ h ++ p ++ g ++ w ≡ f ++ (h ++ p ++ g ++ w)
apart f h p g w =
    ap (λ (v : List ℕ). v ++ g ++ w) (append_assoc f h p) ∙ ap (λ (v : List ℕ). v ++ w) (append_assoc f (h ++ p) g) ∙ append_assoc f (h ++ p ++ g) w

abbrev carried-brings : (R : ℕ → ℕ → Type 0) (q : Parcel) (u : List ℕ) (c : Carries u (said q)) → Each R q.octets c.payload → Brings R q u
carried-brings R q u c changed =
    let o = flag_of c.opens in
    let h = c.header in
    let p = c.payload in
    let f = flag_of q.mark in
    record {
      opens = c.opens;
      behind = h ++ p ++ f ++ c.rest;
      rest = c.rest;
      is = c.is ∙ apart o h p f c.rest;
      body = record { header = h; payload = p; is = refl; three = c.three; few = c.near; changed = changed };
    }

pub read-brings : (R : ℕ → ℕ → Type 0) (q : Parcel) (u : List ℕ) → Carries u (said q) → Each R q.octets (parcel_at (said q) u).octets → Brings R q u
read-brings R q u c e =
    let whatever = carried-brings (λ a b. Unit {0}) q u c (each-any (λ a b. Unit {0}) (λ a b. tt) q.octets c.payload (sym c.long)) in
    carried-brings R q u c (subst (Each R q.octets) (brought_payload whatever) e)

pub brings_exactly : BringsExactly
brings_exactly R q u h = (λ b. (brought-read b h, (brought_alike b).octets), λ (e, a). read-brings R q u ((packets.read_exactly u (said q)).0 e) a)

-- ---- writing

pub body-written : (R : ℕ → ℕ → Type 0) → ((a : ℕ) → R a a) → (q : Parcel) (w : List ℕ)
    → Body R q (header_of q.code (length q.octets) ++ q.octets ++ flag_of q.mark ++ w) w
body-written R r q w = record {
  header = header_of q.code (length q.octets);
  payload = q.octets;
  is = refl;
  three = refl;
  few = omega (arith, none_wrong (header_of q.code (length q.octets)));
  changed = each_self R r q.octets;
}

pub packet-brings : (R : ℕ → ℕ → Type 0) → ((a : ℕ) → R a a) → (o : Bool) (q : Parcel) (w : List ℕ)
    → Brings R q (packet_of o q.code q.mark q.octets ++ w)
packet-brings R r o q w = record {
  opens = o;
  behind = header_of q.code (length q.octets) ++ q.octets ++ flag_of q.mark ++ w;
  rest = w;
  is = apart (flag_of o) (header_of q.code (length q.octets)) q.octets (flag_of q.mark) w;
  body = body-written R r q w;
}

pub written-brings : WrittenBrings
written-brings R r o c m xs before after rest n e =
    rw (packets.write_answered o c m xs before after n e).1 (packet-brings R r o (record { code = c; mark = m; octets = xs }) rest)
