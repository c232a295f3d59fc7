-- What is read is what a packet carries.
--
--   read_exactly      a packet is told exactly where one is carried
--   carries_one       .. and so there is one
--   payload_lies      where its payload lies
--   cut_short         a packet whose end is missing
--   length_unused     a length of 255
--   none_wrong        no bit of a header is wrong beside itself,
--   own_near          so that it is near itself
--   packet-read       a packet, whatever stands behind it, is told
--
-- Assumes nothing.
use mathlib.Core.Path.{◌≡◌, refl, sym, ap, ◌∙◌}
use mathlib.Core.Bool.{Bool}
use mathlib.Core.List.{List, ◌++◌, append_assoc}
use Prim.Native.Nat.{ℕ, ◌+◌, ◌-◌, ◌/◌, ◌%◌, ◌≤◌, ◌<◌}
use native.Mathlib.Decide.{dec_lt}
use native.Mathlib.Omega.{arith}
use lib.Bits.{xor_self}
use lib.Count.{ones-le}
use lib.Dec.{lit<}
use lib.ListN.{length, take, drop, length-take, length-drop, length-append}
use lib.Seq.{length-take-le}
use Rattle.calls.specs.Refusal.{refused, told}
use Rattle.calls.proofs.Laws.{told-refused, told_same}
use Rattle.packets.specs.Flag.{flag_of}
use Rattle.packets.specs.Header.{data_of, header_of, header_word, wrong_bits}
use Rattle.packets.specs.Packet.{packet_of, Heading, heading, read}
use Rattle.packets.specs.Claims.{Carries, ReadExactly, CarriesOne, PayloadLies, CutShort, LengthUnused}
use Rattle.packets.proofs.Fields.{code_of, length_of, header_near, data_says}
use Rattle.packets.proofs.Opening.{begins_long}
use Rattle.packets.proofs.Ends.{DataStand, Ends, refuses, tells, ends, short-ends, unused-ends, unclosed-ends, told-ends}
use Rattle.packets.proofs.Parts.{opening_at, header_at, payload-at, front_cut, closing_at, front_length, front-and_rest, packet-length, parts_make}

heading_is : (p : Heading) → p.next ≡ 5 + p.length → heading p.code p.mark p.length ≡ p
heading_is p e = ap (λ (n : ℕ). record { code = p.code; mark = p.mark; length = p.length; next = n }) (sym e)

-- ---- from what was read

module _ (u : List ℕ) (d : ℕ) (m : Bool) (says : DataStand u d) (fits : d / 16 ≤ 254) (closing : take 2 (drop (5 + d / 16) u) ≡ flag_of m) where
  carried : Carries u (heading (d % 16) m (d / 16))
  carried =
      let far = begins_long (drop (5 + d / 16) u) (m, closing) in
      let long : 7 + d / 16 ≤ length u = omega (arith, length-drop (5 + d / 16) u) in
      let s = data_says u d says.1.1 in
      record {
        opens = says.0.0;
        header = take 3 (drop 2 u);
        payload = take (d / 16) (drop 5 u);
        rest = drop (7 + d / 16) u;
        is = rw (← says.0.1, ← closing) (parts_make (d / 16) u);
        three = length-take-le 3 (drop 2 u) (rw length-drop (omega arith));
        near = s.2;
        code = s.0;
        long = length-take-le (d / 16) (drop 5 u) (rw length-drop (omega arith));
        fits = fits;
        next = refl;
      }

-- ---- to what is read

front_says : (o : Bool) (h r : List ℕ) (c n : ℕ) → length h ≡ 3 → c ≤ 15 → n ≤ 255 → wrong_bits h (header_of c n) ≤ 3
    → DataStand (flag_of o ++ h ++ r) (data_of c n)
front_says o h r c n three hc hn near =
    let long = front_length o h three in (
      (o, opening_at o h three r),
      (rw length-append (omega arith), rw (header_at o h three r) (header_near h c n hc hn near)),
    )

pub none_wrong : (h : List ℕ) → wrong_bits h h ≡ 0
none_wrong h = rw (xor_self (header_word h)) (omega (arith, ones-le 0 0 (lit< tt)))

pub own_near : (h : List ℕ) → wrong_bits h h ≤ 3
own_near h = omega (arith, none_wrong h)

pub packet-read : (o : Bool) (h xs : List ℕ) (m : Bool) (rest : List ℕ) (c : ℕ) → length h ≡ 3 → c ≤ 15 → length xs ≤ 254
    → wrong_bits h (header_of c (length xs)) ≤ 3 → read (flag_of o ++ h ++ xs ++ flag_of m ++ rest) ≡ told (heading c m (length xs))
packet-read o h xs m rest c three hc hn near =
    let u = flag_of o ++ h ++ xs ++ flag_of m ++ rest in
    let code = code_of c (length xs) (omega arith) in
    let long = length_of c (length xs) (omega arith) in
    let front = front_says o h (xs ++ (flag_of m ++ rest)) c (length xs) three hc (omega arith) near in
    let says : DataStand u (data_of c (length xs)) = rw (front-and_rest o h three m xs rest) front in
    let closing = closing_at o h three m xs rest in
    rw (code, long) at (told-ends u (data_of c (length xs)) says m (omega arith) (rw long closing))

pub read_exactly : ReadExactly
read_exactly u p = (λ e. told-carried e (ends u), λ c. carried-told c)
  where
    told-carried : read u ≡ told p → Ends u → Carries u p
    told-carried e (refuses k w r) = told-refused e r
    told-carried e (tells d m s l f r) = rw (← told_same _ p (sym r ∙ e)) (carried u d m s l f)

    carried-told : Carries u p → read u ≡ told p
    carried-told c =
        let fits : length c.payload ≤ 254 = omega arith in
        rw c.is (packet-read c.opens c.header c.payload p.mark c.rest p.code c.three c.code fits (rw c.long c.near)
        ∙ rw c.long (ap told (heading_is p c.next)))

pub carries_one : CarriesOne
carries_one u p q a b = told_same p q (sym ((read_exactly u p).1 a) ∙ (read_exactly u q).1 b)

pub payload_lies : PayloadLies
payload_lies u p c = rw (c.is, ← c.long) (payload-at c.opens c.header c.three p.mark c.payload c.rest)

pub length_unused : LengthUnused
length_unused o c h rest hc three near =
    unused-ends (flag_of o ++ h ++ rest) (data_of c 255) (front_says o h rest c 255 three hc (omega arith) near) (length_of c 255 (omega arith))

pub cut_short : CutShort
cut_short o m c n xs hc hx l = by (dec_lt n 5)
  where
    by : Dec (n < 5) → read (take n (packet_of o c m xs)) ≡ refused 15
    by (yes s) = short-ends (take n (packet_of o c m xs)) (omega (arith, length-take n (packet_of o c m xs)))
    by (no s) =
        let h = header_of c (length xs) in
        let u = take n (packet_of o c m xs) in
        let cut : u ≡ flag_of o ++ h ++ take (n - 5) (xs ++ flag_of m) =
        ap (take n) (append_assoc (flag_of o ++ h) xs (flag_of m)) ∙ front_cut o h refl (xs ++ flag_of m) n (omega arith) in
        let says : DataStand u (data_of c (length xs)) =
        rw cut (front_says o h (take (n - 5) (xs ++ flag_of m)) c (length xs) refl hc (omega arith) (own_near h)) in
        let long = length_of c (length xs) (omega arith) in
        let left = length-drop (5 + data_of c (length xs) / 16) u in
        let all = packet-length o c m xs in
        let taken = length-take n (packet_of o c m xs) in
        unclosed-ends u (data_of c (length xs)) says (omega arith)
        (λ b. absurd (omega (arith, begins_long (drop (5 + data_of c (length xs) / 16) u) b)))
