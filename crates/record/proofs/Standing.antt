-- A stored unit where it stands: what its header is read as, where its octets are, and what comes behind it.
--
--   HeadIs h q       the header h has the numbers of the stored unit q
--   head_is          what is read where q stands is q's header
--   octets-here      q's octets stand behind it
--   behind-here      .. and the next unit behind them
--   end-here         .. and all of that is as long as the rest of the octets
--   read_at          a header that is read at `at`
--   stored_at b at h  the stored unit with header h at `at`
--   stored-octets    .. it has as many octets as its header says
--   stands           a header that is there, with its octets behind it, is a stored unit
--
-- Assumes nothing.
use mathlib.Core.Path.{◌≡◌, refl, sym, ap, subst, ◌∙◌}
use mathlib.Core.List.{List, [], ◌∷◌, ◌++◌, append_assoc}
use Prim.Native.Nat.{ℕ, ◌+◌, ◌-◌, ◌≤◌, ◌<◌}
use native.Mathlib.Omega.{arith}
use lib.ListN.{length, get_or, take, drop, length-drop, length-append}
use lib.Seq.{take_all, take-add, drop-drop, take_at, drop_at, length-take-le}
use Rattle.octets.specs.High.{fields}
use Rattle.octets.proofs.Laws.{fields-length, fields-same}
use Rattle.record.specs.Recorded.{InRange}
use Rattle.record.specs.Layout.{header_widths, header_octets, size, Stored, stored_octets}
use Rattle.record.specs.Walk.{head_numbers, head, HeaderIs}
use Rattle.record.proofs.Laying.{five_numbers, stored_fit, stored-length}
use Rattle.record.specs.declared.unit.Header.{Header}

pub record HeadIs (h : Header) (q : Stored) : Type 0 where
  pub channel_is : h.numbers.channel ≡ q.unit.channel
  pub badge_is : h.numbers.badge ≡ q.unit.badge
  pub changed_is : h.numbers.changed ≡ q.unit.changed
  pub length_is : h.numbers.length ≡ length q.unit.octets
  pub back_is : h.back ≡ q.back

module _ (b : List ℕ) (at : ℕ) (q : Stored) (x : List ℕ) (here : drop at b ≡ stored_octets q ++ x) where
  pub head_is : (h : Header) → InRange q.unit × (q.back < 4294967296) → HeaderIs (take header_octets (drop at b)) h → HeadIs h q
  head_is h r is =
      let front : take header_octets (drop at b) ≡ fields header_widths (five_numbers q)
      = ap (take header_octets) (here ∙ append_assoc (fields header_widths (five_numbers q)) q.unit.octets x)
      ∙ take_at (fields header_widths (five_numbers q)) (q.unit.octets ++ x) header_octets (fields-length header_widths (five_numbers q) refl) in
      let same = (fields-same header_widths (head_numbers h) (five_numbers q) [] [] is.fit (stored_fit q r.0 r.1)
      (ap (λ (l : List ℕ). l ++ []) (sym is.octets ∙ front))).0 in
      let at : (i : ℕ) → get_or (head_numbers h) i 0 ≡ get_or (five_numbers q) i 0 = λ i. ap (λ (l : List ℕ). get_or l i 0) same in
      record { channel_is = at 0; badge_is = at 1; changed_is = at 2; length_is = at 3; back_is = at 4 }

  pub octets-here : take (length q.unit.octets) (drop (at + header_octets) b) ≡ q.unit.octets
  octets-here =
      ap (take (length q.unit.octets)) (sym (drop-drop header_octets at b)
      ∙ ap (drop header_octets) (here ∙ append_assoc (fields header_widths (five_numbers q)) q.unit.octets x)
      ∙ drop_at (fields header_widths (five_numbers q)) (q.unit.octets ++ x) header_octets (fields-length header_widths (five_numbers q) refl))
      ∙ take_at q.unit.octets x (length q.unit.octets) refl

  pub behind-here : drop (at + size q.unit) b ≡ x
  behind-here =
      sym (drop-drop (size q.unit) at b) ∙ ap (drop (size q.unit)) here ∙ drop_at (stored_octets q) x (size q.unit) (stored-length q)

  pub end-here : at ≤ length b → at + size q.unit + length x ≡ length b
  end-here h = omega (arith, length-drop at b, ap length here, length-append (stored_octets q) x, stored-length q)

-- of the octets from `at` on, as they are handed to what reads a header
pub read_at : (b : List ℕ) (at : ℕ) {h : Header} → HeaderIs (take header_octets (take (length b - at) (drop at b))) h
    → HeaderIs (take header_octets (drop at b)) h
read_at b at {h} = subst (λ (l : List ℕ). HeaderIs (take header_octets l) h) (take_all (length b - at) (drop at b) (omega (arith, length-drop at b)))

abbrev pub stored_at : List ℕ → ℕ → Header → Stored
stored_at b at h = record {
  back = h.back;
  unit = record {
    channel = h.numbers.channel;
    badge = h.numbers.badge;
    changed = h.numbers.changed;
    octets = take h.numbers.length (drop (at + header_octets) b);
  };
}

module _ (b : List ℕ) (at : ℕ) (h : Header) (fits : at + header_octets + h.numbers.length ≤ length b) where
  pub stored-octets : length (take h.numbers.length (drop (at + header_octets) b)) ≡ h.numbers.length
  stored-octets = length-take-le h.numbers.length (drop (at + header_octets) b) (rw (length-drop (at + header_octets) b) (omega arith))

  pub stands : take header_octets (drop at b) ≡ head h
      → take (at + header_octets + h.numbers.length) b ≡ take at b ++ stored_octets (stored_at b at h)
  stands e =
      take-add (at + header_octets) h.numbers.length b
      ∙ ap (λ (l : List ℕ). l ++ take h.numbers.length (drop (at + header_octets) b))
      (take-add at header_octets b ∙ ap (λ (l : List ℕ). take at b ++ l) (e ∙ named))
      ∙ append_assoc (take at b) (fields header_widths (five_numbers (stored_at b at h))) (take h.numbers.length (drop (at + header_octets) b))
    where
      named : head h ≡ fields header_widths (five_numbers (stored_at b at h))
      named = ap (λ (n : ℕ). fields header_widths (h.numbers.channel ∷ h.numbers.badge ∷ h.numbers.changed ∷ n ∷ h.back ∷ [])) (sym stored-octets)
