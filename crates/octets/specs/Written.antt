-- A list with another written over a part of it.
--
--   written d at s    d with s over it from place `at` on
--   written-paste     the library's name for it
--   written_nothing   nothing written changes nothing
--   written-length    the length stays, where s fits
--   written_inside    place `at + j` has s's place j
--   written_outside   a place before `at`, or past s, has what it had
--   written_part      what stands where s was written is s
--   written-before    what stands before it, and behind it, is as it was
--   written_behind
--   written-append    s written, and t behind it: s ++ t
--   written_front     what was written at the front stands there
--   written_next      .. and what is written behind it joins it
--   written_all       what is written over all of d is all that is left
--   Writing           what a loop that writes s keeps, once j of its elements are written
--   writing_none, writing_next, writing-all   .. at first, one turn on, and at the end
--
-- Assumes nothing.
use Rattle.std.specs.Prelude.{◌≡◌, refl, ◌⊎◌, List, [], ◌++◌, ℕ, ◌+◌, ◌-◌, ◌≤◌, ◌<◌, length, get_or, set, take, drop}
use Rattle.std.proofs.Common.{sym, ap, ap₂, ◌∙◌, ⊎_elim, append_assoc, append-nil, add-one, add-zero, zero-add, add_assoc, arith, length-set, length-append, length-drop, take-append-drop, drop_of_length-le, length-take-le, get_or-append-add, get_or-take, get_or-drop, take_at, drop_at, drop-drop}
use Rattle.std.proofs.Math.ListN.{get_or-append}
use Rattle.std.proofs.Math.Seq.{paste, paste-zero, paste-suc, take-length}

module _ {A : Type 0} where
  abbrev pub written : List A → ℕ → List A → List A
  written d at s = take at d ++ s ++ drop (at + length s) d

  pub written-paste : (d : List A) (at : ℕ) (s : List A) → paste d at s (length s) ≡ written d at s
  written-paste d at s = rw (take-length s)

  pub written_nothing : (d : List A) (at : ℕ) → written d at [] ≡ d
  written_nothing d at = rw (add-zero, append-nil) (take-append-drop at d)

  module _ (d : List A) (at : ℕ) (s : List A) (fits : at + length s ≤ length d) where
    head-length : length (take at d) ≡ at
    head-length = length-take-le at d (omega arith)

    both-length : length (take at d ++ s) ≡ at + length s
    both-length = length-append (take at d) s ∙ ap (λ (n : ℕ). n + length s) head-length

    pub written-length : length (written d at s) ≡ length d
    written-length = length-append (take at d ++ s) (drop (at + length s) d) ∙ rw (both-length, length-drop) (omega arith)

    pub written_inside : (j : ℕ) (z : A) → j < length s → get_or (written d at s) (at + j) z ≡ get_or s j z
    written_inside j z l =
        get_or-append (take at d ++ s) (drop (at + length s) d) z (at + j) (rw both-length (omega arith))
        ∙ ap (λ (n : ℕ). get_or (take at d ++ s) (n + j) z) (sym head-length) ∙ get_or-append-add (take at d) s j z

    pub written_outside : (k : ℕ) (z : A) → (k < at) ⊎ (at + length s ≤ k) → get_or (written d at s) k z ≡ get_or d k z
    written_outside k z = ⊎_elim before behind
      where
        before : k < at → get_or (written d at s) k z ≡ get_or d k z
        before l =
            get_or-append (take at d ++ s) (drop (at + length s) d) z k (rw both-length (omega arith))
            ∙ get_or-append (take at d) s z k (rw head-length l) ∙ get_or-take at d k z l

        behind : at + length s ≤ k → get_or (written d at s) k z ≡ get_or d k z
        behind l =
            let m : k ≡ at + length s + (k - (at + length s)) = omega arith in
            ap (λ (n : ℕ). get_or (written d at s) n z) (m ∙ ap (λ (n : ℕ). n + (k - (at + length s))) (sym both-length))
            ∙ get_or-append-add (take at d ++ s) (drop (at + length s) d) (k - (at + length s)) z
            ∙ get_or-drop (at + length s) d (k - (at + length s)) z ∙ ap (λ (n : ℕ). get_or d n z) (sym m)

    pub written_part : take (length s) (drop at (written d at s)) ≡ s
    written_part =
        ap (λ (l : List A). take (length s) (drop at l)) (append_assoc (take at d) s (drop (at + length s) d))
        ∙ ap (take (length s)) (drop_at (take at d) (s ++ drop (at + length s) d) at head-length)
        ∙ take_at s (drop (at + length s) d) (length s) refl

    pub written-before : take at (written d at s) ≡ take at d
    written-before =
        ap (take at) (append_assoc (take at d) s (drop (at + length s) d))
        ∙ take_at (take at d) (s ++ drop (at + length s) d) at head-length

    pub written_behind : drop (at + length s) (written d at s) ≡ drop (at + length s) d
    written_behind = drop_at (take at d ++ s) (drop (at + length s) d) (at + length s) both-length

    pub written-append : (t : List A) → written (written d at s) (at + length s) t ≡ written d at (s ++ t)
    written-append t =
        ap₂ (λ (x y : List A). x ++ t ++ y) (take_at (take at d ++ s) (drop (at + length s) d) (at + length s) both-length)
        (sym (drop-drop (length t) (at + length s) (written d at s)) ∙ ap (drop (length t)) written_behind ∙ drop-drop (length t) (at + length s) d)
        ∙ ap₂ (λ (x : List A) (n : ℕ). x ++ drop n d) (append_assoc (take at d) s t)
        (add_assoc at (length s) (length t) ∙ ap (λ (n : ℕ). at + n) (sym (length-append s t)))

  pub written_front : (d s : List A) → length s ≤ length d → take (length s) (written d 0 s) ≡ s
  written_front d s fits = written_part d 0 s (omega arith)

  pub written_next : (d s t : List A) → length s ≤ length d → written (written d 0 s) (length s) t ≡ written d 0 (s ++ t)
  written_next d s t fits =
      ap (λ (n : ℕ). written (written d 0 s) n t) (sym (zero-add (length s))) ∙ written-append d 0 s (omega arith) t

  pub written_all : (d s : List A) → length d ≡ length s → written d 0 s ≡ s
  written_all d s e =
      let all : length d ≤ 0 + length s = omega arith in
      ap (λ (l : List A). s ++ l) (drop_of_length-le d all) ∙ append-nil s

  -- ---- a loop that writes

  pub record Writing (d₀ : List A) (at : ℕ) (s d : List A) (j : ℕ) : Type 0 where
    pub so_far : d ≡ paste d₀ at s j
    pub few : j ≤ length s
    pub long : length d ≡ length d₀

  pub writing_none : (d : List A) (at : ℕ) (s : List A) → Writing d at s d 0
  writing_none d at s = record { so_far = paste-zero d at s; few = omega arith; long = refl }

  module _ {d₀ : List A} {at : ℕ} {s d : List A} {j : ℕ} (h : Writing d₀ at s d j) where
    pub writing_next : (z : A) → at + length s ≤ length d₀ → j < length s → Writing d₀ at s (set d (at + j) (get_or s j z)) (j + 1)
    writing_next z fits l =
        let in₀ : at + j < length d₀ = omega arith in
        record {
          so_far = rw (add-one, ← paste-suc d₀ at s j z in₀ l, ← h.so_far);
          few = omega arith;
          long = length-set d (at + j) (get_or s j z) ∙ h.long;
        }

    pub writing-all : length s ≤ j → d ≡ written d₀ at s
    writing-all l =
        let e : j ≡ length s = omega (arith, h.few) in
        h.so_far ∙ rw e (written-paste d₀ at s)
