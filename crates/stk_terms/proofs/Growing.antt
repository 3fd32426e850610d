-- What a term more leaves of an evaluation.
use Rattle.std.proofs.Common.{◌≡◌, ℕ, zero, suc, ◌+◌, ◌<◌, List, [], ◌∷◌, ◌++◌, map, length, get_or, refl, sym, ap, subst, ◌∙◌, arith, length-append, append_assoc}
use Rattle.std.proofs.Math.Seq.{get_or-append_seam}
use Rattle.std.proofs.lemmas.List.{get_or_append_left, map-append, append-nil}
use Rattle.std.proofs.lemmas.Option.{none-some}
use Rattle.stk_terms.specs.Terms.{Term, Stored, StandsAt}
use Rattle.stk_terms.specs.declared.term.TermId.{TermId}
use Rattle.stk_terms.specs.Fitting.{AreBelow, AreBehind, FitBehind}
use Rattle.stk_terms.proofs.Sharing.{some_one}
use Rattle.stk_terms.specs.Values.{evaluated, Bits, none, bits_of, width_of, arg_at, meanings, meaning, widths_of}

module _ {A : Type 0} (step : List A → Term → A) where
  pub push : (done : List A) (ts : List Term) (t : Term) → evaluated step done (ts ++ t ∷ []) ≡ evaluated step done ts ++ step (evaluated step done ts) t ∷ []
  push done [] t = refl
  push done (s ∷ ts) t = push (done ++ step done s ∷ []) ts t

  pub long : (done : List A) (ts : List Term) → length (evaluated step done ts) ≡ length done + length ts
  long done [] = omega arith
  long done (s ∷ ts) =
      let e = long (done ++ step done s ∷ []) ts in
      omega (arith, e, length-append done (step done s ∷ []))

  -- an older term
  pub older : (ts : List Term) (t : Term) (i : ℕ) (d : A) → i < length ts → get_or (evaluated step [] (ts ++ t ∷ [])) i d ≡ get_or (evaluated step [] ts) i d
  older ts t i d h =
      let n : i < length (evaluated step [] ts) = omega (arith, long [] ts) in
      ap (λ l. get_or l i d) (push [] ts t) ∙ get_or_append_left _ _ d i n

  -- the new term
  pub newest : (ts : List Term) (t : Term) (d : A) → get_or (evaluated step [] (ts ++ t ∷ [])) (length ts) d ≡ step (evaluated step [] ts) t
  newest ts t d =
      let n : length (evaluated step [] ts) ≡ length ts = omega (arith, long [] ts) in
      let v = step (evaluated step [] ts) t in
      ap (λ l. get_or l (length ts) d) (push [] ts t) ∙ ap (λ k. get_or (evaluated step [] ts ++ v ∷ []) k d) (sym n) ∙ get_or-append_seam (evaluated step [] ts) v [] d

  -- an evaluation begins with what was there
  pub front : (done : List A) (ts : List Term) → (more : List A) × (evaluated step done ts ≡ done ++ more)
  front done [] = ([], sym (append-nil done))
  front done (t ∷ ts) =
      let f = front (done ++ step done t ∷ []) ts in
      (step done t ∷ f.0, f.1 ∙ append_assoc done (step done t ∷ []) f.0)

  -- a step that looks at the arguments alone
  pub At : (local : (done more : List A) (t : Term) → AreBelow (length done) t.args → step (done ++ more) t ≡ step done t) (done : List A) (ts : List Term) (i : ℕ) (t : Term) (d : A) → AreBehind (length done) ts → StandsAt ts i t → get_or (evaluated step done ts) (length done + i) d ≡ step (evaluated step done ts) t
  At local done [] i t d b h = absurd (none-some _ h)
  At local done (s ∷ ts) zero t d b h =
      let v = step done s in
      let f = front (done ++ v ∷ []) ts in
      let e : evaluated step (done ++ v ∷ []) ts ≡ done ++ v ∷ f.0 = f.1 ∙ append_assoc done (v ∷ []) f.0 in
      let n : length done + 0 ≡ length done = omega arith in
      rw (n, e, sym (some_one h)) (get_or-append_seam done v f.0 d ∙ sym (local done (v ∷ f.0) s b.0))
  At local done (s ∷ ts) (suc i) t d b h =
      let v = step done s in
      let n : length (done ++ v ∷ []) ≡ length done + 1 = length-append done (v ∷ []) in
      let m : length done + suc i ≡ length (done ++ v ∷ []) + i = omega (arith, n) in
      ap (λ k. get_or (evaluated step (done ++ v ∷ []) ts) k d) m ∙ At local (done ++ v ∷ []) ts i t d (subst (λ k. AreBehind k ts) (sym n) b.1) h

-- the widths don't depend on the residues
pub width_at : (done : List Bits) (k : ℕ) → get_or (map (λ b. b.width) done) k 0 ≡ (get_or done k none).width
width_at [] k = refl
width_at (b ∷ done) zero = refl
width_at (b ∷ done) (suc k) = width_at done k

pub arg_width : (done : List Bits) (args : List TermId) (k : ℕ) → arg_at 0 (map (λ b. b.width) done) args k ≡ (arg_at none done args k).width
arg_width done [] k = refl
arg_width done (a ∷ args) zero = width_at done a.0
arg_width done (a ∷ args) (suc k) = arg_width done args k

pub number_at : (done : List Bits) (k : ℕ) → get_or (map (λ b. b.number) done) k 0 ≡ (get_or done k none).number
number_at [] k = refl
number_at (b ∷ done) zero = refl
number_at (b ∷ done) (suc k) = number_at done k

pub arg_number : (done : List Bits) (args : List TermId) (k : ℕ) → arg_at 0 (map (λ b. b.number) done) args k ≡ (arg_at none done args k).number
arg_number done [] k = refl
arg_number done (a ∷ args) zero = number_at done a.0
arg_number done (a ∷ args) (suc k) = arg_number done args k

-- what comes behind doesn't change what arguments are
pub arg_front : {A : Type 0} (d : A) (done more : List A) (args : List TermId) (k : ℕ) → AreBelow (length done) args → arg_at d (done ++ more) args k ≡ arg_at d done args k
arg_front d done more [] k b = refl
arg_front d done more (a ∷ args) zero b = get_or_append_left done more d a.0 b.0
arg_front d done more (a ∷ args) (suc k) b = arg_front d done more args k b.1

pub bits_local : (inputs residues : List ℕ) (done more : List Bits) (t : Term) → AreBelow (length done) t.args → bits_of inputs residues (done ++ more) t ≡ bits_of inputs residues done t
bits_local inputs residues done more t b = rw (arg_front none done more t.args 0 b, arg_front none done more t.args 1 b, arg_front none done more t.args 2 b) refl

pub width_local : (inputs : List ℕ) (done more : List ℕ) (t : Term) → AreBelow (length done) t.args → width_of inputs (done ++ more) t ≡ width_of inputs done t
width_local inputs done more t b = rw (arg_front 0 done more t.args 0 b, arg_front 0 done more t.args 1 b) refl

-- terms that fit have their arguments before them
pub behind : (inputs ws : List ℕ) (ts : List Term) → FitBehind inputs ws ts → AreBehind (length ws) ts
behind inputs ws [] f = tt
behind inputs ws (t ∷ ts) f =
    let n : length (ws ++ width_of inputs ws t ∷ []) ≡ length ws + 1 = length-append ws (width_of inputs ws t ∷ []) in
    (f.0.exist, subst (λ k. AreBehind k ts) n (behind inputs (ws ++ width_of inputs ws t ∷ []) ts f.1))

pub width_same : (inputs residues : List ℕ) (done : List Bits) (t : Term) → width_of inputs (map (λ b. b.width) done) t ≡ (bits_of inputs residues done t).width
width_same inputs residues done t = rw (arg_width done t.args 0, arg_width done t.args 1) refl

pub widths_same : (inputs residues : List ℕ) (done : List Bits) (ts : List Term) → map (λ b. b.width) (evaluated (bits_of inputs residues) done ts) ≡ evaluated (width_of inputs) (map (λ b. b.width) done) ts
widths_same inputs residues done [] = refl
widths_same inputs residues done (t ∷ ts) =
    widths_same inputs residues (done ++ bits_of inputs residues done t ∷ []) ts
    ∙ ap (λ l. evaluated (width_of inputs) l ts) (map-append (λ b. b.width) done (bits_of inputs residues done t ∷ []) ∙ ap (λ w. map (λ b. b.width) done ++ w ∷ []) (sym (width_same inputs residues done t)))

none_before : (i : ℕ) → i ≡ 0 + i
none_before i = omega arith

-- a term that stands in a sound store means what its operator makes of its arguments
pub meaning_at : (s : Stored) (residues : List ℕ) (i : ℕ) (t : Term) → FitBehind s.inputs [] s.terms → StandsAt s.terms i t → meaning s residues i ≡ bits_of s.inputs residues (meanings s residues) t
meaning_at s residues i t f h = ap (λ k. get_or (meanings s residues) k none) (none_before i) ∙ At (bits_of s.inputs residues) (bits_local s.inputs residues) [] s.terms i t none (behind s.inputs [] s.terms f) h

pub width_at_term : (s : Stored) (i : ℕ) (t : Term) → FitBehind s.inputs [] s.terms → StandsAt s.terms i t → get_or (widths_of s) i 0 ≡ width_of s.inputs (widths_of s) t
width_at_term s i t f h = ap (λ k. get_or (widths_of s) k 0) (none_before i) ∙ At (width_of s.inputs) (width_local s.inputs) [] s.terms i t 0 (behind s.inputs [] s.terms f) h
