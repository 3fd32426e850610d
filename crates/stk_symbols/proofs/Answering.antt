-- What answers show, by the bits of the operands.
use Rattle.std.proofs.Common.{◌≡◌, ℕ, zero, suc, ◌-◌, ◌^◌, ◌<◌, List, [], ◌∷◌, length, map, get_or, slice_get, Some, Bool, true, false, ◌&&◌, ℤ, pos, negsuc, ◌-ℤ◌, refl, sym, ap, subst, ◌∙◌, arith, if◌then◌else◌}
use Rattle.std.specs.Prelude.{Result, Ok, Err, IfOk}
use Rattle.std.proofs.lemmas.Int.{ints}
use Rattle.std.proofs.lemmas.Option.{none-some}
use Rattle.stk_ctype.specs.declared.kind.IntKind.{IntKind}
use Rattle.stk_ctype.specs.declared.kind.IntKind.TheVariants.{Int, Long, ULong}
use Rattle.stk_numbers.specs.Kinds.{width_of, fits, residue, wrap}
use Rattle.stk_numbers.specs.Values.{bits_of, distance}
use Rattle.stk_numbers.proofs.Bounds.{within_ends}
use Rattle.stk_numbers.proofs.Division.{quotient_in_range}
use Rattle.stk_numbers.proofs.Residues.{residue_below, residue_decoded, same_number}
use Rattle.stk_numbers.proofs.Wrapping.{wrap_in_range}
use Rattle.stk_terms.specs.declared.term.TermId.{TermId}
use Rattle.stk_terms.specs.Terms.{Stored}
use Rattle.stk_terms.specs.Fitting.{AreWidths, IsSound}
use Rattle.stk_terms.specs.Values.{bit}
use Rattle.stk_terms.proofs.Sharing.{some_one}
use Rattle.stk_values.specs.Keeping.{truth}
use Rattle.stk_values.specs.Standing.{stands}
use Rattle.stk_symbols.specs.Valued.{IsTerm, Obeys, Grown}
use Rattle.stk_symbols.proofs.Made.{term_below, term_kept}
use Rattle.stk_values.proofs.InRange.{stands_fits}
use Rattle.stk_symbols.proofs.Results.{wide_kind, narrow_kind}
use Rattle.stk_symbols.specs.Symbolic.{Symbolic, Covers, residues_of, Serves, HasKey, Shows}
use Rattle.stk_symbols.proofs.Growing.{over, under, obeyed, operand, answer}

-- two facts of an answer
pub both_ok : {X Y : Type 0} (r : Result X Y) (P Q R : X → Type 0) → IfOk r P → IfOk r Q → ((v : X) → P v → Q v → R v) → IfOk r R
both_ok (Ok v) P Q R p q f = f v p q
both_ok (Err e) P Q R p q f = tt

-- tests
truth_fits : (b : Bool) → fits Int (truth b) ≡ true
truth_fits true = refl
truth_fits false = refl

truth_bits : (b : Bool) → bit b ≡ bits_of Int (truth b)
truth_bits true = refl
truth_bits false = refl

-- addresses and their distances
pub address_fits : (z : ℤ) → fits ULong (pos (residue 64 z)) ≡ true
address_fits z = stands_fits ULong (residue 64 z) (residue_below 64 z)

and_never : (a b : Bool) → b ≡ false → (a && b) ≡ false
and_never true b e = e
and_never false b e = refl

pub distance_fits : (p q size : ℕ) → size < 2 ^ 31 → fits Long (distance p q size) ≡ true
distance_fits p q size l =
    let d : fits Long (pos size) ≡ true = within_ends (negsuc (2 ^ 63 - 1)) (pos (2 ^ 63 - 1)) (pos size) (omega (arith, ints)) (omega (arith, ints)) in
    quotient_in_range Long (wrap Long (pos p -ℤ pos q)) (pos size) (wrap_in_range Long (pos p -ℤ pos q)) d (and_never _ false refl)

-- keys
pub key_bits : (ks : List IntKind) (m : List ℤ) (key : ℕ) (k : IntKind) → Covers ks m → slice_get ks key ≡ Some k → (get_or (residues_of ks m) key 0 ≡ bits_of k (get_or m key (pos 0))) × (fits k (get_or m key (pos 0)) ≡ true)
key_bits [] m key k h e = absurd (none-some _ e)
key_bits (j ∷ ks) [] key k h e = absurd h
key_bits (j ∷ ks) (z ∷ zs) zero k h e = (ap (λ i. bits_of i z) (some_one e), ap (λ i. fits i z) (sym (some_one e)) ∙ h.0)
key_bits (j ∷ ks) (z ∷ zs) (suc key) k h e = key_bits ks zs key k h.1 e

pub key_wide : (ks : List IntKind) (key : ℕ) (k : IntKind) → slice_get ks key ≡ Some k → get_or (map width_of ks) key 0 ≡ width_of k
key_wide [] key k e = absurd (none-some _ e)
key_wide (j ∷ ks) zero k e = ap width_of (some_one e)
key_wide (j ∷ ks) (suc key) k e = key_wide ks key k e

key_within : (ks : List IntKind) (key : ℕ) (k : IntKind) → slice_get ks key ≡ Some k → key < length (map width_of ks)
key_within [] key k e = absurd (none-some _ e)
key_within (j ∷ ks) zero k e = omega arith
key_within (j ∷ ks) (suc key) k e = let l = key_within ks key k e in omega (arith, l)

pub are_widths : (ks : List IntKind) → AreWidths (map width_of ks)
are_widths [] = tt
are_widths (k ∷ ks) = (wide_kind k, narrow_kind k, are_widths ks)

-- a call that raised a store of these keys and terms
pub record Raised (s : Symbolic) (ks : List IntKind) (old new : Stored) : Type 0 where
  pub spent : ℕ
  pub grown : Grown old new spent
  pub sound : IsSound new
  pub view : over ks old ≡ s

module _ (s : Symbolic) (ks : List IntKind) (old new : Stored) (r : Raised s ks old new) (m : List ℤ) (h : Serves s m) where
  pub served : Serves (over ks old) m
  served = subst (λ u. Serves u m) (sym r.view) h

  viewed : (k : IntKind) (a : TermId) (z : ℤ) → Shows s m k a z → Shows (over ks old) m k a z
  viewed k a z p = subst (λ u. Shows u m k a z) (sym r.view) p

  abbrev numbers : ℕ → ℕ
  numbers = under ks new m

  abbrev pub obeys : Obeys new (under ks new m)
  obeys = obeyed ks old new r.spent r.grown r.sound m served

  pub operand_is : (k : IntKind) (a : TermId) (z : ℤ) → Shows s m k a z → z ≡ stands k (numbers a.0)
  operand_is k a z p = operand ks old new r.spent r.grown r.sound m k a z (viewed k a z p)

  operand_below : (k : IntKind) (a : TermId) (z : ℤ) → Shows s m k a z → numbers a.0 < 2 ^ width_of k
  operand_below k a z p = term_below new numbers (width_of k) a.0 obeys (term_kept old new r.spent (width_of k) a.0 r.grown (viewed k a z p).term)

  pub operand_fits : (k : IntKind) (a : TermId) (z : ℤ) → Shows s m k a z → fits k z ≡ true
  operand_fits k a z p = ap (fits k) (operand_is k a z p) ∙ stands_fits k (numbers a.0) (operand_below k a z p)

  pub operand_bits : (k : IntKind) (a : TermId) (z : ℤ) → Shows s m k a z → numbers a.0 ≡ bits_of k z
  operand_bits k a z p = sym (residue_decoded _ (width_of k) (numbers a.0) (operand_below k a z p)) ∙ ap (bits_of k) (sym (operand_is k a z p))

  pub shown : (k : IntKind) (v : TermId) (z : ℤ) → IsTerm new (width_of k) v.0 → fits k z ≡ true → numbers v.0 ≡ bits_of k z → Shows (over ks new) m k v z
  shown k v z = answer ks old new r.spent r.grown r.sound m k v z

  pub from_one : (j k : IntKind) (a v : TermId) (f : ℤ → ℤ) (x : ℤ) → Shows s m j a x → IsTerm new (width_of k) v.0 → fits k (f x) ≡ true → numbers v.0 ≡ bits_of k (f (stands j (numbers a.0))) → Shows (over ks new) m k v (f x)
  from_one j k a v f x p t w e = shown k v (f x) t w (e ∙ ap (λ u. bits_of k (f u)) (sym (operand_is j a x p)))

  pub from_two : (i j k : IntKind) (a b v : TermId) (f : ℤ → ℤ → ℤ) (x y : ℤ) → Shows s m i a x → Shows s m j b y → IsTerm new (width_of k) v.0 → fits k (f x y) ≡ true → numbers v.0 ≡ bits_of k (f (stands i (numbers a.0)) (stands j (numbers b.0))) → Shows (over ks new) m k v (f x y)
  from_two i j k a b v f x y p q t w e =
      let l = operand_is i a x p in
      let o = operand_is j b y q in
      shown k v (f x y) t w (e ∙ (λ n. bits_of k (f (sym l n) (sym o n))))

  pub test_of : (v : TermId) (b d : Bool) → IsTerm new 32 v.0 → numbers v.0 ≡ bit b → b ≡ d → Shows (over ks new) m Int v (truth d)
  test_of v b d t e f = shown Int v (truth d) t (truth_fits d) (e ∙ (ap bit f ∙ truth_bits d))

  pub test_one : (j : IntKind) (a v : TermId) (g : ℤ → Bool) (x : ℤ) → Shows s m j a x → IsTerm new 32 v.0 → numbers v.0 ≡ bit (g (stands j (numbers a.0))) → Shows (over ks new) m Int v (truth (g x))
  test_one j a v g x p t e = test_of v (g (stands j (numbers a.0))) (g x) t e (ap g (sym (operand_is j a x p)))

  pub test_two : (i j : IntKind) (a b v : TermId) (g : ℤ → ℤ → Bool) (x y : ℤ) → Shows s m i a x → Shows s m j b y → IsTerm new 32 v.0 → numbers v.0 ≡ bit (g (stands i (numbers a.0)) (stands j (numbers b.0))) → Shows (over ks new) m Int v (truth (g x y))
  test_two i j a b v g x y p q t e =
      let l = operand_is i a x p in
      let o = operand_is j b y q in
      test_of v (g (stands i (numbers a.0)) (stands j (numbers b.0))) (g x y) t e (λ n. g (sym l n) (sym o n))

  -- the bit of an operand that is a test
  pub tested : (a : TermId) (b : Bool) → Shows s m Int a (truth b) → numbers a.0 ≡ bit b
  tested a b p = operand_bits Int a (truth b) p ∙ sym (truth_bits b)

  -- the bits of an operand that is an address
  pub address : (a : TermId) (p : ℕ) → Shows s m ULong a (pos p) → numbers a.0 ≡ p
  address a p q = same_number _ _ (sym (operand_is ULong a (pos p) q))

  pub chosen : (k : IntKind) (a d v : TermId) (b : Bool) (x y : ℤ) → Shows s m k a x → Shows s m k d y → IsTerm new (width_of k) v.0 → numbers v.0 ≡ (if b then numbers a.0 else numbers d.0) → Shows (over ks new) m k v (if b then x else y)
  chosen k a d v true x y p q t e = shown k v x t (operand_fits k a x p) (e ∙ operand_bits k a x p)
  chosen k a d v false x y p q t e = shown k v y t (operand_fits k d y q) (e ∙ operand_bits k d y q)

  pub key_term : (key : ℕ) (k : IntKind) (v : TermId) → HasKey s key k → IsTerm new (get_or old.inputs key 0) v.0 → IsTerm new (width_of k) v.0
  key_term key k v known t =
      let here = subst (λ u. HasKey u key k) (sym r.view) known in
      subst (λ w. IsTerm new w v.0) (ap (λ i. get_or i key 0) here.inputs_are ∙ key_wide ks key k here.known) t

  pub key_shown : (key : ℕ) (k : IntKind) (v : TermId) → HasKey s key k → IsTerm new (get_or old.inputs key 0) v.0 → numbers v.0 ≡ get_or (residues_of ks m) key 0 → Shows (over ks new) m k v (get_or m key (pos 0))
  key_shown key k v known t e =
      let is = key_bits ks m key k served.covers (subst (λ u. slice_get u.kinds key ≡ Some k) (sym r.view) known.known) in
      shown k v (get_or m key (pos 0)) (key_term key k v known t) is.1 (e ∙ is.0)
