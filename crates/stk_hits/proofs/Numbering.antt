-- The maps are those of the numbers, in order.
use Rattle.std.proofs.Common.{◌≡◌, ℕ, zero, suc, ◌+◌, ◌*◌, ◌/◌, ◌%◌, ◌^◌, ◌<◌, ◌≤◌, ◌⊎◌, inl, inr, Bool, true, false, List, [], ◌∷◌, ◌++◌, ◌-◌, length, drop, get_or, drop-cons, add-one, append_assoc, ℤ, pos, negsuc, refl, sym, ap, ◌∙◌, subst, arith}
use Rattle.std.proofs.Math.Nat.{mod-eq_of_lt, mod-lt, div-add-mod, div-lt_iff_lt-mul, mul-le-mul_left, mul-le-mul_right, lt-mul-div-succ, mul-div-le, suc-mul}
use Rattle.std.proofs.lemmas.Nat.{pow-add, pow_pos, div-mul-add, mod-mul-add}
use Rattle.std.proofs.lemmas.Int.{ints}
use Rattle.stk_ctype.specs.declared.kind.IntKind.{IntKind}
use Rattle.stk_ctype.specs.declared.kind.IntKind.TheVariants as kind
use Rattle.stk_numbers.specs.Kinds.{width_of, is_bool, fits, wrap, residue}
use Rattle.stk_numbers.proofs.Bounds.{both_ends}
use Rattle.stk_numbers.proofs.Wrapping.{wrap_in_range, wrap_congruent, wrap_only}
use Rattle.stk_numbers.proofs.Residues.{residue_below}
use Rattle.stk_hits.specs.InputMaps.{bits_in, Covers, Precedes, map_at, HasNumber, AreNumbered, AreMapsByNumber}

-- ---- numbers of a kind and their residues

by_bool : (P : IntKind → Type 0) (k : IntKind) → (is_bool k ≡ false → P k) → P kind.Bool → P k
by_bool P kind.Bool f b = b
by_bool P kind.Char f b = f refl
by_bool P kind.SChar f b = f refl
by_bool P kind.UChar f b = f refl
by_bool P kind.Short f b = f refl
by_bool P kind.UShort f b = f refl
by_bool P kind.Int f b = f refl
by_bool P kind.UInt f b = f refl
by_bool P kind.Long f b = f refl
by_bool P kind.ULong f b = f refl
by_bool P kind.LLong f b = f refl
by_bool P kind.ULLong f b = f refl

truth_residue : (q : ℕ) → q < 2 → residue 1 (wrap kind.Bool (pos q)) ≡ q
truth_residue zero h = refl
truth_residue (suc zero) h = refl
truth_residue (suc (suc n)) h = absurd (omega (arith, h))

-- a residue's number has it
pub residue_wrap : (k : IntKind) (q : ℕ) → q < 2 ^ width_of k → residue (width_of k) (wrap k (pos q)) ≡ q
residue_wrap k q = by_bool (λ j. q < 2 ^ width_of j → residue (width_of j) (wrap j (pos q)) ≡ q) k (λ other h. wrap_congruent k (pos q) other ∙ mod-eq_of_lt h) (truth_residue q)

truth_back : (z : ℤ) → fits kind.Bool z ≡ true → wrap kind.Bool (pos (residue 1 z)) ≡ z
truth_back (pos zero) h = refl
truth_back (pos (suc zero)) h = refl
truth_back (pos (suc (suc n))) h =
    let high = (both_ends (pos 0) (pos 1) (pos (suc (suc n))) h).1 in
    absurd (omega (arith, ints))
truth_back (negsuc n) h = cc

-- and a number is its residue's
wrap_residue : (k : IntKind) (z : ℤ) → fits k z ≡ true → wrap k (pos (residue (width_of k) z)) ≡ z
wrap_residue k z = by_bool (λ j. fits j z ≡ true → wrap j (pos (residue (width_of j) z)) ≡ z) k
    (λ other h. sym (wrap_only k (pos (residue (width_of k) z)) z other h (sym (mod-eq_of_lt (residue_below (width_of k) z))))) (truth_back z)

-- ---- the highest digit of a number, and the rest

pub first_below : (P D n : ℕ) → 0 < D → n < P * D → n / D < P
first_below P D n positive h = (div-lt_iff_lt-mul positive).1 h

joined_below : (P D q m : ℕ) → q < P → m < D → q * D + m < P * D
joined_below P D q m h l =
    let up : suc q * D ≤ P * D = mul-le-mul_right D (suc_of h) in
    let next : suc q * D ≡ q * D + D = suc-mul q D in
    omega arith
  where
    suc_of : {a b : ℕ} → a < b → suc a ≤ b
    suc_of h = omega arith

joined_first : (D q m : ℕ) → m < D → (q * D + m) / D ≡ q
joined_first D q m l = div-mul-add q D m l

joined_rest : (D q m : ℕ) → m < D → (q * D + m) % D ≡ m
joined_rest D q m l = mod-mul-add q D m l

lower_first : (D m n : ℕ) → 0 < D → m / D < n / D → m < n
lower_first D m n positive h =
    let more : m / D + 1 ≤ n / D = omega arith in
    let below : m < D * (m / D + 1) = lt-mul-div-succ m positive in
    let up : D * (m / D + 1) ≤ D * (n / D) = mul-le-mul_left D more in
    let under : D * (n / D) ≤ n = mul-div-le n D in
    omega arith

lower_rest : (D m n : ℕ) → m / D ≡ n / D → m % D < n % D → m < n
lower_rest D m n same h =
    let one : D * (m / D) + m % D ≡ m = div-add-mod m D in
    let two : D * (n / D) + n % D ≡ n = div-add-mod n D in
    let top : D * (m / D) ≡ D * (n / D) = ap (λ q. D * q) same in
    omega arith

-- ---- maps

pub within : (w b n : ℕ) → n < 2 ^ (w + b) → n < 2 ^ w * 2 ^ b
within w b n h = subst (λ u. n < u) (pow-add 2 w b) h

covers : (ks : List IntKind) (n : ℕ) → n < 2 ^ bits_in ks → Covers ks (map_at ks n)
covers [] n h = tt
covers (k ∷ ks) n h = (wrap_in_range k (pos (n / 2 ^ bits_in ks)), covers ks (n % 2 ^ bits_in ks) (mod-lt n (pow_pos (bits_in ks))))

numbered : (ks : List IntKind) (xs : List ℤ) → Covers ks xs → HasNumber ks xs
numbered [] [] h = record { number = 0; below = omega arith; is = refl }
numbered [] (x ∷ xs) h = absurd h
numbered (k ∷ ks) [] h = absurd h
numbered (k ∷ ks) (x ∷ xs) h =
    let rest = numbered ks xs h.1 in
    let D = 2 ^ bits_in ks in
    let q = residue (width_of k) x in
    record {
      number = q * D + rest.number;
      below = subst (λ u. q * D + rest.number < u) (sym (pow-add 2 (width_of k) (bits_in ks))) (joined_below (2 ^ width_of k) D q rest.number (residue_below (width_of k) x) rest.below);
      is = joined (ap (λ u. wrap k (pos u)) (joined_first D q rest.number rest.below) ∙ wrap_residue k x h.0) (ap (map_at ks) (joined_rest D q rest.number rest.below) ∙ rest.is);
    }
  where
    joined : {y : ℤ} {ys : List ℤ} → y ≡ x → ys ≡ xs → y ∷ ys ≡ x ∷ xs
    joined p r = λ i. p i ∷ r i

ordered : (ks : List IntKind) (m n : ℕ) → m < 2 ^ bits_in ks → n < 2 ^ bits_in ks → Precedes ks (map_at ks m) (map_at ks n) → m < n
ordered [] m n hm hn p = absurd p
ordered (k ∷ ks) m n hm hn p =
    let D = 2 ^ bits_in ks in
    let positive : 0 < D = pow_pos (bits_in ks) in
    let one : residue (width_of k) (wrap k (pos (m / D))) ≡ m / D = residue_wrap k (m / D) (first_below (2 ^ width_of k) D m positive (within (width_of k) (bits_in ks) m hm)) in
    let two : residue (width_of k) (wrap k (pos (n / D))) ≡ n / D = residue_wrap k (n / D) (first_below (2 ^ width_of k) D n positive (within (width_of k) (bits_in ks) n hn)) in
    elim p [
      | inl h ↦ lower_first D m n positive (subst (λ u. u < n / D) one (subst (λ u. residue (width_of k) (wrap k (pos (m / D))) < u) two h))
      | inr h ↦ lower_rest D m n (sym one ∙ (h.0 ∙ two)) (ordered ks (m % D) (n % D) (mod-lt m positive) (mod-lt n positive) h.1)
    ]

pub by_number : AreMapsByNumber
by_number ks = record { covers = covers ks; numbered = numbered ks; ordered = ordered ks }

-- ---- the loop

list_behind : (ks : List IntKind) (i : ℕ) (d : IntKind) → i < length ks → drop i ks ≡ get_or ks i d ∷ drop (i + 1) ks
list_behind ks i d h = drop-cons ks i d h ∙ ap (λ n. get_or ks i d ∷ drop n ks) (sym (add-one i))

-- one more key: what has been made, what is left of the number, and how many bits the keys behind have
pub goes_on : (ks : List IntKind) (i n left bits w : ℕ) (made : List ℤ) (x : ℤ) (d : IntKind) → i < length ks → made ++ map_at (drop i ks) left ≡ map_at ks n → bits ≡ bits_in (drop i ks) → w ≡ width_of (get_or ks i d) → x ≡ wrap (get_or ks i d) (pos (left / 2 ^ (bits - w)))
    → ((made ++ x ∷ []) ++ map_at (drop (i + 1) ks) (left % 2 ^ (bits - w)) ≡ map_at ks n) × (bits - w ≡ bits_in (drop (i + 1) ks))
goes_on ks i n left bits w made x d h is count wide value =
    let k = get_or ks i d in
    let at = list_behind ks i d h in
    let all : bits ≡ width_of k + bits_in (drop (i + 1) ks) = count ∙ ap bits_in at in
    let rest : bits - w ≡ bits_in (drop (i + 1) ks) = omega arith in
    let first : x ≡ wrap k (pos (left / 2 ^ bits_in (drop (i + 1) ks))) = value ∙ ap (λ u. wrap k (pos (left / 2 ^ u))) rest in (
      append_assoc made (x ∷ []) (map_at (drop (i + 1) ks) (left % 2 ^ (bits - w)))
          ∙ (ap (λ u. made ++ x ∷ map_at (drop (i + 1) ks) (left % 2 ^ u)) rest
          ∙ (ap (λ u. made ++ u ∷ map_at (drop (i + 1) ks) (left % 2 ^ bits_in (drop (i + 1) ks))) first
          ∙ (ap (λ u. made ++ map_at u left) (sym at) ∙ is))),
      rest,
    )
