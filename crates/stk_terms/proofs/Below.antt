-- A term's number is below 2 to its width, which is from 1 to 128.
use Rattle.std.proofs.Common.{◌≡◌, ℕ, zero, suc, ◌+◌, ◌-◌, ◌*◌, ◌/◌, ◌%◌, ◌^◌, ◌<◌, ◌≤◌, Bool, true, false, List, [], ◌∷◌, ◌++◌, map, length, get_or, refl, sym, ap, subst, ◌∙◌, arith, nat_eq, nat_lt, bit_and, if◌then◌else◌}
use Rattle.std.proofs.Math.Nat.{mod-lt, mod-le, div-le_self}
use Rattle.std.proofs.lemmas.Nat.{pow_pos, and_le_l, or_lt, xor_lt, shr_le}
use Rattle.std.proofs.lemmas.List.{map-append}
use Rattle.stk_terms.specs.declared.term.TermOp.{TermOp}
use Rattle.stk_terms.specs.declared.term.TermOp.TheVariants.{Constant, Input, Not, Neg, And, Or, Xor, Add, Sub, Mul, UDiv, URem, Shl, LShr, AShr, Eq, ULt, SLt, Extract, ZeroExt, SignExt, Concat, Ite}
use Rattle.stk_terms.specs.declared.term.TermId.{TermId}
use Rattle.stk_terms.specs.Terms.{Term}
use Rattle.stk_terms.specs.Values.{evaluated, Bits, none, bit, extended, sign_bits, bits_of, width_of, width_by, number_by, arg_at}
use Rattle.stk_terms.specs.Fitting.{arity, AreWidths, AreResidues, WidthsFit, AreBelow, Fits, FitBehind}
use Rattle.stk_terms.specs.Applying.{CanApply}
use Rattle.stk_terms.proofs.Wraps.{powers, joined_below, shifted_within}
use Rattle.stk_terms.proofs.Growing.{arg_width, width_same}

pub residue_below : (ws rs : List ℕ) (k : ℕ) → AreResidues ws rs → get_or rs k 0 < 2 ^ get_or ws k 0
residue_below [] [] k h = omega arith
residue_below [] (r ∷ rs) k h = absurd h
residue_below (w ∷ ws) [] k h = absurd h
residue_below (w ∷ ws) (r ∷ rs) zero h = h.0
residue_below (w ∷ ws) (r ∷ rs) (suc k) h = residue_below ws rs k h.1

pub residues_length : (ws rs : List ℕ) → AreResidues ws rs → length rs ≡ length ws
residues_length [] [] h = refl
residues_length [] (r ∷ rs) h = absurd h
residues_length (w ∷ ws) [] h = absurd h
residues_length (w ∷ ws) (r ∷ rs) h = ap suc (residues_length ws rs h.1)

bit_below : (b : Bool) → bit b < 2 ^ 1
bit_below true = omega arith
bit_below false = omega arith

divided_below : (b : Bool) (x y n : ℕ) → x < n → (if b then 0 else x / y) < n
divided_below true x y n h = omega arith
divided_below false x y n h = omega (arith, div-le_self x y)

extended_below : (b : Bool) (x w v : ℕ) → w ≤ v → x < 2 ^ w → (if b then x else x + (2 ^ v - 2 ^ w)) < 2 ^ v
extended_below true x w v h k = omega (arith, powers w v h)
extended_below false x w v h k = omega (arith, powers w v h)

chosen_below : (b : Bool) (y z n : ℕ) → y < n → z < n → (if b then y else z) < n
chosen_below true y z n h k = h
chosen_below false y z n h k = k

below_not : (w x : ℕ) → 2 ^ w - 1 - x < 2 ^ w
below_not w x = omega (arith, pow_pos w)

below_and : (w x y : ℕ) → x < 2 ^ w → bit_and x y < 2 ^ w
below_and w x y h = omega (arith, and_le_l x y)

remainder_below : (b : Bool) (x y n : ℕ) → x < n → (if b then x else x % y) < n
remainder_below true x y n h = h
remainder_below false x y n h = omega (arith, mod-le x y)

wrapped_below : (b : Bool) (x w : ℕ) → (if b then x % 2 ^ w else 0) < 2 ^ w
wrapped_below true x w = mod-lt x (pow_pos w)
wrapped_below false x w = pow_pos w

shifted_below : (b : Bool) (x y w : ℕ) → x < 2 ^ w → (if b then x / 2 ^ y else 0) < 2 ^ w
shifted_below true x y w h = omega (arith, shr_le x y)
shifted_below false x y w h = pow_pos w

signs_below : (w x : ℕ) → sign_bits w x < 2 ^ w
signs_below w x = by (nat_lt x (2 ^ (w - 1)))
  where
    by : (b : Bool) → (if b then 0 else 2 ^ w - 1) < 2 ^ w
    by true = pow_pos w
    by false = omega (arith, pow_pos w)

filled_below : (b : Bool) (x y w : ℕ) → x < 2 ^ w → (if b then extended (w - y) w (x / 2 ^ y) else sign_bits w x) < 2 ^ w
filled_below true x y w h = let k : w - y ≤ w = omega arith in extended_below _ (x / 2 ^ y) (w - y) w k (shifted_within w x y h)
filled_below false x y w h = signs_below w x

-- the number of an operator is below 2 to its width
pub number_below : (inputs residues : List ℕ) (op : TermOp) (w0 w1 w2 x y z : ℕ) → AreResidues inputs residues → WidthsFit inputs op w0 w1 w2 → x < 2 ^ w0 → y < 2 ^ w1 → z < 2 ^ w2 → number_by residues op w0 w1 x y z < 2 ^ width_by inputs op w0 w1
number_below inputs residues (Constant w n) w0 w1 w2 x y z r f a b c = f.2
number_below inputs residues (Input k) w0 w1 w2 x y z r f a b c = residue_below inputs residues k r
number_below inputs residues Not w0 w1 w2 x y z r f a b c = below_not w0 x
number_below inputs residues Neg w0 w1 w2 x y z r f a b c = mod-lt (2 ^ w0 - x) (pow_pos w0)
number_below inputs residues And w0 w1 w2 x y z r f a b c = below_and w0 x y a
number_below inputs residues Or w0 w1 w2 x y z r f a b c = or_lt w0 x y a (subst (λ w. y < 2 ^ w) (sym f) b)
number_below inputs residues Xor w0 w1 w2 x y z r f a b c = xor_lt w0 x y a (subst (λ w. y < 2 ^ w) (sym f) b)
number_below inputs residues Add w0 w1 w2 x y z r f a b c = mod-lt (x + y) (pow_pos w0)
number_below inputs residues Sub w0 w1 w2 x y z r f a b c = mod-lt (x + (2 ^ w0 - y)) (pow_pos w0)
number_below inputs residues Mul w0 w1 w2 x y z r f a b c = mod-lt (x * y) (pow_pos w0)
number_below inputs residues UDiv w0 w1 w2 x y z r f a b c = divided_below (nat_eq y 0) x y (2 ^ w0) a
number_below inputs residues URem w0 w1 w2 x y z r f a b c = remainder_below (nat_eq y 0) x y (2 ^ w0) a
number_below inputs residues Shl w0 w1 w2 x y z r f a b c = wrapped_below (nat_lt y w0) (x * 2 ^ y) w0
number_below inputs residues LShr w0 w1 w2 x y z r f a b c = shifted_below (nat_lt y w0) x y w0 a
number_below inputs residues AShr w0 w1 w2 x y z r f a b c = filled_below (nat_lt y w0) x y w0 a
number_below inputs residues Eq w0 w1 w2 x y z r f a b c = bit_below _
number_below inputs residues ULt w0 w1 w2 x y z r f a b c = bit_below _
number_below inputs residues SLt w0 w1 w2 x y z r f a b c = bit_below _
number_below inputs residues (Extract low w) w0 w1 w2 x y z r f a b c = mod-lt (x / 2 ^ low) (pow_pos w)
number_below inputs residues (ZeroExt w) w0 w1 w2 x y z r f a b c = omega (arith, powers w0 w f.0)
number_below inputs residues (SignExt w) w0 w1 w2 x y z r f a b c = extended_below _ x w0 w f.0 a
number_below inputs residues Concat w0 w1 w2 x y z r f a b c = joined_below w0 w1 x y a b
number_below inputs residues Ite w0 w1 w2 x y z r f a b c = chosen_below (nat_eq x 1) y z (2 ^ w1) b (subst (λ w. z < 2 ^ w) (sym f.1) c)

-- terms that fit have arguments in their operator's range
pub can_apply : (inputs residues : List ℕ) (op : TermOp) (w0 w1 w2 x y : ℕ) → AreResidues inputs residues → WidthsFit inputs op w0 w1 w2 → w0 ≤ 128 → (0 < arity op → 1 ≤ w0) → x < 2 ^ w0 → y < 2 ^ w1 → CanApply residues op w0 w1 x y
can_apply inputs residues (Constant w n) w0 w1 w2 x y r f m l a b = tt
can_apply inputs residues (Input k) w0 w1 w2 x y r f m l a b = subst (λ n. k < n) (sym (residues_length inputs residues r)) f
can_apply inputs residues Not w0 w1 w2 x y r f m l a b = (m, a)
can_apply inputs residues Neg w0 w1 w2 x y r f m l a b = (m, a)
can_apply inputs residues And w0 w1 w2 x y r f m l a b = tt
can_apply inputs residues Or w0 w1 w2 x y r f m l a b = tt
can_apply inputs residues Xor w0 w1 w2 x y r f m l a b = tt
can_apply inputs residues Add w0 w1 w2 x y r f m l a b = m
can_apply inputs residues Sub w0 w1 w2 x y r f m l a b = (m, a, subst (λ w. y < 2 ^ w) (sym f) b)
can_apply inputs residues Mul w0 w1 w2 x y r f m l a b = m
can_apply inputs residues UDiv w0 w1 w2 x y r f m l a b = tt
can_apply inputs residues URem w0 w1 w2 x y r f m l a b = tt
can_apply inputs residues Shl w0 w1 w2 x y r f m l a b = m
can_apply inputs residues LShr w0 w1 w2 x y r f m l a b = m
can_apply inputs residues AShr w0 w1 w2 x y r f m l a b = (l (omega arith), m, a)
can_apply inputs residues Eq w0 w1 w2 x y r f m l a b = tt
can_apply inputs residues ULt w0 w1 w2 x y r f m l a b = tt
can_apply inputs residues SLt w0 w1 w2 x y r f m l a b = (l (omega arith), m, a, subst (λ w. y < 2 ^ w) (sym f) b)
can_apply inputs residues (Extract low w) w0 w1 w2 x y r f m l a b = (omega arith, omega arith)
can_apply inputs residues (ZeroExt w) w0 w1 w2 x y r f m l a b = tt
can_apply inputs residues (SignExt w) w0 w1 w2 x y r f m l a b = (l (omega arith), f.0, f.1, a)
can_apply inputs residues Concat w0 w1 w2 x y r f m l a b = (l (omega arith), f, a, b)
can_apply inputs residues Ite w0 w1 w2 x y r f m l a b = tt

-- each number is below 2 to its width
pub record AllBelow (done : List Bits) : Type 0 where
  pub below : (i : ℕ) → (get_or done i none).number < 2 ^ (get_or done i none).width

-- each width is at most 128, and at least 1
pub record AllWide (ws : List ℕ) : Type 0 where
  pub most : (i : ℕ) → get_or ws i 0 ≤ 128
  pub least : (i : ℕ) → i < length ws → 1 ≤ get_or ws i 0

pub arg_below : (done : List Bits) (args : List TermId) (k : ℕ) → AllBelow done → (arg_at none done args k).number < 2 ^ (arg_at none done args k).width
arg_below done [] k h = omega arith
arg_below done (a ∷ args) zero h = h.below a.0
arg_below done (a ∷ args) (suc k) h = arg_below done args k h

pub arg_most : (ws : List ℕ) (args : List TermId) (k : ℕ) → AllWide ws → arg_at 0 ws args k ≤ 128
arg_most ws [] k h = omega arith
arg_most ws (a ∷ args) zero h = h.most a.0
arg_most ws (a ∷ args) (suc k) h = arg_most ws args k h

pub arg_least : (ws : List ℕ) (args : List TermId) (k : ℕ) → AllWide ws → AreBelow (length ws) args → k < length args → 1 ≤ arg_at 0 ws args k
arg_least ws [] k h b l = absurd (omega arith)
arg_least ws (a ∷ args) zero h b l = h.least a.0 b.0
arg_least ws (a ∷ args) (suc k) h b l = arg_least ws args k h b.1 (omega arith)

-- behind a list: what stood there, or the last, or nothing
pub behind_one : {A : Type 0} (P : A → Type 0) (d : A) (xs : List A) (x : A) → ((i : ℕ) → P (get_or xs i d)) → P x → (i : ℕ) → P (get_or (xs ++ x ∷ []) i d)
behind_one P d [] x h p zero = p
behind_one P d [] x h p (suc i) = h (suc i)
behind_one P d (y ∷ xs) x h p zero = h zero
behind_one P d (y ∷ xs) x h p (suc i) = behind_one P d xs x (λ j. h (suc j)) p i

pub behind_within : {A : Type 0} (P : A → Type 0) (d : A) (xs : List A) (x : A) → ((i : ℕ) → i < length xs → P (get_or xs i d)) → P x → (i : ℕ) → i < length (xs ++ x ∷ []) → P (get_or (xs ++ x ∷ []) i d)
behind_within P d [] x h p zero l = p
behind_within P d [] x h p (suc i) l = absurd (omega arith)
behind_within P d (y ∷ xs) x h p zero l = h zero (omega arith)
behind_within P d (y ∷ xs) x h p (suc i) l = behind_within P d xs x (λ j m. h (suc j) (omega arith)) p i (omega arith)

bits_below : (inputs residues : List ℕ) (done : List Bits) (t : Term) → AreResidues inputs residues → Fits inputs (map (λ b. b.width) done) t → AllBelow done → (bits_of inputs residues done t).number < 2 ^ (bits_of inputs residues done t).width
bits_below inputs residues done t r f b =
    let widths = subst (λ w2. WidthsFit inputs t.op (arg_at none done t.args 0).width (arg_at none done t.args 1).width w2) (arg_width done t.args 2) (subst (λ w1. WidthsFit inputs t.op (arg_at none done t.args 0).width w1 (arg_at 0 (map (λ b. b.width) done) t.args 2)) (arg_width done t.args 1) (subst (λ w0. WidthsFit inputs t.op w0 (arg_at 0 (map (λ b. b.width) done) t.args 1) (arg_at 0 (map (λ b. b.width) done) t.args 2)) (arg_width done t.args 0) f.widths_fit)) in
    number_below inputs residues t.op (arg_at none done t.args 0).width (arg_at none done t.args 1).width (arg_at none done t.args 2).width (arg_at none done t.args 0).number (arg_at none done t.args 1).number (arg_at none done t.args 2).number r widths (arg_below done t.args 0 b) (arg_below done t.args 1 b) (arg_below done t.args 2 b)

-- the widths behind one more
one_wider : (inputs residues : List ℕ) (done : List Bits) (t : Term) → map (λ b. b.width) (done ++ bits_of inputs residues done t ∷ []) ≡ map (λ b. b.width) done ++ width_of inputs (map (λ b. b.width) done) t ∷ []
one_wider inputs residues done t = map-append (λ b. b.width) done (bits_of inputs residues done t ∷ []) ∙ ap (λ w. map (λ b. b.width) done ++ w ∷ []) (sym (width_same inputs residues done t))

pub all_below : (inputs residues : List ℕ) (done : List Bits) (ts : List Term) → AreResidues inputs residues → FitBehind inputs (map (λ b. b.width) done) ts → AllBelow done → AllBelow (evaluated (bits_of inputs residues) done ts)
all_below inputs residues done [] r f b = b
all_below inputs residues done (t ∷ ts) r f b =
    let v = bits_of inputs residues done t in
    let more : AllBelow (done ++ v ∷ []) = record { below = behind_one (λ x. x.number < 2 ^ x.width) none done v b.below (bits_below inputs residues done t r f.0 b) } in
    all_below inputs residues (done ++ v ∷ []) ts r (subst (λ ws. FitBehind inputs ws ts) (sym (one_wider inputs residues done t)) f.1) more

input_wide : (ws : List ℕ) (k : ℕ) → AreWidths ws → k < length ws → (1 ≤ get_or ws k 0) × (get_or ws k 0 ≤ 64)
input_wide [] k h l = absurd (omega arith)
input_wide (w ∷ ws) zero h l = (h.0, h.1)
input_wide (w ∷ ws) (suc k) h l = input_wide ws k h.2 (omega arith)

width_wide : (inputs : List ℕ) (op : TermOp) (w0 w1 w2 : ℕ) → AreWidths inputs → WidthsFit inputs op w0 w1 w2 → w0 ≤ 128 → w1 ≤ 128 → (0 < arity op → 1 ≤ w0) → (1 < arity op → 1 ≤ w1) → (1 ≤ width_by inputs op w0 w1) × (width_by inputs op w0 w1 ≤ 128)
width_wide inputs (Constant w n) w0 w1 w2 i f a b c d = (f.0, f.1)
width_wide inputs (Input k) w0 w1 w2 i f a b c d = let h = input_wide inputs k i f in (h.0, omega (arith, h.1))
width_wide inputs Not w0 w1 w2 i f a b c d = (c (omega arith), a)
width_wide inputs Neg w0 w1 w2 i f a b c d = (c (omega arith), a)
width_wide inputs And w0 w1 w2 i f a b c d = (c (omega arith), a)
width_wide inputs Or w0 w1 w2 i f a b c d = (c (omega arith), a)
width_wide inputs Xor w0 w1 w2 i f a b c d = (c (omega arith), a)
width_wide inputs Add w0 w1 w2 i f a b c d = (c (omega arith), a)
width_wide inputs Sub w0 w1 w2 i f a b c d = (c (omega arith), a)
width_wide inputs Mul w0 w1 w2 i f a b c d = (c (omega arith), a)
width_wide inputs UDiv w0 w1 w2 i f a b c d = (c (omega arith), a)
width_wide inputs URem w0 w1 w2 i f a b c d = (c (omega arith), a)
width_wide inputs Shl w0 w1 w2 i f a b c d = (c (omega arith), a)
width_wide inputs LShr w0 w1 w2 i f a b c d = (c (omega arith), a)
width_wide inputs AShr w0 w1 w2 i f a b c d = (c (omega arith), a)
width_wide inputs Eq w0 w1 w2 i f a b c d = (omega arith, omega arith)
width_wide inputs ULt w0 w1 w2 i f a b c d = (omega arith, omega arith)
width_wide inputs SLt w0 w1 w2 i f a b c d = (omega arith, omega arith)
width_wide inputs (Extract low w) w0 w1 w2 i f a b c d = (f.0, omega (arith, f.1))
width_wide inputs (ZeroExt w) w0 w1 w2 i f a b c d = (omega (arith, f.0, c (omega arith)), f.1)
width_wide inputs (SignExt w) w0 w1 w2 i f a b c d = (omega (arith, f.0, c (omega arith)), f.1)
width_wide inputs Concat w0 w1 w2 i f a b c d = (omega (arith, c (omega arith)), f)
width_wide inputs Ite w0 w1 w2 i f a b c d = (d (omega arith), b)

pub term_wide : (inputs ws : List ℕ) (t : Term) → AreWidths inputs → Fits inputs ws t → AllWide ws → (1 ≤ width_of inputs ws t) × (width_of inputs ws t ≤ 128)
term_wide inputs ws t i f h =
    width_wide inputs t.op (arg_at 0 ws t.args 0) (arg_at 0 ws t.args 1) (arg_at 0 ws t.args 2) i f.widths_fit (arg_most ws t.args 0 h) (arg_most ws t.args 1 h)
    (λ l. arg_least ws t.args 0 h f.exist (subst (λ n. 0 < n) (sym f.arity_is) l)) (λ l. arg_least ws t.args 1 h f.exist (subst (λ n. 1 < n) (sym f.arity_is) l))

pub all_wide : (inputs ws : List ℕ) (ts : List Term) → AreWidths inputs → FitBehind inputs ws ts → AllWide ws → AllWide (evaluated (width_of inputs) ws ts)
all_wide inputs ws [] i f h = h
all_wide inputs ws (t ∷ ts) i f h =
    let w = width_of inputs ws t in
    let p = term_wide inputs ws t i f.0 h in
    let more : AllWide (ws ++ w ∷ []) = record { most = behind_one (λ x. x ≤ 128) 0 ws w h.most p.1; least = behind_within (λ x. 1 ≤ x) 0 ws w h.least p.0 } in
    all_wide inputs (ws ++ w ∷ []) ts i f.1 more

pub no_bits : AllBelow []
no_bits = record { below = λ i. omega arith }

pub no_widths : AllWide []
no_widths = record { most = λ i. omega arith; least = λ i l. absurd (omega arith) }
