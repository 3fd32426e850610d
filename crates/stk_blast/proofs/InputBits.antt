-- Residues and the bits of input gates.
use Rattle.std.proofs.Common.{◌≡◌, ℕ, zero, suc, ◌+◌, ◌*◌, ◌/◌, ◌%◌, ◌^◌, ◌<◌, Bool, false, nat_eq, List, [], ◌∷◌, length, get_or, refl, sym, ap, subst, ◌∙◌, arith, length-append}
use Rattle.std.specs.Prelude.{sum}
use Rattle.std.proofs.lemmas.List.Sums.{sum_by-cons}
use Rattle.std.proofs.lemmas.List.{get_or_append_left, get_or-append-add}
use Rattle.std.proofs.Math.Nat.{pow-succ'}
use Rattle.stk_gates.specs.Edges.{edge_value}
use Rattle.stk_gates.specs.Laws.{values_for}
use Rattle.stk_gates.proofs.Edges.{edge_value-plain}
use Rattle.stk_gates.proofs.Decided.{every_input}
use Rattle.stk_arith.specs.Rows.{bit, number}
use Rattle.stk_arith.proofs.Numbers.{number-below}
use Rattle.stk_arith.specs.Words.{row_from}
use Rattle.stk_terms.specs.Fitting.{AreResidues}
use Rattle.stk_terms.specs.Values.{number_at}
use Rattle.stk_blast.specs.Inputs.{residues_from}
use Rattle.stk_blast.specs.Laws.{low_bits, input_bits, GatesGiveResidues, BitsAreEnough, BitsGiveResidues, RowsAreTerms}
use Rattle.stk_blast.proofs.Residues.{length-row_from}

in_range : (first : ℕ) (ws : List ℕ) (gates : ℕ → Bool) → AreResidues ws (residues_from first ws gates)
in_range first [] gates = tt
in_range first (w ∷ ws) gates = (subst (λ n. number gates (row_from first w) < 2 ^ n) (length-row_from first w) (number-below gates (row_from first w)), in_range (first + w) ws gates)

pub give : GatesGiveResidues
give ws gates = in_range 1 ws gates

length-low_bits : (w n : ℕ) → length (low_bits w n) ≡ w
length-low_bits zero n = refl
length-low_bits (suc w) n = ap suc (length-low_bits w (n / 2))

pub enough : BitsAreEnough
enough [] [] h = refl
enough (w ∷ ws) (r ∷ rs) h = length-append (low_bits w r) (input_bits ws rs) ∙ ((λ j. length-low_bits w r j + enough ws rs h.1 j) ∙ sym (sum_by-cons (λ x. x) w ws))
enough [] (r ∷ rs) h = absurd h
enough (w ∷ ws) [] h = absurd h

odd_bit : (m : ℕ) → m < 2 → bit (nat_eq m 1) ≡ m
odd_bit zero h = refl
odd_bit (suc zero) h = refl
odd_bit (suc (suc m)) h = absurd (omega arith)

read_low : (gates : ℕ → Bool) (w n first : ℕ) → ((k : ℕ) → k < w → gates (first + k) ≡ get_or (low_bits w n) k false) → n < 2 ^ w → number gates (row_from first w) ≡ n
read_low gates zero n first each l = let none : 2 ^ 0 ≡ 1 = refl in omega arith
read_low gates (suc w) n first each l =
    let double : 2 ^ suc w ≡ 2 * 2 ^ w = pow-succ' 2 w in
    let here : gates first ≡ nat_eq (n % 2) 1 = ap gates (let e : first ≡ first + 0 = omega arith in e) ∙ each 0 (omega arith) in
    let low : bit (edge_value gates (record { 0 = 2 * first })) ≡ n % 2 = ap bit (edge_value-plain gates first ∙ here) ∙ odd_bit (n % 2) (omega arith) in
    let high : number gates (row_from (first + 1) w) ≡ n / 2 = read_low gates w (n / 2) (first + 1) (λ k h. ap gates (let e : first + 1 + k ≡ first + suc k = omega arith in e) ∙ each (suc k) (omega arith)) (omega arith) in
    let all : n % 2 + 2 * (n / 2) ≡ n = omega arith in
    (λ j. low j + 2 * high j) ∙ all

read_all : (gates : ℕ → Bool) (first : ℕ) (ws rs : List ℕ) → AreResidues ws rs → ((k : ℕ) → k < sum ws → gates (first + k) ≡ get_or (input_bits ws rs) k false) → residues_from first ws gates ≡ rs
read_all gates first [] [] h each = refl
read_all gates first (w ∷ ws) (r ∷ rs) h each =
    let long = length-low_bits w r in
    let total : sum (w ∷ ws) ≡ w + sum ws = sum_by-cons (λ x. x) w ws in
    let here = read_low gates w r first (λ k l. each k (omega arith) ∙ get_or_append_left (low_bits w r) (input_bits ws rs) false k (omega arith)) h.0 in
    let rest = read_all gates (first + w) ws rs h.1
    (λ k l. ap gates (let e : first + w + k ≡ first + (w + k) = omega arith in e) ∙ (each (w + k) (omega arith) ∙ (ap (λ n. get_or (input_bits (w ∷ ws) (r ∷ rs)) (n + k) false) (sym long) ∙ get_or-append-add (low_bits w r) (input_bits ws rs) k false))) in
    λ j. here j ∷ rest j
read_all gates first [] (r ∷ rs) h each = absurd h
read_all gates first (w ∷ ws) [] h each = absurd h

pub given : BitsGiveResidues
given ws rs t gates h has = read_all gates 1 ws rs h (λ k l. has.each k (let m = has.many in let e = enough ws rs h in omega arith))

pub terms : RowsAreTerms
terms t s i row rs ordered inputs is h =
    let bits = input_bits s.inputs rs in
    let g = values_for t bits in
    let both = every_input t bits ordered (enough s.inputs rs h ∙ sym inputs) in
    is.value g both.0 ∙ ap (λ r. number_at s r i) (given s.inputs rs t g h both.1)
