-- Rows whose highest edge is inverted.
use Rattle.std.proofs.Common.{◌≡◌, ℕ, ◌+◌, ◌-◌, ◌*◌, ◌%◌, ◌^◌, ◌<◌, Bool, true, false, not, List, length, take, get_or, set, sym, ap, ◌∙◌, arith, get_or-set_same}
use Rattle.std.proofs.lemmas.List.{take_all, take-set, length-set}
use Rattle.std.proofs.Math.Nat.{mul-zero, pow-succ', mod-eq_of_lt, add-mod_right}
use Rattle.std.proofs.Common.{suc, if◌then◌else◌}
use Rattle.stk_gates.specs.declared.edge.Edge.{Edge}
use Rattle.stk_gates.specs.Edges.{edge_value}
use Rattle.stk_arith.specs.Rows.{bit, number, signed_place}
use Rattle.stk_arith.proofs.Numbers.{number-take_more, number-take_below}

turned : (low p q : ℕ) (v : Bool) → q ≡ 2 * p → low < p → low + p * bit (not v) ≡ (low + p * bit v + p) % q
turned low p q true e l =
    let one : low + p * 0 ≡ low = let z = mul-zero p in omega arith in
    let all : low + p * 1 + p ≡ low + q = omega arith in
    one ∙ sym (ap (λ n. n % q) all ∙ (add-mod_right low q ∙ mod-eq_of_lt (omega arith)))
turned low p q false e l =
    let all : low + p * 0 + p ≡ low + p * 1 = let z = mul-zero p in omega arith in
    sym (ap (λ n. n % q) all ∙ mod-eq_of_lt (omega arith))

pub top_turned : (gates : ℕ → Bool) (row items : List Edge) (e d : Edge) → 0 < length row → items ≡ set row (length row - 1) e → edge_value gates e ≡ not (edge_value gates (get_or row (length row - 1) d))
    → number gates items ≡ signed_place (length row) (number gates row)
top_turned gates row items e d some is value =
    let m = length row - 1 in
    let q = set row m e in
    let more : m + 1 ≡ length row = omega arith in
    let within : m < length row = omega arith in
    let long : length q ≡ length row = length-set row m e in
    let v = edge_value gates (get_or row m d) in
    let low = number gates (take m row) in
    let all_row : number gates row ≡ low + 2 ^ m * bit v = ap (number gates) (sym (take_all (m + 1) row (omega arith))) ∙ number-take_more gates row m d within in
    let all_q : number gates q ≡ low + 2 ^ m * bit (not v) =
    ap (number gates) (sym (take_all (m + 1) q (omega arith))) ∙ (number-take_more gates q m d (omega arith) ∙ ((λ j. number gates (take-set row m e j) + 2 ^ m * bit (edge_value gates (get_or-set_same row m e d within j))) ∙ ap (λ b. low + 2 ^ m * bit b) value)) in
    let double : 2 ^ length row ≡ 2 * 2 ^ m = ap (λ n. 2 ^ n) (let s : length row ≡ suc m = omega arith in s) ∙ pow-succ' 2 m in
    ap (number gates) is ∙ (all_q ∙ (turned low (2 ^ m) (2 ^ length row) v double (number-take_below gates row m (omega arith)) ∙ ap (λ n. (n + 2 ^ m) % 2 ^ length row) (sym all_row)))

pub when_signed : (s x y : Bool) (e : Bool) → s ≡ true → e ≡ x → e ≡ (if s then x else y)
when_signed true x y e h k = k
when_signed false x y e h k = absurd cc
