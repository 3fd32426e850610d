-- Groups, and what is dropped with them.
use Rattle.std.proofs.Common.{◌≡◌, ℕ, zero, suc, ◌≤◌, true, false, cond, ◌||◌, List, [], ◌∷◌, length, take, sym, ◌∙◌, arith}
use Rattle.std.specs.Prelude.{nat_lt}
use Rattle.std.specs.List.{list_any}
use Rattle.std.proofs.lemmas.Bool.Decides.{nat_tests}
use Rattle.stk_lex.specs.declared.token.Token.{Token}
use Rattle.stk_lex.specs.Gaps.{one_more}
use Rattle.stk_lex.specs.Spelled.{is_changing_word, opens_parenthesis, is_dropped_word}
use Rattle.stk_lex.specs.Skimming.{closing, group, drops_group, dropped}
use Rattle.stk_lex.specs.Ahead.{unchanged}
use Rattle.stk_lex.proofs.Closings.{closing_within, one_more_within}

-- a group lies among the tokens
pub group_within : (bytes : List ℕ) (ts : List Token) → group bytes ts ≤ length ts
unfolding group
group_within bytes [] = omega arith
group_within bytes (t ∷ ts) = elim (opens_parenthesis bytes t) as (λ b. cond b (one_more (closing bytes 1 ts)) 0 ≤ suc (length ts)) [
  | true ↦ one_more_within (closing bytes 1 ts) (length ts) (closing_within bytes ts 1)
  | false ↦ omega arith
]

-- what is dropped lies among the tokens
pub dropped_within : (bytes : List ℕ) (depth : ℕ) (ts : List Token) → dropped bytes depth ts ≤ length ts
unfolding dropped
dropped_within bytes depth [] = omega arith
dropped_within bytes depth (t ∷ ts) = elim (is_dropped_word bytes t) as (λ b. cond b 1 (cond (drops_group bytes depth t ts) (one_more (group bytes ts)) 0) ≤ suc (length ts)) [
  | true ↦ omega arith
  | false ↦ elim (drops_group bytes depth t ts) as (λ b. cond b (one_more (group bytes ts)) 0 ≤ suc (length ts)) [
    | true ↦ one_more_within (group bytes ts) (length ts) (group_within bytes ts)
    | false ↦ omega arith
  ]
]

lt_zero : (n : ℕ) → nat_lt n 0 ≡ false
lt_zero n = grind (arith, nat_tests)

lt_suc : (n m : ℕ) → nat_lt (suc n) (suc m) ≡ nat_lt n m
lt_suc n m = grind (arith, nat_tests)

zero_lt_suc : (m : ℕ) → nat_lt 0 (suc m) ≡ true
zero_lt_suc m = grind (arith, nat_tests)

-- an attribute that changes what is declared stands among the first tokens where fewer stand before the first one
pub changed_among : (bytes : List ℕ) (ts : List Token) (n : ℕ) → n ≤ length ts → list_any (is_changing_word bytes) (take n ts) ≡ nat_lt (unchanged bytes ts) n
unfolding unchanged
changed_among bytes [] zero h = sym (lt_zero 0)
changed_among bytes [] (suc n) h = absurd (omega arith)
changed_among bytes (t ∷ ts) zero h = sym (lt_zero (cond (is_changing_word bytes t) 0 (suc (unchanged bytes ts))))
changed_among bytes (t ∷ ts) (suc n) h =
    elim (is_changing_word bytes t) as (λ b. (b || list_any (is_changing_word bytes) (take n ts)) ≡ nat_lt (cond b 0 (suc (unchanged bytes ts))) (suc n)) [
      | true ↦ sym (zero_lt_suc n)
      | false ↦ changed_among bytes ts n (omega arith) ∙ sym (lt_suc (unchanged bytes ts) n)
    ]
