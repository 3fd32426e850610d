-- Where brackets close: what is open twice closes in two steps.
use Rattle.std.proofs.Common.{◌≡◌, ℕ, zero, suc, ◌+◌, ◌-◌, ◌<◌, ◌≤◌, true, false, cond, List, [], ◌∷◌, length, drop, refl, ap, sym, ◌∙◌, arith}
use Rattle.std.specs.Prelude.{◌==◌}
use Rattle.std.proofs.lemmas.Bool.{ne_eqb}
use Rattle.stk_lex.specs.declared.token.Token.{Token}
use Rattle.stk_lex.specs.Gaps.{one_more}
use Rattle.stk_lex.specs.Spelled.{opens, closes, depth_behind}
use Rattle.stk_lex.specs.Skimming.{closing}
use Rattle.stk_lex.specs.Ahead.{both}

pub suc_test : (n : ℕ) → (suc n == 0) ≡ false
suc_test n = ne_eqb (suc n) 0 (λ e. absurd (omega arith))

pub one_more_some : (n : ℕ) → 0 < n → one_more n ≡ suc n
one_more_some zero h = absurd (omega arith)
one_more_some (suc n) h = refl

pub one_more_within : (n m : ℕ) → n ≤ m → one_more n ≤ suc m
one_more_within zero m h = omega arith
one_more_within (suc n) m h = omega arith

-- a bracket that closes lies among the tokens
pub closing_within : (bytes : List ℕ) (ts : List Token) (depth : ℕ) → closing bytes depth ts ≤ length ts
unfolding closing
closing_within bytes [] depth = omega arith
closing_within bytes (t ∷ ts) depth =
    elim (depth_behind bytes depth t == 0) as (λ b. cond b 1 (one_more (closing bytes (depth_behind bytes depth t) ts)) ≤ suc (length ts)) [
      | true ↦ omega arith
      | false ↦ one_more_within (closing bytes (depth_behind bytes depth t) ts) (length ts) (closing_within bytes ts (depth_behind bytes depth t))
    ]

-- a depth above another is changed by a token as the other one is
depth_more : (bytes : List ℕ) (t : Token) (a b : ℕ) → 0 < a → depth_behind bytes (a + b) t ≡ depth_behind bytes a t + b
unfolding depth_behind
depth_more bytes t a b some =
    elim (opens bytes t) as (λ o. cond o (a + b + 1) (cond (closes bytes t) (a + b - 1) (a + b)) ≡ cond o (a + 1) (cond (closes bytes t) (a - 1) a) + b) [
      | true ↦ omega arith
      | false ↦ elim (closes bytes t) as (λ o. cond o (a + b - 1) (a + b) ≡ cond o (a - 1) a + b) [ true ↦ omega arith | false ↦ refl ]
    ]

closing_end : (bytes : List ℕ) (t : Token) (ts : List Token) (depth : ℕ) → depth_behind bytes depth t ≡ 0 → closing bytes depth (t ∷ ts) ≡ 1
unfolding closing
closing_end bytes t ts depth e = rw e refl

closing_on : (bytes : List ℕ) (t : Token) (ts : List Token) (depth n : ℕ) → depth_behind bytes depth t ≡ suc n → closing bytes depth (t ∷ ts) ≡ one_more (closing bytes (suc n) ts)
unfolding closing
closing_on bytes t ts depth n e = rw (e, suc_test n) refl

both_one : (n : ℕ) → both 1 n ≡ one_more n
both_one zero = refl
both_one (suc n) = omega arith

both_more : (t : Token) (ts : List Token) (a : ℕ) (f : List Token → ℕ) → both (one_more a) (f (drop (one_more a) (t ∷ ts))) ≡ one_more (both a (f (drop a ts)))
both_more t ts zero f = refl
both_more t ts (suc a) f = lifted a (f (drop (suc a) ts))
  where
    lifted : (a n : ℕ) → both (suc (suc a)) n ≡ one_more (both (suc a) n)
    lifted a zero = refl
    lifted a (suc n) = omega (arith, one_more_some (suc a + suc n) (omega arith))

-- what is open so often closes in two steps
pub closing_both : (bytes : List ℕ) (ts : List Token) (a b : ℕ) → closing bytes (suc a + suc b) ts ≡ both (closing bytes (suc a) ts) (closing bytes (suc b) (drop (closing bytes (suc a) ts) ts))
unfolding closing
closing_both bytes [] a b = refl
closing_both bytes (t ∷ ts) a b = stepped (closing_both bytes ts) (depth_behind bytes (suc a) t) refl
  where
    more : depth_behind bytes (suc a + suc b) t ≡ depth_behind bytes (suc a) t + suc b
    more = depth_more bytes t (suc a) (suc b) (omega arith)

    stepped : ((a b : ℕ) → closing bytes (suc a + suc b) ts ≡ both (closing bytes (suc a) ts) (closing bytes (suc b) (drop (closing bytes (suc a) ts) ts))) → (d : ℕ) → depth_behind bytes (suc a) t ≡ d → closing bytes (suc a + suc b) (t ∷ ts) ≡ both (closing bytes (suc a) (t ∷ ts)) (closing bytes (suc b) (drop (closing bytes (suc a) (t ∷ ts)) (t ∷ ts)))
    stepped rest zero e =
        let all : depth_behind bytes (suc a + suc b) t ≡ suc b = omega (arith, more, e) in
        rw (closing_end bytes t ts (suc a) e, closing_on bytes t ts (suc a + suc b) b all) (sym (both_one (closing bytes (suc b) ts)))
    stepped rest (suc d) e =
        let all : depth_behind bytes (suc a + suc b) t ≡ suc (d + suc b) = omega (arith, more, e) in
        let same : suc (d + suc b) ≡ suc d + suc b = omega arith in
        rw (closing_on bytes t ts (suc a) d e, closing_on bytes t ts (suc a + suc b) (d + suc b) all, same, rest d b)
        (sym (both_more t ts (closing bytes (suc d) ts) (closing bytes (suc b))))

-- up to where the bracket closes that is open before a token
pub closing_open : (bytes : List ℕ) (t : Token) (ts : List Token) → opens bytes t ≡ true → closing bytes 1 (t ∷ ts) ≡ one_more (both (closing bytes 1 ts) (closing bytes 1 (drop (closing bytes 1 ts) ts)))
unfolding depth_behind
closing_open bytes t ts opened = closing_on bytes t ts 1 1 (rw opened refl) ∙ ap one_more (closing_both bytes ts 0 0)

pub closing_close : (bytes : List ℕ) (t : Token) (ts : List Token) → opens bytes t ≡ false → closes bytes t ≡ true → closing bytes 1 (t ∷ ts) ≡ 1
unfolding depth_behind
closing_close bytes t ts opened closed = closing_end bytes t ts 1 (rw (opened, closed) refl)

pub closing_other : (bytes : List ℕ) (t : Token) (ts : List Token) → opens bytes t ≡ false → closes bytes t ≡ false → closing bytes 1 (t ∷ ts) ≡ one_more (closing bytes 1 ts)
unfolding depth_behind
closing_other bytes t ts opened closed = closing_on bytes t ts 1 0 (rw (opened, closed) refl)
