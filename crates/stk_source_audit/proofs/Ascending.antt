-- Tokens that stand one behind the other begin one behind the other.
use Rattle.std.proofs.Common.{ℕ, zero, suc, ◌<◌, ◌≤◌, List, [], ◌∷◌, length, take, drop, arith}
use Rattle.stk_lex.specs.declared.token.Token.{Token}
use Rattle.stk_lex.specs.Cut.{AreSpans}
use Rattle.stk_source_audit.specs.Reading.{first_byte}

-- the token with this number begins here
pub data BeginsAt : List Token → ℕ → ℕ → Type 0 where
  first : {t : Token} {ts : List Token} → BeginsAt (t ∷ ts) 0 t.span.from
  later : {t : Token} {ts : List Token} {n at : ℕ} → BeginsAt ts n at → BeginsAt (t ∷ ts) (suc n) at

-- no token of some begins before this
pub least : (size at : ℕ) (ts : List Token) (n from : ℕ) → AreSpans size at ts → BeginsAt ts n from → at ≤ from
least size at [] n from h b = elim b [ ]
least size at (t ∷ ts) zero from h first = h.0
least size at (t ∷ ts) (suc n) from h (later b) = omega (arith, h.0, h.1, least size t.span.to ts n from h.2 b)

-- no token behind another one begins before it
pub ascends : (size at : ℕ) (ts : List Token) (m n from to : ℕ) → AreSpans size at ts → BeginsAt ts m from → BeginsAt ts n to → m ≤ n → from ≤ to
ascends size at [] m n from to h a b l = elim a [ ]
ascends size at (t ∷ ts) zero zero from to h first first l = omega arith
ascends size at (t ∷ ts) zero (suc n) from to h first (later b) l = omega (arith, h.1, least size t.span.to ts n to h.2 b)
ascends size at (t ∷ ts) (suc m) zero from to h (later a) first l = absurd (omega (arith, l))
ascends size at (t ∷ ts) (suc m) (suc n) from to h (later a) (later b) l = ascends size t.span.to ts m n from to h.2 a b (omega (arith, l))

-- the tokens from a number on begin with that token
pub begins : (ts : List Token) (m k : ℕ) → m < length ts → 0 < k → BeginsAt ts m (first_byte (take k (drop m ts)))
begins [] m k l some = absurd (omega (arith, l))
begins (t ∷ ts) zero (suc k) l some = first
begins (t ∷ ts) zero zero l some = absurd (omega (arith, some))
begins (t ∷ ts) (suc m) k l some = later (begins ts m k (omega (arith, l)) some)
