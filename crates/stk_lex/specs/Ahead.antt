-- What is known of the tokens ahead of each token, so that no token is looked at again for each word before it.
use Rattle.std.specs.Prelude.{◌≡◌, ℕ, zero, suc, ◌+◌, ◌<◌, cond, List, [], ◌∷◌, length, drop, slice_index}
use Rattle.stk_lex.specs.declared.token.Token.{Token}
use Rattle.stk_lex.specs.Spelled.{is_changing_word}

-- how many tokens stand before the first attribute that changes what is declared
unfoldable pub unchanged : List ℕ → List Token → ℕ
unchanged bytes [] = 0
unchanged bytes (t ∷ ts) = cond (is_changing_word bytes t) 0 (suc (unchanged bytes ts))

-- what is found of tokens: for each number of them that are left, from 0 up to all, the number that is found of those
pub record AreFound (find : List Token → ℕ) (tokens : List Token) (found : List ℕ) : Type 0 where
  pub room : length tokens < length found
  pub found_at : (k left : ℕ) → k + left ≡ length tokens → slice_index found left ≡ find (drop k tokens)

-- what two steps take together, if each is there
abbrev pub both : ℕ → ℕ → ℕ
both zero b = 0
both (suc a) zero = 0
both (suc a) (suc b) = suc a + suc b
