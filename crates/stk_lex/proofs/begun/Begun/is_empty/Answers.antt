use Rattle.std.proofs.Common.{◌≡◌, ℕ, ◌+◌, suc, List, [], ◌∷◌, length, arith}
use Rattle.std.specs.Prelude.{◌==◌}
use Rattle.std.proofs.lemmas.Bool.{ne_eqb, eq-eqb}
use Rattle.stk_lex.specs.declared.token.Token.{Token}
use Rattle.stk_lex.specs.Units.{is_begin}
use Rattle.stk_lex.proofs.begun.Begun.is_empty.Goals as goal

empty_test : (from : ℕ) (before : List Token) → (from + length before == from) ≡ is_begin before
unfolding is_begin
empty_test from [] = eq-eqb (from + 0) from (omega arith)
empty_test from (t ∷ before) = ne_eqb (from + suc (length before)) from (λ e. absurd (omega arith))

pub returns : goal.returns
returns c bytes before begun = rw begun.next (empty_test c.args.self.from before)
