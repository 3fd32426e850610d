-- How many tokens an `if` with its `else` prints, as a sum over its parts.
use Rattle.std.proofs.Common.{◌≡◌, ◌+◌, length, arith}
use Rattle.std.proofs.lemmas.Grind.{common_steps}
use Rattle.stk_tree.specs.Syntax.{ExprTree, StmtTree}
use Rattle.stk_tree.specs.Syntax.{if_statement, some_statement}
use Rattle.stk_tree.specs.Tokens.{expression_tokens, statement_form_tokens, statement_tokens}

pub else_length : (e : ExprTree) (x y : StmtTree) → length (statement_form_tokens (if_statement e x (some_statement y))) ≡ length (expression_tokens e) + length (statement_tokens x) + length (statement_tokens y) + 4
else_length e x y = grind (arith, common_steps)
