use Rattle.std.proofs.Common.{◌≡◌, ◌++◌, Option, None, subst, arith}
use Rattle.stk_tree.specs.declared.fixed.Lexeme.{Lexeme}
use Rattle.stk_tree.specs.declared.fixed.Lexeme.TheVariants.{Fixed as Token}
use Rattle.stk_tree.specs.Tokens.{expression_tokens}
use Rattle.stk_tree.specs.View.{view_expression}
use Rattle.stk_tree_walk.specs.declared.waiting.Waiting.TheVariants as waits
use Rattle.stk_tree_walk.specs.Waiting.{given, left_of}
use Rattle.stk_tree_walk.proofs.Piling.{cut}
use Rattle.stk_tree_walk.proofs.expressions.+open.Goals as goal

pub open_before-returns-in-None-clause-left : goal.open_before-returns-in-None-clause-left
open_before-returns-in-None-clause-left t c =
    let P : Option Lexeme → Type 0 = λ o. given o ++ left_of c.open_expression.new.out.items ≡ expression_tokens (view_expression c.args.e.now) ++ left_of c.put.new.out.items in
    cut c.args.out.now.items c.put.new.out.items c.open_expression.new.out.items c.truncate.new.self.items (waits.Token (Token c.args.punctuator)) (Token c.args.punctuator) (expression_tokens (view_expression c.args.e.now)) c.len-waiting.result (omega (arith, c.len-waiting.ensures, c.args.out.now.ok.0)) c.in_ok-put.ensures.items (c.in_ok-token.ensures.same c.in-None.is) c.truncate.ensures.items c.in_ok-put.ensures.left (subst P c.in-None.is c.in_ok-token.ensures.left)
