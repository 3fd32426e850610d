-- What trees of scripts show.
use Rattle.std.proofs.Common.{◌≡◌, ℕ, List, sym, ap, ◌∙◌}
use Rattle.stk_base.specs.Text.{text_of}
use Rattle.stk_base.specs.declared.span.Span.{Span}
use Rattle.stk_scripts.specs.declared.operators.UnaryOp.{UnaryOp}
use Rattle.stk_scripts.specs.declared.operators.BinaryOp.{BinaryOp}
use Rattle.stk_scripts.specs.declared.operators.ExtendOp.{ExtendOp}
use Rattle.stk_scripts.specs.declared.operators.TestOp.{TestOp}
use Rattle.stk_scripts.specs.Syntax as syntax
use Rattle.stk_script_trees.specs.declared.tree.Expr.{Expr, Expr-F, fold-roll-Expr}
use Rattle.stk_script_trees.specs.declared.tree.Expr.TheVariants as tree
use Rattle.stk_script_trees.specs.View.{view_expr, expr_step}

module _ (bytes : List ℕ) where
  pub view_named : (at : Span) → view_expr bytes (tree.Named at) ≡ syntax.named (text_of bytes at)
  view_named at = ap (view_expr bytes) (sym (tree.rolls-Named at)) ∙ fold-roll-Expr syntax.Expr (expr_step bytes) (Expr-F.Named at)

  pub view_literal : (w n : ℕ) → view_expr bytes (tree.Literal w n) ≡ syntax.literal w n
  view_literal w n = ap (view_expr bytes) (sym (tree.rolls-Literal w n)) ∙ fold-roll-Expr syntax.Expr (expr_step bytes) (Expr-F.Literal w n)

  pub view_one : (op : UnaryOp) (a : Expr) → view_expr bytes (tree.One op a) ≡ syntax.one_of op (view_expr bytes a)
  view_one op a = ap (view_expr bytes) (sym (tree.rolls-One op a)) ∙ fold-roll-Expr syntax.Expr (expr_step bytes) (Expr-F.One op a)

  pub view_two : (op : BinaryOp) (a b : Expr) → view_expr bytes (tree.Two op a b) ≡ syntax.two_of op (view_expr bytes a) (view_expr bytes b)
  view_two op a b = ap (view_expr bytes) (sym (tree.rolls-Two op a b)) ∙ fold-roll-Expr syntax.Expr (expr_step bytes) (Expr-F.Two op a b)

  pub view_joined : (a b : Expr) → view_expr bytes (tree.Joined a b) ≡ syntax.joined (view_expr bytes a) (view_expr bytes b)
  view_joined a b = ap (view_expr bytes) (sym (tree.rolls-Joined a b)) ∙ fold-roll-Expr syntax.Expr (expr_step bytes) (Expr-F.Joined a b)

  pub view_cut : (high low : ℕ) (a : Expr) → view_expr bytes (tree.Cut high low a) ≡ syntax.cut high low (view_expr bytes a)
  view_cut high low a = ap (view_expr bytes) (sym (tree.rolls-Cut high low a)) ∙ fold-roll-Expr syntax.Expr (expr_step bytes) (Expr-F.Cut high low a)

  pub view_widened : (op : ExtendOp) (k : ℕ) (a : Expr) → view_expr bytes (tree.Widened op k a) ≡ syntax.widened op k (view_expr bytes a)
  view_widened op k a = ap (view_expr bytes) (sym (tree.rolls-Widened op k a)) ∙ fold-roll-Expr syntax.Expr (expr_step bytes) (Expr-F.Widened op k a)

  pub view_chosen : (op : TestOp) (a b x y : Expr) → view_expr bytes (tree.Chosen op a b x y) ≡ syntax.chosen op (view_expr bytes a) (view_expr bytes b) (view_expr bytes x) (view_expr bytes y)
  view_chosen op a b x y = ap (view_expr bytes) (sym (tree.rolls-Chosen op a b x y)) ∙ fold-roll-Expr syntax.Expr (expr_step bytes) (Expr-F.Chosen op a b x y)
