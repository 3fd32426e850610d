-- The view: what the trees of the code show of their syntax.
use Rattle.std.specs.Prelude.{ℕ, List, map}
use Rattle.stk_base.specs.Text.{text_of}
use Rattle.stk_scripts.specs.Syntax as syntax
use Rattle.stk_scripts.specs.Reading as reading
use Rattle.stk_script_trees.specs.declared.tree.Expr.{Expr, Expr-F, fold-Expr}
use Rattle.stk_script_trees.specs.declared.tree.Test.{Test}
use Rattle.stk_script_trees.specs.declared.tree.Declared.{Declared}
use Rattle.stk_script_trees.specs.declared.tree.Defined.{Defined}
use Rattle.stk_script_trees.specs.declared.tree.Script.{Script}

abbrev pub expr_step : List ℕ → Expr-F syntax.Expr → syntax.Expr
expr_step bytes (Expr-F.Named at) = syntax.named (text_of bytes at)
expr_step bytes (Expr-F.Literal w n) = syntax.literal w n
expr_step bytes (Expr-F.One op a) = syntax.one_of op a
expr_step bytes (Expr-F.Two op a b) = syntax.two_of op a b
expr_step bytes (Expr-F.Joined a b) = syntax.joined a b
expr_step bytes (Expr-F.Cut high low a) = syntax.cut high low a
expr_step bytes (Expr-F.Widened op k a) = syntax.widened op k a
expr_step bytes (Expr-F.Chosen t a b x y) = syntax.chosen t a b x y

-- the term that a tree is, with its names as they are spelled in a text
abbrev pub view_expr : List ℕ → Expr → syntax.Expr
view_expr bytes = fold-Expr syntax.Expr (expr_step bytes)

-- the comparison that a tree is
abbrev pub view_test : List ℕ → Test → reading.Test
view_test bytes t = reading.test_of t.op (view_expr bytes t.left) (view_expr bytes t.right)

-- a declaration, a definition and a script that trees are
abbrev pub view_declared : List ℕ → Declared → syntax.Declared
view_declared bytes d = record { name = text_of bytes d.name; width = d.width }

abbrev pub view_defined : List ℕ → Defined → syntax.Defined
view_defined bytes d = record { name = text_of bytes d.name; width = d.width; body = view_expr bytes d.body }

abbrev pub view_script : List ℕ → Script → syntax.Script
view_script bytes s = record {
  has_logic = s.has_logic;
  declared = map (view_declared bytes) s.declared;
  defined = map (view_defined bytes) s.defined;
  test = s.test.op;
  left = view_expr bytes s.test.left;
  right = view_expr bytes s.test.right;
}
