use Rattle.std.proofs.Common.{sym, subst}
use Rattle.stk_tree.specs.Syntax.{FunctionTree}
use Rattle.stk_tree.specs.View.{view_function}
use Rattle.stk_goals.specs.Rows.{Tables}
use Rattle.stk_goals.specs.FunctionTables.{AreTablesOf}
use Rattle.stk_findings.proofs.queries.Queries.begun.Goals as goal

pub begin-requires : goal.begin-requires
begin-requires c =
    subst (λ (t : Tables). AreTablesOf (view_function c.new-function.result.f.now) t) (sym c.new-function.ensures.tables)
    (subst (λ (f : FunctionTree). AreTablesOf f c.args.searched.now.tables.now) (sym c.new-function.ensures.f) c.requires.typed.tables)
