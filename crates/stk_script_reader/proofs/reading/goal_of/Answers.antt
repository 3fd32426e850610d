use Rattle.std.proofs.Common.{ap}
use Rattle.std.proofs.lemmas.Result.{err_from_is_err_and}
use Rattle.stk_script_trees.specs.View.{view_expr}
use Rattle.stk_script_reader.proofs.Kept.{keeps_then, known_kept, longer_kept}
use Rattle.stk_script_reader.proofs.Whole.{placed, left_fails, right_fails, whole_test}
use Rattle.stk_script_reader.proofs.reading.goal_of.Goals as goal

pub returns-in_err-left-clause-made : goal.returns-in_err-left-clause-made
returns-in_err-left-clause-made c =
    let b = c.args.bytes.now in
    let test = c.args.test.now in
    let p = err_from_is_err_and c.from_residual.result c.from_residual.ensures.1 in
    rw (p.1, p.2) (left_fails c.args.names.now test.op c.args.terms.now c.made.new.terms (view_expr b c.get.result.now) (view_expr b test.left) (view_expr b test.right) (ap (view_expr b) c.get.ensures) c.in_err-left.field-0.0 c.in_err-left.ensures.made)

pub returns-in_err-right-clause-made : goal.returns-in_err-right-clause-made
returns-in_err-right-clause-made c =
    let b = c.args.bytes.now in
    let test = c.args.test.now in
    let p = err_from_is_err_and c.from_residual-in_err-right.result c.from_residual-in_err-right.ensures.1 in
    rw (p.1, p.2) (right_fails c.args.names.now test.op c.args.terms.now c.made.new.terms c.made-2.new.terms c.made.ensures.keeps (view_expr b test.left) (view_expr b c.get-2.result.now) (view_expr b test.right) (ap (view_expr b) c.get-2.ensures) c.in_err-right.field-0.0 c.in_err-right.ensures.made)

pub compare-requires-clause-first : goal.compare-requires-clause-first
compare-requires-clause-first c = longer_kept _ _ c.in_ok-left.left.0 c.made-2.ensures.keeps (placed c.args.names.now _ _ _ c.in_ok-left.left.0 c.requires.known c.in_ok-left.ensures.made)

pub compare-requires-clause-second : goal.compare-requires-clause-second
compare-requires-clause-second c = placed c.args.names.now _ _ _ c.in_ok-right.right.0 (known_kept _ _ _ c.made.ensures.keeps c.requires.known) c.in_ok-right.ensures.made

pub returns-clause-made : goal.returns-clause-made
returns-clause-made c =
    let b = c.args.bytes.now in
    let test = c.args.test.now in
    whole_test c.args.names.now test.op c.args.terms.now c.made.new.terms c.made-2.new.terms c.compare.new.terms c.made.ensures.keeps c.made-2.ensures.keeps (view_expr b c.get.result.now) (view_expr b test.left) (view_expr b c.get-2.result.now) (view_expr b test.right) c.in_ok-left.left.0 c.in_ok-right.right.0 c.compare.result
    (ap (view_expr b) c.get.ensures) (ap (view_expr b) c.get-2.ensures) c.in_ok-left.ensures.made c.in_ok-right.ensures.made c.compare.ensures.made

pub returns-clause-keeps : goal.returns-clause-keeps
returns-clause-keeps c = keeps_then _ _ _ (keeps_then _ _ _ c.made.ensures.keeps c.made-2.ensures.keeps) c.compare.ensures.keeps
