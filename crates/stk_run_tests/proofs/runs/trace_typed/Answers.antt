use Rattle.std.proofs.Common.{sym, ap, ◌∙◌}
use Rattle.stk_tree.specs.View.{view_function, view_unit}
use Rattle.stk_function_types.specs.Nodes.{typing_in}
use Rattle.stk_run_tests.proofs.runs.trace_typed.Goals as goal

pub trace_under-requires : goal.trace_under-requires
trace_under-requires c =
    let e = sym c.unit.ensures ∙ c.in-Defines.is in
    (c.what_is_laid_out_is_numbered.ensures (typing_in c.in_ok-setting-in-Defines.setting.types) c.requires.spans c.requires.before c.in-Defines.field-0 (view_function c.in-Defines.f) (c.requires.is ∙ ap view_unit e)).body
