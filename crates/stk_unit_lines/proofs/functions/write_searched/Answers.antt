use Rattle.std.proofs.Common.{◌<◌, ◌^◌, List, length, sym, subst, ◌∙◌}
use Rattle.stk_tree.specs.View.{view_function}
use Rattle.stk_numbers.specs.declared.conditions.Candidate.{Candidate}
use Rattle.stk_function_types.specs.Nodes.{typing_in}
use Rattle.stk_findings.proofs.Searched.{typed_functions_are_searched}
use Rattle.stk_findings.specs.Searched.{subject_searched}
use Rattle.stk_spelling.specs.Placed.{placed_in}
use Rattle.stk_unit_lines.proofs.Taking.{no_findings_wrote}
use Rattle.stk_unit_lines.proofs.Judging.{no_candidate}
use Rattle.stk_unit_lines.proofs.functions.write_searched.Goals as goal

pub returns-then-is_empty-clause-written : goal.returns-then-is_empty-clause-written
returns-then-is_empty-clause-written g c =
    let s = c.args.searched.now in
    let t = c.args.told.now in
    no_findings_wrote (subject_searched s) (placed_in t.types.now) (typing_in t.types.now) (view_function t.function.now) t.keys.now s.candidates.now c.args.file.now.options (g.K.Sink.taken c.args.out.now) (g.D.Decider.given_up c.args.decider.now) c.one_function.result
    (no_candidate s.candidates.now c.is_empty.result c.is_empty.ensures c.if-is_empty.true) c.one_function.ensures

pub write_findings-requires-clause-few : goal.write_findings-requires-clause-few
write_findings-requires-clause-few g c =
    let s = c.args.searched.now in
    subst (λ (cs : List Candidate). length cs < 2 ^ 32) (sym c.requires.searched.candidates) (typed_functions_are_searched s.tables.now (view_function s.function.now) c.requires.searched.typed).few

pub write_findings-requires-2-clause-few : goal.write_findings-requires-2-clause-few
write_findings-requires-2-clause-few g c =
    let s = c.args.searched.now in
    subst (λ (cs : List Candidate). length cs < 2 ^ 32) (sym c.requires.searched.candidates) (typed_functions_are_searched s.tables.now (view_function s.function.now) c.requires.searched.typed).few
