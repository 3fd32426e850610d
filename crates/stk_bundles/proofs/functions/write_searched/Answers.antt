use Rattle.std.proofs.Common.{◌<◌, ◌^◌, List, length, sym, subst}
use Rattle.stk_tree.specs.View.{view_function}
use Rattle.stk_numbers.specs.declared.conditions.Candidate.{Candidate}
use Rattle.stk_findings.proofs.Searched.{typed_functions_are_searched}
use Rattle.stk_findings.specs.Searched.{about_searched, subject_searched}
use Rattle.stk_bundles.proofs.Growing.{no_claims_wrote}
use Rattle.stk_bundles.proofs.Placing.{no_candidate}
use Rattle.stk_bundles.proofs.functions.write_searched.Goals as goal

pub returns-then-is_empty-clause-written : goal.returns-then-is_empty-clause-written
returns-then-is_empty-clause-written g c =
    let s = c.args.searched.now in
    let a = about_searched s in
    no_claims_wrote (subject_searched s) a.typing a.without a.tree s.budget c.args.place.now.at s.candidates.now (g.K.Sink.taken c.args.out.now) (g.D.Decider.given_up c.args.decider.now) _
    (no_candidate s.candidates.now c.is_empty.result c.is_empty.ensures c.if-is_empty.true) c.one_function.ensures

pub write_claims-requires-clause-few : goal.write_claims-requires-clause-few
write_claims-requires-clause-few g c =
    let s = c.args.searched.now in
    subst (λ (cs : List Candidate). length cs < 2 ^ 32) (sym c.requires.searched.candidates) (typed_functions_are_searched s.tables.now (view_function s.function.now) c.requires.searched.typed).few

pub write_claims-requires-2-clause-few : goal.write_claims-requires-2-clause-few
write_claims-requires-2-clause-few g c =
    let s = c.args.searched.now in
    subst (λ (cs : List Candidate). length cs < 2 ^ 32) (sym c.requires.searched.candidates) (typed_functions_are_searched s.tables.now (view_function s.function.now) c.requires.searched.typed).few
