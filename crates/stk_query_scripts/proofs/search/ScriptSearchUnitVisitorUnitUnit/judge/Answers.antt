use Rattle.std.proofs.Common.{length, sym, ap, refl, ◌∙◌, arith}
use Rattle.stk_tree.specs.View.{view_function}
use Rattle.stk_meaning.specs.Lists.{candidates}
use Rattle.stk_function_types.specs.Units.{TypedUnit}
use Rattle.stk_function_types.specs.Nodes.{typing_in}
use Rattle.stk_query_scripts.proofs.Searching.{found_before_is, none_is, passed_over, found_here}
use Rattle.stk_query_scripts.proofs.search.ScriptSearchUnitVisitorUnitUnit.judge.Goals as goal

pub returns-then-is_some : goal.returns-then-is_some
returns-then-is_some c = found_before_is c.args.setting.now.without _ c.args.self.now (sym c.is_some.ensures ∙ c.if-is_some.true)

pub returns-then-count-self : goal.returns-then-count-self
returns-then-count-self c =
    let f = view_function c.args.f.now in
    let listed = c.in_ok-list.ensures ∙ ap (λ (t : TypedUnit). candidates (typing_in t) f) c.types.ensures in
    passed_over c.args.setting.now.without (typing_in c.args.setting.now.types) f c.args.self.now _ c.len-count.result (none_is c.args.self.now.script (sym c.is_some.ensures ∙ c.if-is_some.false)) (omega (arith, c.len-count.ensures, c.in_ok-list.list.ok.0, ap length listed)) (omega (arith, c.if-count-self.true)) refl

pub candidate_script-requires-clause-candidates : goal.candidate_script-requires-clause-candidates
candidate_script-requires-clause-candidates c =
    let f = view_function c.args.f.now in
    c.as_slice.ensures.value ∙ c.in_ok-list.ensures ∙ ap (λ (t : TypedUnit). candidates (typing_in t) f) c.types.ensures

pub returns : goal.returns
returns c =
    found_here c.args.setting.now.without (typing_in c.args.setting.now.types) (view_function c.args.f.now) c.args.self.now _ c.args.self.now.before c.in_ok-text.text (none_is c.args.self.now.script (sym c.is_some.ensures ∙ c.if-is_some.false)) refl c.in_ok-text.ensures refl
