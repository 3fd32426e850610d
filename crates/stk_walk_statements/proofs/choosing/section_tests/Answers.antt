use Rattle.std.proofs.Common.{◌≡◌, ◌&&◌, Bool, ℕ, Option, None, Some, map, sym, ap, ◌∙◌, subst, arith}
use Rattle.stk_ctype.specs.declared.kind.IntKind.TheVariants.{Int}
use Rattle.stk_tree.specs.View.{view_section, sections}
use Rattle.stk_meaning.specs.Operations.{bit}
use Rattle.stk_meaning.specs.Statements.{has_case, has_default, sections_before, or_default}
use Rattle.stk_walk_statements.specs.Selected.{TestsShow, goes_if, is_none}
use Rattle.stk_walk_statements.proofs.Sectioning.{before_within, no_default, none_left}
use Rattle.stk_walking.proofs.Costing.{at_most, plus}
use Rattle.stk_walk_statements.proofs.Spending.{some_more}
use Rattle.stk_walk_statements.proofs.choosing.section_tests.Goals as goal

pub with_default-requires-clause-within : goal.with_default-requires-clause-within
with_default-requires-clause-within g c =
    let there : Some c.in-Some.at ≡ sections_before has_default (sections (map view_section c.args.list.now)) = sym c.in-Some.is ∙ c.default_at.ensures in
    let within = before_within has_default c.args.list.now c.in-Some.at there in
    omega (arith, within, c.in_ok-tests.ensures.length)

pub returns-in-None-clause-value : goal.returns-in-None-clause-value
returns-in-None-clause-value g c = λ m x a served hx ha.
    let shows = g.V.Values.shows in
    let ss = sections (map view_section c.args.list.now) in
    let cases = sections_before (has_case (g.O.RunSetting.setting c.args.out.now).typing c.args.kind x) ss in
    let there : None ≡ sections_before has_default ss = sym c.in-None.is ∙ c.default_at.ensures in
    let same : cases ≡ or_default cases (sections_before has_default ss) = sym (no_default cases) ∙ ap (or_default cases) there in
    let y = c.in_ok-tests.ensures.value m x a served hx ha in (
      subst (λ (o : Option ℕ). TestsShow (shows c.case_tests.new.values m) c.in_ok-tests.tests.items (goes_if a o)) same y.0,
      subst (λ (o : Option ℕ). shows c.case_tests.new.values m Int c.in_ok-tests.left (bit (a && is_none o))) same y.1,
    )

pub returns-in_ok-all-in-Some-clause-value : goal.returns-in_ok-all-in-Some-clause-value
returns-in_ok-all-in-Some-clause-value g c = λ m x a served hx ha.
    let shows = g.V.Values.shows in
    let ss = sections (map view_section c.args.list.now) in
    let cases = sections_before (has_case (g.O.RunSetting.setting c.args.out.now).typing c.args.kind x) ss in
    let at = c.in-Some.at in
    let there : Some at ≡ sections_before has_default ss = sym c.in-Some.is ∙ c.default_at.ensures in
    let same : or_default cases (Some at) ≡ or_default cases (sections_before has_default ss) = ap (or_default cases) there in
    let all = c.in_ok-all-in-Some in
    let y = c.in_ok-tests.ensures.value m x a served hx ha in
    let z = all.ensures.value m a cases (c.in_ok-tests.ensures.keeps.served m served) y.0 y.1 in (
      subst (λ (o : Option ℕ). TestsShow (shows c.with_default.new.values m) all.all.0.items (goes_if a o)) same z.0,
      subst (λ (b : Bool). shows c.with_default.new.values m Int all.all.1 (bit b)) (none_left a cases at ∙ ap (λ o. a && is_none o) same) z.1,
    )

pub returns-in-None-clause-charge : goal.returns-in-None-clause-charge
returns-in-None-clause-charge g c = at_most _ c.in_ok-tests.ensures.charge (some_more _ 3)

pub returns-in_ok-all-in-Some-clause-charge : goal.returns-in_ok-all-in-Some-clause-charge
returns-in_ok-all-in-Some-clause-charge g c = plus _ _ _ c.in_ok-tests.ensures.charge c.in_ok-all-in-Some.ensures.charge
