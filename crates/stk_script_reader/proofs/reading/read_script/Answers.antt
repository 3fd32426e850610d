use Rattle.std.proofs.Common.{◌≡◌, [], map, sym, ap, subst, ◌∙◌}
use Rattle.std.proofs.lemmas.Result.{err_from_is_err_and}
use Rattle.stk_terms.specs.Terms.{Stored}
use Rattle.stk_scripts.specs.Scripts.{behind_declared, with_inputs, widths_in, DeclaredFit}
use Rattle.stk_script_trees.specs.View.{view_script, view_declared, view_defined}
use Rattle.stk_script_reader.specs.After.{WidthsFit}
use Rattle.stk_script_reader.proofs.Steps.{known_of}
use Rattle.stk_script_reader.proofs.Whole.{is_bad}
use Rattle.stk_script_reader.proofs.Read.{AfterAll, is_script, means, no_script, no_test, widths_fit}
use Rattle.stk_script_reader.proofs.reading.read_script.Goals as goal

pub parse-requires : goal.parse-requires
parse-requires c = c.requires

pub returns-in_err-script-clause-bad : goal.returns-in_err-script-clause-bad
returns-in_err-script-clause-bad c = λ q.
    let p = err_from_is_err_and c.from_residual.result c.from_residual.ensures.1 in
    let k = sym p.2 ∙ is_bad c.from_residual.result p.0 p.1 q in
    c.in_err-script.ensures.bad k

pub returns-in_err-inputs-clause-bad : goal.returns-in_err-inputs-clause-bad
returns-in_err-inputs-clause-bad c = λ q.
    let p = err_from_is_err_and c.from_residual-in_err-inputs.result c.from_residual-in_err-inputs.ensures.1 in
    let k = sym p.2 ∙ is_bad c.from_residual-in_err-inputs.result p.0 p.1 q in
    let b = c.args.bytes.now in
    let t = c.in_ok-script.script in
    let s = view_script b t in
    let e = ap (map (view_declared b)) c.as_slice.ensures in
    no_script b s c.in_ok-script.ensures.only (λ w. c.in_err-inputs.ensures.bad k b (subst (DeclaredFit []) (sym e) w.declared))

pub new-terms-requires : goal.new-terms-requires
new-terms-requires c = c.in_ok-inputs.ensures.fit

pub declare-requires-clause-none : goal.declare-requires-clause-none
declare-requires-clause-none c = c.new-names.ensures

pub declare-requires-clause-inputs : goal.declare-requires-clause-inputs
declare-requires-clause-inputs c =
    let b = c.args.bytes.now in
    ap (λ (s : Stored). s.inputs) c.new-terms.ensures ∙ c.in_ok-inputs.ensures.are b ∙ ap (λ ds. widths_in (map (view_declared b) ds)) (c.as_slice.ensures ∙ sym c.as_slice-2.ensures)

pub returns-in_err-declare-clause-bad : goal.returns-in_err-declare-clause-bad
returns-in_err-declare-clause-bad c = λ q.
    let p = err_from_is_err_and c.from_residual-in_err-declare.result c.from_residual-in_err-declare.ensures.1 in
    let k = sym p.2 ∙ is_bad c.from_residual-in_err-declare.result p.0 p.1 q in
    let b = c.args.bytes.now in
    let t = c.in_ok-script.script in
    let s = view_script b t in
    let e = ap (map (view_declared b)) c.as_slice-2.ensures in
    no_script b s c.in_ok-script.ensures.only (λ w. c.in_err-declare.ensures.bad k (subst (DeclaredFit []) (sym e) w.declared))

pub define-requires : goal.define-requires
define-requires c = known_of _ _ _ _ c.in_ok-declare.ensures.after

pub returns-in_err-define-clause-bad : goal.returns-in_err-define-clause-bad
returns-in_err-define-clause-bad c = λ q.
    let p = err_from_is_err_and c.from_residual-in_err-define.result c.from_residual-in_err-define.ensures.1 in
    let k = sym p.2 ∙ is_bad c.from_residual-in_err-define.result p.0 p.1 q in
    let b = c.args.bytes.now in
    let t = c.in_ok-script.script in
    let s = view_script b t in
    let ds = map (view_declared b) c.as_slice-2.result.now in
    let e1 : ds ≡ s.declared = ap (map (view_declared b)) c.as_slice-2.ensures in
    let after1 = c.in_ok-declare.ensures.after in
    let e2 = ap (map (view_defined b)) c.as_slice-3.ensures in
    no_script b s c.in_ok-script.ensures.only (λ w.
    c.in_err-define.ensures.bad k (behind_declared [] ds) (with_inputs [] ds) after1 (subst (WidthsFit (behind_declared [] ds)) (sym e2) (subst (λ ds. WidthsFit (behind_declared [] ds) s.defined) (sym e1) (widths_fit (behind_declared [] s.declared) s.defined w.defined))))

pub goal_of-requires : goal.goal_of-requires
goal_of-requires c =
    let b = c.args.bytes.now in
    let t = c.in_ok-script.script in
    let s = view_script b t in
    let ds = map (view_declared b) c.as_slice-2.result.now in
    let e1 : ds ≡ s.declared = ap (map (view_declared b)) c.as_slice-2.ensures in
    let after1 = c.in_ok-declare.ensures.after in
    let es = map (view_defined b) c.as_slice-3.result.now in
    let e2 : es ≡ s.defined = ap (map (view_defined b)) c.as_slice-3.ensures in
    let both = c.in_ok-define.ensures.after (behind_declared [] ds) (with_inputs [] ds) after1 in
    let after : AfterAll c.define.new.names c.define.new.terms s.declared s.defined = subst (λ es. AfterAll c.define.new.names c.define.new.terms s.declared es) e2 (subst (λ ds. AfterAll c.define.new.names c.define.new.terms ds es) e1 both.0) in
    record { known = known_of _ _ _ _ after }

pub returns-in_err-goal-clause-bad : goal.returns-in_err-goal-clause-bad
returns-in_err-goal-clause-bad c = λ q.
    let p = err_from_is_err_and c.from_residual-in_err-goal.result c.from_residual-in_err-goal.ensures.1 in
    let k = sym p.2 ∙ is_bad c.from_residual-in_err-goal.result p.0 p.1 q in
    let b = c.args.bytes.now in
    let t = c.in_ok-script.script in
    let s = view_script b t in
    let ds = map (view_declared b) c.as_slice-2.result.now in
    let e1 : ds ≡ s.declared = ap (map (view_declared b)) c.as_slice-2.ensures in
    let after1 = c.in_ok-declare.ensures.after in
    let es = map (view_defined b) c.as_slice-3.result.now in
    let e2 : es ≡ s.defined = ap (map (view_defined b)) c.as_slice-3.ensures in
    let both = c.in_ok-define.ensures.after (behind_declared [] ds) (with_inputs [] ds) after1 in
    let after : AfterAll c.define.new.names c.define.new.terms s.declared s.defined = subst (λ es. AfterAll c.define.new.names c.define.new.terms s.declared es) e2 (subst (λ ds. AfterAll c.define.new.names c.define.new.terms ds es) e1 both.0) in
    no_script b s c.in_ok-script.ensures.only (no_test c.define.new.names c.define.new.terms c.goal_of.new.terms s after c.in_err-goal.field-0.0 k (c.in_err-goal.ensures.made after.names after.stand after.exist))

pub returns-clause-read : goal.returns-clause-read
returns-clause-read c =
    let b = c.args.bytes.now in
    let t = c.in_ok-script.script in
    let s = view_script b t in
    let ds = map (view_declared b) c.as_slice-2.result.now in
    let e1 : ds ≡ s.declared = ap (map (view_declared b)) c.as_slice-2.ensures in
    let after1 = c.in_ok-declare.ensures.after in
    let es = map (view_defined b) c.as_slice-3.result.now in
    let e2 : es ≡ s.defined = ap (map (view_defined b)) c.as_slice-3.ensures in
    let both = c.in_ok-define.ensures.after (behind_declared [] ds) (with_inputs [] ds) after1 in
    let after : AfterAll c.define.new.names c.define.new.terms s.declared s.defined = subst (λ es. AfterAll c.define.new.names c.define.new.terms s.declared es) e2 (subst (λ ds. AfterAll c.define.new.names c.define.new.terms ds es) e1 both.0) in
    let declared = subst (DeclaredFit []) e1 c.in_ok-declare.ensures.fit in
    let defined = subst (WidthsFit (behind_declared [] s.declared)) e2 (subst (λ ds. WidthsFit (behind_declared [] ds) es) e1 both.1) in
    let test = c.in_ok-goal.ensures.made after.names after.stand after.exist in
    let keeps = c.in_ok-goal.ensures.keeps in
    let j = c.in_ok-goal.goal.0 in
    let all = is_script b s c.in_ok-script.ensures.spelled c.in_ok-script.ensures.shallow c.define.new.names c.define.new.terms c.goal_of.new.terms after declared defined j keeps test in
    let inputs = keeps.inputs_stay ∙ c.in_ok-define.ensures.inputs ∙ c.in_ok-declare.ensures.inputs ∙ ap (λ (s : Stored). s.inputs) c.new-terms.ensures ∙ c.in_ok-inputs.ensures.are b ∙ ap (λ ds. widths_in (map (view_declared b) ds)) c.as_slice.ensures in
    (s, all, inputs, test.there, λ r h. means b s c.in_ok-script.ensures.spelled c.in_ok-script.ensures.shallow c.define.new.names c.define.new.terms c.goal_of.new.terms after declared defined j keeps test r h)
