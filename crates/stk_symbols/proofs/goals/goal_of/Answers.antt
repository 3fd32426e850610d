use Rattle.std.proofs.Common.{◌≡◌, ◌+◌, Bool, true, false, List, sym, ap, subst, ◌∙◌, arith}
use Rattle.stk_terms.specs.Values.{bit}
use Rattle.stk_terms.specs.declared.term.TermId.{TermId}
use Rattle.stk_values.specs.declared.walked.Step.{Step}
use Rattle.stk_values.specs.Walks.{EachTest, Says}
use Rattle.stk_symbols.specs.Valued.{IsTerm}
use Rattle.stk_symbols.specs.Goals.{is_hit_free, goal_charge, full_charges, MaybeIs}
use Rattle.stk_symbols.proofs.Made.{obeys_before as B, grown_then, grown_same}
use Rattle.stk_symbols.proofs.Mattering.{those, first_that_matters, full_is_charge, tests_that_matter, says_that_matter}
use Rattle.stk_symbols.proofs.goals.goal_of.Goals as goal

pub folded-requires : goal.folded-requires
folded-requires c =
    let P = λ (v : TermId). IsTerm c.args.terms.now 32 v.0 in
    subst (EachTest P) (sym (c.as_slice.ensures.value ∙ c.in_ok-steps.ensures)) (tests_that_matter c.args.set.now c.args.candidate P c.args.walk.now.walked.steps c.requires.steps)

pub returns-clause-value : goal.returns-clause-value
returns-clause-value c = λ numbers b events o e h.
    let set = c.args.set.now in
    let k = c.args.candidate in
    let P = λ (x : TermId) (y : Bool). numbers x.0 ≡ bit y in
    let says = subst (λ (l : List (Step TermId)). Says P l (those set k events)) (sym (c.as_slice.ensures.value ∙ c.in_ok-steps.ensures)) (says_that_matter set k P c.args.walk.now.walked.steps events h) in
    let found = c.in_ok-state.ensures.value numbers (those set k events) (B _ _ _ numbers c.in_ok-v.ensures.grown o) says in
    c.in_ok-v.ensures.value numbers b (is_hit_free set k events) o e (subst (λ (h : Bool). MaybeIs numbers false c.in_ok-state.state.found h) (first_that_matters set k events) found)

pub returns-clause-grows : goal.returns-clause-grows
returns-clause-grows c = λ chosen closed valid steps.
    let set = c.args.set.now in
    let k = c.args.candidate in
    let all = c.args.walk.now.walked.steps in
    let P = λ (x : TermId). chosen x.0 ≡ true in
    let seen = c.as_slice.ensures.value ∙ c.in_ok-steps.ensures in
    let charge : full_charges c.as_slice.result.now ≡ goal_charge set k all = ap (λ (l : List (Step TermId)). full_charges l) seen ∙ full_is_charge set k all in
    let s = c.in_ok-state.ensures.spends chosen closed (subst (EachTest P) (sym seen) (tests_that_matter set k P all steps)) in
    let g = c.in_ok-v.ensures.grows s.more s.closed (s.extends c.args.walk.now.walked.valid.0 c.requires.valid.exists_ valid) s.has_state.found in
    record {
      more = g.more;
      closed = g.closed;
      extends = λ i l h. g.extends i (omega (arith, l, c.in_ok-state.ensures.grown.keeps.longer)) (s.extends i l h);
      has = g.has;
      within = omega (arith, s.within, g.within, charge);
    }

pub returns-clause-grown : goal.returns-clause-grown
returns-clause-grown c =
    let set = c.args.set.now in
    let k = c.args.candidate in
    let all = c.args.walk.now.walked.steps in
    let charge : full_charges c.as_slice.result.now ≡ goal_charge set k all = ap (λ (l : List (Step TermId)). full_charges l) (c.as_slice.ensures.value ∙ c.in_ok-steps.ensures) ∙ full_is_charge set k all in
    grown_then _ _ _ (full_charges c.as_slice.result.now) 3 (goal_charge set k all + 3) c.in_ok-state.ensures.grown c.in_ok-v.ensures.grown (omega (arith, charge))

pub returns-in_err-v-clause-grown : goal.returns-in_err-v-clause-grown
returns-in_err-v-clause-grown c =
    let set = c.args.set.now in
    let k = c.args.candidate in
    let all = c.args.walk.now.walked.steps in
    let charge : full_charges c.as_slice.result.now ≡ goal_charge set k all = ap (λ (l : List (Step TermId)). full_charges l) (c.as_slice.ensures.value ∙ c.in_ok-steps.ensures) ∙ full_is_charge set k all in
    grown_then _ _ _ (full_charges c.as_slice.result.now) 3 (goal_charge set k all + 3) c.in_ok-state.ensures.grown c.in_err-v.ensures.grown (omega (arith, charge))

pub returns-in_err-state-clause-grown : goal.returns-in_err-state-clause-grown
returns-in_err-state-clause-grown c =
    let set = c.args.set.now in
    let k = c.args.candidate in
    let all = c.args.walk.now.walked.steps in
    let charge : full_charges c.as_slice.result.now ≡ goal_charge set k all = ap (λ (l : List (Step TermId)). full_charges l) (c.as_slice.ensures.value ∙ c.in_ok-steps.ensures) ∙ full_is_charge set k all in
    grown_then _ _ _ (full_charges c.as_slice.result.now) 0 (goal_charge set k all + 3) c.in_err-state.ensures.grown (grown_same _ 0) (omega (arith, charge))
