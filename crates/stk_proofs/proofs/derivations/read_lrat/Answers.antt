use Rattle.std.proofs.Common.{◌≡◌, ◌∷◌, ◌++◌, [], List, ℕ, Some, rules, arith, refl, ap, ◌∙◌}
use Rattle.stk_clauses.specs.declared.literal.Lit.{Lit}
use Rattle.stk_clauses.specs.declared.derivation.Derived.{Derived}
use Rattle.stk_proofs.specs.Words.{words_of}
use Rattle.stk_proofs.specs.Numbers.{number_in}
use Rattle.stk_proofs.proofs.Steps.{onto_step, from_step, number_small, all_read}
use Rattle.stk_proofs.proofs.Fitting.{derivation_fits}
use Rattle.stk_proofs.proofs.derivations.read_lrat.Goals as goal

pub loop-word-preserved : goal.loop-word-preserved
loop-word-preserved c =
    let n : number_in c.in-Some.word.now ≡ Some c.loop-word.id = search (rules, c.is_number.ensures, c.if-not-is_number.false) in
    let is : ◌≡◌ {A = Derived} c.in_ok-step.step (record { clause = c.read_literals.new.found.items; hints = c.read_hints.new.found.items }) =
    c.in_ok-step.ensures ∙ (ap (λ (x : List Lit). record { clause = x; hints = c.deref-in-Some.result.now }) c.deref.ensures.value ∙ ap (λ (y : List ℕ). record { clause = c.read_literals.new.found.items; hints = y }) c.deref-in-Some.ensures.value) in
    let grown = c.in_ok-push.ensures.items ∙ ap (λ (d : Derived). c.loop-word.steps.items ++ d ∷ []) is in
    let small = number_small c.in-Some.word.now c.loop-word.id n in
    record {
      onto = onto_step c.loop-word.steps.items c.in-Some.ensures.words n c.in_ok-hinted.ensures.read c.in_ok-rest.ensures.read refl grown c.loop-word.invariant.onto;
      from = λ all steps. from_step c.loop-word.steps.items c.in-Some.ensures.words c.in_ok-hinted.ensures.read c.in_ok-rest.ensures.read refl grown (c.loop-word.invariant.from all steps);
      below = omega (arith, small);
    }

pub returns-clause-read : goal.returns-clause-read
returns-clause-read c = all_read _ c.loop-word.id (words_of c.args.bytes.now) (words_of c.loop-word.rest.now) c.loop-word.steps.items c.from_vec.result c.in_default.ensures.words c.from_vec.ensures c.loop-word.invariant.onto

pub returns-clause-fits : goal.returns-clause-fits
returns-clause-fits c = derivation_fits c.args.given c.args.bytes.now _ (returns-clause-read c)
