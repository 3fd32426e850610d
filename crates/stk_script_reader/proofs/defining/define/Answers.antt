use Rattle.std.proofs.Common.{◌≡◌, ℕ, List, ◌∷◌, map, refl, sym, ap, subst, ◌∙◌, arith}
use Rattle.std.proofs.lemmas.Result.{err_from_is_err_and}
use Rattle.std.specs.Prelude.{None, true}
use Rattle.stk_scripts.specs.Scripts.{is_name, found, width_in}
use Rattle.stk_script_trees.specs.View.{view_defined, view_expr}
use Rattle.stk_script_reader.specs.Names.{StandsFor}
use Rattle.stk_script_reader.specs.After.{Defining}
use Rattle.stk_script_reader.specs.Standing.{IsTerm, widths_named}
use Rattle.stk_script_reader.proofs.Kept.{stand_kept}
use Rattle.stk_script_reader.proofs.Steps.{define_start, define_step, define_new, define_fit, define_wide, define_done, no_more}
use Rattle.stk_script_reader.proofs.Whole.{bad_none, is_bad}
use Rattle.stk_script_reader.proofs.defining.define.Goals as goal

pub loop-defined-init : goal.loop-defined-init
loop-defined-init c = record {
  defining = λ g bits a. define_start c.args.names.now c.args.terms.now g bits (map (view_defined c.args.bytes.now) c.args.list.now) a;
  known = c.requires;
  inputs = refl;
}

pub returns-then-not-is_new-clause-bad : goal.returns-then-not-is_new-clause-bad
returns-then-not-is_new-clause-bad c = λ q g bits a.
    let b = c.args.bytes.now in
    let d = view_defined b c.in-Some.defined.now in
    let all = map (view_defined b) c.args.list.now in
    let rest = map (view_defined b) c.in-Some.behind.now in
    let s = c.loop-defined.terms in
    let table = c.loop-defined.names in
    let inputs = c.args.terms.now.inputs in
    let m = subst (λ ds. Defining table s inputs g bits all (map (view_defined b) ds)) c.in-Some.ensures.cases.0 (c.loop-defined.invariant.defining g bits a) in
    define_new table s inputs g bits all d rest m
    (λ k. let t = (c.is_new.ensures m.after.names m.after.stand).1 (subst (λ n. (is_name n ≡ true) × (found m.after.names n ≡ None)) (sym c.text-name.ensures) k) in absurd (cc (t, c.if-not-is_new.true)))

pub returns-in_err-term-clause-bad : goal.returns-in_err-term-clause-bad
returns-in_err-term-clause-bad c = λ q g bits a.
    let b = c.args.bytes.now in
    let d = view_defined b c.in-Some.defined.now in
    let all = map (view_defined b) c.args.list.now in
    let rest = map (view_defined b) c.in-Some.behind.now in
    let s = c.loop-defined.terms in
    let table = c.loop-defined.names in
    let inputs = c.args.terms.now.inputs in
    let m = subst (λ ds. Defining table s inputs g bits all (map (view_defined b) ds)) c.in-Some.ensures.cases.0 (c.loop-defined.invariant.defining g bits a) in
    let p = err_from_is_err_and c.from_residual.result c.from_residual.ensures.1 in
    let same = ap (view_expr b) c.get.ensures in
    define_fit table s inputs g bits all d rest m
    (ap (λ e. width_in (widths_named s m.after.names) e) (sym same) ∙ bad_none table s c.made.new.terms (view_expr b c.get.result.now) c.in_err-term.field-0.0 (sym p.2 ∙ is_bad c.from_residual.result p.0 p.1 q) c.in_err-term.ensures.made m.after.names m.after.stand m.after.exist)

pub is_wide-requires : goal.is_wide-requires
is_wide-requires c =
    let k = c.loop-defined.invariant.known in
    (c.in_ok-term.ensures.made k.names k.stand k.exist).there

pub returns-then-not-is_wide-clause-bad : goal.returns-then-not-is_wide-clause-bad
returns-then-not-is_wide-clause-bad c = λ q g bits a.
    let b = c.args.bytes.now in
    let d = view_defined b c.in-Some.defined.now in
    let all = map (view_defined b) c.args.list.now in
    let rest = map (view_defined b) c.in-Some.behind.now in
    let s = c.loop-defined.terms in
    let table = c.loop-defined.names in
    let inputs = c.args.terms.now.inputs in
    let m = subst (λ ds. Defining table s inputs g bits all (map (view_defined b) ds)) c.in-Some.ensures.cases.0 (c.loop-defined.invariant.defining g bits a) in
    let t = c.made.new.terms in
    let same = ap (view_expr b) c.get.ensures in
    let term = subst (λ e. IsTerm t m.after.names e c.in_ok-term.term.0) same (c.in_ok-term.ensures.made m.after.names m.after.stand m.after.exist) in
    define_wide table s inputs g bits all d rest m t c.in_ok-term.term.0 c.in_ok-term.ensures.keeps term (λ e. let u = c.is_wide.ensures.1 e in absurd (cc (u, c.if-not-is_wide.true)))

pub loop-defined-preserved : goal.loop-defined-preserved
loop-defined-preserved c =
    let b = c.args.bytes.now in
    let d = view_defined b c.in-Some.defined.now in
    let all = map (view_defined b) c.args.list.now in
    let rest = map (view_defined b) c.in-Some.behind.now in
    let s = c.loop-defined.terms in
    let table = c.loop-defined.names in
    let inputs = c.args.terms.now.inputs in
    let t = c.made.new.terms in
    let j = c.in_ok-term.term.0 in
    let keeps = c.in_ok-term.ensures.keeps in
    let same = ap (view_expr b) c.get.ensures in
    let wide = c.is_wide.ensures.0 c.if-not-is_wide.false in
    let adds = subst (λ n. (names : List (List ℕ × ℕ)) → StandsFor table names → StandsFor c.add.new.self ((n, j) ∷ names)) c.text-name.ensures c.in_ok-add.ensures in
    let known = c.loop-defined.invariant.known in
    record {
      defining = λ g bits a.
          let m = subst (λ ds. Defining table s inputs g bits all (map (view_defined b) ds)) c.in-Some.ensures.cases.0 (c.loop-defined.invariant.defining g bits a) in
          let k = subst (λ n. (is_name n ≡ true) × (found m.after.names n ≡ None)) c.text-name.ensures ((c.is_new.ensures m.after.names m.after.stand).0 c.if-not-is_new.false) in
          let term = subst (λ e. IsTerm t m.after.names e j) same (c.in_ok-term.ensures.made m.after.names m.after.stand m.after.exist) in
          define_step table s inputs g bits all d rest m c.add.new.self t j k.0 k.1 keeps term wide adds;
      known = record { names = (d.name, j) ∷ known.names; stand = adds known.names known.stand; exist = ((c.in_ok-term.ensures.made known.names known.stand known.exist).there, stand_kept s t keeps known.names known.exist) };
      inputs = keeps.inputs_stay ∙ c.loop-defined.invariant.inputs;
    }

pub returns-clause-after : goal.returns-clause-after
returns-clause-after c = λ g bits a.
    let b = c.args.bytes.now in
    let all = map (view_defined b) c.args.list.now in
    define_done c.loop-defined.names c.loop-defined.terms c.args.terms.now.inputs g bits all
    (subst (λ ds. Defining c.loop-defined.names c.loop-defined.terms c.args.terms.now.inputs g bits all (map (view_defined b) ds)) (no_more c.loop-defined.rest.now (omega (arith, c.in_default.ensures.cases))) (c.loop-defined.invariant.defining g bits a))

pub returns-clause-inputs : goal.returns-clause-inputs
returns-clause-inputs c = c.loop-defined.invariant.inputs
