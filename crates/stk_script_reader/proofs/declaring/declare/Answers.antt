use Rattle.std.proofs.Common.{◌≡◌, ◌∷◌, suc, map, sym, subst, ◌∙◌, arith, ℕ, List}
use Rattle.std.specs.Prelude.{None, true}
use Rattle.stk_terms.specs.Fitting.{AreWidths}
use Rattle.stk_scripts.specs.Scripts.{is_name, found}
use Rattle.stk_script_trees.specs.View.{view_declared}
use Rattle.stk_script_reader.specs.Names.{StandsFor}
use Rattle.stk_script_reader.specs.After.{Declaring}
use Rattle.stk_script_reader.proofs.Steps.{declare_start, declare_place, declare_step, declare_bad, declare_done, no_more}
use Rattle.stk_script_reader.proofs.declaring.declare.Goals as goal

pub loop-declared-init : goal.loop-declared-init
loop-declared-init c = record { declaring = declare_start c.args.names.now c.args.terms.now (map (view_declared c.args.bytes.now) c.args.list.now) c.requires.none c.requires.inputs }

pub returns-then-not-is_new-clause-bad : goal.returns-then-not-is_new-clause-bad
returns-then-not-is_new-clause-bad c = λ q.
    let b = c.args.bytes.now in
    let d = view_declared b c.in-Some.declared.now in
    let all = map (view_declared b) c.args.list.now in
    let rest = map (view_declared b) c.in-Some.behind.now in
    let m = subst (λ ds. Declaring c.loop-declared.names c.loop-declared.terms all (map (view_declared b) ds) c.loop-declared.key) c.in-Some.ensures.cases.0 c.loop-declared.invariant.declaring in
    declare_bad c.loop-declared.names c.loop-declared.terms all d rest c.loop-declared.key m
    (λ k. let t = (c.is_new.ensures m.after.names m.after.stand).1 (subst (λ n. (is_name n ≡ true) × (found m.after.names n ≡ None)) (sym c.text-name.ensures) k) in absurd (cc (t, c.if-not-is_new.true)))

pub leaf-requires-clause-fits : goal.leaf-requires-clause-fits
leaf-requires-clause-fits c =
    let b = c.args.bytes.now in
    let all = map (view_declared b) c.args.list.now in
    let m = subst (λ ds. Declaring c.loop-declared.names c.loop-declared.terms all (map (view_declared b) ds) c.loop-declared.key) c.in-Some.ensures.cases.0 c.loop-declared.invariant.declaring in
    declare_place c.loop-declared.names c.loop-declared.terms all (view_declared b c.in-Some.declared.now) (map (view_declared b) c.in-Some.behind.now) c.loop-declared.key m

pub loop-declared-preserved : goal.loop-declared-preserved
loop-declared-preserved c =
    let b = c.args.bytes.now in
    let d = view_declared b c.in-Some.declared.now in
    let all = map (view_declared b) c.args.list.now in
    let rest = map (view_declared b) c.in-Some.behind.now in
    let s = c.loop-declared.terms in
    let t = c.leaf.new.terms in
    let key = c.loop-declared.key in
    let m = subst (λ ds. Declaring c.loop-declared.names s all (map (view_declared b) ds) key) c.in-Some.ensures.cases.0 c.loop-declared.invariant.declaring in
    let i = c.in_ok-input in
    let narrow = subst AreWidths i.ensures.keeps.inputs_stay i.ensures.sound.widths_are in
    let k = subst (λ n. (is_name n ≡ true) × (found m.after.names n ≡ None)) c.text-name.ensures ((c.is_new.ensures m.after.names m.after.stand).0 c.if-not-is_new.false) in
    let adds = subst (λ n. (names : List (List ℕ × ℕ)) → StandsFor c.loop-declared.names names → StandsFor c.add.new.self ((n, i.input.0) ∷ names)) c.text-name.ensures c.in_ok-add.ensures in
    let next : suc key ≡ c.in-Some-next_key.next = omega (arith, c.in-Some-next_key.ensures) in
    record { declaring = subst (λ n. Declaring c.add.new.self t all rest n) next (declare_step c.loop-declared.names c.add.new.self s t all d rest key i.input.0 m narrow k.0 k.1 i.ensures.keeps i.ensures.made adds) }

pub returns-clause-after : goal.returns-clause-after
returns-clause-after c =
    let b = c.args.bytes.now in
    let all = map (view_declared b) c.args.list.now in
    (declare_done c.loop-declared.names c.loop-declared.terms all c.loop-declared.key (subst (λ ds. Declaring c.loop-declared.names c.loop-declared.terms all (map (view_declared b) ds) c.loop-declared.key) (no_more c.loop-declared.rest.now (omega (arith, c.in_default.ensures.cases))) c.loop-declared.invariant.declaring)).0

pub returns-clause-fit : goal.returns-clause-fit
returns-clause-fit c =
    let b = c.args.bytes.now in
    let all = map (view_declared b) c.args.list.now in
    (declare_done c.loop-declared.names c.loop-declared.terms all c.loop-declared.key (subst (λ ds. Declaring c.loop-declared.names c.loop-declared.terms all (map (view_declared b) ds) c.loop-declared.key) (no_more c.loop-declared.rest.now (omega (arith, c.in_default.ensures.cases))) c.loop-declared.invariant.declaring)).1

pub returns-clause-inputs : goal.returns-clause-inputs
returns-clause-inputs c = c.loop-declared.invariant.declaring.inputs ∙ sym c.requires.inputs
