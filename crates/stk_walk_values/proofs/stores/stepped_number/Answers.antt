use Rattle.std.proofs.Common.{pos, true, ◌++◌, sym, ap, subst, ◌∙◌}
use Rattle.std.specs.Prelude.{if◌then◌else◌}
use Rattle.stk_ctype.specs.declared.kind.IntKind.{IntKind}
use Rattle.stk_tree.specs.Syntax as s
use Rattle.stk_tree.specs.View.{view_expression}
use Rattle.stk_meaning.specs.Typings.{type_in, number_kind, converted}
use Rattle.stk_meaning.specs.Operations.{operated, operation_tests, gives_old}
use Rattle.stk_operators.specs.Shown.{operation_shown}
use Rattle.stk_walking.specs.ExpressionEvents.{condition_events}
use Rattle.stk_walking.specs.Operands.{IsShiftOf}
use Rattle.stk_walk_values.proofs.Lasting.{both_keep, still_made, still_stands}
use Rattle.stk_walk_values.proofs.Storing.{step_shifts, given_made, given_shown, stepped_leads}
use Rattle.stk_walking.proofs.Costing.{costs_within, costs_then, costs_after}
use Rattle.stk_walk_values.proofs.Spending.{five_regrouped}
use Rattle.stk_walk_values.proofs.stores.stepped_number.Goals as goal

pub checked_store-requires-clause-left : goal.checked_store-requires-clause-left
checked_store-requires-clause-left g c =
    c.in_ok-one.ensures.keeps.made_still _ _ (subst (λ (k : IntKind). g.V.Values.made c.old_number.new.values k c.in_ok-old.old) (sym c.kind_in-kind.ensures) c.in_ok-old.ensures.makes)

pub checked_store-requires-clause-shifts : goal.checked_store-requires-clause-shifts
checked_store-requires-clause-shifts g c =
    let G = g.O.RunSetting.setting c.args.out.now in
    let t = type_in G.typing (view_expression c.args.e.now) in
    let o = operation_shown c.step_operation-operation.result in
    subst (λ (k : IntKind). IsShiftOf k o) (sym c.kind_in-kind.ensures) (subst (IsShiftOf (number_kind t)) (sym c.step_operation-operation.ensures) (step_shifts G.typing c.args.op t))

pub checked_store-requires-clause-made : goal.checked_store-requires-clause-made
checked_store-requires-clause-made g c = still_made c.in_ok-one.ensures.keeps c.in_ok-old.ensures.made

pub returns-clause-makes : goal.returns-clause-makes
returns-clause-makes g c =
    let made = g.V.Values.made c.checked_store.new.values in
    let G = g.O.RunSetting.setting c.args.out.now in
    let K = number_kind (type_in G.typing (view_expression c.args.e.now)) in
    let old = c.in_ok-new.ensures.keeps.made_still _ _ (c.in_ok-one.ensures.keeps.made_still _ _ c.in_ok-old.ensures.makes) in
    rw c.given.ensures (subst (λ (k : IntKind). made k (if gives_old c.args.op then c.in_ok-old.old else c.in_ok-new.new)) (sym c.requires.kinded) (given_made (made K) (gives_old c.args.op) c.in_ok-old.old c.in_ok-new.new old c.in_ok-new.ensures.makes))

pub returns-clause-events : goal.returns-clause-events
returns-clause-events g c =
    let G = g.O.RunSetting.setting c.args.out.now in
    let e = view_expression c.args.e.now in
    c.in_ok-new.ensures.events (s.step c.args.op e) (ap operation_tests (sym c.step_operation-operation.ensures)) ∙ ap (λ es. es ++ condition_events G c.args.node true (s.step c.args.op e)) c.in_ok-old.ensures.events

pub returns-clause-follows : goal.returns-clause-follows
returns-clause-follows g c = λ place m s0 served at.
    let shows = g.V.Values.shows in
    let G = g.O.RunSetting.setting c.args.out.now in
    let inputs = g.O.WalkSetting.under c.args.out.now m in
    let e = view_expression c.args.e.now in
    let t = type_in G.typing e in
    let K = number_kind t in
    let o = operation_shown c.step_operation-operation.result in
    let k1 = c.in_ok-old.ensures.keeps in
    let k2 = c.in_ok-one.ensures.keeps in
    let k3 = c.in_ok-new.ensures.keeps in
    let s1 = k1.served m served in
    let s2 = k2.served m s1 in
    let x = c.in_ok-old.ensures.follows place m s0 served at in
    let f1 = shows c.old_number.new.values m in
    let f2 = shows c.constant.new.self m in
    let f3 = shows c.checked_store.new.values m in
    let old = k2.shown m _ _ _ x.value in
    let left = subst (λ (k : IntKind). f2 k c.in_ok-old.old x.number) (sym c.kind_in-kind.ensures) old in
    let right = c.in_ok-one.ensures.value m s1 in
    let new = c.in_ok-new.ensures.value m x.number (pos 1) s2 left right in
    let given = given_shown (f3 K) (gives_old c.args.op) c.in_ok-old.old c.in_ok-new.new x.number (converted t (operated o x.number (pos 1))) (k3.shown m _ _ _ old) new in
    let shown = subst (λ (k : IntKind). f3 k (if gives_old c.args.op then c.in_ok-old.old else c.in_ok-new.new) (if gives_old c.args.op then x.number else converted t (operated o x.number (pos 1)))) (sym c.requires.kinded) given in
    rw c.given.ensures (stepped_leads f1 f3 G inputs c.args.node c.args.op o e place s0 c.old_number.new.state c.checked_store.new.state (λ z. f1 K c.in_ok-old.old z) (λ z. f3 (number_kind (G.typing.type_at c.args.node)) (if gives_old c.args.op then c.in_ok-old.old else c.in_ok-new.new) z) c.step_operation-operation.ensures
    x (λ z. c.in_ok-new.ensures.stored m x.standing inputs (s.step c.args.op e) place x.number (pos 1) z s2 left right (ap operation_tests (sym c.step_operation-operation.ensures)) (still_stands k2 m x.stands)) shown)

pub returns-clause-keeps : goal.returns-clause-keeps
returns-clause-keeps g c = both_keep c.in_ok-old.ensures.keeps (both_keep c.in_ok-one.ensures.keeps c.in_ok-new.ensures.keeps)

pub returns-clause-cost : goal.returns-clause-cost
returns-clause-cost g c =
    let new = rw (c.step_operation-operation.ensures, c.kind_in-kind.ensures) at c.in_ok-new.ensures.cost in
    costs_within _ (five_regrouped _ _ _ _ _) (costs_then c.in_ok-old.ensures.cost (costs_after c.in_ok-one.ensures.charge new))
