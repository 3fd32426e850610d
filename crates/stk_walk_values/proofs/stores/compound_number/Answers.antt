use Rattle.std.proofs.Common.{true, ◌++◌, sym, ap, subst, ◌∙◌}
use Rattle.stk_ctype.specs.declared.kind.IntKind.{IntKind}
use Rattle.stk_tree.specs.View.{view_expression}
use Rattle.stk_meaning.specs.Typings.{type_in, number_kind, converted}
use Rattle.stk_meaning.specs.Operations.{operated}
use Rattle.stk_operators.specs.Shown.{operation_shown}
use Rattle.stk_walking.specs.Operands.{IsShiftOf}
use Rattle.stk_walking.specs.ExpressionEvents.{condition_events}
use Rattle.stk_walk_values.proofs.Lasting.{both_keep}
use Rattle.stk_walk_values.proofs.Storing.{compound_leads}
use Rattle.stk_walking.proofs.Costing.{costs_within, costs_then}
use Rattle.stk_walk_values.proofs.Spending.{five_regrouped}
use Rattle.stk_walk_values.proofs.stores.compound_number.Goals as goal

pub checked_store-requires-clause-left : goal.checked_store-requires-clause-left
checked_store-requires-clause-left g c = subst (λ (k : IntKind). g.V.Values.made c.old_number.new.values k c.in_ok-old.old) (sym c.kind_in-kind.ensures) c.in_ok-old.ensures.makes

pub checked_store-requires-clause-right : goal.checked_store-requires-clause-right
checked_store-requires-clause-right g c = c.in_ok-old.ensures.keeps.made_still _ _ c.requires.number

pub checked_store-requires-clause-shifts : goal.checked_store-requires-clause-shifts
checked_store-requires-clause-shifts g c = subst (λ (k : IntKind). IsShiftOf k (operation_shown c.args.operation)) (sym c.kind_in-kind.ensures) c.requires.shifts

pub returns-clause-makes : goal.returns-clause-makes
returns-clause-makes g c = subst (λ (k : IntKind). g.V.Values.made c.checked_store.new.values k c.in_ok-new.new) (sym c.requires.kinded) c.in_ok-new.ensures.makes

pub returns-clause-events : goal.returns-clause-events
returns-clause-events g c = λ f same. c.in_ok-new.ensures.events f same ∙ ap (λ es. es ++ condition_events (g.O.RunSetting.setting c.args.out.now) c.args.node true f) c.in_ok-old.ensures.events

pub returns-clause-follows : goal.returns-clause-follows
returns-clause-follows g c = λ f y place same m s served at.
    let shows = g.V.Values.shows in
    let G = g.O.RunSetting.setting c.args.out.now in
    let inputs = g.O.WalkSetting.under c.args.out.now m in
    let e = view_expression c.args.left.now in
    let t = type_in G.typing e in
    let o = operation_shown c.args.operation in
    let k1 = c.in_ok-old.ensures.keeps in
    let s1 = k1.served m served.0 in
    let x = c.in_ok-old.ensures.follows place m s served.0 at in
    let f1 = shows c.old_number.new.values m in
    let f2 = shows c.checked_store.new.values m in
    let left = subst (λ (k : IntKind). f1 k c.in_ok-old.old x.number) (sym c.kind_in-kind.ensures) x.value in
    let right = k1.shown m _ _ _ served.1 in
    let shown = subst (λ (k : IntKind). f2 k c.in_ok-new.new (converted t (operated o x.number y))) (sym c.requires.kinded) (c.in_ok-new.ensures.value m x.number y s1 left right) in
    compound_leads f1 f2 G inputs c.args.node f o e y place s c.old_number.new.state c.checked_store.new.state (λ z. f1 (number_kind t) c.in_ok-old.old z) (λ z. f2 (number_kind (G.typing.type_at c.args.node)) c.in_ok-new.new z)
    x (λ z. c.in_ok-new.ensures.stored m x.standing inputs f place x.number y z s1 left right same x.stands) shown

pub returns-clause-keeps : goal.returns-clause-keeps
returns-clause-keeps g c = both_keep c.in_ok-old.ensures.keeps c.in_ok-new.ensures.keeps

pub returns-clause-cost : goal.returns-clause-cost
returns-clause-cost g c = costs_within _ (five_regrouped _ _ _ _ _) (costs_then c.in_ok-old.ensures.cost (rw c.kind_in-kind.ensures at c.in_ok-new.ensures.cost))
