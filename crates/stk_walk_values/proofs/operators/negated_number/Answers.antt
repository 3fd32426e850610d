use Rattle.std.proofs.Common.{◌≡◌, true, pos, sym, ap, ◌∙◌, subst, length}
use Rattle.stk_ctype.specs.declared.kind.IntKind.{IntKind}
use Rattle.stk_tree.specs.Syntax as s
use Rattle.stk_tree.specs.View.{view_expression}
use Rattle.stk_tree.specs.declared.expression.UnaryOp.TheVariants as unary
use Rattle.stk_numbers.specs.declared.operators.ArithOp.TheVariants.{Sub}
use Rattle.stk_numbers.specs.Kinds.{promote}
use Rattle.stk_meaning.specs.Typings.{type_in, number_kind}
use Rattle.stk_meaning.specs.Operations.{operated, in_kind}
use Rattle.stk_meaning.specs.Conditions.{unary_tests}
use Rattle.stk_meaning.specs.Expressions.{breaks}
use Rattle.stk_walking.proofs.Carried.{is_made_still}
use Rattle.stk_walk_values.proofs.Checking.{walks_checked}
use Rattle.stk_walking.proofs.Costing.{costs_only, costs_within, plus}
use Rattle.stk_walk_values.proofs.Spending.{negated_within}
use Rattle.stk_walk_values.proofs.operators.negated_number.Goals as goal

pub negated-requires : goal.negated-requires
negated-requires g c =
    let G = g.O.RunSetting.setting c.args.out.now in
    let kind = c.kind_at-from.ensures ∙ ap (λ i. number_kind (G.typing.type_at i)) c.node_of.ensures in
    subst (λ (k : IntKind). g.V.Values.made c.args.values.now k c.args.value) (sym kind) c.requires.value

pub check_one-requires-clause-first : goal.check_one-requires-clause-first
check_one-requires-clause-first g c =
    let G = g.O.RunSetting.setting c.args.out.now in
    let kind = c.kind_at-from.ensures ∙ ap (λ i. number_kind (G.typing.type_at i)) c.node_of.ensures in
    c.in_ok-number.ensures.keeps.made_still _ _ (subst (λ (k : IntKind). g.V.Values.made c.args.values.now k c.args.value) (sym kind) c.requires.value)

pub check_one-requires-clause-made : goal.check_one-requires-clause-made
check_one-requires-clause-made g c = is_made_still (g.V.Values.made c.args.values.now) (g.V.Values.made c.negated.new.values) c.in_ok-number.ensures.keeps.made_still (g.O.RunSetting.setting c.args.out.now) c.args.state.now c.requires.ready.values_made

pub returns-clause-walks : goal.returns-clause-walks
returns-clause-walks g c = λ x.
    let V = g.V.Values in
    let G = g.O.RunSetting.setting c.args.out.now in
    let e = view_expression c.args.e.now in
    let f = s.unary unary.Minus e in
    let j = promote (number_kind (type_in G.typing e)) in
    let from : c.kind_at-from.result ≡ number_kind (type_in G.typing e) = c.kind_at-from.ensures ∙ ap (λ i. number_kind (G.typing.type_at i)) c.node_of.ensures in
    let kind : c.promote-kind.result ≡ j = c.promote-kind.ensures ∙ ap promote from in
    let k1 = c.in_ok-number.ensures.keeps in
    let e2 = c.in_ok-check_one.ensures in
    let v = c.in_ok-number.number in
    let now = c.check_one.new.values in
    let same = ap (λ k. unary_tests true k unary.Minus) (sym kind) in
    walks_checked (operated (in_kind Sub j) (pos 0) x) (breaks G c.args.node true f x (pos 0) (pos 0)) k1 (e2.keeps.made_still _ _ (subst (λ (k : IntKind). V.made c.negated.new.values k v) kind c.in_ok-number.ensures.makes)) e2.made (e2.events true f same) e2.keeps
    (λ m s before served hx at. e2.stands m s x true f served (k1.shown m _ _ _ (subst (λ (k : IntKind). V.shows c.args.values.now m k c.args.value x) (sym from) hx)) same at)
    (λ m served hx.
    let found = c.in_ok-number.ensures.value m x served (subst (λ (k : IntKind). V.shows c.args.values.now m k c.args.value x) (sym from) hx) in
    e2.keeps.shown m _ _ _ (subst (λ (k : IntKind). V.shows c.negated.new.values m k v (operated (in_kind Sub k) (pos 0) x)) kind found))

pub returns-clause-cost : goal.returns-clause-cost
returns-clause-cost g c =
    let G = g.O.RunSetting.setting c.args.out.now in
    let e = view_expression c.args.e.now in
    let from : c.kind_at-from.result ≡ number_kind (type_in G.typing e) = c.kind_at-from.ensures ∙ ap (λ i. number_kind (G.typing.type_at i)) c.node_of.ensures in
    let kind : c.promote-kind.result ≡ promote (number_kind (type_in G.typing e)) = c.promote-kind.ensures ∙ ap promote from in
    let number = rw (kind, from) at c.in_ok-number.ensures.charge in
    let tests = rw (kind, from) at c.in_ok-check_one.ensures.charge in
    costs_within _ (negated_within _ _) (costs_only (ap length c.in_ok-check_one.ensures.cells) (plus _ _ _ number tests))
