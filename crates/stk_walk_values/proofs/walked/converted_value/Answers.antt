use Rattle.std.proofs.Common.{◌≡◌, sym, ap, ◌∙◌, subst}
use Rattle.stk_ctype.specs.declared.kind.IntKind.{IntKind}
use Rattle.stk_tree.specs.View.{view_expression}
use Rattle.stk_numbers.specs.Kinds.{wrap}
use Rattle.stk_meaning.specs.Typings.{type_in, number_kind}
use Rattle.stk_walking.proofs.Carried.{keeps_then, is_made_still, stands_still}
use Rattle.stk_walking.proofs.Costing.{costs_more}
use Rattle.stk_walk_values.proofs.walked.converted_value.Goals as goal

pub value-requires-clause-ready : goal.value-requires-clause-ready
value-requires-clause-ready g c = record { keys = c.requires.keys; values_made = c.requires.made }

pub converted-requires : goal.converted-requires
converted-requires g c =
    let G = g.O.RunSetting.setting c.args.out.now in
    let from = c.kind_at-from.ensures ∙ ap (λ i. number_kind (G.typing.type_at i)) c.node_of.ensures in
    subst (λ (k : IntKind). g.V.Values.made c.value.new.values k c.in_ok-number.number) (sym from) c.in_ok-number.ensures.walks.answered

pub returns-clause-makes : goal.returns-clause-makes
returns-clause-makes g c = subst (λ (k : IntKind). g.V.Values.made c.converted.new.values k c.in_ok-found.found) c.kind_at.ensures c.in_ok-found.ensures.makes

pub returns-clause-made : goal.returns-clause-made
returns-clause-made g c = is_made_still (g.V.Values.made c.value.new.values) (g.V.Values.made c.converted.new.values) c.in_ok-found.ensures.keeps.made_still (g.O.RunSetting.setting c.args.out.now) c.value.new.state c.in_ok-number.ensures.walks.values_made

pub returns-clause-follows : goal.returns-clause-follows
returns-clause-follows g c = λ m s served at.
    let V = g.V.Values in
    let G = g.O.RunSetting.setting c.args.out.now in
    let e = view_expression c.args.e.now in
    let from : c.kind_at-from.result ≡ number_kind (type_in G.typing e) = c.kind_at-from.ensures ∙ ap (λ i. number_kind (G.typing.type_at i)) c.node_of.ensures in
    let k1 = c.in_ok-number.ensures.walks.keeps in
    let k2 = c.in_ok-found.ensures.keeps in
    let x = c.in_ok-number.ensures.walks.leads m s served tt at in
    let found = c.in_ok-found.ensures.value m x.number (k1.served m served) (subst (λ (k : IntKind). V.shows c.value.new.values m k c.in_ok-number.number x.number) (sym from) x.value) in
    record {
      number = x.number;
      standing = x.standing;
      value = subst (λ (k : IntKind). V.shows c.converted.new.values m k c.in_ok-found.found (wrap k x.number)) c.kind_at.ensures found;
      stands = stands_still (V.shows c.value.new.values m) (V.shows c.converted.new.values m) (k2.shown m) G c.value.new.state x.standing x.stands;
      goes = x.goes;
    }

pub returns-clause-keeps : goal.returns-clause-keeps
returns-clause-keeps g c =
    let V = g.V.Values in
    keeps_then V.serves V.has_key V.made V.shows c.args.values.now c.value.new.values c.converted.new.values c.in_ok-number.ensures.walks.keeps c.in_ok-found.ensures.keeps

pub returns-clause-cost : goal.returns-clause-cost
returns-clause-cost g c =
    let G = g.O.RunSetting.setting c.args.out.now in
    let e = view_expression c.args.e.now in
    let from : c.kind_at-from.result ≡ number_kind (type_in G.typing e) = c.kind_at-from.ensures ∙ ap (λ i. number_kind (G.typing.type_at i)) c.node_of.ensures in
    costs_more _ c.in_ok-number.ensures.cost (rw (from, c.kind_at.ensures) at c.in_ok-found.ensures.charge)
