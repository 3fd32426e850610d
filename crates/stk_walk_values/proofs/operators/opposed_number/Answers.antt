use Rattle.std.proofs.Common.{sym, ap, ◌∙◌, subst, ◌≡◌}
use Rattle.stk_ctype.specs.declared.kind.IntKind.{IntKind}
use Rattle.stk_meaning.specs.Typings.{number_kind, type_in}
use Rattle.stk_tree.specs.View.{view_expression}
use Rattle.stk_walk_values.proofs.operators.opposed_number.Goals as goal

pub is_zero-requires : goal.is_zero-requires
is_zero-requires g c =
    let G = g.O.RunSetting.setting c.args.out.now in
    let kind = c.kind_at-kind.ensures ∙ ap (λ i. number_kind (G.typing.type_at i)) c.node_of.ensures in
    subst (λ (k : IntKind). g.V.Values.made c.args.values.now k c.args.value) (sym kind) c.requires

pub returns-clause-value : goal.returns-clause-value
returns-clause-value g c = λ m x served hx.
    let V = g.V.Values in
    let G = g.O.RunSetting.setting c.args.out.now in
    let kind = c.kind_at-kind.ensures ∙ ap (λ i. number_kind (G.typing.type_at i)) c.node_of.ensures in
    c.in_ok-found.ensures.value m x served (subst (λ (k : IntKind). V.shows c.args.values.now m k c.args.value x) (sym kind) hx)

pub returns-clause-charge : goal.returns-clause-charge
returns-clause-charge g c =
    let G = g.O.RunSetting.setting c.args.out.now in
    let e = view_expression c.args.e.now in
    let kind : c.kind_at-kind.result ≡ number_kind (type_in G.typing e) = c.kind_at-kind.ensures ∙ ap (λ i. number_kind (G.typing.type_at i)) c.node_of.ensures in
    rw kind at c.in_ok-found.ensures.charge
