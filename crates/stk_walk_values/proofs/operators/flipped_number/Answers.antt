use Rattle.std.proofs.Common.{sym, ap, ◌∙◌, subst, negsuc, ◌-ℤ◌, ◌≡◌}
use Rattle.stk_ctype.specs.declared.kind.IntKind.{IntKind}
use Rattle.stk_numbers.specs.Kinds.{promote, wrap}
use Rattle.stk_meaning.specs.Typings.{number_kind, type_in}
use Rattle.stk_tree.specs.View.{view_expression}
use Rattle.stk_walk_values.proofs.operators.flipped_number.Goals as goal

pub flipped-requires-clause-made : goal.flipped-requires-clause-made
flipped-requires-clause-made g c =
    let G = g.O.RunSetting.setting c.args.out.now in
    let kind = c.kind_at-kind.ensures ∙ ap (λ i. number_kind (G.typing.type_at i)) c.node_of.ensures in
    subst (λ (k : IntKind). g.V.Values.made c.args.values.now k c.args.value) (sym kind) c.requires

pub returns-clause-makes : goal.returns-clause-makes
returns-clause-makes g c =
    let G = g.O.RunSetting.setting c.args.out.now in
    let kind = c.kind_at-kind.ensures ∙ ap (λ i. number_kind (G.typing.type_at i)) c.node_of.ensures in
    subst (λ (k : IntKind). g.V.Values.made c.flipped.new.values k c.in_ok-found.found) (c.promote.ensures ∙ ap promote kind) c.in_ok-found.ensures.makes

pub returns-clause-value : goal.returns-clause-value
returns-clause-value g c = λ m x served hx.
    let V = g.V.Values in
    let G = g.O.RunSetting.setting c.args.out.now in
    let kind = c.kind_at-kind.ensures ∙ ap (λ i. number_kind (G.typing.type_at i)) c.node_of.ensures in
    let found = c.in_ok-found.ensures.value m x served (subst (λ (k : IntKind). V.shows c.args.values.now m k c.args.value x) (sym kind) hx) in
    subst (λ (k : IntKind). V.shows c.flipped.new.values m k c.in_ok-found.found (wrap k (negsuc 0 -ℤ x))) (c.promote.ensures ∙ ap promote kind) found

pub returns-clause-charge : goal.returns-clause-charge
returns-clause-charge g c =
    let G = g.O.RunSetting.setting c.args.out.now in
    let e = view_expression c.args.e.now in
    let kind : c.kind_at-kind.result ≡ number_kind (type_in G.typing e) = c.kind_at-kind.ensures ∙ ap (λ i. number_kind (G.typing.type_at i)) c.node_of.ensures in
    rw (c.promote.ensures ∙ ap promote kind, kind) at c.in_ok-found.ensures.charge
