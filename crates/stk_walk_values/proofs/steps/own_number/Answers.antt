use Rattle.std.proofs.Common.{ℤ, sym, ap, ◌∙◌, subst, refl}
use Rattle.std.specs.Prelude.{unwrap_or, pos, IsTrue}
use Rattle.stk_ctype.specs.declared.kind.IntKind.{IntKind}
use Rattle.stk_numbers.specs.Kinds.{fits}
use Rattle.stk_numbers.proofs.Machine.{shown}
use Rattle.stk_numbers.proofs.Wrapping.{wrap_in_range}
use Rattle.stk_meaning.specs.Typings.{number_kind, converted}
use Rattle.stk_walking.proofs.Walking.{walks_alone}
use Rattle.stk_walk_values.proofs.Naming.{own_converted}
use Rattle.stk_walking.proofs.Costing.{costs_free}
use Rattle.stk_walk_values.proofs.steps.own_number.Goals as goal

pub constant-requires : goal.constant-requires
constant-requires g c =
    let G = g.O.RunSetting.setting c.args.out.now in
    let t = G.typing.type_at c.args.node in
    let own = G.typing.number_at c.args.node in
    let is = c.number.ensures.is ∙ c.own_word-own.ensures ∙ ap (λ o. unwrap_or o (pos 0)) c.own_number.ensures ∙ own_converted t own in
    let within : IsTrue (fits (number_kind t) (converted t (unwrap_or own (pos 0)))) = wrap_in_range (number_kind t) (unwrap_or own (pos 0)) in
    subst (λ (z : ℤ). IsTrue (fits c.kind_at-kind.result z)) (sym (shown (number_kind t) (unwrap_or own (pos 0)) c.number.result is)) (subst (λ (k : IntKind). IsTrue (fits k (converted t (unwrap_or own (pos 0))))) (sym c.kind_at-kind.ensures) within)

pub returns-clause-walks : goal.returns-clause-walks
returns-clause-walks g c =
    let V = g.V.Values in
    let G = g.O.RunSetting.setting c.args.out.now in
    let t = G.typing.type_at c.args.node in
    let own = G.typing.number_at c.args.node in
    let is = c.number.ensures.is ∙ c.own_word-own.ensures ∙ ap (λ o. unwrap_or o (pos 0)) c.own_number.ensures ∙ own_converted t own in
    let now = c.constant.new.self in
    let v = c.in_ok-found.found in
    walks_alone (λ m. converted t (unwrap_or own (pos 0))) (subst (λ (k : IntKind). V.made now k v) c.kind_at-kind.ensures c.in_ok-found.ensures.makes) c.requires.ready.values_made c.in_ok-found.ensures.keeps
    (λ m served h. subst (λ (k : IntKind). V.shows now m k v (converted t (unwrap_or own (pos 0)))) c.kind_at-kind.ensures (subst (λ (z : ℤ). V.shows now m c.kind_at-kind.result v z) (shown (number_kind t) (unwrap_or own (pos 0)) c.number.result is) (c.in_ok-found.ensures.value m served)))

pub returns-clause-cost : goal.returns-clause-cost
returns-clause-cost g c = costs_free refl c.in_ok-found.ensures.charge
