use Rattle.std.proofs.Common.{◌≡◌, List, ℤ, [], ◌∷◌, sym, ap, ◌∙◌, subst, length}
use Rattle.stk_ctype.specs.declared.kind.IntKind.{IntKind}
use Rattle.stk_ctype.specs.declared.kind.IntKind.TheVariants.{Int}
use Rattle.stk_tree.specs.View.{view_expression}
use Rattle.stk_meaning.specs.declared.entry.Entry.TheVariants.{Seen}
use Rattle.stk_meaning.specs.Typings.{type_in, number_kind}
use Rattle.stk_meaning.specs.Operations.{Operation, operated, operation_of, comparing, truth}
use Rattle.stk_meaning.specs.Replacements.{replacement}
use Rattle.stk_meaning.specs.Expressions.{replaced_by}
use Rattle.stk_operators.specs.Shown.{operation_shown}
use Rattle.stk_kinded.specs.Kinds.{operation_kind}
use Rattle.stk_walking.specs.Events.{seen_events}
use Rattle.stk_walking.specs.Operands.{IsShiftOf}
use Rattle.stk_walking.proofs.Carried.{is_made_still, keeps_then, steps_made}
use Rattle.stk_walking.proofs.Walking.{walks_marked}
use Rattle.stk_walk_values.specs.Sided.{SidesShow}
use Rattle.stk_walk_values.proofs.Checking.{walks_checked}
use Rattle.stk_walk_values.proofs.Replacing.{seen_replaced, compared_truth}
use Rattle.stk_walking.proofs.Costing.{costs_only, plus, free_by}
use Rattle.stk_walk_values.proofs.Spending.{replaced_found, seen_found}
use Rattle.stk_walk_values.proofs.operators.compared_number.Goals as goal

pub operated-requires-clause-left : goal.operated-requires-clause-left
operated-requires-clause-left g c =
    let G = g.O.RunSetting.setting c.args.out.now in
    let kind = c.kind_at.ensures ∙ ap (λ i. number_kind (G.typing.type_at i)) c.node_of-first.ensures in
    subst (λ (k : IntKind). g.V.Values.made c.args.values.now k c.args.pair.0.number) (sym kind) c.requires.first.number

pub operated-requires-clause-right : goal.operated-requires-clause-right
operated-requires-clause-right g c =
    let G = g.O.RunSetting.setting c.args.out.now in
    let kind = c.kind_at-2.ensures ∙ ap (λ i. number_kind (G.typing.type_at i)) c.node_of-second.ensures in
    subst (λ (k : IntKind). g.V.Values.made c.args.values.now k c.args.pair.1.number) (sym kind) c.requires.second.number

pub operated-requires-clause-shifts : goal.operated-requires-clause-shifts
operated-requires-clause-shifts g c = subst (λ (o : Operation). IsShiftOf c.kind_at.result o) (sym c.operation-operation.ensures) tt

pub replaced-requires-clause-first_left : goal.replaced-requires-clause-first_left
replaced-requires-clause-first_left g c = c.in_ok-number.ensures.keeps.made_still _ _ c.requires.first.left

pub replaced-requires-clause-first_right : goal.replaced-requires-clause-first_right
replaced-requires-clause-first_right g c = c.in_ok-number.ensures.keeps.made_still _ _ c.requires.first.right

pub replaced-requires-clause-second_left : goal.replaced-requires-clause-second_left
replaced-requires-clause-second_left g c = c.in_ok-number.ensures.keeps.made_still _ _ c.requires.second.left

pub replaced-requires-clause-second_right : goal.replaced-requires-clause-second_right
replaced-requires-clause-second_right g c = c.in_ok-number.ensures.keeps.made_still _ _ c.requires.second.right

pub see-requires-clause-test : goal.see-requires-clause-test
see-requires-clause-test g c =
    c.in_ok-replaced.ensures.keeps.made_still _ _ (subst (λ (o : Operation). g.V.Values.made c.operated.new.values (operation_kind o) c.in_ok-number.number) c.operation-operation.ensures c.in_ok-number.ensures.makes)

pub see-requires-clause-guard : goal.see-requires-clause-guard
see-requires-clause-guard g c = c.in_ok-replaced.ensures.keeps.made_still _ _ (c.in_ok-number.ensures.keeps.made_still _ _ c.requires.ready.values_made.guard)

pub see-requires-clause-steps : goal.see-requires-clause-steps
see-requires-clause-steps g c =
    let k1 = c.in_ok-number.ensures.keeps in
    let k2 = c.in_ok-replaced.ensures.keeps in
    steps_made (g.V.Values.made c.args.values.now) (g.V.Values.made c.replaced.new.values) (λ k v h. k2.made_still k v (k1.made_still k v h)) c.args.state.now.steps.items c.requires.ready.values_made.steps

pub returns-clause-walks : goal.returns-clause-walks
returns-clause-walks g c = λ p q.
    let V = g.V.Values in
    let G = g.O.RunSetting.setting c.args.out.now in
    let a = view_expression c.args.left.now in
    let b = view_expression c.args.right.now in
    let ta = type_in G.typing a in
    let tb = type_in G.typing b in
    let op = c.args.op in
    let o = operation_of G.typing (comparing op) ta tb in
    let z = operated o p.number q.number in
    let r = replacement G.typing a b in
    let v = c.in_ok-number.number in
    let old = c.args.values.now in
    let k1 = c.in_ok-number.ensures.keeps in
    let k2 = c.in_ok-replaced.ensures.keeps in
    let e3 = c.in_ok-see.ensures in
    let k12 = keeps_then V.serves V.has_key V.made V.shows old c.operated.new.values c.replaced.new.values k1 k2 in
    let one : c.kind_at.result ≡ number_kind ta = c.kind_at.ensures ∙ ap (λ i. number_kind (G.typing.type_at i)) c.node_of-first.ensures in
    let other : c.kind_at-2.result ≡ number_kind tb = c.kind_at-2.ensures ∙ ap (λ i. number_kind (G.typing.type_at i)) c.node_of-second.ensures in
    let same : operation_shown c.operation-operation.result ≡ o = c.operation-operation.ensures ∙ ap (λ i. operation_of G.typing (comparing op) (G.typing.type_at i) (G.typing.type_at c.node_of-second.result)) c.node_of-first.ensures ∙ ap (λ i. operation_of G.typing (comparing op) ta (G.typing.type_at i)) c.node_of-second.ensures in
    let made = subst (λ (u : Operation). V.made c.operated.new.values (operation_kind u) v) same c.in_ok-number.ensures.makes in
    let number = λ (m : List ℤ) (served : V.serves old m) (h : SidesShow (V.shows old m) (number_kind ta) c.args.pair.0 p × SidesShow (V.shows old m) (number_kind tb) c.args.pair.1 q).
    let x = subst (λ (k : IntKind). V.shows old m k c.args.pair.0.number p.number) (sym one) h.0.number in
    let y = subst (λ (k : IntKind). V.shows old m k c.args.pair.1.number q.number) (sym other) h.1.number in
    subst (λ (u : Operation). V.shows c.operated.new.values m (operation_kind u) v (operated u p.number q.number)) same (c.in_ok-number.ensures.value m p.number q.number served x y) in
    walks_marked (walks_checked z (Seen c.args.node (truth z) (replaced_by G.typing op r p q) ∷ []) k12 (e3.keeps.made_still _ _ (k2.made_still _ _ made))
    (e3.made G (is_made_still (V.made old) (V.made c.replaced.new.values) k12.made_still G c.args.state.now c.requires.ready.values_made)) e3.events e3.keeps
    (λ m s before served h at.
    let shown = k2.shown m _ _ _ (subst (λ (x : ℤ). V.shows c.operated.new.values m Int v x) (sym (compared_truth G.typing op ta tb p.number q.number)) (number m before h)) in
    let first : SidesShow (V.shows c.operated.new.values m) (number_kind ta) c.args.pair.0 p = record { number = k1.shown m _ _ _ h.0.number; left = k1.shown m _ _ _ h.0.left; right = k1.shown m _ _ _ h.0.right } in
    let second : SidesShow (V.shows c.operated.new.values m) (number_kind tb) c.args.pair.1 q = record { number = k1.shown m _ _ _ h.1.number; left = k1.shown m _ _ _ h.1.left; right = k1.shown m _ _ _ h.1.right } in
    e3.stands G m s (truth z) (replaced_by G.typing op r p q) served shown (c.in_ok-replaced.ensures.value m G.typing r (number_kind ta) (number_kind tb) p q (k1.served m before) c.in_ok-found.ensures first second) at)
    (λ m served h. e3.keeps.shown m _ _ _ (k2.shown m _ _ _ (number m served h))))
    (c.in_ok-replaced.ensures.events c.args.node ∙ ap (seen_events c.args.node) c.in_ok-found.ensures ∙ seen_replaced G.typing c.args.node r)

pub returns-clause-cost : goal.returns-clause-cost
returns-clause-cost g c =
    let G = g.O.RunSetting.setting c.args.out.now in
    let a = view_expression c.args.left.now in
    let b = view_expression c.args.right.now in
    let op = c.args.op in
    let ta = type_in G.typing a in
    let tb = type_in G.typing b in
    let r = replacement G.typing a b in
    let o = operation_of G.typing (comparing op) ta tb in
    let one : c.kind_at.result ≡ number_kind (type_in G.typing a) = c.kind_at.ensures ∙ ap (λ i. number_kind (G.typing.type_at i)) c.node_of-first.ensures in
    let other : c.kind_at-2.result ≡ number_kind (type_in G.typing b) = c.kind_at-2.ensures ∙ ap (λ i. number_kind (G.typing.type_at i)) c.node_of-second.ensures in
    let same : operation_shown c.operation-operation.result ≡ o = c.operation-operation.ensures ∙ ap (λ i. operation_of G.typing (comparing op) (G.typing.type_at i) (G.typing.type_at c.node_of-second.result)) c.node_of-first.ensures ∙ ap (λ i. operation_of G.typing (comparing op) ta (G.typing.type_at i)) c.node_of-second.ensures in
    let number = rw (same, one, other) at c.in_ok-number.ensures.charge in
    let replaced = free_by _ (replaced_found _ _ r c.in_ok-found.ensures) c.in_ok-replaced.ensures.charge in
    let seen = free_by _ (c.in_ok-replaced.ensures.seen ∙ seen_found _ _ r c.in_ok-found.ensures) c.in_ok-see.ensures.charge in
    costs_only (ap length c.in_ok-see.ensures.cells) (plus _ _ _ (plus _ _ _ number replaced) seen)
