use Rattle.std.proofs.Common.{◌≡◌, true, false, [], ◌∷◌, None, ℕ, sym, ap, ◌∙◌, subst, length, refl}
use Rattle.std.specs.Prelude.{if◌then◌else◌, Bool}
use Rattle.stk_ctype.specs.declared.kind.IntKind.{IntKind}
use Rattle.stk_ctype.specs.declared.kind.IntKind.TheVariants.{Int}
use Rattle.stk_tree.specs.View.{view_expression}
use Rattle.stk_tree.specs.Parts.{bare}
use Rattle.stk_meaning.specs.declared.entry.Entry.TheVariants.{Seen}
use Rattle.stk_meaning.specs.Typings.{type_in, number_kind, node_of}
use Rattle.stk_meaning.specs.Operations.{truth, bit}
use Rattle.stk_meaning.specs.Worlds.{Went}
use Rattle.stk_meaning.specs.Expressions.{is_comparison, seen}
use Rattle.stk_walking.specs.Events.{truth_events}
use Rattle.stk_walking.proofs.Carried.{is_made_still, steps_made}
use Rattle.stk_walking.proofs.Walking.{walks_alone, walks_as, walks_marked}
use Rattle.stk_walk_values.proofs.Checking.{walks_checked}
use Rattle.stk_walking.proofs.Costing.{costs_only, plus, at_most}
use Rattle.stk_walk_values.proofs.Spending.{some_more}
use Rattle.stk_walk_values.proofs.operators.seen_test.Goals as goal

pub is_true-requires : goal.is_true-requires
is_true-requires g c =
    let G = g.O.RunSetting.setting c.args.out.now in
    let kind = c.kind_at.ensures ∙ ap (λ i. number_kind (G.typing.type_at i)) c.node_of.ensures in
    subst (λ (k : IntKind). g.V.Values.made c.args.values.now k c.args.value) (sym kind) c.requires.value

pub see-requires-clause-guard : goal.see-requires-clause-guard
see-requires-clause-guard g c = c.in_ok-test.ensures.keeps.made_still _ _ c.requires.ready.values_made.guard

pub see-requires-clause-steps : goal.see-requires-clause-steps
see-requires-clause-steps g c = steps_made (g.V.Values.made c.args.values.now) (g.V.Values.made c.is_true.new.values) c.in_ok-test.ensures.keeps.made_still c.args.state.now.steps.items c.requires.ready.values_made.steps

pub returns-then-is_comparison-clause-walks : goal.returns-then-is_comparison-clause-walks
returns-then-is_comparison-clause-walks g c = λ x.
    let V = g.V.Values in
    let G = g.O.RunSetting.setting c.args.out.now in
    let p = view_expression c.args.e.now in
    let b = bare p in
    let kind : c.kind_at.result ≡ number_kind (type_in G.typing p) = c.kind_at.ensures ∙ ap (λ i. number_kind (G.typing.type_at i)) c.node_of.ensures in
    let compares : is_comparison b ≡ true = sym (ap is_comparison c.bare-inner.ensures) ∙ sym c.is_comparison.ensures ∙ c.if-is_comparison.true in
    walks_as (λ m r i. Went x r i (seen b x))
    (walks_marked (walks_alone {P = λ m. V.shows c.args.values.now m (number_kind (type_in G.typing p)) c.args.value x} {answer = λ z. V.made z Int c.in_ok-test.test} {shown = λ z m y. V.shows z m Int c.in_ok-test.test (bit (truth y))} (λ m. x) c.in_ok-test.ensures.makes c.requires.ready.values_made c.in_ok-test.ensures.keeps (λ m served hx. c.in_ok-test.ensures.value m x served (subst (λ (k : IntKind). V.shows c.args.values.now m k c.args.value x) (sym kind) hx)))
    (ap (λ (z : Bool). if z then [] else truth_events (node_of b)) (sym compares)))
    (λ m r i. ap (λ (z : Bool). Went x r i (if z then [] else Seen (node_of b) (truth x) None ∷ [])) (sym compares))

pub returns-clause-walks : goal.returns-clause-walks
returns-clause-walks g c = λ x.
    let V = g.V.Values in
    let G = g.O.RunSetting.setting c.args.out.now in
    let p = view_expression c.args.e.now in
    let b = bare p in
    let kind : c.kind_at.result ≡ number_kind (type_in G.typing p) = c.kind_at.ensures ∙ ap (λ i. number_kind (G.typing.type_at i)) c.node_of.ensures in
    let other : is_comparison b ≡ false = sym (ap is_comparison c.bare-inner.ensures) ∙ sym c.is_comparison.ensures ∙ c.if-is_comparison.false in
    let at : c.node_of-2.result ≡ node_of b = c.node_of-2.ensures ∙ ap node_of c.bare-inner.ensures in
    let k1 = c.in_ok-test.ensures.keeps in
    let e2 = c.in_ok-see.ensures in
    walks_as (λ m r i. Went x r i (seen b x))
    (walks_marked (walks_checked {P = λ m. V.shows c.args.values.now m (number_kind (type_in G.typing p)) c.args.value x} {answer = λ z. V.made z Int c.in_ok-test.test} {shown = λ z m y. V.shows z m Int c.in_ok-test.test (bit (truth y))} x (Seen c.node_of-2.result (truth x) None ∷ []) k1 (e2.keeps.made_still _ _ c.in_ok-test.ensures.makes) (e2.made G (is_made_still (V.made c.args.values.now) (V.made c.is_true.new.values) k1.made_still G c.args.state.now c.requires.ready.values_made)) e2.events e2.keeps
    (λ m s before served hx a. e2.stands G m s (truth x) None served (c.in_ok-test.ensures.value m x before (subst (λ (k : IntKind). V.shows c.args.values.now m k c.args.value x) (sym kind) hx)) tt a)
    (λ m served hx. e2.keeps.shown m _ _ _ (c.in_ok-test.ensures.value m x served (subst (λ (k : IntKind). V.shows c.args.values.now m k c.args.value x) (sym kind) hx))))
    (ap truth_events at ∙ ap (λ (z : Bool). if z then [] else truth_events (node_of b)) (sym other)))
    (λ m r i. ap (λ (n : ℕ). Went x r i (Seen n (truth x) None ∷ [])) at ∙ ap (λ (z : Bool). Went x r i (if z then [] else Seen (node_of b) (truth x) None ∷ [])) (sym other))

pub returns-then-is_comparison-clause-cost : goal.returns-then-is_comparison-clause-cost
returns-then-is_comparison-clause-cost g c =
    let G = g.O.RunSetting.setting c.args.out.now in
    let e = view_expression c.args.e.now in
    let kind : c.kind_at.result ≡ number_kind (type_in G.typing e) = c.kind_at.ensures ∙ ap (λ i. number_kind (G.typing.type_at i)) c.node_of.ensures in
    let test = rw kind at c.in_ok-test.ensures.charge in
    costs_only refl (at_most _ test (some_more _ 6))

pub returns-clause-cost : goal.returns-clause-cost
returns-clause-cost g c =
    let G = g.O.RunSetting.setting c.args.out.now in
    let e = view_expression c.args.e.now in
    let kind : c.kind_at.result ≡ number_kind (type_in G.typing e) = c.kind_at.ensures ∙ ap (λ i. number_kind (G.typing.type_at i)) c.node_of.ensures in
    let test = rw kind at c.in_ok-test.ensures.charge in
    costs_only (ap length c.in_ok-see.ensures.cells) (plus _ _ _ test c.in_ok-see.ensures.charge)
