use Rattle.std.proofs.Common.{◌≡◌, ◌+◌, ◌*◌, Some, Ok, length, slice_get, sym, ap, ◌∙◌, ◌&&◌, subst, arith}
use Rattle.std.specs.List.{IsDistinct}
use Rattle.std.proofs.lemmas.Bool.{true≢false}
use Rattle.stk_gates.specs.declared.edge.Edge.{Edge}
use Rattle.stk_gates.specs.Edges.{edge_value}
use Rattle.stk_gates.proofs.Growth.{extends_inserted}
use Rattle.stk_gates.proofs.Edges.{edge_value-plain, same_pair, pair_is}
use Rattle.stk_gates.proofs.Sharing.{Kept, kept_inserted, in_order-lower, found, inserted_found, once}
use Rattle.stk_gates.proofs.gates.Gates.gate.Goals as goal

pub invariant_of-self : goal.invariant_of-self
invariant_of-self c = subst (Kept c.self.inside.inputs) (sym c.in_err-place.ensures.err) c.self.invariant

pub invariant_of-self-2 : goal.invariant_of-self-2
invariant_of-self-2 c =
    let v = c.self.view_is in
    let many : 1 + c.self.inside.inputs + length c.self.inside.pairs.keys ≡ 1 + c.args.self.now.inputs + length c.args.self.now.pairs = ap (λ t. 1 + t.inputs + length t.pairs) v in
    let room = c.requires.room in
    let a = c.requires.a in
    let b = c.requires.b in
    kept_inserted c.self.inside.inputs c.self.inside.pairs.keys c.insert_full.new.self.keys (c.args.a, c.args.b) c.in_ok-place.ensures.keys c.self.invariant (omega arith) (omega arith) (omega arith) c.requires.order c.requires.whole

pub returns-in_err-place-clause-shared : goal.returns-in_err-place-clause-shared
returns-in_err-place-clause-shared c e g =
    let p : Edge × Edge = (c.args.a, c.args.b) in
    let ks = c.self.inside.pairs.keys in
    let at : slice_get ks g.place ≡ Some p = ap (λ t. slice_get t.pairs g.place) c.self.view_is ∙ (g.operands ∙ ap Some (in_order-lower c.args.a c.args.b c.requires.order)) in
    absurd (true≢false (sym (found ks g.place p at) ∙ c.in_err-place.ensures.absent))

pub returns-clause-shared : goal.returns-clause-shared
returns-clause-shared c e g =
    let p : Edge × Edge = (c.args.a, c.args.b) in
    let ks = c.self.inside.pairs.keys in
    let ms = c.insert_full.new.self.keys in
    let place = c.in_ok-place.place in
    let s = c.in_ok-place.ensures.stored in
    let at : slice_get ks g.place ≡ Some p = ap (λ t. slice_get t.pairs g.place) c.self.view_is ∙ (g.operands ∙ ap Some (in_order-lower c.args.a c.args.b c.requires.order)) in
    let same : ms ≡ ks = inserted_found ks ms p c.in_ok-place.ensures.keys (found ks g.place p at) in
    let here : slice_get ks place ≡ Some p = ap (λ l. slice_get l place) (sym same) ∙ (s.1 ∙ ap Some (pair_is p s.0 s.2)) in
    let one : place ≡ g.place = once ks (subst (IsDistinct same_pair) same c.in_ok-place.ensures.unique) place g.place p here at in
    let inputs : c.self.inside.inputs ≡ c.args.self.now.inputs = ap (λ t. t.inputs) c.self.view_is in
    let number : 2 * (1 + c.self.inside.inputs + place) ≡ e.0 = let n = g.number in omega arith in
    (ap (λ n. Ok (record { 0 = n })) number, ap (λ l. record { inputs = c.self.inside.inputs; pairs = l }) same ∙ c.self.view_is)

pub returns-clause-value : goal.returns-clause-value
returns-clause-value c gates o =
    let s = c.in_ok-place.ensures.stored in
    edge_value-plain gates _ ∙ (o.ands c.in_ok-place.place s.0 s.1 ∙ ap (λ p. edge_value gates p.0 && edge_value gates p.1) (pair_is (c.args.a, c.args.b) s.0 s.2))

pub returns-clause-extends : goal.returns-clause-extends
returns-clause-extends c = rw (← c.self.view_is) (extends_inserted _ same_pair _ _ (c.args.a, c.args.b) c.in_ok-place.ensures.keys)
