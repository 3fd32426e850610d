use Rattle.std.proofs.Common.{◌≡◌, ◌+◌, ◌-◌, ◌*◌, ◌^◌, ◌++◌, length, take, drop, refl, subst, ap, ◌∙◌, arith}
use Rattle.std.proofs.lemmas.List.{length-take-le, length-drop}
use Rattle.std.proofs.Math.ListN.{length-append}
use Rattle.stk_gates.specs.Edges.{edge_value}
use Rattle.stk_arith.specs.Rows.{bit, number}
use Rattle.stk_gates.proofs.Growth.{obeys_before}
use Rattle.stk_gates.proofs.Edges.{edge_value-false}
use Rattle.stk_arith.proofs.Products.{sum_from}
use Rattle.stk_arith.proofs.product.add_shifted.Goals as goal

pub returns-clause-value : goal.returns-clause-value
returns-clause-value c gates o =
    let row = c.args.row.now in
    let a = c.args.a.now in
    let sum = c.in_ok-sum.sum.row.items in
    let o1 = obeys_before _ _ gates c.add_rows.ensures.extends o in
    let high = c.split_at.ensures.back in
    let parts : c.extend_from_slice-2.new.self.items ≡ take c.args.i row ++ sum =
    let e0 = c.new-all.ensures.items in
    let e1 = c.in_ok-extend_from_slice.ensures.items in
    let e2 = c.in_ok-extend_from_slice-2.ensures.items in
    let e3 = c.split_at.ensures.front in
    let e4 = c.deref-2.ensures.value in
    e2 ∙ (λ j. (e1 ∙ (ap (λ l. l ++ c.split_at.result.0.now) e0 ∙ e3)) j ++ e4 j) in
    let front = length-take-le c.args.i row (omega arith) in
    let back : length (drop c.args.i row) ≡ length row - c.args.i = length-drop c.args.i row in
    let whole : length c.extend_from_slice-2.new.self.items ≡ length row = ap length parts ∙ (length-append (take c.args.i row) sum ∙ omega (arith, front, back, c.in_ok-sum.ensures.length, ap length high)) in
    let none : bit (edge_value gates (record { 0 = 0 })) ≡ 0 = ap bit (edge_value-false _ gates o) in
    let value = c.in_ok-sum.ensures.value gates o in
    let added : number gates sum + 2 ^ (length row - c.args.i) * bit (edge_value gates c.in_ok-sum.sum.carry) ≡ number gates (drop c.args.i row) + number gates c.deref.result.now =
    subst (λ n. number gates sum + 2 ^ n * bit (edge_value gates c.in_ok-sum.sum.carry) ≡ number gates (drop c.args.i row) + number gates c.deref.result.now) (ap length high ∙ back)
    (value ∙ ((λ j. number gates (high j) + number gates c.deref.result.now + none j) ∙ omega arith)) in
    sum_from gates row a c.extend_from_slice-2.new.self.items sum c.deref.result.now (length row) c.args.i (bit (edge_value gates c.in_ok-sum.sum.carry)) (edge_value gates c.args.test)
    refl c.requires.same (omega arith) whole parts (ap (number gates) c.deref.ensures.value ∙ c.in_ok-masked.ensures.value gates o1) added
