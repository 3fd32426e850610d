use Rattle.std.proofs.Common.{refl, sym, subst, arith}
use Rattle.stk_terms.specs.Orders.{AreParts}
use Rattle.stk_terms.proofs.Collecting.{in_order}
use Rattle.stk_terms.proofs.Counting.{from_first, from_next, from_last, from_within}
use Rattle.stk_blast.proofs.asked.has_room.Goals as goal

pub loop-i-init : goal.loop-i-init
loop-i-init c =
    let s = c.args.terms.now in
    let id = c.args.id.0 in
    let are = subst (AreParts s id) (sym c.as_slice-places.ensures.value) c.in_ok-order.ensures.parts in
    let none = from_first s c.count.ensures.sound id c.requires c.as_slice-places.result.now are in
    omega (arith, none, c.count-2.ensures)

pub bound_for-bound-requires : goal.bound_for-bound-requires
bound_for-bound-requires c =
    let s = c.args.terms.now in
    let id = c.args.id.0 in
    let are = subst (AreParts s id) (sym c.as_slice-places.ensures.value) c.in_ok-order.ensures.parts in
    let order = in_order s c.count.ensures.sound id c.requires c.as_slice-places.result.now are in
    let below = order.below c.loop-i.i c.loop-i-test.true in
    omega (arith, below, c.requires)

pub returns-then-bound-left : goal.returns-then-bound-left
returns-then-bound-left c =
    let s = c.args.terms.now in
    let id = c.args.id.0 in
    let are = subst (AreParts s id) (sym c.as_slice-places.ensures.value) c.in_ok-order.ensures.parts in
    let most = from_within s c.count.ensures.sound id c.requires c.as_slice-places.result.now are c.loop-i.i c.loop-i-test.true in
    (λ h. absurd (cc), λ h. absurd (omega (arith, c.bound_for-bound.ensures, most, h)))

pub loop-i-preserved : goal.loop-i-preserved
loop-i-preserved c =
    let s = c.args.terms.now in
    let id = c.args.id.0 in
    let are = subst (AreParts s id) (sym c.as_slice-places.ensures.value) c.in_ok-order.ensures.parts in
    let next = from_next s c.count.ensures.sound id c.requires c.as_slice-places.result.now are c.loop-i.i c.loop-i-test.true in
    omega (arith, c.bound_for-bound.ensures, next, c.loop-i.invariant)

pub returns : goal.returns
returns c =
    let s = c.args.terms.now in
    let id = c.args.id.0 in
    let are = subst (AreParts s id) (sym c.as_slice-places.ensures.value) c.in_ok-order.ensures.parts in
    let all = from_last s c.count.ensures.sound id c.requires c.as_slice-places.result.now are c.loop-i.i (omega arith) in
    (λ h. omega (arith, all), λ h. refl)
