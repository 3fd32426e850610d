use Rattle.std.proofs.Common.{◌<◌, ◌*◌, arith, refl, subst, sym}
use Rattle.stk_clauses.specs.Propagation.{IsOpen}
use Rattle.stk_propagate.specs.Assigned.{Assigned}
use Rattle.stk_propagate.proofs.Pushing.{room_left, inside_push}
use Rattle.stk_propagate.proofs.Filling.{depth_left}
use Rattle.stk_propagate.proofs.assignment.Assignment.push.Goals as goal

pub push_reserved-requires : goal.push_reserved-requires
push_reserved-requires c =
    let f = c.self.inside in
    let room = room_left f c.args.lit c.self.invariant (subst (λ (a : Assigned). c.args.lit.0 < 2 * a.vars) (sym c.self.view_is) c.requires.below) (subst (λ (a : Assigned). IsOpen a.literals c.args.lit) (sym c.self.view_is) c.requires.unassigned) in
    omega (arith, room, c.self.invariant.literal_room, f.literals.ok.0)

pub push_reserved-requires-2 : goal.push_reserved-requires-2
push_reserved-requires-2 c =
    let f = c.self.inside in
    let room = room_left f c.args.lit c.self.invariant (subst (λ (a : Assigned). c.args.lit.0 < 2 * a.vars) (sym c.self.view_is) c.requires.below) (subst (λ (a : Assigned). IsOpen a.literals c.args.lit) (sym c.self.view_is) c.requires.unassigned) in
    omega (arith, room, c.self.invariant.reason_room, c.self.invariant.facts.paired, f.reasons.ok.0)

pub deeper-depth-requires : goal.deeper-depth-requires
deeper-depth-requires c =
    let f = c.self.inside in
    omega (arith, depth_left f c.args.lit c.self.invariant (subst (λ (a : Assigned). c.args.lit.0 < 2 * a.vars) (sym c.self.view_is) c.requires.below) (subst (λ (a : Assigned). IsOpen a.literals c.args.lit) (sym c.self.view_is) c.requires.unassigned))

pub invariant_of-self : goal.invariant_of-self
invariant_of-self c =
    let f = c.self.inside in
    inside_push f _ c.args.lit c.args.reason c.len.result c.deeper-depth.result c.self.invariant
    (subst (λ (a : Assigned). c.args.lit.0 < 2 * a.vars) (sym c.self.view_is) c.requires.below)
    (subst (λ (a : Assigned). IsOpen a.literals c.args.lit) (sym c.self.view_is) c.requires.unassigned)
    (omega (arith, c.len.ensures, f.literals.ok.0))
    c.deeper-depth.ensures
    refl refl refl refl refl c.push_reserved.ensures.items c.push_reserved-2.ensures.items (omega (arith, c.push_reserved.ensures.capacity)) (omega (arith, c.push_reserved-2.ensures.capacity))
