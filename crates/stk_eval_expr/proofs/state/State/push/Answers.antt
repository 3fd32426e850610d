use Rattle.std.proofs.Common.{[], ◌∷◌, refl}
use Rattle.stk_eval_expr.proofs.LeavingLaws.{bounded_adds, cut_adds}
use Rattle.stk_eval_expr.proofs.state.State.push.Goals as goal

pub returns-then-self : goal.returns-then-self
returns-then-self g c = cut_adds (c.args.entry ∷ []) c.args.self.now c.if-self.true

pub returns : goal.returns
returns g c =
    let s0 = c.args.self.now in
    bounded_adds (c.args.entry ∷ []) s0 (record s0 { entries = c.push.new.self }) c.bound.new.self c.if-self.false refl refl refl refl c.in_ok-push.ensures.items c.bound.ensures
