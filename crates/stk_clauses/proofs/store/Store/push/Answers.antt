use Rattle.std.proofs.Common.{◌≡◌, ◌++◌, ◌-◌, ◌^◌, ◌<◌, length, arith, ap}
use Rattle.stk_clauses.proofs.Cuts.{length-cut, cut-push, store_push}
use Rattle.stk_clauses.proofs.store.Store.push.Goals as goal

-- the length of the literals with the clause behind them
grown : (c : goal.After-push_reserved) → c.len.result ≡ length (c.self.inside.literals.items ++ c.args.clause.now)
grown c = omega (arith, c.len.ensures, c.append.new.literals.ok.0, ap length c.in_ok-append.ensures.appended)

few : (c : goal.After-push_reserved) → length c.self.inside.ends.items < 2 ^ 31 - 1
few c = omega (arith, c.requires.room, length-cut c.self.inside.literals.items 0 c.self.inside.ends.items, ap length c.self.view_is)

pub invariant_of-self-2 : goal.invariant_of-self-2
invariant_of-self-2 c =
    rw (c.push_reserved.ensures.items, c.in_ok-append.ensures.appended, c.in_ok-reserve.ensures.items)
    (store_push c.self.inside.literals.items c.args.clause.now c.self.inside.ends.items c.len.result c.self.invariant (few c) c.requires.distinct (grown c))

pub returns-clause-number : goal.returns-clause-number
returns-clause-number c = omega (arith, c.len-id.ensures, ap length c.in_ok-reserve.ensures.items, c.reserve.new.self.ok.0, length-cut c.self.inside.literals.items 0 c.self.inside.ends.items, ap length c.self.view_is, c.self.inside.ends.ok.0)

pub returns-clause-pushed : goal.returns-clause-pushed
returns-clause-pushed c =
    rw (← c.self.view_is, c.push_reserved.ensures.items, c.in_ok-append.ensures.appended, c.in_ok-reserve.ensures.items)
    (cut-push c.self.inside.literals.items c.args.clause.now 0 c.self.inside.ends.items c.len.result c.self.invariant.rising (grown c))
