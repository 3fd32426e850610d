use Rattle.std.proofs.Common.{[]}
use Rattle.stk_kinded.specs.Kinds.{register_kind}
use Rattle.stk_walk_statements.specs.Saved.{SavedShow}
use Rattle.stk_walk_statements.proofs.scopes.saved_start.Goals as goal

pub returns-in_ok-save_declared-in-Local-clause-shown : goal.returns-in_ok-save_declared-in-Local-clause-shown
returns-in_ok-save_declared-in-Local-clause-shown g c = λ m xs served at.
    let row = register_kind (g.O.RunSetting.setting c.args.out.now) in
    let none : SavedShow (g.V.Values.shows c.args.values.now m) row c.new-saved.result.items [] xs = rw c.new-saved.ensures.items tt in
    rw (c.in-Local.is, ← c.as_slice.ensures) (c.in_ok-save_declared-in-Local.ensures.shown m [] xs served at none)
