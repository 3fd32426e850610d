use Rattle.std.proofs.Common.{refl}
use Rattle.stk_exec_stmt.proofs.Beginning.{unset_leaves, unset_cut}
use Rattle.stk_exec_stmt.proofs.declarations.begun_register.Goals as goal

pub returns-in-Some : goal.returns-in-Some
returns-in-Some g c =
    let s0 = c.args.state.now in
    unset_leaves (g.W.RunSetting.setting c.args.out.now) (g.W.World.world c.args.out.now) c.args.k c.args.at c.kind_at.result c.unset.result c.in-Some.number (g.W.World.shown c.unset.new.kept) s0 (record s0 { registers = c.put_word.new.list; kept = c.unset.new.kept })
    c.kind_at.ensures c.in-Some.is c.unset.ensures refl c.put_word.ensures refl refl refl

pub returns-in-None : goal.returns-in-None
returns-in-None g c =
    unset_cut (g.W.RunSetting.setting c.args.out.now) (g.W.World.world c.args.out.now) c.args.k c.args.at c.kind_at.result c.unset.result (g.W.World.shown c.unset.new.kept) c.args.state.now c.end.new.self
    c.kind_at.ensures c.in-None.is c.unset.ensures c.end.ensures.cut c.end.ensures.entries c.end.ensures.most
