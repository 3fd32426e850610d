use Rattle.std.proofs.Common.{sym, ◌∙◌}
use Rattle.stk_tree.specs.Syntax as s
use Rattle.stk_meaning.specs.Typings.{converted}
use Rattle.stk_meaning.specs.Places.{object_named}
use Rattle.stk_eval_expr.proofs.LeavingLaws.{stops_leave}
use Rattle.stk_eval_expr.proofs.Arms.{named_cut}
use Rattle.stk_eval_expr.proofs.steps.named_place.Goals as goal

pub returns-in-Some : goal.returns-in-Some
returns-in-Some g c = λ b.
    let G = g.W.RunSetting.setting c.args.out.now in
    named_cut G (g.W.World.world c.args.out.now) c.args.node (s.name c.args.name) (object_named G c.args.node c.args.name) (G.typing.number_at c.args.node) (λ z. converted (G.typing.type_at c.args.node) z) c.in-Some.field-0 b 0 c.args.state.now c.end.new.self
    (sym c.in-Some.is ∙ c.own_number.ensures) (stops_leave 0 c.args.state.now c.end.new.self c.end.ensures)
