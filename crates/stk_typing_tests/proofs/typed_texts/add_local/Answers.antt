use Rattle.stk_declarators.proofs.Rows.{local_pushed}
use Rattle.stk_typing_tests.proofs.typed_texts.add_local.Goals as goal

pub returns : goal.returns
returns c = λ structs all. local_pushed structs c.push.result c.args.locals.now c.push.new.self _ c.push.ensures.added (c.in_ok-ty.ensures structs) all
