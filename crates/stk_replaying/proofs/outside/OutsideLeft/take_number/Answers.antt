use Rattle.std.proofs.Common.{rules, ◌≡◌, ◌∷◌, ap, refl}
use Rattle.stk_memory.specs.Image.{writes_of}
use Rattle.stk_replaying.specs.Outsides.{answer_of, answers_of}
use Rattle.stk_replaying.proofs.outside.OutsideLeft.take_number.Goals as goal

pub returns : goal.returns
returns c =
    let is : answers_of c.args.self.now.replies.now ≡ answer_of c.in-Some.reply.now ∷ answers_of c.in-Some.behind.now = ap answers_of c.in-Some.ensures.cases.0 in
    (writes_of c.in-Some.reply.now.writes, answers_of c.in-Some.behind.now, search (rules, is), refl)
