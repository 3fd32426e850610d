use Rattle.std.proofs.Common.{length, ap, ◌∙◌}
use Rattle.stk_numbers.specs.Strings.{in_front, spelled, if_all}
use Rattle.stk_numbers.proofs.Spelling.{goes_on, stops, ends}
use Rattle.stk_numbers.proofs.strings.add_spelled.Goals as goal

pub returns-in_default : goal.returns-in_default
returns-in_default c =
    ap (λ b. if_all b c.loop-turn.found.items) c.is_empty.ensures
    ∙ stops (length c.args.text.now) c.loop-turn._turn c.loop-turn.found.items c.loop-turn.rest.now (in_front c.args.found.now.items (spelled (length c.args.text.now) c.args.text.now)) c.loop-turn-test.true c.in_default.ensures c.loop-turn.invariant

pub loop-turn-preserved : goal.loop-turn-preserved
loop-turn-preserved c =
    goes_on (length c.args.text.now) c.loop-turn._turn c.in-Some.byte c.loop-turn.found.items c.push.new.self.items c.loop-turn.rest.now c.in-Some.behind.now (in_front c.args.found.now.items (spelled (length c.args.text.now) c.args.text.now)) c.loop-turn-test.true c.in-Some.ensures c.in_ok-push.ensures.items c.loop-turn.invariant

pub returns : goal.returns
returns c =
    ap (λ b. if_all b c.loop-turn.found.items) c.is_empty-2.ensures
    ∙ ends (length c.args.text.now) c.loop-turn._turn c.loop-turn.found.items c.loop-turn.rest.now (in_front c.args.found.now.items (spelled (length c.args.text.now) c.args.text.now)) c.loop-turn-test.false c.loop-turn.invariant
