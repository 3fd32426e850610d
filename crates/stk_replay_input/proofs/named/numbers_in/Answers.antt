use Rattle.std.proofs.Common.{ℕ, List, ℤ, map}
use Rattle.std.specs.Global.{Vec}
use Rattle.stk_function_env.specs.Infos.{info_in}
use Rattle.stk_replay_script.specs.Starts.{IsStart}
use Rattle.stk_replay_input.proofs.Answered.{no_other, at_some}
use Rattle.stk_replay_input.proofs.named.numbers_in.Goals as goal

pub returns-else-are_in_range : goal.returns-else-are_in_range
returns-else-are_in_range c =
    let texts = c.args.texts.now in
    let start = c.args.start.now in
    let read = at_some ((xs : List ℤ) → IsStart texts start xs → ⊥) (λ (v : Vec ℤ). IsStart texts start v.items) c.in_ok-start_numbers.field-0 c.in-Some.numbers c.in-Some.is c.in_ok-start_numbers.ensures in
    no_other texts (map info_in c.args.keys.now) start c.in-Some.numbers.items c.as_slice.result.now c.are_in_range.result read c.as_slice.ensures.value c.are_in_range.ensures c.if-are_in_range.false
