use Rattle.std.proofs.Common.{◌∙◌}
use Rattle.stk_path_runs.specs.declared.key_index.LoopKey.{LoopKey}
use Rattle.stk_path_runs.proofs.key_index.KeyIndex.in_loop.Goals as goal

pub returns : goal.returns
returns c keys h =
    let key : LoopKey = record { node = c.args.node; register = c.args.register } in
    c.copied.ensures ∙ c.get.ensures.value ∙ h.loops key
