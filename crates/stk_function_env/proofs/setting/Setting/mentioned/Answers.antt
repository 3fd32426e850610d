use Rattle.std.proofs.Common.{map, ◌∙◌}
use Rattle.stk_function_env.specs.Settings.{mention_in, words_behind}
use Rattle.stk_function_env.proofs.Mentioned.{last_meaning-words_behind}
use Rattle.stk_function_env.proofs.setting.Setting.mentioned.Goals as goal

pub returns : goal.returns
returns c =
    let ms = map (mention_in c.self.inside.types.now.bytes) c.self.inside.mentions.items in
    rw (← c.self.view_is) (c.get.ensures (words_behind ms) c.self.invariant.1 ∙ last_meaning-words_behind c.args.name.now ms)
