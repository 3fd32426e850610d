use Rattle.std.proofs.Common.{◌≡◌, ◌++◌, drop, map}
use Rattle.stk_meaning.specs.Keys.{loop_keys}
use Rattle.stk_function_env.specs.Settings.{setting_in}
use Rattle.stk_function_env.specs.Infos.{info_in}
use Rattle.stk_function_env.proofs.keys.loop_keys.Given as goal

abbrev pub invariant-loop-j : goal.invariant-loop-j
invariant-loop-j l = map info_in l.out.items ++ loop_keys (setting_in l.setting) l.node (drop l.j-index l.list) ≡ map info_in l.initial.out.items ++ loop_keys (setting_in l.setting) l.node l.list
