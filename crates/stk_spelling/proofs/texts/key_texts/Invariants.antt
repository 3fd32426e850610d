use Rattle.std.proofs.Common.{◌≡◌, ◌++◌, map, drop}
use Rattle.stk_function_env.specs.Infos.{info_in}
use Rattle.stk_spelling.specs.Placed.{placed_in}
use Rattle.stk_spelling.specs.Texts.{key_text}
use Rattle.stk_spelling.proofs.texts.key_texts.Given as goal

abbrev pub invariant-loop-info : goal.invariant-loop-info
invariant-loop-info l = l.texts.items ++ map (key_text (placed_in l.types) l.names) (map info_in (drop l.info-index l.keys)) ≡ map (key_text (placed_in l.types) l.names) (map info_in l.keys)
