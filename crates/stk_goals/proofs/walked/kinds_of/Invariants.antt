use Rattle.std.proofs.Common.{◌≡◌, ◌++◌, map, drop}
use Rattle.stk_function_env.specs.declared.infos.KeyInfo.{KeyInfo}
use Rattle.stk_goals.proofs.walked.kinds_of.Given as goal

abbrev pub invariant-loop-key : goal.invariant-loop-key
invariant-loop-key l = l.kinds.items ++ map (λ (k : KeyInfo). k.kind) (drop l.key-index l.keys) ≡ map (λ (k : KeyInfo). k.kind) l.keys
