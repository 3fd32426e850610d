use Rattle.std.proofs.Common.{◌≡◌, drop}
use Rattle.stk_meaning.specs.Places.{position_behind}
use Rattle.stk_function_env.proofs.setting.position_of.Given as goal

abbrev pub invariant-loop-j : goal.invariant-loop-j
invariant-loop-j l = record {
  counted : l.i ≡ l.j-index;
  rest : position_behind l.i l.k (drop l.j-index l.list) ≡ position_behind 0 l.k l.list;
}
