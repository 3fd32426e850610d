use Rattle.std.proofs.Common.{◌≡◌, ◌++◌, drop, map}
use Rattle.std.specs.Prelude.{filter}
use Rattle.stk_address_taken.specs.Sets.{is_listed}
use Rattle.stk_function_env.proofs.changes.those_in.Given as goal

abbrev pub invariant-loop-k : goal.invariant-loop-k
invariant-loop-k l = l.out.items ++ filter (λ k. is_listed k l.set) (drop l.k-index l.list) ≡ filter (λ k. is_listed k l.set) l.list
