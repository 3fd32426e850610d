use Rattle.std.proofs.Common.{◌*◌, [], take}
use Rattle.stk_cnf.specs.Clauses.{named, all_tied, IsGrown}
use Rattle.stk_cnf.proofs.clauses.encoded.Given as goal

abbrev pub invariant-loop-n : goal.invariant-loop-n
invariant-loop-n l = IsGrown l.vars (3 * l.n-index) [] l.store (λ v. all_tied l.gates (named l.names v) (take l.n-index l.ands))
