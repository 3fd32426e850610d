use Rattle.std.proofs.Common.{◌≡◌, Err, rules}
use Rattle.stk_type_rules.specs.declared.untyped.Untyped.TheVariants.{NoMemory}
use Rattle.stk_declare.proofs.Answering.{free}
use Rattle.stk_declare.proofs.declarators.ruled.Goals as goal

pub returns-in_err-count-clause-gives : goal.returns-in_err-count-clause-gives
returns-in_err-count-clause-gives c = let same : c.from_residual.result ≡ Err NoMemory = search rules in λ s shape. rw same (free _ _)

pub returns-in_err-differs-clause-gives : goal.returns-in_err-differs-clause-gives
returns-in_err-differs-clause-gives c = let same : c.from_residual-in_err-differs.result ≡ Err NoMemory = search rules in λ s shape. rw same (free _ _)
