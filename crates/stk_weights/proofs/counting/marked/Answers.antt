use Rattle.std.proofs.Common.{rules}
use Rattle.std.specs.Prelude.{ltb}
use Rattle.std.proofs.lemmas.List.Sorted.{IsPartitionPoint-from_clause}
use Rattle.stk_weights.proofs.Steps.{partitioned, point_is}
use Rattle.stk_weights.proofs.counting.marked.Goals as goal

pub returns-clause-is : goal.returns-clause-is
returns-clause-is c = λ m h.
    point_is c.args.begins.now c.args.last m c.partition_point.result c.partition_point.ensures.bound h
    (IsPartitionPoint-from_clause (λ y. ltb y c.args.last) c.args.begins.now c.partition_point.result c.partition_point.ensures.partitioned (partitioned c.args.begins.now c.args.last m h) (λ a r f' k. search rules))
