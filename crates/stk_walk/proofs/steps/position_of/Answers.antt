use Rattle.std.proofs.Common.{◌≡◌, ℕ, true, false, ltb, subst, rules}
use Rattle.std.specs.List.Sorted.{IsPartitionPoint}
use Rattle.std.proofs.lemmas.List.Sorted.{IsPartitionPoint-from_clause, IsPartitionedBy-ltb}
use Rattle.stk_event_laws.specs.Positions.{position_in}
use Rattle.stk_event_laws.proofs.Places.{is_at}
use Rattle.stk_walk.specs.Steps.{rank}
use Rattle.stk_walk.proofs.Ranked.{non_decreasing, point_is}
use Rattle.stk_walk.proofs.steps.position_of.Goals as goal

pub returns-clause-is : goal.returns-clause-is
returns-clause-is c = λ order inside.
    let cs = c.args.list.now in
    let x = c.args.candidate in
    let at = is_at cs x inside in
    let t = c.rank-wanted.result in
    let point = IsPartitionPoint-from_clause (λ y. ltb (rank y) t) cs c.partition_point.result c.partition_point.ensures.partitioned (IsPartitionedBy-ltb rank cs t (non_decreasing cs order)) (λ a r f' k. search rules) in
    point_is cs (position_in cs x) c.partition_point.result x order at.within (at.there x) c.partition_point.ensures.bound
    (subst (λ (n : ℕ). IsPartitionPoint (λ y. ltb (rank y) n ≡ true) (λ y. ltb (rank y) n ≡ false) cs c.partition_point.result) c.rank-wanted.ensures point)
