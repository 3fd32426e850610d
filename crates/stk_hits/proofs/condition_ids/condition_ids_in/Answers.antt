use Rattle.std.proofs.Common.{rules, ◌≡◌, ◌+◌, suc, sym, ap, ◌∙◌, subst, cond, true, take, get_or, ◌++◌, ◌∷◌, [], arith}
use Rattle.std.proofs.Math.Seq.{take-suc}
use Rattle.stk_numbers.specs.declared.conditions.Condition.{Condition}
use Rattle.stk_numbers.specs.declared.conditions.UbKind.TheVariants.{Overflow}
use Rattle.indexmap.specs.IndexSet.{contains}
use Rattle.stk_meaning.specs.Hits.{has}
use Rattle.stk_hits.specs.ConditionIds.{condition_id_of, same_condition_id}
use Rattle.stk_hits.proofs.Growing.{one_more}
use Rattle.stk_hits.proofs.condition_ids.condition_ids_in.Goals as goal

abbrev no_condition : Condition
no_condition = record { node = 0; kind = Overflow }

pub loop-condition-preserved : goal.loop-condition-preserved
loop-condition-preserved c k =
    let i = c.loop-condition.condition-index in
    let x : Condition = get_or c.args.set.now i no_condition in
    let longer : take (i + 1) c.args.set.now ≡ take i c.args.set.now ++ x ∷ [] = (let e : i + 1 ≡ suc i = omega arith in ap (λ n. take n c.args.set.now) e ∙ take-suc c.args.set.now i no_condition c.loop-condition-test.true) in
    let same : c.condition_id_of.result ≡ condition_id_of x = search rules in
    one_more (λ m. contains same_condition_id c.insert.new.self m) (λ m. contains same_condition_id c.loop-condition.condition_ids m) (take i c.args.set.now) x c.loop-condition.invariant (λ m. subst (λ u. contains same_condition_id c.insert.new.self m ≡ cond (same_condition_id u m) true (contains same_condition_id c.loop-condition.condition_ids m)) same (c.in_ok-insert.ensures.updates.0 m)) k ∙ ap (λ u. has u k) (sym longer)
