use Rattle.std.proofs.Common.{rules, ◌≡◌, ◌≤◌, ◌<◌, ◌+◌, true, false, refl, length, sym, ap, ◌∙◌, subst, arith, Some, slice_get, get_or}
use Rattle.std.proofs.lemmas.Option.{slice_get-get_or}
use Rattle.indexmap.specs.IndexSet.{contains}
use Rattle.stk_hits.specs.declared.hit_table.Row.{Row}
use Rattle.stk_hits.specs.ConditionIds.{same_condition_id}
use Rattle.stk_hits.proofs.Answering.{none_free, first_free, one_more_meets}
use Rattle.stk_hits.proofs.hit_table.HitTable.first_apart.Goals as goal

abbrev no_row : Row
no_row = record { set = 0; first = 0 }

pub returns-then-not-meets : goal.returns-then-not-meets
returns-then-not-meets c runs k set d same is =
    let r = get_or c.args.rows.now c.loop-row.row-index no_row in
    let here = slice_get-get_or c.args.rows.now c.loop-row.row-index no_row c.loop-row-test.true in
    first_free runs c.args.self.now k set (λ m. contains same_condition_id c.args.condition_ids.now m) d is c.args.rows.now c.loop-row.row-index r same here c.loop-row.invariant (λ ms n. sym c.if-not-meets.true ∙ c.meets.ensures ms n)

pub loop-row-preserved : goal.loop-row-preserved
loop-row-preserved c =
    let r = get_or c.args.rows.now c.loop-row.row-index no_row in
    let here = slice_get-get_or c.args.rows.now c.loop-row.row-index no_row c.loop-row-test.true in
    one_more_meets c.args.self.now.steps (λ m. contains same_condition_id c.args.condition_ids.now m) c.args.rows.now c.loop-row.row-index r here c.loop-row.invariant (λ ms n. sym c.if-not-meets.false ∙ c.meets.ensures ms n)

pub returns : goal.returns
returns c runs k set d same is =
    let ended : length c.args.rows.now ≤ c.loop-row.row-index = search rules in
    none_free runs c.args.self.now k set (λ m. contains same_condition_id c.args.condition_ids.now m) d is c.args.rows.now c.loop-row.row-index same ended c.loop-row.invariant
