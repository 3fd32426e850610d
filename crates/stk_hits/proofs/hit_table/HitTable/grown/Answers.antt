use Rattle.std.proofs.Common.{◌≡◌, ℕ, ◌+◌, ◌≤◌, length, sym, ap, ◌∙◌, subst, arith}
use Rattle.stk_meaning.specs.declared.entry.Entry.TheVariants.{Ub}
use Rattle.stk_hits.specs.declared.condition_ids.ConditionId.{ConditionId}
use Rattle.stk_hits.specs.declared.hit_table.Step.{Step}
use Rattle.stk_hits.specs.Recording.{GoesOn}
use Rattle.stk_hits.proofs.Growing.{goes_on, in_order}
use Rattle.stk_hits.proofs.Passing.{table_of}
use Rattle.stk_hits.proofs.hit_table.HitTable.grown.Goals as goal

abbrev step_with : ℕ → ConditionId → Step
step_with set m = record { before = set; node = m.node; kind = m.kind }

pub returns : goal.returns
returns c =
    subst (λ t. GoesOn t (table_of c.insert_full.new.self.keys c.self.inside.hits.entries) c.args.set (Ub c.args.condition) (c.in_ok-place.place + 1)) c.self.view_is
    (goes_on c.self.inside.steps.keys c.insert_full.new.self.keys c.self.inside.hits.entries c.args.set c.in_ok-place.place c.args.condition (step_with c.args.set c.condition_id_of-condition_id.result) (ap (step_with c.args.set) c.condition_id_of-condition_id.ensures) c.in_ok-place.ensures.keys c.in_ok-place.ensures.stored)
