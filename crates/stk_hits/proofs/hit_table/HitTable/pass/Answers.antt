use Rattle.std.proofs.Common.{◌≡◌, ◌++◌, [], ◌∷◌, ℕ, List, Option, length, sym, ap, ◌∙◌, subst}
use Rattle.stk_meaning.specs.declared.entry.Entry.{Entry}
use Rattle.stk_numbers.specs.declared.conditions.Candidate.{Candidate}
use Rattle.stk_hits.specs.declared.hit_table.Hit.{Hit}
use Rattle.stk_hits.specs.ConditionIds.{condition_ids_of}
use Rattle.stk_hits.specs.Tables.{Table, Describes, IsNumberOf}
use Rattle.stk_hits.specs.Recording.{GoesOn, noted_of, plain_hit, replaced_hit}
use Rattle.stk_hits.proofs.Passing.{passed_on}
use Rattle.stk_hits.proofs.hit_table.HitTable.pass.Goals as goal

pub returns-clause-describes : goal.returns-clause-describes
returns-clause-describes c runs begun d number is =
    passed_on runs begun c.args.entry c.args.self.now c.note.new.self c.note-2.new.self c.set_behind.new.self c.args.set c.args.number c.in_ok-behind.behind c.plain_hit.result c.replaced_hit.result d number is
    c.in_ok-note.ensures.steps c.in_ok-note.ensures.hits c.in_ok-note-2.ensures.steps c.in_ok-note-2.ensures.hits c.plain_hit.ensures c.replaced_hit.ensures c.in_ok-behind.ensures
