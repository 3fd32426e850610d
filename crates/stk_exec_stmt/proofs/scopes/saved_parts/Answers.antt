use Rattle.std.proofs.Common.{◌+◌, ◌++◌, drop, map, sym, ap, ◌∙◌, append_assoc}
use Rattle.stk_tree.specs.View.{view_part, parts}
use Rattle.stk_meaning.specs.Visits.{part_declares, parts_declare}
use Rattle.stk_exec_stmt.specs.Saved.{saved_of}
use Rattle.stk_exec_stmt.proofs.Flowing.{next_of}
use Rattle.stk_exec_stmt.proofs.Saving.{saved-append}
use Rattle.stk_exec_stmt.proofs.scopes.saved_parts.Goals as goal

pub loop-part-preserved : goal.loop-part-preserved
loop-part-preserved g c =
    let list = c.args.list.now in
    let i = c.loop-part.part-index in
    let r = c.args.state.now.registers.items in
    let old = c.loop-part.saved.items in
    let first = part_declares (view_part c.part-item.result) in
    let rest = parts_declare (parts (map view_part (drop (i + 1) list))) in
    let step = next_of list i c.part-item.result c.loop-part-test.true c.part-item.is in
    ap (λ u. u ++ saved_of rest r) c.in_ok-save_part.ensures ∙ append_assoc old (saved_of first r) (saved_of rest r) ∙ ap (λ u. old ++ u) (sym (saved-append first rest r)) ∙ (rw step at c.loop-part.invariant)
