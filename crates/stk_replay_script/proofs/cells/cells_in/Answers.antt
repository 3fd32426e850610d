use Rattle.std.proofs.Common.{◌≡◌, ◌<◌, List, [], ◌∷◌, ◌++◌, length, append_assoc, append-nil, sym, ◌∙◌, ap, subst, arith}
use Rattle.stk_memory.specs.declared.image.Cell.{Cell}
use Rattle.stk_replay_script.specs.Fields.{AreCells}
use Rattle.stk_replay_script.proofs.CellTexts.{some_next, others_behind, more_cells, empty_cells, shorter}
use Rattle.stk_replay_script.proofs.cells.cells_in.Goals as goal

pub returns-in_default : goal.returns-in_default
returns-in_default c cs a =
    let some : 0 < length c.loop-left.left.now = grind (arith, c.is_empty.ensures, c.loop-left-test.true) in
    let rest = c.loop-left.invariant.whole cs a in
    let next = some_next c.loop-left.left.now rest.0 some rest.1 in
    c.in_default.ensures next.0 next.1 next.2

pub loop-left-preserved : goal.loop-left-preserved
loop-left-preserved c = record {
  front = λ rest a. subst (λ (cs : List Cell). AreCells c.args.text.now cs)
      (sym (append_assoc c.loop-left.cells.items (c.in-Some.cell ∷ []) rest) ∙ ap (λ cs. cs ++ rest) (sym c.in_ok-push.ensures.items))
      (c.loop-left.invariant.front (c.in-Some.cell ∷ rest) (more_cells c.loop-left.left.now c.in-Some.behind.now c.in-Some.cell rest c.in-Some.ensures a));
  whole = λ cs a. let rest = c.loop-left.invariant.whole cs a in others_behind c.loop-left.left.now c.in-Some.behind.now c.in-Some.cell rest.0 c.in-Some.ensures rest.1;
}

pub loop-left-smaller : goal.loop-left-smaller
loop-left-smaller c = shorter c.loop-left.left.now c.in-Some.cell c.in-Some.behind.now c.in-Some.ensures

pub returns : goal.returns
returns c =
    let none : length c.loop-left.left.now ≡ 0 = grind (arith, c.is_empty.ensures, c.loop-left-test.false) in
    subst (λ (cs : List Cell). AreCells c.args.text.now cs) (append-nil c.loop-left.cells.items ∙ sym c.from_vec.ensures) (c.loop-left.invariant.front [] (empty_cells c.loop-left.left.now none))
