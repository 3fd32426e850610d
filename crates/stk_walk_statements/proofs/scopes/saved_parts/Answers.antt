use Rattle.std.proofs.Common.{◌≡◌, ◌+◌, [], ◌∷◌, ◌++◌, ℕ, List, drop, map, refl, sym, ◌∙◌, subst, append_assoc, arith}
use Rattle.std.proofs.lemmas.List.{append-nil, drop_all}
use Rattle.stk_tree.specs.View.{view_part, parts}
use Rattle.stk_meaning.specs.Visits.{part_declares, parts_declare}
use Rattle.stk_kinded.specs.Kinds.{register_kind}
use Rattle.stk_exec_stmt.proofs.Flowing.{next_of}
use Rattle.stk_walking.proofs.Carried.{keeps_none, keeps_then, row_made, row_shown}
use Rattle.stk_walk_statements.specs.Saved.{SavedMade, SavedShow}
use Rattle.stk_walk_statements.proofs.scopes.saved_parts.Goals as goal

pub loop-part-init : goal.loop-part-init
loop-part-init g c =
    let V = g.V.Values in
    let row = register_kind (g.O.RunSetting.setting c.args.out.now) in
    let made : SavedMade (V.made c.args.values.now) row c.new-saved.result.items = rw c.new-saved.ensures.items tt in
    (keeps_none V.serves V.has_key V.made V.shows c.args.values.now, made, [], refl, (λ m xs served at. rw c.new-saved.ensures.items tt), omega arith)

pub save_part-requires-clause-registers : goal.save_part-requires-clause-registers
save_part-requires-clause-registers g c =
    let made = g.V.Values.made in
    row_made (made c.args.values.now) (made c.loop-part.values) c.loop-part.invariant.0.made_still (register_kind (g.O.RunSetting.setting c.args.out.now)) 0 c.args.registers.now.items c.requires

pub save_part-requires-clause-saved : goal.save_part-requires-clause-saved
save_part-requires-clause-saved g c = c.loop-part.invariant.1

pub loop-part-preserved : goal.loop-part-preserved
loop-part-preserved g c =
    let V = g.V.Values in
    let row = register_kind (g.O.RunSetting.setting c.args.out.now) in
    let list = c.args.list.now in
    let i = c.loop-part.part-index in
    let so_far = c.loop-part.invariant in
    let p = c.part-item.result in
    let ks = part_declares (view_part p) in
    let rest = parts_declare (parts (map view_part (drop (i + 1) list))) in
    let step = next_of list i p c.loop-part-test.true c.part-item.is in
    let is = so_far.2 in
    let whole : is ++ parts_declare (parts (map view_part (p ∷ drop (i + 1) list))) ≡ parts_declare (parts (map view_part list)) = rw step at so_far.3 in (
      keeps_then V.serves V.has_key V.made V.shows c.args.values.now c.loop-part.values c.save_part.new.values so_far.0 c.in_ok-save_part.ensures.keeps,
      c.in_ok-save_part.ensures.made,
      is ++ ks,
      append_assoc is ks rest ∙ whole,
      (λ m xs served at.
          let registers = row_shown (V.shows c.args.values.now m) (V.shows c.loop-part.values m) (so_far.0.shown m) row 0 c.args.registers.now.items xs at in
          c.in_ok-save_part.ensures.shown m is xs (so_far.0.served m served) registers (so_far.4 m xs served at)),
      omega (arith, so_far.5, c.in_ok-save_part.ensures.charge),
    )

pub returns-clause-shown : goal.returns-clause-shown
returns-clause-shown g c = λ m xs served at.
    let V = g.V.Values in
    let row = register_kind (g.O.RunSetting.setting c.args.out.now) in
    let so_far = c.loop-part.invariant in
    let none : drop c.loop-part.part-index c.args.list.now ≡ [] = drop_all c.loop-part.part-index c.args.list.now (omega arith) in
    let whole : so_far.2 ++ [] ≡ parts_declare (parts (map view_part c.args.list.now)) = rw none at so_far.3 in
    subst (λ (ks : List ℕ). SavedShow (V.shows c.loop-part.values m) row c.loop-part.saved.items ks xs) (sym (append-nil so_far.2) ∙ whole) (so_far.4 m xs served at)

pub returns-clause-charge : goal.returns-clause-charge
returns-clause-charge g c = c.loop-part.invariant.5
