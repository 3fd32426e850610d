use Rattle.std.proofs.Common.{◌≡◌, ◌+◌, [], ◌∷◌, ◌++◌, ℕ, List, drop, map, refl, sym, ap, ◌∙◌, subst, append_assoc, arith}
use Rattle.std.proofs.lemmas.List.{append-nil, drop_all}
use Rattle.stk_tree.specs.View.{view_declarator, declarators}
use Rattle.stk_meaning.specs.Visits.{declared_by}
use Rattle.stk_meaning.specs.Typings.{declarator_node}
use Rattle.stk_kinded.specs.Kinds.{register_kind}
use Rattle.stk_exec_stmt.proofs.Flowing.{next_of}
use Rattle.stk_walking.proofs.Carried.{keeps_none, keeps_then, row_made, row_shown}
use Rattle.stk_walk_statements.specs.Saved.{SavedShow}
use Rattle.stk_walk_statements.proofs.Views.{at_declarator_node}
use Rattle.stk_walk_statements.proofs.scopes.save_declared.Goals as goal

pub loop-d-init : goal.loop-d-init
loop-d-init g c =
    let V = g.V.Values in
    let row = register_kind (g.O.RunSetting.setting c.args.out.now) in (
      keeps_none V.serves V.has_key V.made V.shows c.args.values.now,
      c.requires.saved,
      [],
      refl,
      (λ m js xs served at h.
          subst (λ (ks : List ℕ). SavedShow (V.shows c.args.values.now m) row c.args.saved.now.items ks xs) (sym (append-nil js)) h),
      omega arith,
    )

pub save-requires-clause-registers : goal.save-requires-clause-registers
save-requires-clause-registers g c =
    let made = g.V.Values.made in
    row_made (made c.args.values.now) (made c.loop-d.values) c.loop-d.invariant.0.made_still (register_kind (g.O.RunSetting.setting c.args.out.now)) 0 c.args.registers.now.items c.requires.registers

pub save-requires-clause-saved : goal.save-requires-clause-saved
save-requires-clause-saved g c = c.loop-d.invariant.1

pub loop-d-preserved : goal.loop-d-preserved
loop-d-preserved g c =
    let V = g.V.Values in
    let row = register_kind (g.O.RunSetting.setting c.args.out.now) in
    let list = c.args.list.now in
    let i = c.loop-d.d-index in
    let so_far = c.loop-d.invariant in
    let d = c.d-item.result in
    let rest = declared_by (declarators (map view_declarator (drop (i + 1) list))) in
    let k = declarator_node (view_declarator d) in
    let node = at_declarator_node d in
    let step = next_of list i d c.loop-d-test.true c.d-item.is in
    let is = so_far.2 in
    let whole : is ++ declared_by (declarators (map view_declarator (d ∷ drop (i + 1) list))) ≡ declared_by (declarators (map view_declarator list)) = rw step at so_far.3 in (
      keeps_then V.serves V.has_key V.made V.shows c.args.values.now c.loop-d.values c.save.new.values so_far.0 c.in_ok-save.ensures.keeps,
      c.in_ok-save.ensures.made,
      is ++ k ∷ [],
      append_assoc is (k ∷ []) rest ∙ whole,
      (λ m js xs served at h.
          let registers = row_shown (V.shows c.args.values.now m) (V.shows c.loop-d.values m) (so_far.0.shown m) row 0 c.args.registers.now.items xs at in
          let more = c.in_ok-save.ensures.shown m (js ++ is) xs (so_far.0.served m served) registers (so_far.4 m js xs served at h) in
          subst (λ (ks : List ℕ). SavedShow (V.shows c.save.new.values m) row c.save.new.saved.items ks xs) (ap (λ (n : ℕ). (js ++ is) ++ n ∷ []) (sym node) ∙ append_assoc js is (k ∷ [])) more),
      omega (arith, so_far.5, c.in_ok-save.ensures.charge),
    )

pub returns-clause-shown : goal.returns-clause-shown
returns-clause-shown g c = λ m js xs served at h.
    let V = g.V.Values in
    let row = register_kind (g.O.RunSetting.setting c.args.out.now) in
    let so_far = c.loop-d.invariant in
    let none : drop c.loop-d.d-index c.args.list.now ≡ [] = drop_all c.loop-d.d-index c.args.list.now (omega arith) in
    let whole : so_far.2 ++ [] ≡ declared_by (declarators (map view_declarator c.args.list.now)) = rw none at so_far.3 in
    subst (λ (ks : List ℕ). SavedShow (V.shows c.loop-d.values m) row c.loop-d.saved.items (js ++ ks) xs) (sym (append-nil so_far.2) ∙ whole) (so_far.4 m js xs served at h)

pub returns-clause-charge : goal.returns-clause-charge
returns-clause-charge g c = c.loop-d.invariant.5
