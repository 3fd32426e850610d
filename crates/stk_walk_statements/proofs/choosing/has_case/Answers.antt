use Rattle.std.proofs.Common.{◌≡◌, ◌+◌, ◌||◌, [], ◌∷◌, Bool, false, drop, map, refl, sym, ◌∙◌, subst, arith, ap}
use Rattle.std.proofs.lemmas.List.{drop_all}
use Rattle.stk_ctype.specs.declared.kind.IntKind.TheVariants.{Int}
use Rattle.stk_tree.specs.View.{view_label, labels}
use Rattle.stk_meaning.specs.Operations.{bit}
use Rattle.stk_meaning.specs.Statements.{is_case, has_case}
use Rattle.stk_exec_stmt.proofs.Flowing.{next_of}
use Rattle.stk_walking.proofs.Carried.{keeps_then}
use Rattle.stk_walk_statements.proofs.Sectioning.{or_false, or_later}
use Rattle.stk_numbers.specs.Kinds.{width_of}
use Rattle.stk_spending.specs.Statements.{labels_spent}
use Rattle.stk_walking.proofs.Costing.{plus, one_completes, charged_all}
use Rattle.stk_walk_statements.proofs.choosing.has_case.Goals as goal

pub loop-label-init : goal.loop-label-init
loop-label-init g c = (c.in_ok-found.ensures.keeps, c.in_ok-found.ensures.makes, (λ m x served hx. (false, c.in_ok-found.ensures.value m served, refl)), record { so_far = 0; within = omega (arith, c.in_ok-found.ensures.charge); completes = omega arith })

pub or_case-requires-clause-number : goal.or_case-requires-clause-number
or_case-requires-clause-number g c = c.loop-label.invariant.0.made_still _ _ c.requires

pub or_case-requires-clause-found : goal.or_case-requires-clause-found
or_case-requires-clause-found g c = c.loop-label.invariant.1

pub loop-label-preserved : goal.loop-label-preserved
loop-label-preserved g c =
    let V = g.V.Values in
    let ty = (g.O.RunSetting.setting c.args.out.now).typing in
    let list = c.args.list.now in
    let i = c.loop-label.label-index in
    let so_far = c.loop-label.invariant in
    let l = c.label-item.result in
    let step = next_of list i l c.loop-label-test.true c.label-item.is in
    let w = width_of c.args.kind in
    let spent = so_far.3 in
    let completes : spent.so_far + labels_spent (labels (map view_label (l ∷ drop (i + 1) list))) w ≡ labels_spent (labels (map view_label list)) w = rw step at spent.completes in (
      keeps_then V.serves V.has_key V.made V.shows c.args.values.now c.loop-label.values c.or_case.new.values so_far.0 c.in_ok-more.ensures.keeps,
      c.in_ok-more.ensures.makes,
      (λ m x served hx.
          let found = so_far.2 m x served hx in
          let b : Bool = found.0 in
          let d = is_case ty c.args.kind x (view_label l) in
          let left = has_case ty c.args.kind x (labels (map view_label (drop (i + 1) list))) in
          let whole : (b || has_case ty c.args.kind x (labels (map view_label (l ∷ drop (i + 1) list)))) ≡ has_case ty c.args.kind x (labels (map view_label list)) = rw step at found.2 in
          (b || d, c.in_ok-more.ensures.value m x b (so_far.0.served m served) (so_far.0.shown m _ _ _ hx) found.1, or_later b d left ∙ whole)),
      record { so_far = _; within = plus _ _ _ spent.within c.in_ok-more.ensures.charge; completes = one_completes _ _ _ _ completes },
    )

pub returns-clause-value : goal.returns-clause-value
returns-clause-value g c = λ m x served hx.
    let ty = (g.O.RunSetting.setting c.args.out.now).typing in
    let found = c.loop-label.invariant.2 m x served hx in
    let none : drop c.loop-label.label-index c.args.list.now ≡ [] = drop_all c.loop-label.label-index c.args.list.now (omega arith) in
    let b : Bool = found.0 in
    let whole : (b || false) ≡ has_case ty c.args.kind x (labels (map view_label c.args.list.now)) = rw none at found.2 in
    subst (λ (z : Bool). g.V.Values.shows c.loop-label.values m Int c.loop-label.found (bit z)) (sym (or_false b) ∙ whole) found.1

pub returns-clause-charge : goal.returns-clause-charge
returns-clause-charge g c =
    let w = width_of c.args.kind in
    let none : drop c.loop-label.label-index c.args.list.now ≡ [] = drop_all c.loop-label.label-index c.args.list.now (omega arith) in
    let rest : labels_spent (labels (map view_label (drop c.loop-label.label-index c.args.list.now))) w ≡ 0 = ap (λ z. labels_spent (labels (map view_label z)) w) none in
    charged_all rest c.loop-label.invariant.3
