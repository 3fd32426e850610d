use Rattle.std.proofs.Common.{◌≡◌, ◌+◌, ◌&&◌, not, [], ◌∷◌, ◌++◌, ℕ, Bool, Option, None, length, drop, map, refl, sym, ap, ◌∙◌, subst, arith}
use Rattle.std.specs.Prelude.{if◌then◌else◌, option_map, Some}
use Rattle.std.proofs.lemmas.List.{drop_all, length-append}
use Rattle.stk_ctype.specs.declared.kind.IntKind.TheVariants.{Int}
use Rattle.stk_tree.specs.Syntax.{LabelTrees}
use Rattle.stk_tree.specs.View.{view_section, sections, view_label, labels}
use Rattle.stk_meaning.specs.Operations.{bit}
use Rattle.stk_meaning.specs.Statements.{has_case, labels_of, sections_before}
use Rattle.stk_exec_stmt.proofs.Flowing.{next_of}
use Rattle.stk_exec_stmt.proofs.StatementViews.{at_section}
use Rattle.stk_walking.proofs.Carried.{keeps_none, keeps_then}
use Rattle.stk_walk_statements.specs.Selected.{TestsMade, TestsLead, goes_if, is_none}
use Rattle.stk_walk_statements.proofs.Sectioning.{tests_made_still, tests_made_more, tests_still, tests_more, first_by, behind_by, none_by, goes_nowhere, and_true}
use Rattle.stk_numbers.specs.Kinds.{width_of}
use Rattle.stk_spending.specs.Statements.{case_spent, cases_spent}
use Rattle.stk_walking.proofs.Costing.{plus, at_most, one_completes, charged_all}
use Rattle.stk_walk_statements.proofs.Spending.{case_within}
use Rattle.stk_walk_statements.proofs.choosing.case_tests.Goals as goal

pub loop-x-init : goal.loop-x-init
loop-x-init g c =
    let V = g.V.Values in
    let none = c.new-tests.ensures.items in
    let tests : TestsMade (V.made c.args.values.now) c.new-tests.result.items = rw none tt in
    (keeps_none V.serves V.has_key V.made V.shows c.args.values.now, c.requires.guard, tests, ap length none, (λ m x a served hx ha. (a, ha, rw none refl, refl)), record { so_far = 0; within = omega arith; completes = omega arith })

pub has_case-requires : goal.has_case-requires
has_case-requires g c = c.loop-x.invariant.0.made_still _ _ c.requires.number

pub parted-requires-clause-left : goal.parted-requires-clause-left
parted-requires-clause-left g c = c.in_ok-case.ensures.keeps.made_still _ _ c.loop-x.invariant.1

pub loop-x-preserved : goal.loop-x-preserved
loop-x-preserved g c =
    let V = g.V.Values in
    let made = V.made in
    let shows = V.shows in
    let ty = (g.O.RunSetting.setting c.args.out.now).typing in
    let list = c.args.list.now in
    let i = c.loop-x.x-index in
    let so_far = c.loop-x.invariant in
    let k2 = c.in_ok-case.ensures.keeps in
    let k3 = c.in_ok-here.ensures.keeps in
    let k23 = keeps_then V.serves V.has_key V.made V.shows c.loop-x.values c.has_case.new.values c.parted.new.values k2 k3 in
    let d = c.x-item.result in
    let step = next_of list i d c.loop-x-test.true c.x-item.is in
    let items = c.loop-x.tests.items in
    let own : labels (map view_label c.as_slice.result.now) ≡ labels_of (view_section d) = ap (λ ls. labels (map view_label ls)) c.as_slice.ensures ∙ sym (ap labels_of (at_section d)) in
    let w = width_of c.args.kind in
    let spent = so_far.5 in
    let labelled = rw own at c.in_ok-case.ensures.charge in
    let completes : spent.so_far + cases_spent (sections (map view_section (d ∷ drop (i + 1) list))) w ≡ cases_spent (sections (map view_section list)) w = rw step at spent.completes in (
      keeps_then V.serves V.has_key V.made V.shows c.args.values.now c.loop-x.values c.parted.new.values so_far.0 k23,
      c.in_ok-here.ensures.rest,
      (rw c.in_ok-push.ensures.items (tests_made_more (made c.parted.new.values) items c.in_ok-here.here (tests_made_still (made c.loop-x.values) (made c.parted.new.values) k23.made_still items so_far.2) c.in_ok-here.ensures.here)),
      (ap length c.in_ok-push.ensures.items ∙ length-append items (c.in_ok-here.here ∷ []) ∙ ap (λ n. n + 1) so_far.3),
      (λ m x a served hx ha.
          let y = so_far.4 m x a served hx ha in
          let b : Bool = y.0 in
          let test : LabelTrees → Bool = has_case ty c.args.kind x in
          let e : Bool = test (labels_of (view_section d)) in
          let whole = sections_before test (sections (map view_section list)) in
          let o = sections_before test (sections (map view_section (drop (i + 1) list))) in
          let next : Option ℕ = if e then Some 0 else option_map (λ n. n + 1) o in
          let s1 = so_far.0.served m served in
          let case = subst (λ ls. shows c.has_case.new.values m Int c.in_ok-case.case (bit (test ls))) own (c.in_ok-case.ensures.value m x s1 (so_far.0.shown m _ _ _ hx)) in
          let two = c.in_ok-here.ensures.value m b e (k2.served m s1) (k2.shown m _ _ _ y.1) case in
          let lead : TestsLead (shows c.loop-x.values m) items (goes_if a whole) (goes_if b next) = rw step at y.2 in
          let none : (b && is_none next) ≡ (a && is_none whole) = rw step at y.3 in
          let first = subst (λ (z : Bool). shows c.parted.new.values m Int c.in_ok-here.here (bit z)) (first_by b e o) two.0 in
          let more = tests_more (shows c.parted.new.values m) items c.in_ok-here.here (goes_if a whole) (goes_if b next) (tests_still (shows c.loop-x.values m) (shows c.parted.new.values m) (k23.shown m) items (goes_if a whole) (goes_if b next) lead) first in
          let now : TestsLead (shows c.parted.new.values m) (items ++ c.in_ok-here.here ∷ []) (goes_if a whole) (goes_if (b && not e) o) = subst (λ (p : Option ℕ). TestsLead (shows c.parted.new.values m) (items ++ c.in_ok-here.here ∷ []) (goes_if a whole) p) (behind_by b e o) more in
          (b && not e, two.1, rw c.in_ok-push.ensures.items now, none_by b e o ∙ none)),
      record { so_far = spent.so_far + case_spent (view_section d) w; within = at_most _ (plus _ _ _ (plus _ _ _ spent.within labelled) c.in_ok-here.ensures.charge) (case_within spent.so_far (view_section d) w); completes = one_completes _ _ _ _ completes },
    )

pub returns-clause-value : goal.returns-clause-value
returns-clause-value g c = λ m x a served hx ha.
    let shows = g.V.Values.shows in
    let ty = (g.O.RunSetting.setting c.args.out.now).typing in
    let y = c.loop-x.invariant.4 m x a served hx ha in
    let b : Bool = y.0 in
    let whole = sections_before (has_case ty c.args.kind x) (sections (map view_section c.args.list.now)) in
    let ended : drop c.loop-x.x-index c.args.list.now ≡ [] = drop_all c.loop-x.x-index c.args.list.now (omega arith) in
    let lead : TestsLead (shows c.loop-x.values m) c.loop-x.tests.items (goes_if a whole) (goes_if b None) = rw ended at y.2 in
    let none = rw ended at y.3 in (
      subst (λ (p : Option ℕ). TestsLead (shows c.loop-x.values m) c.loop-x.tests.items (goes_if a whole) p) (goes_nowhere b) lead,
      subst (λ (z : Bool). shows c.loop-x.values m Int c.loop-x.left (bit z)) (and_true b ∙ none) y.1,
    )

pub returns-clause-charge : goal.returns-clause-charge
returns-clause-charge g c =
    let w = width_of c.args.kind in
    let ended : drop c.loop-x.x-index c.args.list.now ≡ [] = drop_all c.loop-x.x-index c.args.list.now (omega arith) in
    let rest : cases_spent (sections (map view_section (drop c.loop-x.x-index c.args.list.now))) w ≡ 0 = ap (λ z. cases_spent (sections (map view_section z)) w) ended in
    charged_all rest c.loop-x.invariant.5
