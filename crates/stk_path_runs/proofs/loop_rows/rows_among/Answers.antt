use Rattle.std.proofs.Common.{rules, suc, ◌≡◌, ◌<◌, ◌≤◌, ◌+◌, ℕ, List, [], ◌∷◌, length, get_or, drop, map, sym, ap, subst, ◌∙◌, add-one, drop-cons}
use Rattle.std.proofs.lemmas.List.{drop_all}
use Rattle.stk_function_types.specs.declared.visits.Visit.{Visit}
use Rattle.stk_function_types.specs.Visits.{marked_visit}
use Rattle.stk_function_types.specs.Gathered.{given, gathered}
use Rattle.stk_function_env.specs.Settings.{setting_in}
use Rattle.stk_path_runs.specs.Rows.{AddsRows, visit_loops}
use Rattle.stk_path_runs.proofs.Rowed.{adds_none, adds_more}
use Rattle.stk_path_runs.proofs.loop_rows.rows_among.Goals as goal

next_of : {A : Type 0} (xs : List A) (i : ℕ) (d : A) → i < length xs → d ≡ get_or xs i d → drop i xs ≡ d ∷ drop (i + 1) xs
next_of xs i d h e = rw add-one (drop-cons xs i d h ∙ ap (λ (z : _). z ∷ drop (suc i) xs) (sym e))

pub loop-visit-preserved : goal.loop-visit-preserved
loop-visit-preserved c = record {
  places = c.in_ok-visit_row.ensures.places c.loop-visit.invariant.places;
  rows = λ keys now h a.
      let here : c.loop-visit.visit-index < length c.args.visits.now = search rules in
      let e = next_of c.args.visits.now c.loop-visit.visit-index c.visit-item.result here c.visit-item.is in
      c.loop-visit.invariant.rows keys now h
      (subst (λ (xs : List Visit). AddsRows (setting_in c.args.setting.now) keys (gathered visit_loops (map marked_visit xs)) c.loop-visit.out.rows.items now) (sym e)
      (adds_more (setting_in c.args.setting.now) keys (given visit_loops (marked_visit c.visit-item.result)) (gathered visit_loops (map marked_visit (drop (c.loop-visit.visit-index + 1) c.args.visits.now))) c.loop-visit.out.rows.items c.visit_row.new.out.rows.items now (c.in_ok-visit_row.ensures.rows keys h) a));
}

pub returns-clause-rows : goal.returns-clause-rows
returns-clause-rows c keys h =
    let past : length c.args.visits.now ≤ c.loop-visit.visit-index = search rules in
    let ended : drop c.loop-visit.visit-index c.args.visits.now ≡ [] = drop_all c.loop-visit.visit-index c.args.visits.now past in
    c.loop-visit.invariant.rows keys c.loop-visit.out.rows.items h
    (subst (λ (xs : List Visit). AddsRows (setting_in c.args.setting.now) keys (gathered visit_loops (map marked_visit xs)) c.loop-visit.out.rows.items c.loop-visit.out.rows.items) (sym ended) (adds_none (setting_in c.args.setting.now) keys c.loop-visit.out.rows.items))
