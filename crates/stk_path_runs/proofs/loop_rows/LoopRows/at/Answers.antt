use Rattle.std.proofs.Common.{rules, ◌≡◌, ◌≤◌, ℕ, ◌==◌, Option, Some, None, List, length, slice_get, refl, sym, ap, ◌∙◌}
use Rattle.std.specs.Prelude.{option_and_then}
use Rattle.std.specs.Option.{option_copied}
use Rattle.std.proofs.lemmas.Option.{slice_get_past, slice_get_read}
use Rattle.stk_path_runs.specs.Places.{first_place}
use Rattle.stk_path_runs.specs.declared.loop_rows.LoopRow.{LoopRow}
use Rattle.stk_path_runs.specs.Rows.{row_at}
use Rattle.stk_path_runs.proofs.Rowed.{row_found}
use Rattle.stk_path_runs.proofs.loop_rows.LoopRows.at.Goals as goal

-- what is at the place of a row
at_place : (k : ℕ) (rows : List LoopRow) (place : Option ℕ) (found : Option LoopRow) → place ≡ first_place (λ (r : LoopRow). r.node == k) rows → option_and_then (λ i. slice_get rows i) place ≡ found → found ≡ row_at k rows
at_place k rows place found e h = sym h ∙ ap (λ (o : Option ℕ). option_and_then (λ i. slice_get rows i) o) e ∙ row_found k rows

pub returns-in_err-place : goal.returns-in_err-place
returns-in_err-place c h =
    let same : c.from_residual.result ≡ None = search rules in
    ap option_copied same ∙ at_place c.args.node c.args.self.now.rows.items None None (sym c.in_err-place.was ∙ c.at.ensures ∙ h c.args.node) refl

pub returns-in-None : goal.returns-in-None
returns-in-None c h =
    let past : length c.deref.result.now ≤ c.in_ok-place.place = search rules in
    at_place c.args.node c.args.self.now.rows.items (Some c.in_ok-place.place) None (sym c.in_ok-place.was ∙ c.at.ensures ∙ h c.args.node) (ap (λ (rows : List LoopRow). slice_get rows c.in_ok-place.place) (sym c.deref.ensures.value) ∙ slice_get_past c.deref.result.now c.in_ok-place.place past)

pub returns-in-Some : goal.returns-in-Some
returns-in-Some c h =
    let l = c.in-Some.ensures.lookup in
    at_place c.args.node c.args.self.now.rows.items (Some c.in_ok-place.place) (Some c.in-Some.row.now) (sym c.in_ok-place.was ∙ c.at.ensures ∙ h c.args.node) (ap (λ (rows : List LoopRow). slice_get rows c.in_ok-place.place) (sym c.deref.ensures.value) ∙ slice_get_read c.deref.result.now (length c.deref.result.now) c.in_ok-place.place c.in-Some.row.now refl l.3.0 l.1)
