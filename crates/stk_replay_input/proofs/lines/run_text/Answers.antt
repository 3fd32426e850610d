use Rattle.std.proofs.Common.{◌≡◌, ◌++◌, ◌∷◌, [], List, ℕ, map, ap, ◌∙◌}
use Rattle.stk_tree.specs.View.{view_function}
use Rattle.stk_meaning.specs.declared.entry.Entry.{Entry}
use Rattle.stk_function_types.specs.Nodes.{typing_in}
use Rattle.stk_spelling.specs.Placed.{placed_in}
use Rattle.stk_replay_text.specs.declared.line.ReplayLine.{ReplayLine}
use Rattle.stk_replay_text.specs.Text.{lines_text}
use Rattle.stk_replay_input.specs.Lines.{entry_line, hit_line, end_line, candidates_at}
use Rattle.stk_replay_input.proofs.HitPlaces.{hit_candidates}
use Rattle.stk_replay_input.proofs.LineTexts.{three_parts}
use Rattle.stk_replay_input.proofs.lines.run_text.Goals as goal

pub returns : goal.returns
returns c =
    let told = c.args.told.now in
    let shown = c.args.replayed.now in
    let list = c.args.list.now in
    let hit = hit_line (placed_in told.types.now) (typing_in told.types.now) (view_function told.function.now) in
    let entry = entry_line (placed_in told.types.now) in
    let entries = c.in_ok-add_entries.ensures ∙ ap (λ (t : List Entry). c.new-text.result.items ++ lines_text (map entry t)) c.as_slice.ensures in
    let listed = ap (candidates_at list) (c.as_slice-2.ensures ∙ c.requires.hits) ∙ hit_candidates list shown.trace in
    let hits = c.in_ok-add_hits.ensures ∙ ap (λ cs. c.add_entries.new.text.items ++ lines_text (map hit cs)) listed in
    let end = c.in_ok-add_line.ensures ∙ ap (λ (l : ReplayLine). c.add_hits.new.text.items ++ lines_text (l ∷ [])) c.end_line.ensures in
    three_parts _ _ _ c.new-text.result.items c.add_entries.new.text.items c.add_hits.new.text.items c.add_line.new.text.items c.new-text.ensures.items entries hits end
