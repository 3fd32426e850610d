use Rattle.std.proofs.Common.{◌≡◌, ◌++◌, ◌<◌, ◌≤◌, ◌+◌, ℕ, List, Some, None, map, length, drop, get_or, slice_get, sym, ap, ◌∙◌, subst, rules, ◌∷◌, []}
use Rattle.std.proofs.lemmas.Option.{slice_get-get_or, slice_get_past}
use Rattle.stk_tree.specs.View.{view_function}
use Rattle.stk_numbers.specs.declared.conditions.Candidate.{Candidate}
use Rattle.stk_function_types.specs.Nodes.{typing_in}
use Rattle.stk_spelling.specs.Placed.{placed_in}
use Rattle.stk_replay_text.specs.declared.line.ReplayLine.{ReplayLine}
use Rattle.stk_replay_text.specs.Text.{lines_text}
use Rattle.stk_replay_input.specs.Lines.{hit_line, candidates_at}
use Rattle.stk_replay_input.proofs.LineTexts.{next_hit, next_none}
use Rattle.stk_replay_input.proofs.lines.add_hits.Goals as goal
use Rattle.stk_replay_input.proofs.lines.add_hits.Goals.{in-Some+in_ok-line+in_ok-add_line, in_default}

pub loop-at-preserved : goal.loop-at-preserved
loop-at-preserved c =
    let told = c.args.told.now in
    let line = hit_line (placed_in told.types.now) (typing_in told.types.now) (view_function told.function.now) in
    let list = c.args.list.now in
    let hits = c.args.hits.now in
    let i = c.loop-at.at-index in
    let before = c.loop-at.text.items in
    let whole = c.args.text.now.items ++ lines_text (map line (candidates_at list hits)) in
    let within : i < length hits = search rules in
    elim c.match-get.branch [
      | in-Some+in_ok-line+in_ok-add_line w ↦
          let found = slice_get-get_or list (get_or hits i 0) w.in-Some.candidate.now w.in-Some.ensures.lookup.3.0 ∙ ap (λ (x : Candidate). Some x) (sym w.in-Some.ensures.lookup.1) in
          let added = w.in_ok-add_line.ensures ∙ ap (λ (l : ReplayLine). before ++ lines_text (l ∷ [])) w.in_ok-line.ensures in
          subst (λ t. t.items ++ lines_text (map line (candidates_at list (drop (i + 1) hits))) ≡ whole) (sym w.text-is) (next_hit line list hits i 0 before whole within c.loop-at.invariant w.in-Some.candidate.now w.add_line.new.text.items found added)
      | in_default w ↦
          subst (λ t. t.items ++ lines_text (map line (candidates_at list (drop (i + 1) hits))) ≡ whole) (sym w.text-is) (next_none line list hits i 0 before whole within c.loop-at.invariant (slice_get_past list (get_or hits i 0) w.in_default.ensures.lookup.3))
    ]
