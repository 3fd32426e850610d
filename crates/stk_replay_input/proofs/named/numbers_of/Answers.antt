use Rattle.std.proofs.Common.{◌≡◌, ℕ, List, map, ap, subst, ◌∙◌}
use Rattle.stk_tree.specs.View.{view_function}
use Rattle.stk_meaning.specs.Keys.{KeyInfo}
use Rattle.stk_function_types.specs.Nodes.{typing_in}
use Rattle.stk_function_types.specs.Units.{TypedUnit}
use Rattle.stk_function_env.specs.Infos.{info_in}
use Rattle.stk_spelling.specs.Named.{names_of}
use Rattle.stk_spelling.specs.Placed.{placed_in}
use Rattle.stk_spelling.specs.Texts.{key_text}
use Rattle.stk_replay_input.specs.Named.{AnswersStart}
use Rattle.stk_replay_input.proofs.named.numbers_of.Goals as goal

-- the texts are those of the keys, by the types and the names that are the function's own
pub returns : goal.returns
returns c =
    let p = c.args.setting.now in
    let f = view_function c.args.f.now in
    let spelled : TypedUnit → List KeyInfo → List (List ℕ) = λ t keys. map (key_text (placed_in t) (names_of (typing_in t) f)) keys in
    let names = c.as_slice.ensures.value ∙ c.in_ok-names.ensures in
    let texts : c.as_slice-2.result.now ≡ spelled p.types p.keys =
    c.as_slice-2.ensures.value ∙ c.in_ok-texts.ensures
    ∙ ap (λ ns. map (key_text (placed_in c.types-types.result.now) ns) (map info_in c.keys.result.now)) names
    ∙ ap (λ t. spelled t (map info_in c.keys.result.now)) c.types-types.ensures
    ∙ ap (spelled p.types) c.keys.ensures
    in
    subst (λ keys. AnswersStart (spelled p.types p.keys) keys c.args.start.now c.numbers_in.result) c.keys-2.ensures
    (subst (λ ts. AnswersStart ts (map info_in c.keys-2.result.now) c.args.start.now c.numbers_in.result) texts c.numbers_in.ensures)
