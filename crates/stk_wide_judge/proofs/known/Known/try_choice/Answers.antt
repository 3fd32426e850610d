use Rattle.std.proofs.Common.{◌≡◌, List, ℕ, map, ap, ◌∙◌, subst}
use Rattle.stk_tree.specs.View.{view_function}
use Rattle.stk_meaning.specs.Keys.{KeyInfo, keys_of, kept_of}
use Rattle.stk_meaning.specs.Maps.{AreInRange}
use Rattle.stk_meaning.specs.Places.{Setting}
use Rattle.stk_function_types.specs.Nodes.{typing_in}
use Rattle.stk_function_env.specs.Infos.{info_in}
use Rattle.stk_function_env.specs.Settings.{FunctionPlaces}
use Rattle.stk_wide_judge.proofs.Tracing.{words_stay, valid_by_test}
use Rattle.stk_wide_judge.proofs.known.Known.try_choice.Goals as goal

pub returns-then-valid : goal.returns-then-valid
returns-then-valid c known =
    let p = c.args.function.now.tables.now.places in
    let ty = typing_in p.types in
    let f = view_function c.args.function.now.f.now in
    let own = c.requires in
    let numbers = c.in_ok-start.start.numbers in
    let keys : map info_in c.keys-keys.result.now ≡ keys_of ty p.without f = c.keys-keys.ensures ∙ (ap (λ (q : FunctionPlaces). q.keys) c.setting.ensures ∙ own.keys) in
    let range : AreInRange (keys_of ty p.without f) numbers = subst (λ (ks : List KeyInfo). AreInRange ks numbers) keys c.in_ok-start.ensures in
    let kept : p.kept ≡ kept_of ty p.without f = ap (λ (s : Setting). s.kept) own.setting in
    let words = c.as_slice-2.ensures.value ∙ words_stay (map info_in c.keys-keys.result.now) (keys_of ty p.without f) c.in_ok-words.words.items c.as_slice.result.now numbers c.in_ok-words.ensures keys c.as_slice.ensures range in
    c.add.ensures (valid_by_test ty p.without f p.kept p.keys c.as_slice-2.result.now numbers c.in_ok-valid.valid kept own.keys words range c.in_ok-valid.ensures c.if-valid.true) known
