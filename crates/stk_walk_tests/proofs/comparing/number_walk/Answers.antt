use Rattle.std.proofs.Common.{◌<◌, ◌^◌, List, length, sym, ap, subst, ◌∙◌, ℤ}
use Rattle.stk_tree.specs.View.{view_function}
use Rattle.stk_numbers.specs.declared.conditions.Candidate.{Candidate}
use Rattle.stk_meaning.specs.Keys.{KeyInfo, keys_of}
use Rattle.stk_meaning.specs.Maps.{AreInRange}
use Rattle.stk_function_types.specs.Nodes.{typing_in}
use Rattle.stk_walk_tests.proofs.Covering.{there}
use Rattle.stk_walk_tests.proofs.comparing.number_walk.Goals as goal

pub walk_function-requires-clause-few : goal.walk_function-requires-clause-few
walk_function-requires-clause-few c = subst (λ (cs : List Candidate). length cs < 2 ^ 32) (sym c.requires.candidates) c.requires.searched.few

pub walk_function-requires-clause-keys : goal.walk_function-requires-clause-keys
walk_function-requires-clause-keys c =
    let t = c.args.searched.now.tables.now in
    let ks = keys_of (typing_in t.places.types) t.places.without (view_function c.args.searched.now.function.now) in
    let range : AreInRange ks c.args.numbers.now = subst (λ (l : List KeyInfo). AreInRange l c.args.numbers.now) (c.requires.keys ∙ c.requires.searched.walkable.keys) c.requires.range in
    let held = c.new-values.ensures ∙ c.in_ok-inputs.ensures in
    λ key k found. there ks c.new-values.result key k (subst (λ (xs : List ℤ). AreInRange ks xs) (sym held) range) found
