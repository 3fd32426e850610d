use Rattle.std.proofs.Common.{ℕ, ◌≡◌, ◌+◌, ◌*◌, List, map, length, ap, ◌∙◌, arith}
use Rattle.stk_function_types.specs.Units.{TypedUnit}
use Rattle.stk_function_types.specs.Nodes.{typing_in}
use Rattle.stk_meaning.specs.Keys.{KeyInfo, objects_in}
use Rattle.stk_meaning.specs.Weights.{pairs_among}
use Rattle.stk_function_env.specs.Infos.{info_in}
use Rattle.stk_weights.specs.declared.objects.ObjectTraits.{ObjectTraits}
use Rattle.stk_weights.specs.Sums.{capped}
use Rattle.stk_weights.specs.Traits.{traits_of, pairs_of}
use Rattle.stk_weights.proofs.TraitsShown.{length-map, pairs-marked}
use Rattle.stk_weights.proofs.weighing.objects_weight.Goals as goal

pub returns : goal.returns
returns c =
    let kept = c.args.setting.now.kept in
    let objects = objects_in (typing_in c.args.setting.now.types) c.args.setting.now.keys in
    let traits : c.in_ok-list.list.items ≡ map (traits_of kept) objects =
    c.in_ok-list.ensures
    ∙ ap (λ (k : List ℕ). map (traits_of k) (objects_in (typing_in c.types.result.now) (map info_in c.keys.result.now))) c.kept.ensures.is
    ∙ ap (λ (t : TypedUnit). map (traits_of kept) (objects_in (typing_in t) (map info_in c.keys.result.now))) c.types.ensures
    ∙ ap (λ (ks : List KeyInfo). map (traits_of kept) (objects_in (typing_in c.args.setting.now.types) ks)) c.keys.ensures in
    let pairs = c.pairs_among-pairs.ensures ∙ ap (λ (ms : List ObjectTraits). capped (pairs_of ms)) (c.as_slice.ensures.value ∙ traits) ∙ ap capped (pairs-marked kept objects) in
    let count : c.len-count.result ≡ length objects = omega (arith, c.len-count.ensures, c.in_ok-list.list.ok.0, ap (length {A = ObjectTraits}) traits, length-map (traits_of kept) objects) in
    let p = pairs_among kept objects in
    c.sum_of_objects.ensures p pairs ∙ ap (λ n. capped (2048 * n + 2048 * p)) count
