-- Functions that are typed and not too heavy are searched.
use Rattle.std.proofs.Common.{◌≡◌, ℕ, ◌+◌, ◌*◌, ◌^◌, ◌<◌, ◌≤◌, true, length, Some, map, slice_get, sym, ap, subst, ◌∙◌, arith}
use Rattle.stk_tree.specs.Syntax.{FunctionTree}
use Rattle.stk_tree.specs.Nodes.{function_nodes}
use Rattle.stk_tree.specs.Unlaid.{no_node}
use Rattle.stk_numbers.specs.Kinds.{width_of}
use Rattle.stk_numbers.specs.declared.conditions.Kinds.{Kinds}
use Rattle.stk_meaning.specs.Typings.{Typing}
use Rattle.stk_meaning.specs.Keys.{objects_of, setting_of, function_visits}
use Rattle.stk_meaning.specs.Lists.{candidates}
use Rattle.stk_meaning.specs.Weights.{visits_weight, pairs_among, weight, most_weight}
use Rattle.stk_terms.specs.Terms.{Stored}
use Rattle.stk_function_types.specs.Nodes.{typing_in}
use Rattle.stk_type_laws.proofs.Whole.{accepted_units_are_typed}
use Rattle.stk_type_laws.proofs.KindedTrees.{accepted_units_are_kinded}
use Rattle.stk_type_laws.proofs.WholeCosts.{walks_are_within}
use Rattle.stk_type_laws.proofs.TreesHaveBits.{accepted_units_have_bits}
use Rattle.stk_type_laws.proofs.KeyKinds.{keys_have_their_kinds}
use Rattle.stk_type_laws.proofs.KeyWeights.{keys_are_within_weight}
use Rattle.stk_type_laws.proofs.FewCandidates.{few_candidates}
use Rattle.stk_goals.specs.Searched.{TypedFunctionsAreSearched, AcceptedFunctionsAreSearched, KeysAreThere}

few_places : (n m a b c : ℕ) → n ≤ 4 * m → 128 * m + a + b + c ≤ 8000000 → n < 2 ^ 32
few_places n m a b c h k = omega (arith, h, k)

-- a list of at most four for each node of a function that isn't too heavy
few_in : (ty : Typing) (without : Kinds) (f : FunctionTree) (n : ℕ) → n ≤ 4 * (function_nodes f + 1) → weight ty without f ≤ most_weight → n < 2 ^ 32
few_in ty without f n h light =
    let g = setting_of ty without f in
    let objects = objects_of ty without f in
    few_places n (function_nodes f + 1) (visits_weight g true (function_visits ty f)) (2048 * length objects) (2048 * pairs_among g.kept objects) h light

pub typed_functions_are_searched : TypedFunctionsAreSearched
typed_functions_are_searched t f h =
    let ty = typing_in t.places.types in
    let without = t.places.without in
    record {
      walkable = record {
        setting = h.tables.setting;
        keys = h.tables.keys;
        loops = h.tables.loops;
        typed = h.typed;
        kinded = h.kinded;
        key_kinds = keys_have_their_kinds ty without f h.typed;
        few = keys_are_within_weight.places ty without f h.light;
      };
      few = few_in ty without f (length (candidates ty f)) (few_candidates ty f no_node) h.light;
      bits = keys_are_within_weight.bits ty without f;
      cheap = walks_are_within ty without f h.bits;
      light = h.light;
    }

pub accepted_functions_are_searched : AcceptedFunctionsAreSearched
accepted_functions_are_searched t node f h =
    typed_functions_are_searched t f
    (record {
      typed = accepted_units_are_typed t.places.types node f t.places.without h.accepted;
      kinded = accepted_units_are_kinded t.places.types node f t.places.without h.accepted;
      bits = accepted_units_have_bits t.places.types node f h.accepted;
      tables = h.tables;
      light = h.light;
    })

pub keys_are_there : KeysAreThere
keys_are_there kinds s same terms = λ key k found. record {
  known = subst (λ ks. slice_get ks key ≡ Some k) (sym same) found;
  inputs_are = ap (λ (x : Stored). x.inputs) terms ∙ ap (map width_of) (sym same);
}
