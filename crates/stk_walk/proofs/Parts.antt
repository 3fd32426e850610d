-- What a walk is given are the parts of the function whose tables it goes by.
use Rattle.std.proofs.Common.{◌≡◌, ℕ, List, map, ap, ◌∙◌}
use Rattle.stk_tree.specs.Syntax.{FunctionTree}
use Rattle.stk_tree.specs.View.{view_statement}
use Rattle.stk_meaning.specs.Typings.{Typing, declarator_node}
use Rattle.stk_meaning.specs.Places.{Setting}
use Rattle.stk_meaning.specs.Keys as keys
use Rattle.stk_meaning.specs.Keys.{body_of, keys_of, kept_of, objects_in, objects_of, register_parameters}
use Rattle.stk_meaning.specs.Paths.{number_under}
use Rattle.stk_meaning.specs.Lists.{candidates}
use Rattle.stk_function_types.specs.Units.{TypedUnit}
use Rattle.stk_function_types.specs.Nodes.{typing_in}
use Rattle.stk_function_env.specs.declared.infos.KeyInfo.{KeyInfo}
use Rattle.stk_function_env.specs.Infos.{info_in}
use Rattle.stk_function_env.specs.Settings.{FunctionPlaces, setting_in}
use Rattle.stk_run_laws.proofs.Agreeing.{one_condition_serves_all}
use Rattle.stk_path_runs.specs.Rows.{Tables}
use Rattle.stk_walk.specs.declared.objects.WalkObject.{WalkObject}
use Rattle.stk_walk.specs.declared.walking.FunctionParts.{FunctionParts}
use Rattle.stk_walk.specs.Validity.{walk_object}
use Rattle.stk_walk.specs.Walks.{AreParts}
use Rattle.stk_walk.specs.Walkable.{IsWalkable}
use Rattle.stk_walk.proofs.Distinct.{objects_distinct}

pub parts_are : (t : Tables) (f : FunctionTree) (setting : FunctionPlaces) (types : TypedUnit) (infos : List KeyInfo) (parameters : List ℕ) (objects : List WalkObject) (parts : FunctionParts)
    → IsWalkable t f → setting ≡ t.places → types ≡ setting.types → map info_in infos ≡ setting.keys → view_statement parts.body.now ≡ body_of f
    → parts.parameters.now ≡ parameters → parameters ≡ map declarator_node (register_parameters (typing_in types) f)
    → parts.kept.now ≡ (setting_in setting).kept → parts.objects.now ≡ objects → objects ≡ map (walk_object parts.kept.now) (objects_in (typing_in types) (map info_in infos))
    → parts.candidates.now ≡ candidates (typing_in t.places.types) f → AreParts (typing_in t.places.types) t.places.without f (setting_in t.places) (number_under t.places.keys) parts
parts_are t f setting types infos parameters objects parts h same typed listed body parameters_given parameters_are kept objects_given objects_are list =
    let ty = typing_in t.places.types in
    let without = t.places.without in
    let types_are : typing_in types ≡ ty = ap typing_in (typed ∙ ap (λ (p : FunctionPlaces). p.types) same) in
    let kept_are : parts.kept.now ≡ kept_of ty without f = kept ∙ ap (λ (p : FunctionPlaces). p.kept) same ∙ ap (λ (g : Setting). g.kept) h.setting in
    let keys_are : map info_in infos ≡ keys_of ty without f = listed ∙ ap (λ (p : FunctionPlaces). p.keys) same ∙ h.keys in
    let less = one_condition_serves_all ty without f h.typed in
    record {
      setting = h.setting;
      numbers = λ m. ap (λ (ks : List keys.KeyInfo). number_under ks m) h.keys;
      body = body;
      parameters = parameters_given ∙ parameters_are ∙ ap (λ (T : Typing). map declarator_node (register_parameters T f)) types_are;
      kept = kept_are;
      objects = objects_given ∙ objects_are
          ∙ ap (λ (ks : List ℕ). map (walk_object ks) (objects_in (typing_in types) (map info_in infos))) kept_are
          ∙ ap (λ (T : Typing). map (walk_object (kept_of ty without f)) (objects_in T (map info_in infos))) types_are
          ∙ ap (λ (ks : List keys.KeyInfo). map (walk_object (kept_of ty without f)) (objects_in ty ks)) keys_are;
      candidates = list;
      distinct = objects_distinct ty without f h.typed;
      numbered = less.numbered;
      scalars = less.operands;
    }
