use Rattle.std.proofs.Common.{◌∙◌, ◌<◌, ◌^◌, List, length, map, refl, sym, subst, ap}
use Rattle.stk_tree.specs.View.{view_function, view_statement}
use Rattle.stk_meaning.specs.Places.{Setting}
use Rattle.stk_meaning.specs.Keys.{KeyInfo, keys_of}
use Rattle.stk_kinded.specs.Keys.{HaveKeyKinds}
use Rattle.stk_kinded.specs.KindedStatements.{KindedStatement}
use Rattle.stk_function_types.specs.Nodes.{typing_in}
use Rattle.stk_function_env.specs.Settings.{FunctionPlaces, setting_in}
use Rattle.stk_walking.specs.Keyed.{AreThere}
use Rattle.stk_walk.proofs.Parts.{parts_are}
use Rattle.stk_walk.proofs.function.walk_function.Goals as goal

pub walk_by-requires-clause-key_kinds : goal.walk_by-requires-clause-key_kinds
walk_by-requires-clause-key_kinds g c =
    let t = c.args.tables.now in
    let h = c.requires.walkable in
    subst (λ (ks : List KeyInfo). HaveKeyKinds (setting_in t.places) ks) (sym h.keys) (subst (λ (s : Setting). HaveKeyKinds s (keys_of (typing_in t.places.types) t.places.without (view_function c.args.f.now))) (sym h.setting) h.key_kinds)

pub walk_by-requires-clause-few_keys : goal.walk_by-requires-clause-few_keys
walk_by-requires-clause-few_keys g c = subst (λ (ks : List KeyInfo). length ks < 2 ^ 32) (sym c.requires.walkable.keys) c.requires.walkable.few

pub walk_by-requires-clause-loops : goal.walk_by-requires-clause-loops
walk_by-requires-clause-loops g c = c.requires.walkable.loops

pub walk_by-requires-clause-kinded : goal.walk_by-requires-clause-kinded
walk_by-requires-clause-kinded g c = subst (λ (s : Setting). KindedStatement s (view_statement c.args.f.now.body)) (sym c.requires.walkable.setting) c.requires.walkable.kinded

pub walk_by-requires-clause-keys : goal.walk_by-requires-clause-keys
walk_by-requires-clause-keys g c = subst (λ (ks : List KeyInfo). AreThere (g.V.Values.has_key c.args.values.now) (map (λ (x : KeyInfo). x.kind) ks)) (sym c.requires.walkable.keys) c.requires.keys

pub walk_by-requires-clause-kept : goal.walk_by-requires-clause-kept
walk_by-requires-clause-kept g c = c.kept-kept.ensures.is ∙ ap (λ (p : FunctionPlaces). (setting_in p).kept) c.setting-setting.ensures

pub returns-clause-valid : goal.returns-clause-valid
returns-clause-valid g c =
    let places = c.args.tables.now.places in
    c.walk_by.ensures.valid (typing_in places.types) places.without (view_function c.args.f.now) (parts_are c.args.tables.now (view_function c.args.f.now) c.setting-setting.result.now c.types-types.result.now c.keys-keys.result.now c.in_ok-parameters.parameters.items c.in_ok-objects.objects.items _
    c.requires.walkable c.setting-setting.ensures c.types-types.ensures c.keys-keys.ensures refl c.as_slice.ensures.value c.in_ok-parameters.ensures c.kept-kept.ensures.is c.as_slice-2.ensures.value c.in_ok-objects.ensures c.requires.candidates)

pub returns-clause-steps : goal.returns-clause-steps
returns-clause-steps g c =
    let places = c.args.tables.now.places in
    c.walk_by.ensures.steps (typing_in places.types) places.without (view_function c.args.f.now) (parts_are c.args.tables.now (view_function c.args.f.now) c.setting-setting.result.now c.types-types.result.now c.keys-keys.result.now c.in_ok-parameters.parameters.items c.in_ok-objects.objects.items _
    c.requires.walkable c.setting-setting.ensures c.types-types.ensures c.keys-keys.ensures refl c.as_slice.ensures.value c.in_ok-parameters.ensures c.kept-kept.ensures.is c.as_slice-2.ensures.value c.in_ok-objects.ensures c.requires.candidates)

pub returns-clause-once : goal.returns-clause-once
returns-clause-once g c =
    let places = c.args.tables.now.places in
    c.walk_by.ensures.once (typing_in places.types) places.without (view_function c.args.f.now) (parts_are c.args.tables.now (view_function c.args.f.now) c.setting-setting.result.now c.types-types.result.now c.keys-keys.result.now c.in_ok-parameters.parameters.items c.in_ok-objects.objects.items _
    c.requires.walkable c.setting-setting.ensures c.types-types.ensures c.keys-keys.ensures refl c.as_slice.ensures.value c.in_ok-parameters.ensures c.kept-kept.ensures.is c.as_slice-2.ensures.value c.in_ok-objects.ensures c.requires.candidates)

pub returns-clause-listed : goal.returns-clause-listed
returns-clause-listed g c =
    let places = c.args.tables.now.places in
    c.walk_by.ensures.listed (typing_in places.types) places.without (view_function c.args.f.now) (parts_are c.args.tables.now (view_function c.args.f.now) c.setting-setting.result.now c.types-types.result.now c.keys-keys.result.now c.in_ok-parameters.parameters.items c.in_ok-objects.objects.items _
    c.requires.walkable c.setting-setting.ensures c.types-types.ensures c.keys-keys.ensures refl c.as_slice.ensures.value c.in_ok-parameters.ensures c.kept-kept.ensures.is c.as_slice-2.ensures.value c.in_ok-objects.ensures c.requires.candidates)

pub returns-clause-cost : goal.returns-clause-cost
returns-clause-cost g c =
    let places = c.args.tables.now.places in
    c.walk_by.ensures.cost (typing_in places.types) places.without (view_function c.args.f.now) (parts_are c.args.tables.now (view_function c.args.f.now) c.setting-setting.result.now c.types-types.result.now c.keys-keys.result.now c.in_ok-parameters.parameters.items c.in_ok-objects.objects.items _
    c.requires.walkable c.setting-setting.ensures c.types-types.ensures c.keys-keys.ensures refl c.as_slice.ensures.value c.in_ok-parameters.ensures c.kept-kept.ensures.is c.as_slice-2.ensures.value c.in_ok-objects.ensures c.requires.candidates)
