-- The setting of a function, as it is made, is that of its unit.
use Rattle.std.proofs.Common.{◌≡◌, sym, ap, ◌∙◌}
use Rattle.stk_tree.specs.Syntax.{FunctionTree}
use Rattle.stk_numbers.specs.declared.conditions.Kinds.{Kinds}
use Rattle.stk_meaning.specs.Typings.{Typing}
use Rattle.stk_meaning.specs.Places.{Setting}
use Rattle.stk_meaning.specs.Keys.{setting_of, keys_of}
use Rattle.stk_function_types.specs.Nodes.{typing_in}
use Rattle.stk_function_env.specs.Settings.{FunctionPlaces, setting_in}
use Rattle.stk_weights.specs.Units.{IsSettingOfFunction}

pub whole : (p : FunctionPlaces) (ty : Typing) (without : Kinds) (f : FunctionTree) → setting_in p ≡ setting_of ty without f → p.keys ≡ keys_of ty without f → IsSettingOfFunction f p
whole p ty without f setting keys =
    let typing : typing_in p.types ≡ ty = ap (λ (g : Setting). g.typing) setting in
    let kinds : p.without ≡ without = ap (λ (g : Setting). g.without) setting in
    record {
      setting = setting ∙ ap (λ t. setting_of t without f) (sym typing) ∙ ap (λ w. setting_of (typing_in p.types) w f) (sym kinds);
      keys = keys ∙ ap (λ t. keys_of t without f) (sym typing) ∙ ap (λ w. keys_of (typing_in p.types) w f) (sym kinds);
    }
