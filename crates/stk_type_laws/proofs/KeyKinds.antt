-- Each key of a typed tree has the kind that its form says.
use Rattle.std.proofs.Common.{◌≡◌, List, [], ◌∷◌, refl, ap, ◌∙◌, inl, inr}
use Rattle.std.specs.Prelude.{map}
use Rattle.stk_meaning.specs.Places.{Setting}
use Rattle.stk_meaning.specs.Keys.{Key, parameter_key, address_key, unset_key, load_key, call_key, loop_key, KeyInfo, keys_of, setting_of}
use Rattle.stk_run_laws.specs.Visits.{IsIn}
use Rattle.stk_run_laws.proofs.Maps.{kind_at}
use Rattle.stk_run_laws.proofs.Grounds.{all_well}
use Rattle.stk_kinded.specs.Kinds.{key_kind}
use Rattle.stk_kinded.specs.Keys.{HaveKeyKinds}
use Rattle.stk_type_laws.specs.KeyKinds.{KeysHaveTheirKinds}

same_kind : (g : Setting) (key : Key) → kind_at g.typing key ≡ key_kind g key
same_kind g (parameter_key k) = refl
same_kind g (address_key k) = refl
same_kind g (unset_key k) = refl
same_kind g (load_key k) = refl
same_kind g (call_key k) = refl
same_kind g (loop_key k j) = refl

each_kind : (g : Setting) (keys : List KeyInfo) → ((x : KeyInfo) → IsIn x keys → x.kind ≡ key_kind g x.key) → HaveKeyKinds g keys
each_kind g [] h = refl
each_kind g (x ∷ xs) h =
    ap (λ k. k ∷ map (λ (z : KeyInfo). z.kind) xs) (h x (inl refl))
    ∙ ap (λ ks. key_kind g x.key ∷ ks) (each_kind g xs (λ y i. h y (inr i)))

pub keys_have_their_kinds : KeysHaveTheirKinds
keys_have_their_kinds ty without f h = each_kind (setting_of ty without f) (keys_of ty without f) (λ x i. (all_well ty without f h x i).kind ∙ same_kind (setting_of ty without f) x.key)
