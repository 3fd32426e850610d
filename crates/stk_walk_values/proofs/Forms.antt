-- What the forms of expressions are, over plain values.
use Rattle.std.proofs.Common.{◌≡◌, ℕ, Bool, true, false, not, if◌then◌else◌, List, Option, Some, None, ℤ, pos, refl, sym, ap}
use Rattle.std.specs.Prelude.{unwrap_or, option_map}
use Rattle.stk_ctype.specs.declared.kind.IntKind.{IntKind}
use Rattle.stk_ctype.specs.Types.{TypeTree}
use Rattle.stk_tree.specs.Syntax.{ExprFormTree}
use Rattle.stk_meaning.specs.Typings.{is_array, number_kind, converted}
use Rattle.stk_meaning.specs.Places.{Setting, Target, in_register, in_kept, in_object, unnamed, target_at, member_target, form_target}
use Rattle.stk_meaning.specs.Worlds.{Ran, World, and_then, gives}
use Rattle.stk_meaning.specs.Paths.{InputMap, KeptNumbers, path_world}
use Rattle.stk_meaning.specs.Expressions.{Meaning, Sides, indexed_from, number_in, place_value, name_meaning}
use Rattle.stk_eval_expr.specs.Parts.{place_end}
use Rattle.stk_kinded.specs.Kinds.{Suits}
use Rattle.stk_kinded.specs.Kinded.{NameHasKind}
use Rattle.stk_walking.specs.ExpressionEvents.{ExpressionEvents, indexed_events}

-- the value of a place, by its address
pub placed_as : (g : Setting) (i : InputMap) (target : Target) (k : ℕ) (place : Bool → List ℤ → KeptNumbers → Ran ℕ KeptNumbers) (r : List ℤ) (m : KeptNumbers) →
    and_then (place (not (is_array (g.typing.type_at k))) r m) (λ a. place_end g (path_world i) k target a) ≡ place_value (path_world i) target k (g.typing.type_at k) place r m
placed_as g i target k place r m = by (is_array t)
  where
    t : TypeTree
    t = g.typing.type_at k

    by : (b : Bool) → and_then (place (not b) r m) (λ a r m. if b then gives (pos a) r m else number_in (path_world i) target k (number_kind t) a r m) ≡ (if b then and_then (place false r m) (λ a. gives (pos a)) else and_then (place true r m) (λ a r m. number_in (path_world i) target k (number_kind t) a r m))
    by true = refl
    by false = refl

-- a name that has a number, and one that has none
pub name_own : (g : Setting) (w : World KeptNumbers) (k : ℕ) (f : ExprFormTree) (object : ℕ) (o : Option ℤ) (h : ℤ → ℤ) (n : ℤ) → Some n ≡ option_map h o → (r : List ℤ) (m : KeptNumbers) →
    gives (converted (g.typing.type_at k) (unwrap_or o (pos 0))) r m ≡ (name_meaning g w k f object o).value r m
name_own g w k f object None h n is r m = absurd cc
name_own g w k f object (Some z) h n is r m = refl

pub name_placed : (g : Setting) (w : World KeptNumbers) (k : ℕ) (f : ExprFormTree) (object : ℕ) (o : Option ℤ) (h : ℤ → ℤ) → None ≡ option_map h o → (r : List ℤ) (m : KeptNumbers) →
    place_value w (form_target g k f) k (g.typing.type_at k) (name_meaning g w k f object o).place r m ≡ (name_meaning g w k f object o).value r m
name_placed g w k f object None h is r m = refl
name_placed g w k f object (Some z) h is r m = absurd cc

pub name_suits : (g : Setting) (k object : ℕ) (o : Option ℤ) (h : ℤ → ℤ) → None ≡ option_map h o → NameHasKind g k object o → Suits g (target_at g object) (number_kind (g.typing.type_at k))
name_suits g k object None h is kinded = kinded
name_suits g k object (Some z) h is kinded = absurd cc

-- no register and no kept object is a member
pub member_suits : (g : Setting) (t : Target) (k : IntKind) → Suits g (member_target t) k
member_suits g (in_register i) k = tt
member_suits g (in_kept q) k = tt
member_suits g (in_object o) k = tt
member_suits g unnamed k = tt

-- a choice by the opposite of a test
pub if_opposite : {A : Type 0} (d : Bool) (x y : A) → (if not d then x else y) ≡ (if d then y else x)
if_opposite true x y = refl
if_opposite false x y = refl

-- a value as a side of a comparison
abbrev pub side_of : ℤ → Sides
side_of x = record { number = x; left = pos 0; right = pos 0 }

-- and an operator's number with those of its operands
abbrev pub side_with : ℤ → ℤ → ℤ → Sides
side_with z x y = record { number = z; left = x; right = y }

-- an array is indexed from its address
pub indexed_array : {S : Type 0} (t : TypeTree) → is_array t ≡ true → (b : Bool) (a : Meaning S) (r : List ℤ) (m : S) → and_then (a.place b r m) (λ x. gives (pos x)) ≡ indexed_from t b a r m
indexed_array t array b a r m = ap (λ (z : Bool). if z then and_then (a.place b r m) (λ x. gives (pos x)) else a.value r m) (sym array)

pub indexed_array_events : (t : TypeTree) → is_array t ≡ true → (b : Bool) (a : ExpressionEvents) → a.place b ≡ indexed_events t b a
indexed_array_events t array b a = ap (λ (z : Bool). if z then a.place b else a.value) (sym array)
