-- What a part of a function changes, as a list: a scope takes out the registers that it declares (C11 6.5.16, 6.5.2.4,
-- 6.2.4p6).
use Rattle.std.specs.Prelude.{ℕ, Bool, true, false, not, ◌&&◌, ◌||◌, if◌then◌else◌, List, [], ◌∷◌, ◌++◌, Option, Some, None, filter}
use Rattle.std.specs.List.{list_any}
use Rattle.stk_ctype.specs.Types.{TypeTree}
use Rattle.stk_tree.specs.Syntax.{ExprFormTree, MaybeInitTree}
use Rattle.stk_tree.specs.Syntax as s
use Rattle.stk_type_rules.specs.Types.{is_scalar}
use Rattle.stk_meaning.specs.Libraries.{Library, absolute_in, copy_bytes, called_library}
use Rattle.stk_meaning.specs.Places.{Setting, Target, in_register, in_kept, in_object, unnamed, target_at, target_of}
use Rattle.stk_meaning.specs.Visits.{Visit, at_expression, at_declarator, at_statement, at_section, Visits, no_visit, one_visit, both_visits, scope, unevaluated}
use Rattle.stk_meaning.specs.Changes.{Spot, register_spot, kept_spot, is_register_spot, is_kept_spot, is_any_kept, is_own}
use Rattle.stk_function_env.specs.declared.changes.Change.{Change}
use Rattle.stk_function_env.specs.declared.changes.Change.TheVariants as change

-- whether a change is one of a spot
abbrev pub changed_by : Change → Spot → Bool
changed_by (change.Register k) x = is_register_spot k x
changed_by (change.Kept q) x = is_kept_spot q x
changed_by change.AnyKept x = is_any_kept x

-- whether one of some changes is
abbrev pub changed_by_any : List Change → Spot → Bool
changed_by_any [] x = false
changed_by_any (c ∷ cs) x = changed_by c x || changed_by_any cs x

-- a store to a place
abbrev pub target_changes : Target → List Change
target_changes (in_register k) = change.Register k ∷ []
target_changes (in_kept q) = change.Kept q ∷ []
target_changes (in_object k) = []
target_changes unnamed = change.AnyKept ∷ []

-- a call
abbrev pub library_changes : Option Library → List Change
library_changes None = change.AnyKept ∷ []
library_changes (Some (absolute_in k)) = []
library_changes (Some copy_bytes) = change.AnyKept ∷ []

-- what an expression changes itself
abbrev pub form_change_list : Setting → ExprFormTree → List Change
form_change_list g (s.name at) = []
form_change_list g (s.number at) = []
form_change_list g (s.character at) = []
form_change_list g (s.text parts) = []
form_change_list g (s.paren e) = []
form_change_list g (s.index a b) = []
form_change_list g (s.call e es) = library_changes (called_library g.typing e)
form_change_list g (s.dot e at) = []
form_change_list g (s.arrow e at) = []
form_change_list g (s.step op e) = target_changes (target_of g e)
form_change_list g (s.unary op e) = []
form_change_list g (s.size_expression e) = []
form_change_list g (s.size_name t) = []
form_change_list g (s.cast t e) = []
form_change_list g (s.binary op a b) = []
form_change_list g (s.choice a b c) = []
form_change_list g (s.assign op a b) = target_changes (target_of g a)

-- the declarator of a local object
abbrev pub declared_changes : Target → List Change
declared_changes (in_register k) = change.Register k ∷ []
declared_changes (in_kept q) = change.Kept q ∷ []
declared_changes (in_object k) = []
declared_changes unnamed = []

-- the initialiser of a local array or struct
abbrev pub initial_change_list : TypeTree → MaybeInitTree → List Change
initial_change_list t s.no_initialiser = []
initial_change_list t (s.some_initialiser i) = if is_scalar t then [] else change.AnyKept ∷ []

abbrev pub declarator_change_list : Setting → ℕ → Bool → MaybeInitTree → List Change
declarator_change_list g k true init = declared_changes (target_at g k)
declarator_change_list g k false init = declared_changes (target_at g k) ++ initial_change_list (g.typing.type_at k) init

-- what a visit changes
abbrev pub visit_change_list : Setting → Visit → List Change
visit_change_list g (at_expression k role f) = form_change_list g f
visit_change_list g (at_declarator k static at init) = declarator_change_list g k static init
visit_change_list g (at_statement k arm f) = []
visit_change_list g (at_section k ls) = []

-- whether a change is one of a register that a scope declares
abbrev pub is_own_change : List ℕ → Change → Bool
is_own_change ks (change.Register k) = is_own ks (register_spot k)
is_own_change ks (change.Kept q) = false
is_own_change ks change.AnyKept = false

-- the changes that aren't of registers that a scope declares
abbrev pub outer_changes : List ℕ → List Change → List Change
outer_changes ks [] = []
outer_changes ks (c ∷ cs) = if is_own_change ks c then outer_changes ks cs else c ∷ outer_changes ks cs

-- what visits change
abbrev pub change_list : Setting → Visits → List Change
change_list g no_visit = []
change_list g (one_visit x) = visit_change_list g x
change_list g (both_visits a b) = change_list g a ++ change_list g b
change_list g (scope ks a) = outer_changes ks (change_list g a)
change_list g (unevaluated a) = []

-- the registers among changes
abbrev pub registers_changed : List Change → List ℕ
registers_changed [] = []
registers_changed (change.Register k ∷ cs) = k ∷ registers_changed cs
registers_changed (change.Kept q ∷ cs) = registers_changed cs
registers_changed (change.AnyKept ∷ cs) = registers_changed cs
