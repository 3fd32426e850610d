-- What a part of a function may change of registers and kept objects, which is what a loop of a path run sets and
-- forgets first (C11 6.5.16, 6.5.2.4).
use Rattle.std.specs.Prelude.{ℕ, ◌==◌, Bool, true, false, not, ◌&&◌, ◌||◌, List, Option, Some, None, filter}
use Rattle.stk_ctype.specs.Types.{TypeTree}
use Rattle.stk_tree.specs.Syntax.{ExprTree, ExprFormTree, MaybeInitTree, StmtFormTree}
use Rattle.stk_tree.specs.Syntax as s
use Rattle.stk_type_rules.specs.Types.{is_scalar}
use Rattle.stk_meaning.specs.Typings.{is_among}
use Rattle.stk_meaning.specs.Libraries.{Library, absolute_in, copy_bytes, called_library}
use Rattle.stk_meaning.specs.Places.{Setting, Target, in_register, in_kept, in_object, unnamed, target_at, target_of}
use Rattle.stk_meaning.specs.Visits.{Visit, at_expression, at_declarator, at_statement, at_section, Visits, no_visit, one_visit, both_visits, scope, unevaluated, turn_visits}

-- where a run keeps a number: a register, by its declarator; a kept object, by its position
pub data Spot : Type 0 where
  register_spot : ℕ → Spot
  kept_spot : ℕ → Spot

abbrev pub is_register_spot : ℕ → Spot → Bool
is_register_spot k (register_spot j) = k == j
is_register_spot k (kept_spot q) = false

abbrev pub is_kept_spot : ℕ → Spot → Bool
is_kept_spot q (register_spot j) = false
is_kept_spot q (kept_spot p) = q == p

abbrev pub is_any_kept : Spot → Bool
is_any_kept (register_spot j) = false
is_any_kept (kept_spot q) = true

-- a store to a place: by name it changes that register or kept object, or another object and no kept one; else it may
-- change each kept object
abbrev pub stored_in : Target → Spot → Bool
stored_in (in_register k) x = is_register_spot k x
stored_in (in_kept q) x = is_kept_spot q x
stored_in (in_object k) x = false
stored_in unnamed x = is_any_kept x

-- a call: of an absolute value nothing, else each kept object
abbrev pub call_changes : Option Library → Spot → Bool
call_changes None x = is_any_kept x
call_changes (Some (absolute_in k)) x = false
call_changes (Some copy_bytes) x = is_any_kept x

-- what an expression changes itself, once its operands are evaluated
abbrev pub form_changes : Setting → ExprFormTree → Spot → Bool
form_changes g (s.name at) x = false
form_changes g (s.number at) x = false
form_changes g (s.character at) x = false
form_changes g (s.text parts) x = false
form_changes g (s.paren e) x = false
form_changes g (s.index a b) x = false
form_changes g (s.call e es) x = call_changes (called_library g.typing e) x
form_changes g (s.dot e at) x = false
form_changes g (s.arrow e at) x = false
form_changes g (s.step op e) x = stored_in (target_of g e) x
form_changes g (s.unary op e) x = false
form_changes g (s.size_expression e) x = false
form_changes g (s.size_name t) x = false
form_changes g (s.cast t e) x = false
form_changes g (s.binary op a b) x = false
form_changes g (s.choice a b c) x = false
form_changes g (s.assign op a b) x = stored_in (target_of g a) x

-- the initialiser of a local array or struct changes each kept object
abbrev pub initial_changes : TypeTree → MaybeInitTree → Spot → Bool
initial_changes t s.no_initialiser x = false
initial_changes t (s.some_initialiser i) x = not (is_scalar t) && is_any_kept x

-- the declarator of a local object changes the object; a `static` one counts as declared too
abbrev pub declarator_changes : Target → Spot → Bool
declarator_changes (in_register k) x = is_register_spot k x
declarator_changes (in_kept q) x = is_kept_spot q x
declarator_changes (in_object k) x = false
declarator_changes unnamed x = false

abbrev pub visit_changes : Setting → Visit → Spot → Bool
visit_changes g (at_expression k role f) x = form_changes g f x
visit_changes g (at_declarator k static at init) x = declarator_changes (target_at g k) x || (not static && initial_changes (g.typing.type_at k) init x)
visit_changes g (at_statement k arm f) x = false
visit_changes g (at_section k ls) x = false

-- whether a spot is a register that a scope declares
abbrev pub is_own : List ℕ → Spot → Bool
is_own ks (register_spot j) = is_among j ks
is_own ks (kept_spot q) = false

-- what visits change: a scope gives back the registers that it declares
abbrev pub changes : Setting → Visits → Spot → Bool
changes g no_visit x = false
changes g (one_visit visit) x = visit_changes g visit x
changes g (both_visits a b) x = changes g a x || changes g b x
changes g (scope ks a) x = not (is_own ks x) && changes g a x
changes g (unevaluated a) x = false

-- the registers that each turn of a loop may assign, in the order of their declarators, without those that its own
-- blocks declare
abbrev pub assigned_in : Setting → StmtFormTree → List ℕ
assigned_in g f = filter (λ k. changes g (turn_visits g.typing f) (register_spot k)) g.registers

-- whether each turn of a loop may change the kept object at a position
abbrev pub forgotten_in : Setting → StmtFormTree → ℕ → Bool
forgotten_in g f q = changes g (turn_visits g.typing f) (kept_spot q)
