-- What the evaluation of an expression does, by cases on its form: operands from left to right, but the right side of
-- an assignment before the address of its left side (C11 6.5; this project's order of evaluation).
use Rattle.std.specs.Prelude.{ℕ, ◌+◌, Bool, true, false, not, if◌then◌else◌, List, [], ◌∷◌, Option, Some, None, ℤ, pos, negsuc, ◌-ℤ◌, unwrap_or, option_map, set, get_or}
use Rattle.stk_ctype.specs.declared.kind.IntKind.{IntKind}
use Rattle.stk_ctype.specs.Types.{TypeTree, TypeTrees, no_types, then_type}
use Rattle.stk_tree.specs.declared.expression.StepOp.{StepOp}
use Rattle.stk_tree.specs.declared.expression.UnaryOp.{UnaryOp}
use Rattle.stk_tree.specs.declared.expression.UnaryOp.TheVariants as unary
use Rattle.stk_tree.specs.declared.expression.BinaryOp.{BinaryOp}
use Rattle.stk_tree.specs.declared.expression.AssignOp.{AssignOp}
use Rattle.stk_tree.specs.Syntax.{ExprTree, ExprTrees, MaybeExprTree, ExprFormTree}
use Rattle.stk_tree.specs.Syntax as s
use Rattle.stk_tree.specs.Parts.{bare}
use Rattle.stk_numbers.specs.declared.operators.ArithOp.TheVariants as arith_op
use Rattle.stk_numbers.specs.declared.operators.CompareOp.{CompareOp}
use Rattle.stk_numbers.specs.Kinds.{wrap, promote}
use Rattle.stk_numbers.specs.Values.{moved, absolute}
use Rattle.stk_meaning.specs.declared.entry.Entry.{Entry}
use Rattle.stk_meaning.specs.declared.entry.Entry.TheVariants.{Seen}
use Rattle.stk_meaning.specs.Typings.{Typing, node_of, type_in, number_kind, converted, is_array, pointed, stride_in}
use Rattle.stk_meaning.specs.Operations.{Operator, arithmetic, shifting, comparing, Operation, in_kind, BinarySort, operates, joins, or_else, and_also, sort_of, assigned_operator, gives_old, operation_of, step_operation, truth, bit, to_address, operated}
use Rattle.stk_meaning.specs.Libraries.{Library, absolute_in, copy_bytes, called_library, called_signature, parameters_in, result_in, never_returns}
use Rattle.stk_meaning.specs.Conditions.{tests_at, violated}
use Rattle.stk_meaning.specs.Replacements.{Replaced, replacement, replaced_truth}
use Rattle.stk_meaning.specs.Places.{Setting, Target, in_register, in_kept, in_object, unnamed, object_named, target_at, target_of, form_target}
use Rattle.stk_meaning.specs.Worlds.{Ran, Went, Cut, World, after, and_then, gives, entered, told, answered, written, register}

-- a number, and the numbers that its operands had where it is that of a sum or difference
pub record Sides : Type 0 where
  pub number : ℤ
  pub left : ℤ
  pub right : ℤ

-- what an expression is as a value, as the address of a place that is accessed or not, and as a side of a comparison
pub record Meaning (S : Type 0) : Type 0 where
  pub value : List ℤ → S → Ran ℤ S
  pub place : Bool → List ℤ → S → Ran ℕ S
  pub sides : List ℤ → S → Ran Sides S

-- a value as a side of a comparison
abbrev pub alone : {S : Type 0} → (List ℤ → S → Ran ℤ S) → List ℤ → S → Ran Sides S
alone value r m = and_then (value r m) (λ x. gives (record { number = x; left = pos 0; right = pos 0 }))

-- what is no place
abbrev pub only : {S : Type 0} → (List ℤ → S → Ran ℤ S) → Meaning S
only value = record { value = value; place = λ b r m. Cut []; sides = alone value }

-- the entries of the conditions at a node that the numbers of its operands violate
abbrev pub breaks : Setting → ℕ → Bool → ExprFormTree → ℤ → ℤ → ℤ → List Entry
breaks g k b f x y z = violated k (tests_at g.typing g.without b f) x y z

-- the number of a place at an address: of a register its number, else what the world gives at the place's node
abbrev pub number_in : {S : Type 0} → World S → Target → ℕ → IntKind → ℕ → List ℤ → S → Ran ℤ S
number_in w (in_register i) k kind a r m = gives (register i r) r m
number_in w (in_kept q) k kind a r m = told (w.load (in_kept q) k kind a m) r
number_in w (in_object o) k kind a r m = told (w.load (in_object o) k kind a m) r
number_in w unnamed k kind a r m = told (w.load unnamed k kind a m) r

-- a number of a place's kind stored in it, with what the assignment gives
abbrev pub stored_at : {S : Type 0} → World S → Target → IntKind → ℕ → ℤ → ℤ → List ℤ → S → Ran ℤ S
stored_at w (in_register i) kind a x result r m = gives result (set r i x) m
stored_at w (in_kept q) kind a x result r m = gives result r (w.store (in_kept q) kind a x m)
stored_at w (in_object o) kind a x result r m = gives result r (w.store (in_object o) kind a x m)
stored_at w unnamed kind a x result r m = gives result r (w.store unnamed kind a x m)

-- the value of a place: of an array its address, else its number (C11 6.3.2.1)
abbrev pub place_value : {S : Type 0} → World S → Target → ℕ → TypeTree → (Bool → List ℤ → S → Ran ℕ S) → List ℤ → S → Ran ℤ S
place_value w target k t place r m =
    if is_array t then and_then (place false r m) (λ a. gives (pos a))
    else and_then (place true r m) (λ a r m. number_in w target k (number_kind t) a r m)

-- what is a place
abbrev pub at_place : {S : Type 0} → Setting → World S → ℕ → ExprFormTree → (Bool → List ℤ → S → Ran ℕ S) → Meaning S
at_place g w k f place =
    let value = place_value w (form_target g k f) k (g.typing.type_at k) place in
    record { value = value; place = place; sides = alone value }

-- the address of a name's object; a register has none
abbrev pub address_of : {S : Type 0} → World S → Target → ℕ → ℕ
address_of w (in_register i) k = 0
address_of w (in_kept q) k = w.address k
address_of w (in_object o) k = w.address k
address_of w unnamed k = w.address k

-- a name: an enumerator's number in its type, which holds it, or a place (C11 6.5.1p2)
abbrev pub name_meaning : {S : Type 0} → Setting → World S → ℕ → ExprFormTree → ℕ → Option ℤ → Meaning S
name_meaning g w k f object (Some z) = only (gives (converted (g.typing.type_at k) z))
name_meaning g w k f object None = at_place g w k f (λ b. gives (address_of w (target_at g object) object))

-- the number that a node has by itself: a constant's, or that of a `sizeof`, in its type, which holds it (C11 6.4.4,
-- 6.5.3.4)
abbrev pub own_number : {S : Type 0} → Setting → ℕ → Meaning S
own_number g k = only (gives (converted (g.typing.type_at k) (unwrap_or (g.typing.number_at k) (pos 0))))

-- whether a form is a comparison
abbrev pub compares : BinarySort → Bool
compares (operates (arithmetic op)) = false
compares (operates (shifting op)) = false
compares (operates (comparing op)) = true
compares joins = false
compares or_else = false
compares and_also = false

abbrev pub form_compares : ExprFormTree → Bool
form_compares (s.name at) = false
form_compares (s.number at) = false
form_compares (s.character at) = false
form_compares (s.text parts) = false
form_compares (s.paren e) = false
form_compares (s.index a b) = false
form_compares (s.call e es) = false
form_compares (s.dot e at) = false
form_compares (s.arrow e at) = false
form_compares (s.step op e) = false
form_compares (s.unary op e) = false
form_compares (s.size_expression e) = false
form_compares (s.size_name t) = false
form_compares (s.cast t e) = false
form_compares (s.binary op a b) = compares (sort_of op)
form_compares (s.choice a b c) = false
form_compares (s.assign op a b) = false

abbrev pub is_comparison : ExprTree → Bool
is_comparison (s.expression n f) = form_compares f

-- what a controlling expression is seen to be; a comparison has been seen already
abbrev pub seen : ExprTree → ℤ → List Entry
seen e x = if is_comparison e then [] else Seen (node_of e) (truth x) None ∷ []

-- a controlling expression, by what its evaluation does: it is seen without its parentheses
abbrev pub controlled : {S : Type 0} → ExprTree → Ran ℤ S → Ran ℤ S
controlled e run = and_then run (λ x r m. Went x r m (seen (bare e) x))

-- the number that the kept operand of a replaced comparison had
abbrev pub kept_number : Replaced → Sides → Sides → ℤ
kept_number found x y =
    if found.sum_first then (if found.is_right then x.right else x.left) else (if found.is_right then y.right else y.left)

-- the truth of a comparison's replacement, where it has one
abbrev pub replaced_by : Typing → CompareOp → Option Replaced → Sides → Sides → Option Bool
replaced_by ty op found x y = option_map (λ f. replaced_truth f.zero_first op (number_kind (type_in ty f.kept)) (kept_number f x y)) found

-- an operator on two numbers: its value, with the conditions that they violate
abbrev pub operate : {S : Type 0} → Setting → ℕ → ExprFormTree → Operation → ℤ → ℤ → List ℤ → S → Ran ℤ S
operate g k f op x y r m = Went (operated op x y) r m (breaks g k true f x y (pos 0))

-- a binary operator as a side of a comparison: it tells its operands' numbers
abbrev pub operator_sides : {S : Type 0} → Setting → ℕ → ExprFormTree → Operation → Meaning S → Meaning S → List ℤ → S → Ran Sides S
operator_sides g k f op a b r m =
    and_then (a.value r m) (λ x r m. and_then (b.value r m) (λ y r m.
    and_then (operate g k f op x y r m) (λ z. gives (record { number = z; left = x; right = y }))))

abbrev pub operator_meaning : {S : Type 0} → Setting → ℕ → ExprFormTree → Operation → Meaning S → Meaning S → Meaning S
operator_meaning g k f op a b = record {
  value = λ r m. and_then (a.value r m) (λ x r m. and_then (b.value r m) (λ y r m. operate g k f op x y r m));
  place = λ b r m. Cut [];
  sides = operator_sides g k f op a b;
}

-- a comparison: it ends with what it is seen to be (C11 6.5.8, 6.5.9)
abbrev pub comparison_value : {S : Type 0} → Setting → ℕ → CompareOp → Operation → Option Replaced → Meaning S → Meaning S → List ℤ → S → Ran ℤ S
comparison_value g k op how found a b r m =
    and_then (a.sides r m) (λ x r m. and_then (b.sides r m) (λ y r m.
    let z = operated how x.number y.number in
    Went z r m (Seen k (truth z) (replaced_by g.typing op found x y) ∷ [])))

-- `a && b` where the value of a is true, and `a || b` where it is false, enter b (C11 6.5.13, 6.5.14)
abbrev pub right_operand : {S : Type 0} → ℕ → Meaning S → List ℤ → S → Ran ℤ S
right_operand k b r m = entered k (and_then (b.value r m) (λ y. gives (bit (truth y))))

abbrev pub and_value : {S : Type 0} → ExprTree → ℕ → Meaning S → Meaning S → List ℤ → S → Ran ℤ S
and_value left k a b r m = and_then (controlled left (a.value r m)) (λ x r m. if truth x then right_operand k b r m else gives (pos 0) r m)

abbrev pub or_value : {S : Type 0} → ExprTree → ℕ → Meaning S → Meaning S → List ℤ → S → Ran ℤ S
or_value left k a b r m = and_then (controlled left (a.value r m)) (λ x r m. if truth x then gives (pos 1) r m else right_operand k b r m)

-- a branch of `?:`, converted to the type of the whole (C11 6.5.15)
abbrev pub branch_value : {S : Type 0} → TypeTree → ℕ → Meaning S → List ℤ → S → Ran ℤ S
branch_value t k b r m = entered k (and_then (b.value r m) (λ y. gives (converted t y)))

-- a binary operator (C11 6.5.5 to 6.5.14, 6.5.17)
abbrev pub binary_meaning : {S : Type 0} → Setting → ℕ → BinaryOp → ExprTree → ExprTree → BinarySort → Meaning S → Meaning S → Meaning S
binary_meaning g k op left right (operates (arithmetic how)) a b =
    operator_meaning g k (s.binary op left right) (operation_of g.typing (arithmetic how) (type_in g.typing left) (type_in g.typing right)) a b
binary_meaning g k op left right (operates (shifting how)) a b =
    operator_meaning g k (s.binary op left right) (operation_of g.typing (shifting how) (type_in g.typing left) (type_in g.typing right)) a b
binary_meaning g k op left right (operates (comparing how)) a b =
    only (comparison_value g k how (operation_of g.typing (comparing how) (type_in g.typing left) (type_in g.typing right)) (replacement g.typing left right) a b)
binary_meaning g k op left right joins a b = only (λ r m. and_then (a.value r m) (λ x r m. b.value r m))
binary_meaning g k op left right or_else a b = only (or_value left (node_of right) a b)
binary_meaning g k op left right and_also a b = only (and_value left (node_of right) a b)

-- `&`, `*`, `+`, `-`, `~` and `!` (C11 6.5.3)
abbrev pub unary_meaning : {S : Type 0} → Setting → World S → ℕ → UnaryOp → ExprTree → Meaning S → Meaning S
unary_meaning g w k unary.Address e a = only (λ r m. and_then (a.place false r m) (λ x. gives (pos x)))
unary_meaning g w k unary.Deref e a =
    at_place g w k (s.unary unary.Deref e) (λ b r m. and_then (a.value r m) (λ x r m. Went (to_address x) r m (breaks g k b (s.unary unary.Deref e) x (pos 0) (pos 0))))
unary_meaning g w k unary.Plus e a = only (λ r m. and_then (a.value r m) (λ x. gives (converted (g.typing.type_at k) x)))
unary_meaning g w k unary.Minus e a =
    only (λ r m. and_then (a.value r m) (λ x r m.
    Went (operated (in_kind arith_op.Sub (promote (number_kind (type_in g.typing e)))) (pos 0) x) r m (breaks g k true (s.unary unary.Minus e) x (pos 0) (pos 0))))
unary_meaning g w k unary.Flip e a = only (λ r m. and_then (a.value r m) (λ x. gives (wrap (promote (number_kind (type_in g.typing e))) (negsuc 0 -ℤ x))))
unary_meaning g w k unary.Not e a = only (λ r m. and_then (a.value r m) (λ x. gives (bit (not (truth x)))))

-- `e[e]`: the address of the array or the pointer's number, moved by the index (C11 6.5.2.1)
abbrev pub indexed_from : {S : Type 0} → TypeTree → Bool → Meaning S → List ℤ → S → Ran ℤ S
indexed_from t b a r m = if is_array t then and_then (a.place b r m) (λ x. gives (pos x)) else a.value r m

abbrev pub index_place : {S : Type 0} → Setting → ℕ → ExprTree → ExprTree → Meaning S → Meaning S → Bool → List ℤ → S → Ran ℕ S
index_place g k left right a b acc r m =
    and_then (indexed_from (type_in g.typing left) acc a r m) (λ x r m. and_then (b.value r m) (λ y r m.
    Went (moved (to_address x) y (stride_in g.typing (type_in g.typing left)) false) r m (breaks g k acc (s.index left right) x y (pos 0))))

-- `++` and `--`: the place, its number, one more or less of it, and the store (C11 6.5.2.4, 6.5.3.1)
abbrev pub step_value : {S : Type 0} → Setting → World S → ℕ → StepOp → ExprTree → Meaning S → List ℤ → S → Ran ℤ S
step_value g w k op e a r m =
    let t = type_in g.typing e in
    let target = target_of g e in
    and_then (a.place true r m) (λ place r m.
    and_then (number_in w target (node_of (bare e)) (number_kind t) place r m) (λ x r m.
    let y = converted t (operated (step_operation g.typing op t) x (pos 1)) in
    after (breaks g k true (s.step op e) x (pos 1) (pos 0)) (stored_at w target (number_kind t) place y (if gives_old op then x else y) r m)))

-- assignments: the right side, the address of the left side, for a compound one its number, and the store of the number
-- in the left side's type (C11 6.5.16)
abbrev pub plain_assigned : {S : Type 0} → Setting → World S → ExprTree → Meaning S → Meaning S → List ℤ → S → Ran ℤ S
plain_assigned g w left a b r m =
    let t = type_in g.typing left in
    and_then (b.value r m) (λ y r m. and_then (a.place true r m) (λ place r m.
    stored_at w (target_of g left) (number_kind t) place (converted t y) (converted t y) r m))

abbrev pub compound_assigned : {S : Type 0} → Setting → World S → ℕ → ExprFormTree → Operation → ExprTree → Meaning S → Meaning S → List ℤ → S → Ran ℤ S
compound_assigned g w k f op left a b r m =
    let t = type_in g.typing left in
    let target = target_of g left in
    and_then (b.value r m) (λ y r m. and_then (a.place true r m) (λ place r m.
    and_then (number_in w target (node_of (bare left)) (number_kind t) place r m) (λ x r m.
    let z = converted t (operated op x y) in
    after (breaks g k true f x y (pos 0)) (stored_at w target (number_kind t) place z z r m))))

abbrev pub assigned_value : {S : Type 0} → Setting → World S → ℕ → AssignOp → ExprTree → ExprTree → Option Operator → Meaning S → Meaning S → List ℤ → S → Ran ℤ S
assigned_value g w k op left right None a b = plain_assigned g w left a b
assigned_value g w k op left right (Some how) a b =
    compound_assigned g w k (s.assign op left right) (operation_of g.typing how (type_in g.typing left) (type_in g.typing right)) left a b

-- an argument converted to its parameter's type, where there is one (C11 6.5.2.2p7)
abbrev pub passed : TypeTrees → ℤ → ℤ
passed no_types x = x
passed (then_type t ts) x = converted t x

abbrev pub later_parameters : TypeTrees → TypeTrees
later_parameters no_types = no_types
later_parameters (then_type t ts) = ts

-- the value of a call once its arguments are evaluated: of the library its own, else what the world answers (C11
-- 6.5.2.2, 7.22.6.1, 7.24.2.1)
abbrev pub returned : {S : Type 0} → World S → ℕ → TypeTree → Option Library → List ℤ → List ℤ → S → Ran ℤ S
returned w k t None xs r m = answered (w.call k t m) r
returned w k t (Some (absolute_in kind)) xs r m = gives (absolute kind (get_or xs 0 (pos 0))) r m
returned w k t (Some copy_bytes) xs r m = written (get_or xs 0 (pos 0)) (w.write m) r

-- a call: the arguments, the conditions of a library call, a cut where the function is marked as not returning, and its
-- value
abbrev pub call_value : {S : Type 0} → Setting → World S → ℕ → ExprTree → ExprTrees → (List ℤ → S → Ran (List ℤ) S) → List ℤ → S → Ran ℤ S
call_value g w k callee es arguments r m =
    let f = called_signature g.typing callee in
    and_then (arguments r m) (λ xs r m.
    after (breaks g k true (s.call callee es) (get_or xs 0 (pos 0)) (get_or xs 1 (pos 0)) (get_or xs 2 (pos 0)))
    (if never_returns f then Cut [] else returned w k (result_in f) (called_library g.typing callee) xs r m))

abbrev mutual
  -- an expression
  pub meaning : {S : Type 0} → Setting → World S → ExprTree → Meaning S
  meaning g w (s.expression n f) = form_meaning g w n.number f

  -- an expression of a form, at a node
  pub form_meaning : {S : Type 0} → Setting → World S → ℕ → ExprFormTree → Meaning S
  form_meaning g w k (s.name at) = name_meaning g w k (s.name at) (object_named g k at) (g.typing.number_at k)
  form_meaning g w k (s.number at) = own_number g k
  form_meaning g w k (s.character at) = own_number g k
  form_meaning g w k (s.text parts) = at_place g w k (s.text parts) (λ b. gives (w.address k))
  form_meaning g w k (s.paren e) = meaning g w e
  form_meaning g w k (s.index a b) = at_place g w k (s.index a b) (index_place g k a b (meaning g w a) (meaning g w b))
  form_meaning g w k (s.call e es) = only (call_value g w k e es (arguments_values g w (parameters_in (called_signature g.typing e)) es))
  form_meaning g w k (s.dot e at) =
      at_place g w k (s.dot e at) (λ b r m. and_then ((meaning g w e).place b r m) (λ x. gives (to_address (pos (x + g.typing.offset_of (type_in g.typing e) at)))))
  form_meaning g w k (s.arrow e at) =
      at_place g w k (s.arrow e at) (λ b r m. and_then ((meaning g w e).value r m) (λ x r m.
      Went (to_address (pos (to_address x + g.typing.offset_of (pointed (type_in g.typing e)) at))) r m (breaks g k b (s.arrow e at) x (pos 0) (pos 0))))
  form_meaning g w k (s.step op e) = only (step_value g w k op e (meaning g w e))
  form_meaning g w k (s.unary op e) = unary_meaning g w k op e (meaning g w e)
  form_meaning g w k (s.size_expression e) = own_number g k
  form_meaning g w k (s.size_name t) = own_number g k
  form_meaning g w k (s.cast t e) = only (λ r m. and_then ((meaning g w e).value r m) (λ x. gives (converted (g.typing.type_at k) x)))
  form_meaning g w k (s.binary op a b) = binary_meaning g k op a b (sort_of op) (meaning g w a) (meaning g w b)
  form_meaning g w k (s.choice a b c) =
      only (λ r m. and_then (controlled a ((meaning g w a).value r m)) (λ x r m.
      if truth x then branch_value (g.typing.type_at k) (node_of b) (meaning g w b) r m
      else branch_value (g.typing.type_at k) (node_of c) (meaning g w c) r m))
  form_meaning g w k (s.assign op a b) = only (assigned_value g w k op a b (assigned_operator op) (meaning g w a) (meaning g w b))

  -- arguments in order, each converted to its parameter's type
  pub arguments_values : {S : Type 0} → Setting → World S → TypeTrees → ExprTrees → List ℤ → S → Ran (List ℤ) S
  arguments_values g w ts s.no_expressions r m = gives [] r m
  arguments_values g w ts (s.then_expression e es) r m =
      and_then ((meaning g w e).value r m) (λ x r m. and_then (arguments_values g w (later_parameters ts) es r m) (λ xs. gives (passed ts x ∷ xs)))

-- the value of an expression, and that of a controlling expression
abbrev pub value_of : {S : Type 0} → Setting → World S → ExprTree → List ℤ → S → Ran ℤ S
value_of g w e = (meaning g w e).value

abbrev pub test_of : {S : Type 0} → Setting → World S → ExprTree → List ℤ → S → Ran ℤ S
test_of g w e r m = controlled e ((meaning g w e).value r m)
