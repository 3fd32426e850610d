-- A function has few conditions, and a walk of it no more steps that tell of violations.
use Rattle.std.proofs.Common.{◌≡◌, ℕ, suc, ◌+◌, ◌*◌, ◌≤◌, Bool, true, false, ◌&&◌, inl, inr, List, [], ◌∷◌, ◌++◌, length, length-append, map, Option, Some, None, refl, sym, ap, subst, ◌∙◌, arith, if◌then◌else◌}
use Rattle.std.specs.Prelude.{filter}
use Rattle.stk_ctype.specs.declared.kind.IntKind.{IntKind}
use Rattle.stk_ctype.specs.Types.{TypeTree}
use Rattle.stk_tree.specs.declared.expression.UnaryOp.{UnaryOp}
use Rattle.stk_tree.specs.declared.expression.UnaryOp.TheVariants as unary
use Rattle.stk_tree.specs.Syntax.{ExprFormTree, FunctionTree}
use Rattle.stk_tree.specs.Syntax as s
use Rattle.stk_tree.specs.Nodes.{function_nodes}
use Rattle.stk_numbers.specs.declared.operators.ArithOp.TheVariants as arith_op
use Rattle.stk_numbers.specs.declared.conditions.Condition.{Condition}
use Rattle.stk_numbers.specs.declared.conditions.Candidate.{Candidate}
use Rattle.stk_numbers.specs.declared.conditions.Kinds.{Kinds}
use Rattle.stk_numbers.specs.Kinds.{promote, is_signed, wrap}
use Rattle.stk_numbers.specs.Conditions.{violates, divides}
use Rattle.stk_numbers.specs.declared.conditions.UbKind.TheVariants as ub
use Rattle.stk_meaning.specs.Typings.{Typing, type_in, is_array, element_count, stride_in, number_kind}
use Rattle.stk_meaning.specs.Operations.{Operation, in_kind, shift_in, compare_in, move, move_behind, measure, Operator, operation_of, step_operation, may_overflow, tested, BinarySort, operates, joins, or_else, and_also, sort_of, assigned_operator, Test, operation_tests, one_if}
use Rattle.stk_meaning.specs.Libraries.{Library, absolute_in, copy_bytes, called_library}
use Rattle.stk_meaning.specs.Conditions.{array_tests, pointer_tests, index_tests, target_tests, unary_tests, binary_tests, assigned_tests, library_tests, form_tests}
use Rattle.stk_meaning.specs.Visits.{accesses, Visit, at_expression, at_declarator, at_statement, at_section, Visits, no_visit, one_visit, both_visits, scope, unevaluated, collected}
use Rattle.stk_meaning.specs.Keys.{function_visits}
use Rattle.stk_meaning.specs.Lists.{visit_conditions, conditions, candidates}
use Rattle.stk_run_laws.specs.Visits.{IsIn}
use Rattle.stk_type_laws.proofs.Evaluated.{evaluated_count, function_fine}
use Rattle.stk_terms.specs.declared.term.TermId.{TermId}
use Rattle.stk_values.specs.declared.walked.Step.{Step}
use Rattle.stk_values.specs.declared.walked.Step.TheVariants as steps
use Rattle.stk_values.specs.Walks.{ListedEvent, is_violated, is_hit, event_of}
use Rattle.stk_walking.specs.declared.state.Event.{Event}
use Rattle.stk_walking.specs.declared.state.Event.TheVariants.{Broken, Hit}
use Rattle.stk_event_laws.specs.Listed.{body_events, StandOnce}
use Rattle.stk_event_laws.specs.Positions.{listed_event}
use Rattle.stk_event_laws.proofs.EventLaws.{events_listed, events_once}
use Rattle.stk_goals.specs.Goals.{violations}
use Rattle.stk_goals.specs.Laws.{GoalsAddLittle}

-- ---- at most two tests at a node

one_or_two : (a b : Bool) (t u : Test) → length (one_if a t ++ one_if b u) ≤ 2
one_or_two true true t u = omega arith
one_or_two true false t u = omega arith
one_or_two false true t u = omega arith
one_or_two false false t u = omega arith

operation_few : (o : Operation) → length (operation_tests o) ≤ 2
operation_few (in_kind op k) =
    one_or_two (may_overflow op && is_signed k) (divides op) (tested ub.Overflow (λ x y. violates ub.Overflow op k (wrap k x) (wrap k y))) (tested ub.Zero (λ x y. violates ub.Zero op k (wrap k x) (wrap k y)))
operation_few (shift_in op k) = omega arith
operation_few (compare_in op k) = omega arith
operation_few (move minus size) = omega arith
operation_few (move_behind size) = omega arith
operation_few (measure size) = omega arith

array_few : (b : Bool) (count : Option ℕ) (size : ℕ) → length (array_tests b count size) ≤ 2
array_few true (Some n) size = omega arith
array_few true None size = omega arith
array_few false count size = omega arith

pointer_few : (b : Bool) (size : ℕ) → length (pointer_tests b size) ≤ 2
pointer_few true size = omega arith
pointer_few false size = omega arith

index_few : (b : Bool) (t : TypeTree) (size : ℕ) → length (index_tests b t size) ≤ 2
index_few b t size = on (is_array t) where
  on : (array : Bool) → length (if array then array_tests b (element_count t) size else pointer_tests b size) ≤ 2
  on true = array_few b (element_count t) size
  on false = pointer_few b size

target_few : (b : Bool) → length (target_tests b) ≤ 2
target_few true = omega arith
target_few false = omega arith

mapped_length : {A B : Type 0} (f : A → B) (xs : List A) → length (map f xs) ≡ length xs
mapped_length f [] = refl
mapped_length f (x ∷ xs) = ap suc (mapped_length f xs)

mapped_few : {A B : Type 0} (f : A → B) (xs : List A) (n : ℕ) → length xs ≤ n → length (map f xs) ≤ n
mapped_few f xs n h = subst (λ m. m ≤ n) (sym (mapped_length f xs)) h

unary_few : (b : Bool) (k : IntKind) (op : UnaryOp) → length (unary_tests b k op) ≤ 2
unary_few b k unary.Address = omega arith
unary_few b k unary.Deref = target_few b
unary_few b k unary.Plus = omega arith
unary_few b k unary.Minus = mapped_few _ _ 2 (operation_few (in_kind arith_op.Sub k))
unary_few b k unary.Flip = omega arith
unary_few b k unary.Not = omega arith

binary_few : (ty : Typing) (sort : BinarySort) (t u : TypeTree) → length (binary_tests ty sort t u) ≤ 2
binary_few ty (operates op) t u = operation_few (operation_of ty op t u)
binary_few ty joins t u = omega arith
binary_few ty or_else t u = omega arith
binary_few ty and_also t u = omega arith

assigned_few : (ty : Typing) (op : Option Operator) (t u : TypeTree) → length (assigned_tests ty op t u) ≤ 2
assigned_few ty None t u = omega arith
assigned_few ty (Some op) t u = operation_few (operation_of ty op t u)

library_few : (o : Option Library) → length (library_tests o) ≤ 2
library_few None = omega arith
library_few (Some (absolute_in k)) = omega arith
library_few (Some copy_bytes) = omega arith

form_few : (ty : Typing) (b : Bool) (x : ExprFormTree) → length (form_tests ty b x) ≤ 2
form_few ty b (s.name at) = omega arith
form_few ty b (s.number at) = omega arith
form_few ty b (s.character at) = omega arith
form_few ty b (s.text parts) = omega arith
form_few ty b (s.paren e) = omega arith
form_few ty b (s.index a c) = index_few b (type_in ty a) (stride_in ty (type_in ty a))
form_few ty b (s.call e es) = library_few (called_library ty e)
form_few ty b (s.dot e at) = omega arith
form_few ty b (s.arrow e at) = target_few b
form_few ty b (s.step op e) = operation_few (step_operation ty op (type_in ty e))
form_few ty b (s.unary op e) = unary_few b (promote (number_kind (type_in ty e))) op
form_few ty b (s.size_expression e) = omega arith
form_few ty b (s.size_name t) = omega arith
form_few ty b (s.cast t e) = omega arith
form_few ty b (s.binary op a c) = binary_few ty (sort_of op) (type_in ty a) (type_in ty c)
form_few ty b (s.choice a c d) = omega arith
form_few ty b (s.assign op a c) = assigned_few ty (assigned_operator op) (type_in ty a) (type_in ty c)

kept_length : {A : Type 0} (p : A → Bool) (xs : List A) → length (filter p xs) ≤ length xs
kept_length p [] = omega arith
kept_length p (x ∷ xs) = on (p x) (kept_length p xs) where
  on : (b : Bool) → length (filter p xs) ≤ length xs → length (if b then x ∷ filter p xs else filter p xs) ≤ suc (length xs)
  on true h = omega (arith, h)
  on false h = omega (arith, h)

kept_few : {A : Type 0} (p : A → Bool) (xs : List A) (n : ℕ) → length xs ≤ n → length (filter p xs) ≤ n
kept_few p xs n h = let k = kept_length p xs in omega (arith, h, k)

-- ---- at most two conditions a node

module _ (ty : Typing) (without : Kinds) where
  visit_few : (x : Visit) → length (visit_conditions ty without x) ≤ 2
  visit_few (at_expression k role x) =
      mapped_few _ _ 2 (kept_few _ _ 2 (form_few ty (accesses (ty.type_at k) role.use_of) x))
  visit_few (at_declarator k static at init) = omega arith
  visit_few (at_statement k arm x) = omega arith
  visit_few (at_section k ls) = omega arith

  collected_few : (v : Visits) → length (collected (visit_conditions ty without) v) ≤ 2 * evaluated_count v
  collected_few no_visit = omega arith
  collected_few (one_visit x) = omega (arith, visit_few x)
  collected_few (both_visits a b) = simp length-append (omega (arith, collected_few a, collected_few b))
  collected_few (scope ks a) = collected_few a
  collected_few (unevaluated a) = omega arith

  few_conditions : (f : FunctionTree) → length (conditions ty without f) ≤ 2 * function_nodes f
  few_conditions f = let c = collected_few (function_visits ty f) in let n = (function_fine ty f).few in omega (arith, c, n)

-- ---- lists without repeats

module _ {A : Type 0} (x : A) where
  abbrev left_of : (ys : List A) → IsIn x ys → List A
  left_of [] h = absurd h
  left_of (y ∷ ys) (inl e) = ys
  left_of (y ∷ ys) (inr i) = y ∷ left_of ys i

  one_less : (ys : List A) (i : IsIn x ys) → length ys ≡ suc (length (left_of ys i))
  one_less [] h = absurd h
  one_less (y ∷ ys) (inl e) = refl
  one_less (y ∷ ys) (inr i) = ap suc (one_less ys i)

  still_in : (ys : List A) (i : IsIn x ys) (z : A) → IsIn z ys → (z ≡ x → ⊥) → IsIn z (left_of ys i)
  still_in [] h z j n = absurd h
  still_in (y ∷ ys) (inl e) z (inl d) n = absurd (n (d ∙ sym e))
  still_in (y ∷ ys) (inl e) z (inr j) n = j
  still_in (y ∷ ys) (inr i) z (inl d) n = inl d
  still_in (y ∷ ys) (inr i) z (inr j) n = inr (still_in ys i z j n)

-- a list without repeats is no longer than one that has each of its elements
no_longer : {A : Type 0} (xs ys : List A) → StandOnce xs → ((z : A) → IsIn z xs → IsIn z ys) → length xs ≤ length ys
no_longer [] ys h f = omega arith
no_longer (x ∷ xs) ys h f =
    let i = f x (inl refl) in
    let g = no_longer xs (left_of x ys i) h.1 (λ z j. still_in x ys i z (f z (inr j)) (λ e. h.0 (subst (λ a. IsIn a xs) e j))) in
    let l = one_less x ys i in
    omega (arith, g, l)

-- ---- violations among events

abbrev broken_in : List Event → List Condition
broken_in [] = []
broken_in (Broken k ∷ es) = k ∷ broken_in es
broken_in (Hit c ∷ es) = broken_in es

abbrev violated_in : List ListedEvent → ℕ
violated_in [] = 0
violated_in (is_violated k ∷ es) = violated_in es + 1
violated_in (is_hit j ∷ es) = violated_in es

in_events : (k : Condition) (es : List Event) → IsIn k (broken_in es) → IsIn (Broken k) es
in_events k [] h = h
in_events k (Broken j ∷ es) (inl e) = inl (ap Broken e)
in_events k (Broken j ∷ es) (inr i) = inr (in_events k es i)
in_events k (Hit c ∷ es) i = inr (in_events k es i)

broken_once : (es : List Event) → StandOnce es → StandOnce (broken_in es)
broken_once [] h = tt
broken_once (Broken k ∷ es) h = (λ i. h.0 (in_events k es i), broken_once es h.1)
broken_once (Hit c ∷ es) h = broken_once es h.1

listed_broken : (cs : List Candidate) (es : List Event) → violated_in (map (listed_event cs) es) ≡ length (broken_in es)
listed_broken cs [] = refl
listed_broken cs (Broken k ∷ es) = let h = listed_broken cs es in omega (arith, h)
listed_broken cs (Hit c ∷ es) = listed_broken cs es

steps_violated : (xs : List (Step TermId)) → violated_in (map (λ x. event_of x) xs) ≡ violations xs
steps_violated [] = refl
steps_violated (steps.Broken k v ∷ xs) = ap (λ n. n + 1) (steps_violated xs)
steps_violated (steps.Hit j v ∷ xs) = steps_violated xs

pub goals_add_little : GoalsAddLittle
goals_add_little ty without f numbered scalars xs says =
    let es = body_events ty without f in
    let few = no_longer (broken_in es) (conditions ty without f) (broken_once es (events_once ty without f numbered scalars)) (λ k i. events_listed ty without f scalars (Broken k) (in_events k es i)) in
    let count = sym (steps_violated xs) ∙ ap violated_in says ∙ listed_broken (candidates ty f) es in
    let all = few_conditions ty without f in
    omega (arith, few, count, all)
