-- A register that a turn of a loop may change is assigned in the loop.
use Rattle.std.proofs.Common.{◌≡◌, ◌⊎◌, ℕ, ◌+◌, ◌==◌, ◌≤◌, Bool, true, false, not, ◌&&◌, ◌||◌, List, [], ◌∷◌, ◌++◌, length, Option, Some, None, refl, sym, ap, ◌∙◌, inl, inr, arith}
use Rattle.std.specs.Prelude.{if◌then◌else◌, filter}
use Rattle.std.specs.List.{list_any}
use Rattle.std.proofs.lemmas.Grind.{common_steps}
use Rattle.stk_tree.specs.Syntax.{ExprTree, ExprFormTree, MaybeInitTree, StmtFormTree}
use Rattle.stk_tree.specs.Syntax as s
use Rattle.stk_ctype.specs.Types.{TypeTree}
use Rattle.stk_type_rules.specs.Types.{is_scalar}
use Rattle.stk_meaning.specs.Typings.{is_among}
use Rattle.stk_meaning.specs.Libraries.{Library, absolute_in, copy_bytes, called_library}
use Rattle.stk_meaning.specs.Places.{Setting, Target, in_register, in_kept, in_object, unnamed, position_behind, object_target, target_at, target_of}
use Rattle.stk_meaning.specs.Visits.{at_expression, at_declarator, at_statement, at_section, Visits, no_visit, one_visit, both_visits, scope, unevaluated, collected, reading, as_test, start_visits, statement_form_visits, turn_visits}
use Rattle.stk_meaning.specs.Changes.{register_spot, stored_in, call_changes, form_changes, initial_changes, declarator_changes, changes, assigned_in}
use Rattle.stk_meaning.specs.Weights.{form_assigns, visit_assigns, is_register_target, assigned_under}
use Rattle.stk_type_laws.proofs.Evaluated.{open_declarators, AreScoped, Fine, expression_fine, maybe_fine, statement_fine}

-- ---- lists and tests

or_cases : (a b : Bool) → a || b ≡ true → (a ≡ true) ⊎ (b ≡ true)
or_cases true b e = inl refl
or_cases false b e = inr e

or_right : (a b : Bool) → b ≡ true → a || b ≡ true
or_right true b e = refl
or_right false b e = e

or_left : (a b : Bool) → a ≡ true → a || b ≡ true
or_left true b e = refl
or_left false b e = absurd cc

any_left : {A : Type 0} (p : A → Bool) (xs ys : List A) → list_any p xs ≡ true → list_any p (xs ++ ys) ≡ true
any_left p [] ys e = absurd cc
any_left p (x ∷ xs) ys e = by (p x) e (λ h. any_left p xs ys h)
  where
    by : (b : Bool) → b || list_any p xs ≡ true → (list_any p xs ≡ true → list_any p (xs ++ ys) ≡ true) → b || list_any p (xs ++ ys) ≡ true
    by true h more = refl
    by false h more = more h

any_right : {A : Type 0} (p : A → Bool) (xs ys : List A) → list_any p ys ≡ true → list_any p (xs ++ ys) ≡ true
any_right p [] ys e = e
any_right p (x ∷ xs) ys e = or_right (p x) (list_any p (xs ++ ys)) (any_right p xs ys e)

among_left : (k : ℕ) (xs ys : List ℕ) → is_among k xs ≡ true → is_among k (xs ++ ys) ≡ true
among_left k [] ys e = absurd cc
among_left k (x ∷ xs) ys e = by (k == x) e (λ h. among_left k xs ys h)
  where
    by : (b : Bool) → b || is_among k xs ≡ true → (is_among k xs ≡ true → is_among k (xs ++ ys) ≡ true) → b || is_among k (xs ++ ys) ≡ true
    by true h more = refl
    by false h more = more h

among_right : (k : ℕ) (xs ys : List ℕ) → is_among k ys ≡ true → is_among k (xs ++ ys) ≡ true
among_right k [] ys e = e
among_right k (x ∷ xs) ys e = or_right (k == x) (is_among k (xs ++ ys)) (among_right k xs ys e)

turned : (j k : ℕ) → j == k ≡ true → k == j ≡ true
turned j k e = grind (arith, common_steps)

pub filter_few : (p q : ℕ → Bool) (xs : List ℕ) → ((k : ℕ) → p k ≡ true → q k ≡ true) → length (filter p xs) ≤ length (filter q xs)
filter_few p q [] h = omega arith
filter_few p q (x ∷ xs) h = by (p x) refl (q x) refl (filter_few p q xs h)
  where
    by : (a : Bool) → p x ≡ a → (b : Bool) → q x ≡ b → length (filter p xs) ≤ length (filter q xs) → length (if a then x ∷ filter p xs else filter p xs) ≤ length (if b then x ∷ filter q xs else filter q xs)
    by true d true e l = omega (arith, l)
    by true d false e l = let never : false ≡ true = sym e ∙ h x d in absurd cc
    by false d true e l = omega (arith, l)
    by false d false e l = l

-- ---- what changes a register

module _ (g : Setting) (k : ℕ) where
  -- a store to it is among those that are read off
  stored_is : (t : Target) → stored_in t (register_spot k) ≡ true → is_register_target k t ≡ true
  stored_is (in_register i) e = turned i k e
  stored_is (in_kept q) e = absurd cc
  stored_is (in_object o) e = absurd cc
  stored_is unnamed e = absurd cc

  one_target : (t : Target) → stored_in t (register_spot k) ≡ true → list_any (is_register_target k) (t ∷ []) ≡ true
  one_target t e = or_left (is_register_target k t) false (stored_is t e)

  no_call : (l : Option Library) → call_changes l (register_spot k) ≡ true → ⊥
  no_call None e = cc
  no_call (Some (absolute_in kind)) e = cc
  no_call (Some copy_bytes) e = cc

  form_assigned : (f : ExprFormTree) → form_changes g f (register_spot k) ≡ true → list_any (is_register_target k) (form_assigns g f) ≡ true
  form_assigned (s.name at) e = absurd cc
  form_assigned (s.number at) e = absurd cc
  form_assigned (s.character at) e = absurd cc
  form_assigned (s.text parts) e = absurd cc
  form_assigned (s.paren x) e = absurd cc
  form_assigned (s.index a b) e = absurd cc
  form_assigned (s.call x es) e = absurd (no_call (called_library g.typing x) e)
  form_assigned (s.dot x at) e = absurd cc
  form_assigned (s.arrow x at) e = absurd cc
  form_assigned (s.step op x) e = one_target (target_of g x) e
  form_assigned (s.unary op x) e = absurd cc
  form_assigned (s.size_expression x) e = absurd cc
  form_assigned (s.size_name t) e = absurd cc
  form_assigned (s.cast t x) e = absurd cc
  form_assigned (s.binary op a b) e = absurd cc
  form_assigned (s.choice a b c) e = absurd cc
  form_assigned (s.assign op a b) e = one_target (target_of g a) e

  -- a declarator declares it
  begun_kept : (d : ℕ) (o : Option ℕ) → declarator_changes (object_target d o) (register_spot k) ≡ true → ⊥
  begun_kept d None e = cc
  begun_kept d (Some q) e = cc

  begun_is : (d : ℕ) → declarator_changes (target_at g d) (register_spot k) ≡ true → is_among k (d ∷ []) ≡ true
  begun_is d e = by (is_among d g.registers) e
    where
      by : (b : Bool) → declarator_changes (if b then in_register d else object_target d (position_behind 0 d g.kept)) (register_spot k) ≡ true → is_among k (d ∷ []) ≡ true
      by true h = or_left (k == d) false (turned d k h)
      by false h = absurd (begun_kept d (position_behind 0 d g.kept) h)

  and_false : (b : Bool) → (b && false) ≡ true → ⊥
  and_false true e = cc
  and_false false e = cc

  no_initial : (static : Bool) (t : TypeTree) (init : MaybeInitTree) → (not static && initial_changes t init (register_spot k)) ≡ true → ⊥
  no_initial static t s.no_initialiser e = and_false (not static) e
  no_initial true t (s.some_initialiser x) e = cc
  no_initial false t (s.some_initialiser x) e = and_false (not (is_scalar t)) e

  -- what changes it declares it in no scope, or assigns it
  changed : (v : Visits) → AreScoped v → changes g v (register_spot k) ≡ true → (is_among k (open_declarators v) ≡ true) ⊎ (list_any (is_register_target k) (collected (visit_assigns g) v) ≡ true)
  changed no_visit h e = absurd cc
  changed (one_visit (at_expression j role f)) h e = inr (form_assigned f e)
  changed (one_visit (at_declarator j static at init)) h e = by (or_cases (declarator_changes (target_at g j) (register_spot k)) (not static && initial_changes (g.typing.type_at j) init (register_spot k)) e)
    where
      by : (declarator_changes (target_at g j) (register_spot k) ≡ true) ⊎ ((not static && initial_changes (g.typing.type_at j) init (register_spot k)) ≡ true) → (is_among k (j ∷ []) ≡ true) ⊎ (false ≡ true)
      by (inl d) = inl (begun_is j d)
      by (inr d) = absurd (no_initial static (g.typing.type_at j) init d)
  changed (one_visit (at_statement j arm f)) h e = absurd cc
  changed (one_visit (at_section j ls)) h e = absurd cc
  changed (both_visits a b) h e = by (or_cases (changes g a (register_spot k)) (changes g b (register_spot k)) e) (λ d. changed a h.0 d) (λ d. changed b h.1 d)
    where
      left : (is_among k (open_declarators a) ≡ true) ⊎ (list_any (is_register_target k) (collected (visit_assigns g) a) ≡ true)
          → (is_among k (open_declarators a ++ open_declarators b) ≡ true) ⊎ (list_any (is_register_target k) (collected (visit_assigns g) a ++ collected (visit_assigns g) b) ≡ true)
      left (inl d) = inl (among_left k (open_declarators a) (open_declarators b) d)
      left (inr d) = inr (any_left (is_register_target k) (collected (visit_assigns g) a) (collected (visit_assigns g) b) d)

      right : (is_among k (open_declarators b) ≡ true) ⊎ (list_any (is_register_target k) (collected (visit_assigns g) b) ≡ true)
          → (is_among k (open_declarators a ++ open_declarators b) ≡ true) ⊎ (list_any (is_register_target k) (collected (visit_assigns g) a ++ collected (visit_assigns g) b) ≡ true)
      right (inl d) = inl (among_right k (open_declarators a) (open_declarators b) d)
      right (inr d) = inr (any_right (is_register_target k) (collected (visit_assigns g) a) (collected (visit_assigns g) b) d)

      by : (changes g a (register_spot k) ≡ true) ⊎ (changes g b (register_spot k) ≡ true)
          → (changes g a (register_spot k) ≡ true → (is_among k (open_declarators a) ≡ true) ⊎ (list_any (is_register_target k) (collected (visit_assigns g) a) ≡ true))
          → (changes g b (register_spot k) ≡ true → (is_among k (open_declarators b) ≡ true) ⊎ (list_any (is_register_target k) (collected (visit_assigns g) b) ≡ true))
          → (is_among k (open_declarators a ++ open_declarators b) ≡ true) ⊎ (list_any (is_register_target k) (collected (visit_assigns g) a ++ collected (visit_assigns g) b) ≡ true)
      by (inl d) in_a in_b = left (in_a d)
      by (inr d) in_a in_b = right (in_b d)
  changed (scope ks a) h e = by (is_among k ks) refl e (λ d. changed a h.1 d)
    where
      rest : is_among k ks ≡ false → (is_among k (open_declarators a) ≡ true) ⊎ (list_any (is_register_target k) (collected (visit_assigns g) a) ≡ true) → (false ≡ true) ⊎ (list_any (is_register_target k) (collected (visit_assigns g) a) ≡ true)
      rest d (inl i) = inl (sym d ∙ ap (is_among k) (sym h.0) ∙ i)
      rest d (inr i) = inr i

      by : (b : Bool) → is_among k ks ≡ b → (not b && changes g a (register_spot k)) ≡ true
          → (changes g a (register_spot k) ≡ true → (is_among k (open_declarators a) ≡ true) ⊎ (list_any (is_register_target k) (collected (visit_assigns g) a) ≡ true))
          → (false ≡ true) ⊎ (list_any (is_register_target k) (collected (visit_assigns g) a) ≡ true)
      by true d i in_a = absurd cc
      by false d i in_a = rest d (in_a i)
  changed (unevaluated a) h e = absurd cc

  -- where nothing is declared outside of scopes
  assigned : (v : Visits) (n : ℕ) → Fine v n [] → changes g v (register_spot k) ≡ true → list_any (is_register_target k) (collected (visit_assigns g) v) ≡ true
  assigned v n h e = by (changed v h.scoped e)
    where
      by : (is_among k (open_declarators v) ≡ true) ⊎ (list_any (is_register_target k) (collected (visit_assigns g) v) ≡ true) → list_any (is_register_target k) (collected (visit_assigns g) v) ≡ true
      by (inl d) = let never : false ≡ true = ap (is_among k) (sym h.declares) ∙ d in absurd cc
      by (inr d) = d

pub fine_pair : {a b : Visits} {m n : ℕ} → Fine a m [] → Fine b n [] → Fine (both_visits a b) (m + n) []
fine_pair {b = b} h k = record { few = omega (arith, h.few, k.few); scoped = (h.scoped, k.scoped); declares = ap (λ z. z ++ open_declarators b) h.declares ∙ k.declares }

-- ---- a loop

turn_assigned : (g : Setting) (f : StmtFormTree) (k : ℕ) → changes g (turn_visits g.typing f) (register_spot k) ≡ true → list_any (is_register_target k) (collected (visit_assigns g) (statement_form_visits g.typing f)) ≡ true
turn_assigned g (s.block ps) k e = absurd cc
turn_assigned g (s.expression_statement x) k e = absurd cc
turn_assigned g (s.if_statement x y z) k e = absurd cc
turn_assigned g (s.switch_statement x ss) k e = absurd cc
turn_assigned g (s.while_statement x y) k e = assigned g k (turn_visits g.typing (s.while_statement x y)) _ (fine_pair (expression_fine g.typing as_test x) (statement_fine g.typing true y)) e
turn_assigned g (s.do_statement x y) k e = assigned g k (turn_visits g.typing (s.do_statement x y)) _ (fine_pair (statement_fine g.typing true x) (expression_fine g.typing as_test y)) e
turn_assigned g (s.for_statement first test step x) k e =
    any_right (is_register_target k) (collected (visit_assigns g) (start_visits g.typing first)) (collected (visit_assigns g) (turn_visits g.typing (s.for_statement first test step x)))
    (assigned g k (turn_visits g.typing (s.for_statement first test step x)) _ (fine_pair (maybe_fine g.typing as_test test) (fine_pair (maybe_fine g.typing reading step) (statement_fine g.typing true x))) e)
turn_assigned g s.break_statement k e = absurd cc
turn_assigned g s.continue_statement k e = absurd cc
turn_assigned g (s.return_statement x) k e = absurd cc

-- the registers that a loop sets first are few beside those that are assigned in it
pub assigned_few : (g : Setting) (f : StmtFormTree) → length (assigned_in g f) ≤ assigned_under g f
assigned_few g f =
    filter_few (λ k. changes g (turn_visits g.typing f) (register_spot k)) (λ k. list_any (is_register_target k) (collected (visit_assigns g) (statement_form_visits g.typing f))) g.registers (turn_assigned g f)
