-- The keys of a function don't depend on which objects are kept.
use Rattle.std.proofs.Common.{◌≡◌, ℕ, ◌==◌, Bool, true, false, not, ◌&&◌, ◌||◌, List, [], ◌∷◌, ◌++◌, Option, Some, None, refl, sym, ap, ◌∙◌}
use Rattle.std.proofs.Math.Path.{fun_ext}
use Rattle.std.specs.Prelude.{if◌then◌else◌, filter}
use Rattle.std.specs.Option.{is_some}
use Rattle.stk_base.specs.declared.span.Span.{Span}
use Rattle.stk_ctype.specs.Types.{TypeTree}
use Rattle.stk_tree.specs.declared.expression.UnaryOp.{UnaryOp}
use Rattle.stk_tree.specs.declared.expression.UnaryOp.TheVariants as unary
use Rattle.stk_tree.specs.Syntax.{ExprTree, ExprFormTree, MaybeInitTree, StmtFormTree}
use Rattle.stk_tree.specs.Syntax as s
use Rattle.stk_type_rules.specs.Types.{is_scalar}
use Rattle.stk_meaning.specs.Typings.{is_among}
use Rattle.stk_meaning.specs.Places.{Setting, Target, in_register, in_kept, in_object, unnamed, object_named, position_behind, object_target, target_at, member_target, target_of, form_target}
use Rattle.stk_meaning.specs.Visits.{Use, read, accessed, taken, Role, Visit, at_expression, at_declarator, at_statement, at_section, Visits, no_visit, one_visit, both_visits, scope, unevaluated, collected, turn_visits}
use Rattle.stk_meaning.specs.Changes.{register_spot, stored_in, form_changes, declarator_changes, initial_changes, visit_changes, is_own, changes, assigned_in}
use Rattle.stk_meaning.specs.Keys.{KeyInfo, load_key, address_info, number_info, is_loaded, load_keys, mention_keys, unary_keys, form_keys, unset_keys, declarator_keys, loop_keys, visit_keys}

-- the setting with other kept objects
abbrev pub with_kept : Setting → List ℕ → Setting
with_kept g ks = record { typing = g.typing; without = g.without; registers = g.registers; mentions = g.mentions; kept = ks }

-- the register that a place is
abbrev register_of : Target → Option ℕ
register_of (in_register i) = Some i
register_of (in_kept q) = None
register_of (in_object o) = None
register_of unnamed = None

module _ (g : Setting) (ks : List ℕ) where
  abbrev twin : Setting
  twin = with_kept g ks

  at_same : (k : ℕ) → register_of (target_at g k) ≡ register_of (target_at twin k)
  at_same k = by (is_among k g.registers) (position_behind 0 k g.kept) (position_behind 0 k ks)
    where
      by : (b : Bool) (p q : Option ℕ) → register_of (if b then in_register k else object_target k p) ≡ register_of (if b then in_register k else object_target k q)
      by true p q = refl
      by false None None = refl
      by false None (Some j) = refl
      by false (Some i) None = refl
      by false (Some i) (Some j) = refl

  no_member : (t : Target) → register_of (member_target t) ≡ None
  no_member (in_register i) = refl
  no_member (in_kept q) = refl
  no_member (in_object o) = refl
  no_member unnamed = refl

  mutual
    target_same : (e : ExprTree) → register_of (target_of g e) ≡ register_of (target_of twin e)
    target_same (s.expression n f) = form_same n.number f

    form_same : (k : ℕ) (f : ExprFormTree) → register_of (form_target g k f) ≡ register_of (form_target twin k f)
    form_same k (s.name at) = at_same (object_named g k at)
    form_same k (s.paren e) = target_same e
    form_same k (s.dot e at) = no_member (target_of g e) ∙ sym (no_member (target_of twin e))
    form_same k f = refl

  -- ---- loads and declarators

  abbrev loaded_by : TypeTree → Use → Option ℕ → Bool
  loaded_by t read None = is_scalar t
  loaded_by t read (Some i) = false
  loaded_by t accessed o = false
  loaded_by t taken o = false

  loaded_is : (t : TypeTree) (u : Use) (x : Target) → is_loaded t u x ≡ loaded_by t u (register_of x)
  loaded_is t read (in_register i) = refl
  loaded_is t read (in_kept q) = refl
  loaded_is t read (in_object o) = refl
  loaded_is t read unnamed = refl
  loaded_is t accessed x = refl
  loaded_is t taken x = refl

  load_same : (k : ℕ) (role : Role) (f : ExprFormTree) → load_keys g k role f ≡ load_keys twin k role f
  load_same k role f =
      let t = g.typing.type_at k in
      ap (λ b. if b then number_info g.typing (load_key k) t None ∷ [] else [])
      (loaded_is t role.use_of (form_target g k f) ∙ ap (loaded_by t role.use_of) (form_same k f) ∙ sym (loaded_is t role.use_of (form_target twin k f)))

  abbrev declared_by : ℕ → Option Span → MaybeInitTree → Option ℕ → List KeyInfo
  declared_by k at init None = address_info g.typing k at ∷ []
  declared_by k at init (Some i) = unset_keys g.typing k at init

  declared_is : (k : ℕ) (at : Option Span) (init : MaybeInitTree) (x : Target) → declarator_keys g k at init x ≡ declared_by k at init (register_of x)
  declared_is k at init (in_register i) = refl
  declared_is k at init (in_kept q) = refl
  declared_is k at init (in_object o) = refl
  declared_is k at init unnamed = refl

  declared_twin : (k : ℕ) (at : Option Span) (init : MaybeInitTree) (x : Target) → declarator_keys twin k at init x ≡ declared_by k at init (register_of x)
  declared_twin k at init (in_register i) = refl
  declared_twin k at init (in_kept q) = refl
  declared_twin k at init (in_object o) = refl
  declared_twin k at init unnamed = refl

  -- ---- what a loop changes of registers

  abbrev stored_by : Option ℕ → ℕ → Bool
  stored_by None j = false
  stored_by (Some i) j = i == j

  stored_is : (x : Target) (j : ℕ) → stored_in x (register_spot j) ≡ stored_by (register_of x) j
  stored_is (in_register i) j = refl
  stored_is (in_kept q) j = refl
  stored_is (in_object o) j = refl
  stored_is unnamed j = refl

  begun_is : (x : Target) (j : ℕ) → declarator_changes x (register_spot j) ≡ stored_by (register_of x) j
  begun_is (in_register i) j = refl
  begun_is (in_kept q) j = refl
  begun_is (in_object o) j = refl
  begun_is unnamed j = refl

  stored_same : (e : ExprTree) (j : ℕ) → stored_in (target_of g e) (register_spot j) ≡ stored_in (target_of twin e) (register_spot j)
  stored_same e j = stored_is (target_of g e) j ∙ ap (λ o. stored_by o j) (target_same e) ∙ sym (stored_is (target_of twin e) j)

  form_changes_same : (f : ExprFormTree) (j : ℕ) → form_changes g f (register_spot j) ≡ form_changes twin f (register_spot j)
  form_changes_same (s.step op e) j = stored_same e j
  form_changes_same (s.assign op a b) j = stored_same a j
  form_changes_same f j = refl

  visit_changes_same : (x : Visit) (j : ℕ) → visit_changes g x (register_spot j) ≡ visit_changes twin x (register_spot j)
  visit_changes_same (at_expression k role f) j = form_changes_same f j
  visit_changes_same (at_declarator k static at init) j =
      ap (λ b. b || (not static && initial_changes (g.typing.type_at k) init (register_spot j)))
      (begun_is (target_at g k) j ∙ ap (λ o. stored_by o j) (at_same k) ∙ sym (begun_is (target_at twin k) j))
  visit_changes_same (at_statement k arm f) j = refl
  visit_changes_same (at_section k ls) j = refl

  changes_same : (v : Visits) (j : ℕ) → changes g v (register_spot j) ≡ changes twin v (register_spot j)
  changes_same no_visit j = refl
  changes_same (one_visit x) j = visit_changes_same x j
  changes_same (both_visits a b) j = ap (λ z. z || changes g b (register_spot j)) (changes_same a j) ∙ ap (λ z. changes twin a (register_spot j) || z) (changes_same b j)
  changes_same (scope is a) j = ap (λ z. not (is_own is (register_spot j)) && z) (changes_same a j)
  changes_same (unevaluated a) j = refl

  assigned_same : (f : StmtFormTree) → assigned_in g f ≡ assigned_in twin f
  assigned_same f = ap (λ p. filter p g.registers) (fun_ext (λ j. changes_same (turn_visits g.typing f) j))

  -- ---- keys

  unary_same : (k : ℕ) (role : Role) (op : UnaryOp) (f : ExprFormTree) → unary_keys g k role op f ≡ unary_keys twin k role op f
  unary_same k role unary.Address f = refl
  unary_same k role unary.Deref f = load_same k role f
  unary_same k role unary.Plus f = refl
  unary_same k role unary.Minus f = refl
  unary_same k role unary.Flip f = refl
  unary_same k role unary.Not f = refl

  form_keys_same : (k : ℕ) (role : Role) (f : ExprFormTree) → form_keys g k role f ≡ form_keys twin k role f
  form_keys_same k role (s.name at) = ap (λ xs. if is_some (g.typing.number_at k) then [] else mention_keys g k at ++ xs) (load_same k role (s.name at))
  form_keys_same k role (s.index a b) = load_same k role (s.index a b)
  form_keys_same k role (s.dot e at) = load_same k role (s.dot e at)
  form_keys_same k role (s.arrow e at) = load_same k role (s.arrow e at)
  form_keys_same k role (s.unary op e) = unary_same k role op (s.unary op e)
  form_keys_same k role f = refl

  visit_keys_same : (x : Visit) → visit_keys g x ≡ visit_keys twin x
  visit_keys_same (at_expression k role f) = form_keys_same k role f
  visit_keys_same (at_declarator k static at init) = declared_is k at init (target_at g k) ∙ ap (declared_by k at init) (at_same k) ∙ sym (declared_twin k at init (target_at twin k))
  visit_keys_same (at_statement k arm f) = ap (loop_keys g k) (assigned_same f)
  visit_keys_same (at_section k ls) = refl

  pub keys_same : (v : Visits) → collected (visit_keys g) v ≡ collected (visit_keys twin) v
  keys_same v = ap (λ f. collected f v) (fun_ext visit_keys_same)
