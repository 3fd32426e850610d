-- A change that may be of an object beyond the kept ones may be of each.
use Rattle.std.proofs.Common.{ℕ, zero, suc, ◌≡◌, ◌∙◌, ◌<◌, ◌≤◌, ◌+◌, Bool, true, false, not, ◌==◌, ◌||◌, ◌&&◌, List, [], ◌∷◌, length, refl, sym, ap, subst, Option, Some, None, arith, eqb-true}
use Rattle.std.specs.Prelude.{if◌then◌else◌}
use Rattle.stk_tree.specs.Syntax.{ExprTree, ExprFormTree, MaybeInitTree}
use Rattle.stk_tree.specs.Syntax as s
use Rattle.stk_ctype.specs.Types.{TypeTree}
use Rattle.stk_type_rules.specs.Types.{is_scalar}
use Rattle.stk_meaning.specs.Typings.{is_among}
use Rattle.stk_meaning.specs.Libraries.{Library, absolute_in, copy_bytes, called_library}
use Rattle.stk_meaning.specs.Places.{Setting, Target, in_register, in_kept, in_object, unnamed, position_behind, object_target, object_named, target_at, member_target, target_of, form_target}
use Rattle.stk_meaning.specs.Visits.{Visit, at_expression, at_declarator, at_statement, at_section, Visits, no_visit, one_visit, both_visits, scope, unevaluated}
use Rattle.stk_meaning.specs.Changes.{kept_spot, stored_in, call_changes, form_changes, declarator_changes, initial_changes, visit_changes, changes}

-- the position of a kept object is below their number
abbrev IsWithin : ℕ → Target → Type 0
IsWithin n (in_register k) = Unit {0}
IsWithin n (in_kept p) = p < n
IsWithin n (in_object k) = Unit {0}
IsWithin n unnamed = Unit {0}

placed_within : (i k : ℕ) (ks : List ℕ) (n : ℕ) → i + length ks ≤ n → IsWithin n (object_target k (position_behind i k ks))
placed_within i k [] n h = tt
placed_within i k (j ∷ js) n h =
    let here : i < n = omega arith in
    let more : i + 1 + length js ≤ n = omega arith in
    by (k == j) here (placed_within (i + 1) k js n more)
  where
    by : (b : Bool) → i < n → IsWithin n (object_target k (position_behind (i + 1) k js)) → IsWithin n (object_target k (if b then Some i else position_behind (i + 1) k js))
    by true here rest = here
    by false here rest = rest

at_within : (g : Setting) (k : ℕ) → IsWithin (length g.kept) (target_at g k)
at_within g k = by (is_among k g.registers) (let le : 0 + length g.kept ≤ length g.kept = omega arith in placed_within 0 k g.kept (length g.kept) le)
  where
    by : (b : Bool) → IsWithin (length g.kept) (object_target k (position_behind 0 k g.kept)) → IsWithin (length g.kept) (if b then in_register k else object_target k (position_behind 0 k g.kept))
    by true h = tt
    by false h = h

member_within : (n : ℕ) (t : Target) → IsWithin n (member_target t)
member_within n (in_register k) = tt
member_within n (in_kept p) = tt
member_within n (in_object k) = tt
member_within n unnamed = tt

mutual
  target_within : (g : Setting) (e : ExprTree) → IsWithin (length g.kept) (target_of g e)
  target_within g (s.expression n f) = form_within g n.number f

  form_within : (g : Setting) (k : ℕ) (f : ExprFormTree) → IsWithin (length g.kept) (form_target g k f)
  form_within g k (s.name at) = at_within g (object_named g k at)
  form_within g k (s.number at) = tt
  form_within g k (s.character at) = tt
  form_within g k (s.text parts) = tt
  form_within g k (s.paren e) = target_within g e
  form_within g k (s.index a b) = tt
  form_within g k (s.call e es) = tt
  form_within g k (s.dot e at) = member_within (length g.kept) (target_of g e)
  form_within g k (s.arrow e at) = tt
  form_within g k (s.step op e) = tt
  form_within g k (s.unary op e) = tt
  form_within g k (s.size_expression e) = tt
  form_within g k (s.size_name t) = tt
  form_within g k (s.cast t e) = tt
  form_within g k (s.binary op a b) = tt
  form_within g k (s.choice a b c) = tt
  form_within g k (s.assign op a b) = tt

no_position : {A : Type 0} (i p n : ℕ) → i < n → n ≤ p → (i == p) ≡ true → A
no_position i p n h l e = let same : i ≡ p = eqb-true i p e in absurd (omega arith)

stored_far : (n : ℕ) (t : Target) (p q : ℕ) → IsWithin n t → n ≤ p → stored_in t (kept_spot p) ≡ true → stored_in t (kept_spot q) ≡ true
stored_far n (in_register k) p q h l e = cc
stored_far n (in_kept i) p q h l e = no_position i p n h l e
stored_far n (in_object k) p q h l e = cc
stored_far n unnamed p q h l e = refl

declared_far : (n : ℕ) (t : Target) (p q : ℕ) → IsWithin n t → n ≤ p → declarator_changes t (kept_spot p) ≡ true → declarator_changes t (kept_spot q) ≡ true
declared_far n (in_register k) p q h l e = cc
declared_far n (in_kept i) p q h l e = no_position i p n h l e
declared_far n (in_object k) p q h l e = cc
declared_far n unnamed p q h l e = cc

call_far : (l : Option Library) (p q : ℕ) → call_changes l (kept_spot p) ≡ true → call_changes l (kept_spot q) ≡ true
call_far None p q e = refl
call_far (Some (absolute_in k)) p q e = cc
call_far (Some copy_bytes) p q e = refl

form_far : (g : Setting) (f : ExprFormTree) (p q : ℕ) → length g.kept ≤ p → form_changes g f (kept_spot p) ≡ true → form_changes g f (kept_spot q) ≡ true
form_far g (s.name at) p q l e = cc
form_far g (s.number at) p q l e = cc
form_far g (s.character at) p q l e = cc
form_far g (s.text parts) p q l e = cc
form_far g (s.paren e1) p q l e = cc
form_far g (s.index a b) p q l e = cc
form_far g (s.call e1 es) p q l e = call_far (called_library g.typing e1) p q e
form_far g (s.dot e1 at) p q l e = cc
form_far g (s.arrow e1 at) p q l e = cc
form_far g (s.step op e1) p q l e = stored_far (length g.kept) (target_of g e1) p q (target_within g e1) l e
form_far g (s.unary op e1) p q l e = cc
form_far g (s.size_expression e1) p q l e = cc
form_far g (s.size_name t) p q l e = cc
form_far g (s.cast t e1) p q l e = cc
form_far g (s.binary op a b) p q l e = cc
form_far g (s.choice a b c) p q l e = cc
form_far g (s.assign op a b) p q l e = stored_far (length g.kept) (target_of g a) p q (target_within g a) l e

either : (a b c d : Bool) → (a ≡ true → c ≡ true) → (b ≡ true → d ≡ true) → (a || b) ≡ true → (c || d) ≡ true
either true b c d x y e = ap (λ v. v || d) (x refl)
either false b c d x y e = ap (λ v. c || v) (y e) ∙ always c
  where
    always : (v : Bool) → (v || true) ≡ true
    always true = refl
    always false = refl

initial_far : (t : TypeTree) (i : MaybeInitTree) (p q : ℕ) → initial_changes t i (kept_spot p) ≡ true → initial_changes t i (kept_spot q) ≡ true
initial_far t s.no_initialiser p q e = cc
initial_far t (s.some_initialiser i) p q e = e

behind_far : (b c d : Bool) → (c ≡ true → d ≡ true) → (b && c) ≡ true → (b && d) ≡ true
behind_far true c d x e = x e
behind_far false c d x e = e

visit_far : (g : Setting) (x : Visit) (p q : ℕ) → length g.kept ≤ p → visit_changes g x (kept_spot p) ≡ true → visit_changes g x (kept_spot q) ≡ true
visit_far g (at_expression k role f) p q l e = form_far g f p q l e
visit_far g (at_declarator k static at init) p q l e =
    either (declarator_changes (target_at g k) (kept_spot p)) (not static && initial_changes (g.typing.type_at k) init (kept_spot p)) (declarator_changes (target_at g k) (kept_spot q)) (not static && initial_changes (g.typing.type_at k) init (kept_spot q)) (declared_far (length g.kept) (target_at g k) p q (at_within g k) l) (behind_far (not static) (initial_changes (g.typing.type_at k) init (kept_spot p)) (initial_changes (g.typing.type_at k) init (kept_spot q)) (initial_far (g.typing.type_at k) init p q)) e
visit_far g (at_statement k arm f) p q l e = cc
visit_far g (at_section k ls) p q l e = cc

pub far_changes : (g : Setting) (v : Visits) (p q : ℕ) → length g.kept ≤ p → changes g v (kept_spot p) ≡ true → changes g v (kept_spot q) ≡ true
far_changes g no_visit p q l e = cc
far_changes g (one_visit x) p q l e = visit_far g x p q l e
far_changes g (both_visits a b) p q l e = either (changes g a (kept_spot p)) (changes g b (kept_spot p)) (changes g a (kept_spot q)) (changes g b (kept_spot q)) (far_changes g a p q l) (far_changes g b p q l) e
far_changes g (scope ks a) p q l e = far_changes g a p q l e
far_changes g (unevaluated a) p q l e = cc
