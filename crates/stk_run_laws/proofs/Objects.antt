-- Memory objects have different nodes, so kept ones do.
use Rattle.std.proofs.Common.{◌≡◌, ℕ, zero, suc, ◌<◌, ◌==◌, ◌⊎◌, Bool, true, false, ◌||◌, List, [], ◌∷◌, ◌++◌, length, Option, Some, None, refl, sym, ap, ◌∙◌, subst, inl, inr, arith, get_or, take}
use Rattle.std.proofs.lemmas.Grind.{common_steps}
use Rattle.std.specs.Prelude.{if◌then◌else◌, filter, map}
use Rattle.std.specs.Option.{is_some}
use Rattle.stk_base.specs.declared.span.Span.{Span}
use Rattle.stk_ctype.specs.Types.{TypeTree}
use Rattle.stk_tree.specs.declared.expression.UnaryOp.{UnaryOp}
use Rattle.stk_tree.specs.declared.expression.UnaryOp.TheVariants as unary
use Rattle.stk_tree.specs.Syntax.{ExprTree, ExprFormTree, DeclrTree, MaybeInitTree}
use Rattle.stk_tree.specs.Syntax as s
use Rattle.stk_type_rules.specs.Types.{is_void}
use Rattle.stk_meaning.specs.Typings.{Typing, declarator_node, is_among}
use Rattle.stk_meaning.specs.Libraries.{Library, called_library, called_signature, result_in}
use Rattle.stk_meaning.specs.Places.{Setting, Target, in_register, in_kept, in_object, unnamed, target_at, form_target}
use Rattle.stk_meaning.specs.Visits.{Role, Visit, at_expression, at_declarator, at_statement, at_section, Visits, no_visit, one_visit, both_visits, scope, unevaluated, collected}
use Rattle.stk_meaning.specs.Changes.{assigned_in}
use Rattle.stk_meaning.specs.Keys.{load_key, call_key, address_info, number_info, is_loaded, load_keys, mention_keys, result_keys, unary_keys, form_keys, unset_keys, declarator_keys, loop_keys, visit_keys, parameter_info, memory_info}
use Rattle.stk_run_laws.specs.Visits.{visit_node, IsBelow, IsIn, Ascends, nodes_of}
use Rattle.stk_run_laws.proofs.Nodes.{in_left, in_right, in_either, ascends_left, ascends_right, ascends_apart}
use Rattle.stk_run_laws.proofs.KeyLists.{object_nodes, nodes_append}

-- ---- numbers that ascend

below_append : (k : ℕ) (a b : List ℕ) → IsBelow k a → IsBelow k b → IsBelow k (a ++ b)
below_append k [] b p q = q
below_append k (x ∷ a) b p q = (p.0, below_append k a b p.1 q)

below_all : (k : ℕ) (a : List ℕ) → ((j : ℕ) → IsIn j a → k < j) → IsBelow k a
below_all k [] h = tt
below_all k (x ∷ a) h = (h x (inl refl), below_all k a (λ j i. h j (inr i)))

below_at : (k j : ℕ) (a : List ℕ) → IsBelow k a → IsIn j a → k < j
below_at k j [] h i = absurd i
below_at k j (x ∷ a) h (inl e) = subst (λ z. k < z) (sym e) h.0
below_at k j (x ∷ a) h (inr i) = below_at k j a h.1 i

pub ascends_append : (a b : List ℕ) → Ascends a → Ascends b → ((i j : ℕ) → IsIn i a → IsIn j b → i < j) → Ascends (a ++ b)
ascends_append [] b p q h = q
ascends_append (x ∷ a) b p q h = (below_append x a b p.0 (below_all x b (λ j i. h x j (inl refl) i)), ascends_append a b p.1 q (λ i j m n. h i j (inr m) n))

-- those of some elements of a list
filter_below : {A : Type 0} (f : A → ℕ) (p : A → Bool) (k : ℕ) (xs : List A) → IsBelow k (map f xs) → IsBelow k (map f (filter p xs))
filter_below f p k [] h = tt
filter_below f p k (x ∷ xs) h = elim (p x) as (λ b. IsBelow k (map f (if b then x ∷ filter p xs else filter p xs))) [ true ↦ (h.0, filter_below f p k xs h.1) | false ↦ filter_below f p k xs h.1 ]

pub filter_ascends : {A : Type 0} (f : A → ℕ) (p : A → Bool) (xs : List A) → Ascends (map f xs) → Ascends (map f (filter p xs))
filter_ascends f p [] h = tt
filter_ascends f p (x ∷ xs) h = elim (p x) as (λ b. Ascends (map f (if b then x ∷ filter p xs else filter p xs))) [ true ↦ (filter_below f p (f x) xs h.0, filter_ascends f p xs h.1) | false ↦ filter_ascends f p xs h.1 ]

take_below : (n k : ℕ) (xs : List ℕ) → IsBelow k xs → IsBelow k (take n xs)
take_below zero k xs h = tt
take_below (suc n) k [] h = tt
take_below (suc n) k (x ∷ xs) h = (h.0, take_below n k xs h.1)

pub take_ascends : (n : ℕ) (xs : List ℕ) → Ascends xs → Ascends (take n xs)
take_ascends zero xs h = tt
take_ascends (suc n) [] h = tt
take_ascends (suc n) (x ∷ xs) h = (take_below n x xs h.0, take_ascends n xs h.1)

pub in_take : (n k : ℕ) (xs : List ℕ) → IsIn k (take n xs) → IsIn k xs
in_take zero k xs h = absurd h
in_take (suc n) k [] h = absurd h
in_take (suc n) k (x ∷ xs) (inl e) = inl e
in_take (suc n) k (x ∷ xs) (inr h) = inr (in_take n k xs h)

pub there_in : (xs : List ℕ) (q : ℕ) → q < length xs → IsIn (get_or xs q 0) xs
there_in [] q h = absurd (omega arith)
there_in (x ∷ xs) zero h = inl refl
there_in (x ∷ xs) (suc q) h = inr (there_in xs q (omega arith))

ascends_at : (xs : List ℕ) (q p : ℕ) → Ascends xs → q < p → p < length xs → get_or xs q 0 < get_or xs p 0
ascends_at [] q p h l m = absurd (omega arith)
ascends_at (x ∷ xs) zero zero h l m = absurd (omega arith)
ascends_at (x ∷ xs) zero (suc p) h l m = below_at x (get_or xs p 0) xs h.0 (there_in xs p (omega arith))
ascends_at (x ∷ xs) (suc q) zero h l m = absurd (omega arith)
ascends_at (x ∷ xs) (suc q) (suc p) h l m = ascends_at xs q p h.1 (omega arith) (omega arith)

pub ascends_apart_at : (xs : List ℕ) (q p : ℕ) → Ascends xs → q < length xs → p < length xs → get_or xs q 0 ≡ get_or xs p 0 → q ≡ p
ascends_apart_at xs q p h l m e = by (q == p) refl
  where
    by : (b : Bool) → q == p ≡ b → q ≡ p
    by true d = grind (arith, common_steps)
    by false d = absurd (order (q_cases q p (λ same. grind (arith, common_steps))))
      where
        q_cases : (q p : ℕ) → (q ≡ p → ⊥) → (q < p) ⊎ (p < q)
        q_cases zero zero h = absurd (h refl)
        q_cases zero (suc p) h = inl (omega arith)
        q_cases (suc q) zero h = inr (omega arith)
        q_cases (suc q) (suc p) h = elim (q_cases q p (λ e. h (ap suc e))) [ inl i ↦ inl (omega arith) | inr i ↦ inr (omega arith) ]

        order : (q < p) ⊎ (p < q) → ⊥
        order (inl i) = let a = ascends_at xs q p h i m in omega arith
        order (inr i) = let a = ascends_at xs p q h i l in omega arith

pub among_of : (k : ℕ) (xs : List ℕ) → IsIn k xs → is_among k xs ≡ true
among_of k [] h = absurd h
among_of k (x ∷ xs) (inl e) = let same : k == x ≡ true = grind (arith, common_steps) in ap (λ b. b || is_among k xs) same
among_of k (x ∷ xs) (inr h) = or_true (k == x) (is_among k xs) (among_of k xs h)
  where
    or_true : (a b : Bool) → b ≡ true → a || b ≡ true
    or_true true b h = refl
    or_true false b h = h

pub among_in : (k : ℕ) (xs : List ℕ) → is_among k xs ≡ true → IsIn k xs
among_in k [] h = absurd cc
among_in k (x ∷ xs) h = by (k == x) refl h (λ i. among_in k xs i)
  where
    by : (b : Bool) → k == x ≡ b → b || is_among k xs ≡ true → (is_among k xs ≡ true → IsIn k xs) → IsIn k (x ∷ xs)
    by true e h more = inl (grind (arith, common_steps))
    by false e h more = inr (more h)

-- ---- the objects of a visit have its node

abbrev AtMostOne : ℕ → List ℕ → Type 0
AtMostOne k ns = (ns ≡ []) ⊎ (ns ≡ k ∷ [])

module _ (g : Setting) where
  load_nodes : (k : ℕ) (role : Role) (f : ExprFormTree) → object_nodes g.typing (load_keys g k role f) ≡ []
  load_nodes k role f = by (is_loaded (g.typing.type_at k) role.use_of (form_target g k f))
    where
      by : (b : Bool) → object_nodes g.typing (if b then number_info g.typing (load_key k) (g.typing.type_at k) None ∷ [] else []) ≡ []
      by true = refl
      by false = refl

  mention_nodes : (k : ℕ) (at : Span) → AtMostOne k (object_nodes g.typing (mention_keys g k at))
  mention_nodes k at = by _
    where
      by : (b : Bool) → AtMostOne k (object_nodes g.typing (if b then address_info g.typing k (Some at) ∷ [] else []))
      by true = inr refl
      by false = inl refl

  name_nodes : (k : ℕ) (role : Role) (at : Span) (b : Bool) → AtMostOne k (object_nodes g.typing (if b then [] else mention_keys g k at ++ load_keys g k role (s.name at)))
  name_nodes k role at true = inl refl
  name_nodes k role at false =
      let whole : object_nodes g.typing (mention_keys g k at ++ load_keys g k role (s.name at)) ≡ object_nodes g.typing (mention_keys g k at) ++ [] = nodes_append g.typing (mention_keys g k at) (load_keys g k role (s.name at)) ∙ ap (λ z. object_nodes g.typing (mention_keys g k at) ++ z) (load_nodes k role (s.name at)) in
      elim (mention_nodes k at) [ inl e ↦ inl (whole ∙ ap (λ z. z ++ []) e) | inr e ↦ inr (whole ∙ ap (λ z. z ++ []) e) ]

  result_nodes : (k : ℕ) (t : TypeTree) (library : Option Library) → object_nodes g.typing (result_keys g.typing k t library) ≡ []
  result_nodes k t (Some x) = refl
  result_nodes k t None = by (is_void t)
    where
      by : (b : Bool) → object_nodes g.typing (if b then [] else number_info g.typing (call_key k) t None ∷ []) ≡ []
      by true = refl
      by false = refl

  unary_nodes : (k : ℕ) (role : Role) (op : UnaryOp) (f : ExprFormTree) → object_nodes g.typing (unary_keys g k role op f) ≡ []
  unary_nodes k role unary.Address f = refl
  unary_nodes k role unary.Deref f = load_nodes k role f
  unary_nodes k role unary.Plus f = refl
  unary_nodes k role unary.Minus f = refl
  unary_nodes k role unary.Flip f = refl
  unary_nodes k role unary.Not f = refl

  form_nodes : (k : ℕ) (role : Role) (f : ExprFormTree) → AtMostOne k (object_nodes g.typing (form_keys g k role f))
  form_nodes k role (s.name at) = name_nodes k role at (is_some (g.typing.number_at k))
  form_nodes k role (s.text parts) = inr refl
  form_nodes k role (s.index a b) = inl (load_nodes k role (s.index a b))
  form_nodes k role (s.call e es) = inl (result_nodes k (result_in (called_signature g.typing e)) (called_library g.typing e))
  form_nodes k role (s.dot e at) = inl (load_nodes k role (s.dot e at))
  form_nodes k role (s.arrow e at) = inl (load_nodes k role (s.arrow e at))
  form_nodes k role (s.unary op e) = inl (unary_nodes k role op (s.unary op e))
  form_nodes k role f = inl refl

  unset_nodes : (k : ℕ) (at : Option Span) (init : MaybeInitTree) → object_nodes g.typing (unset_keys g.typing k at init) ≡ []
  unset_nodes k at s.no_initialiser = refl
  unset_nodes k at (s.some_initialiser x) = refl

  declarator_nodes : (k : ℕ) (at : Option Span) (init : MaybeInitTree) (t : Target) → AtMostOne k (object_nodes g.typing (declarator_keys g k at init t))
  declarator_nodes k at init (in_register i) = inl (unset_nodes k at init)
  declarator_nodes k at init (in_kept q) = inr refl
  declarator_nodes k at init (in_object o) = inr refl
  declarator_nodes k at init unnamed = inr refl

  loop_nodes : (k : ℕ) (js : List ℕ) → object_nodes g.typing (loop_keys g k js) ≡ []
  loop_nodes k [] = refl
  loop_nodes k (j ∷ js) = loop_nodes k js

  visit_nodes : (x : Visit) → AtMostOne (visit_node x) (object_nodes g.typing (visit_keys g x))
  visit_nodes (at_expression k role f) = form_nodes k role f
  visit_nodes (at_declarator k static at init) = declarator_nodes k at init (target_at g k)
  visit_nodes (at_statement k arm f) = inl (loop_nodes k (assigned_in g f))
  visit_nodes (at_section k ls) = inl refl

  -- in the order of the visits
  pub record NodesWithin (v : Visits) (ns : List ℕ) : Type 0 where
    pub ascends : Ascends ns
    pub within : (k : ℕ) → IsIn k ns → IsIn k (nodes_of v)

  one_within : (x : Visit) (ns : List ℕ) → AtMostOne (visit_node x) ns → NodesWithin (one_visit x) ns
  one_within x ns (inl e) = subst (NodesWithin (one_visit x)) (sym e) (record { ascends = tt; within = λ k h. absurd h })
  one_within x ns (inr e) = subst (NodesWithin (one_visit x)) (sym e) (record { ascends = (tt, tt); within = λ k h. h })

  pub visited_nodes : (v : Visits) → Ascends (nodes_of v) → NodesWithin v (object_nodes g.typing (collected (visit_keys g) v))
  visited_nodes no_visit h = record { ascends = tt; within = λ k i. i }
  visited_nodes (one_visit x) h = one_within x _ (visit_nodes x)
  visited_nodes (both_visits a b) h =
      let p = visited_nodes a (ascends_left (nodes_of a) (nodes_of b) h) in
      let q = visited_nodes b (ascends_right (nodes_of a) (nodes_of b) h) in
      let m = object_nodes g.typing (collected (visit_keys g) a) in
      let n = object_nodes g.typing (collected (visit_keys g) b) in
      subst (NodesWithin (both_visits a b)) (sym (nodes_append g.typing (collected (visit_keys g) a) (collected (visit_keys g) b)))
      (record {
        ascends = ascends_append m n p.ascends q.ascends (λ i j s t. ascends_apart (nodes_of a) (nodes_of b) i j h (p.within i s) (q.within j t));
        within = λ k i. elim (in_either k m n i) [ inl j ↦ in_left k (nodes_of a) (nodes_of b) (p.within k j) | inr j ↦ in_right k (nodes_of a) (nodes_of b) (q.within k j) ];
      })
  visited_nodes (scope ks a) h = let p = visited_nodes a h in record { ascends = p.ascends; within = p.within }
  visited_nodes (unevaluated a) h = record { ascends = tt; within = λ k i. i }

-- ---- parameters

pub parameter_nodes : (ty : Typing) (ds : List DeclrTree) → object_nodes ty (map (parameter_info ty) ds) ≡ []
parameter_nodes ty [] = refl
parameter_nodes ty (s.declarator n count at tail init ∷ ds) = parameter_nodes ty ds

pub memory_nodes : (ty : Typing) (ds : List DeclrTree) → object_nodes ty (map (memory_info ty) ds) ≡ map declarator_node ds
memory_nodes ty [] = refl
memory_nodes ty (s.declarator n count at tail init ∷ ds) = ap (λ z. n.number ∷ z) (memory_nodes ty ds)
