-- What typing gives of the head of a function: one fact for each node, and its parameters in force.
use Rattle.std.proofs.Common.{◌≡◌, ℕ, ◌+◌, Bool, true, false, not, ◌&&◌, List, [], ◌∷◌, ◌++◌, length, Some, None, refl, sym, ap, ◌∙◌, subst, inl, inr, arith}
use Rattle.std.specs.Prelude.{if◌then◌else◌}
use Rattle.stk_ctype.specs.Types.{TypeTree, void_type, integer_type, pointer_type, array_type, struct_type, function_type}
use Rattle.stk_ctype.specs.Structs.{Structs}
use Rattle.stk_tree.specs.declared.node.Node.{Node}
use Rattle.stk_tree.specs.Syntax.{DeclrTree, TailTree, ParamTree, ParamTrees, BaseTree}
use Rattle.stk_tree.specs.Syntax as s
use Rattle.stk_tree.specs.Nodes.{base_nodes, declarator_nodes, tail_nodes, dimensions_nodes, parameter_nodes, parameters_nodes}
use Rattle.stk_tree.specs.Placed.{has_name, has_arrays, parameter_declarator, function_declarator, is_unbraced, base_placed, declarator_placed, tail_placed, some_parameters, lone_void, maybe_initialiser_placed, parameter_placed, parameters_placed}
use Rattle.stk_type_rules.specs.Facts.{Fact, fact_at, Ruled, Breaks, Fits, plain, declares}
use Rattle.stk_type_rules.specs.Outcome.{Good, and_then, finish}
use Rattle.stk_type_rules.specs.Types.{is_complete}
use Rattle.stk_typing.specs.declared.arrays.Size.{Size}
use Rattle.stk_typing.specs.Scope.{Scope, unevaluated}
use Rattle.stk_typing.specs.Arrays.{starred, declared_type}
use Rattle.stk_typing.specs.Forms.{structs_in}
use Rattle.stk_typing.specs.Typing.{base_typed, dimensions_typed}
use Rattle.stk_declarators.specs.Parameters.{Parameter, adjusted, adjusted_from, parameter_rule, is_taken, name_text, as_local, with_locals, declarator_given, parameter_type, parameter_typed, declared_by, parameter_of, parameters_typed, as_locals}
use Rattle.stk_declarators.specs.Tails.{TailShape, of_arrays, of_function, tail_typed, tail_type}
use Rattle.stk_declarators.specs.Rows.{locals_in}
use Rattle.stk_function_types.specs.Functions.{Headed, head_typed}
use Rattle.stk_meaning.specs.Typings.{Typing}
use Rattle.stk_meaning.specs.Visits.{Visit, tail_visits, parameters_visits, parameter_visits, head_visits}
use Rattle.stk_meaning.specs.Keys.{parameter_declarators, tail_parameters, head_parameters}
use Rattle.stk_run_laws.specs.Visits.{IsIn, EachVisit}
use Rattle.stk_type_laws.proofs.Stretches.{Counts, counts_then, counts_own, counts_given, counts_as, counts_one, counts_mapped, Stand, first_stands, rest_stands, last_stands, steps, given, one, mapped}
use Rattle.stk_type_laws.proofs.TypedCounts.{base_count, dimensions_count}
use Rattle.stk_type_laws.specs.Orderly.{is_object_type}
use Rattle.stk_type_laws.proofs.Rulings.{passed, both_true, not_broken, same_fact}
use Rattle.stk_type_laws.proofs.From.{declarator_from, parameters_from, tail_from, head_from}
use Rattle.stk_type_laws.proofs.Raw.{parameter_origin}
use Rattle.stk_type_laws.proofs.Names.{World, AreDeclared, declared_append}
use Rattle.stk_type_laws.proofs.Expressions.{dimensions_each}

-- ---- what isn't evaluated

mutual
  tail_each : (P : Visit → Type 0) (ty : Typing) (x : TailTree) → EachVisit P (tail_visits ty x)
  tail_each P ty (s.arrays ds) = dimensions_each P ty ds
  tail_each P ty s.unspecified = tt
  tail_each P ty s.void_parameters = tt
  tail_each P ty (s.with_parameters ps more) = parameters_each P ty ps

  parameters_each : (P : Visit → Type 0) (ty : Typing) (ps : ParamTrees) → EachVisit P (parameters_visits ty ps)
  parameters_each P ty s.no_parameters = tt
  parameters_each P ty (s.then_parameter p ps) = (parameter_each P ty p, parameters_each P ty ps)

  parameter_each : (P : Visit → Type 0) (ty : Typing) (p : ParamTree) → EachVisit P (parameter_visits ty p)
  parameter_each P ty (s.parameter n b d) = head_each P ty d

  pub head_each : (P : Visit → Type 0) (ty : Typing) (d : DeclrTree) → EachVisit P (head_visits ty d)
  head_each P ty (s.declarator n count at tail init) = tail_each P ty tail

-- ---- one fact for each node

given_count : (d : DeclrTree) (scope : Scope) (defines : Bool) (t : TypeTree) → parameter_declarator d ≡ true → Counts (declarator_given scope defines t d) (declarator_nodes d)
given_count (s.declarator k count at (s.arrays ds) s.no_initialiser) scope defines t placed =
    counts_as (omega arith) (counts_one k.number (λ (sizes : List Size). parameter_rule (structs_in scope) defines (is_taken scope.locals (name_text scope.bytes at)) sizes (starred count t)) (dimensions_count ds (unevaluated scope)))
given_count (s.declarator k count at (s.arrays ds) (s.some_initialiser i)) scope defines t placed = absurd cc
given_count (s.declarator k count at s.unspecified init) scope defines t placed = absurd cc
given_count (s.declarator k count at s.void_parameters init) scope defines t placed = absurd cc
given_count (s.declarator k count at (s.with_parameters ps more) init) scope defines t placed = absurd cc

parameter_well : (n : Node) (b : BaseTree) (d : DeclrTree) → parameter_placed (s.parameter n b d) ≡ true → parameter_declarator d ≡ true
parameter_well n b d e = (both_true (is_unbraced b && base_placed b) (parameter_declarator d) (both_true (is_unbraced b && base_placed b && parameter_declarator d) (declarator_placed d) e).0).1

type_count : (n : Node) (b : BaseTree) (d : DeclrTree) (scope : Scope) (defines : Bool) → parameter_declarator d ≡ true → Counts (parameter_type scope defines (s.parameter n b d)) (base_nodes b + declarator_nodes d)
type_count n b d scope defines well =
    counts_then (base_typed scope b) (λ x. declarator_given scope defines x.ty d) (base_nodes b) (declarator_nodes d) (base_nodes b + declarator_nodes d) refl (base_count b scope) (λ x. given_count d scope defines x.ty well)

parameter_count : (p : ParamTree) (scope : Scope) (defines : Bool) → parameter_placed p ≡ true → Counts (parameter_typed scope defines p) (parameter_nodes p)
parameter_count (s.parameter n b d) scope defines placed =
    counts_then (parameter_type scope defines (s.parameter n b d)) (λ y. Good y (plain ∷ [])) (base_nodes b + declarator_nodes d) 1 (base_nodes b + declarator_nodes d + 1) refl
    (type_count n b d scope defines (parameter_well n b d placed)) (λ y. counts_given y (plain ∷ []) 1 refl)

parameters_count : (ps : ParamTrees) (scope : Scope) (defines : Bool) → parameters_placed ps ≡ true → Counts (parameters_typed scope defines ps) (parameters_nodes ps)
parameters_count s.no_parameters scope defines placed = counts_given [] [] 0 refl
parameters_count (s.then_parameter p ps) scope defines placed =
    let w = both_true (parameter_placed p) (parameters_placed ps) placed in
    counts_then (parameter_typed scope defines p)
    (λ y. and_then (parameters_typed (with_locals scope (as_local (parameter_of scope.bytes y.ty p))) defines ps) (λ ls. Good (parameter_of scope.bytes y.ty p ∷ ls) []))
    (parameter_nodes p) (parameters_nodes ps) (parameter_nodes p + parameters_nodes ps) refl (parameter_count p scope defines w.0)
    (λ y. counts_mapped (λ ls. parameter_of scope.bytes y.ty p ∷ ls) (parameters_count ps (with_locals scope (as_local (parameter_of scope.bytes y.ty p))) defines w.1))

tail_count : (x : TailTree) (scope : Scope) (defines : Bool) → tail_placed x ≡ true → Counts (tail_typed scope defines x) (tail_nodes x)
tail_count (s.arrays ds) scope defines placed = counts_mapped of_arrays (dimensions_count ds (unevaluated scope))
tail_count s.unspecified scope defines placed = counts_given (of_function [] true) [] 0 refl
tail_count s.void_parameters scope defines placed = counts_given (of_function [] false) [] 0 refl
tail_count (s.with_parameters ps more) scope defines placed =
    counts_mapped (λ ls. of_function ls more) (parameters_count ps scope defines (both_true (some_parameters ps && not (lone_void ps more)) (parameters_placed ps) placed).1)

abbrev headed : ℕ → TypeTree → TailShape → Fact → Headed
headed count t shape x = record { returns = starred count t; locals = locals_in shape }

pub head_count : (d : DeclrTree) (scope : Scope) (t : TypeTree) → function_declarator d ≡ true → declarator_placed d ≡ true → Counts (head_typed scope t d) (declarator_nodes d)
head_count (s.declarator k count at tail s.no_initialiser) scope t head placed =
    counts_then (tail_typed scope true tail) (λ shape. and_then (finish k.number (tail_type (structs_in scope) true None (starred count t) shape)) (λ x. Good (headed count t shape x) [])) (tail_nodes tail) 1 (tail_nodes tail + 0 + 1) (omega arith)
    (tail_count tail scope true (both_true (tail_placed tail) true placed).0)
    (λ shape. counts_mapped (headed count t shape) (counts_own k.number (tail_type (structs_in scope) true None (starred count t) shape)))
head_count (s.declarator k count at tail (s.some_initialiser i)) scope t head placed = let f : false ≡ true = (both_true (has_name d && not (has_arrays d)) false head).1 in absurd cc
  where
    d : DeclrTree
    d = s.declarator k count at tail (s.some_initialiser i)

-- ---- the type of a parameter is one that an object has

adjusted_object : (structs : Structs) (defines : Bool) (t : TypeTree) (y : Fact) → adjusted structs defines t ≡ Fits y → is_object_type y.ty ≡ true
adjusted_object structs defines void_type y e = absurd (not_broken 4 y e)
adjusted_object structs defines (integer_type k) y e = ap (λ (z : Fact). is_object_type z.ty) (sym (same_fact (declares (integer_type k)) y e))
adjusted_object structs defines (pointer_type t) y e = ap (λ (z : Fact). is_object_type z.ty) (sym (same_fact (declares (pointer_type t)) y e))
adjusted_object structs defines (array_type t count) y e = ap (λ (z : Fact). is_object_type z.ty) (sym (same_fact (declares (pointer_type t)) y e))
adjusted_object structs defines (struct_type id) y e =
    let p = passed (defines && not (is_complete structs (struct_type id))) (Fits (declares (struct_type id))) 4 y e in
    ap (λ (z : Fact). is_object_type z.ty) (sym (same_fact (declares (struct_type id)) y p.rule))
adjusted_object structs defines (function_type f) y e = absurd (not_broken 4 y e)

adjusted_fits : (structs : Structs) (defines : Bool) (r : Ruled) (y : Fact) → adjusted_from structs defines r ≡ Fits y → is_object_type y.ty ≡ true
adjusted_fits structs defines (Breaks n) y e = absurd (not_broken n y e)
adjusted_fits structs defines (Fits x) y e = adjusted_object structs defines x.ty y e

parameter_fits : (structs : Structs) (defines twice : Bool) (sizes : List Size) (t : TypeTree) (y : Fact) → parameter_rule structs defines twice sizes t ≡ Fits y → is_object_type y.ty ≡ true
parameter_fits structs defines twice sizes t y e = adjusted_fits structs defines (declared_type structs sizes t) y (passed twice (adjusted_from structs defines (declared_type structs sizes t)) 3 y e).rule

-- ---- parameters in force

given_known : (w : World) (d : DeclrTree) (n : ℕ) (scope : Scope) (t : TypeTree) (y : Fact) (ts : List Fact) → parameter_declarator d ≡ true → declarator_given scope true t d ≡ Good y ts → Stand w.facts n ts → declarator_from n d → IsIn d w.params → AreDeclared w (as_local (declared_by scope.bytes y.ty d))
given_known w (s.declarator k count None tail init) n scope t y ts placed eq stand from among = tt
given_known w (s.declarator k count (Some at) (s.arrays ds) s.no_initialiser) n scope t y ts placed eq stand from among =
    let o = one (dimensions_typed (unevaluated scope) ds) (λ (sizes : List Size). parameter_rule (structs_in scope) true (is_taken scope.locals (name_text scope.bytes (Some at))) sizes (starred count t)) k.number y ts eq in
    let whole = (given_count (s.declarator k count (Some at) (s.arrays ds) s.no_initialiser) scope true t placed).by y ts eq in
    let here : fact_at w.facts k.number ≡ y = ap (fact_at w.facts) from.0 ∙ last_at w.facts n (dimensions_nodes ds) ts o.first y o.all whole stand in
    let object = parameter_fits (structs_in scope) true (is_taken scope.locals (name_text scope.bytes (Some at))) o.value (starred count t) y o.rule in
    (record { type = inl (sym (ap (λ (z : Fact). z.ty) here)); object = object; origin = parameter_origin k count at (s.arrays ds) s.no_initialiser refl among }, tt)
  where
    last_at : (all : List Fact) (m c : ℕ) (us before : List Fact) (z : Fact) → us ≡ before ++ z ∷ [] → length us ≡ c + 0 + 1 → Stand all m us → fact_at all (m + c + 0) ≡ z
    last_at all m c us before z is len st =
        let same : m + c + 0 ≡ m + c = omega arith in
        ap (fact_at all) same ∙ last_stands all m c us before z is (omega (arith, len)) st
given_known w (s.declarator k count (Some at) (s.arrays ds) (s.some_initialiser i)) n scope t y ts placed eq stand from among = absurd cc
given_known w (s.declarator k count (Some at) s.unspecified init) n scope t y ts placed eq stand from among = absurd cc
given_known w (s.declarator k count (Some at) s.void_parameters init) n scope t y ts placed eq stand from among = absurd cc
given_known w (s.declarator k count (Some at) (s.with_parameters ps more) init) n scope t y ts placed eq stand from among = absurd cc

parameters_known : (w : World) (ps : ParamTrees) (n : ℕ) (scope : Scope) (ls : List Parameter) (ts : List Fact) → parameters_placed ps ≡ true → parameters_typed scope true ps ≡ Good ls ts → Stand w.facts n ts → parameters_from n ps
    → ((d : DeclrTree) → IsIn d (parameter_declarators ps) → IsIn d w.params) → AreDeclared w (as_locals ls)
parameters_known w s.no_parameters n scope ls ts placed eq stand from among = subst (λ z. AreDeclared w (as_locals z)) (given [] ls [] ts eq).value tt
parameters_known w (s.then_parameter (s.parameter node b d) ps) n scope ls ts placed eq stand from among =
    let p = s.parameter node b d in
    let placed_both = both_true (parameter_placed p) (parameters_placed ps) placed in
    let well = parameter_well node b d placed_both.0 in
    let made = λ (y : Fact). declared_by scope.bytes y.ty d in
    let next = λ (y : Fact). with_locals scope (as_local (made y)) in
    let o = steps (parameter_typed scope true p) (λ y. and_then (parameters_typed (next y) true ps) (λ more. Good (made y ∷ more) [])) ls ts eq in
    let m = mapped (parameters_typed (next o.value) true ps) (λ more. made o.value ∷ more) ls o.rest o.then in
    let q = steps (parameter_type scope true p) (λ y. Good y (plain ∷ [])) o.value o.first o.gives in
    let g = given q.value o.value (plain ∷ []) q.rest q.then in
    let r = steps (base_typed scope b) (λ x. declarator_given scope true x.ty d) q.value q.first q.gives in
    let stand_p = first_stands w.facts n ts o.first o.rest o.all stand in
    let stand_q = first_stands w.facts n o.first q.first q.rest q.all stand_p in
    let stand_r = rest_stands w.facts n (base_nodes b) q.first r.first r.rest r.all ((base_count b scope).by r.value r.first r.gives) stand_q in
    let stand_b = rest_stands w.facts n (parameter_nodes p) ts o.first o.rest o.all ((parameter_count p scope true placed_both.0).by o.value o.first o.gives) stand in
    let one_known : AreDeclared w (as_local (made q.value)) = given_known w d (n + base_nodes b) scope r.value.ty q.value r.rest well r.then stand_r from.0 (among d (inl refl)) in
    let first_known : AreDeclared w (as_local (made o.value)) = subst (λ (z : Fact). AreDeclared w (as_local (made z))) g.value one_known in
    let rest_known = parameters_known w ps (n + parameter_nodes p) (next o.value) m.value o.rest placed_both.1 m.gives stand_b from.1 (λ e i. among e (inr i)) in
    subst (λ z. AreDeclared w (as_locals z)) m.is (declared_append w (as_local (made o.value)) (as_locals m.value) first_known rest_known)

tail_known : (w : World) (x : TailTree) (n : ℕ) (scope : Scope) (shape : TailShape) (ts : List Fact) → tail_placed x ≡ true → tail_typed scope true x ≡ Good shape ts → Stand w.facts n ts → tail_from n x
    → ((d : DeclrTree) → IsIn d (tail_parameters x) → IsIn d w.params) → AreDeclared w (locals_in shape)
tail_known w (s.arrays ds) n scope shape ts placed eq stand from among =
    let m = mapped (dimensions_typed (unevaluated scope) ds) of_arrays shape ts eq in
    subst (λ z. AreDeclared w (locals_in z)) m.is tt
tail_known w s.unspecified n scope shape ts placed eq stand from among = subst (λ z. AreDeclared w (locals_in z)) (given (of_function [] true) shape [] ts eq).value tt
tail_known w s.void_parameters n scope shape ts placed eq stand from among = subst (λ z. AreDeclared w (locals_in z)) (given (of_function [] false) shape [] ts eq).value tt
tail_known w (s.with_parameters ps more) n scope shape ts placed eq stand from among =
    let m = mapped (parameters_typed scope true ps) (λ ls. of_function ls more) shape ts eq in
    let known = parameters_known w ps n scope m.value ts (both_true (some_parameters ps && not (lone_void ps more)) (parameters_placed ps) placed).1 m.gives stand from among in
    subst (λ z. AreDeclared w (locals_in z)) m.is known

pub head_known : (w : World) (d : DeclrTree) (n : ℕ) (scope : Scope) (t : TypeTree) (h : Headed) (ts : List Fact) → declarator_placed d ≡ true → head_typed scope t d ≡ Good h ts → Stand w.facts n ts → head_from n d
    → ((e : DeclrTree) → IsIn e (head_parameters d) → IsIn e w.params) → AreDeclared w h.locals
head_known w (s.declarator k count at tail init) n scope t h ts placed eq stand from among =
    let o = steps (tail_typed scope true tail) (λ shape. and_then (finish k.number (tail_type (structs_in scope) true None (starred count t) shape)) (λ x. Good (headed count t shape x) [])) h ts eq in
    let m = mapped (finish k.number (tail_type (structs_in scope) true None (starred count t) o.value)) (headed count t o.value) h o.rest o.then in
    let known = tail_known w tail n scope o.value o.first (both_true (tail_placed tail) (maybe_initialiser_placed init) placed).0 o.gives (first_stands w.facts n ts o.first o.rest o.all stand) from among in
    subst (λ (z : Headed). AreDeclared w z.locals) m.is known
