-- The facts of the evaluated nodes of a local declaration are those of their rules.
use Rattle.std.proofs.Common.{◌≡◌, ℕ, zero, suc, ◌+◌, Bool, true, false, ◌&&◌, List, [], ◌∷◌, ◌++◌, length, Option, Some, None, refl, ap, subst, arith}
use Rattle.std.specs.Prelude.{if◌then◌else◌}
use Rattle.stk_ctype.specs.Types.{TypeTree}
use Rattle.stk_ctype.specs.Structs.{structs_of}
use Rattle.stk_tree.specs.declared.declaration.Storage.{Storage}
use Rattle.stk_tree.specs.Syntax.{DeclrTree, DeclrTrees, DeclarationTree, MaybeInitTree}
use Rattle.stk_tree.specs.Syntax as s
use Rattle.stk_tree.specs.Nodes.{base_nodes, declarator_nodes, dimensions_nodes, initialiser_nodes, maybe_initialiser_nodes}
use Rattle.stk_tree.specs.Placed.{has_name, has_arrays, local_declarators, local_placed, local_storage, is_unbraced, base_placed, some_declarators, declarators_placed}
use Rattle.stk_tree.specs.Parts.{is_static}
use Rattle.stk_type_rules.specs.Facts.{Fact, Ruled}
use Rattle.stk_type_rules.specs.Outcome.{Good, and_then, finish}
use Rattle.stk_typing.specs.declared.arrays.Size.{Size}
use Rattle.stk_typing.specs.Locals.{Local}
use Rattle.stk_typing.specs.Scope.{unevaluated}
use Rattle.stk_typing.specs.Arrays.{starred, declared_type}
use Rattle.stk_typing.specs.Typing.{base_typed, dimensions_typed}
use Rattle.stk_typing.specs.declared.initialiser_leaves.Leaves.{Leaves}
use Rattle.stk_typing.specs.Leaves.{no_leaf}
use Rattle.stk_function_types.specs.Bodies.{Body, with_more, is_in_block}
use Rattle.stk_function_types.specs.Locals.{local_name, is_local_register, plain_nodes, initial_scope, initial_typed, is_untyped, declared_rule, own_local, local_by, local_sized, local_declared, locals_declared, declaration_typed}
use Rattle.stk_meaning.specs.Visits.{initial_visits, declarator_visits, declarators_visits, declaration_visits}
use Rattle.stk_run_laws.specs.Visits.{EachVisit}
use Rattle.stk_type_laws.proofs.Stretches.{Counts, counts_then, counts_own, counts_given, counts_mapped, Stand, first_stands, rest_stands, steps, mapped, finished}
use Rattle.stk_type_laws.proofs.TypedCounts.{base_count, dimensions_count}
use Rattle.stk_type_laws.proofs.Rulings.{both_true}
use Rattle.stk_type_laws.proofs.From.{initial_from, declarator_from, declarators_from, declaration_from}
use Rattle.stk_type_laws.proofs.Expressions.{dimensions_each}
use Rattle.stk_type_laws.proofs.Initialisers.{initialiser_count}
use Rattle.stk_type_laws.proofs.Locals.{Around, accepted_made, typed_unless_static}
use Rattle.stk_type_laws.proofs.Ruled.{Ground, typing, in_force, body_in, RuledVisit}
use Rattle.stk_type_laws.proofs.RuledInitialisers.{initialiser_ruled}

-- ---- one fact for each node

plain_length : (m : ℕ) → length (plain_nodes m) ≡ m
plain_length zero = refl
plain_length (suc m) = ap suc (plain_length m)

initial_count : (b : Body) (static : Bool) (l : Local) (init : MaybeInitTree) → Counts (initial_typed b static l init) (maybe_initialiser_nodes init)
initial_count b static l s.no_initialiser = counts_given no_leaf [] 0 refl
initial_count b true l (s.some_initialiser i) = counts_given no_leaf (plain_nodes (initialiser_nodes i)) (initialiser_nodes i) (plain_length (initialiser_nodes i))
initial_count b false l (s.some_initialiser i) = initialiser_count i (initial_scope b false l)

sized_count : (b : Body) (static : Bool) (name : List ℕ) (k : ℕ) (whole : TypeTree) (init : MaybeInitTree) (sizes : List Size) → Counts (local_sized b static name k whole init sizes) (maybe_initialiser_nodes init + 1)
sized_count b static name k whole init sizes =
    let l = own_local (structs_of b.scope.entries) name k whole sizes in
    let rule : Leaves → Ruled = λ leaves. declared_rule b.scope.bytes (structs_of b.scope.entries) (is_in_block b name) static init whole sizes leaves in
    let untyped = is_untyped static (declared_type (structs_of b.scope.entries) sizes whole) in
    counts_then (initial_typed b untyped l init) (λ leaves. and_then (finish k (rule leaves)) (λ x. Good (local_by name k x) [])) (maybe_initialiser_nodes init) 1 (maybe_initialiser_nodes init + 1) refl
    (initial_count b untyped l init) (λ leaves. counts_mapped (λ x. local_by name k x) (counts_own k (rule leaves)))

local_count : (b : Body) (static : Bool) (t : TypeTree) (d : DeclrTree) → has_arrays d ≡ true → Counts (local_declared b static t d) (declarator_nodes d)
local_count b static t (s.declarator node count at (s.arrays ds) init) arrays =
    counts_then (dimensions_typed (unevaluated b.scope) ds) (λ sizes. local_sized b static (local_name b.scope.bytes at) node.number (starred count t) init sizes)
    (dimensions_nodes ds) (maybe_initialiser_nodes init + 1) (dimensions_nodes ds + maybe_initialiser_nodes init + 1) (omega arith)
    (dimensions_count ds (unevaluated b.scope)) (λ sizes. sized_count b static (local_name b.scope.bytes at) node.number (starred count t) init sizes)
local_count b static t (s.declarator node count at s.unspecified init) arrays = absurd cc
local_count b static t (s.declarator node count at s.void_parameters init) arrays = absurd cc
local_count b static t (s.declarator node count at (s.with_parameters ps more) init) arrays = absurd cc

-- in a local declaration each declarator has array parts alone
record Well (d : DeclrTree) (ds : DeclrTrees) : Type 0 where
  arrays : has_arrays d ≡ true
  rest : local_declarators ds ≡ true

well_of : (d : DeclrTree) (ds : DeclrTrees) → local_declarators (s.then_declarator d ds) ≡ true → Well d ds
well_of d ds e =
    let a = both_true (has_name d && has_arrays d) (local_declarators ds) e in
    let b = both_true (has_name d) (has_arrays d) a.0 in
    record { arrays = b.1; rest = a.1 }

declarators_of : (word : Option Storage) (b : s.BaseTree) (ds : DeclrTrees) → local_placed (s.declaration word b ds) ≡ true → local_declarators ds ≡ true
declarators_of word b ds e =
    let a = both_true (local_storage word && is_unbraced b && base_placed b && some_declarators ds && local_declarators ds) (declarators_placed ds) e in
    (both_true (local_storage word && is_unbraced b && base_placed b && some_declarators ds) (local_declarators ds) a.0).1

-- ---- evaluated nodes

initial_ruled : (c : Ground) (static : Bool) (init : MaybeInitTree) (l : Local) (n : ℕ) (ls : List Local) (a : Around) (leaves : Leaves) (ts : List Fact) → initial_typed (body_in c ls a) static l init ≡ Good leaves ts
    → Stand c.facts n ts → initial_from n init → EachVisit (RuledVisit c) (initial_visits (typing c) static init)
initial_ruled c static s.no_initialiser l n ls a leaves ts eq stand from = tt
initial_ruled c true (s.some_initialiser i) l n ls a leaves ts eq stand from = tt
initial_ruled c false (s.some_initialiser i) l n ls a leaves ts eq stand from =
    initialiser_ruled c i n (ls ++ l ∷ []) (if is_local_register (body_in c ls a) false l.node l.ty then Some l.node else None) leaves ts eq stand from

local_ruled : (c : Ground) (d : DeclrTree) (static : Bool) (n : ℕ) (ls : List Local) (a : Around) (t : TypeTree) (new : List Local) (ts : List Fact) → has_arrays d ≡ true
    → local_declared (body_in c ls a) static t d ≡ Good new ts → Stand c.facts n ts → declarator_from n d → EachVisit (RuledVisit c) (declarator_visits (typing c) static d)
local_ruled c (s.declarator node count at (s.arrays ds) init) static n ls a t new ts arrays eq stand from =
    let b = body_in c ls a in
    let scope = unevaluated (in_force c ls None) in
    let name = local_name c.bytes at in
    let structs = structs_of c.entries in
    let whole = starred count t in
    let o = steps (dimensions_typed scope ds) (λ sizes. local_sized b static name node.number whole init sizes) new ts eq in
    let stand_b = rest_stands c.facts n (dimensions_nodes ds) ts o.first o.rest o.all ((dimensions_count ds scope).by o.value o.first o.gives) stand in
    let l = own_local structs name node.number whole o.value in
    let rule : Leaves → Ruled = λ leaves. declared_rule c.bytes structs (is_in_block b name) static init whole o.value leaves in
    let makes = declared_type structs o.value whole in
    let p = steps (initial_typed b (is_untyped static makes) l init) (λ leaves. and_then (finish node.number (rule leaves)) (λ x. Good (local_by name node.number x) [])) new o.rest o.then in
    let m = mapped (finish node.number (rule p.value)) (λ x. local_by name node.number x) new p.rest p.then in
    let made = accepted_made c.bytes structs (is_in_block b name) static init whole o.value p.value m.value (finished node.number (rule p.value) m.value p.rest m.gives).rule in
    let gives = subst (λ (z : Bool). initial_typed b z l init ≡ Good p.value p.first) (typed_unless_static static makes made) p.gives in (
      dimensions_each (RuledVisit c) (typing c) ds,
      (initial_ruled c static init l (n + dimensions_nodes ds) ls a p.value p.first gives (first_stands c.facts (n + dimensions_nodes ds) o.rest p.first p.rest p.all stand_b) from.1, tt),
    )
local_ruled c (s.declarator node count at s.unspecified init) static n ls a t new ts arrays eq stand from = absurd cc
local_ruled c (s.declarator node count at s.void_parameters init) static n ls a t new ts arrays eq stand from = absurd cc
local_ruled c (s.declarator node count at (s.with_parameters ps more) init) static n ls a t new ts arrays eq stand from = absurd cc

locals_ruled : (c : Ground) (ds : DeclrTrees) (static : Bool) (n : ℕ) (ls : List Local) (a : Around) (t : TypeTree) (new : List Local) (ts : List Fact) → local_declarators ds ≡ true
    → locals_declared (body_in c ls a) static t ds ≡ Good new ts → Stand c.facts n ts → declarators_from n ds → EachVisit (RuledVisit c) (declarators_visits (typing c) static ds)
locals_ruled c s.no_declarators static n ls a t new ts placed eq stand from = tt
locals_ruled c (s.then_declarator d ds) static n ls a t new ts placed eq stand from =
    let b = body_in c ls a in
    let well = well_of d ds placed in
    let o = steps (local_declared b static t d) (λ l. and_then (locals_declared (with_more b l) static t ds) (λ more. Good (l ++ more) [])) new ts eq in
    let m = mapped (locals_declared (with_more b o.value) static t ds) (λ more. o.value ++ more) new o.rest o.then in
    let stand_b = rest_stands c.facts n (declarator_nodes d) ts o.first o.rest o.all ((local_count b static t d well.arrays).by o.value o.first o.gives) stand in (
      local_ruled c d static n ls a t o.value o.first well.arrays o.gives (first_stands c.facts n ts o.first o.rest o.all stand) from.0,
      locals_ruled c ds static (n + declarator_nodes d) (ls ++ o.value) a t m.value o.rest well.rest m.gives stand_b from.1,
    )

pub declaration_ruled : (c : Ground) (d : DeclarationTree) (n : ℕ) (ls : List Local) (a : Around) (new : List Local) (ts : List Fact) → local_placed d ≡ true
    → declaration_typed (body_in c ls a) d ≡ Good new ts → Stand c.facts n ts → declaration_from n d → EachVisit (RuledVisit c) (declaration_visits (typing c) d)
declaration_ruled c (s.declaration word specifiers ds) n ls a new ts placed eq stand from =
    let b = body_in c ls a in
    let o = steps (base_typed (in_force c ls None) specifiers) (λ x. locals_declared b (is_static word) x.ty ds) new ts eq in
    let stand_b = rest_stands c.facts n (base_nodes specifiers) ts o.first o.rest o.all ((base_count specifiers (in_force c ls None)).by o.value o.first o.gives) stand in
    locals_ruled c ds (is_static word) (n + base_nodes specifiers) ls a o.value.ty new o.rest (declarators_of word specifiers ds placed) o.then stand_b from
