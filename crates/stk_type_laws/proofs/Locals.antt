-- What typing gives of local declarations: their evaluated nodes, and the locals that they bring into force.
use Rattle.std.proofs.Common.{◌≡◌, ℕ, zero, suc, ◌+◌, Bool, true, false, not, ◌||◌, ◌&&◌, List, [], ◌∷◌, ◌++◌, length, Option, Some, None, refl, sym, ap, ◌∙◌, subst, inl, inr, arith}
use Rattle.std.specs.Prelude.{if◌then◌else◌, nat_le, pos}
use Rattle.stk_base.specs.declared.span.Span.{Span}
use Rattle.stk_base.specs.Text.{text_of}
use Rattle.stk_ctype.specs.Types.{TypeTree, void_type, integer_type, pointer_type, array_type, struct_type, function_type}
use Rattle.stk_ctype.specs.Structs.{Structs, size_of, size_limit, structs_of}
use Rattle.stk_tree.specs.declared.node.Node.{Node}
use Rattle.stk_tree.specs.declared.declaration.Storage.{Storage}
use Rattle.stk_tree.specs.Syntax.{DeclrTree, DeclrTrees, DeclarationTree, InitTree, MaybeInitTree, DimensionTrees}
use Rattle.stk_tree.specs.Syntax as s
use Rattle.stk_tree.specs.Nodes.{base_nodes, declarator_nodes, declarators_nodes, declaration_nodes, dimensions_nodes, initialiser_nodes, maybe_initialiser_nodes}
use Rattle.stk_tree.specs.Placed.{has_name, has_arrays, local_declarators, local_placed, local_storage, is_unbraced, base_placed, some_declarators, declarators_placed}
use Rattle.stk_tree.specs.Parts.{is_static}
use Rattle.stk_type_rules.specs.declared.facts.Constancy.TheVariants.{Number}
use Rattle.stk_type_rules.specs.Facts.{Fact, fact_at, Ruled, Breaks, Fits, declares}
use Rattle.stk_type_rules.specs.Outcome.{Good, and_then, finish}
use Rattle.stk_type_rules.specs.Types.{is_complete, is_scalar}
use Rattle.stk_typing.specs.declared.arrays.Size.{Size}
use Rattle.stk_typing.specs.declared.arrays.Size.TheVariants.{Open, Sized}
use Rattle.stk_typing.specs.Locals.{Local}
use Rattle.stk_typing.specs.Scope.{unevaluated}
use Rattle.stk_typing.specs.Arrays.{starred, counted, fitting, array_within, around, nested, has_open, declared_as, declared_type}
use Rattle.stk_typing.specs.Typing.{base_typed, dimensions_typed}
use Rattle.stk_typing.specs.declared.initialiser_leaves.Leaves.{Leaves}
use Rattle.stk_typing.specs.Leaves.{no_leaf}
use Rattle.stk_typing.specs.Fitting.{takes_braces, fits}
use Rattle.stk_declarators.specs.Counting.{given_count}
use Rattle.stk_declarators.specs.Tails.{counted_sizes, are_scalars}
use Rattle.stk_function_types.specs.Bodies.{Body, with_more, is_in_block}
use Rattle.stk_function_types.specs.Locals.{local_name, is_refused, is_untyped, own_type, is_local_register, plain_nodes, initial_scope, initial_typed, refused_initial, by_initial, initial_rule, complete_rule, local_rule, lacks_size, declared_rule, own_local, local_by, local_sized, local_declared, locals_declared, declaration_typed}
use Rattle.stk_meaning.specs.Typings.{Typing, is_array}
use Rattle.stk_meaning.specs.Visits.{at_declarator, Visits, both_visits, one_visit, tail_visits, initial_visits, declarator_visits, declarators_visits, declaration_visits}
use Rattle.stk_run_laws.specs.Visits.{EachVisit}
use Rattle.stk_run_laws.specs.TypedTree.{HasTypeOf, IsTypedDeclarator}
use Rattle.stk_type_laws.proofs.Stretches.{Counts, counts_then, counts_own, counts_given, counts_mapped, Stand, first_stands, rest_stands, last_stands, finished, steps, given, mapped}
use Rattle.stk_type_laws.proofs.TypedCounts.{base_count, dimensions_count}
use Rattle.stk_type_laws.specs.Orderly.{is_object_type}
use Rattle.stk_type_laws.proofs.Rulings.{passed, held, both_true, not_broken, same_fact, complete_object}
use Rattle.stk_type_laws.proofs.From.{initial_from, declarator_from, declarators_from, declaration_from}
use Rattle.stk_type_laws.proofs.Raw.{Part, part_left, part_right, Origin, local_origin, RawVisit}
use Rattle.stk_type_laws.proofs.Names.{World, typing, ground_of, in_force, IsDeclared, AreDeclared, declared_append}
use Rattle.stk_type_laws.proofs.Expressions.{dimensions_each}
use Rattle.stk_type_laws.proofs.Initialisers.{initialiser_count, initialiser_known}

-- ---- where a statement stands

-- the declarators whose names are operands of `&`, how many locals stand outside of the block at hand, what the
-- function returns, and whether there is something for `break` and for `continue` to leave
pub record Around : Type 0 where
  pub taken : List ℕ
  pub outer : ℕ
  pub returns : TypeTree
  pub can_break : Bool
  pub can_continue : Bool

abbrev pub body_in : World → List Local → Around → Body
body_in w ls a = record { scope = in_force w ls None; taken = a.taken; outer = a.outer; returns = a.returns; can_break = a.can_break; can_continue = a.can_continue }

-- ---- one fact for each node

plain_length : (m : ℕ) → length (plain_nodes m) ≡ m
plain_length zero = refl
plain_length (suc m) = ap suc (plain_length m)

initial_count : (b : Body) (static : Bool) (l : Local) (init : MaybeInitTree) → Counts (initial_typed b static l init) (maybe_initialiser_nodes init)
initial_count b static l s.no_initialiser = counts_given no_leaf [] 0 refl
initial_count b true l (s.some_initialiser i) = counts_given no_leaf (plain_nodes (initialiser_nodes i)) (initialiser_nodes i) (plain_length (initialiser_nodes i))
initial_count b false l (s.some_initialiser i) = initialiser_count i (initial_scope b false l)

sized_count : (b : Body) (static : Bool) (name : List ℕ) (k : ℕ) (whole : TypeTree) (init : MaybeInitTree) (sizes : List Size) → Counts (local_sized b static name k whole init sizes) (maybe_initialiser_nodes init + 1)
sized_count b static name k whole init sizes =
    let l = own_local (structs_of b.scope.entries) name k whole sizes in
    let rule : Leaves → Ruled = λ leaves. declared_rule b.scope.bytes (structs_of b.scope.entries) (is_in_block b name) static init whole sizes leaves in
    let untyped = is_untyped static (declared_type (structs_of b.scope.entries) sizes whole) in
    counts_then (initial_typed b untyped l init) (λ leaves. and_then (finish k (rule leaves)) (λ x. Good (local_by name k x) [])) (maybe_initialiser_nodes init) 1 (maybe_initialiser_nodes init + 1) refl
    (initial_count b untyped l init) (λ leaves. counts_mapped (λ x. local_by name k x) (counts_own k (rule leaves)))

local_count : (b : Body) (static : Bool) (t : TypeTree) (d : DeclrTree) → has_arrays d ≡ true → Counts (local_declared b static t d) (declarator_nodes d)
local_count b static t (s.declarator node count at (s.arrays ds) init) arrays =
    counts_then (dimensions_typed (unevaluated b.scope) ds) (λ sizes. local_sized b static (local_name b.scope.bytes at) node.number (starred count t) init sizes)
    (dimensions_nodes ds) (maybe_initialiser_nodes init + 1) (dimensions_nodes ds + maybe_initialiser_nodes init + 1) (omega arith)
    (dimensions_count ds (unevaluated b.scope)) (λ sizes. sized_count b static (local_name b.scope.bytes at) node.number (starred count t) init sizes)
local_count b static t (s.declarator node count at s.unspecified init) arrays = absurd cc
local_count b static t (s.declarator node count at s.void_parameters init) arrays = absurd cc
local_count b static t (s.declarator node count at (s.with_parameters ps more) init) arrays = absurd cc

-- in a local declaration each declarator has a name, and array parts alone
record Well (d : DeclrTree) (ds : DeclrTrees) : Type 0 where
  name : has_name d ≡ true
  arrays : has_arrays d ≡ true
  rest : local_declarators ds ≡ true

well_of : (d : DeclrTree) (ds : DeclrTrees) → local_declarators (s.then_declarator d ds) ≡ true → Well d ds
well_of d ds e =
    let a = both_true (has_name d && has_arrays d) (local_declarators ds) e in
    let b = both_true (has_name d) (has_arrays d) a.0 in
    record { name = b.0; arrays = b.1; rest = a.1 }

locals_count : (b : Body) (static : Bool) (t : TypeTree) (ds : DeclrTrees) → local_declarators ds ≡ true → Counts (locals_declared b static t ds) (declarators_nodes ds)
locals_count b static t s.no_declarators placed = counts_given [] [] 0 refl
locals_count b static t (s.then_declarator d ds) placed =
    let well = well_of d ds placed in
    counts_then (local_declared b static t d) (λ l. and_then (locals_declared (with_more b l) static t ds) (λ ls. Good (l ++ ls) [])) (declarator_nodes d) (declarators_nodes ds) (declarator_nodes d + declarators_nodes ds) refl
    (local_count b static t d well.arrays) (λ l. counts_mapped (λ ls. l ++ ls) (locals_count (with_more b l) static t ds well.rest))

declarators_of : (word : Option Storage) (b : s.BaseTree) (ds : DeclrTrees) → local_placed (s.declaration word b ds) ≡ true → local_declarators ds ≡ true
declarators_of word b ds e =
    let a = both_true (local_storage word && is_unbraced b && base_placed b && some_declarators ds && local_declarators ds) (declarators_placed ds) e in
    (both_true (local_storage word && is_unbraced b && base_placed b && some_declarators ds) (local_declarators ds) a.0).1

pub declaration_count : (b : Body) (d : DeclarationTree) → local_placed d ≡ true → Counts (declaration_typed b d) (declaration_nodes d)
declaration_count b (s.declaration word specifiers ds) placed =
    counts_then (base_typed b.scope specifiers) (λ x. locals_declared b (is_static word) x.ty ds) (base_nodes specifiers) (declarators_nodes ds) (base_nodes specifiers + declarators_nodes ds) refl
    (base_count specifiers b.scope) (λ x. locals_count b (is_static word) x.ty ds (declarators_of word specifiers ds placed))

-- ---- what a local's rule tells

-- the initialiser of an automatic object holds no struct, and fits
abbrev IsInitial : Bool → MaybeInitTree → Leaves → TypeTree → Type 0
IsInitial static s.no_initialiser leaves t = Unit {0}
IsInitial true (s.some_initialiser i) leaves t = Unit {0}
IsInitial false (s.some_initialiser i) leaves t = (leaves.has_struct ≡ false) × (fits t i ≡ true)

record LocalFits (structs : Structs) (static : Bool) (init : MaybeInitTree) (leaves : Leaves) (made : Ruled) (x : Fact) : Type 0 where
  is : made ≡ Fits x
  complete : is_complete structs x.ty ≡ true
  initial : IsInitial static init leaves x.ty

record Begun (static : Bool) (init : MaybeInitTree) (leaves : Leaves) (y x : Fact) : Type 0 where
  same : y ≡ x
  initial : IsInitial static init leaves y.ty

unrefused_at : (t : TypeTree) (i : InitTree) (leaves : Leaves) (other struct fit : Bool) → leaves.has_struct ≡ struct → fits t i ≡ fit
    → if◌then◌else◌ {A = Option ℕ} other (Some 6) (if struct then Some 9 else (if fit then None else Some 16)) ≡ None → (leaves.has_struct ≡ false) × (fits t i ≡ true)
unrefused_at t i leaves true struct fit p q e = absurd cc
unrefused_at t i leaves false true fit p q e = absurd cc
unrefused_at t i leaves false false true p q e = (p, q)
unrefused_at t i leaves false false false p q e = absurd cc

by_initial_at : (o : Option ℕ) (y x : Fact) → by_initial o y ≡ Fits x → (o ≡ None) × (y ≡ x)
by_initial_at None y x e = (refl, same_fact y x e)
by_initial_at (Some rule) y x e = absurd (not_broken rule x e)

begun : (static : Bool) (init : MaybeInitTree) (leaves : Leaves) (y x : Fact) → initial_rule static init leaves y ≡ Fits x → Begun static init leaves y x
begun static s.no_initialiser leaves y x e = record { same = same_fact y x e; initial = tt }
begun true (s.some_initialiser i) leaves y x e = record { same = (by_initial_at (refused_initial true i leaves y.ty) y x e).1; initial = tt }
begun false (s.some_initialiser i) leaves y x e =
    let a = by_initial_at (refused_initial false i leaves y.ty) y x e in
    record { same = a.1; initial = unrefused_at y.ty i leaves leaves.has_other leaves.has_struct (fits y.ty i) refl refl a.0 }

complete_at : (structs : Structs) (static : Bool) (init : MaybeInitTree) (leaves : Leaves) (made : Ruled) (x : Fact) → complete_rule structs static init leaves made ≡ Fits x → LocalFits structs static init leaves made x
complete_at structs static init leaves (Breaks r) x e = absurd (not_broken r x e)
complete_at structs static init leaves (Fits y) x e =
    let h = held (is_complete structs y.ty) (initial_rule static init leaves y) 4 x e in
    let b = begun static init leaves y x h.rule in
    record {
      is = ap Fits b.same;
      complete = subst (λ (z : Fact). is_complete structs z.ty ≡ true) b.same h.test;
      initial = subst (λ (z : Fact). IsInitial static init leaves z.ty) b.same b.initial;
    }

local_at : (structs : Structs) (twice lacking static : Bool) (init : MaybeInitTree) (leaves : Leaves) (made : Ruled) (x : Fact) → local_rule structs twice lacking static init leaves made ≡ Fits x → LocalFits structs static init leaves made x
local_at structs twice lacking static init leaves made x e =
    let p = passed twice (if lacking then Breaks 4 else complete_rule structs static init leaves made) 3 x e in
    complete_at structs static init leaves made x (passed lacking (complete_rule structs static init leaves made) 4 x p.rule).rule

-- ---- a local in its own initialiser has the declared type, or is an array whose elements are counted

record OwnType (t u : TypeTree) : Type 0 where
  type : HasTypeOf t u
  object : is_object_type t ≡ true

own_as : (structs : Structs) (sizes : List Size) (whole : TypeTree) (x : Fact) → declared_type structs sizes whole ≡ Fits x → is_object_type x.ty ≡ true → OwnType (own_type (declared_type structs sizes whole)) x.ty
own_as structs sizes whole x e object =
    let same : own_type (declared_type structs sizes whole) ≡ x.ty = ap own_type e in
    record { type = inl same; object = subst (λ t. is_object_type t ≡ true) (sym same) object }

-- an array of counted elements
fitting_array : (o : Option ℕ) (t u : TypeTree) → fitting o t ≡ Some u → t ≡ u
fitting_array None t u e = absurd cc
fitting_array (Some n) t u e = by (nat_le n size_limit) e
  where
    by : (b : Bool) → (if b then Some t else None) ≡ Some u → t ≡ u
    by true e = cc
    by false e = absurd cc

array_counted : (structs : Structs) (c : Option ℕ) (t u : TypeTree) → array_within structs c t ≡ Some u → is_array u ≡ true
array_counted structs None t u e = absurd cc
array_counted structs (Some n) t u e = ap is_array (sym (fitting_array (size_of structs (array_type t (Some n))) (array_type t (Some n)) u e))

declared_some : (o : Option TypeTree) (x : Fact) → declared_as o ≡ Fits x → o ≡ Some x.ty
declared_some None x e = absurd (not_broken 5 x e)
declared_some (Some t) x e = ap (λ (z : Fact). Some z.ty) (same_fact (declares t) x e)

own_open : (structs : Structs) (n : ℕ) (lacks : Bool) (inner : Option TypeTree) (x : Fact) → (if lacks then Breaks 4 else declared_as (around structs (Sized (Number (pos n))) inner)) ≡ Fits x
    → OwnType (own_type (if lacks then Breaks 4 else declared_as (around structs Open inner))) x.ty
own_open structs n true inner x e = absurd (not_broken 4 x e)
own_open structs n false None x e = absurd (not_broken 5 x e)
own_open structs n false (Some t) x e = record { type = inr (array_counted structs (counted (pos n)) t x.ty (declared_some (array_within structs (counted (pos n)) t) x e)); object = refl }

own_counted : (structs : Structs) (c : Option ℕ) (sizes : List Size) (whole : TypeTree) (x : Fact) → declared_type structs (counted_sizes c sizes) whole ≡ Fits x → is_object_type x.ty ≡ true → OwnType (own_type (declared_type structs sizes whole)) x.ty
own_counted structs None sizes whole x e object = own_as structs sizes whole x e object
own_counted structs (Some n) [] whole x e object = own_as structs [] whole x e object
own_counted structs (Some n) (Sized c ∷ sizes) whole x e object = own_as structs (Sized c ∷ sizes) whole x e object
own_counted structs (Some n) (Open ∷ sizes) whole x e object = own_open structs n (has_open sizes || not (is_complete structs whole)) (nested structs sizes whole) x e

-- its array parts make a type also where nothing is counted, so its initialiser is typed
open_made : (n : ℕ) (structs : Structs) (lacks : Bool) (inner : Option TypeTree) (x : Fact) → (if lacks then Breaks 4 else declared_as (around structs (Sized (Number (pos n))) inner)) ≡ Fits x
    → is_refused (if lacks then Breaks 4 else declared_as (around structs Open inner)) ≡ false
open_made n structs true inner x e = absurd (not_broken 4 x e)
open_made n structs false None x e = absurd (not_broken 5 x e)
open_made n structs false (Some t) x e = refl

own_made : (structs : Structs) (c : Option ℕ) (sizes : List Size) (whole : TypeTree) (x : Fact) → declared_type structs (counted_sizes c sizes) whole ≡ Fits x → is_refused (declared_type structs sizes whole) ≡ false
own_made structs None sizes whole x e = ap is_refused e
own_made structs (Some n) [] whole x e = ap is_refused e
own_made structs (Some n) (Sized c ∷ sizes) whole x e = ap is_refused e
own_made structs (Some n) (Open ∷ sizes) whole x e = open_made n structs (has_open sizes || not (is_complete structs whole)) (nested structs sizes whole) x e

or_false : (b c : Bool) → c ≡ false → (b || c) ≡ b
or_false true c e = refl
or_false false c e = e

-- the initialiser of an accepted local isn't typed where it is `static` alone
pub typed_unless_static : (static : Bool) (made : Ruled) → is_refused made ≡ false → is_untyped static made ≡ static
typed_unless_static static made e = or_false static (is_refused made) e

pub accepted_made : (bytes : List ℕ) (structs : Structs) (twice static : Bool) (init : MaybeInitTree) (whole : TypeTree) (sizes : List Size) (leaves : Leaves) (x : Fact) → declared_rule bytes structs twice static init whole sizes leaves ≡ Fits x
    → is_refused (declared_type structs sizes whole) ≡ false
accepted_made bytes structs twice static init whole sizes leaves x e =
    let counts = given_count bytes (are_scalars sizes whole) init in
    let f = local_at structs twice (lacks_size counts sizes) static init leaves (declared_type structs (counted_sizes counts sizes) whole) x e in
    own_made structs counts sizes whole x f.is

-- ---- what is known of a local's declarator

-- the locals that it brings into force are declared, and its evaluated nodes are as they are asked
pub record LocalKnown (w : World) (v : Visits) (new : List Local) : Type 0 where
  pub declared : AreDeclared w new
  pub visits : EachVisit (RawVisit (ground_of w)) v

-- its initialiser
initial_known : (w : World) (static : Bool) (init : MaybeInitTree) (l : Local) (n : ℕ) (ls : List Local) (a : Around) (leaves : Leaves) (t : TypeTree) (ts : List Fact) → AreDeclared w ls → IsDeclared w l
    → initial_typed (body_in w ls a) static l init ≡ Good leaves ts → Stand w.facts n ts → initial_from n init → Part (initial_visits (typing w) static init) w.whole → IsInitial static init leaves t
    → EachVisit (RawVisit (ground_of w)) (initial_visits (typing w) static init)
initial_known w static s.no_initialiser l n ls a leaves t ts declared own eq stand from part initial = tt
initial_known w true (s.some_initialiser i) l n ls a leaves t ts declared own eq stand from part initial = tt
initial_known w false (s.some_initialiser i) l n ls a leaves t ts declared own eq stand from part initial =
    initialiser_known w i n (ls ++ l ∷ []) (if is_local_register (body_in w ls a) false l.node l.ty then Some l.node else None) leaves ts (declared_append w ls (l ∷ []) declared (own, tt)) eq stand from part initial.0

no_scalar : (t : TypeTree) → takes_braces t ≡ true → is_scalar t ≡ false
no_scalar void_type e = refl
no_scalar (integer_type k) e = absurd cc
no_scalar (pointer_type t) e = absurd cc
no_scalar (array_type t count) e = refl
no_scalar (struct_type id) e = refl
no_scalar (function_type f) e = refl

-- its own node
own_known : (ty : Typing) (k : ℕ) (static : Bool) (at : Span) (init : MaybeInitTree) (leaves : Leaves) (x : Fact) → ty.type_at k ≡ x.ty → IsInitial static init leaves x.ty → IsTypedDeclarator ty k static (Some at) init
own_known ty k true at init leaves x type initial = tt
own_known ty k false at s.no_initialiser leaves x type initial = (refl, tt)
own_known ty k false at (s.some_initialiser (s.plain e)) leaves x type initial = (refl, tt)
own_known ty k false at (s.some_initialiser (s.braces items comma)) leaves x type initial = (refl, subst (λ t. is_scalar t ≡ false) (sym type) (no_scalar x.ty initial.1))

-- a declarator behind its array parts, which stand before the position n
sized_known : (w : World) (static : Bool) (node : Node) (count : ℕ) (at : Span) (ds : DimensionTrees) (init : MaybeInitTree) (n : ℕ) (ls : List Local) (a : Around) (whole : TypeTree) (sizes : List Size) (new : List Local) (ts : List Fact)
    → AreDeclared w ls → local_sized (body_in w ls a) static (text_of w.bytes at) node.number whole init sizes ≡ Good new ts → Stand w.facts n ts → node.number ≡ n + maybe_initialiser_nodes init → initial_from n init
    → Part (declarator_visits (typing w) static (s.declarator node count (Some at) (s.arrays ds) init)) w.whole → LocalKnown w (declarator_visits (typing w) static (s.declarator node count (Some at) (s.arrays ds) init)) new
sized_known w static node count at ds init n ls a whole sizes new ts declared eq stand number from part =
    let b = body_in w ls a in
    let name = text_of w.bytes at in
    let structs = structs_of w.entries in
    let l = own_local structs name node.number whole sizes in
    let counts = given_count w.bytes (are_scalars sizes whole) init in
    let rule : Leaves → Ruled = λ leaves. declared_rule w.bytes structs (is_in_block b name) static init whole sizes leaves in
    let untyped = is_untyped static (declared_type structs sizes whole) in
    let o = steps (initial_typed b untyped l init) (λ leaves. and_then (finish node.number (rule leaves)) (λ x. Good (local_by name node.number x) [])) new ts eq in
    let m = mapped (finish node.number (rule o.value)) (λ x. local_by name node.number x) new o.rest o.then in
    let x = m.value in
    let own = finished node.number (rule o.value) x o.rest m.gives in
    let f = local_at structs (is_in_block b name) (lacks_size counts sizes) static init o.value (declared_type structs (counted_sizes counts sizes) whole) x own.rule in
    let stand_b = rest_stands w.facts n (maybe_initialiser_nodes init) ts o.first o.rest o.all ((initial_count b untyped l init).by o.value o.first o.gives) stand in
    let gives = subst (λ (z : Bool). initial_typed b z l init ≡ Good o.value o.first) (typed_unless_static static (declared_type structs sizes whole) (own_made structs counts sizes whole x f.is)) o.gives in
    let place : n + maybe_initialiser_nodes init ≡ n + maybe_initialiser_nodes init + 0 = omega arith in
    let here : fact_at w.facts node.number ≡ x = ap (fact_at w.facts) (number ∙ place) ∙ last_stands w.facts (n + maybe_initialiser_nodes init) 0 o.rest [] x own.all (ap length own.all) stand_b in
    let type : (typing w).type_at node.number ≡ x.ty = ap (λ (z : Fact). z.ty) here in
    let object : is_object_type x.ty ≡ true = complete_object structs x.ty f.complete in
    let rest = part_right (tail_visits (typing w) (s.arrays ds)) (both_visits (initial_visits (typing w) static init) (one_visit (at_declarator node.number static (Some at) init))) part in
    let origin : Origin (ground_of w) node.number = local_origin static at init (rest.by (at_declarator node.number static (Some at) init) (inr refl)) in
    let t = own_counted structs counts sizes whole x f.is object in
    let self : IsDeclared w l = record { type = subst (λ u. HasTypeOf l.ty u) (sym type) t.type; object = t.object; origin = origin } in
    let brought : IsDeclared w (record { name = name; node = node.number; ty = x.ty }) = record { type = inl (sym type); object = object; origin = origin } in
    record {
      declared = subst (AreDeclared w) m.is (brought, tt);
      visits = (
        dimensions_each (RawVisit (ground_of w)) (typing w) ds,
        (
          initial_known w static init l n ls a o.value x.ty o.first declared self gives (first_stands w.facts n ts o.first o.rest o.all stand) from (part_left (initial_visits (typing w) static init) (one_visit (at_declarator node.number static (Some at) init)) rest) f.initial,
          own_known (typing w) node.number static at init o.value x type f.initial,
        ),
      );
    }

local_known : (w : World) (d : DeclrTree) (static : Bool) (n : ℕ) (ls : List Local) (a : Around) (t : TypeTree) (new : List Local) (ts : List Fact) → has_name d ≡ true → has_arrays d ≡ true → AreDeclared w ls
    → local_declared (body_in w ls a) static t d ≡ Good new ts → Stand w.facts n ts → declarator_from n d → Part (declarator_visits (typing w) static d) w.whole → LocalKnown w (declarator_visits (typing w) static d) new
local_known w (s.declarator node count None tail init) static n ls a t new ts named arrays declared eq stand from part = absurd cc
local_known w (s.declarator node count (Some at) (s.arrays ds) init) static n ls a t new ts named arrays declared eq stand from part =
    let scope = unevaluated (in_force w ls None) in
    let o = steps (dimensions_typed scope ds) (λ sizes. local_sized (body_in w ls a) static (text_of w.bytes at) node.number (starred count t) init sizes) new ts eq in
    let stand_b = rest_stands w.facts n (dimensions_nodes ds) ts o.first o.rest o.all ((dimensions_count ds scope).by o.value o.first o.gives) stand in
    sized_known w static node count at ds init (n + dimensions_nodes ds) ls a (starred count t) o.value new o.rest declared o.then stand_b from.0 from.1 part
local_known w (s.declarator node count (Some at) s.unspecified init) static n ls a t new ts named arrays declared eq stand from part = absurd cc
local_known w (s.declarator node count (Some at) s.void_parameters init) static n ls a t new ts named arrays declared eq stand from part = absurd cc
local_known w (s.declarator node count (Some at) (s.with_parameters ps more) init) static n ls a t new ts named arrays declared eq stand from part = absurd cc

locals_known : (w : World) (ds : DeclrTrees) (static : Bool) (n : ℕ) (ls : List Local) (a : Around) (t : TypeTree) (new : List Local) (ts : List Fact) → local_declarators ds ≡ true → AreDeclared w ls
    → locals_declared (body_in w ls a) static t ds ≡ Good new ts → Stand w.facts n ts → declarators_from n ds → Part (declarators_visits (typing w) static ds) w.whole → LocalKnown w (declarators_visits (typing w) static ds) new
locals_known w s.no_declarators static n ls a t new ts placed declared eq stand from part = record { declared = subst (AreDeclared w) (given [] new [] ts eq).value tt; visits = tt }
locals_known w (s.then_declarator d ds) static n ls a t new ts placed declared eq stand from part =
    let b = body_in w ls a in
    let well = well_of d ds placed in
    let o = steps (local_declared b static t d) (λ l. and_then (locals_declared (with_more b l) static t ds) (λ more. Good (l ++ more) [])) new ts eq in
    let m = mapped (locals_declared (with_more b o.value) static t ds) (λ more. o.value ++ more) new o.rest o.then in
    let stand_b = rest_stands w.facts n (declarator_nodes d) ts o.first o.rest o.all ((local_count b static t d well.arrays).by o.value o.first o.gives) stand in
    let va = declarator_visits (typing w) static d in
    let vb = declarators_visits (typing w) static ds in
    let p = local_known w d static n ls a t o.value o.first well.name well.arrays declared o.gives (first_stands w.facts n ts o.first o.rest o.all stand) from.0 (part_left va vb part) in
    let q = locals_known w ds static (n + declarator_nodes d) (ls ++ o.value) a t m.value o.rest well.rest (declared_append w ls o.value declared p.declared) m.gives stand_b from.1 (part_right va vb part) in
    record { declared = subst (AreDeclared w) m.is (declared_append w o.value m.value p.declared q.declared); visits = (p.visits, q.visits) }

pub declaration_known : (w : World) (d : DeclarationTree) (n : ℕ) (ls : List Local) (a : Around) (new : List Local) (ts : List Fact) → local_placed d ≡ true → AreDeclared w ls
    → declaration_typed (body_in w ls a) d ≡ Good new ts → Stand w.facts n ts → declaration_from n d → Part (declaration_visits (typing w) d) w.whole → LocalKnown w (declaration_visits (typing w) d) new
declaration_known w (s.declaration word specifiers ds) n ls a new ts placed declared eq stand from part =
    let b = body_in w ls a in
    let o = steps (base_typed (in_force w ls None) specifiers) (λ x. locals_declared b (is_static word) x.ty ds) new ts eq in
    let stand_b = rest_stands w.facts n (base_nodes specifiers) ts o.first o.rest o.all ((base_count specifiers (in_force w ls None)).by o.value o.first o.gives) stand in
    locals_known w ds (is_static word) (n + base_nodes specifiers) ls a o.value.ty new o.rest (declarators_of word specifiers ds placed) declared o.then stand_b from part
