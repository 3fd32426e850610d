-- A function definition that typing accepts has a typed tree.
use Rattle.std.proofs.Common.{◌≡◌, ℕ, ◌+◌, true, false, ◌&&◌, List, [], ◌∷◌, Some, refl, sym, ap, ◌∙◌, subst}
use Rattle.std.specs.Prelude.{length}
use Rattle.stk_base.specs.declared.span.Span.{Span}
use Rattle.stk_ctype.specs.declared.ctype.CType.{CType}
use Rattle.stk_ctype.specs.declared.symbol.Symbol.TheVariants as symbol
use Rattle.stk_ctype.specs.declared.symbol.NameEntry.{NameEntry}
use Rattle.stk_ctype.specs.Kinds.{bytes_of}
use Rattle.stk_ctype.specs.Types.{TypeTree, void_type, integer_type, pointer_type, array_type, struct_type, function_type, type_of}
use Rattle.stk_ctype.specs.Names.{find}
use Rattle.stk_tree.specs.declared.node.Node.{Node}
use Rattle.stk_tree.specs.Syntax.{FunctionTree, UnitTree, StmtTree}
use Rattle.stk_tree.specs.Syntax as s
use Rattle.stk_tree.specs.Nodes.{base_nodes, declarator_nodes}
use Rattle.stk_tree.specs.Tokens.{storage_tokens}
use Rattle.stk_tree.specs.Layout.{node_at, base_width, declarator_width, laid_base, laid_declarator, laid_statement, laid_function, unit_laid_out}
use Rattle.stk_tree.specs.Placed.{is_unbraced, base_placed, function_declarator, declarator_placed, is_block, statement_placed, function_placed}
use Rattle.stk_numbers.specs.declared.conditions.Kinds.{Kinds}
use Rattle.stk_type_rules.specs.Facts.{Fact, Fits, plain}
use Rattle.stk_type_rules.specs.Outcome.{Good, and_then, finish}
use Rattle.stk_type_rules.specs.Types.{is_scalar}
use Rattle.stk_typing.specs.Locals.{Local}
use Rattle.stk_typing.specs.Typing.{base_typed}
use Rattle.stk_function_types.specs.Statements.{parts_typed}
use Rattle.stk_function_types.specs.Functions.{head_typed, body_typed, body_of, storage_rule, outside, function_typed}
use Rattle.stk_address_taken.specs.Statements.{function_taken}
use Rattle.stk_meaning.specs.Typings.{typing_of, number_kind}
use Rattle.stk_meaning.specs.Visits.{at_statement, one_visit, parts_declare, parts_visits, statement_visits, statement_form_visits, head_visits}
use Rattle.stk_meaning.specs.Keys.{parameters_of, function_visits}
use Rattle.stk_run_laws.specs.Visits.{IsIn, EachVisit}
use Rattle.stk_run_laws.proofs.Numbered.{what_is_laid_out_is_numbered}
use Rattle.stk_tree.specs.View.{view_unit}
use Rattle.stk_function_types.specs.Units.{unit_taken, unit_typed, facts_in}
use Rattle.stk_run_laws.specs.TypedTree.{IsTypedTree}
use Rattle.stk_type_laws.specs.Orderly.{is_object_type, HaveObjectTypes}
use Rattle.stk_type_laws.proofs.Sorts.{HasEarlier}
use Rattle.stk_type_laws.proofs.Kept.{find_has}
use Rattle.stk_type_laws.specs.Accepted.{AcceptedTreesAreTyped, AcceptedUnitsAreTyped}
use Rattle.stk_type_laws.proofs.Stretches.{Stand, all_stand, first_stands, rest_stands, steps, one}
use Rattle.stk_type_laws.proofs.TypedCounts.{base_count}
use Rattle.stk_type_laws.proofs.Rulings.{both_true}
use Rattle.stk_type_laws.proofs.LaidNodes.{add, base_same, declarator_same}
use Rattle.stk_type_laws.proofs.From.{head_from, statement_from, head_laid, statement_laid}
use Rattle.stk_type_laws.proofs.Layouts.{member_lies}
use Rattle.stk_type_laws.proofs.Raw.{Part, part_all, part_left, part_right, part_scope, RawVisit}
use Rattle.stk_type_laws.proofs.Names.{World, typing, ground_of, AreDeclared}
use Rattle.stk_type_laws.proofs.Locals.{Around, body_in}
use Rattle.stk_type_laws.proofs.Bodies.{parts_known}
use Rattle.stk_type_laws.proofs.Parameters.{head_each, head_count, head_known}
use Rattle.stk_type_laws.proofs.Meanings.{visits_typed}

-- ---- numbering of a function

abbrev function_from : ℕ → FunctionTree → Type 0
function_from n (s.function word b d body) = head_from (n + base_nodes b) d × statement_from (n + base_nodes b + declarator_nodes d) body

function_laid : (spans : List Span) (f : FunctionTree) (n t : ℕ) → function_from n (laid_function (node_at spans) n t f)
function_laid spans (s.function word b d body) n t =
    let u = t + length (storage_tokens word) in
    let v = u + base_width b in
    let base : base_nodes (laid_base (node_at spans) n u b) ≡ base_nodes b = base_same (node_at spans) b n u in
    let head : declarator_nodes (laid_declarator (node_at spans) (n + base_nodes b) v d) ≡ declarator_nodes d = declarator_same (node_at spans) d (n + base_nodes b) v in (
      subst (λ z. head_from z (laid_declarator (node_at spans) (n + base_nodes b) v d)) (sym (add refl base)) (head_laid spans d (n + base_nodes b) v),
      subst (λ z. statement_from z (laid_statement (node_at spans) (n + base_nodes b + declarator_nodes d) (v + declarator_width d) body)) (sym (add (add refl base) head)) (statement_laid spans body (n + base_nodes b + declarator_nodes d) (v + declarator_width d)),
    )

-- ---- the evaluated nodes of a function

body_known : (w : World) (x : StmtTree) (n : ℕ) (ls : List Local) (a : Around) (u : Fact) (ts : List Fact) → is_block x ≡ true → statement_placed x ≡ true → AreDeclared w ls → body_typed (body_in w ls a) x ≡ Good u ts
    → Stand w.facts n ts → statement_from n x → Part (statement_visits (typing w) false x) w.whole → EachVisit (RawVisit (ground_of w)) (statement_visits (typing w) false x)
body_known w (s.statement node (s.block ps)) n ls a u ts block placed declared eq stand from part =
    let o = one (parts_typed (body_in w ls a) ps) (λ v. Fits plain) node.number u ts eq in
    let f = s.block ps in
    let inner = part_left (statement_form_visits (typing w) f) (one_visit (at_statement node.number false f)) part in
    (parts_known w ps n ls a o.value o.first placed declared o.gives (first_stands w.facts n ts o.first (u ∷ []) o.all stand) from (part_scope (parts_declare ps) (parts_visits (typing w) ps) inner), tt)
body_known w (s.statement node (s.expression_statement e)) n ls a u ts block placed declared eq stand from part = absurd cc
body_known w (s.statement node (s.if_statement e x y)) n ls a u ts block placed declared eq stand from part = absurd cc
body_known w (s.statement node (s.switch_statement e xs)) n ls a u ts block placed declared eq stand from part = absurd cc
body_known w (s.statement node (s.while_statement e x)) n ls a u ts block placed declared eq stand from part = absurd cc
body_known w (s.statement node (s.do_statement x e)) n ls a u ts block placed declared eq stand from part = absurd cc
body_known w (s.statement node (s.for_statement first test step x)) n ls a u ts block placed declared eq stand from part = absurd cc
body_known w (s.statement node s.break_statement) n ls a u ts block placed declared eq stand from part = absurd cc
body_known w (s.statement node s.continue_statement) n ls a u ts block placed declared eq stand from part = absurd cc
body_known w (s.statement node (s.return_statement e)) n ls a u ts block placed declared eq stand from part = absurd cc

record FunctionWell (d : s.DeclrTree) (x : StmtTree) : Type 0 where
  head : function_declarator d ≡ true
  parts : declarator_placed d ≡ true
  block : is_block x ≡ true
  body : statement_placed x ≡ true

function_well : (b : s.BaseTree) (d : s.DeclrTree) (body : StmtTree) → (is_unbraced b && base_placed b && function_declarator d && declarator_placed d && is_block body && statement_placed body) ≡ true → FunctionWell d body
function_well b d body e =
    let p = both_true (is_unbraced b && base_placed b && function_declarator d && declarator_placed d && is_block body) (statement_placed body) e in
    let q = both_true (is_unbraced b && base_placed b && function_declarator d && declarator_placed d) (is_block body) p.0 in
    let r = both_true (is_unbraced b && base_placed b && function_declarator d) (declarator_placed d) q.0 in
    record { head = (both_true (is_unbraced b && base_placed b) (function_declarator d) r.0).1; parts = r.1; block = q.1; body = p.1 }

function_known : (w : World) (f : FunctionTree) (k : ℕ) (x : Fact) → function_placed f ≡ true → function_typed w.bytes w.entries w.taken k f ≡ Good x w.facts → function_from 0 f
    → w.params ≡ parameters_of f → Part (function_visits (typing w) f) w.whole → EachVisit (RawVisit (ground_of w)) (function_visits (typing w) f)
function_known w (s.function word b d body) k x placed eq from params part =
    let scope = outside w.bytes w.entries in
    let well = function_well b d body placed in
    let o = steps (base_typed scope b) (λ named. and_then (head_typed scope named.ty d) (λ h. and_then (body_typed (body_of scope w.taken h) body) (λ u. finish k (storage_rule word)))) x w.facts eq in
    let p = steps (head_typed scope o.value.ty d) (λ h. and_then (body_typed (body_of scope w.taken h) body) (λ u. finish k (storage_rule word))) x o.rest o.then in
    let q = one (body_typed (body_of scope w.taken p.value) body) (λ u. storage_rule word) k x p.rest p.then in
    let stand = all_stand w.facts in
    let nd = 0 + base_nodes b in
    let nb = nd + declarator_nodes d in
    let stand_d = rest_stands w.facts 0 (base_nodes b) w.facts o.first o.rest o.all ((base_count b scope).by o.value o.first o.gives) stand in
    let stand_b = rest_stands w.facts nd (declarator_nodes d) o.rest p.first p.rest p.all ((head_count d scope o.value.ty well.head well.parts).by p.value p.first p.gives) stand_d in
    let declared = head_known w d nd scope o.value.ty p.value p.first well.parts p.gives (first_stands w.facts nd o.rest p.first p.rest p.all stand_d) from.0 (λ e i. subst (λ ds. IsIn e ds) (sym params) i) in
    let around : Around = record { taken = w.taken; outer = 0; returns = p.value.returns; can_break = false; can_continue = false } in (
      head_each (RawVisit (ground_of w)) (typing w) d,
      body_known w body nb p.value.locals around q.value q.first well.block well.body declared q.gives (first_stands w.facts nb p.rest q.first (x ∷ []) q.all stand_b) from.1 (part_right (head_visits (typing w) d) (statement_visits (typing w) false body) part),
    )

-- ---- the sizes of scalars

scalar_sizes : (bytes : List ℕ) (entries : List NameEntry) (taken : List ℕ) (facts : List Fact) (t : TypeTree) → is_scalar t ≡ true → (typing_of bytes entries taken facts).size_of t ≡ Some (bytes_of (number_kind t))
scalar_sizes bytes entries taken facts void_type e = absurd cc
scalar_sizes bytes entries taken facts (integer_type k) e = refl
scalar_sizes bytes entries taken facts (pointer_type t) e = refl
scalar_sizes bytes entries taken facts (array_type t count) e = absurd cc
scalar_sizes bytes entries taken facts (struct_type id) e = absurd cc
scalar_sizes bytes entries taken facts (function_type f) e = absurd cc

-- an object of file scope has a type of one
object_has : (name : List ℕ) (entries : List NameEntry) (t : CType) → HaveObjectTypes entries → find name entries ≡ Some (symbol.Object t) → is_object_type (type_of t) ≡ true
object_has name entries t h found = subst HasEarlier found (find_has name entries h)

-- ---- the law

laid_from : (spans : List Span) (unit : UnitTree) (node : Node) (f : FunctionTree) → unit_laid_out spans unit ≡ s.defines node f → function_from 0 f
laid_from spans (s.empty_unit k) node f e = absurd cc
laid_from spans (s.declares k d) node f e = absurd cc
laid_from spans (s.defines k g) node f e = let same : laid_function (node_at spans) 0 0 g ≡ f = cc in subst (function_from 0) same (function_laid spans g 0 0)

pub accepted_trees_are_typed : AcceptedTreesAreTyped
accepted_trees_are_typed bytes entries node f facts without h =
    let taken = function_taken bytes f in
    let ty = typing_of bytes entries taken facts in
    let w : World = record {
      bytes = bytes;
      entries = entries;
      taken = taken;
      facts = facts;
      params = parameters_of f;
      whole = function_visits ty f;
      members = member_lies entries h.names.structs;
      objects = λ name t found. object_has name entries t h.names.objects found;
    } in
    record {
      numbered = (what_is_laid_out_is_numbered ty h.spans h.unit node f h.laid_out).whole;
      visits = visits_typed ty without f entries (function_known w f node.number h.result h.placed h.typed (laid_from h.spans h.unit node f h.laid_out) refl (part_all (function_visits ty f)));
      sizes = scalar_sizes bytes entries taken facts;
    }

-- what typing answers of a unit that is a function definition
unit_by : (bytes : List ℕ) (entries : List NameEntry) (node : Node) (f : FunctionTree) (without : Kinds) (v : UnitTree) → v ≡ s.defines node f → (result : Fact) (facts : List Fact) → unit_typed bytes entries v ≡ Good result facts
    → (unit_typed bytes entries (s.defines node f) ≡ Good result facts → IsTypedTree (typing_of bytes entries (function_taken bytes f) facts) without f)
    → IsTypedTree (typing_of bytes entries (unit_taken bytes v) (facts_in (unit_typed bytes entries v))) without f
unit_by bytes entries node f without v is result facts typed law =
    let here : unit_typed bytes entries (s.defines node f) ≡ Good result facts = ap (unit_typed bytes entries) (sym is) ∙ typed in
    let same : facts ≡ facts_in (unit_typed bytes entries v) = sym (ap facts_in typed) in
    let taken : function_taken bytes f ≡ unit_taken bytes v = ap (unit_taken bytes) (sym is) in
    subst (λ z. IsTypedTree (typing_of bytes entries z (facts_in (unit_typed bytes entries v))) without f) taken
    (subst (λ z. IsTypedTree (typing_of bytes entries (function_taken bytes f) z) without f) same (law here))

pub accepted_units_are_typed : AcceptedUnitsAreTyped
accepted_units_are_typed t node f without h =
    unit_by t.bytes t.entries node f without (view_unit t.unit) h.function h.result h.facts h.typed
    (λ here. accepted_trees_are_typed t.bytes t.entries node f h.facts without (record { names = h.names; spans = h.spans; unit = h.unit; laid_out = h.laid_out; placed = h.placed; result = h.result; typed = here }))
