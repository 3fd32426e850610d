-- The facts of the evaluated nodes of a function that typing accepts are those of their rules.
use Rattle.std.proofs.Common.{◌≡◌, ℕ, ◌+◌, true, false, ◌&&◌, List, [], ◌∷◌, refl, sym, subst}
use Rattle.std.specs.Prelude.{length}
use Rattle.stk_base.specs.declared.span.Span.{Span}
use Rattle.stk_tree.specs.declared.node.Node.{Node}
use Rattle.stk_tree.specs.Syntax.{BaseTree, DeclrTree, FunctionTree, UnitTree, StmtTree}
use Rattle.stk_tree.specs.Syntax as s
use Rattle.stk_tree.specs.Nodes.{base_nodes, declarator_nodes}
use Rattle.stk_tree.specs.Tokens.{storage_tokens}
use Rattle.stk_tree.specs.Layout.{node_at, base_width, declarator_width, laid_base, laid_declarator, laid_statement, laid_function, unit_laid_out}
use Rattle.stk_tree.specs.Placed.{is_unbraced, base_placed, function_declarator, declarator_placed, is_block, statement_placed, function_placed}
use Rattle.stk_type_rules.specs.Facts.{Fact, Fits, plain}
use Rattle.stk_type_rules.specs.Outcome.{Good, and_then, finish}
use Rattle.stk_typing.specs.Locals.{Local}
use Rattle.stk_typing.specs.Typing.{base_typed}
use Rattle.stk_function_types.specs.Statements.{parts_typed}
use Rattle.stk_function_types.specs.Functions.{head_typed, body_typed, body_of, storage_rule, outside, function_typed}
use Rattle.stk_meaning.specs.Visits.{statement_visits}
use Rattle.stk_meaning.specs.Keys.{function_visits}
use Rattle.stk_run_laws.specs.Visits.{EachVisit}
use Rattle.stk_type_laws.proofs.Stretches.{Stand, all_stand, first_stands, rest_stands, steps, one}
use Rattle.stk_type_laws.proofs.TypedCounts.{base_count}
use Rattle.stk_type_laws.proofs.Rulings.{both_true}
use Rattle.stk_type_laws.proofs.LaidNodes.{add, base_same, declarator_same}
use Rattle.stk_type_laws.proofs.From.{head_from, statement_from, head_laid, statement_laid}
use Rattle.stk_type_laws.proofs.Locals.{Around}
use Rattle.stk_type_laws.proofs.Parameters.{head_each, head_count}
use Rattle.stk_type_laws.proofs.Ruled.{Ground, typing, body_in, RuledVisit}
use Rattle.stk_type_laws.proofs.RuledStatements.{parts_ruled}

-- ---- numbering of a function

abbrev function_from : ℕ → FunctionTree → Type 0
function_from n (s.function word b d body) = head_from (n + base_nodes b) d × statement_from (n + base_nodes b + declarator_nodes d) body

function_laid : (spans : List Span) (f : FunctionTree) (n t : ℕ) → function_from n (laid_function (node_at spans) n t f)
function_laid spans (s.function word b d body) n t =
    let u = t + length (storage_tokens word) in
    let v = u + base_width b in
    let base : base_nodes (laid_base (node_at spans) n u b) ≡ base_nodes b = base_same (node_at spans) b n u in
    let head : declarator_nodes (laid_declarator (node_at spans) (n + base_nodes b) v d) ≡ declarator_nodes d = declarator_same (node_at spans) d (n + base_nodes b) v in (
      subst (λ z. head_from z (laid_declarator (node_at spans) (n + base_nodes b) v d)) (sym (add refl base)) (head_laid spans d (n + base_nodes b) v),
      subst (λ z. statement_from z (laid_statement (node_at spans) (n + base_nodes b + declarator_nodes d) (v + declarator_width d) body)) (sym (add (add refl base) head)) (statement_laid spans body (n + base_nodes b + declarator_nodes d) (v + declarator_width d)),
    )

laid_from : (spans : List Span) (unit : UnitTree) (node : Node) (f : FunctionTree) → unit_laid_out spans unit ≡ s.defines node f → function_from 0 f
laid_from spans (s.empty_unit k) node f e = absurd cc
laid_from spans (s.declares k d) node f e = absurd cc
laid_from spans (s.defines k g) node f e = let same : laid_function (node_at spans) 0 0 g ≡ f = cc in subst (function_from 0) same (function_laid spans g 0 0)

-- ---- the evaluated nodes of a function

body_ruled : (c : Ground) (x : StmtTree) (n : ℕ) (ls : List Local) (a : Around) (u : Fact) (ts : List Fact) → is_block x ≡ true → statement_placed x ≡ true → body_typed (body_in c ls a) x ≡ Good u ts
    → Stand c.facts n ts → statement_from n x → EachVisit (RuledVisit c) (statement_visits (typing c) false x)
body_ruled c (s.statement node (s.block ps)) n ls a u ts block placed eq stand from =
    let o = one (parts_typed (body_in c ls a) ps) (λ v. Fits plain) node.number u ts eq in
    (parts_ruled c ps n ls a o.value o.first placed o.gives (first_stands c.facts n ts o.first (u ∷ []) o.all stand) from, tt)
body_ruled c (s.statement node (s.expression_statement e)) n ls a u ts block placed eq stand from = absurd cc
body_ruled c (s.statement node (s.if_statement e x y)) n ls a u ts block placed eq stand from = absurd cc
body_ruled c (s.statement node (s.switch_statement e xs)) n ls a u ts block placed eq stand from = absurd cc
body_ruled c (s.statement node (s.while_statement e x)) n ls a u ts block placed eq stand from = absurd cc
body_ruled c (s.statement node (s.do_statement x e)) n ls a u ts block placed eq stand from = absurd cc
body_ruled c (s.statement node (s.for_statement first test step x)) n ls a u ts block placed eq stand from = absurd cc
body_ruled c (s.statement node s.break_statement) n ls a u ts block placed eq stand from = absurd cc
body_ruled c (s.statement node s.continue_statement) n ls a u ts block placed eq stand from = absurd cc
body_ruled c (s.statement node (s.return_statement e)) n ls a u ts block placed eq stand from = absurd cc

record FunctionWell (d : DeclrTree) (x : StmtTree) : Type 0 where
  head : function_declarator d ≡ true
  parts : declarator_placed d ≡ true
  block : is_block x ≡ true
  body : statement_placed x ≡ true

function_well : (b : BaseTree) (d : DeclrTree) (body : StmtTree) → (is_unbraced b && base_placed b && function_declarator d && declarator_placed d && is_block body && statement_placed body) ≡ true → FunctionWell d body
function_well b d body e =
    let p = both_true (is_unbraced b && base_placed b && function_declarator d && declarator_placed d && is_block body) (statement_placed body) e in
    let q = both_true (is_unbraced b && base_placed b && function_declarator d && declarator_placed d) (is_block body) p.0 in
    let r = both_true (is_unbraced b && base_placed b && function_declarator d) (declarator_placed d) q.0 in
    record { head = (both_true (is_unbraced b && base_placed b) (function_declarator d) r.0).1; parts = r.1; block = q.1; body = p.1 }

function_ruled : (c : Ground) (f : FunctionTree) (k : ℕ) (x : Fact) → function_placed f ≡ true → function_typed c.bytes c.entries c.taken k f ≡ Good x c.facts → function_from 0 f
    → EachVisit (RuledVisit c) (function_visits (typing c) f)
function_ruled c (s.function word b d body) k x placed eq from =
    let scope = outside c.bytes c.entries in
    let well = function_well b d body placed in
    let o = steps (base_typed scope b) (λ named. and_then (head_typed scope named.ty d) (λ h. and_then (body_typed (body_of scope c.taken h) body) (λ u. finish k (storage_rule word)))) x c.facts eq in
    let p = steps (head_typed scope o.value.ty d) (λ h. and_then (body_typed (body_of scope c.taken h) body) (λ u. finish k (storage_rule word))) x o.rest o.then in
    let q = one (body_typed (body_of scope c.taken p.value) body) (λ u. storage_rule word) k x p.rest p.then in
    let nd = 0 + base_nodes b in
    let nb = nd + declarator_nodes d in
    let stand_d = rest_stands c.facts 0 (base_nodes b) c.facts o.first o.rest o.all ((base_count b scope).by o.value o.first o.gives) (all_stand c.facts) in
    let stand_b = rest_stands c.facts nd (declarator_nodes d) o.rest p.first p.rest p.all ((head_count d scope o.value.ty well.head well.parts).by p.value p.first p.gives) stand_d in
    let around : Around = record { taken = c.taken; outer = 0; returns = p.value.returns; can_break = false; can_continue = false } in (
      head_each (RuledVisit c) (typing c) d,
      body_ruled c body nb p.value.locals around q.value q.first well.block well.body q.gives (first_stands c.facts nb p.rest q.first (x ∷ []) q.all stand_b) from.1,
    )

pub laid_out_ruled : (c : Ground) (spans : List Span) (unit : UnitTree) (node : Node) (f : FunctionTree) (x : Fact) → unit_laid_out spans unit ≡ s.defines node f → function_placed f ≡ true
    → function_typed c.bytes c.entries c.taken node.number f ≡ Good x c.facts → EachVisit (RuledVisit c) (function_visits (typing c) f)
laid_out_ruled c spans unit node f x laid placed eq = function_ruled c f node.number x placed eq (laid_from spans unit node f laid)
