-- In a function definition that typing accepts, numbers have the bits of their types.
use Rattle.std.proofs.Common.{◌≡◌, ℕ, ◌||◌, Bool, true, false, List, Option, Some, None, ℤ, refl, sym, ap, ◌∙◌, subst}
use Rattle.stk_ctype.specs.declared.symbol.NameEntry.{NameEntry}
use Rattle.stk_ctype.specs.Structs.{structs_of}
use Rattle.stk_ctype.specs.Types.{TypeTree}
use Rattle.stk_base.specs.declared.span.Span.{Span}
use Rattle.stk_tree.specs.declared.node.Node.{Node}
use Rattle.stk_tree.specs.Syntax.{MaybeExprTree, ExprFormTree, MaybeInitTree, StmtFormTree, FunctionTree, UnitTree}
use Rattle.stk_tree.specs.Syntax as s
use Rattle.stk_tree.specs.View.{view_unit}
use Rattle.stk_numbers.specs.declared.conditions.Kinds.{Kinds}
use Rattle.stk_type_rules.specs.Facts.{Fact, fact_at}
use Rattle.stk_type_rules.specs.Outcome.{Good}
use Rattle.stk_address_taken.specs.Statements.{function_taken}
use Rattle.stk_meaning.specs.Typings.{Typing, typing_of}
use Rattle.stk_meaning.specs.Places.{Setting, object_named}
use Rattle.stk_meaning.specs.Visits.{Use, read, accessed, taken, Role, Visit, at_expression, at_declarator, at_statement, at_section}
use Rattle.stk_meaning.specs.Keys.{Object, setting_of, objects_of, function_visits}
use Rattle.stk_function_types.specs.Units.{unit_taken, unit_typed, facts_in}
use Rattle.stk_run_laws.specs.Visits.{EachVisit}
use Rattle.stk_run_laws.specs.TypedTree.{IsReadWhole, IsTypedName, IsTypedForm, IsTypedDeclarator, IsTypedVisit}
use Rattle.stk_type_laws.proofs.Whole.{accepted_trees_are_typed}
use Rattle.stk_type_laws.proofs.Ruled.{Ground, typing, fact_of, RuledForm, RuledTest, RuledStatement, RuledVisit}
use Rattle.stk_type_laws.proofs.RuledFunctions.{laid_out_ruled}
use Rattle.stk_type_laws.proofs.KindedTrees.{each_both}
use Rattle.stk_type_laws.specs.Bits.{NameHasBits, FormHasBits, DeclaratorHasBits, TestHasBits, StatementHasBits, VisitHasBits}
use Rattle.stk_type_laws.specs.TreesHaveBits.{AcceptedTreesHaveBits, AcceptedUnitsHaveBits}
use Rattle.stk_type_laws.proofs.FormsHaveBits.{whole_has_bits, tested_has_bits, unary_has_bits, binary_has_bits, assigned_has_bits, choice_has_bits}

-- ---- a node has its bits

name_has_bits : (g : Setting) (objects : List Object) (k : ℕ) (role : Role) (o : ℕ) (u : Use) → role.use_of ≡ u → (z : Option ℤ) → IsTypedName g objects k role o z → NameHasBits g.typing k u z
name_has_bits g objects k role o read e None h = whole_has_bits (g.typing.type_at k) (subst (IsReadWhole (g.typing.type_at k)) e h.1)
name_has_bits g objects k role o read e (Some z) h = tt
name_has_bits g objects k role o accessed e z h = tt
name_has_bits g objects k role o taken e z h = tt

declarator_has_bits : (ty : Typing) (k : ℕ) (static : Bool) (at : Option Span) (init : MaybeInitTree) → IsTypedDeclarator ty k static at init → DeclaratorHasBits ty k static init
declarator_has_bits ty k true at init h = tt
declarator_has_bits ty k false at s.no_initialiser h = tt
declarator_has_bits ty k false at (s.some_initialiser (s.plain e)) h = tt
declarator_has_bits ty k false at (s.some_initialiser (s.braces items comma)) h = h.1

test_has_bits : (c : Ground) (e : MaybeExprTree) → RuledTest c.facts e → TestHasBits (typing c) e
test_has_bits c s.no_expression r = tt
test_has_bits c (s.some_expression e) r = tested_has_bits (fact_of c.facts e).ty r

statement_has_bits : (c : Ground) (f : StmtFormTree) → RuledStatement c.facts f → StatementHasBits (typing c) f
statement_has_bits c (s.block ps) r = tt
statement_has_bits c (s.expression_statement e) r = tt
statement_has_bits c (s.if_statement e x y) r = tested_has_bits (fact_of c.facts e).ty r
statement_has_bits c (s.switch_statement e ss) r = tt
statement_has_bits c (s.while_statement e x) r = tested_has_bits (fact_of c.facts e).ty r
statement_has_bits c (s.do_statement x e) r = tested_has_bits (fact_of c.facts e).ty r
statement_has_bits c (s.for_statement first test step x) r = test_has_bits c test r
statement_has_bits c s.break_statement r = tt
statement_has_bits c s.continue_statement r = tt
statement_has_bits c (s.return_statement e) r = tt

module _ (c : Ground) (without : Kinds) (f : FunctionTree) where
  form_has_bits : (k : ℕ) (role : Role) (x : ExprFormTree) → RuledForm (structs_of c.entries) c.facts k x → IsTypedForm (setting_of (typing c) without f) (objects_of (typing c) without f) k role x → FormHasBits (typing c) k role x
  form_has_bits k role (s.name at) r h = name_has_bits (setting_of (typing c) without f) (objects_of (typing c) without f) k role (object_named (setting_of (typing c) without f) k at) role.use_of refl ((typing c).number_at k) h
  form_has_bits k role (s.number at) r h = tt
  form_has_bits k role (s.character at) r h = tt
  form_has_bits k role (s.text parts) r h = tt
  form_has_bits k role (s.paren e) r h = tt
  form_has_bits k role (s.index a b) r h = tt
  form_has_bits k role (s.call e es) r h = tt
  form_has_bits k role (s.dot e at) r h = tt
  form_has_bits k role (s.arrow e at) r h = tt
  form_has_bits k role (s.step op e) r h = tt
  form_has_bits k role (s.unary op e) r h = unary_has_bits (typing c) (structs_of c.entries) (fact_of c.facts e) (fact_at c.facts k) k op e refl refl r
  form_has_bits k role (s.size_expression e) r h = tt
  form_has_bits k role (s.size_name t) r h = tt
  form_has_bits k role (s.cast t e) r h = tt
  form_has_bits k role (s.binary op a b) r h = binary_has_bits (typing c) (structs_of c.entries) (fact_of c.facts a) (fact_of c.facts b) (fact_at c.facts k) a b refl refl op r
  form_has_bits k role (s.choice x y z) r h = choice_has_bits (fact_of c.facts x) (fact_of c.facts y) (fact_of c.facts z) (fact_at c.facts k) r
  form_has_bits k role (s.assign op a b) r h = assigned_has_bits (typing c) (structs_of c.entries) (fact_of c.facts a) (fact_of c.facts b) (fact_at c.facts k) b refl op r

  visit_has_bits : (x : Visit) → RuledVisit c x → IsTypedVisit (setting_of (typing c) without f) (objects_of (typing c) without f) x → VisitHasBits (typing c) x
  visit_has_bits (at_expression k role x) r h = form_has_bits k role x r h
  visit_has_bits (at_declarator k static at init) r h = declarator_has_bits (typing c) k static at init h
  visit_has_bits (at_statement k arm x) r h = statement_has_bits c x r
  visit_has_bits (at_section k ls) r h = tt

  bits_from : EachVisit (RuledVisit c) (function_visits (typing c) f) → EachVisit (IsTypedVisit (setting_of (typing c) without f) (objects_of (typing c) without f)) (function_visits (typing c) f) → EachVisit (VisitHasBits (typing c)) (function_visits (typing c) f)
  bits_from ruled typed = each_both (RuledVisit c) (IsTypedVisit (setting_of (typing c) without f) (objects_of (typing c) without f)) (VisitHasBits (typing c)) (function_visits (typing c) f) visit_has_bits ruled typed

-- ---- the law

-- no kind of conditions is taken out
abbrev all_kinds : Kinds
all_kinds = record { overflow = false; zero = false; shift = false; null = false; pointer = false; bounds = false; abs = false; copy = false }

pub accepted_trees_have_bits : AcceptedTreesHaveBits
accepted_trees_have_bits bytes entries node f facts h =
    let c : Ground = record { bytes = bytes; entries = entries; taken = function_taken bytes f; facts = facts } in
    bits_from c all_kinds f (laid_out_ruled c h.spans h.unit node f h.result h.laid_out h.placed h.typed) (accepted_trees_are_typed bytes entries node f facts all_kinds h).visits

-- what is known of a function definition with these facts
abbrev HaveBits : List ℕ → List NameEntry → FunctionTree → List ℕ → List Fact → Type 0
HaveBits bytes entries f marked facts = EachVisit (VisitHasBits (typing_of bytes entries marked facts)) (function_visits (typing_of bytes entries marked facts) f)

-- what typing answers of a unit that is a function definition
unit_by : (bytes : List ℕ) (entries : List NameEntry) (node : Node) (f : FunctionTree) (v : UnitTree) → v ≡ s.defines node f → (result : Fact) (facts : List Fact) → unit_typed bytes entries v ≡ Good result facts
    → (unit_typed bytes entries (s.defines node f) ≡ Good result facts → HaveBits bytes entries f (function_taken bytes f) facts)
    → HaveBits bytes entries f (unit_taken bytes v) (facts_in (unit_typed bytes entries v))
unit_by bytes entries node f v is result facts typed law =
    let here : unit_typed bytes entries (s.defines node f) ≡ Good result facts = ap (unit_typed bytes entries) (sym is) ∙ typed in
    let same : facts ≡ facts_in (unit_typed bytes entries v) = sym (ap facts_in typed) in
    let marked : function_taken bytes f ≡ unit_taken bytes v = ap (unit_taken bytes) (sym is) in
    subst (λ z. HaveBits bytes entries f z (facts_in (unit_typed bytes entries v))) marked (subst (λ z. HaveBits bytes entries f (function_taken bytes f) z) same (law here))

pub accepted_units_have_bits : AcceptedUnitsHaveBits
accepted_units_have_bits t node f h =
    unit_by t.bytes t.entries node f (view_unit t.unit) h.function h.result h.facts h.typed
    (λ here. accepted_trees_have_bits t.bytes t.entries node f h.facts (record { names = h.names; spans = h.spans; unit = h.unit; laid_out = h.laid_out; placed = h.placed; result = h.result; typed = here }))
