-- What a statement costs, beside what its nodes and its visits weigh.
use Rattle.std.proofs.Common.{◌≡◌, ℕ, ◌+◌, ◌*◌, ◌≤◌, Bool, true, false, refl, arith, length}
use Rattle.std.specs.Prelude.{if◌then◌else◌, max}
use Rattle.std.proofs.Math.Nat.{le-max_left}
use Rattle.stk_ctype.specs.Types.{TypeTree}
use Rattle.stk_tree.specs.Syntax.{ExprTree, MaybeExprTree, InitTree, MaybeInitTree, ItemTree, ItemTrees, DeclrTree, DeclrTrees, DeclarationTree, StartTree, LabelTree, LabelTrees, StmtTree, StmtTrees, MaybeStmtTree, StmtFormTree, PartTree, PartTrees, SectionTree, SectionTrees}
use Rattle.stk_tree.specs.Syntax as s
use Rattle.stk_tree.specs.Nodes.{expression_nodes, maybe_expression_nodes, initialiser_nodes, items_nodes, item_nodes, maybe_initialiser_nodes, declarator_nodes, declarators_nodes, declaration_nodes, start_nodes, statement_nodes, statement_form_nodes, maybe_statement_nodes, statements_nodes, parts_nodes, part_nodes, sections_nodes, section_nodes}
use Rattle.stk_tree.specs.Parts.{is_static}
use Rattle.stk_numbers.specs.Kinds.{width_of, promote}
use Rattle.stk_type_rules.specs.Types.{is_scalar}
use Rattle.stk_meaning.specs.Typings.{type_in, number_kind}
use Rattle.stk_meaning.specs.Places.{Setting, Target, in_register, in_kept, in_object, unnamed, target_at}
use Rattle.stk_meaning.specs.Visits.{reading, as_test, expression_visits, maybe_visits, initialiser_visits, items_visits, item_visits, initial_visits, declarator_visits, declarators_visits, declaration_visits, start_visits, statement_visits, statement_form_visits, maybe_statement_visits, statements_visits, parts_visits, part_visits, sections_visits, section_visits}
use Rattle.stk_meaning.specs.Weights.{bits_in, initial_weight, scalar_weight, store_weight, label_weight, labels_weight, test_weight, statement_weight, visits_weight}
use Rattle.stk_run_laws.specs.Visits.{EachVisit}
use Rattle.stk_values.specs.Charges.{convert_charge}
use Rattle.stk_spending.specs.Expressions.{kind_in, spent_test}
use Rattle.stk_spending.specs.Statements.{initialiser_spent, items_spent, item_spent, bare_spent, begun_charge, begun_spent, initial_spent, declarator_spent, declarators_spent, declaration_spent, start_spent, label_spent, labels_spent, case_spent, cases_spent, loop_test_spent, statement_spent, statement_form_spent, other_spent, statements_spent, parts_spent, part_spent, sections_spent, section_spent}
use Rattle.stk_type_laws.proofs.KeyWeights.{width_least, width_most}
use Rattle.stk_type_laws.proofs.Assigned.{assigned_few}
use Rattle.stk_type_laws.specs.Bits.{HasBits, InitialHasBits, TestHasBits, StatementHasBits, VisitHasBits}
use Rattle.stk_type_laws.proofs.CostNumbers.{convert_none, convert_most, promoted_free, no_scalar, scalar_bits}
use Rattle.stk_type_laws.proofs.CostExpressions.{value_within, maybe_within}

-- ---- declarations

mutual
  initialiser_within : (g : Setting) (x : InitTree) → EachVisit (VisitHasBits g.typing) (initialiser_visits g.typing x) → initialiser_spent g x ≤ 112 * initialiser_nodes x + visits_weight g true (initialiser_visits g.typing x)
  initialiser_within g (s.plain e) h = omega (arith, value_within g reading e refl h)
  initialiser_within g (s.braces items comma) h = items_within g items h

  items_within : (g : Setting) (xs : ItemTrees) → EachVisit (VisitHasBits g.typing) (items_visits g.typing xs) → items_spent g xs ≤ 112 * items_nodes xs + visits_weight g true (items_visits g.typing xs)
  items_within g s.no_items h = omega arith
  items_within g (s.then_item x xs) h = omega (arith, item_within g x h.0, items_within g xs h.1)

  item_within : (g : Setting) (x : ItemTree) → EachVisit (VisitHasBits g.typing) (item_visits g.typing x) → item_spent g x ≤ 112 * item_nodes x + visits_weight g true (item_visits g.typing x)
  item_within g (s.item path x) h = omega (arith, initialiser_within g x h.1)

bare_few : (t : Target) → bare_spent t ≤ 3
bare_few (in_register i) = omega arith
bare_few (in_kept q) = omega arith
bare_few (in_object o) = omega arith
bare_few unnamed = omega arith

-- an initialiser that is an expression: of a scalar it is converted and stored, and else what is kept is forgotten
begun_most : (kept : ℕ) (t : Target) (u : TypeTree) → is_scalar u ≡ true → begun_charge kept t (number_kind u) ≤ store_weight kept (bits_in u) t
begun_most kept (in_register i) u e = omega arith
begun_most kept (in_kept q) u e = omega (arith, scalar_bits u e, width_least (number_kind u))
begun_most kept (in_object o) u e = omega arith
begun_most kept unnamed u e = omega arith

bits_least : (u : TypeTree) → is_scalar u ≡ true → 1 ≤ bits_in u
bits_least u e = omega (arith, scalar_bits u e, width_least (number_kind u))

plain_by : (b : Bool) (c m st sw kept : ℕ) → c ≤ 256 → (b ≡ true → 1 ≤ m) → (b ≡ true → st ≤ sw) → (b ≡ false → c ≡ 0)
    → c + (if b then st else 3 * kept) ≤ 224 + (if b then 32 * m + sw else 16 * kept)
plain_by true c m st sw kept l p h q = let n = p refl in let o = h refl in omega (arith, l, n, o)
plain_by false c m st sw kept l p h q = let n = q refl in omega (arith, n)

braces_by : (b : Bool) (a kept : ℕ) → b ≡ false → 3 * kept ≤ (if b then a else 16 * kept)
braces_by true a kept e = absurd cc
braces_by false a kept e = omega arith

initial_within : (g : Setting) (k : ℕ) (init : MaybeInitTree) → EachVisit (VisitHasBits g.typing) (initial_visits g.typing false init) → InitialHasBits (g.typing.type_at k) init
    → initial_spent g k init ≤ 112 * (maybe_initialiser_nodes init + 1) + (visits_weight g true (initial_visits g.typing false init) + initial_weight g k (g.typing.type_at k) init)
initial_within g k s.no_initialiser h o = omega (arith, bare_few (target_at g k))
initial_within g k (s.some_initialiser (s.plain e)) h o =
    let t = g.typing.type_at k in
    let u = type_in g.typing e in
    let m = max (bits_in t) (bits_in u) in
    let c = convert_charge (number_kind u) (number_kind t) in
    let few : c ≤ 256 = omega (arith, convert_most (number_kind u) (number_kind t), width_most (number_kind u)) in
    let wide : is_scalar t ≡ true → 1 ≤ m = λ b. let n = bits_least t b in omega (arith, n, le-max_left (bits_in t) (bits_in u)) in
    let by = plain_by (is_scalar t) c m (begun_spent g k) (store_weight (length g.kept) (bits_in t) (target_at g k)) (length g.kept)
    few wide (λ b. begun_most (length g.kept) (target_at g k) t b) (λ b. convert_none (number_kind u) (number_kind t) (no_scalar t b)) in
    omega (arith, value_within g reading e refl h, by)
initial_within g k (s.some_initialiser (s.braces items comma)) h o =
    let t = g.typing.type_at k in
    omega (arith, items_within g items h, braces_by (is_scalar t) (scalar_weight g.typing t (s.braces items comma) + store_weight (length g.kept) (bits_in t) (target_at g k)) (length g.kept) o)

declarator_within : (g : Setting) (static : Bool) (d : DeclrTree) → EachVisit (VisitHasBits g.typing) (declarator_visits g.typing static d) → declarator_spent g static d ≤ 112 * declarator_nodes d + visits_weight g true (declarator_visits g.typing static d)
declarator_within g true d h = omega arith
declarator_within g false (s.declarator n count at tail init) h = omega (arith, initial_within g n.number init h.1.0 h.1.1)

declarators_within : (g : Setting) (static : Bool) (ds : DeclrTrees) → EachVisit (VisitHasBits g.typing) (declarators_visits g.typing static ds) → declarators_spent g static ds ≤ 112 * declarators_nodes ds + visits_weight g true (declarators_visits g.typing static ds)
declarators_within g static s.no_declarators h = omega arith
declarators_within g static (s.then_declarator d ds) h = omega (arith, declarator_within g static d h.0, declarators_within g static ds h.1)

declaration_within : (g : Setting) (d : DeclarationTree) → EachVisit (VisitHasBits g.typing) (declaration_visits g.typing d) → declaration_spent g d ≤ 112 * declaration_nodes d + visits_weight g true (declaration_visits g.typing d)
declaration_within g (s.declaration word specifiers ds) h = omega (arith, declarators_within g (is_static word) ds h)

start_within : (g : Setting) (x : StartTree) → EachVisit (VisitHasBits g.typing) (start_visits g.typing x) → start_spent g x ≤ 112 * start_nodes x + visits_weight g true (start_visits g.typing x)
start_within g (s.start_declaration d) h = declaration_within g d h
start_within g (s.start_expression e) h = maybe_within g reading e refl h

-- ---- labels and tests

label_within : (l : LabelTree) (w : ℕ) → w ≤ 64 → label_spent l w ≤ label_weight l
label_within s.default_label w h = omega arith
label_within (s.case_label e) w h = omega (arith, h)

labels_within : (ls : LabelTrees) (w : ℕ) → w ≤ 64 → labels_spent ls w ≤ labels_weight ls
labels_within s.no_labels w h = omega arith
labels_within (s.then_label l ls) w h = omega (arith, label_within l w h, labels_within ls w h)

-- a controlling expression, which has 112 to spare itself
test_within : (g : Setting) (e : ExprTree) → EachVisit (VisitHasBits g.typing) (expression_visits g.typing as_test e) → HasBits (type_in g.typing e)
    → spent_test g e + 106 ≤ 112 * expression_nodes e + visits_weight g true (expression_visits g.typing as_test e) + 32 * bits_in (type_in g.typing e)
test_within g e h o = omega (arith, value_within g as_test e refl h, o)

loop_test_within : (g : Setting) (e : MaybeExprTree) → EachVisit (VisitHasBits g.typing) (maybe_visits g.typing as_test e) → TestHasBits g.typing e
    → loop_test_spent g e ≤ 112 * maybe_expression_nodes e + visits_weight g true (maybe_visits g.typing as_test e) + test_weight g.typing e
loop_test_within g s.no_expression h o = omega arith
loop_test_within g (s.some_expression e) h o = omega (arith, test_within g e h o)

-- ---- statements

mutual
  pub statement_within : (g : Setting) (arm : Bool) (x : StmtTree) → EachVisit (VisitHasBits g.typing) (statement_visits g.typing arm x) → statement_spent g x ≤ 112 * statement_nodes x + visits_weight g true (statement_visits g.typing arm x)
  statement_within g arm (s.statement n f) h = statement_form_within g f h.0 h.1

  statement_form_within : (g : Setting) (f : StmtFormTree) → EachVisit (VisitHasBits g.typing) (statement_form_visits g.typing f) → StatementHasBits g.typing f
      → statement_form_spent g f ≤ 112 * (statement_form_nodes f + 1) + (visits_weight g true (statement_form_visits g.typing f) + statement_weight g f)
  statement_form_within g (s.block ps) h o = omega (arith, parts_within g ps h)
  statement_form_within g (s.expression_statement e) h o = omega (arith, maybe_within g reading e refl h)
  statement_form_within g (s.if_statement e x y) h o = omega (arith, test_within g e h.0 o, statement_within g true x h.1.0, other_within g y h.1.1)
  statement_form_within g (s.switch_statement e ss) h o =
      let k = kind_in g.typing e in
      omega (arith, value_within g reading e refl h.0, promoted_free k k, sections_within g (width_of (promote k)) ss (width_most (promote k)) h.1)
  statement_form_within g (s.while_statement e x) h o =
      omega (arith, test_within g e h.0 o, statement_within g true x h.1, assigned_few g (s.while_statement e x))
  statement_form_within g (s.do_statement x e) h o =
      omega (arith, test_within g e h.1 o, statement_within g true x h.0, assigned_few g (s.do_statement x e))
  statement_form_within g (s.for_statement first test step x) h o =
      omega (
        arith,
        start_within g first h.0,
        loop_test_within g test h.1.0 o,
        maybe_within g reading step refl h.1.1.0,
        statement_within g true x h.1.1.1,
        assigned_few g (s.for_statement first test step x),
      )
  statement_form_within g s.break_statement h o = omega arith
  statement_form_within g s.continue_statement h o = omega arith
  statement_form_within g (s.return_statement e) h o = omega (arith, maybe_within g reading e refl h)

  other_within : (g : Setting) (x : MaybeStmtTree) → EachVisit (VisitHasBits g.typing) (maybe_statement_visits g.typing x) → other_spent g x ≤ 112 * maybe_statement_nodes x + visits_weight g true (maybe_statement_visits g.typing x)
  other_within g s.no_statement h = omega arith
  other_within g (s.some_statement x) h = statement_within g true x h

  statements_within : (g : Setting) (xs : StmtTrees) → EachVisit (VisitHasBits g.typing) (statements_visits g.typing xs) → statements_spent g xs ≤ 112 * statements_nodes xs + visits_weight g true (statements_visits g.typing xs)
  statements_within g s.no_statements h = omega arith
  statements_within g (s.then_statement x xs) h = omega (arith, statement_within g false x h.0, statements_within g xs h.1)

  parts_within : (g : Setting) (ps : PartTrees) → EachVisit (VisitHasBits g.typing) (parts_visits g.typing ps) → parts_spent g ps ≤ 112 * parts_nodes ps + visits_weight g true (parts_visits g.typing ps)
  parts_within g s.no_parts h = omega arith
  parts_within g (s.then_part p ps) h = omega (arith, part_within g p h.0, parts_within g ps h.1)

  part_within : (g : Setting) (p : PartTree) → EachVisit (VisitHasBits g.typing) (part_visits g.typing p) → part_spent g p ≤ 112 * part_nodes p + visits_weight g true (part_visits g.typing p)
  part_within g (s.local d) h = declaration_within g d h
  part_within g (s.run x) h = statement_within g false x h

  sections_within : (g : Setting) (w : ℕ) (ss : SectionTrees) → w ≤ 64 → EachVisit (VisitHasBits g.typing) (sections_visits g.typing ss) → cases_spent ss w + sections_spent g ss ≤ 112 * sections_nodes ss + visits_weight g true (sections_visits g.typing ss)
  sections_within g w s.no_sections l h = omega arith
  sections_within g w (s.then_section x xs) l h = omega (arith, section_within g w x l h.0, sections_within g w xs l h.1)

  section_within : (g : Setting) (w : ℕ) (x : SectionTree) → w ≤ 64 → EachVisit (VisitHasBits g.typing) (section_visits g.typing x) → case_spent x w + (3 + section_spent g x) ≤ 112 * section_nodes x + visits_weight g true (section_visits g.typing x)
  section_within g w (s.section n ls body) l h = omega (arith, labels_within ls w l, statements_within g body h.1.0)
