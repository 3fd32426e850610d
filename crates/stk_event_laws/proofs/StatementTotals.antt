-- The events of a statement are no more than what is listed of its visits, whichever they are counted.
use Rattle.std.proofs.Common.{ℕ, ◌+◌, ◌≤◌, Bool, true, false, List, ◌∷◌, ◌++◌, arith}
use Rattle.std.specs.Prelude.{map}
use Rattle.stk_numbers.specs.declared.conditions.CandKind.TheVariants.{Arm}
use Rattle.stk_tree.specs.Syntax.{ExprTree, MaybeExprTree, InitTree, MaybeInitTree, ItemTree, ItemTrees, DeclrTree, DeclrTrees, DeclarationTree, StartTree, StmtTree, StmtTrees, MaybeStmtTree, StmtFormTree, PartTree, PartTrees, SectionTree, SectionTrees}
use Rattle.stk_tree.specs.Syntax as s
use Rattle.stk_tree.specs.Parts.{is_static}
use Rattle.stk_meaning.specs.Typings.{statement_node}
use Rattle.stk_meaning.specs.Places.{Setting}
use Rattle.stk_meaning.specs.Visits.{Visits, reading, as_test, expression_visits, maybe_visits, initialiser_visits, items_visits, item_visits, designators_visits, tail_visits, declarator_visits, declarators_visits, declaration_visits, start_visits, labels_visits, statement_visits, statement_form_visits, maybe_statement_visits, statements_visits, parts_visits, part_visits, sections_visits, section_visits}
use Rattle.stk_meaning.specs.Lists.{arm_candidates}
use Rattle.stk_run_laws.specs.Visits.{EachVisit}
use Rattle.stk_run_laws.specs.TypedOperands.{VisitHasScalarOperand}
use Rattle.stk_walking.specs.declared.state.Event.{Event}
use Rattle.stk_walking.specs.declared.state.Event.TheVariants.{Hit}
use Rattle.stk_walking.specs.Events.{hit}
use Rattle.stk_walking.specs.ExpressionEvents.{value_events, tested_events, expression_events}
use Rattle.stk_walking.specs.StatementEvents.{discarded_events, maybe_tested_events, items_events, item_events, initialiser_events, declarator_events, declarators_events, declaration_events, start_events, statement_events, statement_form_events, otherwise_events, statements_events, parts_events, part_events, sections_events, section_events}
use Rattle.stk_event_laws.proofs.Totals.{total, joined, armed, arm_least, visits_total}
use Rattle.stk_event_laws.proofs.ExpressionTotals.{value_least, test_least, expression_counted}

module _ (g : Setting) (w : Event → ℕ) where
  -- what is asked of visits, and what is listed of them
  abbrev AreScalar : Visits → Type 0
  AreScalar v = EachVisit (VisitHasScalarOperand g.typing) v

  abbrev listed : Visits → ℕ
  listed v = visits_total g w v

  value : (e : ExprTree) → AreScalar (expression_visits g.typing reading e) → total w (value_events g e) ≤ listed (expression_visits g.typing reading e)
  value e h = value_least g w e (expression_events g e) (expression_counted g w e) h

  test : (e : ExprTree) → AreScalar (expression_visits g.typing as_test e) → total w (tested_events g e) ≤ listed (expression_visits g.typing as_test e)
  test e h = test_least g w e (expression_events g e) (expression_counted g w e) h

  discarded : (e : MaybeExprTree) → AreScalar (maybe_visits g.typing reading e) → total w (discarded_events g e) ≤ listed (maybe_visits g.typing reading e)
  discarded s.no_expression h = omega arith
  discarded (s.some_expression e) h = value e h

  maybe_test : (e : MaybeExprTree) → AreScalar (maybe_visits g.typing as_test e) → total w (maybe_tested_events g e) ≤ listed (maybe_visits g.typing as_test e)
  maybe_test s.no_expression h = omega arith
  maybe_test (s.some_expression e) h = test e h

  -- ---- declarations

  behind : (m n p : ℕ) → m ≤ n → m ≤ p + n
  behind m n p h = omega arith

  mutual
    initialiser : (x : InitTree) → AreScalar (initialiser_visits g.typing x) → total w (initialiser_events g x) ≤ listed (initialiser_visits g.typing x)
    initialiser (s.plain e) h = value e h
    initialiser (s.braces items comma) h = items_counted items h

    items_counted : (xs : ItemTrees) → AreScalar (items_visits g.typing xs) → total w (items_events g xs) ≤ listed (items_visits g.typing xs)
    items_counted s.no_items h = omega arith
    items_counted (s.then_item x xs) h = joined w (item_events g x) (items_events g xs) _ _ (item_counted x h.0) (items_counted xs h.1)

    item_counted : (x : ItemTree) → AreScalar (item_visits g.typing x) → total w (item_events g x) ≤ listed (item_visits g.typing x)
    item_counted (s.item path x) h = behind _ _ (listed (designators_visits g.typing path)) (initialiser x h.1)

  none_most : (n : ℕ) → 0 ≤ n
  none_most n = omega arith

  declared : (m n p : ℕ) → m ≤ n → m ≤ p + (n + 0)
  declared m n p h = omega arith

  declarator : (static : Bool) (d : DeclrTree) → AreScalar (declarator_visits g.typing static d) → total w (declarator_events g static d) ≤ listed (declarator_visits g.typing static d)
  declarator true (s.declarator n count at tail init) h = none_most _
  declarator false (s.declarator n count at tail s.no_initialiser) h = none_most _
  declarator false (s.declarator n count at tail (s.some_initialiser x)) h = declared _ _ (listed (tail_visits g.typing tail)) (initialiser x h.1.0)

  declarators : (static : Bool) (ds : DeclrTrees) → AreScalar (declarators_visits g.typing static ds) → total w (declarators_events g static ds) ≤ listed (declarators_visits g.typing static ds)
  declarators static s.no_declarators h = omega arith
  declarators static (s.then_declarator d ds) h = joined w (declarator_events g static d) (declarators_events g static ds) _ _ (declarator static d h.0) (declarators static ds h.1)

  declaration : (d : DeclarationTree) → AreScalar (declaration_visits g.typing d) → total w (declaration_events g d) ≤ listed (declaration_visits g.typing d)
  declaration (s.declaration word specifiers ds) h = declarators (is_static word) ds h

  start : (x : StartTree) → AreScalar (start_visits g.typing x) → total w (start_events g x) ≤ listed (start_visits g.typing x)
  start (s.start_declaration d) h = declaration d h
  start (s.start_expression e) h = discarded e h

  -- ---- statements

  behind_arm : (k : ℕ) (arm : Bool) (m n : ℕ) → m ≤ n → total w (armed arm k) + m ≤ n + (0 + total w (map (λ c. Hit c) (arm_candidates k arm)))
  behind_arm k arm m n h = let p = arm_least w k arm in omega (arith, h, p)

  -- a statement that is entered as a branch, and one that isn't
  branch : (x : StmtTree) → total w (armed true (statement_node x)) + total w (statement_events g x) ≤ listed (statement_visits g.typing true x) → total w (hit (statement_node x) Arm ∷ statement_events g x) ≤ listed (statement_visits g.typing true x)
  branch x h = omega (arith, h)

  alone : (x : StmtTree) → total w (armed false (statement_node x)) + total w (statement_events g x) ≤ listed (statement_visits g.typing false x) → total w (statement_events g x) ≤ listed (statement_visits g.typing false x)
  alone x h = omega (arith, h)

  -- in another order than the visits
  four : (a b c d : List Event) (x y z v : ℕ) → total w a ≤ x → total w b ≤ y → total w c ≤ z → total w d ≤ v → total w (a ++ (b ++ (c ++ d))) ≤ x + (y + (v + z))
  four a b c d x y z v p q r t =
      let m = joined w c d z v r t in
      let n = joined w b (c ++ d) y (z + v) q m in
      let o = joined w a (b ++ (c ++ d)) x (y + (z + v)) p n in
      omega arith

  in_section : (m n p q : ℕ) → m ≤ n → q + m ≤ p + (n + (0 + (q + 0)))
  in_section m n p q h = omega arith

  mutual
    pub statement : (arm : Bool) (x : StmtTree) → AreScalar (statement_visits g.typing arm x) → total w (armed arm (statement_node x)) + total w (statement_events g x) ≤ listed (statement_visits g.typing arm x)
    statement arm (s.statement n f) h = behind_arm n.number arm _ _ (statement_form f h.0)

    statement_form : (f : StmtFormTree) → AreScalar (statement_form_visits g.typing f) → total w (statement_form_events g f) ≤ listed (statement_form_visits g.typing f)
    statement_form (s.block ps) h = parts ps h
    statement_form (s.expression_statement e) h = discarded e h
    statement_form (s.if_statement e x y) h = joined w (tested_events g e) _ _ _ (test e h.0) (joined w (hit (statement_node x) Arm ∷ statement_events g x) (otherwise_events g y) _ _ (branch x (statement true x h.1.0)) (otherwise y h.1.1))
    statement_form (s.switch_statement e ss) h = joined w (value_events g e) (sections_events g ss) _ _ (value e h.0) (sections ss h.1)
    statement_form (s.while_statement e x) h = joined w (tested_events g e) (hit (statement_node x) Arm ∷ statement_events g x) _ _ (test e h.0) (branch x (statement true x h.1))
    statement_form (s.do_statement x e) h = joined w (hit (statement_node x) Arm ∷ statement_events g x) (tested_events g e) _ _ (branch x (statement true x h.0)) (test e h.1)
    statement_form (s.for_statement first test step x) h =
        four (start_events g first) (maybe_tested_events g test) (hit (statement_node x) Arm ∷ statement_events g x) (discarded_events g step) _ _ _ _
        (start first h.0) (maybe_test test h.1.0) (branch x (statement true x h.1.1.1)) (discarded step h.1.1.0)
    statement_form s.break_statement h = omega arith
    statement_form s.continue_statement h = omega arith
    statement_form (s.return_statement e) h = discarded e h

    otherwise : (x : MaybeStmtTree) → AreScalar (maybe_statement_visits g.typing x) → total w (otherwise_events g x) ≤ listed (maybe_statement_visits g.typing x)
    otherwise s.no_statement h = omega arith
    otherwise (s.some_statement x) h = branch x (statement true x h)

    statements : (xs : StmtTrees) → AreScalar (statements_visits g.typing xs) → total w (statements_events g xs) ≤ listed (statements_visits g.typing xs)
    statements s.no_statements h = omega arith
    statements (s.then_statement x xs) h = joined w (statement_events g x) (statements_events g xs) _ _ (alone x (statement false x h.0)) (statements xs h.1)

    parts : (ps : PartTrees) → AreScalar (parts_visits g.typing ps) → total w (parts_events g ps) ≤ listed (parts_visits g.typing ps)
    parts s.no_parts h = omega arith
    parts (s.then_part p ps) h = joined w (part_events g p) (parts_events g ps) _ _ (part p h.0) (parts ps h.1)

    part : (p : PartTree) → AreScalar (part_visits g.typing p) → total w (part_events g p) ≤ listed (part_visits g.typing p)
    part (s.local d) h = declaration d h
    part (s.run x) h = alone x (statement false x h)

    sections : (ss : SectionTrees) → AreScalar (sections_visits g.typing ss) → total w (sections_events g ss) ≤ listed (sections_visits g.typing ss)
    sections s.no_sections h = omega arith
    sections (s.then_section x xs) h = joined w (section_events g x) (sections_events g xs) _ _ (section x h.0) (sections xs h.1)

    section : (x : SectionTree) → AreScalar (section_visits g.typing x) → total w (section_events g x) ≤ listed (section_visits g.typing x)
    section (s.section n ls body) h = in_section _ _ (listed (labels_visits g.typing ls)) (w (hit n.number Arm)) (statements body h.1.0)
