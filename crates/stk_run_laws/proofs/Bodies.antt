-- What the runs of statements make, by cases on the statement.
use Rattle.std.proofs.Common.{◌≡◌, ℕ, zero, suc, Bool, true, false, List, [], ℤ, Option, Some, None, refl, sym, subst, inl, inr}
use Rattle.std.specs.Prelude.{if◌then◌else◌, set}
use Rattle.stk_tree.specs.Syntax.{ExprTree, MaybeExprTree, InitTree, MaybeInitTree, ItemTree, ItemTrees, DeclrTree, DeclrTrees, DeclarationTree, StartTree, LabelTrees, StmtTree, StmtTrees, MaybeStmtTree, StmtFormTree, PartTree, PartTrees, SectionTree, SectionTrees}
use Rattle.stk_tree.specs.Syntax as s
use Rattle.stk_tree.specs.Parts.{is_static}
use Rattle.stk_type_rules.specs.Types.{is_scalar}
use Rattle.stk_meaning.specs.declared.entry.Entry.{Entry}
use Rattle.stk_meaning.specs.declared.entry.Entry.TheVariants.{Ub, Enter, Seen}
use Rattle.stk_meaning.specs.Typings.{number_kind, converted, statement_node}
use Rattle.stk_meaning.specs.Operations.{truth}
use Rattle.stk_meaning.specs.Places.{Setting, Target, in_register, in_kept, in_object, unnamed, target_at}
use Rattle.stk_meaning.specs.Visits.{reading, as_test, at_declarator, at_statement, at_section, Visits, no_visit, one_visit, both_visits, expression_visits, maybe_visits, items_visits, item_visits, initialiser_visits, designators_visits, tail_visits, initial_visits, declarator_visits, declarators_visits, declaration_visits, start_visits, labels_visits, statement_visits, statement_form_visits, maybe_statement_visits, statements_visits, parts_visits, part_visits, sections_visits, section_visits, parts_declare, start_declares}
use Rattle.stk_meaning.specs.Changes.{assigned_in, forgotten_in}
use Rattle.stk_meaning.specs.Worlds.{Ran, World, trace_of, and_then, gives, entered, answered, Flow, Normal, Turned, Ended}
use Rattle.stk_meaning.specs.Expressions.{value_of, test_of, stored_at, address_of}
use Rattle.stk_meaning.specs.Declarations.{items_run, item_run, initialiser_run, begun_with, begun_without, automatic_run, declarator_run, declarators_run, declaration_run}
use Rattle.stk_meaning.specs.Statements.{discarded_run, start_run, return_run, chosen, from_chosen, loop_run, turned_body, while_turn, do_turn, statement_run, statement_form_run, otherwise_run, statements_run, parts_run, part_run, sections_run, section_run}
use Rattle.stk_run_laws.specs.Visits.{EachVisit}
use Rattle.stk_run_laws.proofs.Nodes.{Distinct}
use Rattle.stk_run_laws.specs.TypedOperands.{VisitHasScalarOperand}
use Rattle.stk_run_laws.proofs.Traces.{SameEvent, Says, says_stands, Traced}
use Rattle.stk_run_laws.proofs.Faces.{Makes, makes_then, makes_as, makes_left, makes_right, makes_none, makes_if, makes_front, makes_tail}
use Rattle.stk_run_laws.proofs.OnceExpressions.{makes_test}
use Rattle.stk_run_laws.proofs.Values.{sound, each_role, written_none}
use Rattle.stk_run_laws.proofs.OnceStatements.{makes_next, makes_body, makes_scope, left_trace, makes_repeated, makes_entered, makes_entered_then}

module _ (g : Setting) (One : Type 0) (S : Type 0) (w : World S) (only : One → w.turns ≡ 1) where
  abbrev Asked : Visits → Type 0
  Asked v = EachVisit (VisitHasScalarOperand g.typing) v

  turned : {A : Type 0} (v u : Visits) (P : List ℤ → S → Ran A S) → Makes g One S (both_visits v u) P → Makes g One S (both_visits u v) P
  turned v u P a = makes_as g One S (both_visits v u) (both_visits u v) P (λ e h. elim h [ inl i ↦ inr i | inr i ↦ inl i ]) (λ d. (d.1, d.0, record { by = λ k p q. d.2.by k q p })) a

  alone : {A : Type 0} (v : Visits) (P : List ℤ → S → Ran A S) → Makes g One S (both_visits no_visit v) P → Makes g One S v P
  alone v P a = makes_as g One S (both_visits no_visit v) v P (λ e h. elim h [ inl i ↦ absurd i | inr i ↦ i ]) (λ d. (tt, d, record { by = λ k p q. p })) a

  value_makes : (e : ExprTree) → Asked (expression_visits g.typing reading e) → Makes g One S (expression_visits g.typing reading e) (value_of g w e)
  value_makes e h = (sound g One S w e h).value

  test_makes : (e : ExprTree) → Asked (expression_visits g.typing as_test e) → Makes g One S (expression_visits g.typing as_test e) (test_of g w e)
  test_makes e h = makes_test g One S e (value_of g w e) (value_makes e (each_role g.typing e as_test reading h))

  discarded_makes : (e : MaybeExprTree) → Asked (maybe_visits g.typing reading e) → Makes g One S (maybe_visits g.typing reading e) (discarded_run g w e)
  discarded_makes s.no_expression h = makes_none g One S _ _ (λ r m. refl)
  discarded_makes (s.some_expression e) h = makes_tail g One S (expression_visits g.typing reading e) (value_of g w e) _ (value_makes e h) (λ x r m. refl)

  return_makes : (e : MaybeExprTree) → Asked (maybe_visits g.typing reading e) → Makes g One S (maybe_visits g.typing reading e) (return_run g w e)
  return_makes s.no_expression h = makes_none g One S _ _ (λ r m. refl)
  return_makes (s.some_expression e) h = makes_tail g One S (expression_visits g.typing reading e) (value_of g w e) _ (value_makes e h) (λ x r m. refl)

  -- ---- declarations

  mutual
    items_make : (xs : ItemTrees) → Asked (items_visits g.typing xs) → Makes g One S (items_visits g.typing xs) (items_run g w xs)
    items_make s.no_items h = makes_none g One S _ _ (λ r m. refl)
    items_make (s.then_item x xs) h = makes_then g One S (item_visits g.typing x) (items_visits g.typing xs) (item_run g w x) _ (item_makes x h.0) (λ flow. items_make xs h.1)

    item_makes : (x : ItemTree) → Asked (item_visits g.typing x) → Makes g One S (item_visits g.typing x) (item_run g w x)
    item_makes (s.item path x) h = makes_right g One S (designators_visits g.typing path) (initialiser_visits g.typing x) _ (initialiser_makes x h.1)

    initialiser_makes : (x : InitTree) → Asked (initialiser_visits g.typing x) → Makes g One S (initialiser_visits g.typing x) (initialiser_run g w x)
    initialiser_makes (s.plain e) h = makes_tail g One S (expression_visits g.typing reading e) (value_of g w e) _ (value_makes e h) (λ x r m. refl)
    initialiser_makes (s.braces items comma) h = items_make items h

  stored_then_none : (k : ℕ) (x : ℤ) (r : List ℤ) (m : S) → trace_of (begun_with g w k x r m) ≡ []
  stored_then_none k x r m = by (target_at g k)
    where
      by : (t : Target) → trace_of (and_then (stored_at w t (number_kind (g.typing.type_at k)) (address_of w t k) (converted (g.typing.type_at k) x) x r m) (λ y. gives Normal)) ≡ []
      by (in_register i) = refl
      by (in_kept q) = refl
      by (in_object o) = refl
      by unnamed = refl

  if_quiet : {A : Type 0} (b : Bool) (x y : Ran A S) → trace_of x ≡ [] → trace_of y ≡ [] → trace_of (if b then x else y) ≡ []
  if_quiet true x y p q = p
  if_quiet false x y p q = q

  without_quiet : (k : ℕ) (t : Target) (r : List ℤ) (m : S) → trace_of (begun_without g w k t r m) ≡ []
  without_quiet k (in_register i) r m = by (w.unset k (number_kind (g.typing.type_at k)) m)
    where
      by : (o : Option (ℤ × S)) → trace_of (and_then (answered o r) (λ x r m. gives Normal (set r i x) m)) ≡ []
      by None = refl
      by (Some x) = refl
  without_quiet k (in_kept q) r m = refl
  without_quiet k (in_object o) r m = refl
  without_quiet k unnamed r m = refl

  automatic_makes : (k : ℕ) (init : MaybeInitTree) → Asked (initial_visits g.typing false init) → Makes g One S (initial_visits g.typing false init) (automatic_run g w k init)
  automatic_makes k s.no_initialiser h = makes_none g One S _ _ (λ r m. without_quiet k (target_at g k) r m)
  automatic_makes k (s.some_initialiser (s.plain e)) h =
      makes_tail g One S (expression_visits g.typing reading e) (value_of g w e) _ (value_makes e h)
      (λ x r m. if_quiet (is_scalar (g.typing.type_at k)) _ _ (stored_then_none k x r m) (written_none Normal (w.write m) r))
  automatic_makes k (s.some_initialiser (s.braces items comma)) h =
      makes_tail g One S (items_visits g.typing items) (items_run g w items) _ (items_make items h) (λ flow r m. written_none Normal (w.write m) r)

  declarator_makes : (static : Bool) (d : DeclrTree) → Asked (declarator_visits g.typing static d) → Makes g One S (declarator_visits g.typing static d) (declarator_run g w static d)
  declarator_makes true (s.declarator n count at tail init) h = makes_none g One S _ _ (λ r m. refl)
  declarator_makes false (s.declarator n count at tail init) h =
      makes_right g One S (tail_visits g.typing tail) (both_visits (initial_visits g.typing false init) (one_visit (at_declarator n.number false at init))) _
      (makes_left g One S (initial_visits g.typing false init) (one_visit (at_declarator n.number false at init)) _ (automatic_makes n.number init h.1.0))

  declarators_make : (static : Bool) (ds : DeclrTrees) → Asked (declarators_visits g.typing static ds) → Makes g One S (declarators_visits g.typing static ds) (declarators_run g w static ds)
  declarators_make static s.no_declarators h = makes_none g One S _ _ (λ r m. refl)
  declarators_make static (s.then_declarator d ds) h =
      makes_then g One S (declarator_visits g.typing static d) (declarators_visits g.typing static ds) (declarator_run g w static d) _ (declarator_makes static d h.0) (λ flow. declarators_make static ds h.1)

  declaration_makes : (d : DeclarationTree) → Asked (declaration_visits g.typing d) → Makes g One S (declaration_visits g.typing d) (declaration_run g w d)
  declaration_makes (s.declaration word specifiers ds) h = declarators_make (is_static word) ds h

  start_makes : (x : StartTree) → Asked (start_visits g.typing x) → Makes g One S (start_visits g.typing x) (start_run g w x)
  start_makes (s.start_declaration d) h = declaration_makes d h
  start_makes (s.start_expression e) h = discarded_makes e h

  -- ---- loops

  loop_makes : (v : Visits) (k : ℕ) (f : StmtFormTree) (turn : List ℤ → S → Ran Turned S) → Makes g One S v turn → Makes g One S v (loop_run g w k f turn)
  loop_makes v k f turn a =
      let p = makes_repeated g One S v turn w.turns only a in
      record { at = λ r m. p.at (w.reset k (assigned_in g f) r) (w.forget (forgotten_in g f) m) }

  -- the body, and the step behind it
  turned_makes : (x : StmtTree) (v : Visits) (body step : List ℤ → S → Ran Flow S) → Makes g One S (statement_visits g.typing false x) body → Makes g One S v step → Makes g One S (both_visits v (statement_visits g.typing true x)) (turned_body (statement_node x) body step)
  turned_makes x v body step a b =
      makes_entered_then g One S x v _ (turned (statement_visits g.typing false x) v _
      (makes_body g One S (statement_visits g.typing false x) v body _ a (makes_tail g One S v step _ b (λ flow r m. refl))))

  while_makes : (e : MaybeExprTree) (x : StmtTree) (v : Visits) (body step : List ℤ → S → Ran Flow S) → Asked (maybe_visits g.typing as_test e) → Makes g One S (statement_visits g.typing false x) body → Makes g One S v step → Makes g One S (both_visits (maybe_visits g.typing as_test e) (both_visits v (statement_visits g.typing true x))) (while_turn g w e (statement_node x) body step)
  while_makes s.no_expression x v body step h a b = makes_right g One S no_visit (both_visits v (statement_visits g.typing true x)) _ (turned_makes x v body step a b)
  while_makes (s.some_expression e) x v body step h a b =
      let u = both_visits v (statement_visits g.typing true x) in
      makes_then g One S (expression_visits g.typing as_test e) u (test_of g w e) _ (test_makes e h)
      (λ z. makes_if g One S u (truth z) (turned_body (statement_node x) body step) (gives (Ended Normal)) (turned_makes x v body step a b) (makes_none g One S u (gives (Ended Normal)) (λ r m. refl)))

  do_makes : (e : ExprTree) (x : StmtTree) (body : List ℤ → S → Ran Flow S) → Asked (expression_visits g.typing as_test e) → Makes g One S (statement_visits g.typing false x) body → Makes g One S (both_visits (statement_visits g.typing true x) (expression_visits g.typing as_test e)) (do_turn g w e (statement_node x) body)
  do_makes e x body h a =
      let v = expression_visits g.typing as_test e in
      turned v (statement_visits g.typing true x) _ (makes_entered_then g One S x v _ (turned (statement_visits g.typing false x) v _
      (makes_body g One S (statement_visits g.typing false x) v body _ a (makes_tail g One S v (test_of g w e) _ (test_makes e h) (λ z r m. refl)))))

  from_makes : (v : Visits) (o : Option ℕ) (sections : ℕ → List ℤ → S → Ran Flow S) → ((n : ℕ) → Makes g One S v (sections n)) → Makes g One S v (from_chosen o sections)
  from_makes v None sections a = makes_none g One S v _ (λ r m. refl)
  from_makes v (Some n) sections a = record { at = λ r m. subst (Traced g.typing g.without One v) (sym (left_trace g One S (sections n r m))) ((a n).at r m) }

  -- what is asked of a statement doesn't depend on its being a branch
  unarmed : (x : StmtTree) → Asked (statement_visits g.typing true x) → Asked (statement_visits g.typing false x)
  unarmed (s.statement n f) h = h

  section_entered : (k : ℕ) (ls : LabelTrees) (body : StmtTrees) (P : List ℤ → S → Ran Flow S) → Makes g One S (statements_visits g.typing body) P → Makes g One S (both_visits (labels_visits g.typing ls) (both_visits (statements_visits g.typing body) (one_visit (at_section k ls)))) (λ r m. entered k (P r m))
  section_entered k ls body P a =
      makes_front g One S (statements_visits g.typing body) (both_visits (labels_visits g.typing ls) (both_visits (statements_visits g.typing body) (one_visit (at_section k ls)))) k P
      (λ d h. inr (inl h)) (λ d. d.1.0) (inr (inr (refl, refl))) (λ d e h same. new d e h same) a
    where
      new : Distinct (both_visits (labels_visits g.typing ls) (both_visits (statements_visits g.typing body) (one_visit (at_section k ls)))) → (d : Entry) → Says g.typing g.without (statements_visits g.typing body) d → SameEvent (Enter k) d → ⊥
      new d (Ub c) h same = same
      new d (Enter j) h same = d.1.2.by j (says_stands g.typing g.without (statements_visits g.typing body) (Enter j) h) (sym same)
      new d (Seen j b o) h same = same

  mutual
    pub statement_makes : (x : StmtTree) → Asked (statement_visits g.typing false x) → Makes g One S (statement_visits g.typing false x) (statement_run g w x)
    statement_makes (s.statement n f) h = makes_left g One S (statement_form_visits g.typing f) (one_visit (at_statement n.number false f)) _ (form_makes n.number f h.0)

    form_makes : (k : ℕ) (f : StmtFormTree) → Asked (statement_form_visits g.typing f) → Makes g One S (statement_form_visits g.typing f) (statement_form_run g w k f)
    form_makes k (s.block ps) h = makes_scope g One S (parts_visits g.typing ps) (parts_declare ps) (parts_run g w ps) (parts_make ps h)
    form_makes k (s.expression_statement e) h = discarded_makes e h
    form_makes k (s.if_statement e x y) h =
        let u = statement_visits g.typing true x in
        let v = maybe_statement_visits g.typing y in
        makes_then g One S (expression_visits g.typing as_test e) (both_visits u v) (test_of g w e) _ (test_makes e h.0)
        (λ z. makes_if g One S (both_visits u v) (truth z) (λ r m. entered (statement_node x) (statement_run g w x r m)) (otherwise_run g w y)
        (makes_left g One S u v _ (makes_entered g One S x (statement_run g w x) (statement_makes x (unarmed x h.1.0))))
        (makes_right g One S u v _ (otherwise_makes y h.1.1)))
    form_makes k (s.switch_statement e ss) h =
        makes_then g One S (expression_visits g.typing reading e) (sections_visits g.typing ss) (value_of g w e) _ (value_makes e h.0)
        (λ x. from_makes (sections_visits g.typing ss) (chosen g.typing _ _ ss) (λ n r m. sections_run g w ss n r m) (λ n. sections_make ss n h.1))
    form_makes k (s.while_statement e x) h =
        let v = both_visits (expression_visits g.typing as_test e) (statement_visits g.typing true x) in
        loop_makes v k (s.while_statement e x) _
        (makes_as g One S (both_visits (expression_visits g.typing as_test e) (both_visits no_visit (statement_visits g.typing true x))) v _
        (λ d i. elim i [ inl j ↦ inl j | inr j ↦ elim j [ inl l ↦ absurd l | inr l ↦ inr l ] ])
        (λ d. (d.0, (tt, d.1, record { by = λ j p q. p }), record { by = λ j p q. elim q [ inl l ↦ l | inr l ↦ d.2.by j p l ] }))
        (while_makes (s.some_expression e) x no_visit (statement_run g w x) (gives Normal) h.0 (statement_makes x (unarmed x h.1)) (makes_none g One S no_visit (gives Normal) (λ r m. refl))))
    form_makes k (s.do_statement x e) h =
        loop_makes (both_visits (statement_visits g.typing true x) (expression_visits g.typing as_test e)) k (s.do_statement x e) _ (do_makes e x (statement_run g w x) h.1 (statement_makes x (unarmed x h.0)))
    form_makes k (s.for_statement first test step x) h =
        let u = both_visits (maybe_visits g.typing as_test test) (both_visits (maybe_visits g.typing reading step) (statement_visits g.typing true x)) in
        makes_scope g One S (both_visits (start_visits g.typing first) u) (start_declares first) _
        (makes_then g One S (start_visits g.typing first) u (start_run g w first) _ (start_makes first h.0)
        (λ flow. loop_makes u k (s.for_statement first test step x) _
        (while_makes test x (maybe_visits g.typing reading step) (statement_run g w x) (discarded_run g w step) h.1.0 (statement_makes x (unarmed x h.1.1.1)) (discarded_makes step h.1.1.0))))
    form_makes k s.break_statement h = makes_none g One S _ _ (λ r m. refl)
    form_makes k s.continue_statement h = makes_none g One S _ _ (λ r m. refl)
    form_makes k (s.return_statement e) h = return_makes e h

    otherwise_makes : (y : MaybeStmtTree) → Asked (maybe_statement_visits g.typing y) → Makes g One S (maybe_statement_visits g.typing y) (otherwise_run g w y)
    otherwise_makes s.no_statement h = makes_none g One S _ _ (λ r m. refl)
    otherwise_makes (s.some_statement x) h = makes_entered g One S x (statement_run g w x) (statement_makes x (unarmed x h))

    statements_make : (xs : StmtTrees) → Asked (statements_visits g.typing xs) → Makes g One S (statements_visits g.typing xs) (statements_run g w xs)
    statements_make s.no_statements h = makes_none g One S _ _ (λ r m. refl)
    statements_make (s.then_statement x xs) h = makes_next g One S (statement_visits g.typing false x) (statements_visits g.typing xs) (statement_run g w x) (statements_run g w xs) (statement_makes x h.0) (statements_make xs h.1)

    parts_make : (ps : PartTrees) → Asked (parts_visits g.typing ps) → Makes g One S (parts_visits g.typing ps) (parts_run g w ps)
    parts_make s.no_parts h = makes_none g One S _ _ (λ r m. refl)
    parts_make (s.then_part p ps) h = makes_next g One S (part_visits g.typing p) (parts_visits g.typing ps) (part_run g w p) (parts_run g w ps) (part_makes p h.0) (parts_make ps h.1)

    part_makes : (p : PartTree) → Asked (part_visits g.typing p) → Makes g One S (part_visits g.typing p) (part_run g w p)
    part_makes (s.local d) h = declaration_makes d h
    part_makes (s.run x) h = statement_makes x h

    sections_make : (ss : SectionTrees) (n : ℕ) → Asked (sections_visits g.typing ss) → Makes g One S (sections_visits g.typing ss) (sections_run g w ss n)
    sections_make s.no_sections n h = makes_none g One S _ _ (λ r m. refl)
    sections_make (s.then_section x xs) zero h = makes_next g One S (section_visits g.typing x) (sections_visits g.typing xs) (section_run g w x) (sections_run g w xs zero) (section_makes x h.0) (sections_make xs zero h.1)
    sections_make (s.then_section x xs) (suc n) h = makes_right g One S (section_visits g.typing x) (sections_visits g.typing xs) _ (sections_make xs n h.1)

    section_makes : (x : SectionTree) → Asked (section_visits g.typing x) → Makes g One S (section_visits g.typing x) (section_run g w x)
    section_makes (s.section n ls body) h = section_entered n.number ls body (statements_run g w body) (statements_make body h.1.0)
