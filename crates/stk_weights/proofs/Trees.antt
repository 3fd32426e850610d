-- What is passed in a function counts each register once for each branch and loop in which it is assigned.
use Rattle.std.proofs.Common.{ℕ, ◌≡◌, ◌+◌, Bool, true, false, ◌||◌, List, [], ◌∷◌, ◌++◌, map, refl, sym, ap, ◌∙◌, subst, arith}
use Rattle.std.proofs.lemmas.List.{map-append}
use Rattle.stk_tree.specs.Syntax.{ExprTree, MaybeExprTree, DeclarationTree, StartTree, LabelTrees, StmtTree, StmtTrees, MaybeStmtTree, StmtFormTree, PartTree, PartTrees, SectionTree, SectionTrees, FunctionTree}
use Rattle.stk_tree.specs.Syntax as s
use Rattle.stk_address_taken.specs.Sets.{is_listed}
use Rattle.stk_meaning.specs.Places.{Setting, Target, in_register, in_kept, in_object, unnamed}
use Rattle.stk_meaning.specs.Weights.{visit_assigns}
use Rattle.stk_meaning.specs.Visits.{Role, Visits, no_visit, one_visit, both_visits, scope, unevaluated, at_statement, at_section, reading, as_test, expression_visits, maybe_visits, declaration_visits, start_visits, labels_visits, statement_visits, statement_form_visits, maybe_statement_visits, statements_visits, parts_visits, part_visits, sections_visits, section_visits}
use Rattle.stk_weights.specs.declared.events.Event.{Event}
use Rattle.stk_weights.specs.declared.events.Event.TheVariants as event
use Rattle.stk_weights.specs.MarkedVisit.{registers_among}
use Rattle.stk_weights.specs.Events.{assigned_in, targets_events, noted, is_branching, bracketed, statement_events, form_events, maybe_statement_events, statements_events, parts_events, part_events, sections_events, section_events, one_where, counts, visit_counts}
use Rattle.stk_weights.proofs.Passing.{Adds, adds_none, adds_both, adds_bracketed, adds_assigned, listed-append}
use Rattle.stk_weights.proofs.Uncounted.{expression_none, maybe_none, declaration_none, start_none, labels_none}

targets_are : (ts : List Target) → targets_events ts ≡ map event.Assigns (registers_among ts)
targets_are [] = refl
targets_are (in_register k ∷ ts) = ap (λ es. event.Assigns k ∷ es) (targets_are ts)
targets_are (in_kept q ∷ ts) = targets_are ts
targets_are (in_object o ∷ ts) = targets_are ts
targets_are (unnamed ∷ ts) = targets_are ts

-- the assignments in a part are those of its registers
noted_is : (g : Setting) (v : Visits) → noted g v ≡ map event.Assigns (assigned_in g v)
noted_is g no_visit = refl
noted_is g (one_visit x) = targets_are (visit_assigns g x)
noted_is g (both_visits a b) =
    ap (λ es. es ++ noted g b) (noted_is g a) ∙ ap (λ es. map event.Assigns (assigned_in g a) ++ es) (noted_is g b) ∙ sym (map-append event.Assigns (assigned_in g a) (assigned_in g b))
noted_is g (scope ks a) = noted_is g a
noted_is g (unevaluated a) = refl

module _ (g : Setting) (r : ℕ) where
  -- a part's events add what its visits count
  abbrev Is : List Event → Visits → Type 0
  Is es v = Adds r es (is_listed r (assigned_in g v)) (counts g r v)

  turned : (es : List Event) (a b : Bool) (x y : ℕ) → a ≡ b → x ≡ y → Adds r es a x → Adds r es b y
  turned es a b x y e f h = subst (λ c. Adds r es c y) e (subst (λ z. Adds r es a z) f h)

  joined : (es fs : List Event) (v w : Visits) → Is es v → Is fs w → Is (es ++ fs) (both_visits v w)
  joined es fs v w p q =
      turned (es ++ fs) _ _ _ _ (sym (listed-append r (assigned_in g v) (assigned_in g w))) refl (adds_both r es fs (is_listed r (assigned_in g v)) (is_listed r (assigned_in g w)) (counts g r v) (counts g r w) p q)

  plain : (v : Visits) → counts g r v ≡ 0 → Is (noted g v) v
  plain v e = subst (λ es. Is es v) (sym (noted_is g v)) (turned (map event.Assigns (assigned_in g v)) _ _ _ _ refl (sym e) (adds_assigned r (assigned_in g v)))

  or-none : (b : Bool) → (b || false) ≡ b
  or-none true = refl
  or-none false = refl

  with_none : (xs : List ℕ) → is_listed r (xs ++ []) ≡ is_listed r xs
  with_none xs = listed-append r xs [] ∙ or-none (is_listed r xs)

  closing : (es : List Event) (n : ℕ) (arm : Bool) (f : StmtFormTree) (b : Bool) → is_branching f ≡ b → Is es (statement_form_visits g.typing f) → Is (bracketed b es) (both_visits (statement_form_visits g.typing f) (one_visit (at_statement n arm f)))
  closing es n arm f true e h =
      let xs = assigned_in g (statement_form_visits g.typing f) in
      let more : counts g r (statement_form_visits g.typing f) + one_where (is_listed r xs) ≡ counts g r (statement_form_visits g.typing f) + visit_counts g r (at_statement n arm f) = rw e refl in
      turned _ _ _ _ _ (sym (with_none xs)) more (adds_bracketed r es (is_listed r xs) (counts g r (statement_form_visits g.typing f)) h)
  closing es n arm f false e h =
      let xs = assigned_in g (statement_form_visits g.typing f) in
      let more : counts g r (statement_form_visits g.typing f) ≡ counts g r (statement_form_visits g.typing f) + visit_counts g r (at_statement n arm f) = rw e (omega arith) in
      turned es _ _ _ _ (sym (with_none xs)) more h

  unlisted : (ls : LabelTrees) → assigned_in g (labels_visits g.typing ls) ≡ []
  unlisted s.no_labels = refl
  unlisted (s.then_label s.default_label ls) = unlisted ls
  unlisted (s.then_label (s.case_label e) ls) = unlisted ls

  labelled : (es : List Event) (n : ℕ) (ls : LabelTrees) (v : Visits) → Is es v → Is es (both_visits (labels_visits g.typing ls) (both_visits v (one_visit (at_section n ls))))
  labelled es n ls v h =
      let xs = assigned_in g v in
      turned es _ _ _ _ (sym (ap (λ ks. is_listed r (ks ++ (xs ++ []))) (unlisted ls) ∙ with_none xs)) (omega (arith, labels_none g r g.typing ls)) h

  expression_is : (role : Role) (e : ExprTree) → Is (noted g (expression_visits g.typing role e)) (expression_visits g.typing role e)
  expression_is role e = plain (expression_visits g.typing role e) (expression_none g r g.typing role e)

  maybe_is : (role : Role) (e : MaybeExprTree) → Is (noted g (maybe_visits g.typing role e)) (maybe_visits g.typing role e)
  maybe_is role e = plain (maybe_visits g.typing role e) (maybe_none g r g.typing role e)

  start_is : (x : StartTree) → Is (noted g (start_visits g.typing x)) (start_visits g.typing x)
  start_is x = plain (start_visits g.typing x) (start_none g r g.typing x)

  declaration_is : (d : DeclarationTree) → Is (noted g (declaration_visits g.typing d)) (declaration_visits g.typing d)
  declaration_is d = plain (declaration_visits g.typing d) (declaration_none g r g.typing d)

  mutual
    pub statement_is : (arm : Bool) (x : StmtTree) → Is (statement_events g x) (statement_visits g.typing arm x)
    statement_is arm (s.statement n f) = closing (form_events g f) n.number arm f (is_branching f) refl (form_is f)

    form_is : (f : StmtFormTree) → Is (form_events g f) (statement_form_visits g.typing f)
    form_is (s.block ps) = parts_is ps
    form_is (s.expression_statement e) = maybe_is reading e
    form_is (s.if_statement e x y) = joined _ _ (expression_visits g.typing as_test e) (both_visits (statement_visits g.typing true x) (maybe_statement_visits g.typing y)) (expression_is as_test e) (joined _ _ (statement_visits g.typing true x) (maybe_statement_visits g.typing y) (statement_is true x) (maybe_statement_is y))
    form_is (s.switch_statement e ss) = joined _ _ (expression_visits g.typing reading e) (sections_visits g.typing ss) (expression_is reading e) (sections_is ss)
    form_is (s.while_statement e x) = joined _ _ (expression_visits g.typing as_test e) (statement_visits g.typing true x) (expression_is as_test e) (statement_is true x)
    form_is (s.do_statement x e) = joined _ _ (statement_visits g.typing true x) (expression_visits g.typing as_test e) (statement_is true x) (expression_is as_test e)
    form_is (s.for_statement first test step x) =
        joined _ _ (start_visits g.typing first) (both_visits (maybe_visits g.typing as_test test) (both_visits (maybe_visits g.typing reading step) (statement_visits g.typing true x))) (start_is first)
        (joined _ _ (maybe_visits g.typing as_test test) (both_visits (maybe_visits g.typing reading step) (statement_visits g.typing true x)) (maybe_is as_test test)
        (joined _ _ (maybe_visits g.typing reading step) (statement_visits g.typing true x) (maybe_is reading step) (statement_is true x)))
    form_is s.break_statement = adds_none r
    form_is s.continue_statement = adds_none r
    form_is (s.return_statement e) = maybe_is reading e

    maybe_statement_is : (x : MaybeStmtTree) → Is (maybe_statement_events g x) (maybe_statement_visits g.typing x)
    maybe_statement_is s.no_statement = adds_none r
    maybe_statement_is (s.some_statement x) = statement_is true x

    statements_is : (xs : StmtTrees) → Is (statements_events g xs) (statements_visits g.typing xs)
    statements_is s.no_statements = adds_none r
    statements_is (s.then_statement x xs) = joined _ _ (statement_visits g.typing false x) (statements_visits g.typing xs) (statement_is false x) (statements_is xs)

    parts_is : (ps : PartTrees) → Is (parts_events g ps) (parts_visits g.typing ps)
    parts_is s.no_parts = adds_none r
    parts_is (s.then_part p ps) = joined _ _ (part_visits g.typing p) (parts_visits g.typing ps) (part_is p) (parts_is ps)

    part_is : (p : PartTree) → Is (part_events g p) (part_visits g.typing p)
    part_is (s.local d) = declaration_is d
    part_is (s.run x) = statement_is false x

    sections_is : (xs : SectionTrees) → Is (sections_events g xs) (sections_visits g.typing xs)
    sections_is s.no_sections = adds_none r
    sections_is (s.then_section x xs) = joined _ _ (section_visits g.typing x) (sections_visits g.typing xs) (section_is x) (sections_is xs)

    section_is : (x : SectionTree) → Is (section_events g x) (section_visits g.typing x)
    section_is (s.section n ls body) = labelled (statements_events g body) n.number ls (statements_visits g.typing body) (statements_is body)
