-- What a statement does, by cases on its form (C11 6.8).
use Rattle.std.specs.Prelude.{ℕ, zero, suc, ◌+◌, Bool, true, false, if◌then◌else◌, List, Option, Some, None, ℤ, option_map}
use Rattle.std.specs.Ordering.{int_eq}
use Rattle.stk_ctype.specs.declared.kind.IntKind.{IntKind}
use Rattle.stk_tree.specs.Syntax.{ExprTree, MaybeExprTree, StartTree, LabelTree, LabelTrees, StmtTree, StmtTrees, MaybeStmtTree, StmtFormTree, PartTree, PartTrees, SectionTree, SectionTrees}
use Rattle.stk_tree.specs.Syntax as s
use Rattle.stk_numbers.specs.Kinds.{wrap, promote}
use Rattle.stk_meaning.specs.Typings.{Typing, node_of, type_in, number_kind, statement_node}
use Rattle.stk_meaning.specs.Operations.{truth}
use Rattle.stk_meaning.specs.Places.{Setting}
use Rattle.stk_meaning.specs.Visits.{parts_declare, start_declares}
use Rattle.stk_meaning.specs.Changes.{assigned_in, forgotten_in}
use Rattle.stk_meaning.specs.Worlds.{Ran, World, and_then, gives, entered, Flow, Normal, Break, Continue, Return, next, give_back, Turned, Another, Ended, repeated, behind_body, left_switch}
use Rattle.stk_meaning.specs.Expressions.{value_of, test_of}
use Rattle.stk_meaning.specs.Declarations.{declaration_run}

-- an expression whose value isn't used, and which may be missing (C11 6.8.3)
abbrev pub discarded_run : {S : Type 0} → Setting → World S → MaybeExprTree → List ℤ → S → Ran Flow S
discarded_run g w s.no_expression r m = gives Normal r m
discarded_run g w (s.some_expression e) r m = and_then (value_of g w e r m) (λ x. gives Normal)

-- the first part of a `for` (C11 6.8.5.3)
abbrev pub start_run : {S : Type 0} → Setting → World S → StartTree → List ℤ → S → Ran Flow S
start_run g w (s.start_declaration d) r m = declaration_run g w d r m
start_run g w (s.start_expression e) r m = discarded_run g w e r m

-- `return`, with the value of its expression (C11 6.8.6.4)
abbrev pub return_run : {S : Type 0} → Setting → World S → MaybeExprTree → List ℤ → S → Ran Flow S
return_run g w s.no_expression r m = gives Return r m
return_run g w (s.some_expression e) r m = and_then (value_of g w e r m) (λ x. gives Return)

-- whether labels have a case of this number in a kind, and whether they have a `default` (C11 6.8.4.2p5)
abbrev pub is_number : IntKind → ℤ → Option ℤ → Bool
is_number kind x None = false
is_number kind x (Some z) = int_eq (wrap kind z) x

abbrev pub is_case : Typing → IntKind → ℤ → LabelTree → Bool
is_case ty kind x s.default_label = false
is_case ty kind x (s.case_label e) = is_number kind x (ty.number_at (node_of e))

abbrev pub has_case : Typing → IntKind → ℤ → LabelTrees → Bool
has_case ty kind x s.no_labels = false
has_case ty kind x (s.then_label l ls) = if is_case ty kind x l then true else has_case ty kind x ls

abbrev pub is_default : LabelTree → Bool
is_default s.default_label = true
is_default (s.case_label e) = false

abbrev pub has_default : LabelTrees → Bool
has_default s.no_labels = false
has_default (s.then_label l ls) = if is_default l then true else has_default ls

abbrev pub labels_of : SectionTree → LabelTrees
labels_of (s.section n ls body) = ls

-- how many sections stand before the first whose labels pass a test
abbrev pub sections_before : (LabelTrees → Bool) → SectionTrees → Option ℕ
sections_before test s.no_sections = None
sections_before test (s.then_section x xs) = if test (labels_of x) then Some 0 else option_map (λ n. n + 1) (sections_before test xs)

-- the section that a `switch` goes to: that of the case with the number, else that of `default`, where there is one
abbrev pub or_default : Option ℕ → Option ℕ → Option ℕ
or_default (Some n) other = Some n
or_default None other = other

abbrev pub chosen : Typing → IntKind → ℤ → SectionTrees → Option ℕ
chosen ty kind x ss = or_default (sections_before (has_case ty kind x) ss) (sections_before has_default ss)

-- the sections from the chosen one on; past the statement, where none is chosen
abbrev pub from_chosen : {S : Type 0} → Option ℕ → (ℕ → List ℤ → S → Ran Flow S) → List ℤ → S → Ran Flow S
from_chosen None sections r m = gives Normal r m
from_chosen (Some n) sections r m = left_switch (sections n r m)

abbrev pub switch_run : {S : Type 0} → Setting → World S → ExprTree → SectionTrees → (ℕ → List ℤ → S → Ran Flow S) → List ℤ → S → Ran Flow S
switch_run g w e ss sections r m =
    let kind = promote (number_kind (type_in g.typing e)) in
    and_then (value_of g w e r m) (λ x. from_chosen (chosen g.typing kind (wrap kind x) ss) sections)

-- a loop: its registers are set and kept numbers forgotten as the world has it, and then it turns (C11 6.8.5)
abbrev pub loop_run : {S : Type 0} → Setting → World S → ℕ → StmtFormTree → (List ℤ → S → Ran Turned S) → List ℤ → S → Ran Flow S
loop_run g w k f turn r m = repeated w.turns turn (w.reset k (assigned_in g f) r) (w.forget (forgotten_in g f) m)

-- a turn of `while` and of `for`: the test, the body, the step; a missing test counts as true (C11 6.8.5.3p2)
abbrev pub turned_body : {S : Type 0} → ℕ → (List ℤ → S → Ran Flow S) → (List ℤ → S → Ran Flow S) → List ℤ → S → Ran Turned S
turned_body k body step r m = entered k (behind_body (body r m) (λ r m. and_then (step r m) (λ flow. gives Another)))

abbrev pub while_turn : {S : Type 0} → Setting → World S → MaybeExprTree → ℕ → (List ℤ → S → Ran Flow S) → (List ℤ → S → Ran Flow S) → List ℤ → S → Ran Turned S
while_turn g w s.no_expression k body step r m = turned_body k body step r m
while_turn g w (s.some_expression e) k body step r m =
    and_then (test_of g w e r m) (λ x r m. if truth x then turned_body k body step r m else gives (Ended Normal) r m)

-- a turn of `do`: the body, the test (C11 6.8.5.2)
abbrev pub do_turn : {S : Type 0} → Setting → World S → ExprTree → ℕ → (List ℤ → S → Ran Flow S) → List ℤ → S → Ran Turned S
do_turn g w e k body r m =
    entered k (behind_body (body r m) (λ r m. and_then (test_of g w e r m) (λ x. gives (if truth x then Another else Ended Normal))))

abbrev mutual
  -- a statement
  pub statement_run : {S : Type 0} → Setting → World S → StmtTree → List ℤ → S → Ran Flow S
  statement_run g w (s.statement n f) r m = statement_form_run g w n.number f r m

  -- a statement of a form, at a node
  pub statement_form_run : {S : Type 0} → Setting → World S → ℕ → StmtFormTree → List ℤ → S → Ran Flow S
  statement_form_run g w k (s.block ps) r m = give_back (parts_declare ps) r (parts_run g w ps r m)
  statement_form_run g w k (s.expression_statement e) r m = discarded_run g w e r m
  statement_form_run g w k (s.if_statement e x y) r m =
      and_then (test_of g w e r m) (λ z r m. if truth z then entered (statement_node x) (statement_run g w x r m) else otherwise_run g w y r m)
  statement_form_run g w k (s.switch_statement e ss) r m = switch_run g w e ss (λ n r m. sections_run g w ss n r m) r m
  statement_form_run g w k (s.while_statement e x) r m =
      loop_run g w k (s.while_statement e x) (while_turn g w (s.some_expression e) (statement_node x) (statement_run g w x) (gives Normal)) r m
  statement_form_run g w k (s.do_statement x e) r m = loop_run g w k (s.do_statement x e) (do_turn g w e (statement_node x) (statement_run g w x)) r m
  statement_form_run g w k (s.for_statement first test step x) r m =
      give_back (start_declares first) r (and_then (start_run g w first r m) (λ flow.
      loop_run g w k (s.for_statement first test step x) (while_turn g w test (statement_node x) (statement_run g w x) (discarded_run g w step))))
  statement_form_run g w k s.break_statement r m = gives Break r m
  statement_form_run g w k s.continue_statement r m = gives Continue r m
  statement_form_run g w k (s.return_statement e) r m = return_run g w e r m

  -- the second branch of an `if`, which may be missing
  pub otherwise_run : {S : Type 0} → Setting → World S → MaybeStmtTree → List ℤ → S → Ran Flow S
  otherwise_run g w s.no_statement r m = gives Normal r m
  otherwise_run g w (s.some_statement x) r m = entered (statement_node x) (statement_run g w x r m)

  pub statements_run : {S : Type 0} → Setting → World S → StmtTrees → List ℤ → S → Ran Flow S
  statements_run g w s.no_statements r m = gives Normal r m
  statements_run g w (s.then_statement x xs) r m = next (statement_run g w x r m) (λ r m. statements_run g w xs r m)

  -- the parts of a block in order (C11 6.8.2)
  pub parts_run : {S : Type 0} → Setting → World S → PartTrees → List ℤ → S → Ran Flow S
  parts_run g w s.no_parts r m = gives Normal r m
  parts_run g w (s.then_part p ps) r m = next (part_run g w p r m) (λ r m. parts_run g w ps r m)

  pub part_run : {S : Type 0} → Setting → World S → PartTree → List ℤ → S → Ran Flow S
  part_run g w (s.local d) r m = declaration_run g w d r m
  part_run g w (s.run x) r m = statement_run g w x r m

  -- the sections of a `switch` behind the first n: each is entered that control falls into
  pub sections_run : {S : Type 0} → Setting → World S → SectionTrees → ℕ → List ℤ → S → Ran Flow S
  sections_run g w s.no_sections n r m = gives Normal r m
  sections_run g w (s.then_section x xs) zero r m = next (section_run g w x r m) (λ r m. sections_run g w xs zero r m)
  sections_run g w (s.then_section x xs) (suc n) r m = sections_run g w xs n r m

  pub section_run : {S : Type 0} → Setting → World S → SectionTree → List ℤ → S → Ran Flow S
  section_run g w (s.section n ls body) r m = entered n.number (statements_run g w body r m)
