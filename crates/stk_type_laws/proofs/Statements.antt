-- Typing gives a statement one fact for each of its nodes.
use Rattle.std.proofs.Common.{◌≡◌, ℕ, suc, ◌+◌, true, not, ◌&&◌, List, [], ◌∷◌, length, Option, Some, None, refl, ap, ◌∙◌, arith}
use Rattle.std.specs.Prelude.{if◌then◌else◌}
use Rattle.stk_ctype.specs.declared.kind.IntKind.{IntKind}
use Rattle.stk_tree.specs.Syntax.{ExprTree, MaybeExprTree, StartTree, LabelTree, LabelTrees, StmtTree, StmtTrees, MaybeStmtTree, StmtFormTree, PartTree, PartTrees, SectionTree, SectionTrees}
use Rattle.stk_tree.specs.Syntax as s
use Rattle.stk_tree.specs.Nodes.{expression_nodes, maybe_expression_nodes, start_nodes, label_nodes, labels_nodes, statement_nodes, statements_nodes, maybe_statement_nodes, statement_form_nodes, part_nodes, parts_nodes, section_nodes, sections_nodes}
use Rattle.stk_tree.specs.Levels.{comma_level}
use Rattle.stk_tree.specs.Placed.{expression_placed, optional_placed, start_placed, labels_placed, some_labels, may_precede, ends_open, statement_placed, statements_placed, statement_form_placed, part_placed, parts_placed, section_placed, sections_placed}
use Rattle.stk_type_rules.specs.Facts.{Fact, Fits, plain}
use Rattle.stk_type_rules.specs.Outcome.{Outcome, Good, Refused, and_then, finish}
use Rattle.stk_type_rules.specs.Types.{kind_of}
use Rattle.stk_typing.specs.Locals.{Local}
use Rattle.stk_typing.specs.Scope.{Scope}
use Rattle.stk_typing.specs.Typing.{expression_typed}
use Rattle.stk_function_types.specs.Bodies.{Body, with_more, opened, looped, switched}
use Rattle.stk_function_types.specs.Sections.{Labelled, unlabelled, carried, with_default, with_case, last_numbered, numbered, label_typed, labels_typed, section_rule}
use Rattle.stk_function_types.specs.Statements.{maybe_typed, discarded_rule, test_rule, switch_rule, for_rule, return_rule, Started, start_typed, statement_typed, form_typed, maybe_statement_typed, statements_typed, parts_typed, part_typed, sections_typed, section_typed}
use Rattle.stk_type_laws.proofs.Stretches.{Counts, counts_then, counts_own, counts_given, counts_one, counts_two, counts_three, counts_mapped, not_refused}
use Rattle.stk_type_laws.proofs.TypedCounts.{expression_count}
use Rattle.stk_type_laws.proofs.Rulings.{both_true}
use Rattle.stk_type_laws.proofs.Locals.{declaration_count}

-- ---- one fact for each node: labels

numbered_length : (ts : List Fact) → length (last_numbered ts) ≡ length ts
numbered_length [] = refl
numbered_length (x ∷ []) = refl
numbered_length (x ∷ y ∷ ys) = ap suc (numbered_length (y ∷ ys))

numbered_count : (o : Outcome Fact) (m : ℕ) → Counts o m → Counts (numbered o) m
numbered_count (Good x t) m c = counts_given x (last_numbered t) m (numbered_length t ∙ c.by x t refl)
numbered_count (Refused n r) m c = record { by = λ x ts e. absurd (not_refused n r x ts e) }

label_count : (x : LabelTree) (scope : Scope) (kind : Option IntKind) (l : Labelled) → Counts (label_typed scope kind l x) (label_nodes x)
label_count s.default_label scope kind l = counts_given (with_default l) [] 0 refl
label_count (s.case_label e) scope kind l = counts_mapped (λ (x : Fact). with_case kind l x.constancy) (numbered_count (expression_typed scope e) (expression_nodes e) (expression_count e scope))

pub labels_count : (xs : LabelTrees) (scope : Scope) (kind : Option IntKind) (l : Labelled) → Counts (labels_typed scope kind l xs) (labels_nodes xs)
labels_count s.no_labels scope kind l = counts_given l [] 0 refl
labels_count (s.then_label x xs) scope kind l =
    counts_then (label_typed scope kind l x) (λ m. labels_typed scope kind m xs) (label_nodes x) (labels_nodes xs) (label_nodes x + labels_nodes xs) refl (label_count x scope kind l) (λ m. labels_count xs scope kind m)

-- ---- one fact for each node: statements

pub maybe_count : (e : MaybeExprTree) (scope : Scope) → Counts (maybe_typed scope e) (maybe_expression_nodes e)
maybe_count s.no_expression scope = counts_given None [] 0 refl
maybe_count (s.some_expression e) scope = counts_mapped (λ (x : Fact). Some x) (expression_count e scope)

abbrev pub declares_only : List Local → Started
declares_only ls = record { locals = ls; value = None }

abbrev pub starts_with : Option Fact → Started
starts_with x = record { locals = []; value = x }

pub start_count : (x : StartTree) (b : Body) → start_placed x ≡ true → Counts (start_typed b x) (start_nodes x)
start_count (s.start_declaration d) b placed = counts_mapped declares_only (declaration_count b d placed)
start_count (s.start_expression e) b placed = counts_mapped starts_with (maybe_count e b.scope)

-- what is asked of a statement that may be missing
abbrev pub MaybePlaced : MaybeStmtTree → Type 0
MaybePlaced s.no_statement = Unit {0}
MaybePlaced (s.some_statement x) = statement_placed x ≡ true

pub record IfPlaced (x : StmtTree) (y : MaybeStmtTree) : Type 0 where
  pub held : statement_placed x ≡ true
  pub other : MaybePlaced y

pub if_placed : (e : ExprTree) (x : StmtTree) (y : MaybeStmtTree) → statement_form_placed (s.if_statement e x y) ≡ true → IfPlaced x y
if_placed e x s.no_statement p = record { held = (both_true (expression_placed comma_level e) (statement_placed x) p).1; other = tt }
if_placed e x (s.some_statement y) p =
    let a = both_true (expression_placed comma_level e && statement_placed x && not (ends_open x)) (statement_placed y) p in
    let b = both_true (expression_placed comma_level e && statement_placed x) (not (ends_open x)) a.0 in
    record { held = (both_true (expression_placed comma_level e) (statement_placed x) b.0).1; other = a.1 }

pub record ForPlaced (first : StartTree) (x : StmtTree) : Type 0 where
  pub start : start_placed first ≡ true
  pub body : statement_placed x ≡ true

pub for_placed : (first : StartTree) (test step : MaybeExprTree) (x : StmtTree) → statement_form_placed (s.for_statement first test step x) ≡ true → ForPlaced first x
for_placed first test step x p =
    let a = both_true (start_placed first && optional_placed test && optional_placed step) (statement_placed x) p in
    let b = both_true (start_placed first && optional_placed test) (optional_placed step) a.0 in
    record { start = (both_true (start_placed first) (optional_placed test) b.0).0; body = a.1 }

-- the body of a `for`, behind its start
abbrev pub for_rest : Body → ℕ → MaybeExprTree → MaybeExprTree → StmtTree → Started → Outcome Fact
for_rest b k test step x first =
    let inner = with_more (opened b) first.locals in
    and_then (maybe_typed inner.scope test) (λ t. and_then (maybe_typed inner.scope step) (λ v. and_then (statement_typed (looped inner) x) (λ u. finish k (for_rule first.value t v))))

abbrev pub section_rest : Body → ℕ → StmtTrees → Labelled → Outcome Labelled
section_rest b k xs m = and_then (statements_typed b xs) (λ u. and_then (finish k (section_rule m)) (λ x. Good m []))

mutual
  pub statement_count : (x : StmtTree) (b : Body) → statement_placed x ≡ true → Counts (statement_typed b x) (statement_nodes x)
  statement_count (s.statement node f) b placed = form_count f b node.number placed

  form_count : (f : StmtFormTree) (b : Body) (k : ℕ) → statement_form_placed f ≡ true → Counts (form_typed b k f) (statement_form_nodes f + 1)
  form_count (s.block ps) b k placed = counts_one k (λ u. Fits plain) (parts_count ps (opened b) placed)
  form_count (s.expression_statement e) b k placed = counts_one k discarded_rule (maybe_count e b.scope)
  form_count (s.if_statement e x y) b k placed =
      let p = if_placed e x y placed in
      counts_three k (λ (t : Fact) (u : Fact) (v : Unit {0}). test_rule (Some t)) (expression_count e b.scope) (statement_count x b p.held) (maybe_statement_count y b p.other)
  form_count (s.switch_statement e ss) b k placed =
      counts_then (expression_typed b.scope e) (λ t. and_then (sections_typed (switched b) (kind_of t.ty) unlabelled ss) (λ l. finish k (switch_rule (kind_of t.ty)))) (expression_nodes e) (sections_nodes ss + 1) (expression_nodes e + sections_nodes ss + 1) (omega arith)
      (expression_count e b.scope) (λ t. counts_one k (λ l. switch_rule (kind_of t.ty)) (sections_count ss (switched b) (kind_of t.ty) unlabelled (both_true (expression_placed comma_level e) (sections_placed ss) placed).1))
  form_count (s.while_statement e x) b k placed =
      counts_two k (λ (t : Fact) (u : Fact). test_rule (Some t)) (expression_count e b.scope) (statement_count x (looped b) (both_true (expression_placed comma_level e) (statement_placed x) placed).1)
  form_count (s.do_statement x e) b k placed =
      counts_two k (λ (u : Fact) (t : Fact). test_rule (Some t)) (statement_count x (looped b) (both_true (statement_placed x) (expression_placed comma_level e) placed).0) (expression_count e b.scope)
  form_count (s.for_statement first test step x) b k placed =
      let p = for_placed first test step x placed in
      counts_then (start_typed (opened b) first) (λ st. for_rest b k test step x st) (start_nodes first) (maybe_expression_nodes test + maybe_expression_nodes step + statement_nodes x + 1) (start_nodes first + maybe_expression_nodes test + maybe_expression_nodes step + statement_nodes x + 1) (omega arith)
      (start_count first (opened b) p.start)
      (λ st.
      let inner = with_more (opened b) st.locals in
      counts_three k (λ t v u. for_rule st.value t v) (maybe_count test inner.scope) (maybe_count step inner.scope) (statement_count x (looped inner) p.body))
  form_count s.break_statement b k placed = counts_own k _
  form_count s.continue_statement b k placed = counts_own k _
  form_count (s.return_statement e) b k placed = counts_one k (return_rule b.returns) (maybe_count e b.scope)

  pub maybe_statement_count : (y : MaybeStmtTree) (b : Body) → MaybePlaced y → Counts (maybe_statement_typed b y) (maybe_statement_nodes y)
  maybe_statement_count s.no_statement b placed = counts_given tt [] 0 refl
  maybe_statement_count (s.some_statement x) b placed = counts_mapped (λ (u : Fact). tt) (statement_count x b placed)

  pub statements_count : (xs : StmtTrees) (b : Body) → statements_placed xs ≡ true → Counts (statements_typed b xs) (statements_nodes xs)
  statements_count s.no_statements b placed = counts_given tt [] 0 refl
  statements_count (s.then_statement x xs) b placed =
      let p = both_true (statement_placed x) (statements_placed xs) placed in
      counts_then (statement_typed b x) (λ u. statements_typed b xs) (statement_nodes x) (statements_nodes xs) (statement_nodes x + statements_nodes xs) refl (statement_count x b p.0) (λ u. statements_count xs b p.1)

  pub parts_count : (xs : PartTrees) (b : Body) → parts_placed xs ≡ true → Counts (parts_typed b xs) (parts_nodes xs)
  parts_count s.no_parts b placed = counts_given tt [] 0 refl
  parts_count (s.then_part x xs) b placed =
      let p = both_true (part_placed x) (parts_placed xs) placed in
      counts_then (part_typed b x) (λ ls. parts_typed (with_more b ls) xs) (part_nodes x) (parts_nodes xs) (part_nodes x + parts_nodes xs) refl (part_count x b p.0) (λ ls. parts_count xs (with_more b ls) p.1)

  pub part_count : (x : PartTree) (b : Body) → part_placed x ≡ true → Counts (part_typed b x) (part_nodes x)
  part_count (s.local d) b placed = declaration_count b d placed
  part_count (s.run x) b placed = counts_mapped {B = List Local} (λ (u : Fact). []) (statement_count x b placed)

  pub sections_count : (xs : SectionTrees) (b : Body) (kind : Option IntKind) (l : Labelled) → sections_placed xs ≡ true → Counts (sections_typed b kind l xs) (sections_nodes xs)
  sections_count s.no_sections b kind l placed = counts_given l [] 0 refl
  sections_count (s.then_section x xs) b kind l placed =
      let p = both_true (may_precede x xs && section_placed x) (sections_placed xs) placed in
      counts_then (section_typed b kind l x) (λ m. sections_typed b kind m xs) (section_nodes x) (sections_nodes xs) (section_nodes x + sections_nodes xs) refl
      (section_count x b kind l (both_true (may_precede x xs) (section_placed x) p.0).1) (λ m. sections_count xs b kind m p.1)

  pub section_count : (x : SectionTree) (b : Body) (kind : Option IntKind) (l : Labelled) → section_placed x ≡ true → Counts (section_typed b kind l x) (section_nodes x)
  section_count (s.section node ls xs) b kind l placed =
      let p = both_true (some_labels ls && labels_placed ls) (statements_placed xs) placed in
      counts_then (labels_typed b.scope kind (carried l) ls) (λ m. section_rest b node.number xs m) (labels_nodes ls) (statements_nodes xs + 1) (labels_nodes ls + statements_nodes xs + 1) (omega arith)
      (labels_count ls b.scope kind (carried l))
      (λ m. counts_then (statements_typed b xs) (λ u. and_then (finish node.number (section_rule m)) (λ x. Good m [])) (statements_nodes xs) 1 (statements_nodes xs + 1) refl
      (statements_count xs b p.1) (λ u. counts_mapped (λ (x : Fact). m) (counts_own node.number (section_rule m))))
