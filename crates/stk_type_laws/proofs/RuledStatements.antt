-- The facts of the evaluated nodes of statements are those of their rules.
use Rattle.std.proofs.Common.{◌≡◌, ◌∙◌, ℕ, ◌+◌, Bool, true, false, ◌&&◌, ◌||◌, List, [], ◌∷◌, ◌++◌, length, Option, Some, None, ap}
use Rattle.std.specs.Prelude.{if◌then◌else◌}
use Rattle.stk_ctype.specs.declared.kind.IntKind.{IntKind}
use Rattle.stk_tree.specs.Syntax.{MaybeExprTree, StartTree, LabelTree, LabelTrees, StmtTree, StmtTrees, MaybeStmtTree, StmtFormTree, PartTree, PartTrees, SectionTree, SectionTrees}
use Rattle.stk_tree.specs.Syntax as s
use Rattle.stk_tree.specs.Nodes.{expression_nodes, maybe_expression_nodes, start_nodes, labels_nodes, statement_nodes, part_nodes, section_nodes}
use Rattle.stk_tree.specs.Levels.{comma_level}
use Rattle.stk_tree.specs.Placed.{expression_placed, start_placed, labels_placed, some_labels, may_precede, statement_placed, statements_placed, statement_form_placed, part_placed, parts_placed, section_placed, sections_placed}
use Rattle.stk_type_rules.specs.Facts.{Fact, Breaks, Fits, plain}
use Rattle.stk_type_rules.specs.Outcome.{Good, and_then, finish}
use Rattle.stk_type_rules.specs.Rules.{has_scalar}
use Rattle.stk_type_rules.specs.Types.{kind_of}
use Rattle.stk_typing.specs.Locals.{Local}
use Rattle.stk_typing.specs.Typing.{expression_typed}
use Rattle.stk_function_types.specs.Bodies.{with_more, opened, looped, switched}
use Rattle.stk_function_types.specs.Locals.{declaration_typed}
use Rattle.stk_function_types.specs.Sections.{Labelled, unlabelled, carried, labels_typed, section_rule}
use Rattle.stk_function_types.specs.Statements.{maybe_typed, has_struct, lacks_scalar, discarded_rule, test_rule, switch_rule, for_rule, return_rule, Started, start_typed, statement_typed, form_typed, maybe_statement_typed, statements_typed, parts_typed, part_typed, sections_typed, section_typed}
use Rattle.stk_meaning.specs.Typings.{Typing}
use Rattle.stk_meaning.specs.Visits.{Role, reading, as_test, Visit, maybe_visits, start_visits, label_visits, labels_visits, statement_visits, statement_form_visits, maybe_statement_visits, statements_visits, parts_visits, part_visits, sections_visits, section_visits}
use Rattle.stk_run_laws.specs.Visits.{EachVisit}
use Rattle.stk_type_laws.proofs.Stretches.{Stand, first_stands, rest_stands, steps, one, two, three, mapped}
use Rattle.stk_type_laws.proofs.TypedCounts.{expression_count}
use Rattle.stk_type_laws.proofs.Rulings.{both_true, denied_true, passed}
use Rattle.stk_type_laws.proofs.From.{maybe_from, start_from, statement_from, statement_form_from, maybe_statement_from, statements_from, parts_from, part_from, sections_from, section_from}
use Rattle.stk_type_laws.proofs.Locals.{Around}
use Rattle.stk_type_laws.proofs.Statements.{labels_count, maybe_count, declares_only, starts_with, start_count, MaybePlaced, if_placed, for_placed, for_rest, section_rest, statement_count, part_count, section_count}
use Rattle.stk_type_laws.proofs.Ruled.{Ground, typing, in_force, body_in, fact_of, RuledTest, RuledStatement, RuledVisit}
use Rattle.stk_type_laws.proofs.RuledExpressions.{expression_ruled}
use Rattle.stk_type_laws.proofs.RuledLocals.{declaration_ruled}

-- ---- expressions of statements

maybe_ruled : (c : Ground) (e : MaybeExprTree) (role : Role) (n : ℕ) (ls : List Local) (o : Option Fact) (ts : List Fact) → maybe_typed (in_force c ls None) e ≡ Good o ts → Stand c.facts n ts → maybe_from n e
    → EachVisit (RuledVisit c) (maybe_visits (typing c) role e)
maybe_ruled c s.no_expression role n ls o ts eq stand from = tt
maybe_ruled c (s.some_expression e) role n ls o ts eq stand from =
    let m = mapped (expression_typed (in_force c ls None) e) (λ (x : Fact). Some x) o ts eq in
    (expression_ruled c e n role ls None m.value ts m.gives stand from).visits

-- ---- what is tested is a scalar

test_ruled : (x y u : Fact) → y ≡ x → test_rule (Some x) ≡ Fits u → has_scalar y ≡ true
test_ruled x y u same e = ap has_scalar same ∙ denied_true (has_scalar x) (passed (lacks_scalar (Some x)) (Fits plain) 6 u e).test

-- the same of the test of a `for`
maybe_tested : (c : Ground) (e : MaybeExprTree) (n : ℕ) (ls : List Local) (o : Option Fact) (ts : List Fact) → maybe_typed (in_force c ls None) e ≡ Good o ts → Stand c.facts n ts → maybe_from n e
    → lacks_scalar o ≡ false → RuledTest c.facts e
maybe_tested c s.no_expression n ls o ts eq stand from fits = tt
maybe_tested c (s.some_expression e) n ls o ts eq stand from fits =
    let m = mapped (expression_typed (in_force c ls None) e) (λ (x : Fact). Some x) o ts eq in
    let k = expression_ruled c e n as_test ls None m.value ts m.gives stand from in
    ap has_scalar k.at ∙ denied_true (has_scalar m.value) (ap lacks_scalar m.is ∙ fits)

-- ---- labels aren't evaluated

label_each : (P : Visit → Type 0) (ty : Typing) (l : LabelTree) → EachVisit P (label_visits ty l)
label_each P ty s.default_label = tt
label_each P ty (s.case_label e) = tt

labels_each : (P : Visit → Type 0) (ty : Typing) (ls : LabelTrees) → EachVisit P (labels_visits ty ls)
labels_each P ty s.no_labels = tt
labels_each P ty (s.then_label l ls) = (label_each P ty l, labels_each P ty ls)

-- ---- where the parts of a statement stand

abbrev opened_around : List Local → Around → Around
opened_around ls a = record { taken = a.taken; outer = length ls; returns = a.returns; can_break = a.can_break; can_continue = a.can_continue }

abbrev looped_around : Around → Around
looped_around a = record { taken = a.taken; outer = a.outer; returns = a.returns; can_break = true; can_continue = true }

abbrev switched_around : Around → Around
switched_around a = record { taken = a.taken; outer = a.outer; returns = a.returns; can_break = true; can_continue = a.can_continue }

-- the first part of a `for`
start_ruled : (c : Ground) (x : StartTree) (n : ℕ) (ls : List Local) (a : Around) (first : Started) (ts : List Fact) → start_placed x ≡ true → start_typed (body_in c ls a) x ≡ Good first ts
    → Stand c.facts n ts → start_from n x → EachVisit (RuledVisit c) (start_visits (typing c) x)
start_ruled c (s.start_declaration d) n ls a first ts placed eq stand from =
    let m = mapped (declaration_typed (body_in c ls a) d) declares_only first ts eq in
    declaration_ruled c d n ls a m.value ts placed m.gives stand from
start_ruled c (s.start_expression e) n ls a first ts placed eq stand from =
    let m = mapped (maybe_typed (in_force c ls None) e) starts_with first ts eq in
    maybe_ruled c e reading n ls m.value ts m.gives stand from

-- ---- statements

mutual
  pub statement_ruled : (c : Ground) (x : StmtTree) (arm : Bool) (n : ℕ) (ls : List Local) (a : Around) (u : Fact) (ts : List Fact) → statement_placed x ≡ true → statement_typed (body_in c ls a) x ≡ Good u ts
      → Stand c.facts n ts → statement_from n x → EachVisit (RuledVisit c) (statement_visits (typing c) arm x)
  statement_ruled c (s.statement node f) arm n ls a u ts placed eq stand from = form_ruled c f node.number n ls a u ts placed eq stand from

  form_ruled : (c : Ground) (f : StmtFormTree) (k n : ℕ) (ls : List Local) (a : Around) (u : Fact) (ts : List Fact) → statement_form_placed f ≡ true → form_typed (body_in c ls a) k f ≡ Good u ts
      → Stand c.facts n ts → statement_form_from n f → EachVisit (RuledVisit c) (statement_form_visits (typing c) f) × RuledStatement c.facts f
  form_ruled c (s.block ps) k n ls a u ts placed eq stand from =
      let o = one (parts_typed (opened (body_in c ls a)) ps) (λ v. Fits plain) k u ts eq in
      (parts_ruled c ps n ls (opened_around ls a) o.value o.first placed o.gives (first_stands c.facts n ts o.first (u ∷ []) o.all stand) from, tt)
  form_ruled c (s.expression_statement e) k n ls a u ts placed eq stand from =
      let o = one (maybe_typed (in_force c ls None) e) discarded_rule k u ts eq in
      (maybe_ruled c e reading n ls o.value o.first o.gives (first_stands c.facts n ts o.first (u ∷ []) o.all stand) from, tt)
  form_ruled c (s.if_statement e x y) k n ls a u ts placed eq stand from =
      let b = body_in c ls a in
      let p = if_placed e x y placed in
      let o = three (expression_typed (in_force c ls None) e) (statement_typed b x) (maybe_statement_typed b y) (λ (t : Fact) (v : Fact) (z : Unit {0}). test_rule (Some t)) k u ts eq in
      let l = o.then.then in
      let stand_b = rest_stands c.facts n (expression_nodes e) ts o.first o.rest o.all ((expression_count e (in_force c ls None)).by o.value o.first o.gives) stand in
      let stand_c = rest_stands c.facts (n + expression_nodes e) (statement_nodes x) o.rest o.then.first o.then.rest o.then.all ((statement_count x b p.held).by o.then.value o.then.first o.then.gives) stand_b in
      let q = expression_ruled c e n as_test ls None o.value o.first o.gives (first_stands c.facts n ts o.first o.rest o.all stand) from.0 in (
        (
          q.visits,
          (
            statement_ruled c x true (n + expression_nodes e) ls a o.then.value o.then.first p.held o.then.gives (first_stands c.facts (n + expression_nodes e) o.rest o.then.first o.then.rest o.then.all stand_b) from.1,
            maybe_statement_ruled c y (n + expression_nodes e + statement_nodes x) ls a l.value l.first p.other l.gives (first_stands c.facts (n + expression_nodes e + statement_nodes x) o.then.rest l.first (u ∷ []) l.all stand_c) from.2,
          ),
        ),
        test_ruled o.value (fact_of c.facts e) u q.at l.rule,
      )
  form_ruled c (s.switch_statement e ss) k n ls a u ts placed eq stand from =
      let b = body_in c ls a in
      let p = both_true (expression_placed comma_level e) (sections_placed ss) placed in
      let o = steps (expression_typed (in_force c ls None) e) (λ t. and_then (sections_typed (switched b) (kind_of t.ty) unlabelled ss) (λ l. finish k (switch_rule (kind_of t.ty)))) u ts eq in
      let l = one (sections_typed (switched b) (kind_of o.value.ty) unlabelled ss) (λ z. switch_rule (kind_of o.value.ty)) k u o.rest o.then in
      let stand_b = rest_stands c.facts n (expression_nodes e) ts o.first o.rest o.all ((expression_count e (in_force c ls None)).by o.value o.first o.gives) stand in (
        (
          (expression_ruled c e n reading ls None o.value o.first o.gives (first_stands c.facts n ts o.first o.rest o.all stand) from.0).visits,
          sections_ruled c ss (n + expression_nodes e) ls (switched_around a) (kind_of o.value.ty) unlabelled l.value l.first p.1 l.gives (first_stands c.facts (n + expression_nodes e) o.rest l.first (u ∷ []) l.all stand_b) from.1,
        ),
        tt,
      )
  form_ruled c (s.while_statement e x) k n ls a u ts placed eq stand from =
      let b = body_in c ls a in
      let p = both_true (expression_placed comma_level e) (statement_placed x) placed in
      let o = two (expression_typed (in_force c ls None) e) (statement_typed (looped b) x) (λ (t : Fact) (v : Fact). test_rule (Some t)) k u ts eq in
      let stand_b = rest_stands c.facts n (expression_nodes e) ts o.first o.rest o.all ((expression_count e (in_force c ls None)).by o.value o.first o.gives) stand in
      let q = expression_ruled c e n as_test ls None o.value o.first o.gives (first_stands c.facts n ts o.first o.rest o.all stand) from.0 in (
        (
          q.visits,
          statement_ruled c x true (n + expression_nodes e) ls (looped_around a) o.then.value o.then.first p.1 o.then.gives (first_stands c.facts (n + expression_nodes e) o.rest o.then.first (u ∷ []) o.then.all stand_b) from.1,
        ),
        test_ruled o.value (fact_of c.facts e) u q.at o.then.rule,
      )
  form_ruled c (s.do_statement x e) k n ls a u ts placed eq stand from =
      let b = body_in c ls a in
      let p = both_true (statement_placed x) (expression_placed comma_level e) placed in
      let o = two (statement_typed (looped b) x) (expression_typed (in_force c ls None) e) (λ (v : Fact) (t : Fact). test_rule (Some t)) k u ts eq in
      let stand_b = rest_stands c.facts n (statement_nodes x) ts o.first o.rest o.all ((statement_count x (looped b) p.0).by o.value o.first o.gives) stand in
      let q = expression_ruled c e (n + statement_nodes x) as_test ls None o.then.value o.then.first o.then.gives (first_stands c.facts (n + statement_nodes x) o.rest o.then.first (u ∷ []) o.then.all stand_b) from.1 in (
        (statement_ruled c x true n ls (looped_around a) o.value o.first p.0 o.gives (first_stands c.facts n ts o.first o.rest o.all stand) from.0, q.visits),
        test_ruled o.then.value (fact_of c.facts e) u q.at o.then.rule,
      )
  form_ruled c (s.for_statement first test step x) k n ls a u ts placed eq stand from =
      let inside = opened_around ls a in
      let b = body_in c ls inside in
      let p = for_placed first test step x placed in
      let o = steps (start_typed b first) (for_rest (body_in c ls a) k test step x) u ts eq in
      let st = o.value in
      let more = ls ++ st.locals in
      let l = three (maybe_typed (in_force c more None) test) (maybe_typed (in_force c more None) step) (statement_typed (looped (body_in c more inside)) x) (λ t v z. for_rule st.value t v) k u o.rest o.then in
      let h = l.then.then in
      let nb = n + start_nodes first in
      let nc = nb + maybe_expression_nodes test in
      let nd = nc + maybe_expression_nodes step in
      let stand_b = rest_stands c.facts n (start_nodes first) ts o.first o.rest o.all ((start_count first b p.start).by st o.first o.gives) stand in
      let stand_c = rest_stands c.facts nb (maybe_expression_nodes test) o.rest l.first l.rest l.all ((maybe_count test (in_force c more None)).by l.value l.first l.gives) stand_b in
      let stand_d = rest_stands c.facts nc (maybe_expression_nodes step) l.rest l.then.first l.then.rest l.then.all ((maybe_count step (in_force c more None)).by l.then.value l.then.first l.then.gives) stand_c in (
        (
          start_ruled c first n ls inside st o.first p.start o.gives (first_stands c.facts n ts o.first o.rest o.all stand) from.0,
          (
            maybe_ruled c test as_test nb more l.value l.first l.gives (first_stands c.facts nb o.rest l.first l.rest l.all stand_b) from.1,
            (
              maybe_ruled c step reading nc more l.then.value l.then.first l.then.gives (first_stands c.facts nc l.rest l.then.first l.then.rest l.then.all stand_c) from.2,
              statement_ruled c x true nd more (looped_around inside) h.value h.first p.body h.gives (first_stands c.facts nd l.then.rest h.first (u ∷ []) h.all stand_d) from.3,
            ),
          ),
        ),
        maybe_tested c test nb more l.value l.first l.gives (first_stands c.facts nb o.rest l.first l.rest l.all stand_b) from.1
            (passed (lacks_scalar l.value) (if has_struct st.value || has_struct l.then.value then Breaks 9 else Fits plain) 6 u h.rule).test,
      )
  form_ruled c s.break_statement k n ls a u ts placed eq stand from = (tt, tt)
  form_ruled c s.continue_statement k n ls a u ts placed eq stand from = (tt, tt)
  form_ruled c (s.return_statement e) k n ls a u ts placed eq stand from =
      let o = one (maybe_typed (in_force c ls None) e) (return_rule a.returns) k u ts eq in
      (maybe_ruled c e reading n ls o.value o.first o.gives (first_stands c.facts n ts o.first (u ∷ []) o.all stand) from, tt)

  maybe_statement_ruled : (c : Ground) (y : MaybeStmtTree) (n : ℕ) (ls : List Local) (a : Around) (u : Unit {0}) (ts : List Fact) → MaybePlaced y → maybe_statement_typed (body_in c ls a) y ≡ Good u ts
      → Stand c.facts n ts → maybe_statement_from n y → EachVisit (RuledVisit c) (maybe_statement_visits (typing c) y)
  maybe_statement_ruled c s.no_statement n ls a u ts placed eq stand from = tt
  maybe_statement_ruled c (s.some_statement x) n ls a u ts placed eq stand from =
      let m = mapped (statement_typed (body_in c ls a) x) (λ (v : Fact). tt) u ts eq in
      statement_ruled c x true n ls a m.value ts placed m.gives stand from

  statements_ruled : (c : Ground) (xs : StmtTrees) (n : ℕ) (ls : List Local) (a : Around) (u : Unit {0}) (ts : List Fact) → statements_placed xs ≡ true → statements_typed (body_in c ls a) xs ≡ Good u ts
      → Stand c.facts n ts → statements_from n xs → EachVisit (RuledVisit c) (statements_visits (typing c) xs)
  statements_ruled c s.no_statements n ls a u ts placed eq stand from = tt
  statements_ruled c (s.then_statement x xs) n ls a u ts placed eq stand from =
      let b = body_in c ls a in
      let p = both_true (statement_placed x) (statements_placed xs) placed in
      let o = steps (statement_typed b x) (λ v. statements_typed b xs) u ts eq in
      let stand_b = rest_stands c.facts n (statement_nodes x) ts o.first o.rest o.all ((statement_count x b p.0).by o.value o.first o.gives) stand in (
        statement_ruled c x false n ls a o.value o.first p.0 o.gives (first_stands c.facts n ts o.first o.rest o.all stand) from.0,
        statements_ruled c xs (n + statement_nodes x) ls a u o.rest p.1 o.then stand_b from.1,
      )

  pub parts_ruled : (c : Ground) (xs : PartTrees) (n : ℕ) (ls : List Local) (a : Around) (u : Unit {0}) (ts : List Fact) → parts_placed xs ≡ true → parts_typed (body_in c ls a) xs ≡ Good u ts
      → Stand c.facts n ts → parts_from n xs → EachVisit (RuledVisit c) (parts_visits (typing c) xs)
  parts_ruled c s.no_parts n ls a u ts placed eq stand from = tt
  parts_ruled c (s.then_part x xs) n ls a u ts placed eq stand from =
      let b = body_in c ls a in
      let p = both_true (part_placed x) (parts_placed xs) placed in
      let o = steps (part_typed b x) (λ more. parts_typed (with_more b more) xs) u ts eq in
      let stand_b = rest_stands c.facts n (part_nodes x) ts o.first o.rest o.all ((part_count x b p.0).by o.value o.first o.gives) stand in
      (part_ruled c x n ls a o.value o.first p.0 o.gives (first_stands c.facts n ts o.first o.rest o.all stand) from.0, parts_ruled c xs (n + part_nodes x) (ls ++ o.value) a u o.rest p.1 o.then stand_b from.1)

  part_ruled : (c : Ground) (x : PartTree) (n : ℕ) (ls : List Local) (a : Around) (new : List Local) (ts : List Fact) → part_placed x ≡ true → part_typed (body_in c ls a) x ≡ Good new ts
      → Stand c.facts n ts → part_from n x → EachVisit (RuledVisit c) (part_visits (typing c) x)
  part_ruled c (s.local d) n ls a new ts placed eq stand from = declaration_ruled c d n ls a new ts placed eq stand from
  part_ruled c (s.run x) n ls a new ts placed eq stand from =
      let m = mapped {B = List Local} (statement_typed (body_in c ls a) x) (λ (v : Fact). []) new ts eq in
      statement_ruled c x false n ls a m.value ts placed m.gives stand from

  sections_ruled : (c : Ground) (xs : SectionTrees) (n : ℕ) (ls : List Local) (a : Around) (kind : Option IntKind) (l m : Labelled) (ts : List Fact) → sections_placed xs ≡ true → sections_typed (body_in c ls a) kind l xs ≡ Good m ts
      → Stand c.facts n ts → sections_from n xs → EachVisit (RuledVisit c) (sections_visits (typing c) xs)
  sections_ruled c s.no_sections n ls a kind l m ts placed eq stand from = tt
  sections_ruled c (s.then_section x xs) n ls a kind l m ts placed eq stand from =
      let b = body_in c ls a in
      let p = both_true (may_precede x xs && section_placed x) (sections_placed xs) placed in
      let q = (both_true (may_precede x xs) (section_placed x) p.0).1 in
      let o = steps (section_typed b kind l x) (λ z. sections_typed b kind z xs) m ts eq in
      let stand_b = rest_stands c.facts n (section_nodes x) ts o.first o.rest o.all ((section_count x b kind l q).by o.value o.first o.gives) stand in (
        section_ruled c x n ls a kind l o.value o.first q o.gives (first_stands c.facts n ts o.first o.rest o.all stand) from.0,
        sections_ruled c xs (n + section_nodes x) ls a kind o.value m o.rest p.1 o.then stand_b from.1,
      )

  section_ruled : (c : Ground) (x : SectionTree) (n : ℕ) (ls : List Local) (a : Around) (kind : Option IntKind) (l m : Labelled) (ts : List Fact) → section_placed x ≡ true → section_typed (body_in c ls a) kind l x ≡ Good m ts
      → Stand c.facts n ts → section_from n x → EachVisit (RuledVisit c) (section_visits (typing c) x)
  section_ruled c (s.section node labels xs) n ls a kind l m ts placed eq stand from =
      let b = body_in c ls a in
      let p = both_true (some_labels labels && labels_placed labels) (statements_placed xs) placed in
      let o = steps (labels_typed (in_force c ls None) kind (carried l) labels) (section_rest b node.number xs) m ts eq in
      let q = steps (statements_typed b xs) (λ v. and_then (finish node.number (section_rule o.value)) (λ z. Good o.value [])) m o.rest o.then in
      let stand_b = rest_stands c.facts n (labels_nodes labels) ts o.first o.rest o.all ((labels_count labels (in_force c ls None) kind (carried l)).by o.value o.first o.gives) stand in (
        labels_each (RuledVisit c) (typing c) labels,
        (statements_ruled c xs (n + labels_nodes labels) ls a q.value q.first p.1 q.gives (first_stands c.facts (n + labels_nodes labels) o.rest q.first q.rest q.all stand_b) from, tt),
      )
