-- What typing gives of the evaluated nodes of statements.
use Rattle.std.proofs.Common.{◌≡◌, ℕ, ◌+◌, Bool, true, false, ◌||◌, ◌&&◌, List, [], ◌∷◌, ◌++◌, length, Option, Some, None, refl, ap, ◌∙◌, subst}
use Rattle.std.specs.Prelude.{if◌then◌else◌}
use Rattle.stk_ctype.specs.declared.kind.IntKind.{IntKind}
use Rattle.stk_ctype.specs.Types.{TypeTree}
use Rattle.stk_tree.specs.Syntax.{MaybeExprTree, StartTree, LabelTree, LabelTrees, StmtTree, StmtTrees, MaybeStmtTree, StmtFormTree, PartTree, PartTrees, SectionTree, SectionTrees}
use Rattle.stk_tree.specs.Syntax as s
use Rattle.stk_tree.specs.Nodes.{expression_nodes, maybe_expression_nodes, start_nodes, labels_nodes, statement_nodes, part_nodes, section_nodes}
use Rattle.stk_tree.specs.Levels.{comma_level}
use Rattle.stk_tree.specs.Placed.{expression_placed, start_placed, labels_placed, some_labels, may_precede, statement_placed, statements_placed, statement_form_placed, part_placed, parts_placed, section_placed, sections_placed}
use Rattle.stk_type_rules.specs.Facts.{Fact, Breaks, Fits, plain}
use Rattle.stk_type_rules.specs.Outcome.{Good, and_then, finish}
use Rattle.stk_type_rules.specs.Types.{decayed, is_scalar, is_struct, kind_of}
use Rattle.stk_typing.specs.Locals.{Local}
use Rattle.stk_typing.specs.Typing.{expression_typed}
use Rattle.stk_function_types.specs.Bodies.{with_more, opened, looped, switched}
use Rattle.stk_function_types.specs.Locals.{declaration_typed}
use Rattle.stk_function_types.specs.Sections.{Labelled, unlabelled, carried, labels_typed, section_rule}
use Rattle.stk_function_types.specs.Statements.{maybe_typed, has_struct, lacks_scalar, discarded_rule, test_rule, switch_rule, for_rule, return_rule, Started, start_typed, statement_typed, form_typed, maybe_statement_typed, statements_typed, parts_typed, part_typed, sections_typed, section_typed}
use Rattle.stk_meaning.specs.Typings.{Typing}
use Rattle.stk_meaning.specs.Visits.{Role, reading, as_test, Visit, at_statement, at_section, both_visits, one_visit, expression_visits, maybe_visits, start_visits, start_declares, parts_declare, label_visits, labels_visits, statement_visits, statement_form_visits, maybe_statement_visits, statements_visits, parts_visits, part_visits, sections_visits, section_visits}
use Rattle.stk_run_laws.specs.Visits.{EachVisit}
use Rattle.stk_type_laws.proofs.Stretches.{Stand, first_stands, rest_stands, steps, one, two, three, mapped}
use Rattle.stk_type_laws.proofs.TypedCounts.{expression_count}
use Rattle.stk_type_laws.proofs.Rulings.{passed, both_true, both_false, denied_true, not_broken, decayed_no_struct, kind_no_struct}
use Rattle.stk_type_laws.proofs.From.{maybe_from, start_from, statement_from, statement_form_from, maybe_statement_from, statements_from, parts_from, part_from, sections_from, section_from}
use Rattle.stk_type_laws.proofs.Raw.{Part, part_left, part_right, part_scope, RawVisit, suits_any}
use Rattle.stk_type_laws.proofs.Names.{World, typing, ground_of, in_force, AreDeclared, declared_append}
use Rattle.stk_type_laws.proofs.Expressions.{expression_known}
use Rattle.stk_type_laws.proofs.Locals.{Around, body_in, LocalKnown, declaration_known}
use Rattle.stk_type_laws.proofs.Statements.{labels_count, maybe_count, declares_only, starts_with, start_count, MaybePlaced, if_placed, for_placed, for_rest, section_rest, statement_count, part_count, section_count}

-- ---- rules

scalar_only : (o : Option Fact) → lacks_scalar o ≡ false → has_struct o ≡ false
scalar_only None e = refl
scalar_only (Some x) e = decayed_no_struct x.ty (denied_true (is_scalar (decayed x.ty)) e)

discarded_fits : (o : Option Fact) (u : Fact) → discarded_rule o ≡ Fits u → has_struct o ≡ false
discarded_fits o u e = (passed (has_struct o) (Fits plain) 9 u e).test

test_fits : (x u : Fact) → test_rule (Some x) ≡ Fits u → is_struct x.ty ≡ false
test_fits x u e = scalar_only (Some x) (passed (lacks_scalar (Some x)) (Fits plain) 6 u e).test

switch_at : (x u : Fact) (k : Option IntKind) → kind_of x.ty ≡ k → switch_rule k ≡ Fits u → is_struct x.ty ≡ false
switch_at x u None p e = absurd (not_broken 6 u e)
switch_at x u (Some k) p e = kind_no_struct x.ty k p

record ForFits (start test step : Option Fact) : Type 0 where
  first : has_struct start ≡ false
  tested : has_struct test ≡ false
  stepped : has_struct step ≡ false

for_fits : (start test step : Option Fact) (u : Fact) → for_rule start test step ≡ Fits u → ForFits start test step
for_fits start test step u e =
    let p = passed (lacks_scalar test) (if has_struct start || has_struct step then Breaks 9 else Fits plain) 6 u e in
    let q = both_false (has_struct start) (has_struct step) (passed (has_struct start || has_struct step) (Fits plain) 9 u p.rule).test in
    record { first = q.0; tested = scalar_only test p.test; stepped = q.1 }

return_fits : (t : TypeTree) (o : Option Fact) (u : Fact) → return_rule t o ≡ Fits u → has_struct o ≡ false
return_fits t None u e = refl
return_fits t (Some x) u e = (passed (is_struct x.ty) _ 9 u e).test

-- ---- expressions of statements

maybe_known : (w : World) (e : MaybeExprTree) (role : Role) (n : ℕ) (ls : List Local) (o : Option Fact) (ts : List Fact) → AreDeclared w ls → maybe_typed (in_force w ls None) e ≡ Good o ts → Stand w.facts n ts → maybe_from n e
    → Part (maybe_visits (typing w) role e) w.whole → has_struct o ≡ false → EachVisit (RawVisit (ground_of w)) (maybe_visits (typing w) role e)
maybe_known w s.no_expression role n ls o ts declared eq stand from part no_struct = tt
maybe_known w (s.some_expression e) role n ls o ts declared eq stand from part no_struct =
    let m = mapped (expression_typed (in_force w ls None) e) (λ (x : Fact). Some x) o ts eq in
    (expression_known w e n role ls None m.value ts declared m.gives stand from part).visits (suits_any role.use_of m.value.ty (ap has_struct m.is ∙ no_struct))

-- ---- labels aren't evaluated

label_each : (P : Visit → Type 0) (ty : Typing) (l : LabelTree) → EachVisit P (label_visits ty l)
label_each P ty s.default_label = tt
label_each P ty (s.case_label e) = tt

labels_each : (P : Visit → Type 0) (ty : Typing) (ls : LabelTrees) → EachVisit P (labels_visits ty ls)
labels_each P ty s.no_labels = tt
labels_each P ty (s.then_label l ls) = (label_each P ty l, labels_each P ty ls)

-- ---- where the parts of a statement stand

abbrev opened_around : List Local → Around → Around
opened_around ls a = record { taken = a.taken; outer = length ls; returns = a.returns; can_break = a.can_break; can_continue = a.can_continue }

abbrev looped_around : Around → Around
looped_around a = record { taken = a.taken; outer = a.outer; returns = a.returns; can_break = true; can_continue = true }

abbrev switched_around : Around → Around
switched_around a = record { taken = a.taken; outer = a.outer; returns = a.returns; can_break = true; can_continue = a.can_continue }

-- the first part of a `for`
record StartKnown (w : World) (x : StartTree) (first : Started) : Type 0 where
  declared : AreDeclared w first.locals
  visits : has_struct first.value ≡ false → EachVisit (RawVisit (ground_of w)) (start_visits (typing w) x)

start_known : (w : World) (x : StartTree) (n : ℕ) (ls : List Local) (a : Around) (first : Started) (ts : List Fact) → start_placed x ≡ true → AreDeclared w ls → start_typed (body_in w ls a) x ≡ Good first ts
    → Stand w.facts n ts → start_from n x → Part (start_visits (typing w) x) w.whole → StartKnown w x first
start_known w (s.start_declaration d) n ls a first ts placed declared eq stand from part =
    let m = mapped (declaration_typed (body_in w ls a) d) declares_only first ts eq in
    let k = declaration_known w d n ls a m.value ts placed declared m.gives stand from part in
    record { declared = subst (λ (z : Started). AreDeclared w z.locals) m.is k.declared; visits = λ plain. k.visits }
start_known w (s.start_expression e) n ls a first ts placed declared eq stand from part =
    let m = mapped (maybe_typed (in_force w ls None) e) starts_with first ts eq in
    record {
      declared = subst (λ (z : Started). AreDeclared w z.locals) m.is tt;
      visits = λ plain. maybe_known w e reading n ls m.value ts declared m.gives stand from part (ap (λ (z : Started). has_struct z.value) m.is ∙ plain);
    }

-- ---- statements

mutual
  pub statement_known : (w : World) (x : StmtTree) (arm : Bool) (n : ℕ) (ls : List Local) (a : Around) (u : Fact) (ts : List Fact) → statement_placed x ≡ true → AreDeclared w ls → statement_typed (body_in w ls a) x ≡ Good u ts
      → Stand w.facts n ts → statement_from n x → Part (statement_visits (typing w) arm x) w.whole → EachVisit (RawVisit (ground_of w)) (statement_visits (typing w) arm x)
  statement_known w (s.statement node f) arm n ls a u ts placed declared eq stand from part =
      (form_known w f node.number n ls a u ts placed declared eq stand from (part_left (statement_form_visits (typing w) f) (one_visit (at_statement node.number arm f)) part), tt)

  form_known : (w : World) (f : StmtFormTree) (k n : ℕ) (ls : List Local) (a : Around) (u : Fact) (ts : List Fact) → statement_form_placed f ≡ true → AreDeclared w ls → form_typed (body_in w ls a) k f ≡ Good u ts
      → Stand w.facts n ts → statement_form_from n f → Part (statement_form_visits (typing w) f) w.whole → EachVisit (RawVisit (ground_of w)) (statement_form_visits (typing w) f)
  form_known w (s.block ps) k n ls a u ts placed declared eq stand from part =
      let o = one (parts_typed (opened (body_in w ls a)) ps) (λ v. Fits plain) k u ts eq in
      parts_known w ps n ls (opened_around ls a) o.value o.first placed declared o.gives (first_stands w.facts n ts o.first (u ∷ []) o.all stand) from (part_scope (parts_declare ps) (parts_visits (typing w) ps) part)
  form_known w (s.expression_statement e) k n ls a u ts placed declared eq stand from part =
      let o = one (maybe_typed (in_force w ls None) e) discarded_rule k u ts eq in
      maybe_known w e reading n ls o.value o.first declared o.gives (first_stands w.facts n ts o.first (u ∷ []) o.all stand) from part (discarded_fits o.value u o.rule)
  form_known w (s.if_statement e x y) k n ls a u ts placed declared eq stand from part =
      let b = body_in w ls a in
      let p = if_placed e x y placed in
      let o = three (expression_typed (in_force w ls None) e) (statement_typed b x) (maybe_statement_typed b y) (λ (t : Fact) (v : Fact) (z : Unit {0}). test_rule (Some t)) k u ts eq in
      let l = o.then.then in
      let va = expression_visits (typing w) as_test e in
      let vb = statement_visits (typing w) true x in
      let vc = maybe_statement_visits (typing w) y in
      let part_b = part_right va (both_visits vb vc) part in
      let stand_b = rest_stands w.facts n (expression_nodes e) ts o.first o.rest o.all ((expression_count e (in_force w ls None)).by o.value o.first o.gives) stand in
      let stand_c = rest_stands w.facts (n + expression_nodes e) (statement_nodes x) o.rest o.then.first o.then.rest o.then.all ((statement_count x b p.held).by o.then.value o.then.first o.then.gives) stand_b in (
        (expression_known w e n as_test ls None o.value o.first declared o.gives (first_stands w.facts n ts o.first o.rest o.all stand) from.0 (part_left va (both_visits vb vc) part)).visits (test_fits o.value u l.rule),
        (
          statement_known w x true (n + expression_nodes e) ls a o.then.value o.then.first p.held declared o.then.gives (first_stands w.facts (n + expression_nodes e) o.rest o.then.first o.then.rest o.then.all stand_b) from.1 (part_left vb vc part_b),
          maybe_statement_known w y (n + expression_nodes e + statement_nodes x) ls a l.value l.first p.other declared l.gives (first_stands w.facts (n + expression_nodes e + statement_nodes x) o.then.rest l.first (u ∷ []) l.all stand_c) from.2 (part_right vb vc part_b),
        ),
      )
  form_known w (s.switch_statement e ss) k n ls a u ts placed declared eq stand from part =
      let b = body_in w ls a in
      let p = both_true (expression_placed comma_level e) (sections_placed ss) placed in
      let o = steps (expression_typed (in_force w ls None) e) (λ t. and_then (sections_typed (switched b) (kind_of t.ty) unlabelled ss) (λ l. finish k (switch_rule (kind_of t.ty)))) u ts eq in
      let l = one (sections_typed (switched b) (kind_of o.value.ty) unlabelled ss) (λ z. switch_rule (kind_of o.value.ty)) k u o.rest o.then in
      let va = expression_visits (typing w) reading e in
      let vb = sections_visits (typing w) ss in
      let stand_b = rest_stands w.facts n (expression_nodes e) ts o.first o.rest o.all ((expression_count e (in_force w ls None)).by o.value o.first o.gives) stand in (
        (expression_known w e n reading ls None o.value o.first declared o.gives (first_stands w.facts n ts o.first o.rest o.all stand) from.0 (part_left va vb part)).visits (switch_at o.value u (kind_of o.value.ty) refl l.rule),
        sections_known w ss (n + expression_nodes e) ls (switched_around a) (kind_of o.value.ty) unlabelled l.value l.first p.1 declared l.gives (first_stands w.facts (n + expression_nodes e) o.rest l.first (u ∷ []) l.all stand_b) from.1 (part_right va vb part),
      )
  form_known w (s.while_statement e x) k n ls a u ts placed declared eq stand from part =
      let b = body_in w ls a in
      let p = both_true (expression_placed comma_level e) (statement_placed x) placed in
      let o = two (expression_typed (in_force w ls None) e) (statement_typed (looped b) x) (λ (t : Fact) (v : Fact). test_rule (Some t)) k u ts eq in
      let va = expression_visits (typing w) as_test e in
      let vb = statement_visits (typing w) true x in
      let stand_b = rest_stands w.facts n (expression_nodes e) ts o.first o.rest o.all ((expression_count e (in_force w ls None)).by o.value o.first o.gives) stand in (
        (expression_known w e n as_test ls None o.value o.first declared o.gives (first_stands w.facts n ts o.first o.rest o.all stand) from.0 (part_left va vb part)).visits (test_fits o.value u o.then.rule),
        statement_known w x true (n + expression_nodes e) ls (looped_around a) o.then.value o.then.first p.1 declared o.then.gives (first_stands w.facts (n + expression_nodes e) o.rest o.then.first (u ∷ []) o.then.all stand_b) from.1 (part_right va vb part),
      )
  form_known w (s.do_statement x e) k n ls a u ts placed declared eq stand from part =
      let b = body_in w ls a in
      let p = both_true (statement_placed x) (expression_placed comma_level e) placed in
      let o = two (statement_typed (looped b) x) (expression_typed (in_force w ls None) e) (λ (v : Fact) (t : Fact). test_rule (Some t)) k u ts eq in
      let va = statement_visits (typing w) true x in
      let vb = expression_visits (typing w) as_test e in
      let stand_b = rest_stands w.facts n (statement_nodes x) ts o.first o.rest o.all ((statement_count x (looped b) p.0).by o.value o.first o.gives) stand in (
        statement_known w x true n ls (looped_around a) o.value o.first p.0 declared o.gives (first_stands w.facts n ts o.first o.rest o.all stand) from.0 (part_left va vb part),
        (expression_known w e (n + statement_nodes x) as_test ls None o.then.value o.then.first declared o.then.gives (first_stands w.facts (n + statement_nodes x) o.rest o.then.first (u ∷ []) o.then.all stand_b) from.1 (part_right va vb part)).visits (test_fits o.then.value u o.then.rule),
      )
  form_known w (s.for_statement first test step x) k n ls a u ts placed declared eq stand from part =
      let inside = opened_around ls a in
      let b = body_in w ls inside in
      let p = for_placed first test step x placed in
      let o = steps (start_typed b first) (for_rest (body_in w ls a) k test step x) u ts eq in
      let st = o.value in
      let more = ls ++ st.locals in
      let l = three (maybe_typed (in_force w more None) test) (maybe_typed (in_force w more None) step) (statement_typed (looped (body_in w more inside)) x) (λ t v z. for_rule st.value t v) k u o.rest o.then in
      let h = l.then.then in
      let f = for_fits st.value l.value l.then.value u h.rule in
      let va = start_visits (typing w) first in
      let vb = maybe_visits (typing w) as_test test in
      let vc = maybe_visits (typing w) reading step in
      let vd = statement_visits (typing w) true x in
      let part_a = part_scope (start_declares first) (both_visits va (both_visits vb (both_visits vc vd))) part in
      let part_b = part_right va (both_visits vb (both_visits vc vd)) part_a in
      let part_c = part_right vb (both_visits vc vd) part_b in
      let nb = n + start_nodes first in
      let nc = nb + maybe_expression_nodes test in
      let nd = nc + maybe_expression_nodes step in
      let begin = start_known w first n ls inside st o.first p.start declared o.gives (first_stands w.facts n ts o.first o.rest o.all stand) from.0 (part_left va (both_visits vb (both_visits vc vd)) part_a) in
      let all = declared_append w ls st.locals declared begin.declared in
      let stand_b = rest_stands w.facts n (start_nodes first) ts o.first o.rest o.all ((start_count first b p.start).by st o.first o.gives) stand in
      let stand_c = rest_stands w.facts nb (maybe_expression_nodes test) o.rest l.first l.rest l.all ((maybe_count test (in_force w more None)).by l.value l.first l.gives) stand_b in
      let stand_d = rest_stands w.facts nc (maybe_expression_nodes step) l.rest l.then.first l.then.rest l.then.all ((maybe_count step (in_force w more None)).by l.then.value l.then.first l.then.gives) stand_c in (
        begin.visits f.first,
        (
          maybe_known w test as_test nb more l.value l.first all l.gives (first_stands w.facts nb o.rest l.first l.rest l.all stand_b) from.1 (part_left vb (both_visits vc vd) part_b) f.tested,
          (
            maybe_known w step reading nc more l.then.value l.then.first all l.then.gives (first_stands w.facts nc l.rest l.then.first l.then.rest l.then.all stand_c) from.2 (part_left vc vd part_c) f.stepped,
            statement_known w x true nd more (looped_around inside) h.value h.first p.body all h.gives (first_stands w.facts nd l.then.rest h.first (u ∷ []) h.all stand_d) from.3 (part_right vc vd part_c),
          ),
        ),
      )
  form_known w s.break_statement k n ls a u ts placed declared eq stand from part = tt
  form_known w s.continue_statement k n ls a u ts placed declared eq stand from part = tt
  form_known w (s.return_statement e) k n ls a u ts placed declared eq stand from part =
      let o = one (maybe_typed (in_force w ls None) e) (return_rule a.returns) k u ts eq in
      maybe_known w e reading n ls o.value o.first declared o.gives (first_stands w.facts n ts o.first (u ∷ []) o.all stand) from part (return_fits a.returns o.value u o.rule)

  maybe_statement_known : (w : World) (y : MaybeStmtTree) (n : ℕ) (ls : List Local) (a : Around) (u : Unit {0}) (ts : List Fact) → MaybePlaced y → AreDeclared w ls → maybe_statement_typed (body_in w ls a) y ≡ Good u ts
      → Stand w.facts n ts → maybe_statement_from n y → Part (maybe_statement_visits (typing w) y) w.whole → EachVisit (RawVisit (ground_of w)) (maybe_statement_visits (typing w) y)
  maybe_statement_known w s.no_statement n ls a u ts placed declared eq stand from part = tt
  maybe_statement_known w (s.some_statement x) n ls a u ts placed declared eq stand from part =
      let m = mapped (statement_typed (body_in w ls a) x) (λ (v : Fact). tt) u ts eq in
      statement_known w x true n ls a m.value ts placed declared m.gives stand from part

  statements_known : (w : World) (xs : StmtTrees) (n : ℕ) (ls : List Local) (a : Around) (u : Unit {0}) (ts : List Fact) → statements_placed xs ≡ true → AreDeclared w ls → statements_typed (body_in w ls a) xs ≡ Good u ts
      → Stand w.facts n ts → statements_from n xs → Part (statements_visits (typing w) xs) w.whole → EachVisit (RawVisit (ground_of w)) (statements_visits (typing w) xs)
  statements_known w s.no_statements n ls a u ts placed declared eq stand from part = tt
  statements_known w (s.then_statement x xs) n ls a u ts placed declared eq stand from part =
      let b = body_in w ls a in
      let p = both_true (statement_placed x) (statements_placed xs) placed in
      let o = steps (statement_typed b x) (λ v. statements_typed b xs) u ts eq in
      let va = statement_visits (typing w) false x in
      let vb = statements_visits (typing w) xs in
      let stand_b = rest_stands w.facts n (statement_nodes x) ts o.first o.rest o.all ((statement_count x b p.0).by o.value o.first o.gives) stand in (
        statement_known w x false n ls a o.value o.first p.0 declared o.gives (first_stands w.facts n ts o.first o.rest o.all stand) from.0 (part_left va vb part),
        statements_known w xs (n + statement_nodes x) ls a u o.rest p.1 declared o.then stand_b from.1 (part_right va vb part),
      )

  pub parts_known : (w : World) (xs : PartTrees) (n : ℕ) (ls : List Local) (a : Around) (u : Unit {0}) (ts : List Fact) → parts_placed xs ≡ true → AreDeclared w ls → parts_typed (body_in w ls a) xs ≡ Good u ts
      → Stand w.facts n ts → parts_from n xs → Part (parts_visits (typing w) xs) w.whole → EachVisit (RawVisit (ground_of w)) (parts_visits (typing w) xs)
  parts_known w s.no_parts n ls a u ts placed declared eq stand from part = tt
  parts_known w (s.then_part x xs) n ls a u ts placed declared eq stand from part =
      let b = body_in w ls a in
      let p = both_true (part_placed x) (parts_placed xs) placed in
      let o = steps (part_typed b x) (λ more. parts_typed (with_more b more) xs) u ts eq in
      let va = part_visits (typing w) x in
      let vb = parts_visits (typing w) xs in
      let stand_b = rest_stands w.facts n (part_nodes x) ts o.first o.rest o.all ((part_count x b p.0).by o.value o.first o.gives) stand in
      let k = part_known w x n ls a o.value o.first p.0 declared o.gives (first_stands w.facts n ts o.first o.rest o.all stand) from.0 (part_left va vb part) in
      (k.visits, parts_known w xs (n + part_nodes x) (ls ++ o.value) a u o.rest p.1 (declared_append w ls o.value declared k.declared) o.then stand_b from.1 (part_right va vb part))

  part_known : (w : World) (x : PartTree) (n : ℕ) (ls : List Local) (a : Around) (new : List Local) (ts : List Fact) → part_placed x ≡ true → AreDeclared w ls → part_typed (body_in w ls a) x ≡ Good new ts
      → Stand w.facts n ts → part_from n x → Part (part_visits (typing w) x) w.whole → LocalKnown w (part_visits (typing w) x) new
  part_known w (s.local d) n ls a new ts placed declared eq stand from part = declaration_known w d n ls a new ts placed declared eq stand from part
  part_known w (s.run x) n ls a new ts placed declared eq stand from part =
      let m = mapped {B = List Local} (statement_typed (body_in w ls a) x) (λ (v : Fact). []) new ts eq in
      record { declared = subst (AreDeclared w) m.is tt; visits = statement_known w x false n ls a m.value ts placed declared m.gives stand from part }

  sections_known : (w : World) (xs : SectionTrees) (n : ℕ) (ls : List Local) (a : Around) (kind : Option IntKind) (l m : Labelled) (ts : List Fact) → sections_placed xs ≡ true → AreDeclared w ls → sections_typed (body_in w ls a) kind l xs ≡ Good m ts
      → Stand w.facts n ts → sections_from n xs → Part (sections_visits (typing w) xs) w.whole → EachVisit (RawVisit (ground_of w)) (sections_visits (typing w) xs)
  sections_known w s.no_sections n ls a kind l m ts placed declared eq stand from part = tt
  sections_known w (s.then_section x xs) n ls a kind l m ts placed declared eq stand from part =
      let b = body_in w ls a in
      let p = both_true (may_precede x xs && section_placed x) (sections_placed xs) placed in
      let q = (both_true (may_precede x xs) (section_placed x) p.0).1 in
      let o = steps (section_typed b kind l x) (λ z. sections_typed b kind z xs) m ts eq in
      let va = section_visits (typing w) x in
      let vb = sections_visits (typing w) xs in
      let stand_b = rest_stands w.facts n (section_nodes x) ts o.first o.rest o.all ((section_count x b kind l q).by o.value o.first o.gives) stand in (
        section_known w x n ls a kind l o.value o.first q declared o.gives (first_stands w.facts n ts o.first o.rest o.all stand) from.0 (part_left va vb part),
        sections_known w xs (n + section_nodes x) ls a kind o.value m o.rest p.1 declared o.then stand_b from.1 (part_right va vb part),
      )

  section_known : (w : World) (x : SectionTree) (n : ℕ) (ls : List Local) (a : Around) (kind : Option IntKind) (l m : Labelled) (ts : List Fact) → section_placed x ≡ true → AreDeclared w ls → section_typed (body_in w ls a) kind l x ≡ Good m ts
      → Stand w.facts n ts → section_from n x → Part (section_visits (typing w) x) w.whole → EachVisit (RawVisit (ground_of w)) (section_visits (typing w) x)
  section_known w (s.section node labels xs) n ls a kind l m ts placed declared eq stand from part =
      let b = body_in w ls a in
      let p = both_true (some_labels labels && labels_placed labels) (statements_placed xs) placed in
      let o = steps (labels_typed (in_force w ls None) kind (carried l) labels) (section_rest b node.number xs) m ts eq in
      let q = steps (statements_typed b xs) (λ v. and_then (finish node.number (section_rule o.value)) (λ z. Good o.value [])) m o.rest o.then in
      let va = labels_visits (typing w) labels in
      let vb = statements_visits (typing w) xs in
      let vc = one_visit (at_section node.number labels) in
      let stand_b = rest_stands w.facts n (labels_nodes labels) ts o.first o.rest o.all ((labels_count labels (in_force w ls None) kind (carried l)).by o.value o.first o.gives) stand in (
        labels_each (RawVisit (ground_of w)) (typing w) labels,
        (statements_known w xs (n + labels_nodes labels) ls a q.value q.first p.1 declared q.gives (first_stands w.facts (n + labels_nodes labels) o.rest q.first q.rest q.all stand_b) from (part_left vb vc (part_right va (both_visits vb vc) part)), tt),
      )
