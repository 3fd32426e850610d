-- Where nodes ascend, the row of each loop is found by its node.
use Rattle.std.proofs.Common.{ℕ, zero, suc, ◌≡◌, ◌∙◌, ◌<◌, Bool, true, false, ◌==◌, List, [], ◌∷◌, ◌++◌, map, refl, sym, ap, subst, Option, Some, None, arith, eq-eqb, eqb-true}
use Rattle.std.specs.Prelude.{if◌then◌else◌}
use Rattle.std.proofs.lemmas.List.{map-append}
use Rattle.stk_tree.specs.Syntax.{StmtTree, StmtTrees, MaybeStmtTree, StmtFormTree, PartTree, PartTrees, SectionTree, SectionTrees, FunctionTree}
use Rattle.stk_tree.specs.Syntax as s
use Rattle.stk_meaning.specs.Typings.{Typing}
use Rattle.stk_meaning.specs.Places.{Setting}
use Rattle.stk_meaning.specs.Visits.{Visit, at_expression, at_declarator, at_statement, at_section, Visits, no_visit, one_visit, both_visits, scope, unevaluated, collected, head_visits, statement_visits, statement_form_visits, maybe_statement_visits, statements_visits, parts_visits, part_visits, sections_visits, section_visits, expression_visits, maybe_visits, start_visits, labels_visits, declaration_visits, reading, as_test}
use Rattle.stk_meaning.specs.Keys.{KeyInfo, function_visits, body_of, head_of}
use Rattle.stk_run_laws.specs.Visits.{visit_node, IsBelow, Ascends, nodes_of, IsNumbered}
use Rattle.stk_function_types.specs.Visits.{MarkedVisit, marked_visits}
use Rattle.stk_function_types.specs.Gathered.{gathered}
use Rattle.stk_function_types.proofs.Gathering.{gathered-marked_visits}
use Rattle.stk_eval_expr.specs.Loops.{EachLoop, EachLoopOfForm, EachLoopOfOther, EachLoopOfStatements, EachLoopOfParts, EachLoopOfPart, EachLoopOfSections, EachLoopOfSection}
use Rattle.stk_function_types.specs.Units.{TypedUnit}
use Rattle.stk_function_types.specs.Nodes.{typing_in}
use Rattle.stk_function_env.specs.Settings.{FunctionPlaces, setting_in}
use Rattle.stk_path_runs.specs.declared.key_index.KeyIndex.{KeyIndex}
use Rattle.stk_path_runs.specs.Places.{IsKeyIndex}
use Rattle.stk_path_runs.specs.declared.loop_rows.LoopRow.{LoopRow}
use Rattle.stk_path_runs.specs.Rows.{IsRowOf, AreRowsOf, AddsRows, row_at, form_loops, visit_loops, Knows}

-- ---- some of the numbers of a list, in order
data IsPartOf : List ℕ → List ℕ → Type 0 where
  none : IsPartOf [] []
  skip : (k : ℕ) (a b : List ℕ) → IsPartOf a b → IsPartOf a (k ∷ b)
  take : (k : ℕ) (a b : List ℕ) → IsPartOf a b → IsPartOf (k ∷ a) (k ∷ b)

part-append : (a b c d : List ℕ) → IsPartOf a b → IsPartOf c d → IsPartOf (a ++ c) (b ++ d)
part-append _ _ c d none y = y
part-append _ _ c d (skip k a b x) y = skip k (a ++ c) (b ++ d) (part-append a b c d x y)
part-append _ _ c d (take k a b x) y = take k (a ++ c) (b ++ d) (part-append a b c d x y)

below_part : (j : ℕ) (a b : List ℕ) → IsPartOf a b → IsBelow j b → IsBelow j a
below_part j _ _ none h = tt
below_part j _ _ (skip k a b x) h = below_part j a b x h.1
below_part j _ _ (take k a b x) h = (h.0, below_part j a b x h.1)

part_ascends : (a b : List ℕ) → IsPartOf a b → Ascends b → Ascends a
part_ascends _ _ none h = tt
part_ascends _ _ (skip k a b x) h = part_ascends a b x h.1
part_ascends _ _ (take k a b x) h = (below_part k a b x h.0, part_ascends a b x h.1)

-- ---- the nodes of loops among those of visits
abbrev loop_nodes : List (ℕ × StmtFormTree) → List ℕ
loop_nodes ls = map (λ (l : ℕ × StmtFormTree). l.0) ls

one_skipped : (k : ℕ) → IsPartOf [] (k ∷ [])
one_skipped k = skip k [] [] none

one_taken : (k : ℕ) → IsPartOf (k ∷ []) (k ∷ [])
one_taken k = take k [] [] none

form_part : (k : ℕ) (f : StmtFormTree) → IsPartOf (loop_nodes (form_loops k f)) (k ∷ [])
form_part k (s.block ps) = one_skipped k
form_part k (s.expression_statement e) = one_skipped k
form_part k (s.if_statement e x y) = one_skipped k
form_part k (s.switch_statement e ss) = one_skipped k
form_part k (s.while_statement e x) = one_taken k
form_part k (s.do_statement x e) = one_taken k
form_part k (s.for_statement first test step x) = one_taken k
form_part k s.break_statement = one_skipped k
form_part k s.continue_statement = one_skipped k
form_part k (s.return_statement e) = one_skipped k

visit_part : (x : Visit) → IsPartOf (loop_nodes (visit_loops x)) (visit_node x ∷ [])
visit_part (at_expression k role f) = one_skipped k
visit_part (at_declarator k static at init) = one_skipped k
visit_part (at_statement k arm f) = form_part k f
visit_part (at_section k ls) = one_skipped k

loops_part : (v : Visits) → IsPartOf (loop_nodes (collected visit_loops v)) (nodes_of v)
loops_part no_visit = none
loops_part (one_visit x) = visit_part x
loops_part (both_visits a b) =
    subst (λ (ks : List ℕ). IsPartOf ks (nodes_of a ++ nodes_of b)) (sym (map-append (λ (l : ℕ × StmtFormTree). l.0) (collected visit_loops a) (collected visit_loops b))) (part-append (loop_nodes (collected visit_loops a)) (nodes_of a) (loop_nodes (collected visit_loops b)) (nodes_of b) (loops_part a) (loops_part b))
loops_part (scope ks a) = loops_part a
loops_part (unevaluated a) = none

-- ---- a fact of each loop of a list
abbrev AllLoops : (ℕ → StmtFormTree → Type 0) → List (ℕ × StmtFormTree) → Type 0
AllLoops P [] = Unit {0}
AllLoops P (l ∷ ls) = P l.0 l.1 × AllLoops P ls

first_loops : (P : ℕ → StmtFormTree → Type 0) (a b : List (ℕ × StmtFormTree)) → AllLoops P (a ++ b) → AllLoops P a
first_loops P [] b h = tt
first_loops P (l ∷ a) b h = (h.0, first_loops P a b h.1)

last_loops : (P : ℕ → StmtFormTree → Type 0) (a b : List (ℕ × StmtFormTree)) → AllLoops P (a ++ b) → AllLoops P b
last_loops P [] b h = h
last_loops P (l ∷ a) b h = last_loops P a b h.1

-- ---- each row is found
apart : (j k : ℕ) → j < k → (j == k) ≡ false
apart j k h = by (j == k) refl where
  by : (b : Bool) → (j == k) ≡ b → (j == k) ≡ false
  by true e = let same : j ≡ k = eqb-true j k e in absurd (omega arith)
  by false e = e

found_behind : (g : Setting) (keys : List KeyInfo) (r : LoopRow) (rs : List LoopRow) (j : ℕ) (ls : List (ℕ × StmtFormTree)) → r.node ≡ j → IsBelow j (loop_nodes ls) → AllLoops (Knows g keys rs) ls → AllLoops (Knows g keys (r ∷ rs)) ls
found_behind g keys r rs j [] e b h = tt
found_behind g keys r rs j (l ∷ ls) e b h =
    (record { row = h.0.row; found = ap (λ v. if v then Some r else row_at l.0 rs) (ap (λ i. i == l.0) e ∙ apart j l.0 b.0) ∙ h.0.found; is = h.0.is }, found_behind g keys r rs j ls e b.1 h.1)

each_found : (g : Setting) (keys : List KeyInfo) (ls : List (ℕ × StmtFormTree)) (rs : List LoopRow) → AreRowsOf g keys ls rs → Ascends (loop_nodes ls) → AllLoops (Knows g keys rs) ls
each_found g keys [] rs a h = tt
each_found g keys (l ∷ ls) [] a h = absurd a
each_found g keys (l ∷ ls) (r ∷ rs) a h =
    (record { row = r; found = ap (λ v. if v then Some r else row_at l.0 rs) (eq-eqb r.node l.0 a.0.node); is = a.0 }, found_behind g keys r rs l.0 ls a.0.node h.0 (each_found g keys ls rs a.1 h.1))

-- ---- the loops of a tree
module _ (ty : Typing) (P : ℕ → StmtFormTree → Type 0) where
  abbrev Listed : Visits → Type 0
  Listed v = AllLoops P (collected visit_loops v)

  left : (a b : Visits) → Listed (both_visits a b) → Listed a
  left a b h = first_loops P (collected visit_loops a) (collected visit_loops b) h

  right : (a b : Visits) → Listed (both_visits a b) → Listed b
  right a b h = last_loops P (collected visit_loops a) (collected visit_loops b) h

  mutual
    each_statement : (arm : Bool) (x : StmtTree) → Listed (statement_visits ty arm x) → EachLoop P x
    each_statement arm (s.statement n f) h = each_form n.number f (left (statement_form_visits ty f) (one_visit (at_statement n.number arm f)) h) (right (statement_form_visits ty f) (one_visit (at_statement n.number arm f)) h)

    each_form : (k : ℕ) (f : StmtFormTree) → Listed (statement_form_visits ty f) → AllLoops P (form_loops k f) → EachLoopOfForm P k f
    each_form k (s.block ps) h own = each_parts ps h
    each_form k (s.expression_statement e) h own = tt
    each_form k (s.if_statement e x y) h own =
        let both = right (expression_visits ty as_test e) (both_visits (statement_visits ty true x) (maybe_statement_visits ty y)) h in
        (each_statement true x (left (statement_visits ty true x) (maybe_statement_visits ty y) both), each_other y (right (statement_visits ty true x) (maybe_statement_visits ty y) both))
    each_form k (s.switch_statement e ss) h own = each_sections ss (right (expression_visits ty reading e) (sections_visits ty ss) h)
    each_form k (s.while_statement e x) h own = (own.0, each_statement true x (right (expression_visits ty as_test e) (statement_visits ty true x) h))
    each_form k (s.do_statement x e) h own = (own.0, each_statement true x (left (statement_visits ty true x) (expression_visits ty as_test e) h))
    each_form k (s.for_statement first test step x) h own =
        let parts = right (start_visits ty first) (both_visits (maybe_visits ty as_test test) (both_visits (maybe_visits ty reading step) (statement_visits ty true x))) h in
        let more = right (maybe_visits ty as_test test) (both_visits (maybe_visits ty reading step) (statement_visits ty true x)) parts in
        (own.0, each_statement true x (right (maybe_visits ty reading step) (statement_visits ty true x) more))
    each_form k s.break_statement h own = tt
    each_form k s.continue_statement h own = tt
    each_form k (s.return_statement e) h own = tt

    each_other : (y : MaybeStmtTree) → Listed (maybe_statement_visits ty y) → EachLoopOfOther P y
    each_other s.no_statement h = tt
    each_other (s.some_statement x) h = each_statement true x h

    each_of : (xs : StmtTrees) → Listed (statements_visits ty xs) → EachLoopOfStatements P xs
    each_of s.no_statements h = tt
    each_of (s.then_statement x xs) h = (each_statement false x (left (statement_visits ty false x) (statements_visits ty xs) h), each_of xs (right (statement_visits ty false x) (statements_visits ty xs) h))

    each_parts : (ps : PartTrees) → Listed (parts_visits ty ps) → EachLoopOfParts P ps
    each_parts s.no_parts h = tt
    each_parts (s.then_part p ps) h = (each_part p (left (part_visits ty p) (parts_visits ty ps) h), each_parts ps (right (part_visits ty p) (parts_visits ty ps) h))

    each_part : (p : PartTree) → Listed (part_visits ty p) → EachLoopOfPart P p
    each_part (s.local d) h = tt
    each_part (s.run x) h = each_statement false x h

    each_sections : (ss : SectionTrees) → Listed (sections_visits ty ss) → EachLoopOfSections P ss
    each_sections s.no_sections h = tt
    each_sections (s.then_section x xs) h = (each_section x (left (section_visits ty x) (sections_visits ty xs) h), each_sections xs (right (section_visits ty x) (sections_visits ty xs) h))

    each_section : (x : SectionTree) → Listed (section_visits ty x) → EachLoopOfSection P x
    each_section (s.section n ls body) h = each_of body (left (statements_visits ty body) (one_visit (at_section n.number ls)) (right (labels_visits ty ls) (both_visits (statements_visits ty body) (one_visit (at_section n.number ls))) h))

-- the rows of the loops of a function that is numbered know each of its loops
pub knows_each : (g : Setting) (keys : List KeyInfo) (f : FunctionTree) (ms : List MarkedVisit) (rs : List LoopRow) → ms ≡ marked_visits true (function_visits g.typing f) → AddsRows g keys (gathered visit_loops ms) [] rs → IsNumbered g.typing f → EachLoop (Knows g keys rs) (body_of f)
knows_each g keys f ms rs em a h =
    let v = function_visits g.typing f in
    let ls : gathered visit_loops ms ≡ collected visit_loops v = ap (gathered visit_loops) em ∙ gathered-marked_visits visit_loops v in
    let rows : AreRowsOf g keys (collected visit_loops v) rs = subst (λ (ks : List LoopRow). AreRowsOf g keys (collected visit_loops v) ks) (sym a.is) (subst (λ (xs : List (ℕ × StmtFormTree)). AreRowsOf g keys xs a.added) ls a.are) in
    let all = each_found g keys (collected visit_loops v) rs rows (part_ascends (loop_nodes (collected visit_loops v)) (nodes_of v) (loops_part v) h) in
    each_statement g.typing (Knows g keys rs) false (body_of f) (right g.typing (Knows g keys rs) (head_visits g.typing (head_of f)) (statement_visits g.typing false (body_of f)) all)

-- the same for the keys and types that a setting gives
pub tables_know : (p : FunctionPlaces) (f : FunctionTree) (types : TypedUnit) (visits ms : List MarkedVisit) (index : KeyIndex) (keys : List KeyInfo) (rs : List LoopRow)
    → types ≡ p.types → ms ≡ marked_visits true (function_visits (typing_in types) f) → visits ≡ ms → keys ≡ p.keys → IsKeyIndex index keys
    → ((keys : List KeyInfo) → IsKeyIndex index keys → AddsRows (setting_in p) keys (gathered visit_loops visits) [] rs)
    → IsNumbered (typing_in p.types) f → EachLoop (Knows (setting_in p) p.keys rs) (body_of f)
tables_know p f types visits ms index keys rs et em es ek i a h =
    let index_of : IsKeyIndex index p.keys = subst (IsKeyIndex index) ek i in
    knows_each (setting_in p) p.keys f visits rs (es ∙ em ∙ ap (λ (t : TypedUnit). marked_visits true (function_visits (typing_in t) f)) et) (a p.keys index_of) h
