-- How the answers of parts make the answer of each form of statement, and of a section.
use Rattle.std.proofs.Common.{ℕ, ◌≡◌, ◌<◌, ◌++◌, List, [], Option, Some, Result, Ok, Err, length, subst, arith}
use Rattle.stk_ctype.specs.declared.kind.IntKind.{IntKind}
use Rattle.stk_tree.specs.Syntax.{ExprTree, MaybeExprTree, MaybeStmtTree, PartTrees, SectionTrees, StartTree, StmtTree}
use Rattle.stk_tree.specs.Syntax as s
use Rattle.stk_type_rules.specs.declared.untyped.Untyped.{Untyped}
use Rattle.stk_type_rules.specs.Facts.{Fact, Fits, fact_at, plain}
use Rattle.stk_type_rules.specs.Outcome.{Outcome, Good, and_then, finish, IsAt, Gives}
use Rattle.stk_type_rules.proofs.Steps.{goes, stops}
use Rattle.stk_type_rules.specs.Types.{kind_of}
use Rattle.stk_typing.specs.Locals.{Local}
use Rattle.stk_typing.specs.Typing.{expression_typed}
use Rattle.stk_typing.proofs.Turns.{longer, mapped}
use Rattle.stk_function_types.specs.Bodies.{Body, with_more, opened, looped, switched}
use Rattle.stk_function_types.specs.Sections.{Labelled, section_rule, unlabelled}
use Rattle.stk_function_types.specs.Statements.{Started, for_rule, form_typed, maybe_statement_typed, maybe_typed, parts_typed, sections_typed, start_typed, statement_typed, switch_rule, test_rule}
use Rattle.stk_statements.specs.declared.labels.Labels.{Labels}
use Rattle.stk_statements.specs.Rows.{AnyFact, AnyLabels, IsKnown, IsLabelled, IsStarted, Nothing, known_at}
use Rattle.stk_statements.proofs.Turns.{Labels_are}
use Rattle.stk_statements.proofs.StatementTurns.{body_stops, for_gives, test_body, test_two, then_gives, then_tested}

-- an answer, where the outcome is said in other words
pub again : {A V : Type 0} (Q : A → V → Type 0) (o z : Outcome A) (result : Result V Untyped) (a c : List Fact) → o ≡ z → Gives Q o result a c → Gives Q z result a c
again Q o z result a c is h = subst (λ (w : Outcome _). Gives Q w result a c) is h

-- a fact that stands at a place still does behind more
pub still : {A V : Type 0} (Q : A → V → Type 0) (o : Outcome A) (v : V) (i : ℕ) (a b : List Fact) → i < length a → Gives Q o (Ok v) a b → i < length b
still Q o v i a b h g = omega (arith, h, longer Q o v a b g)

-- ---- blocks
pub block_whole : (b : Body) (k : ℕ) (ps : PartTrees) (v : Unit {0}) (result : Result (Unit {0}) Untyped) (a m c : List Fact) →
    Gives Nothing (parts_typed (opened b) ps) (Ok v) a m → Gives AnyFact (finish k (Fits plain)) result m c → Gives AnyFact (form_typed b k (s.block ps)) result a c
block_whole b k ps v result a m c h g = then_gives Nothing AnyFact (parts_typed (opened b) ps) (finish k (Fits plain)) v result a m c h g

-- ---- `if`
pub if_first : (b : Body) (k : ℕ) (e : ExprTree) (y : StmtTree) (z : MaybeStmtTree) (err : Untyped) (a c : List Fact) → Gives (IsAt c) (expression_typed b.scope e) (Err err) a c → Gives AnyFact (form_typed b k (s.if_statement e y z)) (Err err) a c
if_first b k e y z err a c h = stops (IsAt c) AnyFact (expression_typed b.scope e) (λ t. and_then (statement_typed b y) (λ u. and_then (maybe_statement_typed b z) (λ v. finish k (test_rule (Some t))))) err a c a c h

pub if_second : (b : Body) (k : ℕ) (e : ExprTree) (y : StmtTree) (z : MaybeStmtTree) (i : ℕ) (err : Untyped) (a m c : List Fact) →
    Gives (IsAt m) (expression_typed b.scope e) (Ok i) a m → Gives AnyFact (statement_typed b y) (Err err) m c → Gives AnyFact (form_typed b k (s.if_statement e y z)) (Err err) a c
if_second b k e y z i err a m c h g =
    body_stops (expression_typed b.scope e) (λ t. statement_typed b y) (λ t u. and_then (maybe_statement_typed b z) (λ v. finish k (test_rule (Some t)))) i err AnyFact AnyFact a m c c h g

pub if_third : (b : Body) (k : ℕ) (e : ExprTree) (y : StmtTree) (z : MaybeStmtTree) (i : ℕ) (v : Unit {0}) (err : Untyped) (a m n c : List Fact) →
    Gives (IsAt m) (expression_typed b.scope e) (Ok i) a m → Gives AnyFact (statement_typed b y) (Ok v) m n → Gives Nothing (maybe_statement_typed b z) (Err err) n c → Gives AnyFact (form_typed b k (s.if_statement e y z)) (Err err) a c
if_third b k e y z i v err a m n c h g j =
    goes (IsAt m) AnyFact (expression_typed b.scope e) (λ t. and_then (statement_typed b y) (λ u. and_then (maybe_statement_typed b z) (λ v. finish k (test_rule (Some t))))) i (Err err) a m c h
    (λ t at. goes AnyFact AnyFact (statement_typed b y) (λ u. and_then (maybe_statement_typed b z) (λ v. finish k (test_rule (Some t)))) v (Err err) m n c g
    (λ u any. stops Nothing AnyFact (maybe_statement_typed b z) (λ v. finish k (test_rule (Some t))) err n c n c j))

pub if_whole : (b : Body) (k : ℕ) (e : ExprTree) (y : StmtTree) (z : MaybeStmtTree) (i : ℕ) (v w : Unit {0}) (result : Result (Unit {0}) Untyped) (a m n p c : List Fact) →
    Gives (IsAt m) (expression_typed b.scope e) (Ok i) a m → Gives AnyFact (statement_typed b y) (Ok v) m n → Gives Nothing (maybe_statement_typed b z) (Ok w) n p →
    Gives AnyFact (finish k (test_rule (Some (fact_at p i)))) result p c → Gives AnyFact (form_typed b k (s.if_statement e y z)) result a c
if_whole b k e y z i v w result a m n p c h g j r = test_two (expression_typed b.scope e) (statement_typed b y) (maybe_statement_typed b z) (λ t. test_rule (Some t)) k i v w result a m n p c h g j r

-- ---- `switch`
pub switch_first : (b : Body) (k : ℕ) (e : ExprTree) (ss : SectionTrees) (err : Untyped) (a c : List Fact) → Gives (IsAt c) (expression_typed b.scope e) (Err err) a c → Gives AnyFact (form_typed b k (s.switch_statement e ss)) (Err err) a c
switch_first b k e ss err a c h = stops (IsAt c) AnyFact (expression_typed b.scope e) (λ t. and_then (sections_typed (switched b) (kind_of t.ty) unlabelled ss) (λ l. finish k (switch_rule (kind_of t.ty)))) err a c a c h

pub switch_second : (b : Body) (k : ℕ) (e : ExprTree) (ss : SectionTrees) (i : ℕ) (kind : Option IntKind) (err : Untyped) (a m c : List Fact) →
    Gives (IsAt m) (expression_typed b.scope e) (Ok i) a m → kind ≡ kind_of (fact_at m i).ty → Gives AnyLabels (sections_typed (switched b) kind unlabelled ss) (Err err) m c → Gives AnyFact (form_typed b k (s.switch_statement e ss)) (Err err) a c
switch_second b k e ss i kind err a m c h same g =
    body_stops (expression_typed b.scope e) (λ t. sections_typed (switched b) (kind_of t.ty) unlabelled ss) (λ t l. finish k (switch_rule (kind_of t.ty))) i err AnyLabels AnyFact a m c c h
    (subst (λ (z : Option IntKind). Gives AnyLabels (sections_typed (switched b) z unlabelled ss) (Err err) m c) same g)

pub switch_whole : (b : Body) (k : ℕ) (e : ExprTree) (ss : SectionTrees) (i : ℕ) (kind : Option IntKind) (v : Unit {0}) (result : Result (Unit {0}) Untyped) (a m n c : List Fact) →
    Gives (IsAt m) (expression_typed b.scope e) (Ok i) a m → kind ≡ kind_of (fact_at m i).ty → Gives AnyLabels (sections_typed (switched b) kind unlabelled ss) (Ok v) m n →
    Gives AnyFact (finish k (switch_rule (kind_of (fact_at n i).ty))) result n c → Gives AnyFact (form_typed b k (s.switch_statement e ss)) result a c
switch_whole b k e ss i kind v result a m n c h same g r =
    test_body (expression_typed b.scope e) (λ t. sections_typed (switched b) (kind_of t.ty) unlabelled ss) (λ t. switch_rule (kind_of t.ty)) k i v AnyLabels result a m n c h
    (subst (λ (z : Option IntKind). Gives AnyLabels (sections_typed (switched b) z unlabelled ss) (Ok v) m n) same g) r

-- ---- `while` and `do`
pub while_first : (b : Body) (k : ℕ) (e : ExprTree) (y : StmtTree) (err : Untyped) (a c : List Fact) → Gives (IsAt c) (expression_typed b.scope e) (Err err) a c → Gives AnyFact (form_typed b k (s.while_statement e y)) (Err err) a c
while_first b k e y err a c h = stops (IsAt c) AnyFact (expression_typed b.scope e) (λ t. and_then (statement_typed (looped b) y) (λ u. finish k (test_rule (Some t)))) err a c a c h

pub while_second : (b : Body) (k : ℕ) (e : ExprTree) (y : StmtTree) (i : ℕ) (err : Untyped) (a m c : List Fact) →
    Gives (IsAt m) (expression_typed b.scope e) (Ok i) a m → Gives AnyFact (statement_typed (looped b) y) (Err err) m c → Gives AnyFact (form_typed b k (s.while_statement e y)) (Err err) a c
while_second b k e y i err a m c h g = body_stops (expression_typed b.scope e) (λ t. statement_typed (looped b) y) (λ t u. finish k (test_rule (Some t))) i err AnyFact AnyFact a m c c h g

pub while_whole : (b : Body) (k : ℕ) (e : ExprTree) (y : StmtTree) (i : ℕ) (v : Unit {0}) (result : Result (Unit {0}) Untyped) (a m n c : List Fact) →
    Gives (IsAt m) (expression_typed b.scope e) (Ok i) a m → Gives AnyFact (statement_typed (looped b) y) (Ok v) m n → Gives AnyFact (finish k (test_rule (Some (fact_at n i)))) result n c → Gives AnyFact (form_typed b k (s.while_statement e y)) result a c
while_whole b k e y i v result a m n c h g r = test_body (expression_typed b.scope e) (λ t. statement_typed (looped b) y) (λ t. test_rule (Some t)) k i v AnyFact result a m n c h g r

pub do_second : (b : Body) (k : ℕ) (y : StmtTree) (e : ExprTree) (v : Unit {0}) (err : Untyped) (a m c : List Fact) →
    Gives AnyFact (statement_typed (looped b) y) (Ok v) a m → Gives (IsAt c) (expression_typed b.scope e) (Err err) m c → Gives AnyFact (form_typed b k (s.do_statement y e)) (Err err) a c
do_second b k y e v err a m c h g =
    then_gives AnyFact AnyFact (statement_typed (looped b) y) (and_then (expression_typed b.scope e) (λ t. finish k (test_rule (Some t)))) v (Err err) a m c h
    (stops (IsAt c) AnyFact (expression_typed b.scope e) (λ t. finish k (test_rule (Some t))) err m c m c g)

pub do_whole : (b : Body) (k : ℕ) (y : StmtTree) (e : ExprTree) (v : Unit {0}) (i : ℕ) (result : Result (Unit {0}) Untyped) (a m n c : List Fact) →
    Gives AnyFact (statement_typed (looped b) y) (Ok v) a m → Gives (IsAt n) (expression_typed b.scope e) (Ok i) m n → Gives AnyFact (finish k (test_rule (Some (fact_at n i)))) result n c → Gives AnyFact (form_typed b k (s.do_statement y e)) result a c
do_whole b k y e v i result a m n c h g r = then_tested (statement_typed (looped b) y) (expression_typed b.scope e) (λ t. test_rule (Some t)) k i v result a m n c h g r

-- ---- `for`
-- the names in force behind the first part
abbrev pub Grows : Body → Body → List Local → List Local → Type 0
Grows b next before now = (more : List Local) → now ≡ before ++ more → next ≡ with_more (opened b) more

-- what the first part makes of the rest
abbrev for_rest : Body → ℕ → MaybeExprTree → MaybeExprTree → StmtTree → Started → Outcome Fact
for_rest b k test step y x =
    and_then (maybe_typed (with_more (opened b) x.locals).scope test) (λ t. and_then (maybe_typed (with_more (opened b) x.locals).scope step) (λ v.
    and_then (statement_typed (looped (with_more (opened b) x.locals)) y) (λ u. finish k (for_rule x.value t v))))

pub for_second : (b next : Body) (k : ℕ) (start : StartTree) (test step : MaybeExprTree) (y : StmtTree) (before now : List Local) (i : Option ℕ) (err : Untyped) (a m c : List Fact) →
    Gives (IsStarted before now m) (start_typed (opened b) start) (Ok i) a m → Grows b next before now → Gives (IsKnown c) (maybe_typed next.scope test) (Err err) m c → Gives AnyFact (form_typed b k (s.for_statement start test step y)) (Err err) a c
for_second b next k start test step y before now i err a m c first grows g =
    goes (IsStarted before now m) AnyFact (start_typed (opened b) start) (for_rest b k test step y) i (Err err) a m c first
    (λ x is. let inner = with_more (opened b) x.locals in
    stops (IsKnown c) AnyFact (maybe_typed inner.scope test) (λ t. and_then (maybe_typed inner.scope step) (λ v. and_then (statement_typed (looped inner) y) (λ u. finish k (for_rule x.value t v)))) err m c m c
    (subst (λ (z : Body). Gives (IsKnown c) (maybe_typed z.scope test) (Err err) m c) (grows x.locals is.locals) g))

pub for_third : (b next : Body) (k : ℕ) (start : StartTree) (test step : MaybeExprTree) (y : StmtTree) (before now : List Local) (i j : Option ℕ) (err : Untyped) (a m n c : List Fact) →
    Gives (IsStarted before now m) (start_typed (opened b) start) (Ok i) a m → Grows b next before now → Gives (IsKnown n) (maybe_typed next.scope test) (Ok j) m n → Gives (IsKnown c) (maybe_typed next.scope step) (Err err) n c →
    Gives AnyFact (form_typed b k (s.for_statement start test step y)) (Err err) a c
for_third b next k start test step y before now i j err a m n c first grows h g =
    goes (IsStarted before now m) AnyFact (start_typed (opened b) start) (for_rest b k test step y) i (Err err) a m c first
    (λ x is. let inner = with_more (opened b) x.locals in
    goes (IsKnown n) AnyFact (maybe_typed inner.scope test) (λ t. and_then (maybe_typed inner.scope step) (λ v. and_then (statement_typed (looped inner) y) (λ u. finish k (for_rule x.value t v)))) j (Err err) m n c
    (subst (λ (z : Body). Gives (IsKnown n) (maybe_typed z.scope test) (Ok j) m n) (grows x.locals is.locals) h)
    (λ t known. stops (IsKnown c) AnyFact (maybe_typed inner.scope step) (λ v. and_then (statement_typed (looped inner) y) (λ u. finish k (for_rule x.value t v))) err n c n c
    (subst (λ (z : Body). Gives (IsKnown c) (maybe_typed z.scope step) (Err err) n c) (grows x.locals is.locals) g)))

pub for_fourth : (b next : Body) (k : ℕ) (start : StartTree) (test step : MaybeExprTree) (y : StmtTree) (before now : List Local) (i j l : Option ℕ) (err : Untyped) (a m n p c : List Fact) →
    Gives (IsStarted before now m) (start_typed (opened b) start) (Ok i) a m → Grows b next before now → Gives (IsKnown n) (maybe_typed next.scope test) (Ok j) m n → Gives (IsKnown p) (maybe_typed next.scope step) (Ok l) n p →
    Gives AnyFact (statement_typed (looped next) y) (Err err) p c → Gives AnyFact (form_typed b k (s.for_statement start test step y)) (Err err) a c
for_fourth b next k start test step y before now i j l err a m n p c first grows h g r =
    goes (IsStarted before now m) AnyFact (start_typed (opened b) start) (for_rest b k test step y) i (Err err) a m c first
    (λ x is. let inner = with_more (opened b) x.locals in
    goes (IsKnown n) AnyFact (maybe_typed inner.scope test) (λ t. and_then (maybe_typed inner.scope step) (λ v. and_then (statement_typed (looped inner) y) (λ u. finish k (for_rule x.value t v)))) j (Err err) m n c
    (subst (λ (z : Body). Gives (IsKnown n) (maybe_typed z.scope test) (Ok j) m n) (grows x.locals is.locals) h)
    (λ t known. goes (IsKnown p) AnyFact (maybe_typed inner.scope step) (λ v. and_then (statement_typed (looped inner) y) (λ u. finish k (for_rule x.value t v))) l (Err err) n p c
    (subst (λ (z : Body). Gives (IsKnown p) (maybe_typed z.scope step) (Ok l) n p) (grows x.locals is.locals) g)
    (λ v told. stops AnyFact AnyFact (statement_typed (looped inner) y) (λ u. finish k (for_rule x.value t v)) err p c p c
    (subst (λ (z : Body). Gives AnyFact (statement_typed (looped z) y) (Err err) p c) (grows x.locals is.locals) r))))

pub for_whole : (b next : Body) (k : ℕ) (start : StartTree) (test step : MaybeExprTree) (y : StmtTree) (before now : List Local) (i j l : Option ℕ) (v : Unit {0}) (result : Result (Unit {0}) Untyped) (a m n p q c : List Fact) →
    Gives (IsStarted before now m) (start_typed (opened b) start) (Ok i) a m → Grows b next before now → Gives (IsKnown n) (maybe_typed next.scope test) (Ok j) m n → Gives (IsKnown p) (maybe_typed next.scope step) (Ok l) n p →
    Gives AnyFact (statement_typed (looped next) y) (Ok v) p q → Gives AnyFact (finish k (for_rule (known_at q i) (known_at q j) (known_at q l))) result q c → Gives AnyFact (form_typed b k (s.for_statement start test step y)) result a c
for_whole b next k start test step y before now i j l v result a m n p q c first grows h g r rule =
    for_gives (start_typed (opened b) start) (λ ls. maybe_typed (with_more (opened b) ls).scope test) (λ ls. maybe_typed (with_more (opened b) ls).scope step) (λ ls. statement_typed (looped (with_more (opened b) ls)) y) k before now i j l v result a m n p q c first
    (λ ls is. subst (λ (z : Body). Gives (IsKnown n) (maybe_typed z.scope test) (Ok j) m n) (grows ls is) h)
    (λ ls is. subst (λ (z : Body). Gives (IsKnown p) (maybe_typed z.scope step) (Ok l) n p) (grows ls is) g)
    (λ ls is. subst (λ (z : Body). Gives AnyFact (statement_typed (looped z) y) (Ok v) p q) (grows ls is) r) rule

-- ---- a section
-- its labels, its statements, and its own node
abbrev pub labels_then : Outcome Labelled → Outcome (Unit {0}) → ℕ → Outcome Labelled
labels_then o p k = and_then o (λ m. and_then p (λ u. and_then (finish k (section_rule m)) (λ x. Good m [])))

pub section_first : (o : Outcome Labelled) (p : Outcome (Unit {0})) (k : ℕ) (r : Labels) (err : Untyped) (a c : List Fact) → Gives (Labels_are r) o (Err err) a c → Gives (Labels_are r) (labels_then o p k) (Err err) a c
section_first o p k r err a c h = stops (Labels_are r) (Labels_are r) o (λ m. and_then p (λ u. and_then (finish k (section_rule m)) (λ x. Good m []))) err a c a c h

pub section_second : (o : Outcome Labelled) (p : Outcome (Unit {0})) (k : ℕ) (r : Labels) (v : Unit {0}) (err : Untyped) (a m c : List Fact) →
    Gives (Labels_are r) o (Ok v) a m → Gives Nothing p (Err err) m c → Gives (Labels_are r) (labels_then o p k) (Err err) a c
section_second o p k r v err a m c h g =
    goes (Labels_are r) (Labels_are r) o (λ l. and_then p (λ u. and_then (finish k (section_rule l)) (λ x. Good l []))) v (Err err) a m c h
    (λ l is. stops Nothing (Labels_are r) p (λ u. and_then (finish k (section_rule l)) (λ x. Good l [])) err m c m c g)

pub section_whole : (o : Outcome Labelled) (p : Outcome (Unit {0})) (k : ℕ) (r : Labels) (v w : Unit {0}) (result : Result (Unit {0}) Untyped) (a m n c : List Fact) →
    Gives (Labels_are r) o (Ok v) a m → Gives Nothing p (Ok w) m n → ((l : Labelled) → IsLabelled l r → Gives AnyFact (finish k (section_rule l)) result n c) → Gives (Labels_are r) (labels_then o p k) result a c
section_whole o p k r v w result a m n c h g own =
    goes (Labels_are r) (Labels_are r) o (λ l. and_then p (λ u. and_then (finish k (section_rule l)) (λ x. Good l []))) v result a m c h
    (λ l is. goes Nothing (Labels_are r) p (λ u. and_then (finish k (section_rule l)) (λ x. Good l [])) w result m n c g
    (λ u any. mapped AnyFact (Labels_are r) (finish k (section_rule l)) (λ x. l) result n c (λ x z any. is) (own l is)))
