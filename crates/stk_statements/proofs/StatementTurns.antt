-- How the answers of parts make the answer of a statement, and one turn of each loop.
use Rattle.std.proofs.Common.{ℕ, ◌≡◌, ◌≤◌, ◌+◌, ◌++◌, ◌∙◌, List, [], Option, Some, None, Result, Ok, Err, length, refl, sym, ap, subst, length-append, arith}
use Rattle.stk_ctype.specs.declared.kind.IntKind.{IntKind}
use Rattle.stk_ctype.specs.declared.ctype.CType.{CType}
use Rattle.stk_ctype.specs.Types.{TypeTree, type_of}
use Rattle.stk_declarators.specs.declared.tails.Tailed.{Tailed}
use Rattle.stk_declarators.specs.Tails.{TailShape}
use Rattle.stk_declarators.specs.Rows.{IsShape, IsTail, locals_in}
use Rattle.stk_tree.specs.Syntax.{DeclrTree, DeclrTrees, MaybeInitTree, LabelTree, LabelTrees, PartTree, PartTrees, SectionTree, SectionTrees, StmtTree, StmtTrees}
use Rattle.stk_tree.specs.Syntax as s
use Rattle.stk_type_rules.specs.declared.untyped.Untyped.{Untyped}
use Rattle.stk_type_rules.specs.declared.facts.NodeFact.{NodeFact}
use Rattle.stk_type_rules.specs.declared.untyped.Broken.{Broken}
use Rattle.stk_type_rules.specs.Facts.{Fact, Ruled, fact_at}
use Rattle.stk_type_rules.specs.Outcome.{Outcome, Good, Refused, and_then, finish, IsAt, Gives, MakesFact}
use Rattle.stk_type_rules.proofs.Steps.{goes, stays, stops}
use Rattle.stk_typing.specs.Locals.{Local}
use Rattle.stk_typing.proofs.Turns.{nil}
use Rattle.stk_statements.specs.declared.labels.Labels.{Labels}
use Rattle.stk_function_types.specs.Bodies.{Body, with_more}
use Rattle.stk_function_types.specs.Sections.{Labelled}
use Rattle.stk_function_types.specs.Statements.{Started, for_rule, part_typed, parts_typed, section_typed, sections_typed, statement_typed, statements_typed}
use Rattle.stk_statements.proofs.Turns.{Labels_are}
use Rattle.stk_statements.specs.Rows.{AnyFact, Nothing, AreLocals, IsBelow, IsHeaded, IsKnown, IsStarted, IsLabelled, known_at}

-- ---- a fact that may be missing stays where it stands
below_more : (n m : ℕ) (i : Option ℕ) → n ≤ m → IsBelow n i → IsBelow m i
below_more n m None h k = tt
below_more n m (Some i) h k = omega (arith, k, h)

pub known_stays : {B W : Type 0} (Q : B → W → Type 0) (o : Outcome B) (w : W) (x : Option Fact) (i : Option ℕ) (a b : List Fact) → IsKnown a x i → Gives Q o (Ok w) a b → IsKnown b x i
known_stays Q o w x None a b k h = record { below = tt; is = k.is }
known_stays Q o w x (Some i) a b k h =
    let at = stays Q o w (fact_at a i) i a b (record { below = k.below; is = refl }) h in
    record { below = at.below; is = ap (λ (y : Fact). Some y) at.is ∙ k.is }

-- ---- statements
pub tested : (o : Outcome Fact) (rule : Fact → Ruled) (k i : ℕ) (result : Result (Unit {0}) Untyped) (a b c : List Fact) →
    Gives (IsAt b) o (Ok i) a b → Gives AnyFact (finish k (rule (fact_at b i))) result b c → Gives AnyFact (and_then o (λ x. finish k (rule x))) result a c
tested o rule k i result a b c h r =
    goes (IsAt b) AnyFact o (λ x. finish k (rule x)) i result a b c h
    (λ x at. subst (λ (z : Fact). Gives AnyFact (finish k (rule z)) result b c) at.is r)

pub test_body : {C V : Type 0} (o : Outcome Fact) (p : Fact → Outcome C) (rule : Fact → Ruled) (k i : ℕ) (v : V) (Q : C → V → Type 0) (result : Result (Unit {0}) Untyped) (a b c d : List Fact) →
    Gives (IsAt b) o (Ok i) a b → Gives Q (p (fact_at b i)) (Ok v) b c → Gives AnyFact (finish k (rule (fact_at c i))) result c d →
    Gives AnyFact (and_then o (λ x. and_then (p x) (λ y. finish k (rule x)))) result a d
test_body o p rule k i v Q result a b c d h g r =
    goes (IsAt b) AnyFact o (λ x. and_then (p x) (λ y. finish k (rule x))) i result a b d h
    (λ x at. let g = subst (λ (z : Fact). Gives Q (p z) (Ok v) b c) at.is g in
    goes Q AnyFact (p x) (λ y. finish k (rule x)) v result b c d g
    (λ y any. subst (λ (z : Fact). Gives AnyFact (finish k (rule z)) result c d) (stays Q (p x) v x i b c at g).is r))

pub body_stops : {C D V : Type 0} (o : Outcome Fact) (p : Fact → Outcome C) (f : Fact → C → Outcome D) (i : ℕ) (e : Untyped) (Q : C → V → Type 0) (R : D → Unit {0} → Type 0) (a b c d : List Fact) →
    Gives (IsAt b) o (Ok i) a b → Gives Q (p (fact_at b i)) (Err e) b c → Gives R (and_then o (λ x. and_then (p x) (λ y. f x y))) (Err e) a d
body_stops o p f i e Q R a b c d h g =
    goes (IsAt b) R o (λ x. and_then (p x) (λ y. f x y)) i (Err e) a b d h
    (λ x at. stops Q R (p x) (λ y. f x y) e b c b d (subst (λ (z : Fact). Gives Q (p z) (Err e) b c) at.is g))

pub test_two : (o p : Outcome Fact) (q : Outcome (Unit {0})) (rule : Fact → Ruled) (k i : ℕ) (v w : Unit {0}) (result : Result (Unit {0}) Untyped) (a b c d e : List Fact) →
    Gives (IsAt b) o (Ok i) a b → Gives AnyFact p (Ok v) b c → Gives Nothing q (Ok w) c d → Gives AnyFact (finish k (rule (fact_at d i))) result d e →
    Gives AnyFact (and_then o (λ x. and_then p (λ y. and_then q (λ z. finish k (rule x))))) result a e
test_two o p q rule k i v w result a b c d e h g j r =
    goes (IsAt b) AnyFact o (λ x. and_then p (λ y. and_then q (λ z. finish k (rule x)))) i result a b e h
    (λ x at. goes AnyFact AnyFact p (λ y. and_then q (λ z. finish k (rule x))) v result b c e g
    (λ y any. goes Nothing AnyFact q (λ z. finish k (rule x)) w result c d e j
    (λ z any. subst (λ (z : Fact). Gives AnyFact (finish k (rule z)) result d e) (stays Nothing q w x i c d (stays AnyFact p v x i b c at g) j).is r)))

pub then_gives : {C D V W : Type 0} (Q : C → V → Type 0) (R : D → W → Type 0) (o : Outcome C) (p : Outcome D) (v : V) (result : Result W Untyped) (a b c : List Fact) → Gives Q o (Ok v) a b → Gives R p result b c → Gives R (and_then o (λ u. p)) result a c
then_gives Q R o p v result a b c h g = goes Q R o (λ u. p) v result a b c h (λ u is. g)

pub then_tested : (p : Outcome Fact) (o : Outcome Fact) (rule : Fact → Ruled) (k i : ℕ) (v : Unit {0}) (result : Result (Unit {0}) Untyped) (a b c d : List Fact) →
    Gives AnyFact p (Ok v) a b → Gives (IsAt c) o (Ok i) b c → Gives AnyFact (finish k (rule (fact_at c i))) result c d → Gives AnyFact (and_then p (λ u. and_then o (λ x. finish k (rule x)))) result a d
then_tested p o rule k i v result a b c d g h r = then_gives AnyFact AnyFact p (and_then o (λ x. finish k (rule x))) v result a b d g (tested o rule k i result b c d h r)

-- ---- `for`
pub for_gives : (o : Outcome Started) (p q : List Local → Outcome (Option Fact)) (r : List Local → Outcome Fact) (k : ℕ) (before now : List Local) (i j l : Option ℕ) (v : Unit {0}) (result : Result (Unit {0}) Untyped) (a b c d e f : List Fact) →
    Gives (IsStarted before now b) o (Ok i) a b →
    ((ls : List Local) → now ≡ before ++ ls → Gives (IsKnown c) (p ls) (Ok j) b c) →
    ((ls : List Local) → now ≡ before ++ ls → Gives (IsKnown d) (q ls) (Ok l) c d) →
    ((ls : List Local) → now ≡ before ++ ls → Gives AnyFact (r ls) (Ok v) d e) →
    Gives AnyFact (finish k (for_rule (known_at e i) (known_at e j) (known_at e l))) result e f →
    Gives AnyFact (and_then o (λ x. and_then (p x.locals) (λ t. and_then (q x.locals) (λ w. and_then (r x.locals) (λ u. finish k (for_rule x.value t w)))))) result a f
for_gives o p q r k before now i j l v result a b c d e f first test step body rule =
    goes (IsStarted before now b) AnyFact o (λ x. and_then (p x.locals) (λ t. and_then (q x.locals) (λ w. and_then (r x.locals) (λ u. finish k (for_rule x.value t w))))) i result a b f first
    (λ x started. let p_gives = test x.locals started.locals in let q_gives = step x.locals started.locals in let r_gives = body x.locals started.locals in
    goes (IsKnown c) AnyFact (p x.locals) (λ t. and_then (q x.locals) (λ w. and_then (r x.locals) (λ u. finish k (for_rule x.value t w)))) j result b c f p_gives
    (λ t at_t. goes (IsKnown d) AnyFact (q x.locals) (λ w. and_then (r x.locals) (λ u. finish k (for_rule x.value t w))) l result c d f q_gives
    (λ w at_w. goes AnyFact AnyFact (r x.locals) (λ u. finish k (for_rule x.value t w)) v result d e f r_gives
    (λ u any.
    let known_w = known_stays AnyFact (r x.locals) v w l d e at_w r_gives in
    let known_t = known_stays AnyFact (r x.locals) v t j d e (known_stays (IsKnown d) (q x.locals) l t j c d at_t q_gives) r_gives in
    let known_x = known_stays AnyFact (r x.locals) v x.value i d e (known_stays (IsKnown d) (q x.locals) l x.value i c d (known_stays (IsKnown c) (p x.locals) j x.value i b c started.value p_gives) q_gives) r_gives in
    subst (λ (z : Option Fact). Gives AnyFact (finish k (for_rule z t w)) result e f) known_x.is
    (subst (λ (z : Option Fact). Gives AnyFact (finish k (for_rule (known_at e i) z w)) result e f) known_t.is
    (subst (λ (z : Option Fact). Gives AnyFact (finish k (for_rule (known_at e i) (known_at e j) z)) result e f) known_w.is rule))))))

pub started_below : (o : Outcome Started) (before now : List Local) (i : Option ℕ) (a b : List Fact) → Gives (IsStarted before now b) o (Ok i) a b → IsBelow (length b) i
started_below (Good x t) before now i a b h = h.1.value.below
started_below (Refused n r) before now i a b h = elim h [ ]

pub known_below : (o : Outcome (Option Fact)) (i : Option ℕ) (a b : List Fact) → Gives (IsKnown b) o (Ok i) a b → IsBelow (length b) i
known_below (Good x t) i a b h = h.1.below
known_below (Refused n r) i a b h = elim h [ ]

grown : {A V : Type 0} (Q : A → V → Type 0) (o : Outcome A) (v : V) (a b : List Fact) → Gives Q o (Ok v) a b → length a ≤ length b
grown Q (Good x t) v a b h = let same : length b ≡ length a + length t = ap length h.0 ∙ length-append a t in omega arith
grown Q (Refused n r) v a b h = elim h [ ]

pub still_below : {A V : Type 0} (Q : A → V → Type 0) (o : Outcome A) (v : V) (i : Option ℕ) (a b : List Fact) → Gives Q o (Ok v) a b → IsBelow (length a) i → IsBelow (length b) i
still_below Q o v i a b h k = below_more (length a) (length b) i (grown Q o v a b h) k

pub parts_turn : (b next : Body) (p : PartTree) (ps : PartTrees) (before mid : List Local) (v : Unit {0}) (result : Result (Unit {0}) Untyped) (a m c : List Fact) →
    Gives (AreLocals before mid) (part_typed b p) (Ok v) a m → ((l : List Local) → mid ≡ before ++ l → next ≡ with_more b l) →
    Gives Nothing (parts_typed next ps) result m c → Gives Nothing (parts_typed b (s.then_part p ps)) result a c
parts_turn b next p ps before mid v result a m c h grows g =
    goes (AreLocals before mid) Nothing (part_typed b p) (λ l. parts_typed (with_more b l) ps) v result a m c h
    (λ l is. subst (λ (z : Body). Gives Nothing (parts_typed z ps) result m c) (grows l is) g)

pub statements_turn : (b : Body) (x : StmtTree) (xs : StmtTrees) (v : Unit {0}) (result : Result (Unit {0}) Untyped) (a m c : List Fact) →
    Gives AnyFact (statement_typed b x) (Ok v) a m → Gives Nothing (statements_typed b xs) result m c → Gives Nothing (statements_typed b (s.then_statement x xs)) result a c
statements_turn b x xs v result a m c h g = goes AnyFact Nothing (statement_typed b x) (λ u. statements_typed b xs) v result a m c h (λ u any. g)

pub sections_turn : (b : Body) (kind : Option IntKind) (l : Labelled) (x : SectionTree) (xs : SectionTrees) (next now : Labels) (v : Unit {0}) (result : Result (Unit {0}) Untyped) (a m c : List Fact) →
    Gives (Labels_are next) (section_typed b kind l x) (Ok v) a m → ((z : Labelled) → IsLabelled z next → Gives (Labels_are now) (sections_typed b kind z xs) result m c) →
    Gives (Labels_are now) (sections_typed b kind l (s.then_section x xs)) result a c
sections_turn b kind l x xs next now v result a m c h g = goes (Labels_are next) (Labels_are now) (section_typed b kind l x) (λ z. sections_typed b kind z xs) v result a m c h (λ z is. g z is)

-- ---- the head of a function
pub head_gives : (o : Outcome TailShape) (rule : TailShape → Ruled) (k : ℕ) (whole : TypeTree) (before now : List Local) (v : Tailed) (t : CType) (made : Result NodeFact Broken) (i : ℕ) (a b c : List Fact) →
    Gives (IsTail before now) o (Ok v) a b → ((z : TailShape) → IsShape z v → MakesFact (rule z) made) → ((r : Ruled) → MakesFact r made → Gives (IsAt c) (finish k r) (Ok i) b c) → type_of t ≡ whole →
    Gives (IsHeaded before now) (and_then o (λ z. and_then (finish k (rule z)) (λ x. Good (record { returns = whole; locals = locals_in z }) []))) (Ok t) a c
head_gives o rule k whole before now v t made i a b c h makes owns same =
    goes (IsTail before now) (IsHeaded before now) o (λ z. and_then (finish k (rule z)) (λ x. Good (record { returns = whole; locals = locals_in z }) [])) v (Ok t) a b c h
    (λ z is. goes (IsAt c) (IsHeaded before now) (finish k (rule z)) (λ x. Good (record { returns = whole; locals = locals_in z }) []) i (Ok t) b c c (owns (rule z) (makes z is.0))
    (λ x at. (sym (nil c), record { returns = same; locals = is.1 })))

pub head_stops : (o : Outcome TailShape) (rule : TailShape → Ruled) (k : ℕ) (whole : TypeTree) (before now : List Local) (v : Tailed) (made : Result NodeFact Broken) (e : Untyped) (a b c : List Fact) →
    Gives (IsTail before now) o (Ok v) a b → ((z : TailShape) → IsShape z v → MakesFact (rule z) made) → ((r : Ruled) → MakesFact r made → Gives (IsAt c) (finish k r) (Err e) b c) →
    Gives (IsHeaded before now) (and_then o (λ z. and_then (finish k (rule z)) (λ x. Good (record { returns = whole; locals = locals_in z }) []))) (Err e) a c
head_stops o rule k whole before now v made e a b c h makes owns =
    goes (IsTail before now) (IsHeaded before now) o (λ z. and_then (finish k (rule z)) (λ x. Good (record { returns = whole; locals = locals_in z }) [])) v (Err e) a b c h
    (λ z is. stops (IsAt c) (IsHeaded before now) (finish k (rule z)) (λ x. Good (record { returns = whole; locals = locals_in z }) []) e b c b c (owns (rule z) (makes z is.0)))
