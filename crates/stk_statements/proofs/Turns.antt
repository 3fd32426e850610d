-- How the answers of parts make the answer of a statement, and one turn of each loop.
use Rattle.std.proofs.Common.{ℕ, ◌≡◌, ◌<◌, ◌++◌, ◌∙◌, Bool, true, false, List, [], ◌∷◌, Option, Some, None, if◌then◌else◌, Result, Ok, Err, length, map, refl, sym, ap, subst, append_assoc}
use Rattle.stk_ctype.specs.declared.kind.IntKind.{IntKind}
use Rattle.stk_ctype.specs.Structs.{Structs}
use Rattle.stk_typing.specs.declared.arrays.Size.{Size}
use Rattle.stk_typing.specs.Arrays.{declared_type}
use Rattle.stk_ctype.specs.Types.{TypeTree, type_of, void_type}
use Rattle.stk_declarators.specs.Counting.{given_count}
use Rattle.stk_declarators.specs.Tails.{are_scalars, counted_sizes}
use Rattle.stk_tree.specs.Syntax.{DeclrTree, DeclrTrees, MaybeInitTree, LabelTree, LabelTrees, PartTree, PartTrees, SectionTree, SectionTrees, StmtTree, StmtTrees}
use Rattle.stk_tree.specs.Syntax as s
use Rattle.stk_type_rules.specs.declared.untyped.Untyped.{Untyped}
use Rattle.stk_type_rules.specs.declared.facts.NodeFact.{NodeFact}
use Rattle.stk_type_rules.specs.declared.untyped.Broken.{Broken}
use Rattle.stk_type_rules.specs.declared.untyped.Broken.TheVariants as broken
use Rattle.stk_type_rules.specs.Facts.{Fact, Ruled, Breaks, Fits, fact_at, fact_of, plain}
use Rattle.stk_type_rules.specs.Outcome.{Outcome, Good, Refused, and_then, finish, IsAt, Gives, MakesFact}
use Rattle.stk_type_rules.proofs.Steps.{goes}
use Rattle.stk_typing.specs.declared.locals.LocalName.{LocalName}
use Rattle.std.proofs.lemmas.List.{map-append}
use Rattle.stk_ctype.specs.Sound.{IsSound}
use Rattle.stk_type_rules.specs.declared.untyped.Untyped.TheVariants.{Rule, NoMemory}
use Rattle.stk_declarators.proofs.Rows.{local_pushed}
use Rattle.stk_typing.specs.Locals.{AreSoundLocals, Local, local_of}
use Rattle.stk_typing.specs.Scope.{Scope}
use Rattle.stk_typing.proofs.Turns.{mapped, nil}
use Rattle.stk_typing.specs.declared.initialiser_leaves.Leaves.{Leaves}
use Rattle.stk_statements.specs.declared.labels.Labels.{Labels}
use Rattle.stk_statements.specs.declared.places.Context.{Context}
use Rattle.stk_function_types.specs.Bodies.{Body, with_more}
use Rattle.stk_statements.specs.Places.{body_in, scope_owned}
use Rattle.stk_function_types.specs.Locals.{complete_rule, counted_rule, declared_rule, initial_scope, is_local_register, is_refused, lacks_size, local_by, local_declared, local_rule, locals_declared, own_type}
use Rattle.stk_function_types.specs.Sections.{Labelled, label_typed, labels_typed}
use Rattle.stk_statements.specs.Rows.{AnyFact, AreLocals, IsLabelled}

-- ---- where more locals are in force
pub more_body : (p : Context) (ls now : List LocalName) (more : List Local) → map local_of now ≡ map local_of ls ++ more → body_in p now ≡ with_more (body_in p ls) more
more_body p ls now more is =
    ap (λ (z : List Local). record { scope = record { bytes = p.file.bytes.now; entries = p.file.names.now; locals = z; own = None }; taken = p.taken.now; outer = p.outer; returns = (body_in p ls).returns; can_break = p.can_break; can_continue = p.can_continue }) is

-- ---- one turn of each loop
pub declarators_turn : (b next : Body) (static : Bool) (t : TypeTree) (d : DeclrTree) (ds : DeclrTrees) (before mid now : List Local) (v : Unit {0}) (result : Result (Unit {0}) Untyped) (a m c : List Fact) →
    Gives (AreLocals before mid) (local_declared b static t d) (Ok v) a m → ((l : List Local) → mid ≡ before ++ l → next ≡ with_more b l) →
    Gives (AreLocals mid now) (locals_declared next static t ds) result m c → Gives (AreLocals before now) (locals_declared b static t (s.then_declarator d ds)) result a c
declarators_turn b next static t d ds before mid now v result a m c h grows g =
    goes (AreLocals before mid) (AreLocals before now) (local_declared b static t d) (λ l. and_then (locals_declared (with_more b l) static t ds) (λ ls. Good (l ++ ls) [])) v result a m c h
    (λ l is. mapped (AreLocals mid now) (AreLocals before now) (locals_declared (with_more b l) static t ds) (λ ls. l ++ ls) result m c
    (λ ls w so. so ∙ ap (λ (z : List Local). z ++ ls) is ∙ append_assoc before l ls)
    (subst (λ (z : Body). Gives (AreLocals mid now) (locals_declared z static t ds) result m c) (grows l is) g))

abbrev pub Labels_are : Labels → Labelled → Unit {0} → Type 0
Labels_are now m v = IsLabelled m now

pub labels_turn : (scope : Scope) (kind : Option IntKind) (l : Labelled) (x : LabelTree) (xs : LabelTrees) (next now : Labels) (v : Unit {0}) (result : Result (Unit {0}) Untyped) (a m c : List Fact) →
    Gives (Labels_are next) (label_typed scope kind l x) (Ok v) a m → ((z : Labelled) → IsLabelled z next → Gives (Labels_are now) (labels_typed scope kind z xs) result m c) →
    Gives (Labels_are now) (labels_typed scope kind l (s.then_label x xs)) result a c
labels_turn scope kind l x xs next now v result a m c h g = goes (Labels_are next) (Labels_are now) (label_typed scope kind l x) (λ z. labels_typed scope kind z xs) v result a m c h (λ z is. g z is)

-- ---- a local's declarator
pub put_gives : (k : ℕ) (r : Ruled) (name : List ℕ) (i : ℕ) (before now : List Local) (v : Unit {0}) (a b : List Fact) →
    Gives (IsAt b) (finish k r) (Ok i) a b → now ≡ before ++ local_by name k (fact_at b i) → Gives (AreLocals before now) (and_then (finish k r) (λ x. Good (local_by name k x) [])) (Ok v) a b
put_gives k r name i before now v a b h is =
    goes (IsAt b) (AreLocals before now) (finish k r) (λ x. Good (local_by name k x) []) i (Ok v) a b b h
    (λ x at. (sym (nil b), is ∙ ap (λ (z : Fact). before ++ local_by name k z) at.is))

abbrev pub AreLeaves : Leaves → Leaves → Type 0
AreLeaves a r = r ≡ a

pub sized_gives : (o : Outcome Leaves) (rule : Leaves → Ruled) (k : ℕ) (name : List ℕ) (v : Leaves) (before now : List Local) (result : Result (Unit {0}) Untyped) (a b c : List Fact) →
    Gives AreLeaves o (Ok v) a b → Gives (AreLocals before now) (and_then (finish k (rule v)) (λ x. Good (local_by name k x) [])) result b c →
    Gives (AreLocals before now) (and_then o (λ leaves. and_then (finish k (rule leaves)) (λ x. Good (local_by name k x) []))) result a c
sized_gives o rule k name v before now result a b c h g =
    goes AreLeaves (AreLocals before now) o (λ leaves. and_then (finish k (rule leaves)) (λ x. Good (local_by name k x) [])) v result a b c h
    (λ leaves is. subst (λ (z : Leaves). Gives (AreLocals before now) (and_then (finish k (rule z)) (λ x. Good (local_by name k x) [])) result b c) is g)

-- a place that was answered is below the number of facts
pub own_below : (made : Result NodeFact Broken) (node at : ℕ) (old new : List Fact) → ((r : Ruled) → MakesFact r made → Gives (IsAt new) (finish node r) (Ok at) old new) → at < length new
own_below (Ok f) node at old new g = (g (Fits (fact_of f)) refl).1.below
own_below (Err (broken.Rule r)) node at old new g = elim (g (Breaks r) refl) [ ]
own_below (Err broken.NoMemory) node at old new g = (g (Fits plain) tt).1.below

-- what a refused declarator's own type is
pub own_refused : (r : Ruled) (n : ℕ) → MakesFact r (Err (broken.Rule n)) → own_type r ≡ void_type
own_refused (Breaks r) n h = refl
own_refused (Fits x) n h = elim h [ ]

-- whether a declarator is refused, by what the code makes of it
pub refused_is : (r : Ruled) (n : ℕ) → MakesFact r (Err (broken.Rule n)) → true ≡ is_refused r
refused_is (Breaks r) n h = refl
refused_is (Fits x) n h = elim h [ ]

pub made_is : (r : Ruled) (f : NodeFact) → MakesFact r (Ok f) → false ≡ is_refused r
made_is (Breaks r) f h = elim h [ ]
made_is (Fits x) f h = refl

-- ---- the rules of a local's declarator
free : (r : Ruled) → MakesFact r (Err broken.NoMemory)
free (Breaks r) = tt
free (Fits x) = tt

pub free_as : (result : Result NodeFact Broken) → result ≡ Err broken.NoMemory → (r : Ruled) → MakesFact r result
free_as result is r = subst (λ (x : Result NodeFact Broken). MakesFact r x) (sym is) (free r)

pub declared_gives : (bytes : List ℕ) (structs : Structs) (twice static : Bool) (i : MaybeInitTree) (whole : TypeTree) (sizes : List Size) (leaves : Leaves) (count : Option ℕ) (result : Result NodeFact Broken) →
    count ≡ given_count bytes (are_scalars sizes whole) i → twice ≡ false → lacks_size count sizes ≡ false → MakesFact (complete_rule structs static i leaves (declared_type structs (counted_sizes count sizes) whole)) result →
    MakesFact (declared_rule bytes structs twice static i whole sizes leaves) result
declared_gives bytes structs twice static i whole sizes leaves count result counts once given made =
    let rest = declared_type structs (counted_sizes count sizes) whole in
    subst (λ (n : Option ℕ). MakesFact (counted_rule structs twice static i leaves sizes whole n) result) counts
    (subst (λ (b : Bool). MakesFact (local_rule structs b (lacks_size count sizes) static i leaves rest) result) (sym once)
    (subst (λ (b : Bool). MakesFact (local_rule structs false b static i leaves rest) result) (sym given) made))

-- ---- whatever is known of a statement
pub any_err : (o : Outcome Fact) (e : Untyped) (a b : List Fact) → Gives (IsAt b) o (Err e) a b → Gives AnyFact o (Err e) a b
any_err (Good x t) (Rule n r) a b h = h
any_err (Good x t) NoMemory a b h = tt
any_err (Refused n r) (Rule m s) a b h = h
any_err (Refused n r) NoMemory a b h = tt

-- ---- locals
pub local_added : (structs : Structs) (old new : List LocalName) (l : LocalName) → new ≡ old ++ l ∷ [] → IsSound structs (type_of l.ty) → AreSoundLocals structs (map local_of old) → AreSoundLocals structs (map local_of new)
local_added structs old new l is so all = local_pushed {E = Unit {0}} structs (Ok tt) old new l is so all

pub owned_is : (p : Context) (ls now : List LocalName) (x : LocalName) (own : Option ℕ) → now ≡ ls ++ x ∷ [] → own ≡ (if is_local_register (body_in p ls) false x.node (type_of x.ty) then Some x.node else None) → scope_owned p now own ≡ initial_scope (body_in p ls) false (local_of x)
owned_is p ls now x own is reg =
    ap (λ (z : List Local). record { bytes = p.file.bytes.now; entries = p.file.names.now; locals = z; own = own }) (ap (map local_of) is ∙ map-append local_of ls (x ∷ []))
    ∙ ap (λ (o : Option ℕ). record { bytes = p.file.bytes.now; entries = p.file.names.now; locals = map local_of ls ++ local_of x ∷ []; own = o }) reg
