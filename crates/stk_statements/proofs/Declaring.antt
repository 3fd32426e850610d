-- A local declaration: what its declarators show, and how the answers of its parts make its own.
use Rattle.std.proofs.Common.{ℕ, ◌≡◌, ◌∙◌, Bool, List, [], Vec, Global, drop, map, Option, Some, None, Result, Ok, Err, refl, sym, ap, subst}
use Rattle.std.specs.Option.{option_map, is_some}
use Rattle.std.proofs.lemmas.List.{drop-map}
use Rattle.stk_ctype.specs.Types.{TypeTree}
use Rattle.stk_tree.specs.declared.declaration.Declr.{Declr, out-Declr, fold_out-Declr}
use Rattle.stk_tree.specs.declared.declaration.Init.{Init}
use Rattle.stk_tree.specs.Syntax.{BaseFormTree, DesigTree, DimensionTree, InitTree, TailTree, ExprFormTree, BaseTree, DeclrTree, DeclrTrees, EnumrTree, ItemTree, MemberTree, ParamTree, TypeNameTree, ExprTree, MaybeInitTree}
use Rattle.stk_tree.specs.Syntax as s
use Rattle.stk_tree.specs.View.{base_form_step, designator_step, dimension_step, initialiser_step, tail_step, expression_form_step, base_step, declarator_step, enumerator_step, item_step, member_step, parameter_step, type_name_step, expression_step, maybe_initialiser, view_declarator, view_initialiser, view_tail}
use Rattle.stk_type_rules.specs.declared.untyped.Untyped.{Untyped}
use Rattle.stk_type_rules.specs.declared.untyped.Broken.{Broken}
use Rattle.stk_type_rules.specs.declared.facts.NodeFact.{NodeFact}
use Rattle.stk_type_rules.specs.Facts.{Fact, Ruled, fact_at}
use Rattle.stk_type_rules.specs.Outcome.{Outcome, Good, and_then, finish, Gives, IsAt, MakesFact}
use Rattle.stk_type_rules.proofs.Steps.{goes, stops}
use Rattle.stk_typing.specs.declared.arrays.Size.{Size}
use Rattle.stk_typing.specs.declared.locals.LocalName.{LocalName}
use Rattle.stk_typing.specs.Locals.{Local, find_local, local_of}
use Rattle.stk_typing.specs.Arrays.{declared_type}
use Rattle.stk_typing.specs.Forms.{structs_in}
use Rattle.stk_typing.specs.declared.initialiser_leaves.Leaves.{Leaves}
use Rattle.stk_function_types.specs.Bodies.{Body, is_in_block}
use Rattle.stk_function_types.specs.Locals.{declared_rule, initial_typed, is_untyped, local_by, local_sized, locals_declared, own_local}
use Rattle.stk_statements.specs.declared.places.Context.{Context}
use Rattle.stk_statements.specs.Places.{body_in}
use Rattle.stk_statements.specs.Rows.{AreLocals}
use Rattle.stk_statements.proofs.Turns.{AreLeaves, sized_gives}

-- a declarator with its parts
pub view_declarator_node : (d : Declr) → view_declarator d ≡ s.declarator (out-Declr d).node (out-Declr d).stars (out-Declr d).name (view_tail (out-Declr d).tail) (maybe_initialiser (option_map view_initialiser (out-Declr d).init))
view_declarator_node d = on (out-Declr d).init refl where
  on : (o : Option Init) → (out-Declr d).init ≡ o → view_declarator d ≡ s.declarator (out-Declr d).node (out-Declr d).stars (out-Declr d).name (view_tail (out-Declr d).tail) (maybe_initialiser (option_map view_initialiser (out-Declr d).init))
  on None h = fold_out-Declr BaseFormTree DesigTree DimensionTree InitTree TailTree ExprFormTree BaseTree DeclrTree EnumrTree ItemTree MemberTree ParamTree TypeNameTree ExprTree base_form_step designator_step dimension_step initialiser_step tail_step expression_form_step base_step declarator_step enumerator_step item_step member_step parameter_step type_name_step expression_step d ∙ rw h refl
  on (Some i) h = fold_out-Declr BaseFormTree DesigTree DimensionTree InitTree TailTree ExprFormTree BaseTree DeclrTree EnumrTree ItemTree MemberTree ParamTree TypeNameTree ExprTree base_form_step designator_step dimension_step initialiser_step tail_step expression_form_step base_step declarator_step enumerator_step item_step member_step parameter_step type_name_step expression_step d ∙ rw h refl

-- whether a name is declared in the block at hand
pub in_block_is : (p : Context) (ls : List LocalName) (name given : List ℕ) (twice : Bool) → given ≡ name → twice ≡ is_some (find_local given (map local_of (drop p.outer ls))) → twice ≡ is_in_block (body_in p ls) name
in_block_is p ls name given twice same h = h ∙ ap (λ (z : List Local). is_some (find_local given z)) (sym (drop-map local_of p.outer ls)) ∙ ap (λ (z : List ℕ). is_in_block (body_in p ls) z) same

-- a local's initialiser, where the code has its name and its sizes in other words
initial_is : (b : Body) (static : Bool) (name given : List ℕ) (k : ℕ) (whole : TypeTree) (init : MaybeInitTree) (sizes parts : List Size) (skips : Bool) (result : Result Leaves Untyped) (a m : List Fact) →
    given ≡ name → parts ≡ sizes → skips ≡ is_untyped static (declared_type (structs_in b.scope) parts whole) →
    Gives AreLeaves (initial_typed b skips (own_local (structs_in b.scope) given k whole parts) init) result a m →
    Gives AreLeaves (initial_typed b (is_untyped static (declared_type (structs_in b.scope) sizes whole)) (own_local (structs_in b.scope) name k whole sizes) init) result a m
initial_is b static name given k whole init sizes parts skips result a m same all skip typed =
    let untyped : Bool = is_untyped static (declared_type (structs_in b.scope) sizes whole) in
    let skip_so : skips ≡ untyped = skip ∙ ap (λ (z : List Size). is_untyped static (declared_type (structs_in b.scope) z whole)) all in
    subst (λ (z : List ℕ). Gives AreLeaves (initial_typed b untyped (own_local (structs_in b.scope) z k whole sizes) init) result a m) same
    (subst (λ (z : List Size). Gives AreLeaves (initial_typed b untyped (own_local (structs_in b.scope) given k whole z) init) result a m) all
    (subst (λ (z : Bool). Gives AreLeaves (initial_typed b z (own_local (structs_in b.scope) given k whole parts) init) result a m) skip_so typed))

-- a local's declarator behind its array parts, where the code has its name, its sizes and its locals in other words
pub sized_is : (b : Body) (static : Bool) (name given : List ℕ) (k : ℕ) (whole : TypeTree) (init : MaybeInitTree) (sizes parts : List Size) (twice skips : Bool) (v : Leaves) (made : Result NodeFact Broken) (before mid now : List Local) (result : Result (Unit {0}) Untyped) (a m c : List Fact) →
    given ≡ name → parts ≡ sizes → twice ≡ is_in_block b name → mid ≡ before → skips ≡ is_untyped static (declared_type (structs_in b.scope) parts whole) →
    Gives AreLeaves (initial_typed b skips (own_local (structs_in b.scope) given k whole parts) init) (Ok v) a m →
    MakesFact (declared_rule b.scope.bytes (structs_in b.scope) twice static init whole sizes v) made →
    ((r : Ruled) → MakesFact r made → Gives (AreLocals mid now) (and_then (finish k r) (λ x. Good (local_by given k x) [])) result m c) →
    Gives (AreLocals before now) (local_sized b static name k whole init sizes) result a c
sized_is b static name given k whole init sizes parts twice skips v made before mid now result a m c same all in_block stay skip typed ruled put =
    let rule : Leaves → Ruled = λ z. declared_rule b.scope.bytes (structs_in b.scope) (is_in_block b name) static init whole sizes z in
    let typed_so = initial_is b static name given k whole init sizes parts skips (Ok v) a m same all skip typed in
    let ruled_so = subst (λ (z : Bool). MakesFact (declared_rule b.scope.bytes (structs_in b.scope) z static init whole sizes v) made) in_block ruled in
    let put_so = subst (λ (z : List ℕ). Gives (AreLocals before now) (and_then (finish k (rule v)) (λ x. Good (local_by z k x) [])) result m c) same
    (subst (λ (z : List Local). Gives (AreLocals z now) (and_then (finish k (rule v)) (λ x. Good (local_by given k x) [])) result m c) stay (put (rule v) ruled_so)) in
    sized_gives (initial_typed b (is_untyped static (declared_type (structs_in b.scope) sizes whole)) (own_local (structs_in b.scope) name k whole sizes) init) rule k name v before now result a m c typed_so put_so

-- the same where its initialiser is refused
pub sized_stops : (b : Body) (static : Bool) (name given : List ℕ) (k : ℕ) (whole : TypeTree) (init : MaybeInitTree) (sizes parts : List Size) (skips : Bool) (e : Untyped) (before now : List Local) (a m : List Fact) →
    given ≡ name → parts ≡ sizes → skips ≡ is_untyped static (declared_type (structs_in b.scope) parts whole) →
    Gives AreLeaves (initial_typed b skips (own_local (structs_in b.scope) given k whole parts) init) (Err e) a m →
    Gives (AreLocals before now) (local_sized b static name k whole init sizes) (Err e) a m
sized_stops b static name given k whole init sizes parts skips e before now a m same all skip typed =
    stops AreLeaves (AreLocals before now) (initial_typed b (is_untyped static (declared_type (structs_in b.scope) sizes whole)) (own_local (structs_in b.scope) name k whole sizes) init)
    (λ leaves. and_then (finish k (declared_rule b.scope.bytes (structs_in b.scope) (is_in_block b name) static init whole sizes leaves)) (λ x. Good (local_by name k x) [])) e a m a m
    (initial_is b static name given k whole init sizes parts skips (Err e) a m same all skip typed)

-- the sizes of a declarator's array parts, then the rest
pub declared_is : (o : Outcome (List Size)) (rest : List Size → Outcome (List Local)) (v : Vec Size Global) (before now : List Local) (result : Result (Unit {0}) Untyped) (a m c : List Fact) →
    Gives (λ (z : List Size) (r : Vec Size Global). r.items ≡ z) o (Ok v) a m → Gives (AreLocals before now) (rest v.items) result m c → Gives (AreLocals before now) (and_then o rest) result a c
declared_is o rest v before now result a m c h g =
    goes (λ (z : List Size) (r : Vec Size Global). r.items ≡ z) (AreLocals before now) o rest v result a m c h (λ z is. subst (λ (w : List Size). Gives (AreLocals before now) (rest w) result m c) is g)

-- a declaration's base, then its declarators
pub declaration_is : (o : Outcome Fact) (b : Body) (static given : Bool) (t : TypeTree) (ds : DeclrTrees) (at : ℕ) (before now : List Local) (result : Result (Unit {0}) Untyped) (a m c : List Fact) →
    Gives (IsAt m) o (Ok at) a m → given ≡ static → t ≡ (fact_at m at).ty → Gives (AreLocals before now) (locals_declared b given t ds) result m c → Gives (AreLocals before now) (and_then o (λ x. locals_declared b static x.ty ds)) result a c
declaration_is o b static given t ds at before now result a m c h word same g =
    goes (IsAt m) (AreLocals before now) o (λ x. locals_declared b static x.ty ds) at result a m c h
    (λ x is. subst (λ (z : Bool). Gives (AreLocals before now) (locals_declared b z x.ty ds) result m c) word
    (subst (λ (z : TypeTree). Gives (AreLocals before now) (locals_declared b given z ds) result m c) (same ∙ ap (λ (z : Fact). z.ty) is.is) g))
