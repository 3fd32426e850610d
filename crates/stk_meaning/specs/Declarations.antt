-- What the declaration of a local object does (C11 6.2.4p6, 6.7.9): its initialiser is evaluated and stored; a register
-- without one has any number.
use Rattle.std.specs.Prelude.{ℕ, Bool, if◌then◌else◌, List, ℤ, set}
use Rattle.stk_tree.specs.Syntax.{InitTree, MaybeInitTree, ItemTree, ItemTrees, DeclrTree, DeclrTrees, DeclarationTree}
use Rattle.stk_tree.specs.Syntax as s
use Rattle.stk_tree.specs.Parts.{is_static}
use Rattle.stk_type_rules.specs.Types.{is_scalar}
use Rattle.stk_meaning.specs.Typings.{number_kind, converted}
use Rattle.stk_meaning.specs.Places.{Setting, Target, in_register, in_kept, in_object, unnamed, target_at}
use Rattle.stk_meaning.specs.Worlds.{Ran, World, and_then, gives, answered, written, Flow, Normal}
use Rattle.stk_meaning.specs.Expressions.{value_of, stored_at, address_of}

-- initialisers in braces: the expressions of their items in order (C11 6.7.9p19)
abbrev mutual
  pub items_run : {S : Type 0} → Setting → World S → ItemTrees → List ℤ → S → Ran Flow S
  items_run g w s.no_items r m = gives Normal r m
  items_run g w (s.then_item x xs) r m = and_then (item_run g w x r m) (λ flow r m. items_run g w xs r m)

  pub item_run : {S : Type 0} → Setting → World S → ItemTree → List ℤ → S → Ran Flow S
  item_run g w (s.item path x) r m = initialiser_run g w x r m

  pub initialiser_run : {S : Type 0} → Setting → World S → InitTree → List ℤ → S → Ran Flow S
  initialiser_run g w (s.plain e) r m = and_then (value_of g w e r m) (λ x. gives Normal)
  initialiser_run g w (s.braces items comma) r m = items_run g w items r m

-- the object of a declarator gets the number of a scalar initialiser, in its type
abbrev pub begun_with : {S : Type 0} → Setting → World S → ℕ → ℤ → List ℤ → S → Ran Flow S
begun_with g w k x r m =
    let t = g.typing.type_at k in
    and_then (stored_at w (target_at g k) (number_kind t) (address_of w (target_at g k) k) (converted t x) x r m) (λ y. gives Normal)

-- the object of a declarator without initialiser
abbrev pub begun_without : {S : Type 0} → Setting → World S → ℕ → Target → List ℤ → S → Ran Flow S
begun_without g w k (in_register i) r m = and_then (answered (w.unset k (number_kind (g.typing.type_at k)) m) r) (λ x r m. gives Normal (set r i x) m)
begun_without g w k (in_kept q) r m = gives Normal r (w.begin_kept q m)
begun_without g w k (in_object o) r m = gives Normal r m
begun_without g w k unnamed r m = gives Normal r m

-- an automatic object: a scalar is stored by name; the outside writes the bytes of an array or a struct once its items
-- are evaluated
abbrev pub automatic_run : {S : Type 0} → Setting → World S → ℕ → MaybeInitTree → List ℤ → S → Ran Flow S
automatic_run g w k s.no_initialiser r m = begun_without g w k (target_at g k) r m
automatic_run g w k (s.some_initialiser (s.plain e)) r m =
    and_then (value_of g w e r m) (λ x r m. if is_scalar (g.typing.type_at k) then begun_with g w k x r m else written Normal (w.write m) r)
automatic_run g w k (s.some_initialiser (s.braces items comma)) r m = and_then (items_run g w items r m) (λ flow r m. written Normal (w.write m) r)

-- a declarator: a `static` object has its value before the function runs (C11 6.2.4p3)
abbrev pub declarator_run : {S : Type 0} → Setting → World S → Bool → DeclrTree → List ℤ → S → Ran Flow S
declarator_run g w static (s.declarator n count at tail init) r m = if static then gives Normal r m else automatic_run g w n.number init r m

-- declarators from left to right
abbrev pub declarators_run : {S : Type 0} → Setting → World S → Bool → DeclrTrees → List ℤ → S → Ran Flow S
declarators_run g w static s.no_declarators r m = gives Normal r m
declarators_run g w static (s.then_declarator d ds) r m = and_then (declarator_run g w static d r m) (λ flow r m. declarators_run g w static ds r m)

-- a declaration of a block
abbrev pub declaration_run : {S : Type 0} → Setting → World S → DeclarationTree → List ℤ → S → Ran Flow S
declaration_run g w (s.declaration word specifiers ds) r m = declarators_run g w (is_static word) ds r m
