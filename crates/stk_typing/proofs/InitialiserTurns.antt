-- One turn of a loop over designators, and over items.
use Rattle.std.proofs.Common.{ℕ, ◌≡◌, Bool, true, false, ◌||◌, List, [], refl, sym, ap, ◌∙◌, Result, Ok}
use Rattle.stk_tree.specs.Syntax.{DesigTree, DesigTrees, then_designator, ItemTree, ItemTrees, then_item}
use Rattle.stk_type_rules.specs.declared.untyped.Untyped.{Untyped}
use Rattle.stk_type_rules.specs.Facts.{Fact, fact_at}
use Rattle.stk_type_rules.specs.Outcome.{Outcome, Good, and_then, Gives, IsAt}
use Rattle.stk_type_rules.proofs.Steps.{goes}
use Rattle.stk_typing.specs.Scope.{Scope}
use Rattle.stk_typing.proofs.Turns.{mapped, nil}
use Rattle.stk_typing.specs.declared.initialiser_leaves.Leaves.{Leaves}
use Rattle.stk_typing.specs.Leaves.{no_leaf, leaf, merged}
use Rattle.stk_typing.specs.InitialiserTyping.{designator_typed, designators_typed, item_typed, items_typed}

abbrev pub Nothing : Unit {0} → Unit {0} → Type 0
Nothing u r = Unit {0}

pub designators_turn : (scope : Scope) (d : DesigTree) (ds : DesigTrees) (v : Unit {0}) (result : Result (Unit {0}) Untyped) (a b c : List Fact) →
    Gives Nothing (designator_typed scope d) (Ok v) a b → Gives Nothing (designators_typed scope ds) result b c → Gives Nothing (designators_typed scope (then_designator d ds)) result a c
designators_turn scope d ds v result a b c h g = goes Nothing Nothing (designator_typed scope d) (λ u. designators_typed scope ds) v result a b c h (λ u is. g)

or_false : (p : Bool) → (p || false) ≡ p
or_false true = refl
or_false false = refl

or_assoc : (p q r : Bool) → ((p || q) || r) ≡ (p || (q || r))
or_assoc true q r = refl
or_assoc false q r = refl

pub merged_none : (a : Leaves) → merged a no_leaf ≡ a
merged_none a = λ j. record { has_other = or_false a.has_other j; has_struct = or_false a.has_struct j }

merged_turn : (acc a b : Leaves) → merged (merged acc a) b ≡ merged acc (merged a b)
merged_turn acc a b = λ j. record { has_other = or_assoc acc.has_other a.has_other b.has_other j; has_struct = or_assoc acc.has_struct a.has_struct b.has_struct j }

abbrev pub AreLeaves : Leaves → Leaves → Type 0
AreLeaves a r = r ≡ a

-- leaves behind others
abbrev pub Merges : Leaves → Leaves → Leaves → Type 0
Merges acc a r = r ≡ merged acc a

pub items_turn : (scope : Scope) (acc next : Leaves) (i : ItemTree) (is : ItemTrees) (v : Leaves) (result : Result Leaves Untyped) (a b c : List Fact) →
    Gives AreLeaves (item_typed scope i) (Ok v) a b → next ≡ merged acc v → Gives (Merges next) (items_typed scope is) result b c →
    Gives (Merges acc) (items_typed scope (then_item i is)) result a c
items_turn scope acc next i is v result a b c h same g =
    goes AreLeaves (Merges acc) (item_typed scope i) (λ x. and_then (items_typed scope is) (λ y. Good (merged x y) [])) v result a b c h
    (λ x at. mapped (Merges next) (Merges acc) (items_typed scope is) (merged x) result b c
    (λ y r m. m ∙ ap (λ (z : Leaves). merged z y) (same ∙ ap (merged acc) at) ∙ merged_turn acc x y) g)

-- one expression
pub leaf_gives : (o : Outcome Fact) (i : ℕ) (v : Leaves) (a b : List Fact) → Gives (IsAt b) o (Ok i) a b → v ≡ leaf (fact_at b i) → Gives AreLeaves (and_then o (λ x. Good (leaf x) [])) (Ok v) a b
leaf_gives o i v a b h same = goes (IsAt b) AreLeaves o (λ x. Good (leaf x) []) i (Ok v) a b b h (λ x at. (sym (nil b), same ∙ ap leaf at.is))

-- designators, and what is behind them
pub then_gives : (o : Outcome (Unit {0})) (p : Outcome Leaves) (v : Unit {0}) (result : Result Leaves Untyped) (a b c : List Fact) → Gives Nothing o (Ok v) a b → Gives AreLeaves p result b c → Gives AreLeaves (and_then o (λ u. p)) result a c
then_gives o p v result a b c h g = goes Nothing AreLeaves o (λ u. p) v result a b c h (λ u is. g)
