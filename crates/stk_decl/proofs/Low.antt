-- What the readers of initialisers read is no higher than the room that they have.
use Rattle.std.proofs.Common.{◌≡◌, ℕ, zero, suc, ◌≤◌, Bool, false, List, length, Option, Some, None, sym, subst, ◌∙◌, arith}
use Rattle.std.proofs.lemmas.Bool.{leb-true}
use Rattle.stk_base.specs.declared.span.Span.{Span}
use Rattle.stk_tree.specs.declared.fixed.Lexeme.{Lexeme}
use Rattle.stk_tree.specs.Nesting.{designators_nesting, initialiser_nesting, item_nesting, items_nesting}
use Rattle.stk_tree.specs.Syntax.{DesigTrees, InitTree, ItemTree, ItemTrees, MaybeInitTree}
use Rattle.stk_tree.specs.Syntax as s
use Rattle.stk_grammar.specs.Reading.{◌>>=◌, Found, behind_left_brace, behind_right_brace}
use Rattle.stk_grammar.specs.Stopped.{stopped_at}
use Rattle.stk_grammar.proofs.Operators.{bind_some, if_some, some_is}
use Rattle.stk_grammar.proofs.Stopped.{stopped_sound}
use Rattle.stk_grammar.specs.DeclarationReading.{Reader, behind_path, designator_at, designators_at, initialiser_at, initialiser_on, item_at, items_at, items_from, low_path, more_items_at, path_at}
use Rattle.stk_decl.specs.declared.turns.Turn.{Turn}
use Rattle.stk_decl.specs.declared.turns.Turn.TheVariants.{End, More}
use Rattle.stk_decl.specs.Rows.{paired}
use Rattle.stk_decl.specs.Turns.{brace_turn}
use Rattle.stk_decl.proofs.Rows.{items_row, turned}

-- what is read at the front of any tokens is no higher than n
abbrev pub ReadsLow : {X : Type 0} → (X → ℕ) → ℕ → Reader X → Type 0
ReadsLow {X = X} nesting n reader = (ts : List Lexeme) (x : X × List Lexeme) → reader ts ≡ Some x → nesting x.0 ≤ n

turned_low : (n : ℕ) (one : Reader ItemTree) (go : Reader (ItemTrees × Bool)) → ReadsLow item_nesting n one → ReadsLow (λ t. items_nesting t.0) n go
    → (o : Found Turn) (y : (ItemTrees × Bool) × List Lexeme) → turned (paired s.then_item) (λ b. (s.no_items, b)) one go o ≡ Some y → items_nesting y.0.0 ≤ n
turned_low n one go low_one low_go None y e = absurd cc
turned_low n one go low_one low_go (Some (End b, rest)) y e =
    subst (λ (z : (ItemTrees × Bool) × List Lexeme). items_nesting z.0.0 ≤ n) (some_is ((s.no_items, b), rest) y e) (omega arith)
turned_low n one go low_one low_go (Some (More, next)) y e =
    let a = bind_some (one next) _ y e in
    let b = bind_some (go a.0.1) _ y a.2 in
    subst (λ (z : (ItemTrees × Bool) × List Lexeme). items_nesting z.0.0 ≤ n) (some_is (paired s.then_item a.0.0 b.0.0, b.0.1) y b.2)
    (let low : items_nesting (s.then_item a.0.0 b.0.0.0) ≤ n = omega (arith, low_one next a.0 a.1, low_go a.0.1 b.0 b.1) in low)

more_items_low : (n : ℕ) (one : Reader ItemTree) → ReadsLow item_nesting n one → (f : ℕ) → ReadsLow (λ t. items_nesting t.0) n (more_items_at one f)
more_items_low n one low_one zero ts y e = absurd (let k = sym ((items_row one).none ts) ∙ e in cc)
more_items_low n one low_one (suc f) ts y e =
    turned_low n one (more_items_at one f) low_one (more_items_low n one low_one f) (brace_turn ts) y (sym ((items_row one).step f ts) ∙ e)

from_low : (n : ℕ) (one : Reader ItemTree) → ReadsLow item_nesting n one → (o : Option (List Lexeme)) (ts : List Lexeme) (y : (ItemTrees × Bool) × List Lexeme) → items_from one o ts ≡ Some y → items_nesting y.0.0 ≤ n
from_low n one low_one (Some rest) ts y e =
    subst (λ (z : (ItemTrees × Bool) × List Lexeme). items_nesting z.0.0 ≤ n) (some_is ((s.no_items, false), rest) y e) (omega arith)
from_low n one low_one None ts y e =
    let a = bind_some (one ts) _ y e in
    let b = bind_some (more_items_at one (suc (length a.0.1)) a.0.1) _ y a.2 in
    subst (λ (z : (ItemTrees × Bool) × List Lexeme). items_nesting z.0.0 ≤ n) (some_is (paired s.then_item a.0.0 b.0.0, b.0.1) y b.2)
    (let low : items_nesting (s.then_item a.0.0 b.0.0.0) ≤ n = omega (arith, low_one ts a.0 a.1, more_items_low n one low_one (suc (length a.0.1)) a.0.1 b.0 b.1) in low)

items_low : (n : ℕ) (one : Reader ItemTree) → ReadsLow item_nesting n one → ReadsLow (λ t. items_nesting t.0) n (items_at one)
unfolding items_at
items_low n one low_one ts y e = from_low n one low_one (behind_right_brace ts) ts y e

low_path_low : (room : ℕ) (ds : DesigTrees) (ts : List Lexeme) (y : DesigTrees × List Lexeme) → low_path room ds ts ≡ Some y → designators_nesting y.0 ≤ room
low_path_low room ds ts y e =
    let a = if_some _ (behind_path ds ts >>= λ rest. Some (ds, rest)) y e in
    let b = bind_some (behind_path ds ts) _ y a.1 in
    subst (λ (z : DesigTrees × List Lexeme). designators_nesting z.0 ≤ room) (some_is (ds, b.0) y b.2) (leb-true (designators_nesting ds) room a.0)

path_low : (named : Span → Bool) (room : ℕ) → ReadsLow designators_nesting room (path_at named room)
unfolding path_at
path_low named room ts y e =
    let a = bind_some (designators_at (designator_at named room) (suc (length ts)) ts) _ y e in
    low_path_low room a.0.0 a.0.1 y a.2

item_low : (n : ℕ) (path : Reader DesigTrees) (init : Reader InitTree) → ReadsLow designators_nesting n path → ReadsLow initialiser_nesting n init → ReadsLow item_nesting n (item_at path init)
item_low n path init low_path low_init ts y e =
    let a = bind_some (path ts) _ y e in
    let b = bind_some (init a.0.1) _ y a.2 in
    subst (λ (z : ItemTree × List Lexeme). item_nesting z.0 ≤ n) (some_is (s.item a.0.0 b.0.0, b.0.1) y b.2)
    (let low : item_nesting (s.item a.0.0 b.0.0) ≤ n = omega (arith, low_path ts a.0 a.1, low_init a.0.1 b.0 b.1) in low)

on_low : (named : Span → Bool) (inner : ℕ) (items : Reader (ItemTrees × Bool)) → ReadsLow (λ t. items_nesting t.0) inner items
    → (o : Option (List Lexeme)) (ts : List Lexeme) (y : InitTree × List Lexeme) → initialiser_on items named (suc inner) o ts ≡ Some y → initialiser_nesting y.0 ≤ suc inner
on_low named inner items low (Some inside) ts y e =
    let a = bind_some (items inside) _ y e in
    subst (λ (z : InitTree × List Lexeme). initialiser_nesting z.0 ≤ suc inner) (some_is (s.braces a.0.0.0 a.0.0.1, a.0.1) y a.2)
    (let h : initialiser_nesting (s.braces a.0.0.0 a.0.0.1) ≤ suc inner = omega (arith, low inside a.0 a.1) in h)
on_low named inner items low None ts y e =
    let a = bind_some (stopped_at named (suc inner) 2 ts) _ y e in
    subst (λ (z : InitTree × List Lexeme). initialiser_nesting z.0 ≤ suc inner) (some_is (s.plain a.0.0, a.0.1) y a.2)
    (stopped_sound named (suc inner) 2 ts a.0.0 a.0.1 (omega arith) a.1).0.nesting

pub initialiser_low : (named : Span → Bool) (room : ℕ) → ReadsLow initialiser_nesting room (initialiser_at named room)
unfolding initialiser_at
initialiser_low named zero ts y e = absurd cc
initialiser_low named (suc inner) ts y e =
    on_low named inner (items_at (item_at (path_at named inner) (initialiser_at named inner)))
    (items_low inner (item_at (path_at named inner) (initialiser_at named inner)) (item_low inner (path_at named inner) (initialiser_at named inner) (path_low named inner) (initialiser_low named inner)))
    (behind_left_brace ts) ts y e
