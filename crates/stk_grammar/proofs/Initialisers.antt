-- Initialisers, and the designators and items in their braces.
use Rattle.std.proofs.Common.{◌≡◌, ℕ, zero, suc, ◌<◌, ◌≤◌, Bool, true, false, ◌&&◌, List, ◌∷◌, length, Option, Some, None, refl, sym, ap, subst, ◌∙◌, length-append, arith}
use Rattle.std.proofs.lemmas.Bool.{le-leb, leb-true}
use Rattle.stk_base.specs.declared.span.Span.{Span}
use Rattle.stk_base.specs.declared.token.Class.TheVariants.{Word}
use Rattle.stk_tree.specs.declared.fixed.Fixed.TheVariants as fixed
use Rattle.stk_tree.specs.declared.fixed.Lexeme.{Lexeme}
use Rattle.stk_tree.specs.declared.fixed.Lexeme.TheVariants.{Leaf, Fixed as Token}
use Rattle.stk_tree.specs.Syntax.{DesigTree, DesigTrees, ExprTree, InitTree, ItemTree, ItemTrees, MaybeInitTree}
use Rattle.stk_tree.specs.Syntax as s
use Rattle.stk_tree.specs.Nesting.{designators_nesting, initialiser_nesting, item_nesting, items_nesting, maybe_initialiser_nesting}
use Rattle.stk_tree.specs.Placed.{comma_placed, designator_placed, designators_placed, initialiser_placed, item_placed, items_placed, maybe_initialiser_placed}
use Rattle.stk_tree.specs.Tokens.{item_tokens}
use Rattle.stk_tree.specs.Unlaid.{unlaid_designators, unlaid_expression, unlaid_initialiser, unlaid_item, unlaid_items, unlaid_maybe_initialiser}
use Rattle.stk_grammar.specs.Expressions.{stops}
use Rattle.stk_tree.specs.Fits.{designator_fits, designators_fits, initialiser_fits, item_fits, items_fits, maybe_initialiser_fits}
use Rattle.stk_grammar.specs.Reading.{◌>>=◌, Found, behind_assign, behind_comma, behind_dot, behind_left_brace, behind_left_bracket, behind_right_brace, behind_right_bracket, word_at}
use Rattle.stk_grammar.specs.Stopped.{stopped_at}
use Rattle.stk_grammar.proofs.Operators.{bind_some, both_true, if_some, some_is, true_both}
use Rattle.stk_grammar.proofs.Prints.{nesting_above, prints, prints_longer}
use Rattle.stk_grammar.proofs.Sound.{comma_is, left_bracket_is, right_bracket_is, word_is}
use Rattle.stk_grammar.specs.DeclarationReading.{Reader, begins_designator, behind_path, designator_at, designator_on, designators_at, designators_on, initial_at, initialiser_at, initialiser_on, item_at, items_at, items_from, items_go, items_on, low_path, more_items_at, optional_initialiser, path_at}
use Rattle.stk_grammar.proofs.Nestings.{designators-unlaid}
use Rattle.stk_grammar.proofs.DeclarationPunctuators.{assign_is, dot_is, end_no_assign, end_stops, ends_declarator, expression_found, expression_opens, expression_read, left_brace_is, opens_no_designator, opens_no_left_brace, opens_no_right_brace, right_brace_is}
use Rattle.stk_grammar.proofs.DeclarationPrints.{item-append, prints_comma, prints_designator, prints_designators, prints_initial, prints_initialiser, prints_item, prints_items, prints_more_items, prints_path_end}
use Rattle.stk_grammar.proofs.Stands.{FindsOnly, Stands}

-- ---- designators

dot_next : (named : Span → Bool) (room f : ℕ) (at : Span) (xs : DesigTrees) (ts rest : List Lexeme) → designators_at (designator_at named room) f ts ≡ Some (xs, rest)
    → designators_at (designator_at named room) (suc f) (Token fixed.Dot ∷ Leaf Word at ∷ ts) ≡ Some (s.then_designator (s.dot_designator at) xs, rest)
unfolding designators_at designator_at
dot_next named room f at xs ts rest later = rw later refl

at_next : (named : Span → Bool) (room f : ℕ) (e : ExprTree) (xs : DesigTrees) (inside ts rest : List Lexeme) → stopped_at named room 3 inside ≡ Some (e, Token fixed.RightBracket ∷ ts)
    → designators_at (designator_at named room) f ts ≡ Some (xs, rest) → designators_at (designator_at named room) (suc f) (Token fixed.LeftBracket ∷ inside) ≡ Some (s.then_designator (s.at_designator e) xs, rest)
unfolding designators_at designator_at
at_next named room f e xs inside ts rest by later = rw (by, later) refl

designators_end : (one : Reader DesigTree) (f : ℕ) (r : List Lexeme) → begins_designator r ≡ false → designators_at one (suc f) r ≡ Some (s.no_designators, r)
unfolding designators_at
designators_end one f r h = ap (λ b. designators_on (designators_at one f) one b r) h

designators_read : (ds : DesigTrees) (named : Span → Bool) (room f : ℕ) (r : List Lexeme) → designators_placed ds ≡ true → designators_fits named ds ≡ true → designators_nesting ds ≤ room → begins_designator r ≡ false
    → length (prints_designators ds r) < f → designators_at (designator_at named room) f (prints_designators ds r) ≡ Some (unlaid_designators ds, r)
designators_read ds named room zero r p q low ends much = absurd (omega arith)
designators_read s.no_designators named room (suc f) r p q low ends much = designators_end (designator_at named room) f r ends
designators_read (s.then_designator (s.dot_designator at) xs) named room (suc f) r p q low ends much =
    dot_next named room f at (unlaid_designators xs) (prints_designators xs r) r (designators_read xs named room f r p q (omega arith) ends (omega arith))
designators_read (s.then_designator (s.at_designator e) xs) named room (suc f) r p q low ends much =
    let a = both_true _ _ p in
    let b = both_true _ _ q in
    let behind : List Lexeme = Token fixed.RightBracket ∷ prints_designators xs r in
    at_next named room f (unlaid_expression e) (unlaid_designators xs) (prints e behind) (prints_designators xs r) r
    (expression_read named room 3 e behind a.0 b.0 (omega arith) refl)
    (designators_read xs named room f r a.1 b.1 (omega arith) ends (omega (arith, prints_longer e behind)))

path_end_no_designator : (ds : DesigTrees) (r : List Lexeme) → begins_designator r ≡ false → begins_designator (prints_path_end ds r) ≡ false
path_end_no_designator s.no_designators r h = h
path_end_no_designator (s.then_designator d ds) r h = refl

path_end_read : (ds : DesigTrees) (r : List Lexeme) → behind_path (unlaid_designators ds) (prints_path_end ds r) ≡ Some r
path_end_read s.no_designators r = refl
path_end_read (s.then_designator d ds) r = refl

low_path_some : (room : ℕ) (ds : DesigTrees) (ts rest : List Lexeme) → designators_nesting ds ≤ room → behind_path ds ts ≡ Some rest → low_path room ds ts ≡ Some (ds, rest)
low_path_some room ds ts rest low e = rw (le-leb (designators_nesting ds) room low, e) refl

path_read : (ds : DesigTrees) (named : Span → Bool) (room : ℕ) (r : List Lexeme) → designators_placed ds ≡ true → designators_fits named ds ≡ true → designators_nesting ds ≤ room → begins_designator r ≡ false
    → path_at named room (prints_designators ds (prints_path_end ds r)) ≡ Some (unlaid_designators ds, r)
unfolding path_at
path_read ds named room r p q low ends =
    ap (λ (o : Found DesigTrees). o >>= λ x. low_path room x.0 x.1)
    (designators_read ds named room (suc (length (prints_designators ds (prints_path_end ds r)))) (prints_path_end ds r) p q low (path_end_no_designator ds r ends) (omega arith))
    ∙ low_path_some room (unlaid_designators ds) (prints_path_end ds r) r (omega (arith, designators-unlaid ds)) (path_end_read ds r)

-- what was found of designators
abbrev AreDesignators : (Span → Bool) → List Lexeme → DesigTrees × List Lexeme → Type 0
AreDesignators named ts x = (ts ≡ prints_designators x.0 x.1) × (designators_placed x.0 ≡ true) × (designators_fits named x.0 ≡ true)

abbrev IsDesignator : (Span → Bool) → List Lexeme → DesigTree × List Lexeme → Type 0
IsDesignator named ts x = (ts ≡ prints_designator x.0 x.1) × (designator_placed x.0 ≡ true) × (designator_fits named x.0 ≡ true)

designator_on_found : (named : Span → Bool) (room : ℕ) (o b : Option (List Lexeme)) (ts : List Lexeme) (x : DesigTree × List Lexeme) → behind_dot ts ≡ o → behind_left_bracket ts ≡ b
    → designator_on named room o b ≡ Some x → IsDesignator named ts x
designator_on_found named room (Some inside) b ts x is at e =
    let w = bind_some (word_at inside) _ x e in
    subst (IsDesignator named ts) (some_is (s.dot_designator w.0.0, w.0.1) x w.2) (dot_is ts inside is ∙ ap (λ r. Token fixed.Dot ∷ r) (word_is inside w.0 w.1), refl, refl)
designator_on_found named room None (Some inside) ts x is at e =
    let a = bind_some (stopped_at named room 3 inside) _ x e in
    let b = bind_some (behind_right_bracket a.0.1) _ x a.2 in
    let p = expression_found named room 3 inside a.0 (omega arith) a.1 in
    subst (IsDesignator named ts) (some_is (s.at_designator a.0.0, b.0) x b.2)
    (left_bracket_is ts inside at ∙ ap (λ r. Token fixed.LeftBracket ∷ r) (p.text ∙ ap (prints a.0.0) (right_bracket_is a.0.1 b.0 b.1)), p.placed, p.fits)
designator_on_found named room None None ts x is at e = absurd cc

designator_found : (named : Span → Bool) (room : ℕ) (ts : List Lexeme) (x : DesigTree × List Lexeme) → designator_at named room ts ≡ Some x → IsDesignator named ts x
unfolding designator_at
designator_found named room ts x e = designator_on_found named room (behind_dot ts) (behind_left_bracket ts) ts x refl refl e

designators_on_found : (named : Span → Bool) (room : ℕ) (go_on : Reader DesigTrees) (b : Bool) (ts : List Lexeme) (x : DesigTrees × List Lexeme)
    → ((us : List Lexeme) (y : DesigTrees × List Lexeme) → go_on us ≡ Some y → AreDesignators named us y)
    → designators_on go_on (designator_at named room) b ts ≡ Some x → AreDesignators named ts x
designators_on_found named room go_on false ts x later e = subst (AreDesignators named ts) (some_is (s.no_designators, ts) x e) (refl, refl, refl)
designators_on_found named room go_on true ts x later e =
    let a = bind_some (designator_at named room ts) _ x e in
    let b = bind_some (go_on a.0.1) _ x a.2 in
    let p = designator_found named room ts a.0 a.1 in
    let q = later a.0.1 b.0 b.1 in
    subst (AreDesignators named ts) (some_is (s.then_designator a.0.0 b.0.0, b.0.1) x b.2)
    (p.0 ∙ ap (prints_designator a.0.0) q.0, true_both _ _ p.1 q.1, true_both _ _ p.2 q.2)

designators_found : (named : Span → Bool) (room f : ℕ) (ts : List Lexeme) (x : DesigTrees × List Lexeme) → designators_at (designator_at named room) f ts ≡ Some x → AreDesignators named ts x
unfolding designators_at
designators_found named room zero ts x e = absurd cc
designators_found named room (suc f) ts x e = designators_on_found named room (designators_at (designator_at named room) f) (begins_designator ts) ts x (λ us y d. designators_found named room f us y d) e

path_end_is : (ds : DesigTrees) (ts rest : List Lexeme) → behind_path ds ts ≡ Some rest → ts ≡ prints_path_end ds rest
path_end_is s.no_designators ts rest e = some_is ts rest e
path_end_is (s.then_designator d ds) ts rest e = assign_is ts rest e

abbrev prints_path : DesigTrees → List Lexeme → List Lexeme
prints_path ds r = prints_designators ds (prints_path_end ds r)

path_found : (named : Span → Bool) (room : ℕ) → FindsOnly prints_path designators_placed (designators_fits named) designators_nesting room (path_at named room)
unfolding path_at
path_found named room ts x e =
    let a = bind_some (designators_at (designator_at named room) (suc (length ts)) ts) _ x e in
    let c = if_some _ _ x a.2 in
    let b = bind_some (behind_path a.0.0 a.0.1) _ x c.1 in
    let p = designators_found named room (suc (length ts)) ts a.0 a.1 in
    subst (Stands prints_path designators_placed (designators_fits named) designators_nesting room ts) (some_is (a.0.0, b.0) x b.2)
    (record { text = p.0 ∙ ap (prints_designators a.0.0) (path_end_is a.0.0 a.0.1 b.0 b.1); placed = p.1; fits = p.2; low = leb-true _ _ c.0 })

-- ---- items

-- items with a comma before each, whether a last comma follows them, and the `}`; and items with a comma between each
-- two
abbrev prints_items_left : ItemTrees × Bool → List Lexeme → List Lexeme
prints_items_left x r = prints_more_items x.0 (prints_comma x.1 (Token fixed.RightBrace ∷ r))

abbrev prints_items_inside : ItemTrees × Bool → List Lexeme → List Lexeme
prints_items_inside x r = prints_items x.0 (prints_comma x.1 (Token fixed.RightBrace ∷ r))

items_left_stop : (xs : ItemTrees) (comma : Bool) (r : List Lexeme) → stops 2 (prints_items_left (xs, comma) r) ≡ true
items_left_stop s.no_items true r = refl
items_left_stop s.no_items false r = refl
items_left_stop (s.then_item x xs) comma r = refl

initialiser_no_designator : (named : Span → Bool) (i : InitTree) (r : List Lexeme) → initialiser_placed i ≡ true → initialiser_fits named i ≡ true → begins_designator (prints_initialiser i r) ≡ false
initialiser_no_designator named (s.plain e) r p q = opens_no_designator _ (expression_opens named 2 e r p q)
initialiser_no_designator named (s.braces is comma) r p q = refl

initialiser_no_brace : (named : Span → Bool) (i : InitTree) (r : List Lexeme) → initialiser_placed i ≡ true → initialiser_fits named i ≡ true → behind_right_brace (prints_initialiser i r) ≡ None
initialiser_no_brace named (s.plain e) r p q = opens_no_right_brace _ (expression_opens named 2 e r p q)
initialiser_no_brace named (s.braces is comma) r p q = refl

item_no_brace : (named : Span → Bool) (x : ItemTree) (r : List Lexeme) → item_placed x ≡ true → item_fits named x ≡ true → behind_right_brace (prints_item x r) ≡ None
item_no_brace named (s.item s.no_designators i) r p q = initialiser_no_brace named i r p q
item_no_brace named (s.item (s.then_designator (s.dot_designator at) ds) i) r p q = refl
item_no_brace named (s.item (s.then_designator (s.at_designator e) ds) i) r p q = refl

item_longer : (x : ItemTree) (r : List Lexeme) → length r ≤ length (prints_item x r)
item_longer x r = omega (arith, ap length (item-append x r), length-append (item_tokens x) r)

item_some : (path : Reader DesigTrees) (init : Reader InitTree) (ds : DesigTrees) (i : InitTree) (ts middle rest : List Lexeme) → path ts ≡ Some (ds, middle) → init middle ≡ Some (i, rest)
    → item_at path init ts ≡ Some (s.item ds i, rest)
item_some path init ds i ts middle rest by later = rw (by, later) refl

item_next : (one : Reader ItemTree) (f : ℕ) (x : ItemTree) (xs : ItemTrees) (comma : Bool) (ts next rest : List Lexeme) → behind_right_brace ts ≡ None → one ts ≡ Some (x, next) → more_items_at one f next ≡ Some ((xs, comma), rest)
    → more_items_at one (suc f) (Token fixed.Comma ∷ ts) ≡ Some ((s.then_item x xs, comma), rest)
unfolding more_items_at
item_next one f x xs comma ts next rest none by later = rw (none, by, later) refl

items_end : (one : Reader ItemTree) (f : ℕ) (comma : Bool) (r : List Lexeme) → more_items_at one (suc f) (prints_comma comma (Token fixed.RightBrace ∷ r)) ≡ Some ((s.no_items, comma), r)
unfolding more_items_at
items_end one f true r = refl
items_end one f false r = refl

items_first : (one : Reader ItemTree) (x : ItemTree) (xs : ItemTrees) (comma : Bool) (ts next rest : List Lexeme) → behind_right_brace ts ≡ None → one ts ≡ Some (x, next) → more_items_at one (suc (length next)) next ≡ Some ((xs, comma), rest)
    → items_at one ts ≡ Some ((s.then_item x xs, comma), rest)
unfolding items_at
items_first one x xs comma ts next rest none by later = rw (none, by, later) refl

items_none : (one : Reader ItemTree) (r : List Lexeme) → items_at one (Token fixed.RightBrace ∷ r) ≡ Some ((s.no_items, false), r)
unfolding items_at
items_none one r = refl

initialiser_plain : (named : Span → Bool) (inner : ℕ) (e : ExprTree) (ts rest : List Lexeme) → behind_left_brace ts ≡ None → stopped_at named (suc inner) 2 ts ≡ Some (e, rest) → initialiser_at named (suc inner) ts ≡ Some (s.plain e, rest)
unfolding initialiser_at
initialiser_plain named inner e ts rest none by = rw (none, by) refl

-- the reader of the items of an initialiser
abbrev item_inside : (Span → Bool) → ℕ → Reader ItemTree
item_inside named inner = item_at (path_at named inner) (initialiser_at named inner)

initialiser_braces : (named : Span → Bool) (inner : ℕ) (is : ItemTrees) (comma : Bool) (inside rest : List Lexeme) → items_at (item_inside named inner) inside ≡ Some ((is, comma), rest)
    → initialiser_at named (suc inner) (Token fixed.LeftBrace ∷ inside) ≡ Some (s.braces is comma, rest)
unfolding initialiser_at
initialiser_braces named inner is comma inside rest by = rw by refl

mutual
  -- what an initialiser prints is read as that initialiser
  pub initialiser_read : (i : InitTree) (named : Span → Bool) (room : ℕ) (r : List Lexeme) → initialiser_placed i ≡ true → initialiser_fits named i ≡ true → initialiser_nesting i ≤ room → stops 2 r ≡ true
      → initialiser_at named room (prints_initialiser i r) ≡ Some (unlaid_initialiser i, r)
  initialiser_read (s.plain e) named zero r p q low stop = absurd (omega (arith, nesting_above e))
  initialiser_read (s.plain e) named (suc inner) r p q low stop =
      initialiser_plain named inner (unlaid_expression e) (prints e r) r (opens_no_left_brace _ (expression_opens named 2 e r p q)) (expression_read named (suc inner) 2 e r p q low stop)
  initialiser_read (s.braces is comma) named zero r p q low stop = absurd (omega arith)
  initialiser_read (s.braces is comma) named (suc inner) r p q low stop =
      let a = both_true _ _ p in
      initialiser_braces named inner (unlaid_items is) comma _ r (items_read is named inner comma r a.0 a.1 q (omega arith))

  items_read : (xs : ItemTrees) (named : Span → Bool) (inner : ℕ) (comma : Bool) (r : List Lexeme) → comma_placed comma xs ≡ true → items_placed xs ≡ true → items_fits named xs ≡ true → items_nesting xs ≤ inner
      → items_at (item_inside named inner) (prints_items_inside (xs, comma) r) ≡ Some ((unlaid_items xs, comma), r)
  items_read s.no_items named inner true r c p q low = absurd cc
  items_read s.no_items named inner false r c p q low = items_none (item_inside named inner) r
  items_read (s.then_item x xs) named inner comma r c p q low =
      let a = both_true _ _ p in
      let b = both_true _ _ q in
      let behind : List Lexeme = prints_items_left (xs, comma) r in
      items_first (item_inside named inner) (unlaid_item x) (unlaid_items xs) comma (prints_item x behind) behind r
      (item_no_brace named x behind a.0 b.0)
      (item_read x named inner behind a.0 b.0 (omega arith) (items_left_stop xs comma r))
      (more_items_read xs named inner (suc (length behind)) comma r a.1 b.1 (omega arith) (omega arith))

  more_items_read : (xs : ItemTrees) (named : Span → Bool) (inner f : ℕ) (comma : Bool) (r : List Lexeme) → items_placed xs ≡ true → items_fits named xs ≡ true → items_nesting xs ≤ inner
      → length (prints_items_left (xs, comma) r) < f → more_items_at (item_inside named inner) f (prints_items_left (xs, comma) r) ≡ Some ((unlaid_items xs, comma), r)
  more_items_read xs named inner zero comma r p q low much = absurd (omega arith)
  more_items_read s.no_items named inner (suc f) comma r p q low much = items_end (item_inside named inner) f comma r
  more_items_read (s.then_item x xs) named inner (suc f) comma r p q low much =
      let a = both_true _ _ p in
      let b = both_true _ _ q in
      let behind : List Lexeme = prints_items_left (xs, comma) r in
      item_next (item_inside named inner) f (unlaid_item x) (unlaid_items xs) comma (prints_item x behind) behind r
      (item_no_brace named x behind a.0 b.0)
      (item_read x named inner behind a.0 b.0 (omega arith) (items_left_stop xs comma r))
      (more_items_read xs named inner f comma r a.1 b.1 (omega arith) (omega (arith, item_longer x behind)))

  item_read : (x : ItemTree) (named : Span → Bool) (inner : ℕ) (r : List Lexeme) → item_placed x ≡ true → item_fits named x ≡ true → item_nesting x ≤ inner → stops 2 r ≡ true
      → item_inside named inner (prints_item x r) ≡ Some (unlaid_item x, r)
  item_read (s.item ds i) named inner r p q low stop =
      let a = both_true _ _ p in
      let b = both_true _ _ q in
      item_some (path_at named inner) (initialiser_at named inner) (unlaid_designators ds) (unlaid_initialiser i) (prints_item (s.item ds i) r) (prints_initialiser i r) r
      (path_read ds named inner (prints_initialiser i r) a.0 b.0 (omega arith) (initialiser_no_designator named i r a.1 b.1))
      (initialiser_read i named inner r a.1 b.1 (omega arith) stop)

pub initial_read : (i : MaybeInitTree) (named : Span → Bool) (room : ℕ) (r : List Lexeme) → maybe_initialiser_placed i ≡ true → maybe_initialiser_fits named i ≡ true → maybe_initialiser_nesting i ≤ room → ends_declarator r ≡ true
    → initial_at named room (prints_initial i r) ≡ Some (unlaid_maybe_initialiser i, r)
initial_read s.no_initialiser named room r p q low ends = ap (λ o. optional_initialiser (initialiser_at named room) o r) (end_no_assign r ends)
initial_read (s.some_initialiser i) named room r p q low ends = ap (λ (o : Found InitTree). o >>= λ x. let y : Found MaybeInitTree = Some (s.some_initialiser x.0, x.1) in y) (initialiser_read i named room r p q low (end_stops r ends))

-- ---- what was found

abbrev ItemsStand : (Span → Bool) → ℕ → List Lexeme → (ItemTrees × Bool) × List Lexeme → Type 0
ItemsStand named room = Stands prints_items_left (λ x. items_placed x.0) (λ x. items_fits named x.0) (λ x. items_nesting x.0) room

abbrev ItemsStandInside : (Span → Bool) → ℕ → List Lexeme → (ItemTrees × Bool) × List Lexeme → Type 0
ItemsStandInside named room = Stands prints_items_inside (λ x. comma_placed x.1 x.0 && items_placed x.0) (λ x. items_fits named x.0) (λ x. items_nesting x.0) room

comma_behind : (comma : Bool) (x : ItemTree) (xs : ItemTrees) → comma_placed comma (s.then_item x xs) ≡ true
comma_behind true x xs = refl
comma_behind false x xs = refl

module _ (named : Span → Bool) (room : ℕ) (init : Reader InitTree) (finds : FindsOnly prints_initialiser initialiser_placed (initialiser_fits named) initialiser_nesting room init) where
  abbrev one : Reader ItemTree
  one = item_at (path_at named room) init

  item_found : FindsOnly prints_item item_placed (item_fits named) item_nesting room one
  item_found ts x e =
      let a = bind_some (path_at named room ts) _ x e in
      let b = bind_some (init a.0.1) _ x a.2 in
      let p = path_found named room ts a.0 a.1 in
      let q = finds a.0.1 b.0 b.1 in
      subst (Stands prints_item item_placed (item_fits named) item_nesting room ts) (some_is (s.item a.0.0 b.0.0, b.0.1) x b.2)
      (record { text = p.text ∙ ap (prints_path a.0.0) q.text; placed = true_both _ _ p.placed q.placed; fits = true_both _ _ p.fits q.fits; low = omega (arith, p.low, q.low) })

  items_go_found : (go_on : Reader (ItemTrees × Bool)) (o : Option (List Lexeme)) (ts : List Lexeme) (x : (ItemTrees × Bool) × List Lexeme)
      → ((us : List Lexeme) (y : (ItemTrees × Bool) × List Lexeme) → go_on us ≡ Some y → ItemsStand named room us y)
      → behind_right_brace ts ≡ o → items_go go_on one o ts ≡ Some x → ItemsStand named room (Token fixed.Comma ∷ ts) x
  items_go_found go_on (Some rest) ts x later is e =
      subst (ItemsStand named room (Token fixed.Comma ∷ ts)) (some_is ((s.no_items, true), rest) x e)
      (record { text = ap (λ r. Token fixed.Comma ∷ r) (right_brace_is ts rest is); placed = refl; fits = refl; low = omega arith })
  items_go_found go_on None ts x later is e =
      let a = bind_some (one ts) _ x e in
      let b = bind_some (go_on a.0.1) _ x a.2 in
      let p = item_found ts a.0 a.1 in
      let q = later a.0.1 b.0 b.1 in
      subst (ItemsStand named room (Token fixed.Comma ∷ ts)) (some_is ((s.then_item a.0.0 b.0.0.0, b.0.0.1), b.0.1) x b.2)
      (record {
        text = ap (λ r. Token fixed.Comma ∷ r) (p.text ∙ ap (prints_item a.0.0) q.text);
        placed = true_both _ _ p.placed q.placed;
        fits = true_both _ _ p.fits q.fits;
        low = omega (arith, p.low, q.low);
      })

  items_on_found : (go_on : Reader (ItemTrees × Bool)) (o : Option (List Lexeme)) (ts : List Lexeme) (x : (ItemTrees × Bool) × List Lexeme)
      → ((us : List Lexeme) (y : (ItemTrees × Bool) × List Lexeme) → go_on us ≡ Some y → ItemsStand named room us y)
      → behind_comma ts ≡ o → items_on go_on one o ts ≡ Some x → ItemsStand named room ts x
  items_on_found go_on None ts x later is e =
      let a = bind_some (behind_right_brace ts) _ x e in
      subst (ItemsStand named room ts) (some_is ((s.no_items, false), a.0) x a.2) (record { text = right_brace_is ts a.0 a.1; placed = refl; fits = refl; low = omega arith })
  items_on_found go_on (Some next) ts x later is e =
      subst (λ us. ItemsStand named room us x) (sym (comma_is ts next is)) (items_go_found go_on (behind_right_brace next) next x later refl e)

  more_items_found : (f : ℕ) (ts : List Lexeme) (x : (ItemTrees × Bool) × List Lexeme) → more_items_at one f ts ≡ Some x → ItemsStand named room ts x
  unfolding more_items_at
  more_items_found zero ts x e = absurd cc
  more_items_found (suc f) ts x e = items_on_found (more_items_at one f) (behind_comma ts) ts x (λ us y d. more_items_found f us y d) refl e

  items_from_found : (o : Option (List Lexeme)) (ts : List Lexeme) (x : (ItemTrees × Bool) × List Lexeme) → behind_right_brace ts ≡ o → items_from one o ts ≡ Some x → ItemsStandInside named room ts x
  items_from_found (Some rest) ts x is e =
      subst (ItemsStandInside named room ts) (some_is ((s.no_items, false), rest) x e) (record { text = right_brace_is ts rest is; placed = refl; fits = refl; low = omega arith })
  items_from_found None ts x is e =
      let a = bind_some (one ts) _ x e in
      let b = bind_some (more_items_at one (suc (length a.0.1)) a.0.1) _ x a.2 in
      let p = item_found ts a.0 a.1 in
      let q = more_items_found (suc (length a.0.1)) a.0.1 b.0 b.1 in
      subst (ItemsStandInside named room ts) (some_is ((s.then_item a.0.0 b.0.0.0, b.0.0.1), b.0.1) x b.2)
      (record {
        text = p.text ∙ ap (prints_item a.0.0) q.text;
        placed = true_both _ _ (comma_behind b.0.0.1 a.0.0 b.0.0.0) (true_both _ _ p.placed q.placed);
        fits = true_both _ _ p.fits q.fits;
        low = omega (arith, p.low, q.low);
      })

  items_found : (ts : List Lexeme) (x : (ItemTrees × Bool) × List Lexeme) → items_at one ts ≡ Some x → ItemsStandInside named room ts x
  unfolding items_at
  items_found ts x e = items_from_found (behind_right_brace ts) ts x refl e

  initialiser_on_found : (o : Option (List Lexeme)) (ts : List Lexeme) (x : InitTree × List Lexeme) → behind_left_brace ts ≡ o → initialiser_on (items_at one) named (suc room) o ts ≡ Some x
      → Stands prints_initialiser initialiser_placed (initialiser_fits named) initialiser_nesting (suc room) ts x
  initialiser_on_found (Some inside) ts x is e =
      let a = bind_some (items_at one inside) _ x e in
      let p = items_found inside a.0 a.1 in
      subst (Stands prints_initialiser initialiser_placed (initialiser_fits named) initialiser_nesting (suc room) ts) (some_is (s.braces a.0.0.0 a.0.0.1, a.0.1) x a.2)
      (record { text = left_brace_is ts inside is ∙ ap (λ r. Token fixed.LeftBrace ∷ r) p.text; placed = p.placed; fits = p.fits; low = omega (arith, p.low) })
  initialiser_on_found None ts x is e =
      let a = bind_some (stopped_at named (suc room) 2 ts) _ x e in
      let p = expression_found named (suc room) 2 ts a.0 (omega arith) a.1 in
      subst (Stands prints_initialiser initialiser_placed (initialiser_fits named) initialiser_nesting (suc room) ts) (some_is (s.plain a.0.0, a.0.1) x a.2)
      (record { text = p.text; placed = p.placed; fits = p.fits; low = p.low })

pub initialiser_found : (named : Span → Bool) (room : ℕ) → FindsOnly prints_initialiser initialiser_placed (initialiser_fits named) initialiser_nesting room (initialiser_at named room)
unfolding initialiser_at
initialiser_found named zero ts x e = absurd cc
initialiser_found named (suc inner) ts x e = initialiser_on_found named inner (initialiser_at named inner) (initialiser_found named inner) (behind_left_brace ts) ts x refl e

optional_found : (named : Span → Bool) (room : ℕ) (o : Option (List Lexeme)) (ts : List Lexeme) (x : MaybeInitTree × List Lexeme) → behind_assign ts ≡ o → optional_initialiser (initialiser_at named room) o ts ≡ Some x
    → Stands prints_initial maybe_initialiser_placed (maybe_initialiser_fits named) maybe_initialiser_nesting room ts x
optional_found named room None ts x is e =
    subst (Stands prints_initial maybe_initialiser_placed (maybe_initialiser_fits named) maybe_initialiser_nesting room ts) (some_is (s.no_initialiser, ts) x e) (record { text = refl; placed = refl; fits = refl; low = omega arith })
optional_found named room (Some next) ts x is e =
    let a = bind_some (initialiser_at named room next) _ x e in
    let p = initialiser_found named room next a.0 a.1 in
    subst (Stands prints_initial maybe_initialiser_placed (maybe_initialiser_fits named) maybe_initialiser_nesting room ts) (some_is (s.some_initialiser a.0.0, a.0.1) x a.2)
    (record { text = assign_is ts next is ∙ ap (λ r. Token fixed.Assign ∷ r) p.text; placed = p.placed; fits = p.fits; low = p.low })

pub initial_found : (named : Span → Bool) (room : ℕ) → FindsOnly prints_initial maybe_initialiser_placed (maybe_initialiser_fits named) maybe_initialiser_nesting room (initial_at named room)
initial_found named room ts x e = optional_found named room (behind_assign ts) ts x refl e
