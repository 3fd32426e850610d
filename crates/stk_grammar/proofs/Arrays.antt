-- Declarators with array parts or nothing behind the name, and no initialiser: those of members and of parameters.
use Rattle.std.proofs.Common.{◌≡◌, ℕ, zero, suc, ◌<◌, ◌≤◌, Bool, true, false, cond, not, ◌&&◌, List, [], ◌∷◌, length, Option, Some, None, refl, ap, subst, ◌∙◌, arith}
use Rattle.std.proofs.lemmas.Bool.{le-leb, leb-true}
use Rattle.stk_base.specs.declared.span.Span.{Span}
use Rattle.stk_base.specs.declared.token.Class.TheVariants.{Word}
use Rattle.stk_tree.specs.declared.node.Node.{Node}
use Rattle.stk_tree.specs.declared.fixed.Fixed.TheVariants as fixed
use Rattle.stk_tree.specs.declared.fixed.Lexeme.{Lexeme}
use Rattle.stk_tree.specs.declared.fixed.Lexeme.TheVariants.{Leaf, Fixed as Token}
use Rattle.stk_tree.specs.Syntax.{DeclrTree, DimensionTree, DimensionTrees, ExprTree}
use Rattle.stk_tree.specs.Syntax as s
use Rattle.stk_tree.specs.Nesting.{declarator_nesting, dimensions_nesting}
use Rattle.stk_tree.specs.Placed.{declarator_placed, dimensions_placed, has_name, parameter_declarator}
use Rattle.stk_tree.specs.Unlaid.{no_node, unlaid_declarator, unlaid_dimensions, unlaid_expression}
use Rattle.stk_grammar.specs.Expressions.{stops}
use Rattle.stk_tree.specs.Fits.{declarator_fits, dimensions_fits, optional_fits}
use Rattle.stk_grammar.specs.Reading.{◌>>=◌, Found, Sub, behind_left_bracket, dimensions_at, dimensions_on, expression_at, stars_at, word_at, words_at}
use Rattle.stk_grammar.specs.Stopped.{stopped_at}
use Rattle.stk_grammar.proofs.Complete.{dimension_open_next, dimension_sized_next, no_right_bracket, stars_read_all}
use Rattle.stk_grammar.proofs.Operators.{bind_some, both_true, if_some, some_is, true_both, unless_some}
use Rattle.stk_grammar.proofs.Prints.{prints, prints_dimensions, prints_longer, prints_stars}
use Rattle.stk_grammar.proofs.Sound.{Answers, IsSound, dimensions_sound, expression_sound, stars_is, word_is}
use Rattle.stk_grammar.proofs.Well.{dimensions_pass, not_true, true_not}
use Rattle.stk_grammar.specs.DeclarationReading.{array_declarator_at, array_name_behind, arrays_behind, declared_name_at, low_declarator, name_at, optional_name_at, optional_name_on, optional_word_at}
use Rattle.stk_grammar.proofs.Nestings.{declarator-unlaid}
use Rattle.stk_grammar.proofs.DeclarationPunctuators.{end_no_bracket, end_no_name, end_no_star, end_no_words, ends_declarator, expression_opens, expression_read}
use Rattle.stk_grammar.proofs.DeclarationPrints.{prints_declarator, prints_name}
use Rattle.stk_grammar.proofs.Stands.{FindsOnly, Stands}

-- ---- names

-- whether a name may be missing
abbrev pub may_lack : Bool → Option Span → Bool
may_lack true at = true
may_lack false None = false
may_lack false (Some at) = true

pub name_read : (named : Span → Bool) (at : Span) (r : List Lexeme) → not (named at) ≡ true → name_at named (Leaf Word at ∷ r) ≡ Some (at, r)
name_read named at r h = ap (λ (b : Bool). let w : Found Span = cond b None (Some (at, r)) in w) (not_true _ h)

pub declared_name_read : (named : Span → Bool) (nameless : Bool) (at : Option Span) (r : List Lexeme) → may_lack nameless at ≡ true → optional_fits named at ≡ true → optional_word_at r ≡ (None, r)
    → declared_name_at named nameless (prints_name at r) ≡ Some (at, r)
declared_name_read named true None r lack fits none = ap (optional_name_on named) none
declared_name_read named true (Some at) r lack fits none = ap (λ (b : Bool). let w : Found (Option Span) = cond b None (Some (Some at, r)) in w) (not_true _ fits)
declared_name_read named false None r lack fits none = absurd cc
declared_name_read named false (Some at) r lack fits none = ap (λ (o : Found Span). o >>= λ w. let x : Found (Option Span) = Some (Some w.0, w.1) in x) (name_read named at r fits)

pub name_found : (named : Span → Bool) (ts : List Lexeme) (x : Span × List Lexeme) → name_at named ts ≡ Some x → (ts ≡ Leaf Word x.0 ∷ x.1) × (not (named x.0) ≡ true)
name_found named ts x e =
    let a = bind_some (word_at ts) _ x e in
    let b = unless_some (named a.0.0) _ x a.2 in
    subst (λ (y : Span × List Lexeme). (ts ≡ Leaf Word y.0 ∷ y.1) × (not (named y.0) ≡ true)) (some_is a.0 x b.1) (word_is ts a.0 a.1, true_not _ b.0)

abbrev IsNameAt : (Span → Bool) → Bool → List Lexeme → Option Span × List Lexeme → Type 0
IsNameAt named nameless ts x = (ts ≡ prints_name x.0 x.1) × (may_lack nameless x.0 ≡ true) × (optional_fits named x.0 ≡ true)

optional_name_found : (named : Span → Bool) (ts : List Lexeme) (x : Option Span × List Lexeme) → optional_name_at named ts ≡ Some x → IsNameAt named true ts x
optional_name_found named [] x e = subst (IsNameAt named true []) (some_is (None, []) x e) (refl, refl, refl)
optional_name_found named (Leaf Word at ∷ ts) x e =
    let b = unless_some (named at) _ x e in
    subst (IsNameAt named true (Leaf Word at ∷ ts)) (some_is (Some at, ts) x b.1) (refl, refl, true_not _ b.0)
optional_name_found named (t ∷ ts) x e = subst (IsNameAt named true (t ∷ ts)) (some_is (None, t ∷ ts) x e) (refl, refl, refl)

declared_name_found : (named : Span → Bool) (nameless : Bool) (ts : List Lexeme) (x : Option Span × List Lexeme) → declared_name_at named nameless ts ≡ Some x → IsNameAt named nameless ts x
declared_name_found named true ts x e = optional_name_found named ts x e
declared_name_found named false ts x e =
    let a = bind_some (name_at named ts) _ x e in
    let b = name_found named ts a.0 a.1 in
    subst (IsNameAt named false ts) (some_is (Some a.0.0, a.0.1) x a.2) (b.0, refl, b.1)

-- ---- array parts

no_dimension : (sub : Sub) (f : ℕ) (r : List Lexeme) → behind_left_bracket r ≡ None → dimensions_at sub (suc f) r ≡ Some (s.no_dimensions, r)
unfolding dimensions_at
no_dimension sub f r e = ap (λ o. dimensions_on (dimensions_at sub f) sub o r) e

pub dimensions_read : (ds : DimensionTrees) (named : Span → Bool) (room f : ℕ) (r : List Lexeme) → dimensions_placed ds ≡ true → dimensions_fits named ds ≡ true → dimensions_nesting ds ≤ room
    → behind_left_bracket r ≡ None → length (prints_dimensions ds r) < f → dimensions_at (stopped_at named room) f (prints_dimensions ds r) ≡ Some (unlaid_dimensions ds, r)
dimensions_read ds named room zero r p q low ends much = absurd (omega arith)
dimensions_read s.no_dimensions named room (suc f) r p q low ends much = no_dimension (stopped_at named room) f r ends
dimensions_read (s.then_dimension s.open_dimension xs) named room (suc f) r p q low ends much =
    dimension_open_next (stopped_at named room) f (unlaid_dimensions xs) (prints_dimensions xs r) r (dimensions_read xs named room f r p q (omega arith) ends (omega arith))
dimensions_read (s.then_dimension (s.sized e) xs) named room (suc f) r p q low ends much =
    let a = both_true _ _ p in
    let b = both_true _ _ q in
    let behind : List Lexeme = Token fixed.RightBracket ∷ prints_dimensions xs r in
    dimension_sized_next (stopped_at named room) f (unlaid_expression e) (unlaid_dimensions xs) (prints e behind) (prints_dimensions xs r) r
    (no_right_bracket _ (expression_opens named 3 e behind a.0 b.0))
    (expression_read named room 3 e behind a.0 b.0 (omega arith) refl)
    (dimensions_read xs named room f r a.1 b.1 (omega arith) ends (omega (arith, prints_longer e behind)))

stopped_is_sound : (named : Span → Bool) (room : ℕ) → IsSound named room (stopped_at named room)
unfolding stopped_at
stopped_is_sound named room least wide ts x e =
    let a = bind_some (expression_at named room least ts) _ x e in
    let b = if_some (stops least a.0.1) _ x a.2 in
    subst (Answers named room least ts) (some_is a.0 x b.1) (expression_sound named room least wide ts a.0 a.1)

abbrev pub AreDimensions : (Span → Bool) → List Lexeme → DimensionTrees × List Lexeme → Type 0
AreDimensions named ts x = (ts ≡ prints_dimensions x.0 x.1) × (dimensions_placed x.0 ≡ true) × (dimensions_fits named x.0 ≡ true)

pub dimensions_found : (named : Span → Bool) (room f : ℕ) (ts : List Lexeme) (x : DimensionTrees × List Lexeme) → dimensions_at (stopped_at named room) f ts ≡ Some x → AreDimensions named ts x
dimensions_found named room f ts x e =
    let a = dimensions_sound named room (stopped_at named room) (stopped_is_sound named room) f ts x e in
    let b = dimensions_pass named x.0 a.1 in
    (a.0, b.0, b.1)

-- ---- what stands behind the `*`, and behind a base

dimensions_no_star : (ds : DimensionTrees) (r : List Lexeme) → ends_declarator r ≡ true → (m : ℕ) → stars_at m (prints_dimensions ds r) ≡ (m, prints_dimensions ds r)
unfolding stars_at
dimensions_no_star s.no_dimensions r h m = end_no_star r h m
dimensions_no_star (s.then_dimension s.open_dimension xs) r h m = refl
dimensions_no_star (s.then_dimension (s.sized e) xs) r h m = refl

dimensions_no_words : (ds : DimensionTrees) (r : List Lexeme) → ends_declarator r ≡ true → words_at (prints_dimensions ds r) ≡ ([], prints_dimensions ds r)
unfolding words_at
dimensions_no_words s.no_dimensions r h = end_no_words r h
dimensions_no_words (s.then_dimension s.open_dimension xs) r h = refl
dimensions_no_words (s.then_dimension (s.sized e) xs) r h = refl

dimensions_no_name : (ds : DimensionTrees) (r : List Lexeme) → ends_declarator r ≡ true → optional_word_at (prints_dimensions ds r) ≡ (None, prints_dimensions ds r)
dimensions_no_name s.no_dimensions r h = end_no_name r h
dimensions_no_name (s.then_dimension s.open_dimension xs) r h = refl
dimensions_no_name (s.then_dimension (s.sized e) xs) r h = refl

name_no_star : (at : Option Span) (ds : DimensionTrees) (r : List Lexeme) → ends_declarator r ≡ true → (m : ℕ) → stars_at m (prints_name at (prints_dimensions ds r)) ≡ (m, prints_name at (prints_dimensions ds r))
unfolding stars_at
name_no_star None ds r h m = dimensions_no_star ds r h m
name_no_star (Some at) ds r h m = refl

name_no_words : (at : Option Span) (ds : DimensionTrees) (r : List Lexeme) → ends_declarator r ≡ true → words_at (prints_name at (prints_dimensions ds r)) ≡ ([], prints_name at (prints_dimensions ds r))
unfolding words_at
name_no_words None ds r h = dimensions_no_words ds r h
name_no_words (Some at) ds r h = refl

stars_no_words : (count : ℕ) (r : List Lexeme) → words_at r ≡ ([], r) → words_at (prints_stars count r) ≡ ([], prints_stars count r)
unfolding words_at
stars_no_words zero r h = h
stars_no_words (suc n) r h = refl

-- no basic word begins such a declarator
pub array_declarator_no_words : (d : DeclrTree) (r : List Lexeme) → parameter_declarator d ≡ true → ends_declarator r ≡ true → words_at (prints_declarator d r) ≡ ([], prints_declarator d r)
array_declarator_no_words (s.declarator n count at (s.arrays ds) s.no_initialiser) r p h = stars_no_words count _ (name_no_words at ds r h)
array_declarator_no_words (s.declarator n count at (s.arrays ds) (s.some_initialiser i)) r p h = absurd cc
array_declarator_no_words (s.declarator n count at t i) r p h = absurd cc

-- nor one with a name
pub named_declarator_no_words : (d : DeclrTree) (r : List Lexeme) → has_name d ≡ true → words_at (prints_declarator d r) ≡ ([], prints_declarator d r)
unfolding words_at
named_declarator_no_words (s.declarator n zero (Some at) t i) r p = refl
named_declarator_no_words (s.declarator n (suc count) (Some at) t i) r p = refl
named_declarator_no_words (s.declarator n count None t i) r p = absurd cc

-- ---- the whole declarator

pub low_declarator_some : (room : ℕ) (d : DeclrTree) (r : List Lexeme) → declarator_nesting d ≤ room → low_declarator room d r ≡ Some (d, r)
low_declarator_some room d r low = ap (λ (b : Bool). let x : Found DeclrTree = cond b (Some (d, r)) None in x) (le-leb _ _ low)

array_read : (named : Span → Bool) (room : ℕ) (nameless : Bool) (n : Node) (count : ℕ) (at : Option Span) (ds : DimensionTrees) (r : List Lexeme) → may_lack nameless at ≡ true → optional_fits named at ≡ true
    → dimensions_placed ds ≡ true → dimensions_fits named ds ≡ true → declarator_nesting (s.declarator n count at (s.arrays ds) s.no_initialiser) ≤ room → ends_declarator r ≡ true
    → array_declarator_at named room nameless (prints_stars count (prints_name at (prints_dimensions ds r))) ≡ Some (s.declarator no_node count at (s.arrays (unlaid_dimensions ds)) s.no_initialiser, r)
unfolding array_declarator_at
array_read named room nameless n count at ds r lack fit p q low ends =
    let e = declarator-unlaid (s.declarator n count at (s.arrays ds) s.no_initialiser) in
    ap (array_name_behind named room nameless) (stars_read_all count _ (name_no_star at ds r ends))
    ∙ ap (λ (o : Found (Option Span)). o >>= λ w. arrays_behind named room count w.0 w.1) (declared_name_read named nameless at (prints_dimensions ds r) lack fit (dimensions_no_name ds r ends))
    ∙ ap (λ (o : Found DimensionTrees). o >>= λ x. low_declarator room (s.declarator no_node count at (s.arrays x.0) s.no_initialiser) x.1) (dimensions_read ds named room (suc (length (prints_dimensions ds r))) r p q (omega arith) (end_no_bracket r ends) (omega arith))
    ∙ low_declarator_some room (s.declarator no_node count at (s.arrays (unlaid_dimensions ds)) s.no_initialiser) r (omega (arith, e, low))

-- whether a name is there where one is wanted
abbrev pub named_where : Bool → DeclrTree → Bool
named_where true d = true
named_where false d = has_name d

named_may_lack : (nameless : Bool) (n : Node) (count : ℕ) (at : Option Span) (ds : DimensionTrees) → named_where nameless (s.declarator n count at (s.arrays ds) s.no_initialiser) ≡ true → may_lack nameless at ≡ true
named_may_lack true n count at ds h = refl
named_may_lack false n count None ds h = h
named_may_lack false n count (Some at) ds h = refl

may_lack_named : (nameless : Bool) (n : Node) (count : ℕ) (at : Option Span) (ds : DimensionTrees) → may_lack nameless at ≡ true → named_where nameless (s.declarator n count at (s.arrays ds) s.no_initialiser) ≡ true
may_lack_named true n count at ds h = refl
may_lack_named false n count None ds h = h
may_lack_named false n count (Some at) ds h = refl

-- what such a declarator prints is read as that declarator
pub array_declarator_read : (d : DeclrTree) (named : Span → Bool) (room : ℕ) (nameless : Bool) (r : List Lexeme) → parameter_declarator d ≡ true → named_where nameless d ≡ true → declarator_placed d ≡ true → declarator_fits named d ≡ true
    → declarator_nesting d ≤ room → ends_declarator r ≡ true → array_declarator_at named room nameless (prints_declarator d r) ≡ Some (unlaid_declarator d, r)
array_declarator_read (s.declarator n count at (s.arrays ds) s.no_initialiser) named room nameless r shape name p q low ends =
    let a = both_true _ _ p in
    let b = both_true _ _ q in
    let c = both_true _ _ b.0 in
    array_read named room nameless n count at ds r (named_may_lack nameless n count at ds name) c.0 a.0 c.1 low ends
array_declarator_read (s.declarator n count at (s.arrays ds) (s.some_initialiser i)) named room nameless r shape name p q low ends = absurd cc
array_declarator_read (s.declarator n count at t i) named room nameless r shape name p q low ends = absurd cc

-- placed as one of these
abbrev pub array_placed : Bool → DeclrTree → Bool
array_placed nameless d = parameter_declarator d && named_where nameless d && declarator_placed d

-- what is read is such a declarator
pub array_declarator_found : (named : Span → Bool) (room : ℕ) (nameless : Bool) → FindsOnly prints_declarator (array_placed nameless) (declarator_fits named) declarator_nesting room (array_declarator_at named room nameless)
unfolding array_declarator_at
array_declarator_found named room nameless ts x e =
    let y = stars_at 0 ts in
    let a = bind_some (declared_name_at named nameless y.1) _ x e in
    let d = bind_some (dimensions_at (stopped_at named room) (suc (length a.0.1)) a.0.1) _ x a.2 in
    let c = if_some _ _ x d.2 in
    let p = declared_name_found named nameless y.1 a.0 a.1 in
    let q = dimensions_found named room (suc (length a.0.1)) a.0.1 d.0 d.1 in
    let tree : DeclrTree = s.declarator no_node y.0 a.0.0 (s.arrays d.0.0) s.no_initialiser in
    subst (Stands prints_declarator (array_placed nameless) (declarator_fits named) declarator_nesting room ts) (some_is (tree, d.0.1) x c.1)
    (record {
      text = stars_is 0 ts ∙ ap (prints_stars y.0) (p.0 ∙ ap (prints_name a.0.0) q.0);
      placed = true_both _ _ (true_both _ _ refl (may_lack_named nameless no_node y.0 a.0.0 d.0.0 p.1)) (true_both _ _ q.1 refl);
      fits = true_both _ _ (true_both _ _ p.2 q.2) refl;
      low = leb-true _ _ c.0;
    })
