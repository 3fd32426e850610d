-- Declarators with all that may stand behind their names, those of functions, and lists of declarators.
use Rattle.std.proofs.Common.{◌≡◌, ℕ, zero, suc, ◌≤◌, Bool, true, false, not, ◌&&◌, List, ◌∷◌, length, Option, Some, None, refl, ap, subst, ◌∙◌, arith}
use Rattle.std.proofs.lemmas.Bool.{leb-true}
use Rattle.stk_base.specs.declared.span.Span.{Span}
use Rattle.stk_base.specs.declared.token.Class.TheVariants.{Word}
use Rattle.stk_tree.specs.declared.node.Node.{Node}
use Rattle.stk_tree.specs.declared.fixed.Fixed.TheVariants as fixed
use Rattle.stk_tree.specs.declared.fixed.Lexeme.{Lexeme}
use Rattle.stk_tree.specs.declared.fixed.Lexeme.TheVariants.{Leaf, Fixed as Token}
use Rattle.stk_tree.specs.Syntax.{DeclrTree, DeclrTrees, DimensionTree, DimensionTrees, MaybeInitTree, TailTree}
use Rattle.stk_tree.specs.Syntax as s
use Rattle.stk_tree.specs.Nesting.{declarator_nesting, maybe_initialiser_nesting, tail_nesting}
use Rattle.stk_tree.specs.Placed.{declarator_placed, function_declarator, has_arrays, has_name, maybe_initialiser_placed, tail_placed}
use Rattle.stk_tree.specs.Unlaid.{no_node, unlaid_declarator, unlaid_dimensions, unlaid_maybe_initialiser, unlaid_tail}
use Rattle.stk_tree.specs.Fits.{declarator_fits, maybe_initialiser_fits, tail_fits}
use Rattle.stk_grammar.specs.Reading.{◌>>=◌, Found, behind_left_bracket, behind_left_paren, dimensions_at, stars_at}
use Rattle.stk_grammar.specs.Stopped.{stopped_at}
use Rattle.stk_grammar.proofs.Complete.{stars_read_all}
use Rattle.stk_grammar.proofs.Operators.{bind_some, both_true, if_some, some_is, true_both}
use Rattle.stk_grammar.proofs.Prints.{prints_dimensions, prints_stars}
use Rattle.stk_grammar.proofs.Sound.{left_paren_is, stars_is}
use Rattle.stk_grammar.specs.DeclarationReading.{declarator_at, declarator_behind, declarator_name_behind, function_declarator_at, function_name_behind, function_tail, initial_at, low_declarator, name_at, parameter_at, parameter_tail_at, declared_tail_at, tail_on}
use Rattle.stk_grammar.proofs.Arrays.{dimensions_found, dimensions_read, low_declarator_some, name_found, name_read}
use Rattle.stk_grammar.proofs.Nestings.{declarator-unlaid}
use Rattle.stk_grammar.proofs.Initialisers.{initial_found, initial_read}
use Rattle.stk_grammar.proofs.DeclarationPunctuators.{end_no_bracket, end_no_paren, ends_declarator}
use Rattle.stk_grammar.proofs.Parameters.{parameter_tail, parameter_tail_found, parameter_tail_read, prints_inside, tail_is_inside}
use Rattle.stk_grammar.proofs.DeclarationPrints.{prints_declarator, prints_initial, prints_tail}
use Rattle.stk_grammar.proofs.Stands.{FindsOnly, Stands}

-- ---- what stands behind a name

-- parentheses only at file scope
abbrev pub tail_allowed : Bool → TailTree → Bool
tail_allowed true t = true
tail_allowed false t = not (parameter_tail t)

dimensions_no_paren : (ds : DimensionTrees) (r : List Lexeme) → behind_left_paren r ≡ None → behind_left_paren (prints_dimensions ds r) ≡ None
dimensions_no_paren s.no_dimensions r h = h
dimensions_no_paren (s.then_dimension s.open_dimension xs) r h = refl
dimensions_no_paren (s.then_dimension (s.sized e) xs) r h = refl

arrays_tail : (named : Span → Bool) (room : ℕ) (file : Bool) (ds : DimensionTrees) (ts rest : List Lexeme) → behind_left_paren ts ≡ None → dimensions_at (stopped_at named room) (suc (length ts)) ts ≡ Some (ds, rest)
    → declared_tail_at named room file ts ≡ Some (s.arrays ds, rest)
arrays_tail named room true ds ts rest none e = ap (λ o. tail_on named room true o ts) none ∙ ap (λ (o : Found DimensionTrees). o >>= λ x. let y : Found TailTree = Some (s.arrays x.0, x.1) in y) e
arrays_tail named room false ds ts rest none e = ap (λ o. tail_on named room false o ts) none ∙ ap (λ (o : Found DimensionTrees). o >>= λ x. let y : Found TailTree = Some (s.arrays x.0, x.1) in y) e

inside_tail : (named : Span → Bool) (room : ℕ) (t : TailTree) (inside rest : List Lexeme) → parameter_tail_at (parameter_at named room) inside ≡ Some (t, rest) → declared_tail_at named room true (Token fixed.LeftParen ∷ inside) ≡ Some (t, rest)
inside_tail named room t inside rest e = e

tail_read : (t : TailTree) (named : Span → Bool) (room : ℕ) (file : Bool) (r : List Lexeme) → tail_allowed file t ≡ true → tail_placed t ≡ true → tail_fits named t ≡ true → tail_nesting t ≤ room
    → behind_left_paren r ≡ None → behind_left_bracket r ≡ None → declared_tail_at named room file (prints_tail t r) ≡ Some (unlaid_tail t, r)
tail_read (s.arrays ds) named room file r h p q low paren bracket =
    arrays_tail named room file (unlaid_dimensions ds) (prints_dimensions ds r) r (dimensions_no_paren ds r paren)
    (dimensions_read ds named room (suc (length (prints_dimensions ds r))) r p q low bracket (omega arith))
tail_read s.unspecified named room true r h p q low paren bracket = inside_tail named room s.unspecified (prints_inside s.unspecified r) r (parameter_tail_read s.unspecified named room r refl p q low)
tail_read s.void_parameters named room true r h p q low paren bracket = inside_tail named room s.void_parameters (prints_inside s.void_parameters r) r (parameter_tail_read s.void_parameters named room r refl p q low)
tail_read (s.with_parameters ps more) named room true r h p q low paren bracket =
    inside_tail named room (unlaid_tail (s.with_parameters ps more)) (prints_inside (s.with_parameters ps more) r) r (parameter_tail_read (s.with_parameters ps more) named room r refl p q low)
tail_read s.unspecified named room false r h p q low paren bracket = absurd cc
tail_read s.void_parameters named room false r h p q low paren bracket = absurd cc
tail_read (s.with_parameters ps more) named room false r h p q low paren bracket = absurd cc

-- placed behind a name
abbrev pub allowed_placed : Bool → TailTree → Bool
allowed_placed file t = tail_allowed file t && tail_placed t

arrays_found : (named : Span → Bool) (room : ℕ) (file : Bool) (ts : List Lexeme) (x : TailTree × List Lexeme) → (dimensions_at (stopped_at named room) (suc (length ts)) ts >>= λ ds. let y : Found TailTree = Some (s.arrays ds.0, ds.1) in y) ≡ Some x
    → (ts ≡ prints_tail x.0 x.1) × (allowed_placed file x.0 ≡ true) × (tail_fits named x.0 ≡ true)
arrays_found named room file ts x e =
    let a = bind_some (dimensions_at (stopped_at named room) (suc (length ts)) ts) _ x e in
    let p = dimensions_found named room (suc (length ts)) ts a.0 a.1 in
    subst (λ (y : TailTree × List Lexeme). (ts ≡ prints_tail y.0 y.1) × (allowed_placed file y.0 ≡ true) × (tail_fits named y.0 ≡ true)) (some_is (s.arrays a.0.0, a.0.1) x a.2)
    (p.0, true_both _ _ (arrays_allowed file a.0.0) p.1, p.2)
  where
    arrays_allowed : (file : Bool) (ds : DimensionTrees) → tail_allowed file (s.arrays ds) ≡ true
    arrays_allowed true ds = refl
    arrays_allowed false ds = refl

tail_on_found : (named : Span → Bool) (room : ℕ) (file : Bool) (o : Option (List Lexeme)) (ts : List Lexeme) (x : TailTree × List Lexeme) → behind_left_paren ts ≡ o → tail_on named room file o ts ≡ Some x
    → (ts ≡ prints_tail x.0 x.1) × (allowed_placed file x.0 ≡ true) × (tail_fits named x.0 ≡ true)
tail_on_found named room true (Some inside) ts x is e =
    let p = parameter_tail_found named room inside x e in
    (left_paren_is ts inside is ∙ p.text, true_both _ _ refl (both_true _ _ p.placed).1, p.fits)
tail_on_found named room false (Some inside) ts x is e = absurd cc
tail_on_found named room true None ts x is e = arrays_found named room true ts x e
tail_on_found named room false None ts x is e = arrays_found named room false ts x e

-- ---- a declarator with its initialiser

-- placed at file scope, or else in a block
abbrev pub declares : Bool → DeclrTree → Bool
declares true d = has_name d && declarator_placed d
declares false d = has_name d && has_arrays d && declarator_placed d

word_no_star : (at : Span) (r : List Lexeme) (m : ℕ) → stars_at m (Leaf Word at ∷ r) ≡ (m, Leaf Word at ∷ r)
unfolding stars_at
word_no_star at r m = refl

initial_no_paren : (i : MaybeInitTree) (r : List Lexeme) → ends_declarator r ≡ true → behind_left_paren (prints_initial i r) ≡ None
initial_no_paren s.no_initialiser r h = end_no_paren r h
initial_no_paren (s.some_initialiser i) r h = refl

initial_no_bracket : (i : MaybeInitTree) (r : List Lexeme) → ends_declarator r ≡ true → behind_left_bracket (prints_initial i r) ≡ None
initial_no_bracket s.no_initialiser r h = end_no_bracket r h
initial_no_bracket (s.some_initialiser i) r h = refl

declarator_behind_some : (named : Span → Bool) (inner : ℕ) (file : Bool) (count : ℕ) (at : Span) (t : TailTree) (i : MaybeInitTree) (ts middle rest : List Lexeme) → declared_tail_at named inner file ts ≡ Some (t, middle) → initial_at named inner middle ≡ Some (i, rest)
    → declarator_nesting (s.declarator no_node count (Some at) t i) ≤ suc inner → declarator_behind named inner file count (at, ts) ≡ Some (s.declarator no_node count (Some at) t i, rest)
declarator_behind_some named inner file count at t i ts middle rest by later low =
    ap (λ (o : Found TailTree). o >>= λ t. initial_at named inner t.1 >>= λ i. low_declarator (suc inner) (s.declarator no_node count (Some at) t.0 i.0) i.1) by
    ∙ ap (λ (o : Found MaybeInitTree). o >>= λ i. low_declarator (suc inner) (s.declarator no_node count (Some at) t i.0) i.1) later
    ∙ low_declarator_some (suc inner) (s.declarator no_node count (Some at) t i) rest low

named_declarator_read : (n : Node) (count : ℕ) (at : Span) (t : TailTree) (i : MaybeInitTree) (named : Span → Bool) (inner : ℕ) (file : Bool) (r : List Lexeme) → tail_allowed file t ≡ true → declarator_placed (s.declarator n count (Some at) t i) ≡ true
    → declarator_fits named (s.declarator n count (Some at) t i) ≡ true → declarator_nesting (s.declarator n count (Some at) t i) ≤ suc inner → ends_declarator r ≡ true
    → declarator_at named (suc inner) file (prints_declarator (s.declarator n count (Some at) t i) r) ≡ Some (unlaid_declarator (s.declarator n count (Some at) t i), r)
unfolding declarator_at
named_declarator_read n count at t i named inner file r allowed p q low ends =
    let a = both_true _ _ p in
    let b = both_true _ _ q in
    let c = both_true _ _ b.0 in
    let middle : List Lexeme = prints_initial i r in
    let e = declarator-unlaid (s.declarator n count (Some at) t i) in
    ap (declarator_name_behind named inner file) (stars_read_all count (Leaf Word at ∷ prints_tail t middle) (word_no_star at (prints_tail t middle)))
    ∙ ap (λ (o : Found Span). o >>= declarator_behind named inner file count) (name_read named at (prints_tail t middle) c.0)
    ∙ declarator_behind_some named inner file count at (unlaid_tail t) (unlaid_maybe_initialiser i) (prints_tail t middle) middle r
    (tail_read t named inner file middle allowed a.0 c.1 (omega arith) (initial_no_paren i r ends) (initial_no_bracket i r ends))
    (initial_read i named inner r a.1 b.1 (omega arith) ends)
    (omega (arith, e, low))

-- a declarator with arrays has an allowed tail
arrays_allow : (n : Node) (count : ℕ) (at : Option Span) (t : TailTree) (i : MaybeInitTree) → has_arrays (s.declarator n count at t i) ≡ true → tail_allowed false t ≡ true
arrays_allow n count at (s.arrays ds) i h = refl
arrays_allow n count at s.unspecified i h = absurd cc
arrays_allow n count at s.void_parameters i h = absurd cc
arrays_allow n count at (s.with_parameters ps more) i h = absurd cc

allowed_arrays : (n : Node) (count : ℕ) (at : Option Span) (t : TailTree) (i : MaybeInitTree) → tail_allowed false t ≡ true → has_arrays (s.declarator n count at t i) ≡ true
allowed_arrays n count at (s.arrays ds) i h = refl
allowed_arrays n count at s.unspecified i h = absurd cc
allowed_arrays n count at s.void_parameters i h = absurd cc
allowed_arrays n count at (s.with_parameters ps more) i h = absurd cc

-- what a declarator prints is read as that declarator
pub declarator_read : (d : DeclrTree) (named : Span → Bool) (room : ℕ) (file : Bool) (r : List Lexeme) → declares file d ≡ true → declarator_fits named d ≡ true → declarator_nesting d ≤ room → ends_declarator r ≡ true
    → declarator_at named room file (prints_declarator d r) ≡ Some (unlaid_declarator d, r)
declarator_read (s.declarator n count at t i) named zero file r h q low ends = absurd (omega arith)
declarator_read (s.declarator n count None t i) named (suc inner) true r h q low ends = absurd cc
declarator_read (s.declarator n count None t i) named (suc inner) false r h q low ends = absurd cc
declarator_read (s.declarator n count (Some at) t i) named (suc inner) true r h q low ends = named_declarator_read n count at t i named inner true r refl h q low ends
declarator_read (s.declarator n count (Some at) t i) named (suc inner) false r h q low ends =
    let a = both_true (has_arrays (s.declarator n count (Some at) t i)) _ h in
    named_declarator_read n count at t i named inner false r (arrays_allow n count (Some at) t i a.0) a.1 q low ends

declares_named : (file : Bool) (n : Node) (count : ℕ) (at : Span) (t : TailTree) (i : MaybeInitTree) → allowed_placed file t ≡ true → declarator_placed (s.declarator n count (Some at) t i) ≡ true → declares file (s.declarator n count (Some at) t i) ≡ true
declares_named true n count at t i a p = p
declares_named false n count at t i a p = true_both _ _ (allowed_arrays n count (Some at) t i (both_true _ _ a).0) p

-- the stars, the name, the tail and the initialiser that were found make a declarator
declarator_stands : (named : Span → Bool) (inner : ℕ) (file : Bool) (ts : List Lexeme) (count : ℕ) (u : List Lexeme) (at : Span) (v : List Lexeme) (t : TailTree) (w : List Lexeme) (i : MaybeInitTree) (r : List Lexeme) (x : DeclrTree × List Lexeme)
    → ts ≡ prints_stars count u → u ≡ Leaf Word at ∷ v → not (named at) ≡ true → v ≡ prints_tail t w → allowed_placed file t ≡ true → tail_fits named t ≡ true
    → Stands prints_initial maybe_initialiser_placed (maybe_initialiser_fits named) maybe_initialiser_nesting inner w (i, r) → declarator_nesting (s.declarator no_node count (Some at) t i) ≤ suc inner
    → ◌≡◌ {A = Found DeclrTree} (Some (s.declarator no_node count (Some at) t i, r)) (Some x) → Stands prints_declarator (declares file) (declarator_fits named) declarator_nesting (suc inner) ts x
declarator_stands named inner file ts count u at v t w i r x stars name fit tail allowed fits k low e =
    subst (Stands prints_declarator (declares file) (declarator_fits named) declarator_nesting (suc inner) ts) (some_is (s.declarator no_node count (Some at) t i, r) x e)
    (record {
      text = stars ∙ ap (prints_stars count) (name ∙ ap (λ r. Leaf Word at ∷ r) (tail ∙ ap (prints_tail t) k.text));
      placed = declares_named file no_node count at t i allowed (true_both _ _ (both_true _ _ allowed).1 k.placed);
      fits = true_both _ _ (true_both _ _ fit fits) k.fits;
      low = low;
    })

pub declarator_found : (named : Span → Bool) (room : ℕ) (file : Bool) → FindsOnly prints_declarator (declares file) (declarator_fits named) declarator_nesting room (declarator_at named room file)
unfolding declarator_at
declarator_found named zero file ts x e = absurd cc
declarator_found named (suc inner) file ts x e =
    let y = stars_at 0 ts in
    let a = bind_some (name_at named y.1) _ x e in
    let b = bind_some (declared_tail_at named inner file a.0.1) _ x a.2 in
    let d = bind_some (initial_at named inner b.0.1) _ x b.2 in
    let c = if_some _ _ x d.2 in
    let p = name_found named y.1 a.0 a.1 in
    let q = tail_on_found named inner file (behind_left_paren a.0.1) a.0.1 b.0 refl b.1 in
    let k = initial_found named inner b.0.1 d.0 d.1 in
    declarator_stands named inner file ts y.0 y.1 a.0.0 a.0.1 b.0.0 b.0.1 d.0.0 d.0.1 x (stars_is 0 ts) p.0 p.1 q.0 q.1 q.2 k (leb-true _ _ c.0) c.1

-- ---- the declarator of a function

-- placed before the body of a function
abbrev pub function_placed : DeclrTree → Bool
function_placed d = function_declarator d && declarator_placed d

function_read : (n : Node) (count : ℕ) (at : Span) (t : TailTree) (named : Span → Bool) (inner : ℕ) (r : List Lexeme) → parameter_tail t ≡ true → tail_placed t ≡ true → declarator_fits named (s.declarator n count (Some at) t s.no_initialiser) ≡ true
    → declarator_nesting (s.declarator n count (Some at) t s.no_initialiser) ≤ suc inner
    → function_declarator_at named (suc inner) (prints_declarator (s.declarator n count (Some at) t s.no_initialiser) r) ≡ Some (unlaid_declarator (s.declarator n count (Some at) t s.no_initialiser), r)
unfolding function_declarator_at
function_read n count at t named inner r h p q low =
    let b = both_true _ _ q in
    let c = both_true _ _ b.0 in
    let e = declarator-unlaid (s.declarator n count (Some at) t s.no_initialiser) in
    ap (function_name_behind named inner) (stars_read_all count (Leaf Word at ∷ prints_tail t r) (word_no_star at (prints_tail t r)))
    ∙ ap (λ (o : Found Span). o >>= function_tail named inner count) (name_read named at (prints_tail t r) c.0)
    ∙ ap (λ ts. function_tail named inner count (at, ts)) (tail_is_inside t r h)
    ∙ ap (λ (o : Found TailTree). o >>= λ x. low_declarator (suc inner) (s.declarator no_node count (Some at) x.0 s.no_initialiser) x.1) (parameter_tail_read t named inner r h p c.1 (omega arith))
    ∙ low_declarator_some (suc inner) (s.declarator no_node count (Some at) (unlaid_tail t) s.no_initialiser) r (omega (arith, e, low))

pub function_declarator_read : (d : DeclrTree) (named : Span → Bool) (room : ℕ) (r : List Lexeme) → function_placed d ≡ true → declarator_fits named d ≡ true → declarator_nesting d ≤ room
    → function_declarator_at named room (prints_declarator d r) ≡ Some (unlaid_declarator d, r)
function_declarator_read (s.declarator n count at t i) named zero r h q low = absurd (omega arith)
function_declarator_read (s.declarator n count None t i) named (suc inner) r h q low = absurd cc
function_declarator_read (s.declarator n count (Some at) (s.arrays ds) i) named (suc inner) r h q low = absurd cc
function_declarator_read (s.declarator n count (Some at) s.unspecified s.no_initialiser) named (suc inner) r h q low = function_read n count at s.unspecified named inner r refl refl q low
function_declarator_read (s.declarator n count (Some at) s.void_parameters s.no_initialiser) named (suc inner) r h q low = function_read n count at s.void_parameters named inner r refl refl q low
function_declarator_read (s.declarator n count (Some at) (s.with_parameters ps more) s.no_initialiser) named (suc inner) r h q low =
    function_read n count at (s.with_parameters ps more) named inner r refl (both_true (tail_placed (s.with_parameters ps more)) true h).0 q low
function_declarator_read (s.declarator n count (Some at) t (s.some_initialiser i)) named (suc inner) r h q low = absurd cc

function_with : (n : Node) (count : ℕ) (at : Span) (t : TailTree) → (parameter_tail t && tail_placed t) ≡ true → function_placed (s.declarator n count (Some at) t s.no_initialiser) ≡ true
function_with n count at (s.arrays ds) h = absurd cc
function_with n count at s.unspecified h = refl
function_with n count at s.void_parameters h = refl
function_with n count at (s.with_parameters ps more) h = true_both _ _ h refl

pub function_declarator_found : (named : Span → Bool) (room : ℕ) → FindsOnly prints_declarator function_placed (declarator_fits named) declarator_nesting room (function_declarator_at named room)
unfolding function_declarator_at
function_declarator_found named zero ts x e = absurd cc
function_declarator_found named (suc inner) ts x e =
    let y = stars_at 0 ts in
    let a = bind_some (name_at named y.1) _ x e in
    let b = bind_some (behind_left_paren a.0.1 >>= parameter_tail_at (parameter_at named inner)) _ x a.2 in
    let o = bind_some (behind_left_paren a.0.1) _ b.0 b.1 in
    let c = if_some _ _ x b.2 in
    let p = name_found named y.1 a.0 a.1 in
    let q = parameter_tail_found named inner o.0 b.0 o.2 in
    let tree : DeclrTree = s.declarator no_node y.0 (Some a.0.0) b.0.0 s.no_initialiser in
    subst (Stands prints_declarator function_placed (declarator_fits named) declarator_nesting (suc inner) ts) (some_is (tree, b.0.1) x c.1)
    (record {
      text = stars_is 0 ts ∙ ap (prints_stars y.0) (p.0 ∙ ap (λ r. Leaf Word a.0.0 ∷ r) (left_paren_is a.0.1 o.0 o.1 ∙ q.text));
      placed = function_with no_node y.0 a.0.0 b.0.0 q.placed;
      fits = true_both _ _ (true_both _ _ p.1 q.fits) refl;
      low = leb-true _ _ c.0;
    })
