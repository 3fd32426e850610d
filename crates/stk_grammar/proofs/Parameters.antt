-- Bases without braces, parameters, and what stands in the parentheses behind a declarator's name.
use Rattle.std.proofs.Common.{◌≡◌, ℕ, zero, suc, ◌<◌, ◌≤◌, Bool, true, false, not, ◌&&◌, List, [], ◌∷◌, length, Option, Some, None, refl, sym, ap, subst, ◌∙◌, length-append, nat_eq, arith}
use Rattle.std.proofs.lemmas.Bool.{eqb-true}
use Rattle.stk_base.specs.declared.span.Span.{Span}
use Rattle.stk_tree.specs.declared.node.Node.{Node}
use Rattle.stk_tree.specs.declared.fixed.Fixed.{Fixed}
use Rattle.stk_tree.specs.declared.fixed.Fixed.TheVariants as fixed
use Rattle.stk_tree.specs.declared.fixed.Lexeme.{Lexeme}
use Rattle.stk_tree.specs.declared.fixed.Lexeme.TheVariants.{Fixed as Token}
use Rattle.stk_tree.specs.Syntax.{BaseFormTree, BaseTree, DeclrTree, DimensionTree, DimensionTrees, MaybeInitTree, ParamTree, ParamTrees, TailTree}
use Rattle.stk_tree.specs.Syntax as s
use Rattle.stk_tree.specs.Nesting.{base_form_nesting, declarator_nesting, parameter_nesting, parameters_nesting, tail_nesting}
use Rattle.stk_tree.specs.Placed.{all_basic, base_form_placed, base_placed, declarator_placed, basic_words, is_unbraced, is_basic, is_empty_declarator, lone_void, lone_void_word, parameter_declarator, parameter_placed, parameters_placed, tail_placed}
use Rattle.stk_tree.specs.Tokens.{parameter_tokens}
use Rattle.stk_tree.specs.Unlaid.{no_node, unlaid_base_form, unlaid_parameter, unlaid_parameters, unlaid_tail}
use Rattle.stk_tree.specs.Fits.{base_form_fits, parameter_fits, parameters_fits, tail_fits}
use Rattle.stk_grammar.specs.Reading.{◌>>=◌, Found, base_at, begins_type, behind_comma, behind_ellipsis, behind_right_paren, words_at}
use Rattle.stk_grammar.proofs.Complete.{base_begins_type, base_read}
use Rattle.stk_grammar.proofs.Operators.{bind_some, both_true, some_is, true_both}
use Rattle.stk_grammar.proofs.Prints.{prints_base}
use Rattle.stk_grammar.proofs.Sound.{base_is, comma_is, right_paren_is}
use Rattle.stk_grammar.proofs.Well.{IsWellBase, base_passes, base_well, not_true, true_not}
use Rattle.stk_grammar.specs.DeclarationReading.{Reader, array_declarator_at, behind_void, more_ends, more_parameters_at, parameter_at, parameter_tail_at, parameters_at, parameters_from, parameters_go, parameters_on}
use Rattle.stk_grammar.proofs.Arrays.{array_declarator_found, array_declarator_no_words, array_declarator_read}
use Rattle.stk_grammar.proofs.DeclarationPunctuators.{basic_no_paren, ellipsis_is, ends_declarator, type_no_ellipsis, type_no_paren}
use Rattle.stk_grammar.proofs.DeclarationPrints.{parameter-append, prints_declarator, prints_ellipsis, prints_more_parameters, prints_parameter, prints_parameters, prints_specifier_form, prints_tail}
use Rattle.stk_grammar.proofs.Stands.{FindsOnly, Stands}

-- ---- bases without braces

-- both ways of saying what a base prints are one
specifier_is_base : (named : Span → Bool) (b : BaseFormTree) (r : List Lexeme) → IsWellBase named b → prints_specifier_form b r ≡ prints_base b r
specifier_is_base named (s.words ws) r w = refl
specifier_is_base named (s.struct_ref tag) r w = refl
specifier_is_base named (s.struct_def tag ms) r w = absurd w
specifier_is_base named (s.enum_ref tag) r w = refl
specifier_is_base named (s.enum_def tag es comma) r w = absurd w
specifier_is_base named (s.named at) r w = refl

well_base_nesting : (named : Span → Bool) (b : BaseFormTree) → IsWellBase named b → base_form_nesting b ≡ 0
well_base_nesting named (s.words ws) w = refl
well_base_nesting named (s.struct_ref tag) w = refl
well_base_nesting named (s.struct_def tag ms) w = absurd w
well_base_nesting named (s.enum_ref tag) w = refl
well_base_nesting named (s.enum_def tag es comma) w = absurd w
well_base_nesting named (s.named at) w = refl

pub specifier_read : (named : Span → Bool) (n : Node) (b : BaseFormTree) (r : List Lexeme) → is_unbraced (s.base n b) ≡ true → base_form_placed b ≡ true → base_form_fits named b ≡ true → words_at r ≡ ([], r)
    → base_at named (prints_specifier_form b r) ≡ Some (unlaid_base_form b, r)
specifier_read named n b r unlaid p q stays =
    let w = base_well named n b unlaid p q in
    ap (base_at named) (specifier_is_base named b r w) ∙ base_read named b r w stays

-- a base that was read
pub record BaseStands (named : Span → Bool) (ts : List Lexeme) (x : BaseFormTree × List Lexeme) : Type 0 where
  pub text : ts ≡ prints_specifier_form x.0 x.1
  pub unlaid : is_unbraced (s.base no_node x.0) ≡ true
  pub placed : base_form_placed x.0 ≡ true
  pub fits : base_form_fits named x.0 ≡ true
  pub low : base_form_nesting x.0 ≡ 0

pub specifier_found : (named : Span → Bool) (ts : List Lexeme) (x : BaseFormTree × List Lexeme) → base_at named ts ≡ Some x → BaseStands named ts x
specifier_found named ts x e =
    let a = base_is named ts x e in
    let b = base_passes named no_node x.0 a.1 in
    record { text = a.0 ∙ sym (specifier_is_base named x.0 x.1 a.1); unlaid = b.0; placed = b.1; fits = b.2; low = well_base_nesting named x.0 a.1 }

specifier_begins_type : (named : Span → Bool) (n : Node) (b : BaseFormTree) (r : List Lexeme) → is_unbraced (s.base n b) ≡ true → base_form_placed b ≡ true → base_form_fits named b ≡ true
    → begins_type named (prints_specifier_form b r) ≡ true
specifier_begins_type named n b r unlaid p q =
    let w = base_well named n b unlaid p q in
    ap (begins_type named) (specifier_is_base named b r w) ∙ base_begins_type named b r w

pub declarator_above : (d : DeclrTree) → 0 < declarator_nesting d
declarator_above (s.declarator n count at t i) = omega arith

-- ---- one parameter

-- the four tests of a parameter
parameter_tests : (n : Node) (b : BaseTree) (d : DeclrTree) → parameter_placed (s.parameter n b d) ≡ true → (is_unbraced b ≡ true) × (base_placed b ≡ true) × (parameter_declarator d ≡ true) × (declarator_placed d ≡ true)
parameter_tests n b d p =
    let a = both_true _ _ p in
    let c = both_true _ _ a.0 in
    let e = both_true _ _ c.0 in
    (e.0, e.1, c.1, a.1)

pub parameter_read : (x : ParamTree) (named : Span → Bool) (room : ℕ) (r : List Lexeme) → parameter_placed x ≡ true → parameter_fits named x ≡ true → parameter_nesting x ≤ room → ends_declarator r ≡ true
    → parameter_at named room (prints_parameter x r) ≡ Some (unlaid_parameter x, r)
unfolding parameter_at
parameter_read (s.parameter n (s.base m b) d) named zero r p q low ends = absurd (omega arith)
parameter_read (s.parameter n (s.base m b) d) named (suc inner) r p q low ends =
    let a = parameter_tests n (s.base m b) d p in
    let c = both_true _ _ q in
    ap (λ (o : Found BaseFormTree). o >>= λ b. array_declarator_at named inner true b.1 >>= λ d. let x : Found ParamTree = Some (s.parameter no_node (s.base no_node b.0) d.0, d.1) in x)
    (specifier_read named m b (prints_declarator d r) a.0 a.1 c.0 (array_declarator_no_words d r a.2 ends))
    ∙ ap (λ (o : Found DeclrTree). o >>= λ d. let x : Found ParamTree = Some (s.parameter no_node (s.base no_node (unlaid_base_form b)) d.0, d.1) in x)
    (array_declarator_read d named inner true r a.2 refl a.3 c.1 (omega arith) ends)

pub parameter_found : (named : Span → Bool) (room : ℕ) → FindsOnly prints_parameter parameter_placed (parameter_fits named) parameter_nesting room (parameter_at named room)
unfolding parameter_at
parameter_found named zero ts x e = absurd cc
parameter_found named (suc inner) ts x e =
    let a = bind_some (base_at named ts) _ x e in
    let d = bind_some (array_declarator_at named inner true a.0.1) _ x a.2 in
    let p = specifier_found named ts a.0 a.1 in
    let q = array_declarator_found named inner true a.0.1 d.0 d.1 in
    let k = both_true _ _ q.placed in
    subst (Stands prints_parameter parameter_placed (parameter_fits named) parameter_nesting (suc inner) ts) (some_is (s.parameter no_node (s.base no_node a.0.0) d.0.0, d.0.1) x d.2)
    (record {
      text = p.text ∙ ap (prints_specifier_form a.0.0) q.text;
      placed = true_both _ _ (true_both _ _ (true_both _ _ p.unlaid p.placed) (both_true _ _ k.0).0) k.1;
      fits = true_both _ _ p.fits q.fits;
      low = omega (arith, p.low, q.low, declarator_above d.0.0);
    })

parameter_begins_type : (named : Span → Bool) (x : ParamTree) (r : List Lexeme) → parameter_placed x ≡ true → parameter_fits named x ≡ true → begins_type named (prints_parameter x r) ≡ true
parameter_begins_type named (s.parameter n (s.base m b) d) r p q =
    let a = parameter_tests n (s.base m b) d p in
    let c = both_true _ _ q in
    specifier_begins_type named m b (prints_declarator d r) a.0 a.1 c.0

-- ---- the rest of a list of parameters, with a comma before each

-- parameters with a comma before each, whether `, ...` follows them, and the `)`
abbrev pub prints_parameters_left : ParamTrees × Bool → List Lexeme → List Lexeme
prints_parameters_left x r = prints_more_parameters x.0 (prints_ellipsis x.1 (Token fixed.RightParen ∷ r))

parameters_left_end : (xs : ParamTrees) (more : Bool) (r : List Lexeme) → ends_declarator (prints_parameters_left (xs, more) r) ≡ true
parameters_left_end s.no_parameters true r = refl
parameters_left_end s.no_parameters false r = refl
parameters_left_end (s.then_parameter x xs) more r = refl

no_more_ends : (named : Span → Bool) (x : ParamTree) (r : List Lexeme) → parameter_placed x ≡ true → parameter_fits named x ≡ true → more_ends (prints_parameter x r) ≡ None
no_more_ends named x r p q = ap (λ (o : Option (List Lexeme)). o >>= behind_right_paren) (type_no_ellipsis named (prints_parameter x r) (parameter_begins_type named x r p q))

parameter_next : (one : Reader ParamTree) (f : ℕ) (x : ParamTree) (xs : ParamTrees) (more : Bool) (ts next rest : List Lexeme) → more_ends ts ≡ None → one ts ≡ Some (x, next) → more_parameters_at one f next ≡ Some ((xs, more), rest)
    → more_parameters_at one (suc f) (Token fixed.Comma ∷ ts) ≡ Some ((s.then_parameter x xs, more), rest)
unfolding more_parameters_at
parameter_next one f x xs more ts next rest none by later = rw (none, by, later) refl

parameters_end : (one : Reader ParamTree) (f : ℕ) (more : Bool) (r : List Lexeme) → more_parameters_at one (suc f) (prints_ellipsis more (Token fixed.RightParen ∷ r)) ≡ Some ((s.no_parameters, more), r)
unfolding more_parameters_at
parameters_end one f true r = refl
parameters_end one f false r = refl

-- a parameter takes tokens
parameter_longer : (x : ParamTree) (r : List Lexeme) → length r ≤ length (prints_parameter x r)
parameter_longer x r = omega (arith, ap length (parameter-append x r), length-append (parameter_tokens x) r)

more_parameters_read : (xs : ParamTrees) (named : Span → Bool) (room f : ℕ) (more : Bool) (r : List Lexeme) → parameters_placed xs ≡ true → parameters_fits named xs ≡ true → parameters_nesting xs ≤ room
    → length (prints_parameters_left (xs, more) r) < f → more_parameters_at (parameter_at named room) f (prints_parameters_left (xs, more) r) ≡ Some ((unlaid_parameters xs, more), r)
more_parameters_read xs named room zero more r p q low much = absurd (omega arith)
more_parameters_read s.no_parameters named room (suc f) more r p q low much = parameters_end (parameter_at named room) f more r
more_parameters_read (s.then_parameter x xs) named room (suc f) more r p q low much =
    let a = both_true _ _ p in
    let b = both_true _ _ q in
    let behind : List Lexeme = prints_parameters_left (xs, more) r in
    parameter_next (parameter_at named room) f (unlaid_parameter x) (unlaid_parameters xs) more (prints_parameter x behind) behind r
    (no_more_ends named x behind a.0 b.0)
    (parameter_read x named room behind a.0 b.0 (omega arith) (parameters_left_end xs more r))
    (more_parameters_read xs named room f more r a.1 b.1 (omega arith) (omega (arith, parameter_longer x behind)))

-- what was found of a list's rest
abbrev ParametersStand : (Span → Bool) → ℕ → List Lexeme → (ParamTrees × Bool) × List Lexeme → Type 0
ParametersStand named room = Stands prints_parameters_left (λ x. parameters_placed x.0) (λ x. parameters_fits named x.0) (λ x. parameters_nesting x.0) room

more_ends_is : (ts rest : List Lexeme) → more_ends ts ≡ Some rest → ts ≡ Token fixed.Ellipsis ∷ Token fixed.RightParen ∷ rest
more_ends_is ts rest e =
    let a = bind_some (behind_ellipsis ts) _ rest e in
    ellipsis_is ts a.0 a.1 ∙ ap (λ x. Token fixed.Ellipsis ∷ x) (right_paren_is a.0 rest a.2)

module _ (named : Span → Bool) (room : ℕ) (one : Reader ParamTree) (finds : FindsOnly prints_parameter parameter_placed (parameter_fits named) parameter_nesting room one) where
  go_found : (go_on : Reader (ParamTrees × Bool)) (o : Option (List Lexeme)) (ts : List Lexeme) (x : (ParamTrees × Bool) × List Lexeme)
      → ((us : List Lexeme) (y : (ParamTrees × Bool) × List Lexeme) → go_on us ≡ Some y → ParametersStand named room us y)
      → more_ends ts ≡ o → parameters_go go_on one o ts ≡ Some x → ParametersStand named room (Token fixed.Comma ∷ ts) x
  go_found go_on (Some rest) ts x later is e =
      subst (ParametersStand named room (Token fixed.Comma ∷ ts)) (some_is ((s.no_parameters, true), rest) x e)
      (record { text = ap (λ r. Token fixed.Comma ∷ r) (more_ends_is ts rest is); placed = refl; fits = refl; low = omega arith })
  go_found go_on None ts x later is e =
      let a = bind_some (one ts) _ x e in
      let b = bind_some (go_on a.0.1) _ x a.2 in
      let p = finds ts a.0 a.1 in
      let q = later a.0.1 b.0 b.1 in
      subst (ParametersStand named room (Token fixed.Comma ∷ ts)) (some_is ((s.then_parameter a.0.0 b.0.0.0, b.0.0.1), b.0.1) x b.2)
      (record {
        text = ap (λ r. Token fixed.Comma ∷ r) (p.text ∙ ap (prints_parameter a.0.0) q.text);
        placed = true_both _ _ p.placed q.placed;
        fits = true_both _ _ p.fits q.fits;
        low = omega (arith, p.low, q.low);
      })

  on_found : (go_on : Reader (ParamTrees × Bool)) (o : Option (List Lexeme)) (ts : List Lexeme) (x : (ParamTrees × Bool) × List Lexeme)
      → ((us : List Lexeme) (y : (ParamTrees × Bool) × List Lexeme) → go_on us ≡ Some y → ParametersStand named room us y)
      → behind_comma ts ≡ o → parameters_on go_on one o ts ≡ Some x → ParametersStand named room ts x
  on_found go_on None ts x later is e =
      let a = bind_some (behind_right_paren ts) _ x e in
      subst (ParametersStand named room ts) (some_is ((s.no_parameters, false), a.0) x a.2) (record { text = right_paren_is ts a.0 a.1; placed = refl; fits = refl; low = omega arith })
  on_found go_on (Some next) ts x later is e =
      subst (λ us. ParametersStand named room us x) (sym (comma_is ts next is)) (go_found go_on (more_ends next) next x later refl e)

  more_found : (f : ℕ) (ts : List Lexeme) (x : (ParamTrees × Bool) × List Lexeme) → more_parameters_at one f ts ≡ Some x → ParametersStand named room ts x
  unfolding more_parameters_at
  more_found zero ts x e = absurd cc
  more_found (suc f) ts x e = on_found (more_parameters_at one f) (behind_comma ts) ts x (λ us y d. more_found f us y d) refl e

-- ---- what stands in the parentheses

-- with parentheses, and well placed
abbrev pub parameter_tail : TailTree → Bool
parameter_tail (s.arrays ds) = false
parameter_tail other = true

abbrev pub parameter_tail_placed : TailTree → Bool
parameter_tail_placed t = parameter_tail t && tail_placed t

-- behind a lone `void` stands the `)` only where it is the one parameter
empty_no_paren : (n m k : Node) (xs : ParamTrees) (more : Bool) (r : List Lexeme)
    → lone_void (s.then_parameter (s.parameter n (s.base m (s.words (fixed.Void ∷ []))) (s.declarator k 0 None (s.arrays s.no_dimensions) s.no_initialiser)) xs) more ≡ false
    → behind_right_paren (prints_parameters_left (xs, more) r) ≡ None
empty_no_paren n m k (s.then_parameter x xs) more r h = refl
empty_no_paren n m k s.no_parameters true r h = refl
empty_no_paren n m k s.no_parameters false r h = absurd cc

void_no_paren : (n m : Node) (d : DeclrTree) (xs : ParamTrees) (more : Bool) (r : List Lexeme) → parameter_declarator d ≡ true → lone_void (s.then_parameter (s.parameter n (s.base m (s.words (fixed.Void ∷ []))) d) xs) more ≡ false
    → behind_right_paren (prints_declarator d (prints_parameters_left (xs, more) r)) ≡ None
void_no_paren n m (s.declarator k (suc count) at t i) xs more r p h = refl
void_no_paren n m (s.declarator k zero (Some at) t i) xs more r p h = refl
void_no_paren n m (s.declarator k zero None (s.arrays (s.then_dimension s.open_dimension ds)) i) xs more r p h = refl
void_no_paren n m (s.declarator k zero None (s.arrays (s.then_dimension (s.sized e) ds)) i) xs more r p h = refl
void_no_paren n m (s.declarator k zero None (s.arrays s.no_dimensions) s.no_initialiser) xs more r p h = empty_no_paren n m k xs more r h
void_no_paren n m (s.declarator k zero None (s.arrays s.no_dimensions) (s.some_initialiser i)) xs more r p h = absurd cc
void_no_paren n m (s.declarator k zero None t i) xs more r p h = absurd cc

-- the basic words of a parameter are no lone `void`
words_no_void : (n m : Node) (ws : List Fixed) (d : DeclrTree) (xs : ParamTrees) (more : Bool) (r : List Lexeme) → basic_words ws ≡ true → parameter_declarator d ≡ true
    → lone_void (s.then_parameter (s.parameter n (s.base m (s.words ws)) d) xs) more ≡ false → behind_void (prints_parameter (s.parameter n (s.base m (s.words ws)) d) (prints_parameters_left (xs, more) r)) ≡ None
words_no_void n m [] d xs more r b p h = absurd cc
words_no_void n m (fixed.Void ∷ []) d xs more r b p h = void_no_paren n m d xs more r p h
words_no_void n m (fixed.Void ∷ w ∷ ws) d xs more r b p h = basic_no_paren w _ (both_true (is_basic w) (all_basic ws) b).0
words_no_void n m (w ∷ ws) d xs more r b p h = refl

no_void : (x : ParamTree) (xs : ParamTrees) (more : Bool) (r : List Lexeme) → parameter_placed x ≡ true → lone_void (s.then_parameter x xs) more ≡ false
    → behind_void (prints_parameter x (prints_parameters_left (xs, more) r)) ≡ None
no_void (s.parameter n (s.base m (s.words ws)) d) xs more r p h = let a = parameter_tests n (s.base m (s.words ws)) d p in words_no_void n m ws d xs more r a.1 a.2 h
no_void (s.parameter n (s.base m (s.struct_ref tag)) d) xs more r p h = refl
no_void (s.parameter n (s.base m (s.struct_def tag ms)) d) xs more r p h = refl
no_void (s.parameter n (s.base m (s.enum_ref tag)) d) xs more r p h = refl
no_void (s.parameter n (s.base m (s.enum_def tag es comma)) d) xs more r p h = refl
no_void (s.parameter n (s.base m (s.named at)) d) xs more r p h = refl

parameters_some : (one : Reader ParamTree) (x : ParamTree) (xs : ParamTrees) (more : Bool) (ts next rest : List Lexeme) → one ts ≡ Some (x, next) → more_parameters_at one (suc (length next)) next ≡ Some ((xs, more), rest)
    → parameters_at one ts ≡ Some (s.with_parameters (s.then_parameter x xs) more, rest)
unfolding parameters_at
parameters_some one x xs more ts next rest by later = rw (by, later) refl

tail_by_parameters : (one : Reader ParamTree) (ts : List Lexeme) (o : Found TailTree) → behind_right_paren ts ≡ None → behind_void ts ≡ None → parameters_at one ts ≡ o → parameter_tail_at one ts ≡ o
unfolding parameter_tail_at
tail_by_parameters one ts o a b e = rw (a, b) e

-- what stands behind the `(`
abbrev pub prints_inside : TailTree → List Lexeme → List Lexeme
prints_inside (s.arrays ds) r = r
prints_inside s.unspecified r = Token fixed.RightParen ∷ r
prints_inside s.void_parameters r = Token fixed.Void ∷ Token fixed.RightParen ∷ r
prints_inside (s.with_parameters ps more) r = prints_parameters ps (prints_ellipsis more (Token fixed.RightParen ∷ r))

pub tail_is_inside : (t : TailTree) (r : List Lexeme) → parameter_tail t ≡ true → prints_tail t r ≡ Token fixed.LeftParen ∷ prints_inside t r
tail_is_inside (s.arrays ds) r h = absurd cc
tail_is_inside s.unspecified r h = refl
tail_is_inside s.void_parameters r h = refl
tail_is_inside (s.with_parameters ps more) r h = refl

parameters_read : (x : ParamTree) (xs : ParamTrees) (more : Bool) (named : Span → Bool) (room : ℕ) (r : List Lexeme) → parameters_placed (s.then_parameter x xs) ≡ true → parameters_fits named (s.then_parameter x xs) ≡ true
    → parameters_nesting (s.then_parameter x xs) ≤ room → lone_void (s.then_parameter x xs) more ≡ false
    → parameter_tail_at (parameter_at named room) (prints_parameter x (prints_parameters_left (xs, more) r)) ≡ Some (s.with_parameters (s.then_parameter (unlaid_parameter x) (unlaid_parameters xs)) more, r)
parameters_read x xs more named room r p q low lone =
    let a = both_true _ _ p in
    let b = both_true _ _ q in
    let behind : List Lexeme = prints_parameters_left (xs, more) r in
    tail_by_parameters (parameter_at named room) (prints_parameter x behind) _
    (type_no_paren named _ (parameter_begins_type named x behind a.0 b.0))
    (no_void x xs more r a.0 lone)
    (parameters_some (parameter_at named room) (unlaid_parameter x) (unlaid_parameters xs) more (prints_parameter x behind) behind r
    (parameter_read x named room behind a.0 b.0 (omega arith) (parameters_left_end xs more r))
    (more_parameters_read xs named room (suc (length behind)) more r a.1 b.1 (omega arith) (omega arith)))

-- what stands in the parentheses is read as that
pub parameter_tail_read : (t : TailTree) (named : Span → Bool) (room : ℕ) (r : List Lexeme) → parameter_tail t ≡ true → tail_placed t ≡ true → tail_fits named t ≡ true → tail_nesting t ≤ room
    → parameter_tail_at (parameter_at named room) (prints_inside t r) ≡ Some (unlaid_tail t, r)
unfolding parameter_tail_at
parameter_tail_read (s.arrays ds) named room r h p q low = absurd cc
parameter_tail_read s.unspecified named room r h p q low = refl
parameter_tail_read s.void_parameters named room r h p q low = refl
parameter_tail_read (s.with_parameters s.no_parameters more) named room r h p q low = absurd cc
parameter_tail_read (s.with_parameters (s.then_parameter x xs) more) named room r h p q low =
    let a = both_true (not (lone_void (s.then_parameter x xs) more)) (parameters_placed (s.then_parameter x xs)) p in
    parameters_read x xs more named room r a.1 q low (not_true _ a.0)

no_stars : {A : Type 0} (count : ℕ) → nat_eq (suc count) 0 ≡ true → A
no_stars count e = absurd (omega (arith, eqb-true (suc count) 0 e))

-- a lone `void` prints `void )`
void_prints : (n m k : Node) (ws : List Fixed) (count : ℕ) (at : Option Span) (y : TailTree) (i : MaybeInitTree) (r : List Lexeme) → lone_void_word ws ≡ true → is_empty_declarator (s.declarator k count at y i) ≡ true
    → behind_void (prints_parameter (s.parameter n (s.base m (s.words ws)) (s.declarator k count at y i)) (Token fixed.RightParen ∷ r)) ≡ Some r
void_prints n m k (fixed.Void ∷ []) zero None (s.arrays s.no_dimensions) s.no_initialiser r a b = refl
void_prints n m k (fixed.Void ∷ []) zero None (s.arrays s.no_dimensions) (s.some_initialiser i) r a b = absurd cc
void_prints n m k (fixed.Void ∷ []) zero None y i r a b = absurd cc
void_prints n m k (fixed.Void ∷ []) zero (Some at) y i r a b = absurd cc
void_prints n m k (fixed.Void ∷ []) (suc count) at y i r a b =
    let c = both_true _ _ b in
    let d = both_true _ _ c.0 in
    let e = both_true _ _ d.0 in
    no_stars count e.0
void_prints n m k ws count at y i r a b = absurd cc

lone_prints : (x : ParamTree) (xs : ParamTrees) (more : Bool) (r : List Lexeme) → lone_void (s.then_parameter x xs) more ≡ true → behind_void (prints_parameter x (prints_parameters_left (xs, more) r)) ≡ Some r
lone_prints x (s.then_parameter y ys) more r h = absurd cc
lone_prints x s.no_parameters true r h = absurd cc
lone_prints (s.parameter n (s.base m (s.words ws)) (s.declarator k count at y i)) s.no_parameters false r h = let a = both_true (lone_void_word ws) _ h in void_prints n m k ws count at y i r a.0 a.1
lone_prints (s.parameter n (s.base m (s.struct_ref tag)) d) s.no_parameters false r h = absurd cc
lone_prints (s.parameter n (s.base m (s.struct_def tag ms)) d) s.no_parameters false r h = absurd cc
lone_prints (s.parameter n (s.base m (s.enum_ref tag)) d) s.no_parameters false r h = absurd cc
lone_prints (s.parameter n (s.base m (s.enum_def tag es comma)) d) s.no_parameters false r h = absurd cc
lone_prints (s.parameter n (s.base m (s.named at)) d) s.no_parameters false r h = absurd cc

not_lone_by : (b : Bool) (x : ParamTree) (xs : ParamTrees) (more : Bool) (r : List Lexeme) → lone_void (s.then_parameter x xs) more ≡ b → behind_void (prints_parameter x (prints_parameters_left (xs, more) r)) ≡ None → b ≡ false
not_lone_by false x xs more r is h = refl
not_lone_by true x xs more r is h = let e = lone_prints x xs more r is in absurd (cc (sym h ∙ e))

not_lone : (x : ParamTree) (xs : ParamTrees) (more : Bool) (r : List Lexeme) → behind_void (prints_parameter x (prints_parameters_left (xs, more) r)) ≡ None → lone_void (s.then_parameter x xs) more ≡ false
not_lone x xs more r h = not_lone_by (lone_void (s.then_parameter x xs) more) x xs more r refl h

void_is : (ts rest : List Lexeme) → behind_void ts ≡ Some rest → ts ≡ Token fixed.Void ∷ Token fixed.RightParen ∷ rest
void_is [] rest e = absurd cc
void_is (Token fixed.Void ∷ ts) rest e = ap (λ x. Token fixed.Void ∷ x) (right_paren_is ts rest e)
void_is (t ∷ ts) rest e = absurd cc

module _ (named : Span → Bool) (room : ℕ) (one : Reader ParamTree) (finds : FindsOnly prints_parameter parameter_placed (parameter_fits named) parameter_nesting room one) where
  abbrev TailStands : List Lexeme → TailTree × List Lexeme → Type 0
  TailStands ts = Stands prints_tail parameter_tail_placed (tail_fits named) tail_nesting room (Token fixed.LeftParen ∷ ts)

  parameters_found : (ts : List Lexeme) (x : TailTree × List Lexeme) → behind_void ts ≡ None → parameters_at one ts ≡ Some x → TailStands ts x
  unfolding parameters_at
  parameters_found ts x void e =
      let a = bind_some (one ts) _ x e in
      let b = bind_some (more_parameters_at one (suc (length a.0.1)) a.0.1) _ x a.2 in
      let p = finds ts a.0 a.1 in
      let q = more_found named room one finds (suc (length a.0.1)) a.0.1 b.0 b.1 in
      let text : ts ≡ prints_parameter a.0.0 (prints_parameters_left b.0.0 b.0.1) = p.text ∙ ap (prints_parameter a.0.0) q.text in
      subst (TailStands ts) (some_is (s.with_parameters (s.then_parameter a.0.0 b.0.0.0) b.0.0.1, b.0.1) x b.2)
      (record {
        text = ap (λ r. Token fixed.LeftParen ∷ r) text;
        placed = true_both _ _ (true_not _ (not_lone a.0.0 b.0.0.0 b.0.0.1 b.0.1 (ap behind_void (sym text) ∙ void))) (true_both _ _ p.placed q.placed);
        fits = true_both _ _ p.fits q.fits;
        low = omega (arith, p.low, q.low);
      })

  from_found : (o v : Option (List Lexeme)) (ts : List Lexeme) (x : TailTree × List Lexeme) → behind_right_paren ts ≡ o → behind_void ts ≡ v → parameters_from one o v ts ≡ Some x → TailStands ts x
  from_found (Some rest) v ts x is void e =
      subst (TailStands ts) (some_is (s.unspecified, rest) x e) (record { text = ap (λ r. Token fixed.LeftParen ∷ r) (right_paren_is ts rest is); placed = refl; fits = refl; low = omega arith })
  from_found None (Some rest) ts x is void e =
      subst (TailStands ts) (some_is (s.void_parameters, rest) x e) (record { text = ap (λ r. Token fixed.LeftParen ∷ r) (void_is ts rest void); placed = refl; fits = refl; low = omega arith })
  from_found None None ts x is void e = parameters_found ts x void e

  tail_found : (ts : List Lexeme) (x : TailTree × List Lexeme) → parameter_tail_at one ts ≡ Some x → TailStands ts x
  unfolding parameter_tail_at
  tail_found ts x e = from_found (behind_right_paren ts) (behind_void ts) ts x refl refl e

-- what is read in the parentheses stands there
pub parameter_tail_found : (named : Span → Bool) (room : ℕ) (ts : List Lexeme) (x : TailTree × List Lexeme) → parameter_tail_at (parameter_at named room) ts ≡ Some x
    → Stands prints_tail parameter_tail_placed (tail_fits named) tail_nesting room (Token fixed.LeftParen ∷ ts) x
parameter_tail_found named room ts x e = tail_found named room (parameter_at named room) (parameter_found named room) ts x e
