-- Enumerators, and what stands in the braces of an `enum`.
use Rattle.std.proofs.Common.{◌≡◌, ℕ, zero, suc, ◌<◌, ◌≤◌, Bool, true, false, not, ◌&&◌, List, ◌∷◌, length, Option, Some, None, refl, sym, ap, subst, ◌∙◌, length-append, arith}
use Rattle.stk_base.specs.declared.span.Span.{Span}
use Rattle.stk_base.specs.declared.token.Class.TheVariants.{Word}
use Rattle.stk_tree.specs.declared.fixed.Fixed.TheVariants as fixed
use Rattle.stk_tree.specs.declared.fixed.Lexeme.{Lexeme}
use Rattle.stk_tree.specs.declared.fixed.Lexeme.TheVariants.{Leaf, Fixed as Token}
use Rattle.stk_tree.specs.Syntax.{EnumrTree, EnumrTrees, ExprTree, MaybeExprTree}
use Rattle.stk_tree.specs.Syntax as s
use Rattle.stk_tree.specs.Nesting.{enumerator_nesting, enumerators_nesting, maybe_expression_nesting}
use Rattle.stk_tree.specs.Placed.{constant_placed, enumerator_placed, enumerators_placed, some_enumerators}
use Rattle.stk_tree.specs.Tokens.{enumerator_tokens}
use Rattle.stk_tree.specs.Unlaid.{unlaid_enumerator, unlaid_enumerators, unlaid_maybe_expression}
use Rattle.stk_grammar.specs.Expressions.{stops}
use Rattle.stk_tree.specs.Fits.{enumerator_fits, enumerators_fits, maybe_expression_fits}
use Rattle.stk_grammar.specs.Reading.{◌>>=◌, Found, behind_assign, behind_comma, behind_right_brace}
use Rattle.stk_grammar.specs.Stopped.{stopped_at}
use Rattle.stk_grammar.proofs.Operators.{bind_some, both_true, some_is, true_both}
use Rattle.stk_grammar.proofs.Sound.{comma_is}
use Rattle.stk_grammar.specs.DeclarationReading.{Reader, enumerator_at, enumerators_at, enumerators_go, enumerators_on, more_enumerators_at, name_at, optional_value, value_at}
use Rattle.stk_grammar.proofs.Arrays.{name_found, name_read}
use Rattle.stk_grammar.proofs.DeclarationPunctuators.{assign_is, expression_found, expression_read, right_brace_is}
use Rattle.stk_grammar.proofs.DeclarationPrints.{enumerator-append, prints_comma, prints_enumerator, prints_enumerators, prints_more_enumerators, prints_value}
use Rattle.stk_grammar.proofs.Stands.{FindsOnly, Stands}

-- ---- one enumerator

-- what ends an enumerator
abbrev ends_enumerator : List Lexeme → Bool
ends_enumerator (Token fixed.Comma ∷ ts) = true
ends_enumerator (Token fixed.RightBrace ∷ ts) = true
ends_enumerator other = false

enumerator_stops : (r : List Lexeme) → ends_enumerator r ≡ true → stops 3 r ≡ true
enumerator_stops (Token fixed.Comma ∷ ts) h = refl
enumerator_stops (Token fixed.RightBrace ∷ ts) h = refl
enumerator_stops other h = absurd cc

enumerator_no_assign : (r : List Lexeme) → ends_enumerator r ≡ true → behind_assign r ≡ None
enumerator_no_assign (Token fixed.Comma ∷ ts) h = refl
enumerator_no_assign (Token fixed.RightBrace ∷ ts) h = refl
enumerator_no_assign other h = absurd cc

value_read : (e : MaybeExprTree) (named : Span → Bool) (room : ℕ) (r : List Lexeme) → constant_placed e ≡ true → maybe_expression_fits named e ≡ true → maybe_expression_nesting e ≤ room → ends_enumerator r ≡ true
    → value_at named room (prints_value e r) ≡ Some (unlaid_maybe_expression e, r)
value_read s.no_expression named room r p q low ends = ap (λ o. optional_value named room o r) (enumerator_no_assign r ends)
value_read (s.some_expression e) named room r p q low ends =
    ap (λ (o : Found ExprTree). o >>= λ x. let y : Found MaybeExprTree = Some (s.some_expression x.0, x.1) in y) (expression_read named room 3 e r p q low (enumerator_stops r ends))

enumerator_read : (x : EnumrTree) (named : Span → Bool) (room : ℕ) (r : List Lexeme) → enumerator_placed x ≡ true → enumerator_fits named x ≡ true → enumerator_nesting x ≤ room → ends_enumerator r ≡ true
    → enumerator_at named room (prints_enumerator x r) ≡ Some (unlaid_enumerator x, r)
unfolding enumerator_at
enumerator_read (s.enumerator at e) named room r p q low ends =
    let b = both_true (not (named at)) (maybe_expression_fits named e) q in
    ap (λ (o : Found Span). o >>= λ w. value_at named room w.1 >>= λ e. let y : Found EnumrTree = Some (s.enumerator w.0 e.0, e.1) in y) (name_read named at (prints_value e r) b.0)
    ∙ ap (λ (o : Found MaybeExprTree). o >>= λ e. let y : Found EnumrTree = Some (s.enumerator at e.0, e.1) in y) (value_read e named room r p b.1 low ends)

value_found : (named : Span → Bool) (room : ℕ) (o : Option (List Lexeme)) (ts : List Lexeme) (x : MaybeExprTree × List Lexeme) → behind_assign ts ≡ o → optional_value named room o ts ≡ Some x
    → Stands prints_value constant_placed (maybe_expression_fits named) maybe_expression_nesting room ts x
value_found named room None ts x is e =
    subst (Stands prints_value constant_placed (maybe_expression_fits named) maybe_expression_nesting room ts) (some_is (s.no_expression, ts) x e) (record { text = refl; placed = refl; fits = refl; low = omega arith })
value_found named room (Some next) ts x is e =
    let a = bind_some (stopped_at named room 3 next) _ x e in
    let p = expression_found named room 3 next a.0 (omega arith) a.1 in
    subst (Stands prints_value constant_placed (maybe_expression_fits named) maybe_expression_nesting room ts) (some_is (s.some_expression a.0.0, a.0.1) x a.2)
    (record { text = assign_is ts next is ∙ ap (λ r. Token fixed.Assign ∷ r) p.text; placed = p.placed; fits = p.fits; low = p.low })

enumerator_found : (named : Span → Bool) (room : ℕ) → FindsOnly prints_enumerator enumerator_placed (enumerator_fits named) enumerator_nesting room (enumerator_at named room)
unfolding enumerator_at
enumerator_found named room ts x e =
    let a = bind_some (name_at named ts) _ x e in
    let b = bind_some (value_at named room a.0.1) _ x a.2 in
    let p = name_found named ts a.0 a.1 in
    let q = value_found named room (behind_assign a.0.1) a.0.1 b.0 refl b.1 in
    subst (Stands prints_enumerator enumerator_placed (enumerator_fits named) enumerator_nesting room ts) (some_is (s.enumerator a.0.0 b.0.0, b.0.1) x b.2)
    (record { text = p.0 ∙ ap (λ r. Leaf Word a.0.0 ∷ r) q.text; placed = q.placed; fits = true_both _ _ p.1 q.fits; low = q.low })

-- ---- enumerators up to the `}`

-- with a comma before each; and with one between each two
abbrev prints_enumerators_left : EnumrTrees × Bool → List Lexeme → List Lexeme
prints_enumerators_left x r = prints_more_enumerators x.0 (prints_comma x.1 (Token fixed.RightBrace ∷ r))

abbrev pub prints_enumerators_inside : EnumrTrees × Bool → List Lexeme → List Lexeme
prints_enumerators_inside x r = prints_enumerators x.0 (prints_comma x.1 (Token fixed.RightBrace ∷ r))

enumerators_left_end : (xs : EnumrTrees) (comma : Bool) (r : List Lexeme) → ends_enumerator (prints_enumerators_left (xs, comma) r) ≡ true
enumerators_left_end s.no_enumerators true r = refl
enumerators_left_end s.no_enumerators false r = refl
enumerators_left_end (s.then_enumerator x xs) comma r = refl

enumerator_no_brace : (x : EnumrTree) (r : List Lexeme) → behind_right_brace (prints_enumerator x r) ≡ None
enumerator_no_brace (s.enumerator at e) r = refl

enumerator_longer : (x : EnumrTree) (r : List Lexeme) → length r ≤ length (prints_enumerator x r)
enumerator_longer x r = omega (arith, ap length (enumerator-append x r), length-append (enumerator_tokens x) r)

enumerator_next : (one : Reader EnumrTree) (f : ℕ) (x : EnumrTree) (xs : EnumrTrees) (comma : Bool) (ts next rest : List Lexeme) → behind_right_brace ts ≡ None → one ts ≡ Some (x, next)
    → more_enumerators_at one f next ≡ Some ((xs, comma), rest) → more_enumerators_at one (suc f) (Token fixed.Comma ∷ ts) ≡ Some ((s.then_enumerator x xs, comma), rest)
unfolding more_enumerators_at
enumerator_next one f x xs comma ts next rest none by later = rw (none, by, later) refl

enumerators_end : (one : Reader EnumrTree) (f : ℕ) (comma : Bool) (r : List Lexeme) → more_enumerators_at one (suc f) (prints_comma comma (Token fixed.RightBrace ∷ r)) ≡ Some ((s.no_enumerators, comma), r)
unfolding more_enumerators_at
enumerators_end one f true r = refl
enumerators_end one f false r = refl

enumerators_first : (one : Reader EnumrTree) (x : EnumrTree) (xs : EnumrTrees) (comma : Bool) (ts next rest : List Lexeme) → one ts ≡ Some (x, next) → more_enumerators_at one (suc (length next)) next ≡ Some ((xs, comma), rest)
    → enumerators_at one ts ≡ Some ((s.then_enumerator x xs, comma), rest)
unfolding enumerators_at
enumerators_first one x xs comma ts next rest by later = rw (by, later) refl

more_enumerators_read : (xs : EnumrTrees) (named : Span → Bool) (room f : ℕ) (comma : Bool) (r : List Lexeme) → enumerators_placed xs ≡ true → enumerators_fits named xs ≡ true → enumerators_nesting xs ≤ room
    → length (prints_enumerators_left (xs, comma) r) < f → more_enumerators_at (enumerator_at named room) f (prints_enumerators_left (xs, comma) r) ≡ Some ((unlaid_enumerators xs, comma), r)
more_enumerators_read xs named room zero comma r p q low much = absurd (omega arith)
more_enumerators_read s.no_enumerators named room (suc f) comma r p q low much = enumerators_end (enumerator_at named room) f comma r
more_enumerators_read (s.then_enumerator x xs) named room (suc f) comma r p q low much =
    let a = both_true (enumerator_placed x) (enumerators_placed xs) p in
    let b = both_true (enumerator_fits named x) (enumerators_fits named xs) q in
    let behind : List Lexeme = prints_enumerators_left (xs, comma) r in
    enumerator_next (enumerator_at named room) f (unlaid_enumerator x) (unlaid_enumerators xs) comma (prints_enumerator x behind) behind r
    (enumerator_no_brace x behind)
    (enumerator_read x named room behind a.0 b.0 (omega arith) (enumerators_left_end xs comma r))
    (more_enumerators_read xs named room f comma r a.1 b.1 (omega arith) (omega (arith, enumerator_longer x behind)))

-- one or more of them
pub enumerators_read : (xs : EnumrTrees) (named : Span → Bool) (room : ℕ) (comma : Bool) (r : List Lexeme) → some_enumerators xs ≡ true → enumerators_placed xs ≡ true → enumerators_fits named xs ≡ true → enumerators_nesting xs ≤ room
    → enumerators_at (enumerator_at named room) (prints_enumerators_inside (xs, comma) r) ≡ Some ((unlaid_enumerators xs, comma), r)
enumerators_read s.no_enumerators named room comma r c p q low = absurd cc
enumerators_read (s.then_enumerator x xs) named room comma r c p q low =
    let a = both_true (enumerator_placed x) (enumerators_placed xs) p in
    let b = both_true (enumerator_fits named x) (enumerators_fits named xs) q in
    let behind : List Lexeme = prints_enumerators_left (xs, comma) r in
    enumerators_first (enumerator_at named room) (unlaid_enumerator x) (unlaid_enumerators xs) comma (prints_enumerator x behind) behind r
    (enumerator_read x named room behind a.0 b.0 (omega arith) (enumerators_left_end xs comma r))
    (more_enumerators_read xs named room (suc (length behind)) comma r a.1 b.1 (omega arith) (omega arith))

abbrev EnumeratorsStand : (Span → Bool) → ℕ → List Lexeme → (EnumrTrees × Bool) × List Lexeme → Type 0
EnumeratorsStand named room = Stands prints_enumerators_left (λ x. enumerators_placed x.0) (λ x. enumerators_fits named x.0) (λ x. enumerators_nesting x.0) room

enumerators_go_found : (named : Span → Bool) (room : ℕ) (go_on : Reader (EnumrTrees × Bool)) (o : Option (List Lexeme)) (ts : List Lexeme) (x : (EnumrTrees × Bool) × List Lexeme)
    → ((us : List Lexeme) (y : (EnumrTrees × Bool) × List Lexeme) → go_on us ≡ Some y → EnumeratorsStand named room us y)
    → behind_right_brace ts ≡ o → enumerators_go go_on (enumerator_at named room) o ts ≡ Some x → EnumeratorsStand named room (Token fixed.Comma ∷ ts) x
enumerators_go_found named room go_on (Some rest) ts x later is e =
    subst (EnumeratorsStand named room (Token fixed.Comma ∷ ts)) (some_is ((s.no_enumerators, true), rest) x e)
    (record { text = ap (λ r. Token fixed.Comma ∷ r) (right_brace_is ts rest is); placed = refl; fits = refl; low = omega arith })
enumerators_go_found named room go_on None ts x later is e =
    let a = bind_some (enumerator_at named room ts) _ x e in
    let b = bind_some (go_on a.0.1) _ x a.2 in
    let p = enumerator_found named room ts a.0 a.1 in
    let q = later a.0.1 b.0 b.1 in
    subst (EnumeratorsStand named room (Token fixed.Comma ∷ ts)) (some_is ((s.then_enumerator a.0.0 b.0.0.0, b.0.0.1), b.0.1) x b.2)
    (record {
      text = ap (λ r. Token fixed.Comma ∷ r) (p.text ∙ ap (prints_enumerator a.0.0) q.text);
      placed = true_both _ _ p.placed q.placed;
      fits = true_both _ _ p.fits q.fits;
      low = omega (arith, p.low, q.low);
    })

enumerators_on_found : (named : Span → Bool) (room : ℕ) (go_on : Reader (EnumrTrees × Bool)) (o : Option (List Lexeme)) (ts : List Lexeme) (x : (EnumrTrees × Bool) × List Lexeme)
    → ((us : List Lexeme) (y : (EnumrTrees × Bool) × List Lexeme) → go_on us ≡ Some y → EnumeratorsStand named room us y)
    → behind_comma ts ≡ o → enumerators_on go_on (enumerator_at named room) o ts ≡ Some x → EnumeratorsStand named room ts x
enumerators_on_found named room go_on None ts x later is e =
    let a = bind_some (behind_right_brace ts) _ x e in
    subst (EnumeratorsStand named room ts) (some_is ((s.no_enumerators, false), a.0) x a.2) (record { text = right_brace_is ts a.0 a.1; placed = refl; fits = refl; low = omega arith })
enumerators_on_found named room go_on (Some next) ts x later is e =
    subst (λ us. EnumeratorsStand named room us x) (sym (comma_is ts next is)) (enumerators_go_found named room go_on (behind_right_brace next) next x later refl e)

more_enumerators_found : (named : Span → Bool) (room f : ℕ) (ts : List Lexeme) (x : (EnumrTrees × Bool) × List Lexeme) → more_enumerators_at (enumerator_at named room) f ts ≡ Some x → EnumeratorsStand named room ts x
unfolding more_enumerators_at
more_enumerators_found named room zero ts x e = absurd cc
more_enumerators_found named room (suc f) ts x e = enumerators_on_found named room (more_enumerators_at (enumerator_at named room) f) (behind_comma ts) ts x (λ us y d. more_enumerators_found named room f us y d) refl e

-- what is read in the braces stands there
pub enumerators_found : (named : Span → Bool) (room : ℕ)
    → FindsOnly prints_enumerators_inside (λ x. some_enumerators x.0 && enumerators_placed x.0) (λ x. enumerators_fits named x.0) (λ x. enumerators_nesting x.0) room (enumerators_at (enumerator_at named room))
unfolding enumerators_at
enumerators_found named room ts x e =
    let a = bind_some (enumerator_at named room ts) _ x e in
    let b = bind_some (more_enumerators_at (enumerator_at named room) (suc (length a.0.1)) a.0.1) _ x a.2 in
    let p = enumerator_found named room ts a.0 a.1 in
    let q = more_enumerators_found named room (suc (length a.0.1)) a.0.1 b.0 b.1 in
    subst (Stands prints_enumerators_inside (λ x. some_enumerators x.0 && enumerators_placed x.0) (λ x. enumerators_fits named x.0) (λ x. enumerators_nesting x.0) room ts)
    (some_is ((s.then_enumerator a.0.0 b.0.0.0, b.0.0.1), b.0.1) x b.2)
    (record {
      text = p.text ∙ ap (prints_enumerator a.0.0) q.text;
      placed = true_both _ _ p.placed q.placed;
      fits = true_both _ _ p.fits q.fits;
      low = omega (arith, p.low, q.low);
    })
