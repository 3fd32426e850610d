-- The steps of reading a declarator, the parameters behind a name, and a base that begins with a reserved word.
use Rattle.std.proofs.Common.{◌≡◌, ℕ, zero, suc, ◌+◌, ◌-◌, ◌<◌, ◌≤◌, Bool, true, false, cond, nat_le, List, ◌∷◌, Option, Some, None, refl, sym, ap, ◌∙◌, arith}
use Rattle.std.proofs.lemmas.Bool.{le-leb, leb-false, lt-leb}
use Rattle.stk_base.specs.declared.span.Span.{Span}
use Rattle.stk_tree.specs.declared.fixed.Fixed.{Fixed}
use Rattle.stk_tree.specs.declared.fixed.Lexeme.{Lexeme}
use Rattle.stk_tree.specs.declared.fixed.Lexeme.TheVariants.{Fixed as Token}
use Rattle.stk_tree.specs.Nesting.{declarator_nesting, maybe_initialiser_nesting, tail_nesting}
use Rattle.stk_tree.specs.Syntax.{DeclrTree, MaybeInitTree, ParamTree, TailTree}
use Rattle.stk_tree.specs.Syntax as s
use Rattle.stk_tree.specs.Unlaid.{no_node}
use Rattle.stk_grammar.specs.Reading.{◌>>=◌, Found, behind_right_paren, stars_at}
use Rattle.stk_grammar.proofs.Operators.{if_some}
use Rattle.stk_grammar.specs.DeclarationReading.{Reader, behind_void, declarator_at, declarator_behind, declarator_name_behind, declared_tail_at, enumerator_at, enumerators_at, full_base_at, full_base_from, full_base_on, initial_at, low_declarator, member_at, members_at, more_parameters_at, name_at, parameter_tail_at, parameters_from}
use Rattle.stk_expr.specs.declared.parse.Parse.{Parse}
use Rattle.stk_expr.specs.declared.parse.Parse.TheVariants as parse
use Rattle.stk_expr.specs.Gives.{Fails}
use Rattle.stk_decl.specs.Rows.{first_of, paired}
use Rattle.stk_decl.specs.Tails.{low_tail}
use Rattle.stk_decl.proofs.Rows.{as_tail, parameters_tail}

-- ---- failures

pub Fails_along : {A : Type 0} (e : Parse) (o p : Option A) → o ≡ p → Fails e o → Fails e p
Fails_along parse.NoMemory o p q h = tt
Fails_along parse.NoTree o p q h = sym q ∙ h

pub Fails_behind : {A B : Type 0} (e : Parse) (o : Option A) (f : A → Option B) → Fails e o → Fails e (o >>= f)
Fails_behind parse.NoMemory o f h = tt
Fails_behind {A = A} parse.NoTree o f h = ap (λ (p : Option A). p >>= f) h

-- ---- parameters behind a name

pub parameters_here : (one : Reader ParamTree) (ts : List Lexeme) → None ≡ behind_right_paren ts → None ≡ behind_void ts
    → parameter_tail_at one ts ≡ first_of (paired s.then_parameter) one (more_parameters_at one) ts >>= as_tail
unfolding parameter_tail_at
parameters_here one ts paren void =
    ap (λ o. parameters_from one o (behind_void ts) ts) (sym paren) ∙ ap (λ o. parameters_from one None o ts) (sym void) ∙ parameters_tail one ts

-- ---- a declarator, behind its name

less_one : (n : ℕ) → suc n - 1 ≡ n
less_one n = omega arith

pub behind_name : (named : Span → Bool) (room : ℕ) (file : Bool) (ts : List Lexeme) (count : ℕ) (inside : List Lexeme) (at : Span) (rest : List Lexeme) → (room ≡ 0 → ⊥) → stars_at 0 ts ≡ (count, inside) → Some (at, rest) ≡ name_at named inside
    → declarator_at named room file ts ≡ declarator_behind named (room - 1) file count (at, rest)
unfolding declarator_at
behind_name named zero file ts count inside at rest some stars name = absurd (some refl)
behind_name named (suc inner) file ts count inside at rest some stars name =
    ap (declarator_name_behind named inner file) stars
    ∙ ap (λ (o : Found Span). o >>= declarator_behind named inner file count) (sym name)
    ∙ ap (λ n. declarator_behind named n file count (at, rest)) (sym (less_one inner))

abbrev with_tail : (Span → Bool) → ℕ → ℕ → Span → TailTree × List Lexeme → Found DeclrTree
with_tail named inner count at t = initial_at named inner t.1 >>= λ i. low_declarator (suc inner) (s.declarator no_node count (Some at) t.0 i.0) i.1

abbrev with_initial : ℕ → ℕ → Span → TailTree → MaybeInitTree × List Lexeme → Found DeclrTree
with_initial inner count at t i = low_declarator (suc inner) (s.declarator no_node count (Some at) t i.0) i.1

not_taken : {A : Type 0} (b : Bool) (x : A) → cond b (Some x) None ≡ None → b ≡ false
not_taken true x e = absurd cc
not_taken false x e = refl

-- whatever initialiser is read behind a tail that is too high
too_high : (inner count : ℕ) (at : Span) (t : TailTree) (o : Found MaybeInitTree) → inner < tail_nesting t + count → o >>= with_initial inner count at t ≡ None
too_high inner count at t None high = refl
too_high inner count at t (Some i) high =
    let more_than : suc inner < declarator_nesting (s.declarator no_node count (Some at) t i.0) = omega arith in
    rw (lt-leb (declarator_nesting (s.declarator no_node count (Some at) t i.0)) (suc inner) more_than) refl

no_tail : (named : Span → Bool) (inner count : ℕ) (at : Span) (o : Found TailTree) → o >>= low_tail inner count ≡ None → o >>= with_tail named inner count at ≡ None
no_tail named inner count at None e = refl
no_tail named inner count at (Some t) e =
    too_high inner count at t.0 (initial_at named inner t.1) (leb-false (tail_nesting t.0 + count) inner (not_taken (nat_le (tail_nesting t.0 + count) inner) t e))

pub tail_fails : (e : Parse) (named : Span → Bool) (inner : ℕ) (file : Bool) (count : ℕ) (at : Span) (rest : List Lexeme) → Fails e (declared_tail_at named inner file rest >>= low_tail inner count)
    → Fails e (declarator_behind named inner file count (at, rest))
tail_fails parse.NoMemory named inner file count at rest h = tt
tail_fails parse.NoTree named inner file count at rest h = no_tail named inner count at (declared_tail_at named inner file rest) h

tail_is : (inner count : ℕ) (o : Found TailTree) (t : TailTree × List Lexeme) → o >>= low_tail inner count ≡ Some t → o ≡ Some t
tail_is inner count None t e = absurd cc
tail_is inner count (Some x) t e = (if_some (nat_le (tail_nesting x.0 + count) inner) (Some x) t e).1

behind_tail : (named : Span → Bool) (inner : ℕ) (file : Bool) (count : ℕ) (at : Span) (rest : List Lexeme) (t : TailTree × List Lexeme) → declared_tail_at named inner file rest >>= low_tail inner count ≡ Some t
    → declarator_behind named inner file count (at, rest) ≡ with_tail named inner count at t
behind_tail named inner file count at rest t h = ap (λ (o : Found TailTree). o >>= with_tail named inner count at) (tail_is inner count (declared_tail_at named inner file rest) t h)

pub initial_fails : (e : Parse) (named : Span → Bool) (inner : ℕ) (file : Bool) (count : ℕ) (at : Span) (rest : List Lexeme) (t : TailTree) (more : List Lexeme) → declared_tail_at named inner file rest >>= low_tail inner count ≡ Some (t, more) → Fails e (initial_at named inner more)
    → Fails e (declarator_behind named inner file count (at, rest))
initial_fails e named inner file count at rest t more tail h =
    Fails_along e _ _ (sym (behind_tail named inner file count at rest (t, more) tail)) (Fails_behind e (initial_at named inner more) (with_initial inner count at t) h)

pub declarator_low : (named : Span → Bool) (inner : ℕ) (file : Bool) (count : ℕ) (at : Span) (rest : List Lexeme) (t : TailTree) (more : List Lexeme) (i : MaybeInitTree) (end : List Lexeme)
    → declared_tail_at named inner file rest >>= low_tail inner count ≡ Some (t, more) → initial_at named inner more ≡ Some (i, end) → tail_nesting t + count ≤ inner → maybe_initialiser_nesting i ≤ inner
    → declarator_behind named inner file count (at, rest) ≡ Some (s.declarator no_node count (Some at) t i, end)
declarator_low named inner file count at rest t more i end tail init low low_init =
    let within : declarator_nesting (s.declarator no_node count (Some at) t i) ≤ suc inner = omega arith in
    behind_tail named inner file count at rest (t, more) tail
    ∙ ap (λ (o : Found MaybeInitTree). o >>= with_initial inner count at t) init
    ∙ rw (le-leb (declarator_nesting (s.declarator no_node count (Some at) t i)) (suc inner) within) refl

-- ---- a base

pub reserved_base : (named : Span → Bool) (room : ℕ) (ts : List Lexeme) (first : Lexeme) (word : Fixed) (rest : List Lexeme) → (room ≡ 0 → ⊥) → ts ≡ first ∷ rest → first ≡ Token word
    → full_base_at named room ts ≡ full_base_on (members_at (member_at named (room - 1) (full_base_at named (room - 1)))) (enumerators_at (enumerator_at named (room - 1))) word rest
unfolding full_base_at
reserved_base named zero ts first word rest some is token = absurd (some refl)
reserved_base named (suc inner) ts first word rest some is token =
    ap (full_base_from named (members_at (member_at named inner (full_base_at named inner))) (enumerators_at (enumerator_at named inner))) (is ∙ ap (λ x. x ∷ rest) token)
    ∙ ap (λ n. full_base_on (members_at (member_at named n (full_base_at named n))) (enumerators_at (enumerator_at named n)) word rest) (sym (less_one inner))
