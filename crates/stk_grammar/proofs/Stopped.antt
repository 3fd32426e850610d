-- An expression that a stop follows: read both ways, and what an answer of a reader says of the functional reader.
use Rattle.std.proofs.Common.{◌≡◌, ℕ, zero, suc, ◌≤◌, Bool, true, false, cond, List, ◌++◌, Option, Some, None, refl, sym, ap, ◌∙◌, arith}
use Rattle.stk_base.specs.declared.span.Span.{Span}
use Rattle.stk_tree.specs.declared.fixed.Lexeme.{Lexeme}
use Rattle.stk_tree.specs.Syntax.{DimensionTree, DimensionTrees, ExprTree}
use Rattle.stk_tree.specs.Syntax as s
use Rattle.stk_tree.specs.Nesting.{expression_nesting}
use Rattle.stk_tree.specs.Placed.{expression_placed}
use Rattle.stk_tree.specs.Tokens.{expression_tokens}
use Rattle.stk_tree.specs.Unlaid.{unlaid_expression}
use Rattle.stk_tree.specs.Fits.{expression_fits}
use Rattle.stk_grammar.specs.Expressions.{Leads, stops}
use Rattle.stk_grammar.specs.Reading.{◌>>=◌, Found, behind_left_bracket, behind_right_bracket, dimension_at, dimensions_at, dimensions_on, expression_at}
use Rattle.stk_grammar.specs.Stopped.{if_stopped, stopped_at}
use Rattle.stk_grammar.proofs.Complete.{expression_reads}
use Rattle.stk_grammar.proofs.Laws.{Ends-stops, found_unlaid}
use Rattle.stk_grammar.proofs.Operators.{some_is}
use Rattle.stk_grammar.proofs.Prints.{tokens-append}
use Rattle.stk_grammar.proofs.Sound.{expression_sound, right_bracket_is}
use Rattle.stk_grammar.proofs.Well.{nesting-unlaid, passes_of, well_of}

-- what stands at the front, with a stop behind it, is read as that tree
pub leads_read : (named : Span → Bool) (room least : ℕ) (ts : List Lexeme) (t : ExprTree) (rest : List Lexeme) → Leads named room least ts t rest
    → stopped_at named room least ts ≡ Some (unlaid_expression t, rest)
unfolding stopped_at
leads_read named room least ts t rest h =
    let w = well_of named least t h.placed h.fits in
    let low : expression_nesting (unlaid_expression t) ≤ room = omega (arith, nesting-unlaid named t w.1, h.nesting) in
    ap (λ x. expression_at named room least x >>= if_stopped least) (h.tokens ∙ tokens-append t rest)
    ∙ ap (λ (o : Found ExprTree). o >>= if_stopped least) (expression_reads named room least t rest w.1 w.0 low (Ends-stops least rest h.stop))
    ∙ ap (λ (b : Bool). cond b (Some (unlaid_expression t, rest)) None) h.stop

-- the same, of what a tree prints
pub stopped_reads : (named : Span → Bool) (room least : ℕ) (t : ExprTree) (rest : List Lexeme) → expression_placed least t ≡ true → expression_fits named t ≡ true → expression_nesting t ≤ room → stops least rest ≡ true
    → stopped_at named room least (expression_tokens t ++ rest) ≡ Some (unlaid_expression t, rest)
stopped_reads named room least t rest p f low stop =
    leads_read named room least _ t rest (record { tokens = refl; placed = p; fits = f; nesting = low; stop = stop })

abbrev SameFound : ExprTree → List Lexeme → ExprTree → List Lexeme → Type 0
SameFound u more t rest = let a : Found ExprTree = Some (u, more) in let b : Found ExprTree = Some (t, rest) in a ≡ b

inside_by : (least : ℕ) (u : ExprTree) (more : List Lexeme) (t : ExprTree) (rest : List Lexeme) (b : Bool) → stops least more ≡ b → cond {A = Found ExprTree} b (Some (u, more)) None ≡ Some (t, rest) → SameFound u more t rest × (stops least rest ≡ true)
inside_by least u more t rest false is e = absurd cc
inside_by least u more t rest true is e = (e, ap (λ (p : ExprTree × List Lexeme). stops least p.1) (sym (some_is (u, more) (t, rest) e)) ∙ is)

stopped_inside : (named : Span → Bool) (room least : ℕ) (ts : List Lexeme) (o : Found ExprTree) (t : ExprTree) (rest : List Lexeme) → o >>= if_stopped least ≡ Some (t, rest) → (o ≡ Some (t, rest)) × (stops least rest ≡ true)
stopped_inside named room least ts None t rest e = absurd cc
stopped_inside named room least ts (Some (u, more)) t rest e = inside_by least u more t rest (stops least more) refl e

-- what is read stands at the front, with a stop behind it, and no record of its nodes is set
pub stopped_sound : (named : Span → Bool) (room least : ℕ) (ts : List Lexeme) (t : ExprTree) (rest : List Lexeme) → least ≤ 17 → stopped_at named room least ts ≡ Some (t, rest)
    → Leads named room least ts t rest × (unlaid_expression t ≡ t)
unfolding stopped_at
stopped_sound named room least ts t rest wide e =
    let k = stopped_inside named room least ts (expression_at named room least ts) t rest e in
    let p = expression_sound named room least wide ts (t, rest) k.0 in
    let passes = passes_of named least t p.at p.well in (
      record { tokens = p.text ∙ sym (tokens-append t rest); placed = passes.0; fits = passes.1; nesting = p.low; stop = k.1 },
      found_unlaid named room least ts t rest wide k.0 (Ends-stops least rest k.1),
    )

none_by : (named : Span → Bool) (room least : ℕ) (ts : List Lexeme) → least ≤ 17 → ((t : ExprTree) (rest : List Lexeme) → Leads named room least ts t rest → ⊥) → (o : Found ExprTree) → stopped_at named room least ts ≡ o → stopped_at named room least ts ≡ None
none_by named room least ts wide h None e = e
none_by named room least ts wide h (Some (t, rest)) e = absurd (h t rest (stopped_sound named room least ts t rest wide e).0)

-- where nothing stands so, nothing is read
pub none_leads : (named : Span → Bool) (room least : ℕ) (ts : List Lexeme) → least ≤ 17 → ((t : ExprTree) (rest : List Lexeme) → Leads named room least ts t rest → ⊥) → stopped_at named room least ts ≡ None
none_leads named room least ts wide h = none_by named room least ts wide h (stopped_at named room least ts) refl

-- ---- what a reader of expressions says, once it was seen whether a stop follows

pub stopped_some : (named : Span → Bool) (room least : ℕ) (ts : List Lexeme) (t : ExprTree) (rest : List Lexeme) → expression_at named room least ts ≡ Some (t, rest) → stops least rest ≡ true → stopped_at named room least ts ≡ Some (t, rest)
unfolding stopped_at
stopped_some named room least ts t rest e s =
    ap (λ (o : Found ExprTree). o >>= if_stopped least) e ∙ ap (λ (b : Bool). cond b (Some (t, rest)) None) s

pub stopped_without : (named : Span → Bool) (room least : ℕ) (ts : List Lexeme) → expression_at named room least ts ≡ None → stopped_at named room least ts ≡ None
unfolding stopped_at
stopped_without named room least ts e = ap (λ (o : Found ExprTree). o >>= if_stopped least) e

pub stopped_by_more : (named : Span → Bool) (room least : ℕ) (ts : List Lexeme) (t : ExprTree) (rest : List Lexeme) → expression_at named room least ts ≡ Some (t, rest) → stops least rest ≡ false → stopped_at named room least ts ≡ None
unfolding stopped_at
stopped_by_more named room least ts t rest e s =
    ap (λ (o : Found ExprTree). o >>= if_stopped least) e ∙ ap (λ (b : Bool). cond b (Some (t, rest)) None) s

-- where nothing is read, nothing stands so
pub nothing_leads : (named : Span → Bool) (room least : ℕ) (ts : List Lexeme) → stopped_at named room least ts ≡ None → (t : ExprTree) (rest : List Lexeme) → Leads named room least ts t rest → ⊥
nothing_leads named room least ts e t rest h = let k = leads_read named room least ts t rest h in cc (sym e ∙ k)

-- ---- array parts: a `]` behind a size is a stop

sized_on : ExprTree × List Lexeme → Found DimensionTree
sized_on e = behind_right_bracket e.1 >>= λ rest. Some (s.sized e.0, rest)

stopped_size : (e : ExprTree × List Lexeme) (o : Option (List Lexeme)) → behind_right_bracket e.1 ≡ o → (if_stopped 3 e >>= sized_on) ≡ sized_on e
unfolding sized_on
stopped_size e None q = elim (stops 3 e.1) as (λ b. (cond b (Some e) None >>= sized_on) ≡ (behind_right_bracket e.1 >>= λ rest. Some (s.sized e.0, rest))) [ true ↦ refl | false ↦ rw q refl ]
stopped_size e (Some rest) q = rw (right_bracket_is e.1 rest q) refl

stopped_sizes : (o : Found ExprTree) → (o >>= if_stopped 3 >>= sized_on) ≡ (o >>= sized_on)
stopped_sizes None = refl
stopped_sizes (Some e) = stopped_size e (behind_right_bracket e.1) refl

dimension_stopped : (named : Span → Bool) (room : ℕ) (o : Option (List Lexeme)) (ts : List Lexeme) → dimension_at (stopped_at named room) o ts ≡ dimension_at (expression_at named room) o ts
unfolding stopped_at sized_on
dimension_stopped named room (Some rest) ts = refl
dimension_stopped named room None ts = stopped_sizes (expression_at named room 3 ts)

parts_on : (List Lexeme → Found DimensionTrees) → DimensionTree × List Lexeme → Found DimensionTrees
parts_on go_on x = go_on x.1 >>= λ xs. Some (s.then_dimension x.0 xs.0, xs.1)

same_parts : (f g : List Lexeme → Found DimensionTrees) → ((ts : List Lexeme) → f ts ≡ g ts) → (o : Found DimensionTree) → (o >>= parts_on f) ≡ (o >>= parts_on g)
unfolding parts_on
same_parts f g same None = refl
same_parts f g same (Some x) = ap (λ (p : Found DimensionTrees). p >>= λ xs. Some (s.then_dimension x.0 xs.0, xs.1)) (same x.1)

parts_stopped : (named : Span → Bool) (room : ℕ) (f g : List Lexeme → Found DimensionTrees) → ((ts : List Lexeme) → f ts ≡ g ts) → (o : Option (List Lexeme)) (ts : List Lexeme)
    → dimensions_on f (stopped_at named room) o ts ≡ dimensions_on g (expression_at named room) o ts
unfolding parts_on
parts_stopped named room f g same None ts = refl
parts_stopped named room f g same (Some inside) ts =
    ap (λ (o : Found DimensionTree). o >>= parts_on f) (dimension_stopped named room (behind_right_bracket inside) inside)
    ∙ same_parts f g same (dimension_at (expression_at named room) (behind_right_bracket inside) inside)

-- array parts are read alike, whether their sizes are to have a stop behind them or not
pub dimensions_stopped : (named : Span → Bool) (room f : ℕ) (ts : List Lexeme) → dimensions_at (stopped_at named room) f ts ≡ dimensions_at (expression_at named room) f ts
unfolding dimensions_at
dimensions_stopped named room zero ts = refl
dimensions_stopped named room (suc f) ts =
    parts_stopped named room (dimensions_at (stopped_at named room) f) (dimensions_at (expression_at named room) f) (λ more. dimensions_stopped named room f more) (behind_left_bracket ts) ts
