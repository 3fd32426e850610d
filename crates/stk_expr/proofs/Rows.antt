-- The turns of the readers' loops over suffixes, array parts and arguments.
use Rattle.std.proofs.Common.{◌≡◌, ℕ, zero, suc, ◌+◌, ◌<◌, ◌≤◌, max, Bool, List, [], ◌∷◌, ◌++◌, length, map, Option, Some, None, refl, sym, ap, subst, ◌∙◌, arith}
use Rattle.std.proofs.lemmas.Bool.{le-leb, lt-leb}
use Rattle.stk_base.specs.declared.span.Span.{Span}
use Rattle.stk_tree.specs.declared.fixed.Lexeme.{Lexeme}
use Rattle.stk_tree.specs.Nesting.{dimension_nesting, dimensions_nesting, expression_nesting, expressions_nesting}
use Rattle.stk_tree.specs.Syntax.{DimensionTree, DimensionTrees, ExprTree, ExprTrees}
use Rattle.stk_tree.specs.Syntax as s
use Rattle.stk_tree.specs.View.{chained}
use Rattle.stk_grammar.specs.declared.tables.Suffix.{Suffix}
use Rattle.stk_grammar.specs.Reading.{◌>>=◌, Found, Sub, level, taken, tail_at, climb_on, climb, behind_comma, behind_left_bracket, behind_right_bracket, behind_right_paren, dimension_at, dimensions_on, dimensions_at, arguments_on, more_arguments, arguments_from, arguments, expression_at}
use Rattle.stk_grammar.proofs.Operators.{bind_some, some_is}
use Rattle.stk_grammar.proofs.Prints.{prints_longer}
use Rattle.stk_grammar.proofs.Sound.{comma_is, expression_sound, left_bracket_is, right_bracket_is}
use Rattle.stk_expr.specs.declared.parse.Parse.{Parse}
use Rattle.stk_expr.specs.declared.parse.Parse.TheVariants as parse
use Rattle.stk_expr.specs.Gives.{Fails}
use Rattle.stk_expr.specs.Fronts.{in_front}

-- ---- failures

pub Fails_along : {A : Type 0} (e : Parse) (o p : Option A) → o ≡ p → Fails e o → Fails e p
Fails_along parse.NoMemory o p q h = tt
Fails_along parse.NoTree o p q h = sym q ∙ h

-- what is read is no longer than what stood there
pub rest_within : (named : Span → Bool) (room least : ℕ) (ts : List Lexeme) (t : ExprTree) (rest : List Lexeme) → least ≤ 17 → expression_at named room least ts ≡ Some (t, rest) → length rest ≤ length ts
rest_within named room least ts t rest wide e =
    let p = expression_sound named room least wide ts (t, rest) e in
    omega (arith, prints_longer t rest, ap length p.text)

-- ---- suffixes

on_too_high : (go_on : ExprTree → List Lexeme → Found ExprTree) (sub : Sub) (inner : ℕ) (a : ExprTree) (ts : List Lexeme) (x : Suffix × List Lexeme) → inner < expression_nesting a → climb_on go_on sub inner a ts (Some x) ≡ None
on_too_high go_on sub inner a ts x h = rw (lt-leb (expression_nesting a) inner h) refl

on_next : (go_on : ExprTree → List Lexeme → Found ExprTree) (sub : Sub) (inner : ℕ) (a : ExprTree) (ts : List Lexeme) (x : Suffix × List Lexeme) → expression_nesting a ≤ inner → climb_on go_on sub inner a ts (Some x) ≡ (tail_at sub x.0 a x.1 >>= λ b. go_on b.0 b.1)
on_next go_on sub inner a ts x h = rw (le-leb (expression_nesting a) inner h) refl

pub too_high : (sub : Sub) (inner least f at : ℕ) (a : ExprTree) (ts : List Lexeme) (x : Suffix × List Lexeme) → at ≡ level a → Some x ≡ taken least at ts → inner < expression_nesting a → climb sub inner least f a ts ≡ None
unfolding climb
too_high sub inner least zero at a ts x l e h = refl
too_high sub inner least (suc f) at a ts x l e h =
    ap (climb_on (climb sub inner least f) sub inner a ts) (ap (λ n. taken least n ts) (sym l) ∙ sym e)
    ∙ on_too_high (climb sub inner least f) sub inner a ts x h

goes_on : (sub : Sub) (inner least f at : ℕ) (a : ExprTree) (ts : List Lexeme) (x : Suffix × List Lexeme) → at ≡ level a → Some x ≡ taken least at ts → expression_nesting a ≤ inner
    → climb sub inner least (suc f) a ts ≡ (tail_at sub x.0 a x.1 >>= λ b. climb sub inner least f b.0 b.1)
unfolding climb
goes_on sub inner least f at a ts x l e h =
    ap (climb_on (climb sub inner least f) sub inner a ts) (ap (λ n. taken least n ts) (sym l) ∙ sym e)
    ∙ on_next (climb sub inner least f) sub inner a ts x h

pub fails_in : (e : Parse) (sub : Sub) (inner least f at : ℕ) (a : ExprTree) (ts : List Lexeme) (x : Suffix × List Lexeme) → at ≡ level a → Some x ≡ taken least at ts → expression_nesting a ≤ inner
    → Fails e (tail_at sub x.0 a x.1) → Fails e (climb sub inner least f a ts)
unfolding climb
fails_in parse.NoMemory sub inner least f at a ts x l e h k = tt
fails_in parse.NoTree sub inner least zero at a ts x l e h k = refl
fails_in parse.NoTree sub inner least (suc f) at a ts x l e h k =
    goes_on sub inner least f at a ts x l e h ∙ ap (λ o. o >>= λ b. climb sub inner least f b.0 b.1) k

pub ends : (sub : Sub) (inner least f at : ℕ) (a : ExprTree) (ts : List Lexeme) → 0 < f → at ≡ level a → None ≡ taken least at ts → climb sub inner least f a ts ≡ Some (a, ts)
unfolding climb
ends sub inner least zero at a ts much l e = absurd (omega arith)
ends sub inner least (suc f) at a ts much l e = ap (climb_on (climb sub inner least f) sub inner a ts) (ap (λ n. taken least n ts) (sym l) ∙ sym e)

-- one more turn, which has a number of turns less
pub turn : (sub : Sub) (inner least f at : ℕ) (a : ExprTree) (ts : List Lexeme) (x : Suffix × List Lexeme) (b : ExprTree) (rest : List Lexeme) (total : Found ExprTree)
    → at ≡ level a → Some x ≡ taken least at ts → expression_nesting a ≤ inner → expression_nesting a < expression_nesting b → tail_at sub x.0 a x.1 ≡ Some (b, rest)
    → suc inner < f + expression_nesting a → climb sub inner least f a ts ≡ total
    → (g : ℕ) × (suc inner < g + expression_nesting b) × (climb sub inner least g b rest ≡ total)
turn sub inner least zero at a ts x b rest total l e h higher by much so_far = absurd (omega arith)
turn sub inner least (suc f) at a ts x b rest total l e h higher by much so_far =
    (f, omega arith, sym (goes_on sub inner least f at a ts x l e h ∙ ap (λ o. o >>= λ c. climb sub inner least f c.0 c.1) by) ∙ so_far)

-- ---- rows

chained-push : {X T : Type 0} (add : X → T → T) (none : T) (xs : List X) (x : X) → chained add none (xs ++ (x ∷ [])) ≡ chained add (add x none) xs
chained-push add none [] x = refl
chained-push add none (y ∷ ys) x = ap (add y) (chained-push add none ys x)

-- an element that a row goes on with
abbrev after : {X T : Type 0} → (X → T → T) → X → Found T → Found T
after add x r = r >>= λ ys. Some (add x ys.0, ys.1)

in_front-after : {X T : Type 0} (add : X → T → T) (xs : List X) (x : X) (r : Found T) → in_front add xs (after add x r) ≡ in_front add (xs ++ (x ∷ [])) r
in_front-after add xs x None = refl
in_front-after add xs x (Some y) = ap (λ z. Some (z, y.1)) (sym (chained-push add y.0 xs x))

in_front-one : {X T : Type 0} (add : X → T → T) (x : X) (r : Found T) → after add x r ≡ in_front add (x ∷ []) r
in_front-one add x None = refl
in_front-one add x (Some y) = refl

in_front-none : {X T : Type 0} (add : X → T → T) (xs : List X) → in_front add xs None ≡ None
in_front-none add xs = refl

in_front-nothing : {X T : Type 0} (add : X → T → T) (r : Found T) → in_front add [] r ≡ r
in_front-nothing add None = refl
in_front-nothing add (Some y) = refl

-- ---- array parts

parts_next : (sub : Sub) (f : ℕ) (ts inside : List Lexeme) (x : DimensionTree) (rest : List Lexeme) → Some inside ≡ behind_left_bracket ts → dimension_at sub (behind_right_bracket inside) inside ≡ Some (x, rest)
    → dimensions_at sub (suc f) ts ≡ after s.then_dimension x (dimensions_at sub f rest)
unfolding dimensions_at
parts_next sub f ts inside x rest c by =
    ap (λ o. dimensions_on (dimensions_at sub f) sub o ts) (sym c)
    ∙ ap (λ o. o >>= λ x. dimensions_at sub f x.1 >>= λ xs. Some (s.then_dimension x.0 xs.0, xs.1)) by

pub parts_begin : (sub : Sub) (ts : List Lexeme) → (f : ℕ) × (length ts < f) × (in_front s.then_dimension [] (dimensions_at sub f ts) ≡ dimensions_at sub (suc (length ts)) ts)
parts_begin sub ts = (suc (length ts), omega arith, in_front-nothing s.then_dimension (dimensions_at sub (suc (length ts)) ts))

pub parts_turn : (sub : Sub) (f : ℕ) (xs : List DimensionTree) (ts inside : List Lexeme) (x : DimensionTree) (rest : List Lexeme) (total : Found DimensionTrees)
    → Some inside ≡ behind_left_bracket ts → dimension_at sub (behind_right_bracket inside) inside ≡ Some (x, rest) → length rest < length ts → length ts < f
    → in_front s.then_dimension xs (dimensions_at sub f ts) ≡ total
    → (g : ℕ) × (length rest < g) × (in_front s.then_dimension (xs ++ (x ∷ [])) (dimensions_at sub g rest) ≡ total)
parts_turn sub zero xs ts inside x rest total c by shorter much so_far = absurd (omega arith)
parts_turn sub (suc f) xs ts inside x rest total c by shorter much so_far = (
  f,
  omega arith,
  sym (in_front-after s.then_dimension xs x (dimensions_at sub f rest)) ∙ ap (in_front s.then_dimension xs) (sym (parts_next sub f ts inside x rest c by)) ∙ so_far,
)

parts_none : (sub : Sub) (f : ℕ) (ts inside : List Lexeme) → Some inside ≡ behind_left_bracket ts → dimension_at sub (behind_right_bracket inside) inside ≡ None → dimensions_at sub f ts ≡ None
unfolding dimensions_at
parts_none sub zero ts inside c h = refl
parts_none sub (suc f) ts inside c h =
    ap (λ o. dimensions_on (dimensions_at sub f) sub o ts) (sym c)
    ∙ ap (λ o. o >>= λ x. dimensions_at sub f x.1 >>= λ xs. Some (s.then_dimension x.0 xs.0, xs.1)) h

pub parts_fail : (e : Parse) (sub : Sub) (f : ℕ) (xs : List DimensionTree) (ts inside : List Lexeme) → Some inside ≡ behind_left_bracket ts → Fails e (dimension_at sub (behind_right_bracket inside) inside)
    → Fails e (in_front s.then_dimension xs (dimensions_at sub f ts))
parts_fail parse.NoMemory sub f xs ts inside c h = tt
parts_fail parse.NoTree sub f xs ts inside c h = ap (in_front s.then_dimension xs) (parts_none sub f ts inside c h)

parts_end : (sub : Sub) (f : ℕ) (ts : List Lexeme) → 0 < f → None ≡ behind_left_bracket ts → dimensions_at sub f ts ≡ Some (s.no_dimensions, ts)
unfolding dimensions_at
parts_end sub zero ts much c = absurd (omega arith)
parts_end sub (suc f) ts much c = ap (λ o. dimensions_on (dimensions_at sub f) sub o ts) (sym c)

pub parts_done : (sub : Sub) (f : ℕ) (xs : List DimensionTree) (ts : List Lexeme) (total : Found DimensionTrees) → 0 < f → None ≡ behind_left_bracket ts → in_front s.then_dimension xs (dimensions_at sub f ts) ≡ total
    → total ≡ Some (chained s.then_dimension s.no_dimensions xs, ts)
parts_done sub f xs ts total much c so_far = sym so_far ∙ ap (in_front s.then_dimension xs) (parts_end sub f ts much c)

pub bracket_shorter : (ts inside : List Lexeme) → Some inside ≡ behind_left_bracket ts → length ts ≡ suc (length inside)
bracket_shorter ts inside e = ap length (left_bracket_is ts inside (sym e))

pub closed_shorter : (ts rest : List Lexeme) → Some rest ≡ behind_right_bracket ts → length ts ≡ suc (length rest)
closed_shorter ts rest e = ap length (right_bracket_is ts rest (sym e))

-- the nesting of a row of array parts with one more behind it
pub parts_nesting-push : (xs : List DimensionTree) (x : DimensionTree)
    → dimensions_nesting (chained s.then_dimension s.no_dimensions (xs ++ (x ∷ []))) ≡ max (dimensions_nesting (chained s.then_dimension s.no_dimensions xs)) (dimension_nesting x + suc (length xs))
parts_nesting-push [] x = omega arith
parts_nesting-push (y ∷ ys) x = omega (arith, parts_nesting-push ys x)

-- ---- arguments

more_next : (sub : Sub) (f : ℕ) (ts behind : List Lexeme) (e : ExprTree) (rest : List Lexeme) → Some behind ≡ behind_comma ts → sub 2 behind ≡ Some (e, rest)
    → more_arguments sub (suc f) ts ≡ after s.then_expression e (more_arguments sub f rest)
unfolding more_arguments
more_next sub f ts behind e rest c by =
    ap (λ o. arguments_on (more_arguments sub f) sub o ts) (sym c)
    ∙ ap (λ o. o >>= λ e. more_arguments sub f e.1 >>= λ es. Some (s.then_expression e.0 es.0, es.1)) by

pub more_begin : (sub : Sub) (ts : List Lexeme) (e : ExprTree) (rest : List Lexeme) → None ≡ behind_right_paren ts → sub 2 ts ≡ Some (e, rest)
    → (f : ℕ) × (length rest < f) × (in_front s.then_expression (e ∷ []) (more_arguments sub f rest) ≡ arguments sub ts)
unfolding arguments
more_begin sub ts e rest none by = (
  suc (length rest),
  omega arith,
  sym (ap (λ o. arguments_from sub o ts) (sym none)
      ∙ ap (λ o. o >>= λ e. more_arguments sub (suc (length e.1)) e.1 >>= λ es. Some (s.then_expression e.0 es.0, es.1)) by
      ∙ in_front-one s.then_expression e (more_arguments sub (suc (length rest)) rest)),
)

pub first_fails : (e : Parse) (sub : Sub) (ts : List Lexeme) → None ≡ behind_right_paren ts → Fails e (sub 2 ts) → Fails e (arguments sub ts)
unfolding arguments
first_fails parse.NoMemory sub ts none h = tt
first_fails parse.NoTree sub ts none h =
    ap (λ o. arguments_from sub o ts) (sym none)
    ∙ ap (λ o. o >>= λ e. more_arguments sub (suc (length e.1)) e.1 >>= λ es. Some (s.then_expression e.0 es.0, es.1)) h

pub more_turn : (sub : Sub) (f : ℕ) (xs : List ExprTree) (ts behind : List Lexeme) (e : ExprTree) (rest : List Lexeme) (total : Found ExprTrees)
    → Some behind ≡ behind_comma ts → sub 2 behind ≡ Some (e, rest) → length rest < length ts → length ts < f
    → in_front s.then_expression xs (more_arguments sub f ts) ≡ total
    → (g : ℕ) × (length rest < g) × (in_front s.then_expression (xs ++ (e ∷ [])) (more_arguments sub g rest) ≡ total)
more_turn sub zero xs ts behind e rest total c by shorter much so_far = absurd (omega arith)
more_turn sub (suc f) xs ts behind e rest total c by shorter much so_far = (
  f,
  omega arith,
  sym (in_front-after s.then_expression xs e (more_arguments sub f rest)) ∙ ap (in_front s.then_expression xs) (sym (more_next sub f ts behind e rest c by)) ∙ so_far,
)

more_none : (sub : Sub) (f : ℕ) (ts behind : List Lexeme) → Some behind ≡ behind_comma ts → sub 2 behind ≡ None → more_arguments sub f ts ≡ None
unfolding more_arguments
more_none sub zero ts behind c h = refl
more_none sub (suc f) ts behind c h =
    ap (λ o. arguments_on (more_arguments sub f) sub o ts) (sym c)
    ∙ ap (λ o. o >>= λ e. more_arguments sub f e.1 >>= λ es. Some (s.then_expression e.0 es.0, es.1)) h

pub more_fail : (e : Parse) (sub : Sub) (f : ℕ) (xs : List ExprTree) (ts behind : List Lexeme) → Some behind ≡ behind_comma ts → Fails e (sub 2 behind)
    → Fails e (in_front s.then_expression xs (more_arguments sub f ts))
more_fail parse.NoMemory sub f xs ts behind c h = tt
more_fail parse.NoTree sub f xs ts behind c h = ap (in_front s.then_expression xs) (more_none sub f ts behind c h)

more_end : (sub : Sub) (f : ℕ) (ts : List Lexeme) → 0 < f → None ≡ behind_comma ts → more_arguments sub f ts ≡ (behind_right_paren ts >>= λ rest. Some (s.no_expressions, rest))
unfolding more_arguments
more_end sub zero ts much c = absurd (omega arith)
more_end sub (suc f) ts much c = ap (λ o. arguments_on (more_arguments sub f) sub o ts) (sym c)

pub more_done : (sub : Sub) (f : ℕ) (xs : List ExprTree) (ts : List Lexeme) (o : Option (List Lexeme)) (total : Found ExprTrees) → 0 < f → None ≡ behind_comma ts → o ≡ behind_right_paren ts
    → in_front s.then_expression xs (more_arguments sub f ts) ≡ total
    → total ≡ in_front s.then_expression xs (o >>= λ rest. Some (s.no_expressions, rest))
more_done sub f xs ts o total much c close so_far =
    sym so_far ∙ ap (in_front s.then_expression xs) (more_end sub f ts much c ∙ ap (λ o. o >>= λ rest. Some (s.no_expressions, rest)) (sym close))

pub comma_shorter : (ts rest : List Lexeme) → Some rest ≡ behind_comma ts → length ts ≡ suc (length rest)
comma_shorter ts rest e = ap length (comma_is ts rest (sym e))

-- the nesting of a row of arguments with one more behind it
pub more_nesting-push : (xs : List ExprTree) (x : ExprTree)
    → expressions_nesting (chained s.then_expression s.no_expressions (xs ++ (x ∷ []))) ≡ max (expressions_nesting (chained s.then_expression s.no_expressions xs)) (expression_nesting x)
more_nesting-push [] x = omega arith
more_nesting-push (y ∷ ys) x = omega (arith, more_nesting-push ys x)

-- ---- what was collected

map_append : {A B : Type 0} (f : A → B) (xs : List A) (x : A) → map f (xs ++ (x ∷ [])) ≡ map f xs ++ (f x ∷ [])
map_append f [] x = refl
map_append f (y ∷ ys) x = ap (λ zs. f y ∷ zs) (map_append f ys x)

pub map_push : {A B : Type 0} (f : A → B) (items new : List A) (x y : A) → new ≡ items ++ (y ∷ []) → y ≡ x → map f new ≡ map f items ++ (f x ∷ [])
map_push f items new x y e d = ap (map f) (e ∙ ap (λ z. items ++ (z ∷ [])) d) ∙ map_append f items x

length_map : {A B : Type 0} (f : A → B) (xs : List A) → length (map f xs) ≡ length xs
length_map f [] = refl
length_map f (x ∷ xs) = ap suc (length_map f xs)

-- the nesting of array parts with one more behind them, by how many they were
pub parts_nesting-items : {A : Type 0} (f : A → DimensionTree) (items : List A) (x : DimensionTree)
    → dimensions_nesting (chained s.then_dimension s.no_dimensions (map f items ++ (x ∷ []))) ≡ max (dimensions_nesting (chained s.then_dimension s.no_dimensions (map f items))) (dimension_nesting x + suc (length items))
parts_nesting-items f items x = parts_nesting-push (map f items) x ∙ ap (λ n. max (dimensions_nesting (chained s.then_dimension s.no_dimensions (map f items))) (dimension_nesting x + suc n)) (length_map f items)

-- an array part takes a token or more
part_on : (named : Span → Bool) (inner : ℕ) (inside : List Lexeme) (o : Option (List Lexeme)) (x : DimensionTree × List Lexeme) → behind_right_bracket inside ≡ o → dimension_at (expression_at named inner) o inside ≡ Some x
    → length x.1 < length inside
part_on named inner inside (Some rest) x is e =
    subst (λ (y : DimensionTree × List Lexeme). length y.1 < length inside) (some_is (s.open_dimension, rest) x e) (omega (arith, closed_shorter inside rest (sym is)))
part_on named inner inside None x is e =
    let a = bind_some (expression_at named inner 3 inside) _ x e in
    let b = bind_some (behind_right_bracket a.0.1) _ x a.2 in
    let w = rest_within named inner 3 inside a.0.0 a.0.1 (omega arith) a.1 in
    subst (λ (y : DimensionTree × List Lexeme). length y.1 < length inside) (some_is (s.sized a.0.0, b.0) x b.2) (omega (arith, closed_shorter a.0.1 b.0 (sym b.1)))

pub part_shorter : (named : Span → Bool) (inner : ℕ) (inside : List Lexeme) (x : DimensionTree) (rest : List Lexeme) → dimension_at (expression_at named inner) (behind_right_bracket inside) inside ≡ Some (x, rest)
    → length rest < length inside
part_shorter named inner inside x rest e = part_on named inner inside (behind_right_bracket inside) (x, rest) refl e

size_push : {A : Type 0} (items : List A) (y : A) → length (items ++ (y ∷ [])) ≡ suc (length items)
size_push [] y = refl
size_push (x ∷ xs) y = ap suc (size_push xs y)

pub pushed_size : {A : Type 0} (items new : List A) (y : A) → new ≡ items ++ (y ∷ []) → length new ≡ suc (length items)
pushed_size items new y e = ap length e ∙ size_push items y

pub none_of_fails : {A : Type 0} (e : Parse) (o : Option A) → e ≡ parse.NoTree → Fails e o → o ≡ None
none_of_fails parse.NoMemory o is h = absurd cc
none_of_fails parse.NoTree o is h = h
