-- The turns of the readers' loops over rows, once for all rows.
use Rattle.std.proofs.Common.{◌≡◌, ℕ, zero, suc, ◌+◌, ◌-◌, ◌<◌, ◌≤◌, max, Bool, true, false, List, [], ◌∷◌, ◌++◌, length, map, Option, Some, None, refl, sym, ap, ◌∙◌, arith}
use Rattle.stk_tree.specs.declared.fixed.Lexeme.{Lexeme}
use Rattle.stk_tree.specs.Nesting.{designator_nesting, designators_nesting, parameter_nesting, parameters_nesting}
use Rattle.stk_tree.specs.Syntax.{DeclrTree, DeclrTrees, DesigTree, DesigTrees, DimensionTree, DimensionTrees, EnumrTree, EnumrTrees, ItemTree, ItemTrees, MemberTree, MemberTrees, ParamTree, ParamTrees, TailTree}
use Rattle.stk_tree.specs.Syntax as s
use Rattle.stk_tree.specs.View.{chained}
use Rattle.stk_grammar.specs.Reading.{◌>>=◌, Found, Sub, behind_comma, behind_left_bracket, behind_right_brace, behind_right_bracket, behind_right_paren, behind_semicolon, dimension_at, dimensions_at, dimensions_on}
use Rattle.stk_grammar.specs.DeclarationReading.{Reader, begins_designator, declarators_at, declarators_on, designators_at, designators_on, enumerators_at, enumerators_go, enumerators_on, items_at, items_from, items_go, items_on, members_at, members_on, more_declarators_at, more_ends, more_enumerators_at, more_items_at, more_members_at, more_parameters_at, parameters_at, parameters_go, parameters_on}
use Rattle.stk_expr.specs.declared.parse.Parse.{Parse}
use Rattle.stk_expr.specs.declared.parse.Parse.TheVariants as parse
use Rattle.stk_expr.specs.Fronts.{in_front}
use Rattle.stk_expr.specs.Gives.{Fails}
use Rattle.stk_decl.specs.declared.turns.Turn.{Turn}
use Rattle.stk_decl.specs.declared.turns.Turn.TheVariants.{End, More}
use Rattle.stk_decl.specs.Rows.{first_of, paired}
use Rattle.stk_decl.specs.Turns.{behind_comma_on, brace_on, brace_turn, declarator_on, declarator_turn, ended, parameter_on, parameter_turn}

-- what a row reads at a turn
abbrev pub turned : {X T : Type 0} → (X → T → T) → (Bool → T) → Reader X → Reader T → Found Turn → Found T
turned add last one go None = None
turned add last one go (Some (More, next)) = one next >>= λ x. go x.1 >>= λ xs. Some (add x.0 xs.0, xs.1)
turned add last one go (Some (End b, rest)) = Some (last b, rest)

-- a row of elements that one reader reads, and that goes on as its turns say
pub record IsRow {X T : Type 0} (add : X → T → T) (last : Bool → T) (one : Reader X) (turn : List Lexeme → Found Turn) (row : ℕ → Reader T) : Type 0 where
  pub none : (ts : List Lexeme) → row zero ts ≡ None
  pub step : (f : ℕ) (ts : List Lexeme) → row (suc f) ts ≡ turned add last one (row f) (turn ts)

-- ---- what was collected

chained-push : {X T : Type 0} (add : X → T → T) (none : T) (xs : List X) (x : X) → chained add none (xs ++ (x ∷ [])) ≡ chained add (add x none) xs
chained-push add none [] x = refl
chained-push add none (y ∷ ys) x = ap (add y) (chained-push add none ys x)

-- an element that a row goes on with
abbrev after : {X T : Type 0} → (X → T → T) → X → Found T → Found T
after add x r = r >>= λ ys. Some (add x ys.0, ys.1)

in_front-after : {X T : Type 0} (add : X → T → T) (xs : List X) (x : X) (r : Found T) → in_front add xs (after add x r) ≡ in_front add (xs ++ (x ∷ [])) r
in_front-after add xs x None = refl
in_front-after add xs x (Some y) = ap (λ z. Some (z, y.1)) (sym (chained-push add y.0 xs x))

in_front-one : {X T : Type 0} (add : X → T → T) (x : X) (r : Found T) → after add x r ≡ in_front add (x ∷ []) r
in_front-one add x None = refl
in_front-one add x (Some y) = refl

in_front-nothing : {X T : Type 0} (add : X → T → T) (r : Found T) → in_front add [] r ≡ r
in_front-nothing add None = refl
in_front-nothing add (Some y) = refl

chained-paired : {X T : Type 0} (add : X → T → T) (none : T) (b : Bool) (xs : List X) → chained (paired add) (none, b) xs ≡ (chained add none xs, b)
chained-paired add none b [] = refl
chained-paired add none b (x ∷ xs) = ap (paired add x) (chained-paired add none b xs)

-- ---- the turns of a loop that counts its turns: i of end

left : (end i : ℕ) → i < end → end - i ≡ suc (end - (i + 1))
left end i h = omega arith

none_left : (end i : ℕ) → end ≤ i → end - i ≡ zero
none_left end i h = omega arith

at_turn : {X T : Type 0} (add : X → T → T) (last : Bool → T) (one : Reader X) (turn : List Lexeme → Found Turn) (row : ℕ → Reader T) → IsRow add last one turn row
    → (end i : ℕ) (ts : List Lexeme) (o : Found Turn) → i < end → turn ts ≡ o → row (end - i) ts ≡ turned add last one (row (end - (i + 1))) o
at_turn add last one turn row is end i ts o within t =
    ap (λ n. row n ts) (left end i within) ∙ is.step (end - (i + 1)) ts ∙ ap (turned add last one (row (end - (i + 1)))) t

-- one more element
pub row_more : {X T : Type 0} (add : X → T → T) (last : Bool → T) (one : Reader X) (turn : List Lexeme → Found Turn) (row : ℕ → Reader T) → IsRow add last one turn row
    → (end i : ℕ) (xs : List X) (ts next rest : List Lexeme) (x : X) (total : Found T) → i < end → turn ts ≡ Some (More, next) → one next ≡ Some (x, rest)
    → in_front add xs (row (end - i) ts) ≡ total → in_front add (xs ++ (x ∷ [])) (row (end - (i + 1)) rest) ≡ total
row_more {X = X} add last one turn row is end i xs ts next rest x total within t by so_far =
    sym (in_front-after add xs x (row (end - (i + 1)) rest))
    ∙ ap (in_front add xs) (sym (at_turn add last one turn row is end i ts (Some (More, next)) within t
    ∙ ap (λ (o : Found X). o >>= λ x. row (end - (i + 1)) x.1 >>= λ xs. Some (add x.0 xs.0, xs.1)) by))
    ∙ so_far

-- an element that can't be read
pub row_fails : {X T : Type 0} (add : X → T → T) (last : Bool → T) (one : Reader X) (turn : List Lexeme → Found Turn) (row : ℕ → Reader T) → IsRow add last one turn row
    → (e : Parse) (end i : ℕ) (xs : List X) (ts next : List Lexeme) (total : Found T) → i < end → turn ts ≡ Some (More, next) → Fails e (one next)
    → in_front add xs (row (end - i) ts) ≡ total → Fails e total
row_fails add last one turn row is parse.NoMemory end i xs ts next total within t h so_far = tt
row_fails {X = X} add last one turn row is parse.NoTree end i xs ts next total within t h so_far =
    sym so_far ∙ ap (in_front add xs) (at_turn add last one turn row is end i ts (Some (More, next)) within t
    ∙ ap (λ (o : Found X). o >>= λ x. row (end - (i + 1)) x.1 >>= λ xs. Some (add x.0 xs.0, xs.1)) h)

-- tokens at which the row neither goes on nor ends
pub row_stops : {X T : Type 0} (add : X → T → T) (last : Bool → T) (one : Reader X) (turn : List Lexeme → Found Turn) (row : ℕ → Reader T) → IsRow add last one turn row
    → (end i : ℕ) (xs : List X) (ts : List Lexeme) (total : Found T) → i < end → turn ts ≡ None
    → in_front add xs (row (end - i) ts) ≡ total → total ≡ None
row_stops add last one turn row is end i xs ts total within t so_far =
    sym so_far ∙ ap (in_front add xs) (at_turn add last one turn row is end i ts None within t)

-- the end of the row
pub row_ends : {X T : Type 0} (add : X → T → T) (last : Bool → T) (one : Reader X) (turn : List Lexeme → Found Turn) (row : ℕ → Reader T) → IsRow add last one turn row
    → (end i : ℕ) (xs : List X) (ts rest : List Lexeme) (b : Bool) (total : Found T) → i < end → turn ts ≡ Some (End b, rest)
    → in_front add xs (row (end - i) ts) ≡ total → total ≡ Some (chained add (last b) xs, rest)
row_ends add last one turn row is end i xs ts rest b total within t so_far =
    sym so_far ∙ ap (in_front add xs) (at_turn add last one turn row is end i ts (Some (End b, rest)) within t)

-- the end of a row that says how it ended
pub row_ends-paired : {X T : Type 0} (add : X → T → T) (none : T) (one : Reader X) (turn : List Lexeme → Found Turn) (row : ℕ → Reader (T × Bool)) → IsRow (paired add) (λ b. (none, b)) one turn row
    → (end i : ℕ) (xs : List X) (ts rest : List Lexeme) (b : Bool) (total : Found (T × Bool)) → i < end → turn ts ≡ Some (End b, rest)
    → in_front (paired add) xs (row (end - i) ts) ≡ total → total ≡ Some ((chained add none xs, b), rest)
row_ends-paired add none one turn row is end i xs ts rest b total within t so_far =
    row_ends (paired add) (λ b. (none, b)) one turn row is end i xs ts rest b total within t so_far
    ∙ ap (λ z. Some (z, rest)) (chained-paired add none b xs)

-- no turn is left
pub row_spent : {X T : Type 0} (add : X → T → T) (last : Bool → T) (one : Reader X) (turn : List Lexeme → Found Turn) (row : ℕ → Reader T) → IsRow add last one turn row
    → (end i : ℕ) (xs : List X) (ts : List Lexeme) (total : Found T) → end ≤ i → in_front add xs (row (end - i) ts) ≡ total → total ≡ None
row_spent add last one turn row is end i xs ts total spent so_far =
    sym so_far ∙ ap (in_front add xs) (ap (λ n. row n ts) (none_left end i spent) ∙ is.none ts)

all_left : (n : ℕ) → n + 1 - 0 ≡ suc n
all_left n = omega arith

-- before the first turn: behind a first element, and with none
pub first_begins : {X T : Type 0} (add : X → T → T) (one : Reader X) (row : ℕ → Reader T) (ts rest : List Lexeme) (x : X) → one ts ≡ Some (x, rest)
    → in_front add (x ∷ []) (row (length rest + 1 - 0) rest) ≡ first_of add one row ts
first_begins {X = X} add one row ts rest x by =
    ap (λ n. in_front add (x ∷ []) (row n rest)) (all_left (length rest))
    ∙ sym (in_front-one add x (row (suc (length rest)) rest))
    ∙ sym (ap (λ (o : Found X). o >>= λ x. row (suc (length x.1)) x.1 >>= λ xs. Some (add x.0 xs.0, xs.1)) by)

pub first_fails : {X T : Type 0} (e : Parse) (add : X → T → T) (one : Reader X) (row : ℕ → Reader T) (ts : List Lexeme) → Fails e (one ts) → Fails e (first_of add one row ts)
first_fails parse.NoMemory add one row ts h = tt
first_fails {X = X} parse.NoTree add one row ts h = ap (λ (o : Found X). o >>= λ x. row (suc (length x.1)) x.1 >>= λ xs. Some (add x.0 xs.0, xs.1)) h

pub none_begins : {X T : Type 0} (add : X → T → T) (row : ℕ → Reader T) (ts : List Lexeme) → in_front add [] (row (length ts + 1 - 0) ts) ≡ row (suc (length ts)) ts
none_begins add row ts = in_front-nothing add (row (length ts + 1 - 0) ts) ∙ ap (λ n. row n ts) (all_left (length ts))

-- ---- the rows

ended_is : {X T : Type 0} (add : X → T → T) (last : Bool → T) (one : Reader X) (go : Reader T) (o : Option (List Lexeme)) → (o >>= λ rest. Some (last false, rest)) ≡ turned add last one go (ended o)
ended_is add last one go None = refl
ended_is add last one go (Some rest) = refl

declarators_step : (one : Reader DeclrTree) (go : Reader DeclrTrees) (o : Option (List Lexeme)) (ts : List Lexeme)
    → declarators_on go one o ts ≡ turned s.then_declarator (λ _. s.no_declarators) one go (declarator_on o ts)
declarators_step one go None ts = ended_is s.then_declarator (λ _. s.no_declarators) one go (behind_semicolon ts)
declarators_step one go (Some next) ts = refl

pub declarators_row : (one : Reader DeclrTree) → IsRow s.then_declarator (λ _. s.no_declarators) one declarator_turn (more_declarators_at one)
unfolding more_declarators_at
declarators_row one = record { none = λ ts. refl; step = λ f ts. declarators_step one (more_declarators_at one f) (behind_comma ts) ts }

items_go_step : (one : Reader ItemTree) (go : Reader (ItemTrees × Bool)) (o : Option (List Lexeme)) (next : List Lexeme)
    → items_go go one o next ≡ turned (paired s.then_item) (λ b. (s.no_items, b)) one go (behind_comma_on o next)
items_go_step one go None next = refl
items_go_step one go (Some rest) next = refl

items_step : (one : Reader ItemTree) (go : Reader (ItemTrees × Bool)) (o : Option (List Lexeme)) (ts : List Lexeme)
    → items_on go one o ts ≡ turned (paired s.then_item) (λ b. (s.no_items, b)) one go (brace_on o ts)
items_step one go None ts = ended_is (paired s.then_item) (λ b. (s.no_items, b)) one go (behind_right_brace ts)
items_step one go (Some next) ts = items_go_step one go (behind_right_brace next) next

pub items_row : (one : Reader ItemTree) → IsRow (paired s.then_item) (λ b. (s.no_items, b)) one brace_turn (more_items_at one)
unfolding more_items_at
items_row one = record { none = λ ts. refl; step = λ f ts. items_step one (more_items_at one f) (behind_comma ts) ts }

enumerators_go_step : (one : Reader EnumrTree) (go : Reader (EnumrTrees × Bool)) (o : Option (List Lexeme)) (next : List Lexeme)
    → enumerators_go go one o next ≡ turned (paired s.then_enumerator) (λ b. (s.no_enumerators, b)) one go (behind_comma_on o next)
enumerators_go_step one go None next = refl
enumerators_go_step one go (Some rest) next = refl

enumerators_step : (one : Reader EnumrTree) (go : Reader (EnumrTrees × Bool)) (o : Option (List Lexeme)) (ts : List Lexeme)
    → enumerators_on go one o ts ≡ turned (paired s.then_enumerator) (λ b. (s.no_enumerators, b)) one go (brace_on o ts)
enumerators_step one go None ts = ended_is (paired s.then_enumerator) (λ b. (s.no_enumerators, b)) one go (behind_right_brace ts)
enumerators_step one go (Some next) ts = enumerators_go_step one go (behind_right_brace next) next

pub enumerators_row : (one : Reader EnumrTree) → IsRow (paired s.then_enumerator) (λ b. (s.no_enumerators, b)) one brace_turn (more_enumerators_at one)
unfolding more_enumerators_at
enumerators_row one = record { none = λ ts. refl; step = λ f ts. enumerators_step one (more_enumerators_at one f) (behind_comma ts) ts }

parameters_go_step : (one : Reader ParamTree) (go : Reader (ParamTrees × Bool)) (o : Option (List Lexeme)) (next : List Lexeme)
    → parameters_go go one o next ≡ turned (paired s.then_parameter) (λ b. (s.no_parameters, b)) one go (behind_comma_on o next)
parameters_go_step one go None next = refl
parameters_go_step one go (Some rest) next = refl

parameters_step : (one : Reader ParamTree) (go : Reader (ParamTrees × Bool)) (o : Option (List Lexeme)) (ts : List Lexeme)
    → parameters_on go one o ts ≡ turned (paired s.then_parameter) (λ b. (s.no_parameters, b)) one go (parameter_on o ts)
parameters_step one go None ts = ended_is (paired s.then_parameter) (λ b. (s.no_parameters, b)) one go (behind_right_paren ts)
parameters_step one go (Some next) ts = parameters_go_step one go (more_ends next) next

pub parameters_row : (one : Reader ParamTree) → IsRow (paired s.then_parameter) (λ b. (s.no_parameters, b)) one parameter_turn (more_parameters_at one)
unfolding more_parameters_at
parameters_row one = record { none = λ ts. refl; step = λ f ts. parameters_step one (more_parameters_at one f) (behind_comma ts) ts }

-- the parameters as what follows a name
abbrev pub as_tail : (ParamTrees × Bool) × List Lexeme → Found TailTree
as_tail y = Some (s.with_parameters y.0.0 y.0.1, y.1)

abbrev first_tail : ParamTree → (ParamTrees × Bool) × List Lexeme → Found TailTree
first_tail x xs = Some (s.with_parameters (s.then_parameter x xs.0.0) xs.0.1, xs.1)

abbrev first_pair : ParamTree → (ParamTrees × Bool) × List Lexeme → Found (ParamTrees × Bool)
first_pair x xs = Some (paired s.then_parameter x xs.0, xs.1)

tail_of_row : (x : ParamTree) (r : Found (ParamTrees × Bool)) → r >>= first_tail x ≡ r >>= first_pair x >>= as_tail
tail_of_row x None = refl
tail_of_row x (Some xs) = refl

tail_of : (row : ℕ → Reader (ParamTrees × Bool)) (o : Found ParamTree)
    → o >>= (λ x. row (suc (length x.1)) x.1 >>= first_tail x.0) ≡ o >>= (λ x. row (suc (length x.1)) x.1 >>= first_pair x.0) >>= as_tail
tail_of row None = refl
tail_of row (Some x) = tail_of_row x.0 (row (suc (length x.1)) x.1)

pub parameters_tail : (one : Reader ParamTree) (ts : List Lexeme) → parameters_at one ts ≡ first_of (paired s.then_parameter) one (more_parameters_at one) ts >>= as_tail
unfolding parameters_at
parameters_tail one ts = tail_of (more_parameters_at one) (one ts)

-- the turns of members, of array parts and of designators, which always go on or end
abbrev member_on : Option (List Lexeme) → List Lexeme → Found Turn
member_on None ts = Some (More, ts)
member_on (Some rest) ts = Some (End false, rest)

abbrev pub member_turn : List Lexeme → Found Turn
member_turn ts = member_on (behind_right_brace ts) ts

members_step : (one : Reader MemberTree) (go : Reader MemberTrees) (o : Option (List Lexeme)) (ts : List Lexeme)
    → members_on go one o ts ≡ turned s.then_member (λ _. s.no_members) one go (member_on o ts)
members_step one go None ts = refl
members_step one go (Some rest) ts = refl

pub members_row : (one : Reader MemberTree) → IsRow s.then_member (λ _. s.no_members) one member_turn (more_members_at one)
unfolding more_members_at
members_row one = record { none = λ ts. refl; step = λ f ts. members_step one (more_members_at one f) (behind_right_brace ts) ts }

pub member_more : (ts : List Lexeme) → None ≡ behind_right_brace ts → member_turn ts ≡ Some (More, ts)
member_more ts e = ap (λ o. member_on o ts) (sym e)

pub member_end : (ts rest : List Lexeme) → Some rest ≡ behind_right_brace ts → member_turn ts ≡ Some (End false, rest)
member_end ts rest e = ap (λ o. member_on o ts) (sym e)

abbrev dimension_on : Option (List Lexeme) → List Lexeme → Found Turn
dimension_on None ts = Some (End false, ts)
dimension_on (Some inside) ts = Some (More, inside)

abbrev pub dimension_turn : List Lexeme → Found Turn
dimension_turn ts = dimension_on (behind_left_bracket ts) ts

abbrev pub one_dimension : Sub → Reader DimensionTree
one_dimension sub inside = dimension_at sub (behind_right_bracket inside) inside

dimensions_step : (sub : Sub) (go : Reader DimensionTrees) (o : Option (List Lexeme)) (ts : List Lexeme)
    → dimensions_on go sub o ts ≡ turned s.then_dimension (λ _. s.no_dimensions) (one_dimension sub) go (dimension_on o ts)
dimensions_step sub go None ts = refl
dimensions_step sub go (Some inside) ts = refl

pub dimensions_row : (sub : Sub) → IsRow s.then_dimension (λ _. s.no_dimensions) (one_dimension sub) dimension_turn (dimensions_at sub)
unfolding dimensions_at
dimensions_row sub = record { none = λ ts. refl; step = λ f ts. dimensions_step sub (dimensions_at sub f) (behind_left_bracket ts) ts }

pub dimension_more : (ts inside : List Lexeme) → Some inside ≡ behind_left_bracket ts → dimension_turn ts ≡ Some (More, inside)
dimension_more ts inside e = ap (λ o. dimension_on o ts) (sym e)

pub dimension_end : (ts : List Lexeme) → None ≡ behind_left_bracket ts → dimension_turn ts ≡ Some (End false, ts)
dimension_end ts e = ap (λ o. dimension_on o ts) (sym e)

abbrev designator_turn_on : Bool → List Lexeme → Found Turn
designator_turn_on false ts = Some (End false, ts)
designator_turn_on true ts = Some (More, ts)

abbrev pub designator_turn : List Lexeme → Found Turn
designator_turn ts = designator_turn_on (begins_designator ts) ts

designators_step : (one : Reader DesigTree) (go : Reader DesigTrees) (b : Bool) (ts : List Lexeme)
    → designators_on go one b ts ≡ turned s.then_designator (λ _. s.no_designators) one go (designator_turn_on b ts)
designators_step one go false ts = refl
designators_step one go true ts = refl

pub designators_row : (one : Reader DesigTree) → IsRow s.then_designator (λ _. s.no_designators) one designator_turn (designators_at one)
unfolding designators_at
designators_row one = record { none = λ ts. refl; step = λ f ts. designators_step one (designators_at one f) (begins_designator ts) ts }

pub designator_more : (ts : List Lexeme) → begins_designator ts ≡ true → designator_turn ts ≡ Some (More, ts)
designator_more ts e = ap (λ b. designator_turn_on b ts) e

pub designator_end : (ts : List Lexeme) → begins_designator ts ≡ false → designator_turn ts ≡ Some (End false, ts)
designator_end ts e = ap (λ b. designator_turn_on b ts) e

-- ---- the rows with their first elements

pub declarators_first : (one : Reader DeclrTree) (ts : List Lexeme) → declarators_at one ts ≡ first_of s.then_declarator one (more_declarators_at one) ts
unfolding declarators_at
declarators_first one ts = refl

pub enumerators_first : (one : Reader EnumrTree) (ts : List Lexeme) → enumerators_at one ts ≡ first_of (paired s.then_enumerator) one (more_enumerators_at one) ts
unfolding enumerators_at
enumerators_first one ts = refl

pub members_first : (one : Reader MemberTree) (ts : List Lexeme) → members_at one ts ≡ first_of s.then_member one (more_members_at one) ts
unfolding members_at
members_first one ts = refl

pub items_first : (one : Reader ItemTree) (ts : List Lexeme) → None ≡ behind_right_brace ts → items_at one ts ≡ first_of (paired s.then_item) one (more_items_at one) ts
unfolding items_at
items_first one ts e = ap (λ o. items_from one o ts) (sym e)

-- ---- what the code tells of a turn, and of what was pushed

pub turn_more : (t : Turn) (next : List Lexeme) (o : Found Turn) → Some (t, next) ≡ o → ((b : Bool) → t ≡ End b → ⊥) → o ≡ Some (More, next)
turn_more More next o e h = sym e
turn_more (End b) next o e h = absurd (h b refl)

pub turn_end : (t : Turn) (b : Bool) (next : List Lexeme) (o : Found Turn) → Some (t, next) ≡ o → t ≡ End b → o ≡ Some (End b, next)
turn_end t b next o e h = sym e ∙ ap (λ t. Some (t, next)) h

pub pushed_first : {A B : Type 0} (f : A → B) (items new : List A) (x : A) → items ≡ [] → new ≡ items ++ (x ∷ []) → map f new ≡ f x ∷ []
pushed_first f items new x e h = ap (map f) (h ∙ ap (λ xs. xs ++ (x ∷ [])) e)

-- ---- nestings of rows with one more element

pub parameters_nesting-push : (xs : List ParamTree) (x : ParamTree)
    → parameters_nesting (chained s.then_parameter s.no_parameters (xs ++ (x ∷ []))) ≡ max (parameters_nesting (chained s.then_parameter s.no_parameters xs)) (parameter_nesting x)
parameters_nesting-push [] x = omega arith
parameters_nesting-push (y ∷ ys) x = omega (arith, parameters_nesting-push ys x)

designators_nesting-push : (xs : List DesigTree) (x : DesigTree)
    → designators_nesting (chained s.then_designator s.no_designators (xs ++ (x ∷ []))) ≡ max (designators_nesting (chained s.then_designator s.no_designators xs)) (designator_nesting x + suc (length xs))
designators_nesting-push [] x = omega arith
designators_nesting-push (y ∷ ys) x = omega (arith, designators_nesting-push ys x)

length_map : {A B : Type 0} (f : A → B) (xs : List A) → length (map f xs) ≡ length xs
length_map f [] = refl
length_map f (x ∷ xs) = ap suc (length_map f xs)

pub designators_nesting-items : {A : Type 0} (f : A → DesigTree) (items : List A) (x : DesigTree)
    → designators_nesting (chained s.then_designator s.no_designators (map f items ++ (x ∷ []))) ≡ max (designators_nesting (chained s.then_designator s.no_designators (map f items))) (designator_nesting x + suc (length items))
designators_nesting-items f items x =
    designators_nesting-push (map f items) x ∙ ap (λ n. max (designators_nesting (chained s.then_designator s.no_designators (map f items))) (designator_nesting x + suc n)) (length_map f items)
