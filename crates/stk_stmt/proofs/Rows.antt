-- The turns of the readers' loops over rows, once for all rows.
use Rattle.std.proofs.Common.{◌≡◌, ℕ, zero, suc, ◌+◌, ◌-◌, ◌<◌, ◌≤◌, Bool, true, false, cond, List, [], ◌∷◌, ◌++◌, length, map, Option, Some, None, refl, sym, ap, ◌∙◌, arith}
use Rattle.stk_base.specs.declared.span.Span.{Span}
use Rattle.stk_tree.specs.declared.fixed.Lexeme.{Lexeme}
use Rattle.stk_tree.specs.Syntax.{LabelTree, LabelTrees, MaybeExprTree, PartTree, PartTrees, SectionTree, SectionTrees, StartTree, StmtTree, StmtTrees}
use Rattle.stk_tree.specs.Syntax as s
use Rattle.stk_tree.specs.View.{chained}
use Rattle.stk_grammar.specs.Reading.{◌>>=◌, Found, behind_left_paren, behind_right_brace}
use Rattle.stk_grammar.specs.DeclarationReading.{Reader}
use Rattle.stk_grammar.specs.StatementReading.{SectionReader, StatementReader, begins_label, closed_at, ended_at, ends_section, for_at, for_on, kind_at, label_at, labels_at, labels_on, made_statement, part_at, parts_at, parts_on, section_at, section_of, section_on, sections_at, sections_on, start_at, statement_at, statement_on, statements_at, statements_on}
use Rattle.stk_expr.specs.declared.parse.Parse.{Parse}
use Rattle.stk_expr.specs.declared.parse.Parse.TheVariants as parse
use Rattle.stk_expr.specs.Fronts.{in_front}
use Rattle.stk_expr.specs.Gives.{Fails}
use Rattle.stk_stmt.specs.Loops.{for_behind, for_parts_at, for_with}
use Rattle.stk_stmt.specs.Sections.{body_on, section_with, some_labels_at}

-- what a row reads at a turn: the end, where the tokens behind it are given, and else one more element
abbrev pub turned : {X T : Type 0} → (X → T → T) → T → Reader X → Reader T → Option (List Lexeme) → List Lexeme → Found T
turned add last one go (Some rest) ts = Some (last, rest)
turned add last one go None ts = one ts >>= λ x. go x.1 >>= λ xs. Some (add x.0 xs.0, xs.1)

-- a row of elements that one reader reads, and that ends where `ends` says so
pub record IsRow {X T : Type 0} (add : X → T → T) (last : T) (one : Reader X) (ends : List Lexeme → Option (List Lexeme)) (row : ℕ → Reader T) : Type 0 where
  pub none : (ts : List Lexeme) → row zero ts ≡ None
  pub step : (f : ℕ) (ts : List Lexeme) → row (suc f) ts ≡ turned add last one (row f) (ends ts) ts

-- ---- what was collected

chained-push : {X T : Type 0} (add : X → T → T) (none : T) (xs : List X) (x : X) → chained add none (xs ++ (x ∷ [])) ≡ chained add (add x none) xs
chained-push add none [] x = refl
chained-push add none (y ∷ ys) x = ap (add y) (chained-push add none ys x)

-- an element that a row goes on with
abbrev after : {X T : Type 0} → (X → T → T) → X → Found T → Found T
after add x r = r >>= λ ys. Some (add x ys.0, ys.1)

in_front-after : {X T : Type 0} (add : X → T → T) (xs : List X) (x : X) (r : Found T) → in_front add xs (after add x r) ≡ in_front add (xs ++ (x ∷ [])) r
in_front-after add xs x None = refl
in_front-after add xs x (Some y) = ap (λ z. Some (z, y.1)) (sym (chained-push add y.0 xs x))

in_front-one : {X T : Type 0} (add : X → T → T) (x : X) (r : Found T) → after add x r ≡ in_front add (x ∷ []) r
in_front-one add x None = refl
in_front-one add x (Some y) = refl

in_front-nothing : {X T : Type 0} (add : X → T → T) (r : Found T) → in_front add [] r ≡ r
in_front-nothing add None = refl
in_front-nothing add (Some y) = refl

-- ---- the turns of a loop that counts its turns: i of end

left : (end i : ℕ) → i < end → end - i ≡ suc (end - (i + 1))
left end i h = omega arith

none_left : (end i : ℕ) → end ≤ i → end - i ≡ zero
none_left end i h = omega arith

all_left : (n : ℕ) → n + 1 - 0 ≡ suc n
all_left n = omega arith

module _ {X T : Type 0} (add : X → T → T) (last : T) (one : Reader X) (ends : List Lexeme → Option (List Lexeme)) (row : ℕ → Reader T) (is : IsRow add last one ends row) (end i : ℕ) (xs : List X) (ts : List Lexeme) (total : Found T) where
  at_turn : (o : Option (List Lexeme)) → i < end → ends ts ≡ o → row (end - i) ts ≡ turned add last one (row (end - (i + 1))) o ts
  at_turn o within t =
      ap (λ n. row n ts) (left end i within) ∙ is.step (end - (i + 1)) ts ∙ ap (λ o. turned add last one (row (end - (i + 1))) o ts) t

  -- one more element
  pub row_more : (rest : List Lexeme) (x : X) → i < end → ends ts ≡ None → one ts ≡ Some (x, rest)
      → in_front add xs (row (end - i) ts) ≡ total → in_front add (xs ++ (x ∷ [])) (row (end - (i + 1)) rest) ≡ total
  row_more rest x within t by so_far =
      sym (in_front-after add xs x (row (end - (i + 1)) rest))
      ∙ ap (in_front add xs) (sym (at_turn None within t ∙ ap (λ (o : Found X). o >>= λ x. row (end - (i + 1)) x.1 >>= λ xs. Some (add x.0 xs.0, xs.1)) by))
      ∙ so_far

  -- an element that can't be read
  pub row_fails : (e : Parse) → i < end → ends ts ≡ None → Fails e (one ts) → in_front add xs (row (end - i) ts) ≡ total → Fails e total
  row_fails parse.NoMemory within t h so_far = tt
  row_fails parse.NoTree within t h so_far =
      sym so_far ∙ ap (in_front add xs) (at_turn None within t ∙ ap (λ (o : Found X). o >>= λ x. row (end - (i + 1)) x.1 >>= λ xs. Some (add x.0 xs.0, xs.1)) h)

  -- the end of the row
  pub row_ends : (rest : List Lexeme) → i < end → ends ts ≡ Some rest → in_front add xs (row (end - i) ts) ≡ total → total ≡ Some (chained add last xs, rest)
  row_ends rest within t so_far = sym so_far ∙ ap (in_front add xs) (at_turn (Some rest) within t)

  -- no turn is left
  pub row_spent : end ≤ i → in_front add xs (row (end - i) ts) ≡ total → total ≡ None
  row_spent spent so_far = sym so_far ∙ ap (in_front add xs) (ap (λ n. row n ts) (none_left end i spent) ∙ is.none ts)

-- before the first turn
pub none_begins : {X T : Type 0} (add : X → T → T) (row : ℕ → Reader T) (items : List X) (ts : List Lexeme) → items ≡ [] → in_front add items (row (length ts + 1 - 0) ts) ≡ row (suc (length ts)) ts
none_begins add row items ts e = ap (λ xs. in_front add xs (row (length ts + 1 - 0) ts)) e ∙ in_front-nothing add (row (length ts + 1 - 0) ts) ∙ ap (λ n. row n ts) (all_left (length ts))

pub map_none : {A B : Type 0} (f : A → B) (items : List A) → items ≡ [] → map f items ≡ []
map_none f items e = ap (map f) e

-- a row of the first element alone
pub map_one : {A B : Type 0} (f : A → B) (items new : List A) (x : A) → items ≡ [] → new ≡ items ++ (x ∷ []) → map f new ≡ f x ∷ []
map_one f items new x e d = ap (map f) (d ∙ ap (λ z. z ++ (x ∷ [])) e)

-- ---- labels

abbrev pub ends_labels : List Lexeme → Option (List Lexeme)
ends_labels ts = cond (begins_label ts) None (Some ts)

labels_step : (go : Reader LabelTrees) (named : Span → Bool) (inner : ℕ) (b : Bool) (ts : List Lexeme) → labels_on go named inner b ts ≡ turned s.then_label s.no_labels (label_at named inner) go (cond b None (Some ts)) ts
labels_step go named inner true ts = refl
labels_step go named inner false ts = refl

pub labels_row : (named : Span → Bool) (inner : ℕ) → IsRow s.then_label s.no_labels (label_at named inner) ends_labels (labels_at named inner)
unfolding labels_at
labels_row named inner = record { none = λ ts. refl; step = λ f ts. labels_step (labels_at named inner f) named inner (begins_label ts) ts }

pub labels_go : (ts : List Lexeme) → begins_label ts ≡ true → ends_labels ts ≡ None
labels_go ts e = ap (λ b. cond b None (Some ts)) e

pub labels_stop : (ts : List Lexeme) → begins_label ts ≡ false → ends_labels ts ≡ Some ts
labels_stop ts e = ap (λ b. cond b None (Some ts)) e

pub first_label : (named : Span → Bool) (inner : ℕ) (ts rest : List Lexeme) (x : LabelTree) → label_at named inner ts ≡ Some (x, rest)
    → in_front s.then_label (x ∷ []) (labels_at named inner (length rest + 1 - 0) rest) ≡ some_labels_at named inner ts
first_label named inner ts rest x by =
    ap (λ n. in_front s.then_label (x ∷ []) (labels_at named inner n rest)) (all_left (length rest))
    ∙ sym (in_front-one s.then_label x (labels_at named inner (suc (length rest)) rest))
    ∙ sym (ap (λ (o : Found LabelTree). o >>= λ x. labels_at named inner (suc (length x.1)) x.1 >>= λ xs. Some (s.then_label x.0 xs.0, xs.1)) by)

-- ---- parts, statements and sections

parts_step : (go : Reader PartTrees) (named : Span → Bool) (inner : ℕ) (sub : StatementReader) (o : Option (List Lexeme)) (ts : List Lexeme) → parts_on go named inner sub o ts ≡ turned s.then_part s.no_parts (part_at named inner sub) go o ts
parts_step go named inner sub (Some rest) ts = refl
parts_step go named inner sub None ts = refl

pub parts_row : (named : Span → Bool) (inner : ℕ) (sub : StatementReader) → IsRow s.then_part s.no_parts (part_at named inner sub) behind_right_brace (parts_at named inner sub)
unfolding parts_at
parts_row named inner sub = record { none = λ ts. refl; step = λ f ts. parts_step (parts_at named inner sub f) named inner sub (behind_right_brace ts) ts }

sections_step : (go : Reader SectionTrees) (section : SectionReader) (o : Option (List Lexeme)) (ts : List Lexeme) → sections_on go section o ts ≡ turned s.then_section s.no_sections section go o ts
sections_step go section (Some rest) ts = refl
sections_step go section None ts = refl

pub sections_row : (section : SectionReader) → IsRow s.then_section s.no_sections section behind_right_brace (sections_at section)
unfolding sections_at
sections_row section = record { none = λ ts. refl; step = λ f ts. sections_step (sections_at section f) section (behind_right_brace ts) ts }

abbrev pub ends_statements : List Lexeme → Option (List Lexeme)
ends_statements ts = cond (ends_section ts) (Some ts) None

statements_step : (go : Reader StmtTrees) (sub : StatementReader) (b : Bool) (ts : List Lexeme) → statements_on go sub b ts ≡ turned s.then_statement s.no_statements sub go (cond b (Some ts) None) ts
statements_step go sub true ts = refl
statements_step go sub false ts = refl

pub statements_row : (sub : StatementReader) → IsRow s.then_statement s.no_statements sub ends_statements (statements_at sub)
unfolding statements_at
statements_row sub = record { none = λ ts. refl; step = λ f ts. statements_step (statements_at sub f) sub (ends_section ts) ts }

pub statements_go : (ts : List Lexeme) → ends_section ts ≡ false → ends_statements ts ≡ None
statements_go ts e = ap (λ b. cond b (Some ts) None) e

pub statements_stop : (ts : List Lexeme) → ends_section ts ≡ true → ends_statements ts ≡ Some ts
statements_stop ts e = ap (λ b. cond b (Some ts) None) e

-- ---- a section, and a statement

section_first : (sub : StatementReader) (l : LabelTree) (o : Found LabelTrees) → (o >>= λ ls. section_on sub l ls.0 ls.1) ≡ ((o >>= λ ls. Some (s.then_label l ls.0, ls.1)) >>= body_on sub)
section_first sub l None = refl
section_first sub l (Some ls) = refl

section_parts : (sub : StatementReader) (o : Found LabelTree) (go : LabelTree × List Lexeme → Found LabelTrees)
    → (o >>= λ l. go l >>= λ ls. section_on sub l.0 ls.0 ls.1) ≡ ((o >>= λ l. go l >>= λ ls. Some (s.then_label l.0 ls.0, ls.1)) >>= body_on sub)
section_parts sub None go = refl
section_parts sub (Some l) go = section_first sub l.0 (go l)

section_is : (named : Span → Bool) (inner : ℕ) (sub : StatementReader) (ts : List Lexeme) → section_of named inner sub ts ≡ section_with named inner sub ts
unfolding section_of
section_is named inner sub ts = section_parts sub (label_at named inner ts) (λ l. labels_at named inner (suc (length l.1)) l.1)

less_one : (n : ℕ) → suc n - 1 ≡ n
less_one n = omega arith

pub section_in : (named : Span → Bool) (room : ℕ) (ts : List Lexeme) → (room ≡ 0 → ⊥) → section_at named room ts ≡ section_with named (room - 1) (statement_at named (room - 1)) ts
unfolding section_at
section_in named zero ts some = absurd (some refl)
section_in named (suc inner) ts some = section_is named inner (statement_at named inner) ts ∙ ap (λ n. section_with named n (statement_at named n) ts) (sym (less_one inner))

pub statement_in : (named : Span → Bool) (room : ℕ) (ts : List Lexeme) → (room ≡ 0 → ⊥) → statement_at named room ts ≡ statement_on named (room - 1) (statement_at named (room - 1)) (section_at named (room - 1)) (kind_at ts) ts
unfolding statement_at
statement_in named zero ts some = absurd (some refl)
statement_in named (suc inner) ts some = ap (λ n. statement_on named n (statement_at named n) (section_at named n) (kind_at ts) ts) (sym (less_one inner))

pub no_statement_in : (named : Span → Bool) (room : ℕ) (ts : List Lexeme) → room ≡ 0 → statement_at named room ts ≡ None
unfolding statement_at
no_statement_in named zero ts none = refl
no_statement_in named (suc inner) ts none = absurd cc

pub no_section_in : (named : Span → Bool) (room : ℕ) (ts : List Lexeme) → room ≡ 0 → section_at named room ts ≡ None
unfolding section_at
no_section_in named zero ts none = refl
no_section_in named (suc inner) ts none = absurd cc

-- ---- a `for`

for_body : (first : StartTree) (test step : MaybeExprTree) (o : Found StmtTree) → (o >>= λ x. Some (made_statement (s.for_statement first test step x.0), x.1)) ≡ ((o >>= λ x. Some ((test, step, x.0), x.1)) >>= for_behind first)
for_body first test step None = refl
for_body first test step (Some x) = refl

for_step : (sub : StatementReader) (first : StartTree) (test : MaybeExprTree) (o : Found MaybeExprTree)
    → (o >>= λ step. sub step.1 >>= λ x. Some (made_statement (s.for_statement first test step.0 x.0), x.1)) ≡ ((o >>= λ step. sub step.1 >>= λ x. Some ((test, step.0, x.0), x.1)) >>= for_behind first)
for_step sub first test None = refl
for_step sub first test (Some step) = for_body first test step.0 (sub step.1)

for_test : (step : Reader MaybeExprTree) (sub : StatementReader) (first : StartTree) (o : Found MaybeExprTree)
    → (o >>= λ test. step test.1 >>= λ step. sub step.1 >>= λ x. Some (made_statement (s.for_statement first test.0 step.0 x.0), x.1)) ≡ ((o >>= λ test. step test.1 >>= λ step. sub step.1 >>= λ x. Some ((test.0, step.0, x.0), x.1)) >>= for_behind first)
for_test step sub first None = refl
for_test step sub first (Some test) = for_step sub first test.0 (step test.1)

for_rest : (named : Span → Bool) (inner : ℕ) (sub : StatementReader) (first : StartTree) (ts : List Lexeme) → for_on named inner sub first ts ≡ (for_parts_at named inner sub ts >>= for_behind first)
unfolding for_on
for_rest named inner sub first ts = for_test (closed_at named inner) sub first (ended_at named inner ts)

for_start : (named : Span → Bool) (inner : ℕ) (sub : StatementReader) (o : Found StartTree) → (o >>= λ first. for_on named inner sub first.0 first.1) ≡ (o >>= λ first. for_parts_at named inner sub first.1 >>= for_behind first.0)
for_start named inner sub None = refl
for_start named inner sub (Some first) = for_rest named inner sub first.0 first.1

for_inside : (named : Span → Bool) (inner : ℕ) (sub : StatementReader) (o : Option (List Lexeme))
    → (o >>= λ inside. start_at named inner inside >>= λ first. for_on named inner sub first.0 first.1) ≡ (o >>= λ inside. start_at named inner inside >>= λ first. for_parts_at named inner sub first.1 >>= for_behind first.0)
for_inside named inner sub None = refl
for_inside named inner sub (Some inside) = for_start named inner sub (start_at named inner inside)

pub for_is : (named : Span → Bool) (inner : ℕ) (sub : StatementReader) (ts : List Lexeme) → for_at named inner sub ts ≡ for_with named inner sub ts
unfolding for_at
for_is named inner sub ts = for_inside named inner sub (behind_left_paren ts)
