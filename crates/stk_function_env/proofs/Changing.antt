-- The list of changes has the changes of visits.
use Rattle.std.proofs.Common.{ℕ, ◌≡◌, ◌==◌, Bool, true, false, not, ◌&&◌, ◌||◌, List, [], ◌∷◌, ◌++◌, Option, Some, None, refl, sym, ap, ◌∙◌, eqb-true}
use Rattle.std.specs.Prelude.{if◌then◌else◌, filter}
use Rattle.stk_ctype.specs.Types.{TypeTree}
use Rattle.stk_tree.specs.Syntax.{ExprFormTree, MaybeInitTree, StmtFormTree}
use Rattle.stk_tree.specs.Syntax as s
use Rattle.stk_type_rules.specs.Types.{is_scalar}
use Rattle.stk_address_taken.specs.Sets.{is_listed}
use Rattle.stk_meaning.specs.Typings.{is_among}
use Rattle.stk_meaning.specs.Libraries.{Library, absolute_in, copy_bytes, called_library}
use Rattle.stk_meaning.specs.Places.{Setting, Target, in_register, in_kept, in_object, unnamed, target_at, target_of}
use Rattle.stk_meaning.specs.Visits.{Visit, at_expression, at_declarator, at_statement, at_section, Visits, no_visit, one_visit, both_visits, scope, unevaluated}
use Rattle.stk_meaning.specs.Changes.{Spot, register_spot, kept_spot, is_any_kept, is_own, stored_in, call_changes, form_changes, declarator_changes, initial_changes, visit_changes, changes}
use Rattle.stk_function_env.specs.declared.changes.Change.{Change}
use Rattle.stk_function_env.specs.declared.changes.Change.TheVariants as change
use Rattle.stk_function_env.specs.Changed.{changed_by, changed_by_any, target_changes, library_changes, form_change_list, declared_changes, initial_change_list, declarator_change_list, visit_change_list, is_own_change, outer_changes, change_list, registers_changed}
use Rattle.stk_function_env.proofs.Filters.{turned_eq, filter-same}

or-false : (b : Bool) → (b || false) ≡ b
or-false true = refl
or-false false = refl

and-false : (b : Bool) → false ≡ (b && false)
and-false true = refl
and-false false = refl

or-assoc : (a b c : Bool) → ((a || b) || c) ≡ (a || (b || c))
or-assoc true b c = refl
or-assoc false b c = refl

changed-append : (a b : List Change) (x : Spot) → changed_by_any (a ++ b) x ≡ (changed_by_any a x || changed_by_any b x)
changed-append [] b x = refl
changed-append (c ∷ a) b x = ap (λ v. changed_by c x || v) (changed-append a b x) ∙ sym (or-assoc (changed_by c x) (changed_by_any a x) (changed_by_any b x))

target-changed : (t : Target) (x : Spot) → changed_by_any (target_changes t) x ≡ stored_in t x
target-changed (in_register k) x = or-false _
target-changed (in_kept q) x = or-false _
target-changed (in_object k) x = refl
target-changed unnamed x = or-false _

library-changed : (l : Option Library) (x : Spot) → changed_by_any (library_changes l) x ≡ call_changes l x
library-changed None x = or-false _
library-changed (Some (absolute_in k)) x = refl
library-changed (Some copy_bytes) x = or-false _

form-changed : (g : Setting) (f : ExprFormTree) (x : Spot) → changed_by_any (form_change_list g f) x ≡ form_changes g f x
form-changed g (s.name at) x = refl
form-changed g (s.number at) x = refl
form-changed g (s.character at) x = refl
form-changed g (s.text parts) x = refl
form-changed g (s.paren e) x = refl
form-changed g (s.index a b) x = refl
form-changed g (s.call e es) x = library-changed (called_library g.typing e) x
form-changed g (s.dot e at) x = refl
form-changed g (s.arrow e at) x = refl
form-changed g (s.step op e) x = target-changed (target_of g e) x
form-changed g (s.unary op e) x = refl
form-changed g (s.size_expression e) x = refl
form-changed g (s.size_name t) x = refl
form-changed g (s.cast t e) x = refl
form-changed g (s.binary op a b) x = refl
form-changed g (s.choice a b c) x = refl
form-changed g (s.assign op a b) x = target-changed (target_of g a) x

declared-changed : (t : Target) (x : Spot) → changed_by_any (declared_changes t) x ≡ declarator_changes t x
declared-changed (in_register k) x = or-false _
declared-changed (in_kept q) x = or-false _
declared-changed (in_object k) x = refl
declared-changed unnamed x = refl

by_scalar : (b : Bool) (x : Spot) → changed_by_any (if b then [] else change.AnyKept ∷ []) x ≡ (not b && is_any_kept x)
by_scalar true x = refl
by_scalar false x = or-false _

initial-changed : (t : TypeTree) (i : MaybeInitTree) (x : Spot) → changed_by_any (initial_change_list t i) x ≡ initial_changes t i x
initial-changed t s.no_initialiser x = refl
initial-changed t (s.some_initialiser i) x = by_scalar (is_scalar t) x

declarator-changed : (g : Setting) (k : ℕ) (static : Bool) (i : MaybeInitTree) (x : Spot) → changed_by_any (declarator_change_list g k static i) x ≡ (declarator_changes (target_at g k) x || (not static && initial_changes (g.typing.type_at k) i x))
declarator-changed g k true i x = declared-changed (target_at g k) x ∙ sym (or-false _)
declarator-changed g k false i x =
    changed-append (declared_changes (target_at g k)) (initial_change_list (g.typing.type_at k) i) x ∙ ap (λ v. v || changed_by_any (initial_change_list (g.typing.type_at k) i) x) (declared-changed (target_at g k) x) ∙ ap (λ v. declarator_changes (target_at g k) x || v) (initial-changed (g.typing.type_at k) i x)

visit-changed : (g : Setting) (v : Visit) (x : Spot) → changed_by_any (visit_change_list g v) x ≡ visit_changes g v x
visit-changed g (at_expression k role f) x = form-changed g f x
visit-changed g (at_declarator k static at init) x = declarator-changed g k static init x
visit-changed g (at_statement k arm f) x = refl
visit-changed g (at_section k ls) x = refl

kept_back : (b : Bool) (c : Change) (r : List Change) (x : Spot) → changed_by_any (if b then r else c ∷ r) x ≡ ((not b && changed_by c x) || changed_by_any r x)
kept_back true c r x = refl
kept_back false c r x = refl

merged : (b o p q : Bool) → (p ≡ true → b ≡ o) → ((not b && p) || (not o && q)) ≡ (not o && (p || q))
merged true true true q h = refl
merged true false true q h = let e : true ≡ false = h refl in cc
merged false true true q h = let e : false ≡ true = h refl in cc
merged false false true q h = refl
merged true true false q h = refl
merged true false false q h = refl
merged false true false q h = refl
merged false false false q h = refl

own_alike : (ks : List ℕ) (c : Change) (x : Spot) → changed_by c x ≡ true → is_own_change ks c ≡ is_own ks x
own_alike ks (change.Register k) (register_spot j) e = ap (λ i. is_among i ks) (eqb-true k j e)
own_alike ks (change.Register k) (kept_spot q) e = cc
own_alike ks (change.Kept q) (register_spot j) e = cc
own_alike ks (change.Kept q) (kept_spot p) e = refl
own_alike ks change.AnyKept (register_spot j) e = cc
own_alike ks change.AnyKept (kept_spot p) e = refl

outer-changed : (ks : List ℕ) (cs : List Change) (x : Spot) → changed_by_any (outer_changes ks cs) x ≡ (not (is_own ks x) && changed_by_any cs x)
outer-changed ks [] x = and-false (not (is_own ks x))
outer-changed ks (c ∷ cs) x =
    kept_back (is_own_change ks c) c (outer_changes ks cs) x ∙ ap (λ v. (not (is_own_change ks c) && changed_by c x) || v) (outer-changed ks cs x) ∙ merged (is_own_change ks c) (is_own ks x) (changed_by c x) (changed_by_any cs x) (own_alike ks c x)

-- the list of what visits change has each change of theirs
pub changes-list : (g : Setting) (v : Visits) (x : Spot) → changed_by_any (change_list g v) x ≡ changes g v x
changes-list g no_visit x = refl
changes-list g (one_visit visit) x = visit-changed g visit x
changes-list g (both_visits a b) x =
    changed-append (change_list g a) (change_list g b) x ∙ ap (λ v. v || changed_by_any (change_list g b) x) (changes-list g a x) ∙ ap (λ v. changes g a x || v) (changes-list g b x)
changes-list g (scope ks a) x = outer-changed ks (change_list g a) x ∙ ap (λ v. not (is_own ks x) && v) (changes-list g a x)
changes-list g (unevaluated a) x = refl

registers-listed : (cs : List Change) (k : ℕ) → is_listed k (registers_changed cs) ≡ changed_by_any cs (register_spot k)
registers-listed [] k = refl
registers-listed (change.Register j ∷ cs) k = ap (λ v. v || is_listed k (registers_changed cs)) (turned_eq k j) ∙ ap (λ v. (j == k) || v) (registers-listed cs k)
registers-listed (change.Kept q ∷ cs) k = registers-listed cs k
registers-listed (change.AnyKept ∷ cs) k = registers-listed cs k

-- the registers that are changed, in order
pub filter-changed : (g : Setting) (v : Visits) (ks : List ℕ) → filter (λ k. is_listed k (registers_changed (change_list g v))) ks ≡ filter (λ k. changes g v (register_spot k)) ks
filter-changed g v ks = filter-same _ _ ks (λ k. registers-listed (change_list g v) k ∙ changes-list g v (register_spot k))

-- what is assigned, from the list of changes
pub assigned_from : (g : Setting) (v : Visits) (set registers : List ℕ) (list : List Change) → set ≡ registers_changed list → list ≡ change_list g v → registers ≡ g.registers → filter (λ k. is_listed k set) registers ≡ filter (λ k. changes g v (register_spot k)) g.registers
assigned_from g v set registers list es el er =
    ap (λ xs. filter (λ k. is_listed k xs) registers) (es ∙ ap registers_changed el) ∙ ap (λ ks. filter (λ k. is_listed k (registers_changed (change_list g v))) ks) er ∙ filter-changed g v g.registers
