-- How often all registers count in a function.
use Rattle.std.proofs.Common.{ℕ, suc, ◌≡◌, ◌+◌, ◌*◌, ◌≤◌, Bool, true, false, if◌then◌else◌, List, [], ◌∷◌, length, refl, sym, ap, ◌∙◌, arith, append-nil}
use Rattle.std.specs.Prelude.{filter}
use Rattle.stk_tree.specs.Syntax.{StmtFormTree, FunctionTree}
use Rattle.stk_tree.specs.Syntax as s
use Rattle.stk_address_taken.specs.Sets.{is_listed}
use Rattle.stk_meaning.specs.Places.{Setting}
use Rattle.stk_meaning.specs.Visits.{Visit, at_expression, at_declarator, at_statement, at_section, Visits, no_visit, one_visit, both_visits, scope, unevaluated, head_visits, statement_form_visits}
use Rattle.stk_meaning.specs.Keys.{body_of, function_visits}
use Rattle.stk_meaning.specs.Weights.{assigned_under}
use Rattle.stk_weights.specs.Events.{Stand, assigned_in, statement_events, is_branching, one_where, passed, visit_counts, counts}
use Rattle.stk_weights.specs.Counting.{begun, passed_sum, total}
use Rattle.stk_weights.specs.Loads.{visit_load, load}
use Rattle.stk_weights.proofs.Passing.{gained_by}
use Rattle.stk_weights.proofs.Uncounted.{head_none}
use Rattle.stk_weights.proofs.Assigned.{assigned_counted}
use Rattle.stk_weights.proofs.Trees.{statement_is}

-- ---- one register
nothing_gained : (b : Bool) → gained_by b 0 0 ≡ 0
nothing_gained true = omega arith
nothing_gained false = refl

counted_once : (n m k : ℕ) → m ≡ 0 → k ≡ 0 → 0 + n + m ≡ k + n
counted_once n m k e f = omega (arith, e, f)

-- a walk over the body of a function counts what its visits count
passed_is : (g : Setting) (f : FunctionTree) (r : ℕ) → passed_sum (statement_events g (body_of f)) r ≡ counts g r (function_visits g.typing f)
passed_is g (s.function word specifiers d body) r =
    let es = statement_events g body in
    let h = statement_is g r false body in
    ap (λ all. (passed r all begun).sum) (sym (append-nil es)) ∙ ap (λ (x : Stand). x.sum) (h.by [] 0 0 0 (omega arith)) ∙ counted_once _ _ (counts g r (head_visits g.typing d)) (nothing_gained _) (head_none g r g.typing d)

-- ---- all registers
pub total_alike : (f g : ℕ → ℕ) (rs : List ℕ) → ((r : ℕ) → f r ≡ g r) → total f rs ≡ total g rs
total_alike f g [] h = refl
total_alike f g (r ∷ rs) h = omega (arith, h r, total_alike f g rs h)

pub all_passed_are : (g : Setting) (f : FunctionTree) (rs : List ℕ) → total (passed_sum (statement_events g (body_of f))) rs ≡ total (λ r. counts g r (function_visits g.typing f)) rs
all_passed_are g f rs = total_alike (passed_sum (statement_events g (body_of f))) (λ r. counts g r (function_visits g.typing f)) rs (passed_is g f)

pub total_none : (rs : List ℕ) → total (λ r. 0) rs ≡ 0
total_none [] = refl
total_none (r ∷ rs) = omega (arith, total_none rs)

pub total_both : (f g : ℕ → ℕ) (rs : List ℕ) → total (λ r. f r + g r) rs ≡ total f rs + total g rs
total_both f g [] = omega arith
total_both f g (r ∷ rs) = omega (arith, total_both f g rs)

one_filtered : (p : ℕ → Bool) (r n : ℕ) (rs : List ℕ) (b : Bool) → p r ≡ b → n ≡ length (filter p rs) → one_where (p r) + n ≡ length (filter p (r ∷ rs))
one_filtered p r n rs true e h = rw e (omega (arith, h))
one_filtered p r n rs false e h = rw e (omega (arith, h))

total_where : (p : ℕ → Bool) (rs : List ℕ) → total (λ r. one_where (p r)) rs ≡ length (filter p rs)
total_where p [] = refl
total_where p (r ∷ rs) = one_filtered p r (total (λ r. one_where (p r)) rs) rs (p r) refl (total_where p rs)

-- a branch or a loop counts once for each register that is assigned in it
pub branch_total : (g : Setting) (f : StmtFormTree) → total (λ r. one_where (is_listed r (assigned_in g (statement_form_visits g.typing f)))) g.registers ≡ assigned_under g f
branch_total g f =
    let ks = assigned_in g (statement_form_visits g.typing f) in
    total_where (λ r. is_listed r ks) g.registers ∙ assigned_counted g f ks g.registers (length (filter (λ k. is_listed k ks) g.registers)) refl refl refl

-- ---- bounds
one_few : (b : Bool) → one_where b ≤ 1
one_few true = omega arith
one_few false = omega arith

if_few : (b c : Bool) → (if b then one_where c else 0) ≤ 1
if_few true c = one_few c
if_few false c = omega arith

visit_few : (g : Setting) (r : ℕ) (x : Visit) → visit_counts g r x ≤ visit_load x
visit_few g r (at_expression k role f) = omega arith
visit_few g r (at_declarator k static at init) = omega arith
visit_few g r (at_statement k arm f) = if_few (is_branching f) (is_listed r (assigned_in g (statement_form_visits g.typing f)))
visit_few g r (at_section k ls) = omega arith

counts_few : (g : Setting) (r : ℕ) (v : Visits) → counts g r v ≤ load v
counts_few g r no_visit = omega arith
counts_few g r (one_visit x) = visit_few g r x
counts_few g r (both_visits a b) = omega (arith, counts_few g r a, counts_few g r b)
counts_few g r (scope ks a) = counts_few g r a
counts_few g r (unevaluated a) = counts_few g r a

more_times : (n x : ℕ) → suc n * x ≡ n * x + x
more_times n x = grind arith

pub total_few : (f : ℕ → ℕ) (n : ℕ) (rs : List ℕ) → ((r : ℕ) → f r ≤ n) → total f rs ≤ length rs * n
total_few f n [] h = omega arith
total_few f n (r ∷ rs) h = omega (arith, h r, total_few f n rs h, more_times (length rs) n)

pub all_few : (g : Setting) (v : Visits) → total (λ r. counts g r v) g.registers ≤ length g.registers * load v
all_few g v = total_few (λ r. counts g r v) (load v) g.registers (λ r. counts_few g r v)
