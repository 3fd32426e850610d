-- The registers that are assigned in a statement.
use Rattle.std.proofs.Common.{ℕ, ◌≡◌, ◌==◌, ◌||◌, List, [], ◌∷◌, ◌++◌, length, refl, sym, ap, ◌∙◌}
use Rattle.std.specs.Prelude.{filter}
use Rattle.std.specs.List.{list_any}
use Rattle.stk_tree.specs.Syntax.{StmtFormTree}
use Rattle.stk_address_taken.specs.Sets.{is_listed}
use Rattle.stk_meaning.specs.Places.{Setting, Target, in_register, in_kept, in_object, unnamed}
use Rattle.stk_meaning.specs.Visits.{Visits, no_visit, one_visit, both_visits, scope, unevaluated, collected, statement_form_visits}
use Rattle.stk_meaning.specs.Weights.{is_register_target, visit_assigns, assigned_under}
use Rattle.stk_function_env.proofs.Filters.{filter-same}
use Rattle.stk_weights.specs.MarkedVisit.{registers_among, registers_assigned}

among-append : (a b : List Target) → registers_among (a ++ b) ≡ registers_among a ++ registers_among b
among-append [] b = refl
among-append (in_register k ∷ a) b = ap (λ xs. k ∷ xs) (among-append a b)
among-append (in_kept q ∷ a) b = among-append a b
among-append (in_object o ∷ a) b = among-append a b
among-append (unnamed ∷ a) b = among-append a b

collected-registers : (g : Setting) (v : Visits) → collected (registers_assigned g) v ≡ registers_among (collected (visit_assigns g) v)
collected-registers g no_visit = refl
collected-registers g (one_visit x) = refl
collected-registers g (both_visits a b) =
    ap (λ xs. xs ++ collected (registers_assigned g) b) (collected-registers g a) ∙ ap (λ xs. registers_among (collected (visit_assigns g) a) ++ xs) (collected-registers g b) ∙ sym (among-append (collected (visit_assigns g) a) (collected (visit_assigns g) b))
collected-registers g (scope ks a) = collected-registers g a
collected-registers g (unevaluated a) = refl

listed-any : (k : ℕ) (ts : List Target) → is_listed k (registers_among ts) ≡ list_any (is_register_target k) ts
listed-any k [] = refl
listed-any k (in_register i ∷ ts) = ap (λ b. k == i || b) (listed-any k ts)
listed-any k (in_kept q ∷ ts) = listed-any k ts
listed-any k (in_object o ∷ ts) = listed-any k ts
listed-any k (unnamed ∷ ts) = listed-any k ts

-- how many registers are in the set of those that are assigned
pub assigned_counted : (g : Setting) (f : StmtFormTree) (set registers : List ℕ) (count : ℕ) → set ≡ collected (registers_assigned g) (statement_form_visits g.typing f) → registers ≡ g.registers → count ≡ length (filter (λ k. is_listed k set) registers) → count ≡ assigned_under g f
assigned_counted g f set registers count es er ec =
    let targets = collected (visit_assigns g) (statement_form_visits g.typing f) in
    ec
    ∙ ap (λ xs. length (filter (λ k. is_listed k xs) registers)) (es ∙ collected-registers g (statement_form_visits g.typing f))
    ∙ ap (λ ks. length (filter (λ k. is_listed k (registers_among targets)) ks)) er
    ∙ ap (length {A = ℕ}) (filter-same (λ k. is_listed k (registers_among targets)) (λ k. list_any (is_register_target k) targets) g.registers (λ k. listed-any k targets))
