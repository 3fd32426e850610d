-- What is known of a function as its claims are written.
use Rattle.std.proofs.Common.{◌≡◌, ℕ, ◌<◌, Bool, true, List, length, get_or, Some, Result, Ok, Err, sym, subst, ◌∙◌}
use Rattle.std.specs.Prelude.{slice_get, nat_eq, OnErr}
use Rattle.std.proofs.lemmas.Bool.{eqb-true}
use Rattle.std.proofs.lemmas.Option.{slice_get-get_or}
use Rattle.stk_tree.specs.Syntax.{FunctionTree}
use Rattle.stk_numbers.specs.declared.conditions.Candidate.{Candidate}
use Rattle.stk_numbers.specs.declared.conditions.Kinds.{Kinds}
use Rattle.stk_meaning.specs.Typings.{Typing}
use Rattle.stk_meaning.specs.Lists.{candidates}
use Rattle.stk_meaning.specs.declared.finding.Finding.{Finding}
use Rattle.stk_meaning.specs.declared.finding.Finding.TheVariants.{Clear, Unstable, Undecided}
use Rattle.stk_meaning.specs.Findings.{IsLawful}
use Rattle.stk_findings.specs.Wide.{AskedFunction, IsPlaced}
use Rattle.stk_findings.specs.Searched.{searched_subject}
use Rattle.stk_claims.specs.Closing.{IsSure}

-- a candidate stands at its place in the list of all
pub is_placed : (a : AskedFunction) (cs : List Candidate) (i : ℕ) (d : Candidate) → cs ≡ candidates a.typing a.tree → i < length cs → IsPlaced a i (get_or cs i d)
is_placed a cs i d same within = subst (λ (xs : List Candidate). slice_get xs i ≡ Some (get_or cs i d)) same (slice_get-get_or cs i d within)

-- no map answers the query of the set of a lawful report
pub is_sure : (ty : Typing) (without : Kinds) (f : FunctionTree) (budget : ℕ) (c : Candidate) (x : Finding) → IsLawful (searched_subject ty without f budget) c x → IsSure ty without f c x
is_sure ty without f budget c Clear h = tt
is_sure ty without f budget c (Unstable start needs) h = λ m a. h.path_sufficient m (record { valid = a.valid; hits = a.hits })
is_sure ty without f budget c (Undecided phase) h = tt

pub on_err : {T E : Type 0} (r : Result T E) (W : Type 0) → W → OnErr r W
on_err (Ok x) W w = tt
on_err (Err e) W w = w

-- whether there is a candidate
pub no_candidate : (cs : List Candidate) (b : Bool) → b ≡ nat_eq (length cs) 0 → b ≡ true → length cs ≡ 0
no_candidate cs b is told = eqb-true (length cs) 0 (sym is ∙ told)
