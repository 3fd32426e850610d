-- Findings of a function whose maps are all tried: they are lawful where queries may be given up too, and have no mark.
use Rattle.std.proofs.Common.{◌≡◌, ℕ, ◌≤◌, true, List, [], Result, Ok, Err, IfOk, refl, sym, ◌∙◌, arith}
use Rattle.std.proofs.lemmas.Bool.{false≢true, le-leb}
use Rattle.stk_tree.specs.Syntax.{FunctionTree}
use Rattle.stk_numbers.specs.declared.conditions.Candidate.{Candidate}
use Rattle.stk_numbers.specs.declared.conditions.Condition.{Condition}
use Rattle.stk_numbers.specs.declared.conditions.Kinds.{Kinds}
use Rattle.stk_meaning.specs.Typings.{Typing}
use Rattle.stk_meaning.specs.Keys.{keys_of, input_bits}
use Rattle.stk_meaning.specs.declared.finding.Finding.{Finding}
use Rattle.stk_meaning.specs.declared.finding.Finding.TheVariants.{Clear, Unstable, Undecided}
use Rattle.stk_meaning.specs.declared.finding.Need.{Need}
use Rattle.stk_meaning.specs.declared.finding.Phase.TheVariants.{Free, Hit}
use Rattle.stk_meaning.specs.Findings.{Subject, IsGivenUp, IsMinimal, no_more, member, open_member, no_member, IsLawful}
use Rattle.stk_hits.specs.PathSubjects.{path_subject}
use Rattle.stk_hits.proofs.Agreeing.{Agrees, lawful}
use Rattle.stk_spent_queries.specs.Marks.{open_count, marks}
use Rattle.stk_findings.specs.Searched.{searched_subject}

-- ---- lawful

module _ (ty : Typing) (without : Kinds) (f : FunctionTree) (budget : ℕ) (few : input_bits (keys_of ty without f) ≤ 16) where
  agrees : Agrees (path_subject ty without f) (searched_subject ty without f budget)
  agrees = record {
    maps = λ xs v. v;
    back = λ xs v. v;
    before = λ xs ys q p b. b;
    run = λ xs v. refl;
    conditions = refl;
    all = sym (le-leb (input_bits (keys_of ty without f)) 16 few);
    spent = λ c set h. absurd h;
  }

  pub narrow_finding : (c : Candidate) (x : Finding) → IsLawful (path_subject ty without f) c x → IsLawful (searched_subject ty without f budget) c x
  narrow_finding c x h = lawful (path_subject ty without f) (searched_subject ty without f budget) agrees c (λ set u never. tt) x h

-- ---- no mark

module _ (q : Subject) (all : q.tries_all ≡ true) where
  none_given_up : (c : Candidate) (set : List Condition) → IsGivenUp q c set → ⊥
  none_given_up c set g = false≢true (sym g.wide ∙ all)

  none_open : (c : Candidate) {below rest : List Condition} {needs : List Need} → IsMinimal q c below rest needs → open_count needs ≡ 0
  none_open c no_more = refl
  none_open c (member m start) = omega (arith, none_open c m)
  none_open c (open_member m g) = absurd (none_given_up c _ g)
  none_open c (no_member m never) = none_open c m

  pub none_marked : (c : Candidate) (x : Finding) → IsLawful q c x → marks x ≡ 0
  none_marked c Clear h = refl
  none_marked c (Unstable start needs) h = none_open c h.minimal
  none_marked c (Undecided Free) h = absurd (none_given_up c q.conditions h)
  none_marked c (Undecided Hit) h = absurd (none_given_up c [] h.given_up)

-- what is known of a value is known of it otherwise
pub weaker : {A E : Type 0} (r : Result A E) (P Q : A → Type 0) → ((x : A) → P x → Q x) → IfOk r P → IfOk r Q
weaker (Ok x) P Q k h = k x h
weaker (Err e) P Q k h = tt
