-- Where all maps are tried and of two maps one comes first, a candidate has one finding.
use Rattle.std.proofs.Common.{◌≡◌, ◌≤◌, ◌⊎◌, inl, inr, true, List, [], ◌∷◌, ◌++◌, ℤ, refl, sym, ap, subst, ◌∙◌}
use Rattle.std.proofs.lemmas.Bool.{false≢true, le-leb}
use Rattle.stk_tree.specs.Syntax.{FunctionTree}
use Rattle.stk_numbers.specs.declared.conditions.Candidate.{Candidate}
use Rattle.stk_numbers.specs.declared.conditions.Condition.{Condition}
use Rattle.stk_numbers.specs.declared.conditions.Inputs.{Inputs}
use Rattle.stk_numbers.specs.declared.conditions.Kinds.{Kinds}
use Rattle.stk_meaning.specs.Typings.{Typing}
use Rattle.stk_meaning.specs.Keys.{keys_of, input_bits}
use Rattle.stk_meaning.specs.declared.finding.Finding.{Finding}
use Rattle.stk_meaning.specs.declared.finding.Finding.TheVariants.{Clear, Unstable, Undecided}
use Rattle.stk_meaning.specs.declared.finding.Need.{Need}
use Rattle.stk_meaning.specs.declared.finding.Phase.{Phase}
use Rattle.stk_meaning.specs.declared.finding.Phase.TheVariants.{Free, Hit}
use Rattle.stk_meaning.specs.Findings.{Subject, members, shown_need, NoAnswer, IsFirstAnswer, IsPrintedOf, IsPrinted, IsGivenUp, IsMinimal, no_more, member, open_member, no_member, IsLawfulPhase, IsLawful, AreLawful}
use Rattle.stk_meaning.specs.PathFindings.{function_subject}
use Rattle.stk_hits.specs.PathSubjects.{path_subject}
use Rattle.stk_finding_laws.proofs.Order.{order_of}

-- What a subject needs for a candidate to have one finding: all maps are tried, and of two maps one comes first, or
-- they are one. What suffices in executions doesn't matter.
pub record IsOrdered (q : Subject) : Type 0 where
  pub all : q.tries_all ≡ true
  pub total : (xs ys : List ℤ) → q.IsMap xs → q.IsMap ys → q.Before xs ys ⊎ (q.Before ys xs ⊎ (xs ≡ ys))

module _ (q : Subject) (o : IsOrdered q) (c : Candidate) where
  one_first : (set : List Condition) (a b : List ℤ) → IsFirstAnswer q c set a → IsFirstAnswer q c set b → a ≡ b
  one_first set a b h k = elim (o.total a b h.answers.valid k.answers.valid) [
    | inl before ↦ absurd (k.first a before h.answers)
    | inr other ↦ elim other [ inl after ↦ absurd (h.first b after k.answers) | inr same ↦ same ]
  ]

  -- what is printed is the first answer
  first_of_printed : (set : List Condition) (a : List ℤ) → IsPrinted q c set a → IsFirstAnswer q c set a
  first_of_printed set a p = subst (λ b. IsPrintedOf q c b set a) o.all p

  one_printed : (set : List Condition) (a b : List ℤ) → IsPrinted q c set a → IsPrinted q c set b → a ≡ b
  one_printed set a b h k = one_first set a b (first_of_printed set a h) (first_of_printed set b k)

  -- no query is given up
  none_given_up : (set : List Condition) → IsGivenUp q c set → ⊥
  none_given_up set g = false≢true (sym g.wide ∙ o.all)

  same_needs : (k : Condition) (a b : List ℤ) (ns ms : List Need) → a ≡ b → ns ≡ ms → (shown_need k a ∷ ns) ≡ (shown_need k b ∷ ms)
  same_needs k a b ns ms e e' = ap (λ (x : List ℤ). shown_need k x ∷ ns) e ∙ ap (λ (xs : List Need). shown_need k b ∷ xs) e'

  one_minimal : {below rest : List Condition} {ns ms : List Need} → IsMinimal q c below rest ns → IsMinimal q c below rest ms → ns ≡ ms
  one_minimal no_more no_more = refl
  one_minimal {below = below} (member {k = k} {start = a} {needs = ns} m shown) (member {start = b} {needs = ms} m' shown') =
      let same : ns ≡ ms = one_minimal m m' in
      same_needs k a b ns ms (one_printed (below ++ members ns) a b shown (subst (λ (xs : List Need). IsPrinted q c (below ++ members xs) b) (sym same) shown')) same
  one_minimal (member m shown) (open_member m' given) = absurd (none_given_up _ given)
  one_minimal {below = below} (member {start = a} {needs = ns} m shown) (no_member {needs = ms} m' none) =
      let same : ns ≡ ms = one_minimal m m' in
      absurd (subst (λ (xs : List Need). NoAnswer q c (below ++ members xs)) (sym same) none a (first_of_printed (below ++ members ns) a shown).answers)
  one_minimal (open_member m given) other = absurd (none_given_up _ given)
  one_minimal {below = below} (no_member {needs = ns} m none) (member {start = b} {needs = ms} m' shown') =
      let same : ns ≡ ms = one_minimal m m' in
      absurd (subst (λ (xs : List Need). NoAnswer q c (below ++ members xs)) same none b (first_of_printed (below ++ members ms) b shown').answers)
  one_minimal (no_member m none) (open_member m' given) = absurd (none_given_up _ given)
  one_minimal (no_member m none) (no_member m' none') = one_minimal m m'

  inputs_of : List ℤ → Inputs
  inputs_of xs = record { numbers = xs }

  same_report : (a b : Inputs) (ns ms : List Need) → a.numbers ≡ b.numbers → ns ≡ ms → ◌≡◌ {A = Finding} (Unstable a ns) (Unstable b ms)
  unfolding inputs_of
  same_report a b ns ms e e' =
      let inputs : a ≡ b = ap (λ (xs : List ℤ). inputs_of xs) e in
      ap (λ (x : Inputs). Unstable x ns) inputs ∙ ap (λ (xs : List Need). Unstable b xs) e'

  never_undecided : (x : Phase) → IsLawfulPhase q c x → ⊥
  never_undecided Free given = none_given_up q.conditions given
  never_undecided Hit undecided = none_given_up [] undecided.given_up

  pub one_finding : (x y : Finding) → IsLawful q c x → IsLawful q c y → x ≡ y
  one_finding Clear Clear h k = refl
  one_finding Clear (Unstable b ms) h k = absurd (h k.unstable)
  one_finding Clear (Undecided phase) h k = absurd (never_undecided phase k)
  one_finding (Unstable a ns) Clear h k = absurd (k h.unstable)
  one_finding (Unstable a ns) (Unstable b ms) h k = same_report a b ns ms (one_printed [] a.numbers b.numbers h.hit k.hit) (one_minimal h.minimal k.minimal)
  one_finding (Unstable a ns) (Undecided phase) h k = absurd (never_undecided phase k)
  one_finding (Undecided phase) y h k = absurd (never_undecided phase h)

-- the candidates of a list have one list of findings
pub one_findings : (q : Subject) → IsOrdered q → (cs : List Candidate) (xs ys : List Finding) → AreLawful q cs xs → AreLawful q cs ys → xs ≡ ys
one_findings q o [] [] [] h k = refl
one_findings q o [] [] (y ∷ ys) h k = absurd k
one_findings q o [] (x ∷ xs) ys h k = absurd h
one_findings q o (c ∷ cs) [] ys h k = absurd h
one_findings q o (c ∷ cs) (x ∷ xs) [] h k = absurd k
one_findings q o (c ∷ cs) (x ∷ xs) (y ∷ ys) h k =
    ap (λ (z : Finding). z ∷ xs) (one_finding q o c x y h.0 k.0) ∙ ap (λ (zs : List Finding). y ∷ zs) (one_findings q o cs xs ys h.1 k.1)

-- the path runs of a function: its valid maps are in range
pub path_ordered : (ty : Typing) (without : Kinds) (f : FunctionTree) → IsOrdered (path_subject ty without f)
path_ordered ty without f = record { all = refl; total = λ xs ys h k. order_of (keys_of ty without f) xs ys h.covers k.covers }

-- and the same with what suffices in executions, where all maps are tried
pub function_ordered : (ty : Typing) (without : Kinds) (f : FunctionTree) (spent : Candidate → List Condition → Type 0) → input_bits (keys_of ty without f) ≤ 16 → IsOrdered (function_subject ty without f spent)
function_ordered ty without f spent few = record {
  all = le-leb (input_bits (keys_of ty without f)) 16 few;
  total = λ xs ys h k. order_of (keys_of ty without f) xs ys h.covers k.covers;
}
