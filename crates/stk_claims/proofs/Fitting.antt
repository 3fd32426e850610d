-- The texts of a proof of a claim can be written.
use Rattle.std.proofs.Common.{ℕ, ◌+◌, ◌*◌, ◌/◌, ◌^◌, ◌<◌, ◌≤◌, List, [], ◌∷◌, ◌++◌, length, length-append, take, get_or, arith}
use Rattle.std.specs.List.{All, Contains}
use Rattle.std.proofs.lemmas.List.{length-map, length-take-le}
use Rattle.std.proofs.lemmas.List.Elements.{All-head, All-tail, All-nil, All-cons, All-weaker, All-from_get_or}
use Rattle.stk_tree.specs.Syntax.{FunctionTree}
use Rattle.stk_numbers.specs.declared.conditions.Candidate.{Candidate}
use Rattle.stk_numbers.specs.declared.conditions.Condition.{Condition}
use Rattle.stk_numbers.specs.declared.conditions.Kinds.{Kinds}
use Rattle.stk_meaning.specs.Typings.{Typing}
use Rattle.stk_meaning.specs.Keys.{keys_of, input_bits}
use Rattle.stk_meaning.specs.Weights.{weight, most_weight}
use Rattle.stk_clauses.specs.declared.literal.Lit.{Lit}
use Rattle.stk_clauses.specs.declared.store.Cnf.{Cnf}
use Rattle.stk_clauses.specs.declared.derivation.Derived.{Derived}
use Rattle.stk_clauses.specs.declared.derivation.Derivation.{Derivation}
use Rattle.stk_clauses.specs.Literals.{negated}
use Rattle.stk_clauses.specs.Hints.{With, Leads}
use Rattle.stk_clauses.specs.Derivations.{clauses_of_steps, AreSteps}
use Rattle.stk_proofs.specs.Dimacs.{literal_count, FitsDimacs}
use Rattle.stk_proofs.specs.Lrat.{FitsLratLine, FitsLrat}
use Rattle.stk_claims.specs.declared.closing.Closing.{Closing}
use Rattle.stk_claims.specs.declared.closing.Closing.TheVariants.{Tried, Refuted, GivenUp}
use Rattle.stk_claims.specs.Closing.{IsProof, Closes}
use Rattle.stk_claims.specs.Parts.{FitsTexts}

-- a clause of few literals
abbrev IsShort : List Lit → Type 0
IsShort c = length c ≤ 3

few_literals : (cs : List (List Lit)) → All IsShort cs → literal_count cs ≤ 3 * length cs
few_literals [] h = omega arith
few_literals (c ∷ cs) h =
    let short : length c ≤ 3 = All-head IsShort c cs h in
    let more = few_literals cs (All-tail IsShort c cs h) in
    omega (arith, short, more)

-- hints that lead somewhere name clauses that are there
abbrev IsWritten : ℕ → Type 0
IsWritten h = h + 1 < 2 ^ 31

hints_fit : (cs : List (List Lit)) (S : Lit → Type 0) (hs : List ℕ) → length cs + 1 < 2 ^ 31 → Leads cs S hs → All IsWritten hs
hints_fit cs S [] few h = absurd h
hints_fit cs S (i ∷ []) few h =
    let here = h.0 in
    All-cons IsWritten i [] (omega (arith, here, few)) (All-nil IsWritten)
hints_fit cs S (i ∷ j ∷ hs) few (here, (l, one, more)) =
    All-cons IsWritten i (j ∷ hs) (omega (arith, here, few)) (hints_fit cs (With S l) (j ∷ hs) few more)

literal_fits : (vars : ℕ) → vars < 2 ^ 30 → (l : Lit) → l.0 < 2 * vars → l.0 / 2 + 1 < 2 ^ 31
literal_fits vars few l h = omega (arith, few, h)

no_step : Derived
no_step = record { clause = []; hints = [] }

module _ (vars : ℕ) (given : List (List Lit)) (steps : List Derived) (few : vars < 2 ^ 30) (bound : length given + length steps + 1 < 2 ^ 31) (each : AreSteps vars given steps) where
  so_far : (k : ℕ) → k < length steps → length (given ++ clauses_of_steps (take k steps)) + 1 < 2 ^ 31
  so_far k lt =
      let all = length-append given (clauses_of_steps (take k steps)) in
      let same = length-map (take k steps) (λ (s : Derived). s.clause) in
      let taken = length-take-le k steps (omega (arith, lt)) in
      omega (arith, all, same, taken, lt, bound)

  line_fits : (k : ℕ) → k < length steps → FitsLratLine (get_or steps k no_step)
  line_fits k lt =
      let is = each k no_step lt in
      record {
        literals = All-weaker (λ (l : Lit). l.0 < 2 * vars) (λ (l : Lit). l.0 / 2 + 1 < 2 ^ 31) (literal_fits vars few) (get_or steps k no_step).clause is.0;
        hints = hints_fit (given ++ clauses_of_steps (take k steps)) (λ m. Contains (get_or steps k no_step).clause (negated m)) (get_or steps k no_step).hints (so_far k lt) is.2;
      }

  lines_fit : All FitsLratLine steps
  lines_fit = All-from_get_or FitsLratLine steps no_step line_fits

module _ (ty : Typing) (without : Kinds) (f : FunctionTree) (c : Candidate) (set : List Condition) (budget : ℕ) (bits : input_bits (keys_of ty without f) ≤ weight ty without f) (light : weight ty without f ≤ most_weight) (most : budget ≤ 200000) where
  module _ (list : Cnf) (d : Derivation) (h : IsProof ty without f c set budget list d) where
    vars_few : list.vars ≤ 16000000
    vars_few =
        let within = h.within in
        omega (arith, within, bits, light)

    clauses_few : length list.store ≤ 48000001
    clauses_few =
        let few = h.stands.stands.few in
        let count = h.stands.stands.count in
        let vars = vars_few in
        omega (arith, few, count, vars)

    list_fits : FitsDimacs list
    list_fits =
        let vars = vars_few in
        let clauses = clauses_few in
        let literals = few_literals list.store h.stands.stands.short in
        record { vars = omega (arith, vars); few = omega (arith, clauses); literals = omega (arith, literals, clauses); within = h.stands.stands.within }

    derivation_fits : FitsLrat (length list.store) d
    derivation_fits =
        let vars = vars_few in
        let clauses = clauses_few in
        let short = h.short in
        record { ids = λ some. omega (arith, clauses, short, most); steps = lines_fit list.vars list.store d.steps (omega (arith, vars)) (omega (arith, clauses, short, most)) h.refutes.each }

  pub texts_fit : (x : Closing) → Closes ty without f c set budget x → FitsTexts x
  texts_fit Tried h = tt
  texts_fit (Refuted list d) h = (list_fits list d h, derivation_fits list d h)
  texts_fit GivenUp h = tt
