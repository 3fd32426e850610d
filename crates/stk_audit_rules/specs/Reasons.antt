-- Which lines of a bundle hold behind those before them, with their blocks, and which fail, and why.
use Rattle.std.specs.Prelude.{◌≡◌, ◌≢◌, ℕ, true, false, List, length, Some, None, ℤ}
use Rattle.stk_numbers.specs.declared.conditions.UbKind.{UbKind}
use Rattle.stk_numbers.specs.declared.conditions.Candidate.{Candidate}
use Rattle.stk_numbers.specs.declared.conditions.Condition.{Condition}
use Rattle.stk_meaning.specs.Findings.{Subject, Answers, NoAnswer}
use Rattle.stk_clauses.specs.declared.store.Cnf.{Cnf}
use Rattle.stk_clauses.specs.declared.derivation.Derivation.{Derivation}
use Rattle.stk_clauses.specs.Derivations.{IsRefutation}
use Rattle.stk_proofs.specs.Dimacs.{dimacs_in}
use Rattle.stk_proofs.specs.Lrat.{IsLrat}
use Rattle.stk_bundle.specs.declared.line.BundleLine.{BundleLine}
use Rattle.stk_bundle.specs.declared.line.BundleLine.TheVariants.{Head, Source, Without, Function, Unstable, Hit, Need, Open, Tried, Clauses, Steps, Left, End}
use Rattle.stk_audit_rules.specs.declared.audit.Why.{Why}
use Rattle.stk_audit_rules.specs.declared.audit.Why.TheVariants as why
use Rattle.stk_audit_rules.specs.Worlds.{World}
use Rattle.stk_audit_rules.specs.Knowing.{Known, kinds_taken, with_function, with_candidate, with_member, with_start, with_clauses, with_claim}
use Rattle.stk_audit_rules.specs.Naming.{NamesCandidate, NamesCondition, NamesFunction}
use Rattle.stk_audit_rules.specs.Starts.{closes, IsShown, FailsToShow}

module _ (w : World) where
  -- the queries of the function that begins at a byte
  abbrev pub asked : Known → ℕ → Subject
  asked s at = (w.function s.without at).subject

  -- Line n holds with its block: what is known behind it.
  pub data Holds (s : Known) (n : ℕ) : BundleLine → List ℕ → Known → Type 0 where
    head : {block : List ℕ} → Holds s n Head block s
    source : {length : ℕ} {block : List ℕ} → length ≡ w.length → Holds s n (Source length) block s
    without : {kinds : List UbKind} {block : List ℕ} → Holds s n (Without kinds) block (record s { without = kinds_taken kinds })
    function : {at : ℕ} {block : List ℕ} → NamesFunction w s at → Holds s n (Function at) block (with_function s at)
    left : {node kind : ℕ} {c : Candidate} {block : List ℕ} → NamesCandidate w s node kind c → Holds s n (Left node kind) block (with_candidate s c)
    unstable : {node kind : ℕ} {c : Candidate} {block : List ℕ} → NamesCandidate w s node kind c → Holds s n (Unstable node kind) block (with_candidate s c)
    hit : {start : List ℕ} {block : List ℕ} → Holds s n (Hit start) block (with_start s n start None)
    need : {node kind : ℕ} {start : List ℕ} {k : Condition} {block : List ℕ} → NamesCondition w s node kind k
        → Holds s n (Need node kind start) block (with_start (with_member s k) n start (Some k))
    open_member : {node kind : ℕ} {k : Condition} {block : List ℕ} → NamesCondition w s node kind k → Holds s n (Open node kind) block (with_member s k)
    tried : {at : ℕ} {c : Candidate} {block : List ℕ} → IsShown w s at c → (asked s at).tries_all ≡ true → NoAnswer (asked s at) c s.members → Holds s n Tried block (with_claim s at c)
    clauses : {lines at : ℕ} {c : Candidate} {own : Cnf} {block : List ℕ} → IsShown w s at c → (w.function s.without at).Stands c s.members own → dimacs_in block ≡ Some own
        → Holds s n (Clauses lines) block (with_clauses s own)
    steps : {lines at : ℕ} {c : Candidate} {own : Cnf} {d : Derivation} {block : List ℕ} → s.at ≡ Some at → s.last ≡ Some c → s.clauses ≡ Some own → IsLrat (length own.store) block d → IsRefutation own.vars own.store d.steps
        → Holds s n (Steps lines) block (with_claim s at c)
    end : {block : List ℕ} → Holds s n End block s

  -- Line n fails, or its block: which line is named, and why. A claim's starts are tested where its set is known,
  -- before anything else of that line, and then the start's own line is named.
  pub data Fails (s : Known) (n : ℕ) : BundleLine → List ℕ → ℕ → Why → Type 0 where
    other_length : {length : ℕ} {block : List ℕ} → length ≢ w.length → Fails s n (Source length) block n why.Name
    no_function : {at : ℕ} {block : List ℕ} → (NamesFunction w s at → ⊥) → Fails s n (Function at) block n why.Name
    no_candidate : {node kind : ℕ} {block : List ℕ} → ((c : Candidate) → NamesCandidate w s node kind c → ⊥) → Fails s n (Unstable node kind) block n why.Name
    no_left : {node kind : ℕ} {block : List ℕ} → ((c : Candidate) → NamesCandidate w s node kind c → ⊥) → Fails s n (Left node kind) block n why.Name
    no_condition : {node kind : ℕ} {start : List ℕ} {block : List ℕ} → ((k : Condition) → NamesCondition w s node kind k → ⊥) → Fails s n (Need node kind start) block n why.Name
    no_open : {node kind : ℕ} {block : List ℕ} → ((k : Condition) → NamesCondition w s node kind k → ⊥) → Fails s n (Open node kind) block n why.Name
    no_start : {line : BundleLine} {m : ℕ} {block : List ℕ} → closes line ≡ true → FailsToShow w s m → Fails s n line block m why.Start
    too_wide : {at : ℕ} {c : Candidate} {block : List ℕ} → IsShown w s at c → (asked s at).tries_all ≡ false → Fails s n Tried block n why.Tried
    answered : {at : ℕ} {c : Candidate} {map : List ℤ} {block : List ℕ} → IsShown w s at c → Answers (asked s at) c s.members map → Fails s n Tried block n why.Tried
    no_clauses : {lines at : ℕ} {c : Candidate} {block : List ℕ} → IsShown w s at c → dimacs_in block ≡ None → Fails s n (Clauses lines) block n why.Form
    other_clauses : {lines at : ℕ} {c : Candidate} {list own : Cnf} {block : List ℕ} → IsShown w s at c → (w.function s.without at).Stands c s.members own → dimacs_in block ≡ Some list → list ≢ own
        → Fails s n (Clauses lines) block n (why.Formula own)
    no_steps : {lines : ℕ} {own : Cnf} {block : List ℕ} → s.clauses ≡ Some own → ((d : Derivation) → IsLrat (length own.store) block d → ⊥) → Fails s n (Steps lines) block n why.Form
    no_refutation : {lines : ℕ} {own : Cnf} {d : Derivation} {block : List ℕ} → s.clauses ≡ Some own → IsLrat (length own.store) block d → (IsRefutation own.vars own.store d.steps → ⊥) → Fails s n (Steps lines) block n why.Derivation
