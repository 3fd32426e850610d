-- Clause lists as texts of DIMACS: what is written, what a text says, and which lists have a text.
use Rattle.std.specs.Prelude.{ℕ, ◌+◌, ◌-◌, ◌/◌, ◌%◌, ◌^◌, ◌<◌, ◌≤◌, ◌&&◌, nat_eq, nat_lt, nat_le, if◌then◌else◌, zero, suc, List, [], ◌∷◌, ◌++◌, length, map, Option, Some, None, codes, decimal}
use Rattle.std.specs.Option.{option_map, option_and_then}
use Rattle.std.specs.List.{All}
use Rattle.stk_base.specs.Text.{same_text}
use Rattle.stk_clauses.specs.declared.literal.Lit.{Lit}
use Rattle.stk_clauses.specs.declared.store.Cnf.{Cnf}
use Rattle.stk_clauses.specs.Literals.{AreBelow}
use Rattle.stk_proofs.specs.Words.{words_of}
use Rattle.stk_proofs.specs.Numbers.{number_in}
use Rattle.stk_proofs.specs.Entries.{literal_entry, listed}
use Rattle.stk_proofs.specs.Distinct.{distinct}

-- ---- writing

-- a literal: its variable plus 1, behind `-` where it is negated
abbrev pub literal_text : Lit → List ℕ
literal_text l = if nat_eq (l.0 % 2) 0 then decimal (l.0 / 2 + 1) else 45 ∷ decimal (l.0 / 2 + 1)

-- literals, each with a space behind it
abbrev pub literals_text : List Lit → List ℕ
literals_text [] = []
literals_text (l ∷ ls) = literal_text l ++ 32 ∷ literals_text ls

-- the line of a clause: its literals, `0` and a newline
abbrev pub clause_text : List Lit → List ℕ
clause_text c = literals_text c ++ 48 ∷ 10 ∷ []

-- the lines of clauses
abbrev pub clauses_text : List (List Lit) → List ℕ
clauses_text [] = []
clauses_text (c ∷ cs) = clause_text c ++ clauses_text cs

-- the first line, `p cnf V C`: how many variables there are, and how many clauses
abbrev pub head_text : ℕ → ℕ → List ℕ
head_text vars count = codes "p cnf " ++ decimal vars ++ 32 ∷ decimal count ++ 10 ∷ []

-- the text of a clause list
abbrev pub dimacs_text : Cnf → List ℕ
dimacs_text cnf = head_text cnf.vars (length cnf.store) ++ clauses_text cnf.store

-- ---- reading

-- how many literals clauses have together
abbrev pub literal_count : List (List Lit) → ℕ
literal_count [] = 0
literal_count (c ∷ cs) = length c + literal_count cs

-- so many clauses over so many variables, as they are written, and no word behind the last one
abbrev pub clauses_in : ℕ → ℕ → List (List ℕ) → Option (List (List Lit))
clauses_in vars zero [] = Some []
clauses_in vars zero (w ∷ ws) = None
clauses_in vars (suc n) ws = option_and_then (λ p. option_map (λ cs. p.0 ∷ cs) (clauses_in vars n p.1)) (listed (literal_entry vars) ws)

-- the clause list of clauses as they are written: fewer than 2^31 literals, of which a clause keeps each once
abbrev pub cnf_of : ℕ → Option (List (List Lit)) → Option Cnf
cnf_of vars None = None
cnf_of vars (Some cs) = if nat_lt (literal_count cs) (2 ^ 31) then Some (record { vars = vars; store = map distinct cs }) else None

-- the clause list behind V and C: both are numbers within their bounds, and C clauses come
abbrev pub cnf_behind : Option ℕ → Option ℕ → List (List ℕ) → Option Cnf
cnf_behind None count ws = None
cnf_behind (Some vars) None ws = None
cnf_behind (Some vars) (Some count) ws =
    if nat_le vars 1073741823 && nat_lt count (2 ^ 31 - 1) then cnf_of vars (clauses_in vars count ws) else None

-- the clause list that words say: `p`, `cnf`, V, C and the clauses
abbrev pub cnf_in : List (List ℕ) → Option Cnf
cnf_in [] = None
cnf_in (p ∷ []) = None
cnf_in (p ∷ c ∷ []) = None
cnf_in (p ∷ c ∷ v ∷ []) = None
cnf_in (p ∷ c ∷ v ∷ n ∷ ws) = if same_text p (codes "p") && same_text c (codes "cnf") then cnf_behind (number_in v) (number_in n) ws else None

-- the clause list that a text says, if it says one
abbrev pub dimacs_in : List ℕ → Option Cnf
dimacs_in bytes = cnf_in (words_of bytes)

-- ---- which clause lists have a text

-- the bounds on variables, clauses and literals hold, and each literal's variable is one of the list's
pub record FitsDimacs (cnf : Cnf) : Type 0 where
  pub vars : cnf.vars ≤ 1073741823
  pub few : length cnf.store < 2 ^ 31 - 1
  pub literals : literal_count cnf.store < 2 ^ 31
  pub within : All (AreBelow cnf.vars) cnf.store
