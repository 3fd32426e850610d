-- What the definitions say of small texts.
use Rattle.std.proofs.Common.{◌≡◌, [], ◌∷◌, Some, None, refl}
use Rattle.std.specs.Prelude.{codes}
use Rattle.stk_clauses.specs.declared.store.Cnf.{Cnf}
use Rattle.stk_proofs.specs.Words.{words_of}
use Rattle.stk_proofs.specs.Numbers.{number_in}
use Rattle.stk_proofs.specs.Entries.{literal_entry, hint_entry, listed}
use Rattle.stk_proofs.specs.Dimacs.{dimacs_in}
use Rattle.stk_proofs.specs.Lrat.{most_number}

-- lines that begin with `c` are dropped, and a `c` in a line is none
words : words_of (codes "c 1 0\np\tcnf 2 c\r\n c 0\nc") ≡ codes "p" ∷ codes "cnf" ∷ codes "2" ∷ codes "c" ∷ codes "c" ∷ codes "0" ∷ []
words = refl

-- 0 is a number
nought : number_in (codes "0") ≡ Some 0
nought = refl

-- the greatest number
greatest : number_in (codes "2147483647") ≡ Some 2147483647
greatest = refl

-- a number of 2^31 is none
beyond : number_in (codes "2147483648") ≡ None
beyond = refl

-- a leading zero is none, not even of 0
leading_zero : number_in (codes "00") ≡ None
leading_zero = refl

-- a sign is none
signed : number_in (codes "+5") ≡ None
signed = refl

-- two clauses over three variables
abbrev two_clauses : Cnf
two_clauses = record { vars = 3; store = (record { 0 = 2 } ∷ record { 0 = 1 } ∷ []) ∷ (record { 0 = 4 } ∷ []) ∷ [] }

-- a literal that a clause repeats is read once
clauses_read : dimacs_in (codes "p cnf 3 2\n2 -1 2 0 3\n0") ≡ Some two_clauses
clauses_read = refl

-- a word behind the last clause
word_behind : dimacs_in (codes "p cnf 3 1\n1 0\n2") ≡ None
word_behind = refl

-- a clause too few
clause_missing : dimacs_in (codes "p cnf 3 2\n1 0\n") ≡ None
clause_missing = refl

-- a variable that is not there
variable_missing : dimacs_in (codes "p cnf 3 1\n-4 0\n") ≡ None
variable_missing = refl

-- literals of a step stay as they are written
literals_read : listed (literal_entry most_number) (codes "1" ∷ codes "1" ∷ codes "0" ∷ codes "3" ∷ []) ≡ Some (record { 0 = 0 } ∷ record { 0 = 0 } ∷ [], codes "3" ∷ [])
literals_read = refl

-- hints are ids less 1
hints_read : listed hint_entry (codes "1" ∷ codes "2" ∷ codes "0" ∷ []) ≡ Some (0 ∷ 1 ∷ [], [])
hints_read = refl

-- a hint has no sign
signed_hint : listed hint_entry (codes "-1" ∷ codes "2" ∷ codes "0" ∷ []) ≡ None
signed_hint = refl
