-- A made-up source of 74 bytes: at byte 0 a function of one `unsigned char` begins, of which the maps 0 and 1 alone are
-- valid, with two candidates and a condition. Only the run of the map 0 hits the candidates, and it violates the
-- condition before.
use Rattle.std.specs.Prelude.{◌≡◌, ◌⊎◌, Bool, true, false, nat_eq, ℤ, pos, List, [], ◌∷◌, None}
use Rattle.std.specs.Ordering.{int_eq}
use Rattle.stk_ctype.specs.declared.kind.IntKind.TheVariants as kind
use Rattle.stk_numbers.specs.declared.conditions.UbKind.TheVariants as ub
use Rattle.stk_numbers.specs.declared.conditions.CandKind.TheVariants as cand
use Rattle.stk_numbers.specs.declared.conditions.Candidate.{Candidate}
use Rattle.stk_numbers.specs.declared.conditions.Condition.{Condition}
use Rattle.stk_meaning.specs.declared.entry.Entry.{Entry}
use Rattle.stk_meaning.specs.declared.entry.Entry.TheVariants.{Ub, Enter, Seen}
use Rattle.stk_meaning.specs.Hits.{has}
use Rattle.stk_clauses.specs.declared.store.Cnf.{Cnf}
use Rattle.stk_audit_rules.specs.Worlds.{World, AuditedFunction}

abbrev pub zero_at_8 : Condition
zero_at_8 = record { node = 8; kind = ub.Zero }

abbrev pub test_at_12 : Candidate
test_at_12 = record { node = 12; kind = cand.AlwaysFalse }

abbrev pub arm_at_14 : Candidate
arm_at_14 = record { node = 14; kind = cand.Arm }

-- what a run passes
abbrev pub trace_at : Bool → List Entry
trace_at true = Ub zero_at_8 ∷ Seen 12 true None ∷ Enter 14 ∷ []
trace_at false = Seen 12 false None ∷ []

abbrev pub trace_of : List ℤ → List Entry
trace_of [] = []
trace_of (x ∷ xs) = trace_at (int_eq x (pos 0))

-- clauses that nothing satisfies stand where the set has the condition, and else none
abbrev pub clauses_at : Bool → Cnf
clauses_at true = record { vars = 0; store = [] ∷ [] }
clauses_at false = record { vars = 0; store = [] }

abbrev pub small_function : AuditedFunction
small_function = record {
  keys = kind.UChar ∷ [];
  candidates = test_at_12 ∷ arm_at_14 ∷ [];
  subject = record {
    IsMap = λ xs. (xs ≡ pos 0 ∷ []) ⊎ (xs ≡ pos 1 ∷ []);
    Before = λ xs ys. ⊥;
    run = trace_of;
    conditions = zero_at_8 ∷ [];
    tries_all = true;
    Spent = λ c set. ⊥;
    Suffices = λ c set. Unit {0};
  };
  Stands = λ c set own. own ≡ clauses_at (has set zero_at_8);
}

abbrev pub small : World
small = record { length = 74; is_function = λ ks at. nat_eq at 0; function = λ ks at. small_function }
