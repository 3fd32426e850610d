-- Conditions and kinds of candidates as keys of tables.
use Rattle.std.specs.Prelude.{ℕ, Bool, ◌&&◌, nat_eq, List, [], ◌∷◌, ◌++◌}
use Rattle.stk_numbers.specs.declared.conditions.CandKind.{CandKind}
use Rattle.stk_numbers.specs.declared.conditions.CandKind.TheVariants.{Arm, AlwaysTrue, AlwaysFalse, Algebra}
use Rattle.stk_numbers.specs.declared.conditions.Condition.{Condition}
use Rattle.stk_numbers.specs.Taken.{number_of}
use Rattle.stk_meaning.specs.declared.entry.Entry.{Entry}
use Rattle.stk_meaning.specs.declared.entry.Entry.TheVariants.{Ub, Enter, Seen}
use Rattle.stk_hits.specs.declared.condition_ids.ConditionId.{ConditionId}

-- the condition_id of a condition
abbrev pub condition_id_of : Condition → ConditionId
condition_id_of k = record { node = k.node; kind = number_of k.kind }

-- whether two condition_ids are one
abbrev pub same_condition_id : ConditionId → ConditionId → Bool
same_condition_id a b = nat_eq a.node b.node && nat_eq a.kind b.kind

-- the number of a kind of candidates, by which candidates at one node are ordered
abbrev pub kind_number : CandKind → ℕ
kind_number Arm = 1
kind_number AlwaysTrue = 2
kind_number AlwaysFalse = 3
kind_number Algebra = 4

-- the condition_id of the condition that an entry violates, and those of entries in order
abbrev pub entry_condition_ids : Entry → List ConditionId
entry_condition_ids (Ub k) = condition_id_of k ∷ []
entry_condition_ids (Enter n) = []
entry_condition_ids (Seen n truth other) = []

abbrev pub condition_ids_of : List Entry → List ConditionId
condition_ids_of [] = []
condition_ids_of (e ∷ t) = entry_condition_ids e ++ condition_ids_of t
