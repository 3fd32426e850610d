-- What examples say of nodes: tables in place of typing.
use Rattle.std.proofs.Common.{ℕ, ◌==◌, ◌&&◌, true, false, if◌then◌else◌, List, [], ◌∷◌, Option, Some, None, ℤ, pos}
use Rattle.stk_base.specs.declared.span.Span.{Span}
use Rattle.stk_ctype.specs.declared.kind.IntKind.{IntKind}
use Rattle.stk_ctype.specs.Types.{TypeTree, void_type, integer_type, pointer_type, array_type, struct_type, function_type, SignatureTree}
use Rattle.stk_ctype.specs.Structs.{StructLayout}
use Rattle.stk_ctype.specs.Structs as structs
use Rattle.stk_tree.specs.declared.node.Node.{Node}
use Rattle.stk_numbers.specs.declared.conditions.UbKind.{UbKind}
use Rattle.stk_numbers.specs.declared.conditions.CandKind.{CandKind}
use Rattle.stk_numbers.specs.declared.conditions.Candidate.{Candidate}
use Rattle.stk_numbers.specs.declared.conditions.Condition.{Condition}
use Rattle.stk_numbers.specs.declared.conditions.Kinds.{Kinds}
use Rattle.stk_meaning.specs.declared.entry.Entry.{Entry}
use Rattle.stk_meaning.specs.declared.entry.Entry.TheVariants.{Ub}
use Rattle.stk_meaning.specs.Typings.{Typing, is_among}
use Rattle.stk_meaning.specs.Keys.{Key, KeyInfo}
use Rattle.stk_meaning.specs.Memory.{Memory, Write}
use Rattle.stk_meaning.specs.Executions.{Answer, ExecutionStart}

-- what stands beside a number
abbrev pub beside : {A : Type 0} → List (ℕ × A) → ℕ → Option A
beside [] k = None
beside (x ∷ xs) k = if x.0 == k then Some x.1 else beside xs k

abbrev pub beside_or : {A : Type 0} → A → Option A → A
beside_or d None = d
beside_or d (Some x) = x

-- a struct of which only the size is known
abbrev pub sized : Option ℕ → Option StructLayout
sized None = None
sized (Some size) = Some (record { members = []; offsets = []; size = size; alignment = 1 })

abbrev pub all_sized : List (Option ℕ) → List (Option StructLayout)
all_sized [] = []
all_sized (x ∷ xs) = sized x ∷ all_sized xs

-- the number of a struct type
abbrev pub struct_number : TypeTree → ℕ
struct_number void_type = 0
struct_number (integer_type k) = 0
struct_number (pointer_type t) = 0
struct_number (array_type t count) = 0
struct_number (struct_type id) = id
struct_number (function_type f) = 0

-- the offset of a member, by the number of its struct and where its name stands
abbrev pub offset_among : List (ℕ × ℕ × ℕ) → ℕ → ℕ → ℕ
offset_among [] id from = 0
offset_among (x ∷ xs) id from = if x.0 == id && x.1 == from then x.2 else offset_among xs id from

-- the tables: bytes, types, declarators that names mean, numbers, declarators of operands of `&`, sizes of structs,
-- offsets of members, signatures by where the name stands
abbrev pub told : List ℕ → List (ℕ × TypeTree) → List (ℕ × ℕ) → List (ℕ × ℤ) → List ℕ → List (Option ℕ) → List (ℕ × ℕ × ℕ) → List (ℕ × SignatureTree) → Typing
told bytes types means numbers taken sizes offsets signatures = record {
  bytes = bytes;
  type_at = λ k. beside_or void_type (beside types k);
  means = λ k. beside means k;
  number_at = λ k. beside numbers k;
  is_taken = λ k. is_among k taken;
  size_of = λ t. structs.size_of (all_sized sizes) t;
  offset_of = λ t at. offset_among offsets (struct_number t) at.from;
  signature_at = λ at. beside signatures at.from;
}

-- a node of a number, and the text between two places
abbrev pub n : ℕ → Node
n k = record { number = k; span = record { from = 0; to = 0 } }

abbrev pub at : ℕ → ℕ → Span
at from to = record { from = from; to = to }

-- a condition that is violated
abbrev pub ub_at : ℕ → UbKind → Entry
ub_at k kind = Ub (record { node = k; kind = kind })

-- no kind of conditions is taken out
abbrev pub all_kinds : Kinds
all_kinds = record { overflow = false; zero = false; shift = false; null = false; pointer = false; bounds = false; abs = false; copy = false }

-- division by zero is taken out
abbrev pub no_zero : Kinds
no_zero = record { overflow = false; zero = true; shift = false; null = false; pointer = false; bounds = false; abs = false; copy = false }

-- a start of an execution with these numbers of parameters and addresses of objects, each by its node
abbrev pub start_at : List (ℕ × ℤ) → List (ℕ × ℕ) → ExecutionStart
start_at numbers addresses = record { numbers = λ k. beside_or (pos 0) (beside numbers k); addresses = λ k. beside_or 0 (beside addresses k) }

-- an answer of the outside, and a memory of zeros
abbrev pub answer : ℤ → List Write → Answer
answer number writes = record { number = number; writes = writes }

abbrev pub no_memory : Memory
no_memory a = 0

-- a key with its kind and its size
abbrev pub key : Key → IntKind → ℕ → Key × IntKind × ℕ
key k kind size = (k, kind, size)

abbrev pub shown_keys : List KeyInfo → List (Key × IntKind × ℕ)
shown_keys [] = []
shown_keys (x ∷ xs) = key x.key x.kind x.size ∷ shown_keys xs

-- a condition and a candidate
abbrev pub condition_at : ℕ → UbKind → Condition
condition_at k kind = record { node = k; kind = kind }

abbrev pub candidate_at : ℕ → CandKind → Candidate
candidate_at k kind = record { node = k; kind = kind }
