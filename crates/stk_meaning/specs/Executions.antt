-- Executions: memory has 2^64 bytes, the outside answers calls, and a loop turns at most so many times (C11 5.1.2.3).
use Rattle.std.specs.Prelude.{ℕ, List, [], ◌∷◌, Option, Some, None, ℤ, pos, if◌then◌else◌}
use Rattle.stk_ctype.specs.declared.kind.IntKind.{IntKind}
use Rattle.stk_ctype.specs.Types.{TypeTree}
use Rattle.stk_tree.specs.Syntax.{FunctionTree}
use Rattle.stk_numbers.specs.declared.conditions.Kinds.{Kinds}
use Rattle.stk_numbers.specs.Kinds.{wrap}
use Rattle.stk_type_rules.specs.Types.{is_void}
use Rattle.stk_meaning.specs.declared.entry.Entry.{Entry}
use Rattle.stk_meaning.specs.Typings.{Typing, converted}
use Rattle.stk_meaning.specs.Places.{Setting}
use Rattle.stk_meaning.specs.Worlds.{World, Ran, Flow, trace_of}
use Rattle.stk_meaning.specs.Keys.{setting_of}
use Rattle.stk_meaning.specs.Memory.{Memory, number_at, stored, Write, put_all}
use Rattle.stk_meaning.specs.Paths.{function_run}

-- an answer of the outside: a number, and the bytes that it writes
pub record Answer : Type 0 where
  pub number : ℤ
  pub writes : List Write

-- the state of an execution: its memory, and the answers that are left
pub record Outside : Type 0 where
  pub memory : Memory
  pub answers : List Answer

-- what a call whose result has this type takes from the next answer: its number and its writes
abbrev pub next_answer : TypeTree → Memory → List Answer → Option (ℤ × Outside)
next_answer t memory [] = None
next_answer t memory (x ∷ xs) = Some (if is_void t then pos 0 else converted t x.number, record { memory = put_all x.writes memory; answers = xs })

-- its writes alone
abbrev pub next_writes : Memory → List Answer → Option Outside
next_writes memory [] = None
next_writes memory (x ∷ xs) = Some (record { memory = put_all x.writes memory; answers = xs })

-- its number alone
abbrev pub next_number : IntKind → Memory → List Answer → Option (ℤ × Outside)
next_number kind memory [] = None
next_number kind memory (x ∷ xs) = Some (wrap kind x.number, record { memory = memory; answers = xs })

-- the world of an execution with these addresses of its objects and at most n turns of each loop: by the address of a
-- place alone, and never by its name
abbrev pub real_world : (ℕ → ℕ) → ℕ → World Outside
real_world addresses n = record {
  address = addresses;
  load = λ target k kind a m. (number_at kind a m.memory, m);
  store = λ target kind a x m. record { memory = stored kind a x m.memory; answers = m.answers };
  call = λ k t m. next_answer t m.memory m.answers;
  write = λ m. next_writes m.memory m.answers;
  unset = λ k kind m. next_number kind m.memory m.answers;
  begin_kept = λ q m. m;
  reset = λ k js r. r;
  forget = λ test m. m;
  turns = n;
}

-- where an execution starts: the numbers of its register parameters, and the addresses of its memory objects, each by
-- its node
pub record ExecutionStart : Type 0 where
  pub numbers : ℕ → ℤ
  pub addresses : ℕ → ℕ

abbrev pub execution_ran : Setting → FunctionTree → ExecutionStart → Outside → ℕ → Ran Flow Outside
execution_ran g f start m n = function_run g (real_world start.addresses n) f start.numbers m

-- the trace of the execution of a function from a start, a memory and answers of the outside, each of whose loops turns
-- at most n times
abbrev pub execution : Typing → Kinds → FunctionTree → ExecutionStart → Memory → List Answer → ℕ → List Entry
execution ty without f start memory answers n = trace_of (execution_ran (setting_of ty without f) f start (record { memory = memory; answers = answers }) n)
