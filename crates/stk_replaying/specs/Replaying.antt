-- What the replay of an execution shows.
use Rattle.std.specs.Prelude.{ℕ, ◌+◌, if◌then◌else◌, List, [], ◌∷◌, Option, Some, None, ℤ}
use Rattle.std.specs.List.{list_any}
use Rattle.stk_tree.specs.Syntax.{FunctionTree}
use Rattle.stk_numbers.specs.declared.conditions.Kinds.{Kinds}
use Rattle.stk_numbers.specs.declared.conditions.Candidate.{Candidate}
use Rattle.stk_meaning.specs.declared.entry.Entry.{Entry}
use Rattle.stk_meaning.specs.Typings.{Typing}
use Rattle.stk_meaning.specs.Worlds.{Ran, Flow, Normal, Break, Continue, Return, trace_of}
use Rattle.stk_meaning.specs.Keys.{parameter_key, KeyInfo, keys_of, setting_of}
use Rattle.stk_meaning.specs.Paths.{number_under}
use Rattle.stk_meaning.specs.Maps.{addresses_in}
use Rattle.stk_meaning.specs.Hits.{hits}
use Rattle.stk_meaning.specs.Executions.{Outside, ExecutionStart, execution_ran}
use Rattle.stk_memory.specs.Image.{image_memory}
use Rattle.stk_exec_stmt.specs.Ending.{flow_of}
use Rattle.stk_replaying.specs.Outsides.{answers_of}
use Rattle.stk_replaying.specs.declared.execution.Execution.{Execution}
use Rattle.stk_replaying.specs.declared.execution.End.{End}
use Rattle.stk_replaying.specs.declared.execution.End.TheVariants.{Fell, Returned}
use Rattle.stk_replaying.specs.declared.execution.End.TheVariants as end

-- where an execution starts, by the numbers of the function's keys: those of register parameters and of addresses
abbrev pub start_in : List KeyInfo → List ℤ → ExecutionStart
start_in keys numbers = record {
  numbers = λ k. number_under keys numbers (parameter_key k);
  addresses = addresses_in (number_under keys numbers);
}

-- the state of the outside before an execution
abbrev pub outside_before : Execution → Outside
outside_before x = record { memory = image_memory x.memory.now; answers = answers_of x.replies.now }

-- the execution of a function, and its trace
abbrev pub ran_in : Typing → Kinds → FunctionTree → Execution → Ran Flow Outside
ran_in ty without f x = execution_ran (setting_of ty without f) f (start_in (keys_of ty without f) x.numbers.now) (outside_before x) x.turns

abbrev pub trace_in : Typing → Kinds → FunctionTree → Execution → List Entry
trace_in ty without f x = trace_of (ran_in ty without f x)

-- how a body ends that ends so, and one that is cut
abbrev pub flow_end : Flow → End
flow_end Normal = Fell
flow_end Break = Fell
flow_end Continue = Fell
flow_end Return = Returned

abbrev pub flow_end_of : Option Flow → End
flow_end_of None = end.Cut
flow_end_of (Some flow) = flow_end flow

abbrev pub end_of : {S : Type 0} → Ran Flow S → End
end_of run = flow_end_of (flow_of run)

-- the positions of the candidates that some entry hits, ascending, from a position on
abbrev pub hit_places_from : ℕ → List Candidate → List Entry → List ℕ
hit_places_from i [] t = []
hit_places_from i (c ∷ cs) t = if list_any (hits c) t then i ∷ hit_places_from (i + 1) cs t else hit_places_from (i + 1) cs t

abbrev pub hit_places : List Candidate → List Entry → List ℕ
hit_places cs t = hit_places_from 0 cs t
