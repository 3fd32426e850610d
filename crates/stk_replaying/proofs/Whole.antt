-- The run of a body in the world of an execution is the execution of its function.
use Rattle.std.proofs.Common.{◌≡◌, inl, inr, ◌<◌, ◌≤◌, ◌+◌, ◌++◌, ℕ, List, length, Option, ℤ, refl, ap, subst, arith}
use Rattle.std.proofs.lemmas.List.{length-append}
use Rattle.stk_tree.specs.Syntax.{FunctionTree}
use Rattle.stk_numbers.specs.declared.conditions.Kinds.{Kinds}
use Rattle.stk_meaning.specs.declared.entry.Entry.{Entry}
use Rattle.stk_meaning.specs.Typings.{Typing}
use Rattle.stk_meaning.specs.Places.{Setting}
use Rattle.stk_meaning.specs.Worlds.{Ran, Flow, trace_of}
use Rattle.stk_meaning.specs.Statements.{statement_run}
use Rattle.stk_meaning.specs.Keys.{KeyInfo, parameter_key, keys_of, setting_of, body_of}
use Rattle.stk_meaning.specs.Paths.{start_registers, number_under}
use Rattle.stk_meaning.specs.Maps.{addresses_in}
use Rattle.stk_meaning.specs.Memory.{Memory}
use Rattle.stk_meaning.specs.Executions.{Outside, real_world}
use Rattle.stk_memory.specs.Image.{image_memory}
use Rattle.stk_exec_stmt.specs.Ending.{flow_of, RunsTo}
use Rattle.stk_replaying.specs.declared.execution.Execution.{Execution}
use Rattle.stk_replaying.specs.Outsides.{answers_of}
use Rattle.stk_replaying.specs.Replaying.{ran_in}

-- the run of the body, by what the code begins it with
abbrev pub begun_run : Setting → List KeyInfo → FunctionTree → Execution → List ℤ → Memory → Ran Flow Outside
begun_run g keys f x r memory = statement_run g (real_world (addresses_in (number_under keys x.numbers.now)) x.turns) (body_of f) r (record { memory = memory; answers = answers_of x.replies.now })

pub ran_is : (ty : Typing) (without : Kinds) (f : FunctionTree) (g : Setting) (keys : List KeyInfo) (x : Execution) (r : List ℤ) (memory : Memory) → g ≡ setting_of ty without f → keys ≡ keys_of ty without f
    → r ≡ start_registers g.typing f (λ k. number_under keys x.numbers.now (parameter_key k)) → memory ≡ image_memory x.memory.now
    → begun_run g keys f x r memory ≡ ran_in ty without f x
ran_is ty without f g keys x r memory setting same registers is = rw (registers, is, setting, same) refl

module _ {S : Type 0} (R : Ran Flow S) (most : ℕ) (entries : List Entry) (flow : Option Flow) where
  -- where there aren't too many entries, they are the trace
  pub whole_trace : length entries ≤ most → RunsTo R most entries flow → entries ≡ trace_of R
  whole_trace h (inl e) = e.0
  whole_trace h (inr e) = absurd (omega (arith, h, e.0))

  -- and the end is that of the run
  pub whole_end : length entries ≤ most → RunsTo R most entries flow → flow ≡ flow_of R
  whole_end h (inl e) = e.1
  whole_end h (inr e) = absurd (omega (arith, h, e.0))

  -- where there are, so has the trace
  pub whole_long : most < length entries → RunsTo R most entries flow → most < length (trace_of R)
  whole_long h (inl e) = subst (λ (es : List Entry). most < length es) e.0 h
  whole_long h (inr e) =
      let all : length (entries ++ e.1.0) ≡ length (trace_of R) = ap length e.1.1 in
      let sum : length (entries ++ e.1.0) ≡ length entries + length e.1.0 = length-append entries e.1.0 in
      omega (arith, h, all, sum)
