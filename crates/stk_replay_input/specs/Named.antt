-- The execution that a script names of a function, and the text of its replay.
use Rattle.std.specs.Prelude.{◌≡◌, ◌<◌, ◌≤◌, ℕ, List, map, length, ℤ, Result, Ok, Err}
use Rattle.std.specs.Global.{Vec}
use Rattle.stk_tree.specs.Syntax.{FunctionTree}
use Rattle.stk_numbers.specs.declared.conditions.Kinds.{Kinds}
use Rattle.stk_meaning.specs.Typings.{Typing}
use Rattle.stk_meaning.specs.Worlds.{Ran, Flow, trace_of}
use Rattle.stk_meaning.specs.Keys.{KeyInfo, keys_of, setting_of}
use Rattle.stk_meaning.specs.Maps.{AreInRange, IsValid}
use Rattle.stk_meaning.specs.Lists.{candidates}
use Rattle.stk_meaning.specs.Executions.{Outside, execution_ran}
use Rattle.stk_memory.specs.Image.{image_memory, AreApart}
use Rattle.stk_spelling.specs.Named.{names_of}
use Rattle.stk_spelling.specs.Placed.{Placed}
use Rattle.stk_spelling.specs.Texts.{key_text}
use Rattle.stk_replaying.specs.Outsides.{answers_of}
use Rattle.stk_replaying.specs.Replaying.{start_in, end_of}
use Rattle.stk_replay_script.specs.declared.script.Script.{Script}
use Rattle.stk_replay_script.specs.Starts.{IsStart}
use Rattle.stk_replay_text.specs.Text.{lines_text}
use Rattle.stk_replay_input.specs.Lines.{run_lines}
use Rattle.stk_replay_input.specs.declared.unreplayed.Unreplayed.{Unreplayed}
use Rattle.stk_replay_input.specs.declared.unreplayed.Unreplayed.TheVariants.{BadScript, TooLong, NoMemory}

-- a function at hand: where its nodes stand, what is known of them, the kinds of conditions that are taken out, and its
-- tree
pub record FunctionAtHand : Type 0 where
  pub placed : Placed
  pub typing : Typing
  pub without : Kinds
  pub tree : FunctionTree

-- its keys, and how they are spelled
abbrev pub its_keys : FunctionAtHand → List KeyInfo
its_keys f = keys_of f.typing f.without f.tree

abbrev pub spelled_keys : FunctionAtHand → List (List ℕ)
spelled_keys f = map (key_text f.placed (names_of f.typing f.tree)) (its_keys f)

-- A script names an execution of a function: its start is a valid one, by the texts of the keys, and these are the
-- numbers of the keys; and no two cells of its memory have one address.
pub record IsNamed (f : FunctionAtHand) (script : Script) (numbers : List ℤ) : Type 0 where
  pub start : IsStart (spelled_keys f) script.start numbers
  pub valid : IsValid f.typing f.without f.tree numbers
  pub apart : AreApart script.memory.cells

-- the execution
abbrev pub named_run : FunctionAtHand → Script → List ℤ → Ran Flow Outside
named_run f script numbers =
    let outside : Outside = record { memory = image_memory script.memory; answers = answers_of script.replies } in
    execution_ran (setting_of f.typing f.without f.tree) f.tree (start_in (its_keys f) numbers) outside script.turns

-- the text of an execution: a line for each entry of the trace, one for each candidate that is hit, and the end
abbrev pub run_text : FunctionAtHand → Ran Flow Outside → List ℕ
run_text f run = lines_text (run_lines f.placed f.typing f.tree (candidates f.typing f.tree) (trace_of run) (end_of run))

abbrev pub replay_text : FunctionAtHand → Script → List ℤ → List ℕ
replay_text f script numbers = run_text f (named_run f script numbers)

-- a trace has at most so many entries
abbrev pub most_entries : ℕ
most_entries = 1000000

-- a text is that of the execution that a script names
pub record IsReplayOf (f : FunctionAtHand) (script : Script) (text : List ℕ) : Type 0 where
  pub numbers : List ℤ
  pub named : IsNamed f script numbers
  pub short : length (trace_of (named_run f script numbers)) ≤ most_entries
  pub same : text ≡ replay_text f script numbers

-- a script names no execution of a function
abbrev pub NamesNone : FunctionAtHand → Script → Type 0
NamesNone f script = (numbers : List ℤ) → IsNamed f script numbers → ⊥

-- the trace of the execution that a script names is too long
pub record RunsLong (f : FunctionAtHand) (script : Script) : Type 0 where
  pub numbers : List ℤ
  pub named : IsNamed f script numbers
  pub long : most_entries < length (trace_of (named_run f script numbers))

-- what is answered to a script of a function: the text, or why there is none; memory may run out
abbrev pub AnswersScript : FunctionAtHand → Script → Result (Vec ℕ) Unreplayed → Type 0
AnswersScript f script (Ok text) = IsReplayOf f script text.items
AnswersScript f script (Err BadScript) = NamesNone f script
AnswersScript f script (Err TooLong) = RunsLong f script
AnswersScript f script (Err NoMemory) = Unit {0}

-- what is answered to a start of keys that are spelled so: a number for each key, in its range, or that there are none
abbrev pub AnswersStart : List (List ℕ) → List KeyInfo → List ℕ → Result (Vec ℤ) Unreplayed → Type 0
AnswersStart spelled keys start (Ok numbers) = IsStart spelled start numbers.items × AreInRange keys numbers.items
AnswersStart spelled keys start (Err BadScript) = (numbers : List ℤ) → IsStart spelled start numbers → AreInRange keys numbers → ⊥
AnswersStart spelled keys start (Err TooLong) = ⊥
AnswersStart spelled keys start (Err NoMemory) = Unit {0}

-- what is answered to an execution of a function: its text, or that its trace is too long
abbrev pub AnswersRun : FunctionAtHand → Ran Flow Outside → Result (Vec ℕ) Unreplayed → Type 0
AnswersRun f run (Ok text) = (length (trace_of run) ≤ most_entries) × (text.items ≡ run_text f run)
AnswersRun f run (Err BadScript) = ⊥
AnswersRun f run (Err TooLong) = most_entries < length (trace_of run)
AnswersRun f run (Err NoMemory) = Unit {0}
