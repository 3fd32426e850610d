-- Which execution an input names, and the text of its replay.
use Rattle.std.specs.Prelude.{◌≡◌, ◌<◌, ◌≤◌, ℕ, List, length, ℤ}
use Rattle.stk_meaning.specs.declared.entry.Entry.{Entry}
use Rattle.stk_meaning.specs.Worlds.{trace_of}
use Rattle.stk_replay_script.specs.declared.script.Script.{Script}
use Rattle.stk_replay_script.specs.Scripts.{IsInput}
use Rattle.stk_replay_input.specs.Definitions.{Definition, at_hand, IsDefinitionIn}
use Rattle.stk_replay_input.specs.Named.{IsNamed, named_run, replay_text, most_entries}

-- what an input names: a script, a source, the definition of the function, and the numbers of its keys
pub record Naming : Type 0 where
  pub script : Script
  pub source : List ℕ
  pub definition : Definition
  pub numbers : List ℤ

-- An input names an execution: its script has the name of an accepted function of its source, and a valid start of that
-- function, by the texts of its keys; and no two cells of its memory have one address.
pub record Names (bytes : List ℕ) (x : Naming) : Type 0 where
  pub input : IsInput bytes x.script x.source
  pub definition : IsDefinitionIn x.source x.script.function x.definition
  pub named : IsNamed (at_hand x.source x.definition) x.script x.numbers

-- the trace of what is named, and the text of its replay
abbrev pub trace_of_naming : Naming → List Entry
trace_of_naming x = trace_of (named_run (at_hand x.source x.definition) x.script x.numbers)

abbrev pub text_of_naming : Naming → List ℕ
text_of_naming x = replay_text (at_hand x.source x.definition) x.script x.numbers

-- a text is that of the replay that an input asks for
pub record IsReplayText (bytes text : List ℕ) : Type 0 where
  pub naming : Naming
  pub names : Names bytes naming
  pub short : length (trace_of_naming naming) ≤ most_entries
  pub same : text ≡ text_of_naming naming

-- an input names no execution
pub record HasBadScript (bytes : List ℕ) : Type 0 where
  pub none : (x : Naming) → Names bytes x → ⊥

-- the trace of the execution that an input names is too long
pub record HasLongRun (bytes : List ℕ) : Type 0 where
  pub naming : Naming
  pub names : Names bytes naming
  pub long : most_entries < length (trace_of_naming naming)
