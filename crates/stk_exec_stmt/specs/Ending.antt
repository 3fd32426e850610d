-- How turns and scopes of the code end among those of runs, and the end of an automatic object's declarator.
use Rattle.std.specs.Prelude.{◌≡◌, ◌<◌, ◌⊎◌, ◌++◌, length, ℕ, Bool, true, false, if◌then◌else◌, Option, Some, None, List, ℤ}
use Rattle.stk_tree.specs.Syntax.{StmtTree, StmtFormTree}
use Rattle.stk_tree.specs.Syntax as s
use Rattle.stk_type_rules.specs.Types.{is_scalar}
use Rattle.stk_meaning.specs.declared.entry.Entry.{Entry}
use Rattle.stk_meaning.specs.Places.{Setting}
use Rattle.stk_meaning.specs.Worlds as worlds
use Rattle.stk_meaning.specs.Worlds.{Ran, World, written}
use Rattle.stk_meaning.specs.Declarations.{begun_with}
use Rattle.stk_eval_expr.specs.declared.state.Flow.{Flow}
use Rattle.stk_eval_expr.specs.Shown.{flow_shown}

-- a turn that asks for another one has no flow
abbrev pub turned_shown : Option Flow → worlds.Turned
turned_shown None = worlds.Another
turned_shown (Some f) = worlds.Ended (flow_shown f)

-- the form of a statement
abbrev pub form_of : StmtTree → StmtFormTree
form_of (s.statement n f) = f

-- whether a statement ended as it should
abbrev pub is_normal : worlds.Flow → Bool
is_normal worlds.Normal = true
is_normal worlds.Break = false
is_normal worlds.Continue = false
is_normal worlds.Return = false

-- how a `switch` ends whose sections ended so (C11 6.8.6.3)
abbrev pub past_switch : worlds.Flow → worlds.Flow
past_switch worlds.Normal = worlds.Normal
past_switch worlds.Break = worlds.Normal
past_switch worlds.Continue = worlds.Continue
past_switch worlds.Return = worlds.Return

-- how a loop ends whose body ended so; nothing, where its step or its test comes next (C11 6.8.6.2, 6.8.6.3)
abbrev pub loop_end : worlds.Flow → Option worlds.Flow
loop_end worlds.Normal = None
loop_end worlds.Break = Some worlds.Normal
loop_end worlds.Continue = None
loop_end worlds.Return = Some worlds.Return

-- the initialiser of an automatic object is stored in a scalar; the outside writes an array or a struct
abbrev pub automatic_end : {S : Type 0} → Setting → World S → ℕ → ℤ → List ℤ → S → Ran worlds.Flow S
automatic_end g w k x r m = if is_scalar (g.typing.type_at k) then begun_with g w k x r m else written worlds.Normal (w.write m) r

-- how a run ends; one that is cut has no flow
abbrev pub flow_of : {S : Type 0} → Ran worlds.Flow S → Option worlds.Flow
flow_of (worlds.Went flow r m t) = Some flow
flow_of (worlds.Cut t) = None

-- entries are those of a whole run, with how it ends; or they are more than there may be, and the run begins with them
abbrev pub RunsTo : {S : Type 0} → Ran worlds.Flow S → ℕ → List Entry → Option worlds.Flow → Type 0
RunsTo run most entries flow =
    ((entries ≡ worlds.trace_of run) × (flow ≡ flow_of run)) ⊎ ((most < length entries) × ((rest : List Entry) × (entries ++ rest ≡ worlds.trace_of run)))
