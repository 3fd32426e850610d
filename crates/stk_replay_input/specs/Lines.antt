-- The lines of an execution.
use Rattle.std.specs.Prelude.{ℕ, List, [], ◌∷◌, ◌++◌, map, filter, Option, Some, None, slice_get}
use Rattle.std.specs.List.{list_any}
use Rattle.stk_tree.specs.Syntax.{FunctionTree}
use Rattle.stk_numbers.specs.declared.conditions.Candidate.{Candidate}
use Rattle.stk_meaning.specs.declared.entry.Entry.{Entry}
use Rattle.stk_meaning.specs.declared.entry.Entry.TheVariants as entry
use Rattle.stk_meaning.specs.Typings.{Typing}
use Rattle.stk_meaning.specs.Hits.{hits}
use Rattle.stk_spelling.specs.Placed.{Placed}
use Rattle.stk_spelling.specs.Claims.{node_spot, claim_by}
use Rattle.stk_replaying.specs.declared.execution.End.{End}
use Rattle.stk_replaying.specs.declared.execution.End.TheVariants as end
use Rattle.stk_replay_text.specs.declared.line.ReplayLine.{ReplayLine}
use Rattle.stk_replay_text.specs.declared.line.ReplayLine.TheVariants as line

-- the line of an entry
abbrev pub entry_line : Placed → Entry → ReplayLine
entry_line q (entry.Ub c) = line.Violated (node_spot q c.node) c.kind
entry_line q (entry.Enter k) = line.Entered (node_spot q k)
entry_line q (entry.Seen k truth replaced) = line.Seen (node_spot q k) truth replaced

-- the line of a candidate that is hit
abbrev pub hit_line : Placed → Typing → FunctionTree → Candidate → ReplayLine
hit_line q ty f c = line.Hit (node_spot q c.node) (claim_by ty f c.node c.kind)

-- the line of an end
abbrev pub end_line : End → ReplayLine
end_line end.Fell = line.Fell
end_line end.Returned = line.Returned
end_line end.Cut = line.Cut

-- the lines of an execution of this trace and this end: the entries, the candidates that some entry hits, in their
-- order, and the end
abbrev pub run_lines : Placed → Typing → FunctionTree → List Candidate → List Entry → End → List ReplayLine
run_lines q ty f cs trace ended = map (entry_line q) trace ++ map (hit_line q ty f) (filter (λ c. list_any (hits c) trace) cs) ++ end_line ended ∷ []

-- the candidates at positions of a list
abbrev pub with_some : Option Candidate → List Candidate → List Candidate
with_some None cs = cs
with_some (Some c) cs = c ∷ cs

abbrev pub candidates_at : List Candidate → List ℕ → List Candidate
candidates_at cs [] = []
candidates_at cs (i ∷ is) = with_some (slice_get cs i) (candidates_at cs is)
