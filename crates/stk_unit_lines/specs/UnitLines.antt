-- The lines that are lawful for a unit, what it counts for, and the names that it leaves in force.
use Rattle.std.specs.Prelude.{◌≡◌, ℕ, Bool, false, List, [], ◌∷◌, Option, Some, None}
use Rattle.stk_lex.specs.declared.token.Token.{Token}
use Rattle.stk_ctype.specs.declared.symbol.NameEntry.{NameEntry}
use Rattle.stk_tree.specs.declared.node.Node.{Node}
use Rattle.stk_tree.specs.Syntax.{UnitTree, FunctionTree, defines}
use Rattle.stk_numbers.specs.declared.conditions.Kinds.{Kinds}
use Rattle.stk_meaning.specs.Lists.{candidates}
use Rattle.stk_meaning.specs.declared.finding.Finding.{Finding}
use Rattle.stk_meaning.specs.Findings.{AreLawful}
use Rattle.stk_meaning.specs.PathFindings.{function_subject}
use Rattle.stk_spent_queries.specs.Spent.{spent_at}
use Rattle.stk_accept.specs.declared.accepting.Refusal.{Refusal}
use Rattle.stk_accept.specs.Accepting.{Accepts, Refuses}
use Rattle.stk_records.specs.declared.counts.Counts.{Counts}
use Rattle.stk_records.specs.declared.line.Cause.{Cause}
use Rattle.stk_records.specs.declared.line.Line.{Line}
use Rattle.stk_records.specs.declared.line.Line.TheVariants.{Skipped}
use Rattle.stk_records.specs.Counts.{nothing_counted}
use Rattle.stk_units.specs.Spots.{spot_at}
use Rattle.stk_units.specs.Functions.{unit_typing, is_definition}
use Rattle.stk_units.specs.Causes.{cause_of, body_cause}
use Rattle.stk_units.specs.Counted.{one_skipped, one_judged}
use Rattle.stk_unit_lines.specs.Lines.{findings_lines}
use Rattle.stk_unit_lines.specs.Functions.{unit_placed, function_keys}

-- the line of a unit that is skipped, which begins here
abbrev pub skip_line : List ℕ → ℕ → Cause → Line
skip_line bytes at cause = Skipped (spot_at bytes at) cause

-- the lines of a function's findings, one for each of its candidates in order
abbrev pub function_lines : List ℕ → Kinds → List NameEntry → UnitTree → FunctionTree → List Finding → List Line
function_lines bytes without now u f findings =
    let ty = unit_typing bytes now u in
    let q = unit_placed bytes u in
    findings_lines q ty f (function_keys q ty without f) (candidates ty f) findings

-- A function has these lawful findings, one for each of its candidates in order, with these kinds of conditions taken
-- out: each set that is reported suffices in path runs and in every execution, and a query is given up only where it is
-- spent at this budget.
abbrev pub AreFindingsOf : List ℕ → Kinds → ℕ → List NameEntry → UnitTree → FunctionTree → List Finding → Type 0
AreFindingsOf bytes without budget now u f findings =
    let ty = unit_typing bytes now u in
    AreLawful (function_subject ty without f (spent_at ty without f budget)) (candidates ty f) findings

-- The lines of a unit of these tokens, what it counts for, and the names that it leaves in force, where these are in
-- force before it: an empty unit and a declaration that are accepted have none; a unit that isn't accepted has a line
-- with the cause at its first token; so has a function that is accepted and has too many nodes, a body that a rule
-- refuses, or too much weight; and every other function has the lines of lawful findings, one for each candidate in
-- order.
pub data IsUnitLines (bytes : List ℕ) (without : Kinds) (budget : ℕ) (mark : Bool) (es : List NameEntry) (body : Option ℕ) : List Token → List Line → Counts → List NameEntry → Type 0 where
  accepted : {tokens : List Token} {now : List NameEntry} (u : UnitTree) → Accepts bytes mark es tokens u now → is_definition u ≡ false → IsUnitLines bytes without budget mark es body tokens [] nothing_counted now
  refused : {first : Token} {others : List Token} {now : List NameEntry} (cause : Refusal) → Refuses bytes mark es (first ∷ others) body cause now
      → IsUnitLines bytes without budget mark es body (first ∷ others) (skip_line bytes first.span.from (cause_of bytes cause) ∷ []) one_skipped now
  unjudged : {first : Token} {others : List Token} {now : List NameEntry} (node : Node) (f : FunctionTree) (cause : Cause) → Accepts bytes mark es (first ∷ others) (defines node f) now → body_cause bytes without now (defines node f) ≡ Some cause
      → IsUnitLines bytes without budget mark es body (first ∷ others) (skip_line bytes first.span.from cause ∷ []) one_skipped now
  judged : {tokens : List Token} {now : List NameEntry} (node : Node) (f : FunctionTree) (findings : List Finding) → Accepts bytes mark es tokens (defines node f) now → body_cause bytes without now (defines node f) ≡ None
      → AreFindingsOf bytes without budget now (defines node f) f findings → IsUnitLines bytes without budget mark es body tokens (function_lines bytes without now (defines node f) f findings) (one_judged findings) now
