-- The two forms of records, texts for people and JSON objects, and which records are written.
use Rattle.std.specs.Prelude.{ℕ, Bool, if◌then◌else◌, List, [], ◌∷◌, ◌++◌, is_some}
use Rattle.stk_numbers.specs.declared.conditions.Kinds.{Kinds}
use Rattle.stk_records.specs.declared.options.Options.{Options}
use Rattle.stk_records.specs.declared.counts.Counts.{Counts}
use Rattle.stk_records.specs.declared.line.Line.{Line}
use Rattle.stk_records.specs.declared.line.Line.TheVariants.{Summary}
use Rattle.stk_records.specs.Text.{line_text}
use Rattle.stk_records.specs.Json.{json_text}

-- a line as JSON, or as a text
abbrev pub written_line : Bool → Line → List ℕ
written_line json line = if json then json_text line else line_text line

-- lines, one after the other
abbrev pub written_lines : Bool → List Line → List ℕ
written_lines json [] = []
written_lines json (x ∷ xs) = written_line json x ++ written_lines json xs

-- what is written of the lines of units: all of them, and none where the text is generated
abbrev pub written_records : Options → List Line → List ℕ
written_records o lines = if is_some o.generate then [] else written_lines o.json lines

-- the summary of these counts, with these kinds of conditions taken out
abbrev pub written_summary : Bool → Kinds → Counts → List ℕ
written_summary json without counts = written_line json (Summary counts without)
