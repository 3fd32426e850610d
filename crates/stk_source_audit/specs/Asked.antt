-- What is asked of a function that is judged, by the tables of its path runs.
use Rattle.std.specs.Prelude.{◌≡◌, ℕ, Bool, ◌&&◌, List, ℤ, map}
use Rattle.stk_ctype.specs.declared.kind.IntKind.{IntKind}
use Rattle.stk_tree.specs.Syntax.{FunctionTree}
use Rattle.stk_tree.specs.View.{view_function, view_unit}
use Rattle.stk_numbers.specs.Kinds.{width_of}
use Rattle.stk_numbers.specs.declared.conditions.Candidate.{Candidate}
use Rattle.stk_numbers.specs.declared.conditions.Condition.{Condition}
use Rattle.stk_numbers.specs.declared.conditions.Kinds.{Kinds}
use Rattle.stk_meaning.specs.Typings.{Typing}
use Rattle.stk_meaning.specs.Paths.{path}
use Rattle.stk_meaning.specs.Hits.{is_hit_free}
use Rattle.stk_function_types.specs.Nodes.{typing_in}
use Rattle.stk_path_runs.specs.Rows.{Tables}
use Rattle.stk_path_runs.specs.FunctionTables.{AreTablesOf}
use Rattle.stk_terms.specs.Fitting.{AreResidues}
use Rattle.stk_symbols.specs.Maps.{map_of}
use Rattle.stk_goals.specs.Queries.{key_kinds, has_addresses}
use Rattle.stk_units.specs.Functions.{unit_typing}
use Rattle.stk_audit_rules.specs.Worlds.{AuditedFunction}
use Rattle.stk_source_audit.specs.declared.judged.JudgedFunction.{JudgedFunction}
use Rattle.stk_source_audit.specs.Functions.{audited_function}
use Rattle.stk_source_audit.specs.Judged.{IsJudgedUnit}

-- there is a residue for each key, in range, and these are the numbers of the map that has these residues
pub record AreWordsOf (kinds : List IntKind) (residues : List ℕ) (words : List ℤ) : Type 0 where
  pub fit : AreResidues (map width_of kinds) residues
  pub are : words ≡ map_of kinds residues

-- whether a map's addresses are valid, and its path run hits the candidate free of the set
abbrev pub answers_test : Typing → Kinds → FunctionTree → Candidate → List Condition → List ℤ → Bool
answers_test ty without f c set m = has_addresses ty without f m && is_hit_free set c (path ty without f m)

-- tables are those of a function
pub record AreJudgedTables (ty : Typing) (without : Kinds) (f : FunctionTree) (t : Tables) : Type 0 where
  pub tables : AreTablesOf f t
  pub typing : typing_in t.places.types ≡ ty
  pub kinds : t.places.without ≡ without

-- the types of a function that is judged, and its tree
abbrev pub judged_typing : JudgedFunction → Typing
judged_typing j = unit_typing j.bytes.now j.names.now (view_unit j.unit.now)

abbrev pub judged_tree : JudgedFunction → FunctionTree
judged_tree j = view_function j.function.now

abbrev pub judged_function : JudgedFunction → AuditedFunction
judged_function j = audited_function (judged_typing j) j.without (judged_tree j)

abbrev pub judged_kinds : JudgedFunction → List IntKind
judged_kinds j = key_kinds (judged_typing j) j.without (judged_tree j)

abbrev pub IsJudged : JudgedFunction → Type 0
IsJudged j = IsJudgedUnit j.bytes.now j.without j.names.now (view_unit j.unit.now) (view_function j.function.now)
