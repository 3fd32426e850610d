-- The text of lines.
use Rattle.std.specs.Prelude.{ℕ, nat_le, ◌&&◌, if◌then◌else◌, List, [], ◌∷◌, ◌++◌, Option, Some, None, map, ℤ, codes, decimal}
use Rattle.std.specs.Fmt.{signed_decimal}
use Rattle.stk_numbers.specs.declared.conditions.UbKind.{UbKind}
use Rattle.stk_numbers.specs.declared.conditions.UbKind.TheVariants as kinds
use Rattle.stk_meaning.specs.declared.finding.Phase.{Phase}
use Rattle.stk_meaning.specs.declared.finding.Phase.TheVariants.{Free, Hit}
use Rattle.stk_records.specs.declared.counts.Counts.{Counts}
use Rattle.stk_records.specs.declared.line.Spot.{Spot}
use Rattle.stk_records.specs.declared.line.Claim.{Claim}
use Rattle.stk_records.specs.declared.line.Claim.TheVariants.{NeverEntered, AlwaysTrue, AlwaysFalse, SameAs}
use Rattle.stk_records.specs.declared.line.Fragment.{Fragment}
use Rattle.stk_records.specs.declared.line.Input.{Input}
use Rattle.stk_records.specs.declared.line.StartInputs.{StartInputs}
use Rattle.stk_records.specs.declared.line.Needed.{Needed}
use Rattle.stk_records.specs.declared.line.Cause.{Cause}
use Rattle.stk_records.specs.declared.line.Cause.TheVariants.{NoTree, Rule, Nodes, Weight}
use Rattle.stk_records.specs.declared.line.Line.{Line}
use Rattle.stk_records.specs.declared.line.Line.TheVariants.{Unstable, Undecided, Skipped, Summary}

-- a byte of a name as it is printed: itself from 32 to 126, and else `?`
abbrev pub printed_byte : ℕ → ℕ
printed_byte b = if nat_le 32 b && nat_le b 126 then b else 63

abbrev pub printed : List ℕ → List ℕ
printed bytes = map printed_byte bytes

-- the name of a file; `-` where no line marker gave one
abbrev pub file_text : Option (List ℕ) → List ℕ
file_text None = codes "-"
file_text (Some name) = printed name

-- `FILE:LINE:COLUMN`
abbrev pub spot_text : Spot → List ℕ
spot_text p = file_text p.file ++ codes ":" ++ decimal p.line ++ codes ":" ++ decimal p.column

-- what is claimed
abbrev pub claim_text : Claim → List ℕ
claim_text NeverEntered = codes "never entered"
claim_text AlwaysTrue = codes "always true"
claim_text AlwaysFalse = codes "always false"
claim_text (SameAs text) = codes "same as " ++ printed text

-- `PLACE: WHAT: CLAIM in FUNCTION`
abbrev pub fragment_text : List ℕ → Fragment → List ℕ
fragment_text what x = spot_text x.at ++ what ++ claim_text x.claim ++ codes " in " ++ printed x.function

-- `KEY=NUMBER`
abbrev pub input_text : Input → List ℕ
input_text x = printed x.key ++ codes "=" ++ signed_decimal x.number

-- a number for each key, by the texts of the keys
abbrev pub inputs_of : List (List ℕ) → List ℤ → List Input
inputs_of [] xs = []
inputs_of (k ∷ ks) [] = []
inputs_of (k ∷ ks) (x ∷ xs) = record { key = k; number = x } ∷ inputs_of ks xs

-- the inputs behind the first, each behind a space
abbrev pub more_inputs : List Input → List ℕ
more_inputs [] = []
more_inputs (x ∷ xs) = codes " " ++ input_text x ++ more_inputs xs

-- the inputs in order, joined by a space, or `none`
abbrev pub inputs_text : List Input → List ℕ
inputs_text [] = codes "none"
inputs_text (x ∷ xs) = input_text x ++ more_inputs xs

abbrev pub start_text : StartInputs → List ℕ
start_text s = inputs_text s.inputs

-- how a kind is printed
abbrev pub kind_text : UbKind → List ℕ
kind_text kinds.Overflow = codes "signed overflow"
kind_text kinds.Zero = codes "division by zero"
kind_text kinds.Shift = codes "oversized shift"
kind_text kinds.Null = codes "null dereference"
kind_text kinds.Pointer = codes "pointer overflow"
kind_text kinds.Bounds = codes "index out of bounds"
kind_text kinds.AbsValue = codes "absolute value overflow"
kind_text kinds.Overlap = codes "overlapping copy"

-- the line of the start that hits
abbrev pub hit_text : StartInputs → List ℕ
hit_text hit = codes "\n  hit: " ++ start_text hit ++ codes "\n"

-- `; without it: START`, or `; open`
abbrev pub without_text : Option StartInputs → List ℕ
without_text None = codes "; open"
without_text (Some start) = codes "; without it: " ++ start_text start

-- the line of a condition of the set
abbrev pub needed_text : Needed → List ℕ
needed_text n = codes "  needs " ++ kind_text n.kind ++ codes " at " ++ spot_text n.at ++ without_text n.without ++ codes "\n"

abbrev pub needs_text : List Needed → List ℕ
needs_text [] = []
needs_text (n ∷ ns) = needed_text n ++ needs_text ns

-- the query that was given up
abbrev pub phase_text : Phase → List ℕ
phase_text Free = codes "; free query"
phase_text Hit = codes "; hit query"

abbrev pub query_text : Phase → List ℕ
query_text phase = phase_text phase ++ codes "\n"

-- a count and the words behind it
abbrev pub counted : ℕ → List ℕ → List ℕ
counted n words = decimal n ++ words

-- why a unit is skipped
abbrev pub cause_text : Cause → List ℕ
cause_text NoTree = codes "no tree"
cause_text (Rule rule at) = codes "rule " ++ decimal rule ++ codes " at " ++ spot_text at
cause_text (Nodes count) = counted count (codes " nodes")
cause_text (Weight sum) = codes "weight " ++ decimal sum

-- `F functions, C candidates, U unstable, `
abbrev pub found_text : Counts → List ℕ
found_text n = counted n.functions (codes " functions, ") ++ counted n.candidates (codes " candidates, ") ++ counted n.unstable (codes " unstable, ")

-- `D undecided, S skipped`
abbrev pub left_out_text : Counts → List ℕ
left_out_text n = counted n.undecided (codes " undecided, ") ++ counted n.skipped (codes " skipped\n")

-- the text of a line, with its newlines: a report has a line for the fragment, one for the start that hits it, and one
-- for each condition
abbrev pub line_text : Line → List ℕ
line_text (Unstable fragment hit needs) = fragment_text (codes ": unstable: ") fragment ++ hit_text hit ++ needs_text needs
line_text (Undecided fragment phase) = fragment_text (codes ": undecided: ") fragment ++ query_text phase
line_text (Skipped at cause) = spot_text at ++ codes ": skipped: " ++ cause_text cause ++ codes "\n"
line_text (Summary counts without) = found_text counts ++ left_out_text counts
