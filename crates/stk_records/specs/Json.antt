-- Lines as JSON: one object a line, its keys in the order of their bytes (RFC 8259).
use Rattle.std.specs.Prelude.{ℕ, Bool, ◌&&◌, ◌-◌, ◌^◌, if◌then◌else◌, List, [], ◌∷◌, ◌++◌, Option, Some, None, map, codes, ℤ, pos, negsuc, int_le}
use Rattle.serde_json.specs.Data.{Data, null, string, array, object, number, unsigned, no_items, item, Members, no_members, member, put}
use Rattle.serde_json.specs.Find.{of_integer}
use Rattle.serde_json.specs.View.{items_of}
use Rattle.serde_json.specs.Written.{compact_text}
use Rattle.stk_numbers.specs.declared.conditions.UbKind.{UbKind}
use Rattle.stk_numbers.specs.declared.conditions.UbKind.TheVariants as kinds
use Rattle.stk_numbers.specs.declared.conditions.Kinds.{Kinds}
use Rattle.stk_numbers.specs.Taken.{is_taken}
use Rattle.stk_records.specs.Kinds.{kind_name}
use Rattle.stk_meaning.specs.declared.finding.Phase.{Phase}
use Rattle.stk_meaning.specs.declared.finding.Phase.TheVariants.{Free, Hit}
use Rattle.stk_records.specs.declared.counts.Counts.{Counts}
use Rattle.stk_records.specs.declared.line.Spot.{Spot}
use Rattle.stk_records.specs.declared.line.Claim.{Claim}
use Rattle.stk_records.specs.declared.line.Claim.TheVariants.{NeverEntered, AlwaysTrue, AlwaysFalse, SameAs}
use Rattle.stk_records.specs.declared.line.Fragment.{Fragment}
use Rattle.stk_records.specs.declared.line.Input.{Input}
use Rattle.stk_records.specs.declared.line.StartInputs.{StartInputs}
use Rattle.stk_records.specs.declared.line.Needed.{Needed}
use Rattle.stk_records.specs.declared.line.Cause.{Cause}
use Rattle.stk_records.specs.declared.line.Cause.TheVariants.{NoTree, Rule, Nodes, Weight}
use Rattle.stk_records.specs.declared.line.Line.{Line}
use Rattle.stk_records.specs.declared.line.Line.TheVariants.{Unstable, Undecided, Skipped, Summary}
use Rattle.stk_records.specs.Text.{printed, file_text, kind_text}

-- whether a number of 64 bits with or without a sign is this one; each number of a start is one
abbrev pub fits_word : ℤ → Bool
fits_word z = int_le (negsuc (2 ^ 63 - 1)) z && int_le z (pos (2 ^ 64 - 1))

abbrev pub number_data : ℤ → Data
number_data z = if fits_word z then number (of_integer z) else null

-- a count
abbrev pub count_data : ℕ → Data
count_data n = number (unsigned n)

-- a name as it is printed
abbrev pub name_data : List ℕ → Data
name_data bytes = string (printed bytes)

-- a start: pairs of a key and a number
abbrev pub input_data : Input → Data
input_data x = array (item (name_data x.key) (item (number_data x.number) no_items))

abbrev pub start_data : StartInputs → Data
start_data s = array (items_of (map input_data s.inputs))

-- the start that shows that a condition is needed; null where that is open
abbrev pub without_data : Option StartInputs → Data
without_data None = null
without_data (Some start) = start_data start

abbrev pub needed_data : Needed → Data
needed_data n =
    object (member (codes "column") (count_data n.at.column)
    (member (codes "file") (string (file_text n.at.file))
    (member (codes "kind") (string (kind_text n.kind))
    (member (codes "line") (count_data n.at.line)
    (member (codes "without") (without_data n.without) no_members)))))

-- what a candidate is
abbrev pub claim_word : Claim → List ℕ
claim_word NeverEntered = codes "arm"
claim_word AlwaysTrue = codes "always true"
claim_word AlwaysFalse = codes "always false"
claim_word (SameAs text) = codes "algebra"

-- the replacement, of an `algebra` alone, in front of other members
abbrev pub with_replacement : Claim → Members → Members
with_replacement NeverEntered ms = ms
with_replacement AlwaysTrue ms = ms
with_replacement AlwaysFalse ms = ms
with_replacement (SameAs text) ms = member (codes "replacement") (name_data text) ms

-- the same for members that are at hand
abbrev pub replaced_members : Claim → Members → Members
replaced_members NeverEntered ms = ms
replaced_members AlwaysTrue ms = ms
replaced_members AlwaysFalse ms = ms
replaced_members (SameAs text) ms = put (codes "replacement") (name_data text) ms

-- the members of a fragment that is unstable or undecided, which a word says
abbrev pub fragment_members : List ℕ → Fragment → Members
fragment_members what x =
    member (codes "candidate") (string (claim_word x.claim))
    (member (codes "column") (count_data x.at.column)
    (member (codes "file") (string (file_text x.at.file))
    (member (codes "function") (name_data x.function)
    (member (codes "line") (count_data x.at.line)
    (with_replacement x.claim (member (codes "type") (string what) no_members))))))

abbrev pub unstable_data : Fragment → StartInputs → List Needed → Data
unstable_data x hit needs =
    object (member (codes "candidate") (string (claim_word x.claim))
    (member (codes "column") (count_data x.at.column)
    (member (codes "file") (string (file_text x.at.file))
    (member (codes "function") (name_data x.function)
    (member (codes "hit") (start_data hit)
    (member (codes "line") (count_data x.at.line)
    (member (codes "needs") (array (items_of (map needed_data needs)))
    (with_replacement x.claim (member (codes "type") (string (codes "unstable")) no_members)))))))))

abbrev pub phase_word : Phase → List ℕ
phase_word Free = codes "free"
phase_word Hit = codes "hit"

abbrev pub undecided_data : Fragment → Phase → Data
undecided_data x phase =
    object (member (codes "candidate") (string (claim_word x.claim))
    (member (codes "column") (count_data x.at.column)
    (member (codes "file") (string (file_text x.at.file))
    (member (codes "function") (name_data x.function)
    (member (codes "line") (count_data x.at.line)
    (member (codes "phase") (string (phase_word phase))
    (with_replacement x.claim (member (codes "type") (string (codes "undecided")) no_members))))))))

-- members with those of a place
abbrev pub with_spot : Spot → Members → Members
with_spot p ms = put (codes "line") (count_data p.line) (put (codes "file") (string (file_text p.file)) (put (codes "column") (count_data p.column) ms))

-- a place
abbrev pub spot_data : Spot → Data
spot_data p =
    object (member (codes "column") (count_data p.column)
    (member (codes "file") (string (file_text p.file))
    (member (codes "line") (count_data p.line) no_members)))

-- the members of a unit that is skipped
abbrev pub skipped_members : Spot → List ℕ → Members
skipped_members p cause =
    member (codes "cause") (string cause)
    (member (codes "column") (count_data p.column)
    (member (codes "file") (string (file_text p.file))
    (member (codes "line") (count_data p.line)
    (member (codes "type") (string (codes "skipped")) no_members))))

-- one that a rule refuses, at a node
abbrev pub ruled_data : Spot → ℕ → Spot → Data
ruled_data p rule at =
    object (member (codes "at") (spot_data at)
    (member (codes "cause") (string (codes "rule"))
    (member (codes "column") (count_data p.column)
    (member (codes "file") (string (file_text p.file))
    (member (codes "line") (count_data p.line)
    (member (codes "rule") (count_data rule)
    (member (codes "type") (string (codes "skipped")) no_members)))))))

-- one that is skipped for a count
abbrev pub counted_data : Spot → List ℕ → ℕ → Data
counted_data p cause count =
    object (member (codes "cause") (string cause)
    (member (codes "column") (count_data p.column)
    (member (codes "count") (count_data count)
    (member (codes "file") (string (file_text p.file))
    (member (codes "line") (count_data p.line)
    (member (codes "type") (string (codes "skipped")) no_members))))))

abbrev pub skipped_data : Spot → Cause → Data
skipped_data p NoTree = object (skipped_members p (codes "no tree"))
skipped_data p (Rule rule at) = ruled_data p rule at
skipped_data p (Nodes count) = counted_data p (codes "nodes") count
skipped_data p (Weight sum) = counted_data p (codes "weight") sum

-- the kinds in the order of their numbers
abbrev pub all_kinds : List UbKind
all_kinds = kinds.Overflow ∷ kinds.Zero ∷ kinds.Shift ∷ kinds.Null ∷ kinds.Pointer ∷ kinds.Bounds ∷ kinds.AbsValue ∷ kinds.Overlap ∷ []

-- the words of those of these kinds that are taken out
abbrev pub taken_words : Kinds → List UbKind → List Data
taken_words without [] = []
taken_words without (k ∷ ks) = (if is_taken without k then string (kind_name k) ∷ [] else []) ++ taken_words without ks

-- the counts alone
abbrev pub counts_members : Counts → Members
counts_members n =
    member (codes "candidates") (count_data n.candidates)
    (member (codes "functions") (count_data n.functions)
    (member (codes "skipped") (count_data n.skipped)
    (member (codes "undecided") (count_data n.undecided)
    (member (codes "unstable") (count_data n.unstable) no_members))))

-- the summary, of this version of the records
abbrev pub summary_data : Counts → Kinds → Data
summary_data n without =
    object (member (codes "candidates") (count_data n.candidates)
    (member (codes "functions") (count_data n.functions)
    (member (codes "skipped") (count_data n.skipped)
    (member (codes "type") (string (codes "summary"))
    (member (codes "undecided") (count_data n.undecided)
    (member (codes "unstable") (count_data n.unstable)
    (member (codes "version") (count_data 2)
    (member (codes "without") (array (items_of (taken_words without all_kinds))) no_members))))))))

abbrev pub line_data : Line → Data
line_data (Unstable fragment hit needs) = unstable_data fragment hit needs
line_data (Undecided fragment phase) = undecided_data fragment phase
line_data (Skipped at cause) = skipped_data at cause
line_data (Summary counts without) = summary_data counts without

-- a line: the object without a space, and a newline
abbrev pub json_text : Line → List ℕ
json_text line = compact_text (line_data line) ++ 10 ∷ []
