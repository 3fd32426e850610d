-- What the top call does: how it ends, what it wrote, and what it tells of a failure.
use Rattle.std.specs.Prelude.{◌≡◌, ℕ, Bool, true, false, List, [], Option, None, Some, Result, Ok, Err, codes}
use Rattle.stk_base.specs.declared.status.Status.{Status}
use Rattle.stk_base.specs.declared.status.Status.TheVariants.{Stable, Found, Unsure, BadWords, ReadFault, WriteFault, TooLarge, NoMemory, NoCandidate}
use Rattle.stk_base.specs.Streams.{Appended, AppendedPrefix, IsFlushed}
use Rattle.stk_records.specs.declared.options.Options.{Options}
use Rattle.stk_records.specs.declared.options.AskedScript.{AskedScript}
use Rattle.stk_records.specs.Words.{AreLegal}
use Rattle.stk_records.specs.declared.writing.Stop.{Stop}
use Rattle.stk_records.specs.declared.writing.Stop.TheVariants as stops
use Rattle.stk_spent_queries.specs.Marks.{AreCounted}
use Rattle.stk_gen.specs.Generated.{source_of}
use Rattle.stk_bundles.specs.Bundles.{IsLawfulBundle, IsBundleFront}
use Rattle.stk_lint.specs.LawfulText.{IsLawfulText}
use Rattle.stk_lint.specs.Candidates.{IsInputScript, HasFewCandidates}

-- the records were written: the run ended stable, or found something, or is unsure
abbrev pub IsWritten : Status → Type 0
IsWritten Stable = Unit {0}
IsWritten Found = Unit {0}
IsWritten Unsure = Unit {0}
IsWritten status = ⊥

-- nothing was written, since it didn't come so far: the words are bad, or the input wasn't read whole
abbrev pub IsUnread : Status → Type 0
IsUnread BadWords = Unit {0}
IsUnread ReadFault = Unit {0}
IsUnread TooLarge = Unit {0}
IsUnread status = ⊥

-- the line that tells of a failure; nothing where there is none
abbrev pub fault_line : Status → List ℕ
fault_line Stable = []
fault_line Found = []
fault_line Unsure = []
fault_line BadWords = codes "stack: bad words\n"
fault_line ReadFault = codes "stack: the input cannot be read\n"
fault_line WriteFault = codes "stack: the output cannot be written\n"
fault_line TooLarge = codes "stack: the input is larger than 16777216 bytes\n"
fault_line NoMemory = codes "stack: no memory\n"
fault_line NoCandidate = codes "stack: no such candidate\n"

-- these words on the command line are legal
pub record IsLegal (words : List (List ℕ)) : Type 0 where
  pub options : Options
  pub are : AreLegal words options

-- these words on the command line are legal, and don't ask for a generated text
pub record AskForReading (words : List (List ℕ)) : Type 0 where
  pub options : Options
  pub are : AreLegal words options
  pub generate : options.generate ≡ None

-- these words on the command line are legal, and ask for a script
pub record AskForScript (words : List (List ℕ)) : Type 0 where
  pub options : Options
  pub are : AreLegal words options
  pub asked : AskedScript
  pub script : options.script ≡ Some asked

-- What is lawful to be written of these bytes under these options, with the status that goes with it, and how often it
-- says that a query was given up: records; or where the options ask for it a bundle; or the script of a candidate, and
-- then the run ends stable.
abbrev pub IsLawfulOutput : List ℕ → Options → Option AskedScript → Bool → List ℕ → Status → ℕ → Type 0
IsLawfulOutput bytes o None false text status marks = IsLawfulText bytes o text status marks
IsLawfulOutput bytes o None true text status marks = IsLawfulBundle bytes o.without o.budget text status marks
IsLawfulOutput bytes o (Some asked) bundle text status marks = IsInputScript bytes o.without asked text × (status ≡ Stable) × (marks ≡ 0)

-- What some prefix is written of where the writing stops: lawful records; a lawful bundle, or what one may begin with;
-- or the script.
abbrev pub IsLawfulFront : List ℕ → Options → Option AskedScript → Bool → List ℕ → Type 0
IsLawfulFront bytes o None false text = (status : Status) × ((marks : ℕ) × IsLawfulText bytes o text status marks)
IsLawfulFront bytes o None true text = IsBundleFront bytes o.without o.budget text
IsLawfulFront bytes o (Some asked) bundle text = IsInputScript bytes o.without asked text

-- Which bytes a run judges: those that the source had left, where it tells them, and then it has none left. Where the
-- options ask for it, the text that their number generates, and then the source is left as it was.
abbrev pub IsInput : Option (ℕ × ℕ) → Option (List ℕ) → Option (List ℕ) → List ℕ → Type 0
IsInput None before after bytes = (left : List ℕ) → before ≡ Some left → (bytes ≡ left) × (after ≡ Some [])
IsInput (Some asked) before after bytes = (bytes ≡ source_of asked.0 asked.1) × (after ≡ before)

-- The bytes were gathered, and the sink took a text that is lawful for them and the options that the words ask for,
-- with this status, and was flushed. A count of goals that were given up tells of what its lines say is undecided or
-- open.
pub record HasWritten (words : List (List ℕ)) (left_before left_after taken_before taken_after : Option (List ℕ)) (flushed given_before given_after : ℕ) (status : Status) : Type 0 where
  pub options : Options
  pub legal : AreLegal words options
  pub bytes : List ℕ
  pub text : List ℕ
  pub marks : ℕ
  pub lawful : IsLawfulOutput bytes options options.script options.bundle text status marks
  pub input : IsInput options.generate left_before left_after bytes
  pub written : Appended taken_before taken_after text
  pub flush : IsFlushed taken_after flushed
  pub counted : AreCounted given_before given_after marks

-- The bytes were gathered, and the sink took some prefix of a text that is lawful for them and the options.
pub record HasWrittenPrefix (words : List (List ℕ)) (left_before left_after taken_before taken_after : Option (List ℕ)) : Type 0 where
  pub options : Options
  pub legal : AreLegal words options
  pub bytes : List ℕ
  pub text : List ℕ
  pub front : IsLawfulFront bytes options options.script options.bundle text
  pub input : IsInput options.generate left_before left_after bytes
  pub written : AppendedPrefix taken_before taken_after text

-- The words ask for a script, the bytes were gathered, and they have fewer candidates than are asked for.
pub record HasTooFew (words : List (List ℕ)) (left_before left_after : Option (List ℕ)) : Type 0 where
  pub options : Options
  pub legal : AreLegal words options
  pub asked : AskedScript
  pub script : options.script ≡ Some asked
  pub bytes : List ℕ
  pub few : HasFewCandidates bytes options.without asked
  pub input : IsInput options.generate left_before left_after bytes

-- the status after the text was written, or after what stopped that
abbrev pub status_after : Result Status Stop → Status
status_after (Ok status) = status
status_after (Err stops.WriteFault) = WriteFault
status_after (Err stops.NoMemory) = NoMemory

-- the same of one sink and bytes that are given
pub record TookText (bytes : List ℕ) (o : Options) (taken_before taken_after : Option (List ℕ)) (flushed given_before given_after : ℕ) (status : Status) : Type 0 where
  pub text : List ℕ
  pub marks : ℕ
  pub lawful : IsLawfulOutput bytes o o.script o.bundle text status marks
  pub written : Appended taken_before taken_after text
  pub flush : IsFlushed taken_after flushed
  pub counted : AreCounted given_before given_after marks

pub record TookPrefix (bytes : List ℕ) (o : Options) (taken_before taken_after : Option (List ℕ)) : Type 0 where
  pub text : List ℕ
  pub front : IsLawfulFront bytes o o.script o.bundle text
  pub written : AppendedPrefix taken_before taken_after text

-- the options ask for a script, and the bytes have fewer candidates than are asked for
pub record TookNothing (bytes : List ℕ) (o : Options) (taken_before taken_after : Option (List ℕ)) (flushed_before flushed_after : ℕ) : Type 0 where
  pub asked : AskedScript
  pub script : o.script ≡ Some asked
  pub few : HasFewCandidates bytes o.without asked
  pub taken : taken_after ≡ taken_before
  pub flushed : flushed_after ≡ flushed_before
