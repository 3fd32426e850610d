-- How an audit of an input ends, and what it tells of a failure.
use Rattle.std.specs.Prelude.{◌≡◌, ◌≢◌, ◌<◌, ◌⊎◌, ℕ, List, [], length, Option, Some, Result, Ok, Err, codes}
use Rattle.stk_base.specs.declared.status.Status.{Status}
use Rattle.stk_base.specs.declared.status.Status.TheVariants.{Stable, Found, BadWords, ReadFault, WriteFault, TooLarge, NoMemory}
use Rattle.stk_base.specs.Streams.{Appended, AppendedPrefix, IsFlushed, IsSpent}
use Rattle.stk_records.specs.declared.writing.Stop.{Stop}
use Rattle.stk_records.specs.declared.writing.Stop.TheVariants as stops
use Rattle.stk_audit_rules.specs.declared.audit.Audit.{Audit}
use Rattle.stk_audit_main.specs.Parts.{IsSplit, HasLargePart, most_input}
use Rattle.stk_audit_main.specs.Answering.{IsAuditOf, answer_text, answer_status}

-- the answer was written: each line of the bundle holds, or one fails
abbrev pub IsAnswered : Status → Type 0
IsAnswered Stable = Unit {0}
IsAnswered Found = Unit {0}
IsAnswered status = ⊥

-- it didn't come so far: there are words, or the input wasn't read whole, or is too large
abbrev pub IsUnaudited : Status → Type 0
IsUnaudited BadWords = Unit {0}
IsUnaudited ReadFault = Unit {0}
IsUnaudited TooLarge = Unit {0}
IsUnaudited status = ⊥

-- the line that tells of a failure; nothing where there is none
abbrev pub fault_line : Status → List ℕ
fault_line BadWords = codes "stack: bad words\n"
fault_line ReadFault = codes "stack: the input cannot be read\n"
fault_line WriteFault = codes "stack: the output cannot be written\n"
fault_line TooLarge = codes "stack: the input is too large\n"
fault_line NoMemory = codes "stack: no memory\n"
fault_line status = []

-- of a bundle and its source: a sink took the answer of the audit, and was flushed
pub record TookAnswerOf (bundle source : List ℕ) (taken_before taken_after : Option (List ℕ)) (flushed : ℕ) (status : Status) : Type 0 where
  pub answer : Audit
  pub audited : IsAuditOf bundle source answer
  pub written : Appended taken_before taken_after (answer_text answer)
  pub flush : IsFlushed taken_after flushed
  pub same_status : status ≡ answer_status answer

-- or it took some prefix of it
pub record TookPrefixOf (bundle source : List ℕ) (taken_before taken_after : Option (List ℕ)) : Type 0 where
  pub answer : Audit
  pub audited : IsAuditOf bundle source answer
  pub written : AppendedPrefix taken_before taken_after (answer_text answer)

-- the same of an input that has both
pub record TookAnswer (bytes : List ℕ) (taken_before taken_after : Option (List ℕ)) (flushed : ℕ) (status : Status) : Type 0 where
  pub bundle : List ℕ
  pub source : List ℕ
  pub split : IsSplit bytes bundle source
  pub took : TookAnswerOf bundle source taken_before taken_after flushed status

pub record TookPrefix (bytes : List ℕ) (taken_before taken_after : Option (List ℕ)) : Type 0 where
  pub bundle : List ℕ
  pub source : List ℕ
  pub split : IsSplit bytes bundle source
  pub took : TookPrefixOf bundle source taken_before taken_after

-- which bytes were read: all that the source of bytes had left, where it tells them, and then it has none left
abbrev pub IsInput : Option (List ℕ) → Option (List ℕ) → List ℕ → Type 0
IsInput before after bytes = (left : List ℕ) → before ≡ Some left → (bytes ≡ left) × (after ≡ Some [])

-- the input was read to its end, and the answer of its audit was written
pub record HasAnswered (left_before left_after taken_before taken_after : Option (List ℕ)) (flushed : ℕ) (status : Status) : Type 0 where
  pub bytes : List ℕ
  pub input : IsInput left_before left_after bytes
  pub took : TookAnswer bytes taken_before taken_after flushed status

pub record HasAnsweredPrefix (left_before left_after taken_before taken_after : Option (List ℕ)) : Type 0 where
  pub bytes : List ℕ
  pub input : IsInput left_before left_after bytes
  pub took : TookPrefix bytes taken_before taken_after

-- an input was read to its end: nothing is left, and neither a failed call nor want of memory stopped that before
pub record WasReadWhole (left_after : Option (List ℕ)) (status : Status) : Type 0 where
  pub spent : IsSpent left_after
  pub not_failed : status ≢ ReadFault
  pub not_short : status ≢ NoMemory

-- what came of an input is too large: more than an input may have; or all of it came, and a part of it is
abbrev pub CameTooLarge : List ℕ → Option (List ℕ) → Status → Type 0
CameTooLarge came left_after status = (most_input < length came) ⊎ (WasReadWhole left_after status × HasLargePart came)

-- an input is too large
abbrev pub IsTooLarge : List ℕ → Type 0
IsTooLarge bytes = (most_input < length bytes) ⊎ HasLargePart bytes

-- the status after the answer was written, or after what stopped that
abbrev pub status_after : Result Status Stop → Status
status_after (Ok status) = status
status_after (Err stops.WriteFault) = WriteFault
status_after (Err stops.NoMemory) = NoMemory
