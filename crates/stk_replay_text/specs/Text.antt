-- The text of the lines of a replay.
use Rattle.std.specs.Prelude.{ℕ, Bool, true, false, List, [], ◌∷◌, ◌++◌, Option, Some, None, codes}
use Rattle.stk_records.specs.declared.line.Spot.{Spot}
use Rattle.stk_records.specs.declared.line.Claim.{Claim}
use Rattle.stk_records.specs.Text.{spot_text, claim_text, kind_text}
use Rattle.stk_replay_text.specs.declared.line.ReplayLine.{ReplayLine}
use Rattle.stk_replay_text.specs.declared.line.ReplayLine.TheVariants.{Violated, Entered, Seen, Hit, Fell, Returned, Cut}

abbrev pub truth_text : Bool → List ℕ
truth_text true = codes "true"
truth_text false = codes "false"

-- the truth of a replacement, where there is one
abbrev pub replaced_text : Option Bool → List ℕ
replaced_text None = []
replaced_text (Some truth) = codes ", replacement " ++ truth_text truth

-- `PLACE: seen TRUTH`, and `, replacement TRUTH` behind it
abbrev pub seen_text : Spot → Bool → Option Bool → List ℕ
seen_text at truth replaced = spot_text at ++ codes ": seen " ++ truth_text truth ++ replaced_text replaced

-- `hits CLAIM at PLACE`
abbrev pub hit_text : Spot → Claim → List ℕ
hit_text at claim = codes "hits " ++ claim_text claim ++ codes " at " ++ spot_text at

-- the text of a line, without its newline
abbrev pub line_text : ReplayLine → List ℕ
line_text (Violated at kind) = spot_text at ++ codes ": ub " ++ kind_text kind
line_text (Entered at) = spot_text at ++ codes ": enter"
line_text (Seen at truth replaced) = seen_text at truth replaced
line_text (Hit at claim) = hit_text at claim
line_text Fell = codes "end: fell"
line_text Returned = codes "end: returned"
line_text Cut = codes "end: cut"

abbrev pub lines_text : List ReplayLine → List ℕ
lines_text [] = []
lines_text (x ∷ xs) = line_text x ++ codes "\n" ++ lines_text xs
