-- What the definitions say of small texts.
use Rattle.std.proofs.Common.{◌≡◌, List, [], ◌∷◌, Some, None, codes, refl}
use Rattle.std.specs.Fmt.{digits}
use Rattle.stk_numbers.specs.declared.conditions.UbKind.TheVariants as ub
use Rattle.stk_bundle.specs.declared.line.BundleLine.{BundleLine}
use Rattle.stk_bundle.specs.declared.line.BundleLine.TheVariants.{Head, Source, Without, Function, Unstable, Hit, Need, Tried, Clauses, End}
use Rattle.stk_bundle.specs.declared.stage.Stage.TheVariants as stage
use Rattle.stk_bundle.specs.Lines.{line_text}
use Rattle.stk_bundle.specs.Blocks.{IsBlock}
use Rattle.stk_bundle.specs.Grammar.{stage_behind}

-- the lines of a bundle of two claims
abbrev two_claims : List BundleLine
two_claims =
    Head ∷ Source 74 ∷ Without [] ∷ Function 0
    ∷ Unstable 12 3 ∷ Hit (0 ∷ []) ∷ Need 8 2 (0 ∷ []) ∷ Tried
    ∷ Unstable 14 1 ∷ Hit (0 ∷ []) ∷ Need 8 2 (0 ∷ []) ∷ Tried ∷ End ∷ []

whole_bundle : stage_behind stage.Start two_claims ≡ Some stage.Ended
whole_bundle = refl

need_line : line_text (Need 8 2 (0 ∷ [])) ≡ codes "need 8 2 0"
unfolding digits
need_line = refl

without_line : line_text (Without []) ≡ codes "without -"
without_line = refl

-- kinds stand as they are written
kinds_line : line_text (Without (ub.Shift ∷ ub.Zero ∷ [])) ≡ codes "without shift,zero"
kinds_line = refl

-- a function needs no key
no_keys : line_text (Hit []) ≡ codes "hit"
no_keys = refl

-- a function line without a claim or `left` behind it
empty_function : stage_behind stage.Opened (Function 0 ∷ Function 75 ∷ []) ≡ None
empty_function = refl

-- `lrat` is missing behind the clauses
no_steps : stage_behind stage.Opened (Function 0 ∷ Unstable 12 3 ∷ Hit [] ∷ Clauses 3 ∷ End ∷ []) ≡ None
no_steps = refl

-- a block of two lines
two_lines : IsBlock 2 (codes "p cnf 1 1\n1 0\n")
two_lines = record { count = refl; ends = refl }
