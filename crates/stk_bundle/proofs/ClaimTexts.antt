-- Lines of claims stand where claims may stand.
use Rattle.std.proofs.Common.{◌≡◌, List, [], ◌∷◌, ◌++◌, map, Option, Some, None, refl, ◌∙◌}
use Rattle.stk_ctype.specs.declared.kind.IntKind.{IntKind}
use Rattle.stk_numbers.specs.declared.conditions.Condition.{Condition}
use Rattle.stk_numbers.specs.declared.conditions.Inputs.{Inputs}
use Rattle.stk_meaning.specs.declared.finding.Finding.TheVariants as finding
use Rattle.stk_meaning.specs.declared.finding.Need.{Need}
use Rattle.stk_bundle.specs.declared.line.BundleLine.{BundleLine}
use Rattle.stk_bundle.specs.declared.line.BundleLine.TheVariants as line
use Rattle.stk_bundle.specs.declared.stage.Stage.TheVariants as stage
use Rattle.stk_bundle.specs.Grammar.{stage_behind}
use Rattle.stk_bundle.specs.Claims.{member_line, need_line, ClaimsStand, FirstClaimsStand}

member_stands : (keys : List IntKind) (k : Condition) (o : Option Inputs) (ls : List BundleLine) → stage_behind stage.Set (member_line keys k o ∷ ls) ≡ stage_behind stage.Set ls
member_stands keys k (Some start) ls = refl
member_stands keys k None ls = refl

needs_stand : (keys : List IntKind) (needs : List Need) → stage_behind stage.Set (map (need_line keys) needs ++ line.Tried ∷ []) ≡ Some stage.Item
needs_stand keys [] = refl
needs_stand keys (n ∷ ns) = member_stands keys n.condition n.shown (map (need_line keys) ns ++ line.Tried ∷ []) ∙ needs_stand keys ns

pub claims_are_whole : ClaimsStand
claims_are_whole keys c finding.Clear = refl
claims_are_whole keys c (finding.Unstable start needs) = needs_stand keys needs
claims_are_whole keys c (finding.Undecided phase) = refl

pub first_is_whole : FirstClaimsStand
first_is_whole keys c start needs = needs_stand keys needs
