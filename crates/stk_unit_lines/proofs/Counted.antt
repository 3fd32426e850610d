-- A unit counts for at most 80,000 a token.
use Rattle.std.proofs.Common.{ℕ, ◌*◌, ◌<◌, Bool, List, length, Option, arith}
use Rattle.stk_lex.specs.declared.token.Token.{Token}
use Rattle.stk_ctype.specs.declared.symbol.NameEntry.{NameEntry}
use Rattle.stk_tree.specs.Syntax as s
use Rattle.stk_numbers.specs.declared.conditions.Kinds.{Kinds}
use Rattle.stk_meaning.specs.Lists.{candidates}
use Rattle.stk_type_laws.proofs.FewCandidates.{few_candidates}
use Rattle.stk_records.specs.declared.counts.Counts.{Counts}
use Rattle.stk_units.specs.Functions.{unit_typing}
use Rattle.stk_units.proofs.Counts.{AreAtMost, nothing_most, skipped_most, judged_most, length_same}
use Rattle.stk_units.proofs.Measures.{small}
use Rattle.stk_unit_lines.specs.UnitLines.{IsUnitLines, accepted, refused, unjudged, judged}

pub unit_most : (bytes : List ℕ) (without : Kinds) (budget : ℕ) (mark : Bool) (es now : List NameEntry) (body : Option ℕ) (tokens : List Token) (counts : Counts) {lines : _} → 0 < length tokens → IsUnitLines bytes without budget mark es body tokens lines counts now → AreAtMost (80000 * length tokens) counts
unit_most bytes without budget mark es now body tokens counts some (accepted u is none) = nothing_most (80000 * length tokens)
unit_most bytes without budget mark es now body tokens counts some (refused cause is) = skipped_most (80000 * length tokens) (omega (arith, some))
unit_most bytes without budget mark es now body tokens counts some (unjudged n f cause is because) = skipped_most (80000 * length tokens) (omega (arith, some))
unit_most bytes without budget mark es now body tokens counts some (judged n f xs is none lawful) =
    let ty = unit_typing bytes now (s.defines n f) in
    let nodes = (small bytes without now (s.defines n f) none).nodes in
    judged_most (80000 * length tokens) xs (omega (arith, some)) (omega (arith, few_candidates ty f n, nodes, length_same _ (candidates ty f) xs lawful, some))
