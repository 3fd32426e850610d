-- The texts of parts, one behind the other.
use Rattle.std.proofs.Common.{◌≡◌, ℕ, Bool, true, false, List, [], ◌∷◌, ◌++◌, append_assoc, refl, sym, ap, ◌∙◌}
use Rattle.std.proofs.lemmas.List.{append-nil}
use Rattle.stk_ctype.specs.declared.kind.IntKind.{IntKind}
use Rattle.stk_numbers.specs.declared.conditions.Candidate.{Candidate}
use Rattle.stk_numbers.specs.declared.conditions.Inputs.{Inputs}
use Rattle.stk_meaning.specs.declared.finding.Need.{Need}
use Rattle.stk_bundle.specs.Bundles.{LineBlock, part_text, parts_text}
use Rattle.stk_claims.specs.declared.closing.Closing.{Closing}
use Rattle.stk_claims.specs.declared.closing.Closing.TheVariants.{Tried, Refuted, GivenUp}
use Rattle.stk_claims.specs.Parts.{report_parts, head_parts, further_parts}

pub parts_append : (ps qs : List LineBlock) → parts_text (ps ++ qs) ≡ parts_text ps ++ parts_text qs
parts_append [] qs = refl
parts_append (p ∷ ps) qs = ap (λ t. part_text p ++ t) (parts_append ps qs) ∙ sym (append_assoc (part_text p) (parts_text ps) (parts_text qs))

-- one part, and two, behind a text
pub one_added : (old new : List ℕ) (p : LineBlock) → new ≡ old ++ part_text p → new ≡ old ++ parts_text (p ∷ [])
one_added old new p e = e ∙ ap (λ t. old ++ t) (sym (append-nil (part_text p)))

pub two_added : (old next new : List ℕ) (p q : LineBlock) → next ≡ old ++ part_text p → new ≡ next ++ part_text q → new ≡ old ++ parts_text (p ∷ q ∷ [])
two_added old next new p q d e =
    one_added next new q e ∙ ap (λ t. t ++ parts_text (q ∷ [])) d ∙ append_assoc old (part_text p) (parts_text (q ∷ []))

-- parts behind parts
pub more_added : (old next new : List ℕ) (ps qs : List LineBlock) → next ≡ old ++ parts_text ps → new ≡ next ++ parts_text qs → new ≡ old ++ parts_text (ps ++ qs)
more_added old next new ps qs d e =
    e ∙ ap (λ t. t ++ parts_text qs) d ∙ append_assoc old (parts_text ps) (parts_text qs) ∙ ap (λ t. old ++ t) (sym (parts_append ps qs))

-- the line of a function in front of the parts of a report
headed : (at : ℕ) (begun : Bool) (kinds : List IntKind) (c : Candidate) (start : Inputs) (needs : List Need) (x : Closing)
    → head_parts at begun ++ report_parts kinds c start needs x ≡ further_parts at begun (report_parts kinds c start needs x)
headed at true kinds c start needs x = refl
headed at false kinds c start needs Tried = refl
headed at false kinds c start needs (Refuted list d) = refl
headed at false kinds c start needs GivenUp = refl

pub whole_text : (next new : List ℕ) (at : ℕ) (begun : Bool) (kinds : List IntKind) (c : Candidate) (start : Inputs) (needs : List Need) (x : Closing)
    → next ≡ [] ++ parts_text (head_parts at begun) → new ≡ next ++ parts_text (report_parts kinds c start needs x) → new ≡ parts_text (further_parts at begun (report_parts kinds c start needs x))
whole_text next new at begun kinds c start needs x d e =
    more_added [] next new (head_parts at begun) (report_parts kinds c start needs x) d e ∙ ap parts_text (headed at begun kinds c start needs x)
