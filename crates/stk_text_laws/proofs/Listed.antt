-- An input has one list of candidates.
use Rattle.std.proofs.Common.{◌≡◌, ℕ, ◌-◌, Bool, List, [], ◌++◌, length, Option, refl, sym, ap, subst, ◌∙◌, arith}
use Rattle.std.proofs.lemmas.Bool.{false≢true}
use Rattle.std.proofs.lemmas.Option.{slice_get_within}
use Rattle.stk_lex.proofs.OneCut.{one_cut}
use Rattle.stk_lex.specs.declared.token.Token.{Token}
use Rattle.stk_lex.specs.declared.cutting.Piece.{Piece}
use Rattle.stk_lex.specs.Skimming.{kept_tokens, notes_of}
use Rattle.stk_lex.specs.Units.{units_of}
use Rattle.stk_ctype.specs.declared.symbol.NameEntry.{NameEntry}
use Rattle.stk_tree.specs.Syntax as s
use Rattle.stk_numbers.specs.declared.conditions.Kinds.{Kinds}
use Rattle.stk_records.specs.declared.options.AskedScript.{AskedScript}
use Rattle.stk_units.specs.Functions.{unit_typing}
use Rattle.stk_units.specs.Outcomes.{UnitOutcome, IsOutcome, declaring, refusing, leaving, judging}
use Rattle.stk_lint.specs.Queries.{FunctionCandidate, function_candidates, outcome_candidates}
use Rattle.stk_units.specs.Pieces.{body_of_piece, tokens_of_piece}
use Rattle.stk_lint.specs.Candidates.{AreCandidates, of_no_unit, of_unit, AreInputCandidates, IsInputScript, HasFewCandidates}
use Rattle.stk_lint.proofs.Found.{candidates_exist}
use Rattle.stk_text_laws.proofs.Cutting.{cut_of}
use Rattle.stk_accept_laws.proofs.Accepted.{one_tree, one_left, not_both, one_accepted}
use Rattle.stk_text_laws.proofs.Unique.{not_none, one_definition, one_function, same_cause}

-- the same candidates and names
Same : List FunctionCandidate → List FunctionCandidate → List NameEntry → List NameEntry → Type 0
Same all other now later = (all ≡ other) × (now ≡ later)

module _ {bytes : List ℕ} {without : Kinds} {mark : Bool} {es : List NameEntry} {body : Option ℕ} {tokens : List Token} where
  one_outcome : {x y : UnitOutcome} {now later : List NameEntry} → IsOutcome bytes without mark es body tokens x now → IsOutcome bytes without mark es body tokens y later → Same (outcome_candidates bytes now x) (outcome_candidates bytes later y) now later
  unfolding Same
  one_outcome (declaring {now = a} u h plain) (declaring {now = b} v k plain') = (refl, one_accepted bytes mark es tokens u v a b h k)
  one_outcome (declaring {now = a} u h plain) (refusing {now = b} cause k) = absurd (not_both bytes mark es tokens body u a b cause h k)
  one_outcome (declaring {now = a} u h plain) (leaving {now = b} n g cause k because) = absurd (false≢true (sym plain ∙ one_definition bytes mark es tokens u (s.defines n g) a b h k))
  one_outcome (declaring {now = a} u h plain) (judging {now = b} n g k none) = absurd (false≢true (sym plain ∙ one_definition bytes mark es tokens u (s.defines n g) a b h k))
  one_outcome (refusing {now = a} cause h) (declaring {now = b} v k plain) = absurd (not_both bytes mark es tokens body v b a cause k h)
  one_outcome (refusing {now = a} cause h) (refusing {now = b} other k) = (refl, one_left bytes mark es tokens body a b h.leaves k.leaves)
  one_outcome (refusing {now = a} cause h) (leaving {now = b} n g other k because) = absurd (not_both bytes mark es tokens body (s.defines n g) b a cause k h)
  one_outcome (refusing {now = a} cause h) (judging {now = b} n g k none) = absurd (not_both bytes mark es tokens body (s.defines n g) b a cause k h)
  one_outcome (leaving {now = a} n f cause h because) (declaring {now = b} v k plain) = absurd (false≢true (sym plain ∙ one_definition bytes mark es tokens v (s.defines n f) b a k h))
  one_outcome (leaving {now = a} n f cause h because) (refusing {now = b} other k) = absurd (not_both bytes mark es tokens body (s.defines n f) a b other h k)
  one_outcome (leaving {now = a} n f cause h because) (leaving {now = b} m g other k because') = (refl, one_accepted bytes mark es tokens (s.defines n f) (s.defines m g) a b h k)
  one_outcome (leaving {now = a} n f cause h because) (judging {now = b} m g k none) = absurd (not_none _ _ cause (same_cause bytes mark es without tokens (s.defines n f) (s.defines m g) a b h k) because none)
  one_outcome (judging {now = a} n f h none) (declaring {now = b} v k plain) = absurd (false≢true (sym plain ∙ one_definition bytes mark es tokens v (s.defines n f) b a k h))
  one_outcome (judging {now = a} n f h none) (refusing {now = b} cause k) = absurd (not_both bytes mark es tokens body (s.defines n f) a b cause h k)
  one_outcome (judging {now = a} n f h none) (leaving {now = b} m g cause k because) = absurd (not_none _ _ cause (same_cause bytes mark es without tokens (s.defines m g) (s.defines n f) b a k h) because none)
  one_outcome (judging {now = a} n f h none) (judging {now = b} m g k none') =
      let unit : s.defines n f ≡ s.defines m g = one_tree bytes mark es tokens (s.defines n f) (s.defines m g) h.tree k.tree in
      let names : a ≡ b = one_accepted bytes mark es tokens (s.defines n f) (s.defines m g) a b h k in (
        ap (λ z. function_candidates (unit_typing bytes z (s.defines n f)) f) names
            ∙ ap (λ u. function_candidates (unit_typing bytes b u) f) unit
            ∙ ap (λ x. function_candidates (unit_typing bytes b (s.defines m g)) x) (one_function bytes mark es n m f g unit),
        names,
      )

one_of_units : {bytes : List ℕ} {without : Kinds} {tokens : List Token} {es fs : List NameEntry} {ps : List Piece} {all other : List FunctionCandidate} → es ≡ fs → AreCandidates bytes without tokens es ps all → AreCandidates bytes without tokens fs ps other → all ≡ other
unfolding Same
one_of_units names of_no_unit of_no_unit = refl
one_of_units {bytes = bytes} {without = without} {tokens = tokens} names (of_unit {now = now} {p = p} {others = more} x h hs) (of_unit {now = later} {others = others} y k ks) =
    let there = subst (λ (z : List NameEntry). IsOutcome bytes without p.no_return z (body_of_piece p) (tokens_of_piece tokens p) y later) (sym names) k in
    let first = one_outcome h there in
    ap (λ l. l ++ more) first.0 ∙ ap (λ l. outcome_candidates bytes later y ++ l) (one_of_units first.1 hs ks)

pub one_list_of_candidates : (bytes : List ℕ) (without : Kinds) (all other : List FunctionCandidate) → AreInputCandidates bytes without all → AreInputCandidates bytes without other → all ≡ other
one_list_of_candidates bytes without all other h k =
    let cut : h.tokens ≡ k.tokens = one_cut bytes h.tokens k.tokens h.cut k.cut in
    one_of_units refl h.are (subst (λ (ts : List Token). AreCandidates bytes without (kept_tokens bytes ts) [] (units_of bytes (kept_tokens bytes ts) (notes_of bytes ts)) other) (sym cut) k.are)

pub never_both : (bytes : List ℕ) (without : Kinds) (asked : AskedScript) (text : List ℕ) → IsInputScript bytes without asked text → HasFewCandidates bytes without asked → ⊥
never_both bytes without asked text h k =
    let same = one_list_of_candidates bytes without h.all k.all h.candidates k.candidates in
    let within = slice_get_within h.all (asked.number - 1) h.script.found h.script.stands in
    absurd (omega (arith, within, k.few, h.script.counted, ap length same))

pub each_has_candidates : (bytes : List ℕ) (without : Kinds) → (all : List FunctionCandidate) × AreInputCandidates bytes without all
each_has_candidates bytes without =
    let cut = cut_of bytes in
    let kept = kept_tokens bytes cut.0 in
    let found = candidates_exist bytes without kept [] (units_of bytes kept (notes_of bytes cut.0)) in
    (found.all, record { tokens = cut.0; cut = cut.1; are = found.are })
