-- How the claims of a function's findings are written, one after the other.
use Rattle.std.proofs.Common.{◌≡◌, ℕ, zero, suc, ◌+◌, ◌<◌, ◌≤◌, ◌^◌, inl, inr, Bool, false, ◌||◌, List, [], ◌∷◌, ◌++◌, length, take, get_or, Option, append_assoc, refl, sym, ap, subst, ◌∙◌, arith}
use Rattle.std.proofs.lemmas.List.{append-nil, take_more, take_all}
use Rattle.stk_base.specs.Streams.{Appended, AppendedPrefix}
use Rattle.stk_tree.specs.Syntax.{FunctionTree}
use Rattle.stk_numbers.specs.declared.conditions.Candidate.{Candidate}
use Rattle.stk_numbers.specs.declared.conditions.Kinds.{Kinds}
use Rattle.stk_meaning.specs.Typings.{Typing}
use Rattle.stk_meaning.specs.declared.finding.Finding.{Finding}
use Rattle.stk_meaning.specs.Findings.{Subject, IsLawful, AreLawful}
use Rattle.stk_spent_queries.specs.Marks.{marks, all_marks, AreCounted}
use Rattle.stk_spent_queries.proofs.Counting.{counted_none, counted_more, marks_append}
use Rattle.stk_records.specs.declared.counts.Counts.{Counts}
use Rattle.stk_records.specs.Counts.{AreBelow}
use Rattle.stk_records.proofs.Written.{nothing_appended, appended_more, prefix_more}
use Rattle.stk_bundle.specs.Bundles.{LineBlock, parts_text}
use Rattle.stk_claims.specs.Parts.{AreFindingParts, AreClaims, function_parts, further_parts, are_some, left_count}
use Rattle.stk_claims.specs.Wrote.{WroteFinding, HasStoppedAt}
use Rattle.stk_claims.proofs.Texts.{parts_append}
use Rattle.stk_claims.proofs.Taken.{left_append}
use Rattle.stk_units.specs.Counted.{one_judged}
use Rattle.stk_units.proofs.Counts.{length_same, few_judged}
use Rattle.stk_bundles.specs.Wrote.{WroteClaims, WroteClaimsPrefix}

-- ---- parts behind parts

function_more : (at : ℕ) (ps qs : List LineBlock) → function_parts at (ps ++ qs) ≡ function_parts at ps ++ further_parts at (are_some ps) qs
function_more at [] qs = refl
function_more at (p ∷ ps) qs = refl

some_more : (ps qs : List LineBlock) → are_some (ps ++ qs) ≡ (are_some ps || are_some qs)
some_more [] qs = refl
some_more (p ∷ ps) qs = refl

more_text : (at : ℕ) (ps qs : List LineBlock) → parts_text (function_parts at (ps ++ qs)) ≡ parts_text (function_parts at ps) ++ parts_text (further_parts at (are_some ps) qs)
more_text at ps qs = ap parts_text (function_more at ps qs) ∙ parts_append (function_parts at ps) (further_parts at (are_some ps) qs)

-- what was taken is a prefix of itself
whole : (before after : Option (List ℕ)) (a : List ℕ) → Appended before after a → AppendedPrefix before after a
whole before after a h = (a, [], sym (append-nil a), h)

module _ (subject : Subject) (ty : Typing) (without : Kinds) (f : FunctionTree) (budget at : ℕ) where
  lawful_behind : (cs : List Candidate) (xs : List Finding) (c : Candidate) (x : Finding) → AreLawful subject cs xs → IsLawful subject c x → AreLawful subject (cs ++ c ∷ []) (xs ++ x ∷ [])
  lawful_behind [] [] c x h k = (k, tt)
  lawful_behind [] (y ∷ ys) c x h k = absurd h
  lawful_behind (d ∷ ds) [] c x h k = absurd h
  lawful_behind (d ∷ ds) (y ∷ ys) c x h k = (h.0, lawful_behind ds ys c x h.1 k)

  claims_behind : (cs : List Candidate) (xs : List Finding) (ps : List LineBlock) (c : Candidate) (x : Finding) (qs : List LineBlock) → AreClaims ty without f budget cs xs ps → AreFindingParts ty without f budget c x qs
      → AreClaims ty without f budget (cs ++ c ∷ []) (xs ++ x ∷ []) (ps ++ qs)
  claims_behind [] [] ps c x qs h k = (qs, [], k, refl, ap (λ (rs : List LineBlock). rs ++ qs) h ∙ sym (append-nil qs))
  claims_behind [] (y ∷ ys) ps c x qs h k = absurd h
  claims_behind (d ∷ ds) [] ps c x qs h k = absurd h
  claims_behind (d ∷ ds) (y ∷ ys) ps c x qs (here, others, are, behind, same) k =
      (here, others ++ qs, are, claims_behind ds ys others c x qs behind k, ap (λ (rs : List LineBlock). rs ++ qs) same ∙ append_assoc here others qs)

  -- the claims of the first candidates are written, each of which has a lawful finding
  pub record AreWritten (cs : List Candidate) (i : ℕ) (before after : Option (List ℕ)) (first last : ℕ) (begun : Bool) (counts : Counts) : Type 0 where
    pub findings : List Finding
    pub claims : List LineBlock
    pub lawful : AreLawful subject (take i cs) findings
    pub are : AreClaims ty without f budget (take i cs) findings claims
    pub written : Appended before after (parts_text (function_parts at claims))
    pub begun_is : begun ≡ are_some claims
    pub same_counts : counts ≡ one_judged findings
    pub counted : AreCounted first last (all_marks findings + left_count claims)
    pub rises : first ≤ last

  pub none_written : (cs : List Candidate) (before : Option (List ℕ)) (n : ℕ) (counts : Counts) → counts ≡ one_judged [] → AreWritten cs 0 before before n n false counts
  none_written cs before n counts same = record {
    findings = [];
    claims = [];
    lawful = tt;
    are = refl;
    written = nothing_appended before;
    begun_is = refl;
    same_counts = same;
    counted = counted_none n n (omega arith);
    rises = omega arith;
  }

  module _ (cs : List Candidate) (i : ℕ) (before middle : Option (List ℕ)) (first last : ℕ) (begun : Bool) (counts : Counts) (w : AreWritten cs i before middle first last begun counts) where
    -- they count for little
    pub written_few : length cs < 2 ^ 32 → AreBelow counts
    written_few few = rw w.same_counts (few_judged w.findings (omega (arith, few, shorter i cs, length_same subject (take i cs) w.findings w.lawful))) where
      shorter : (j : ℕ) (ds : List Candidate) → length (take j ds) ≤ length ds
      shorter zero ds = omega arith
      shorter (suc j) [] = omega arith
      shorter (suc j) (e ∷ ds) = omega (arith, shorter j ds)

    -- nothing more comes behind those that are written
    pub stops_before : WroteClaimsPrefix subject ty without f budget at cs before middle
    stops_before = record { count = i; findings = w.findings; claims = w.claims; lawful = w.lawful; are = w.are; written = whole before middle (parts_text (function_parts at w.claims)) w.written }

    module _ (d : Candidate) (within : i < length cs) where
      lawful_more : (x : Finding) → IsLawful subject (get_or cs i d) x → AreLawful subject (take (i + 1) cs) (w.findings ++ x ∷ [])
      lawful_more x h = subst (λ (ds : List Candidate). AreLawful subject ds (w.findings ++ x ∷ [])) (sym (take_more cs i d within)) (lawful_behind (take i cs) w.findings (get_or cs i d) x w.lawful h)

      claims_more : (x : Finding) (qs : List LineBlock) → AreFindingParts ty without f budget (get_or cs i d) x qs → AreClaims ty without f budget (take (i + 1) cs) (w.findings ++ x ∷ []) (w.claims ++ qs)
      claims_more x qs h =
          subst (λ (ds : List Candidate). AreClaims ty without f budget ds (w.findings ++ x ∷ []) (w.claims ++ qs)) (sym (take_more cs i d within))
          (claims_behind (take i cs) w.findings w.claims (get_or cs i d) x qs w.are h)

      pub one_more_written : (after : Option (List ℕ)) (asked later : ℕ) (now : Bool) (more : Counts) (x : Finding) → ((findings : List Finding) → counts ≡ one_judged findings → more ≡ one_judged (findings ++ x ∷ [])) → IsLawful subject (get_or cs i d) x → AreCounted last asked (marks x) → last ≤ asked → asked ≤ later
          → WroteFinding ty without f budget at (get_or cs i d) x begun middle after asked later now → AreWritten cs (i + 1) before after first later now more
      one_more_written after asked later now more x count lawful counted up on q =
          let taken = subst (λ (b : Bool). Appended middle after (parts_text (further_parts at b q.parts))) w.begun_is q.written in
          let both = counted_more last asked later (marks x) (left_count q.parts) up on counted q.counted in
          let all = counted_more first last later (all_marks w.findings + left_count w.claims) (marks x + left_count q.parts) w.rises (omega (arith, up, on)) w.counted both in
          let of_findings = marks_append w.findings (x ∷ []) in
          let of_claims = left_append w.claims q.parts in
          let same : (all_marks w.findings + left_count w.claims) + (marks x + left_count q.parts) ≡ all_marks (w.findings ++ x ∷ []) + left_count (w.claims ++ q.parts) = omega (arith, of_findings, of_claims) in
          record {
            findings = w.findings ++ x ∷ [];
            claims = w.claims ++ q.parts;
            lawful = lawful_more x lawful;
            are = claims_more x q.parts q.are;
            written = subst (Appended before after) (sym (more_text at w.claims q.parts)) (appended_more before middle after (parts_text (function_parts at w.claims)) (parts_text (further_parts at (are_some w.claims) q.parts)) w.written taken);
            begun_is = q.begun_now ∙ ap (λ (b : Bool). b || are_some q.parts) w.begun_is ∙ sym (some_more w.claims q.parts);
            same_counts = count w.findings w.same_counts;
            counted = subst (AreCounted first later) same all;
            rises = omega (arith, w.rises, up, on);
          }

      -- or some prefix of the claim of the next one
      pub stops_within : (after : Option (List ℕ)) (x : Finding) → IsLawful subject (get_or cs i d) x → HasStoppedAt ty without f budget at (get_or cs i d) x begun middle after → WroteClaimsPrefix subject ty without f budget at cs before after
      stops_within after x lawful (inl none) = subst (λ (o : Option (List ℕ)). WroteClaimsPrefix subject ty without f budget at cs before o) (sym none) stops_before
      stops_within after x lawful (inr q) =
          let here = parts_text (function_parts at w.claims) in
          let next = parts_text (further_parts at (are_some w.claims) q.parts) in
          let taken = subst (λ (b : Bool). AppendedPrefix middle after (parts_text (further_parts at b q.parts))) w.begun_is q.written in
          record {
            count = i + 1;
            findings = w.findings ++ x ∷ [];
            claims = w.claims ++ q.parts;
            lawful = lawful_more x lawful;
            are = claims_more x q.parts q.are;
            written = subst (AppendedPrefix before after) (ap (λ (t : List ℕ). here ++ t) (append-nil next) ∙ sym (more_text at w.claims q.parts)) (prefix_more before middle after here next [] w.written taken);
          }

  -- all claims are written
  pub all_written : (cs : List Candidate) (i : ℕ) (before after : Option (List ℕ)) (first last : ℕ) (begun : Bool) (counts : Counts) → length cs ≤ i → AreWritten cs i before after first last begun counts → WroteClaims subject ty without f budget at cs before after first last counts
  all_written cs i before after first last begun counts past w =
      let same : take i cs ≡ cs = take_all i cs past in
      record {
        findings = w.findings;
        claims = w.claims;
        lawful = subst (λ (ds : List Candidate). AreLawful subject ds w.findings) same w.lawful;
        are = subst (λ (ds : List Candidate). AreClaims ty without f budget ds w.findings w.claims) same w.are;
        same_counts = w.same_counts;
        written = w.written;
        counted = w.counted;
      }

  -- a function without candidates has none
  pub no_claims_wrote : (cs : List Candidate) (before : Option (List ℕ)) (n : ℕ) (counts : Counts) → length cs ≡ 0 → counts ≡ one_judged [] → WroteClaims subject ty without f budget at cs before before n n counts
  no_claims_wrote [] before n counts none same = record { findings = []; claims = []; lawful = tt; are = refl; same_counts = same; written = nothing_appended before; counted = counted_none n n (omega arith) }
  no_claims_wrote (c ∷ cs) before n counts none same = absurd (omega (arith, none))
