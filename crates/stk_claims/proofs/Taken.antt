-- What a sink took of a finding, and what a count of what was given up tells of it.
use Rattle.std.proofs.Common.{◌≡◌, ℕ, ◌+◌, ◌≤◌, Bool, true, false, ◌||◌, inr, List, [], ◌∷◌, ◌++◌, map, Option, Some, None, refl, sym, ap, subst, arith}
use Rattle.stk_base.specs.Causes.{Rose}
use Rattle.stk_base.specs.Streams.{Appended, AppendedPrefix}
use Rattle.stk_ctype.specs.declared.kind.IntKind.{IntKind}
use Rattle.stk_tree.specs.Syntax.{FunctionTree}
use Rattle.stk_numbers.specs.declared.conditions.Candidate.{Candidate}
use Rattle.stk_numbers.specs.declared.conditions.Condition.{Condition}
use Rattle.stk_numbers.specs.declared.conditions.Inputs.{Inputs}
use Rattle.stk_numbers.specs.declared.conditions.Kinds.{Kinds}
use Rattle.stk_meaning.specs.Typings.{Typing}
use Rattle.stk_meaning.specs.Findings.{members}
use Rattle.stk_meaning.specs.declared.finding.Finding.{Finding}
use Rattle.stk_meaning.specs.declared.finding.Finding.TheVariants.{Clear, Unstable, Undecided}
use Rattle.stk_meaning.specs.declared.finding.Need.{Need}
use Rattle.stk_meaning.specs.declared.finding.Phase.{Phase}
use Rattle.stk_records.proofs.Written.{nothing_appended}
use Rattle.stk_spent_queries.specs.Marks.{AreCounted}
use Rattle.stk_spent_queries.proofs.Counting.{counted_none, counted_one}
use Rattle.stk_bundle.specs.Bundles.{LineBlock, parts_text}
use Rattle.stk_bundle.specs.Claims.{member_line, need_line, report_lines}
use Rattle.stk_goals.specs.Queries.{key_kinds}
use Rattle.stk_claims.specs.declared.closing.Closing.{Closing}
use Rattle.stk_claims.specs.declared.closing.Closing.TheVariants.{Tried, Refuted, GivenUp}
use Rattle.stk_claims.specs.Closing.{Closes, is_given_up}
use Rattle.stk_claims.specs.Parts.{alone, closing_parts, report_parts, left_mark, left_count, AreReportParts, AreFindingParts, further_parts, are_some}
use Rattle.stk_claims.specs.Wrote.{WroteFinding, HasStoppedAt}

-- ---- candidates without a claim

pub left_append : (ps qs : List LineBlock) → left_count (ps ++ qs) ≡ left_count ps + left_count qs
left_append [] qs = omega arith
left_append (p ∷ ps) qs = let more = left_append ps qs in omega (arith, more)

member_is_no_left : (kinds : List IntKind) (k : Condition) (o : Option Inputs) → left_mark (member_line kinds k o) ≡ 0
member_is_no_left kinds k (Some start) = refl
member_is_no_left kinds k None = refl

needs_are_none_left : (kinds : List IntKind) (needs : List Need) → left_count (map alone (map (need_line kinds) needs)) ≡ 0
needs_are_none_left kinds [] = refl
needs_are_none_left kinds (n ∷ ns) =
    let here = member_is_no_left kinds n.condition n.shown in
    let more = needs_are_none_left kinds ns in
    omega (arith, here, more)

claim_is_none_left : (kinds : List IntKind) (c : Candidate) (start : Inputs) (needs : List Need) (x : Closing) → left_count (closing_parts x) ≡ 0 → left_count (map alone (report_lines kinds c start needs) ++ closing_parts x) ≡ 0
claim_is_none_left kinds c start needs x none =
    let all = left_append (map alone (report_lines kinds c start needs)) (closing_parts x) in
    let front = needs_are_none_left kinds needs in
    omega (arith, all, front, none)

counted : (kinds : List IntKind) (c : Candidate) (start : Inputs) (needs : List Need) (x : Closing) (first last : ℕ) → first ≤ last → (is_given_up x ≡ true → Rose first last) → AreCounted first last (left_count (report_parts kinds c start needs x))
counted kinds c start needs Tried first last later rose = subst (AreCounted first last) (sym (claim_is_none_left kinds c start needs Tried refl)) (counted_none first last later)
counted kinds c start needs (Refuted list d) first last later rose =
    subst (AreCounted first last) (sym (claim_is_none_left kinds c start needs (Refuted list d) refl)) (counted_none first last later)
counted kinds c start needs GivenUp first last later rose = counted_one first last (rose refl)

-- ---- what was written

some_parts : (kinds : List IntKind) (c : Candidate) (start : Inputs) (needs : List Need) (x : Closing) → are_some (report_parts kinds c start needs x) ≡ true
some_parts kinds c start needs Tried = refl
some_parts kinds c start needs (Refuted list d) = refl
some_parts kinds c start needs GivenUp = refl

begun_by : (begun b : Bool) → b ≡ true → true ≡ (begun || b)
begun_by true b e = refl
begun_by false b e = sym e

not_begun : (begun : Bool) → begun ≡ (begun || false)
not_begun true = refl
not_begun false = refl

module _ (ty : Typing) (without : Kinds) (f : FunctionTree) (budget at : ℕ) (c : Candidate) (start : Inputs) (needs : List Need) (begun : Bool) (kinds : List IntKind) (same : kinds ≡ key_kinds ty without f) (x : Closing) (closes : Closes ty without f c (members needs) budget x) where
  are_report : AreReportParts ty without f budget c start needs (report_parts kinds c start needs x)
  are_report = record { closing = x; closes = closes; are = ap (λ ks. report_parts ks c start needs x) same }

  pub wrote_report : (before after : Option (List ℕ)) (first last : ℕ) (text : List ℕ) → text ≡ parts_text (further_parts at begun (report_parts kinds c start needs x)) → Appended before after text
      → first ≤ last → (is_given_up x ≡ true → Rose first last) → WroteFinding ty without f budget at c (Unstable start needs) begun before after first last true
  wrote_report before after first last text is taken later rose = record {
    parts = report_parts kinds c start needs x;
    are = are_report;
    written = subst (Appended before after) is taken;
    begun_now = begun_by begun (are_some (report_parts kinds c start needs x)) (some_parts kinds c start needs x);
    counted = counted kinds c start needs x first last later rose;
  }

  pub stopped_report : (before after : Option (List ℕ)) (text : List ℕ) → text ≡ parts_text (further_parts at begun (report_parts kinds c start needs x)) → AppendedPrefix before after text → HasStoppedAt ty without f budget at c (Unstable start needs) begun before after
  stopped_report before after text is taken = inr (record { parts = report_parts kinds c start needs x; are = are_report; written = subst (AppendedPrefix before after) is taken })

-- ---- nothing was written

no_parts : (at : ℕ) (begun : Bool) → parts_text (further_parts at begun []) ≡ []
no_parts at true = refl
no_parts at false = refl

module _ (ty : Typing) (without : Kinds) (f : FunctionTree) (budget at : ℕ) (c : Candidate) (begun : Bool) (o : Option (List ℕ)) (n : ℕ) where
  wrote_nothing : (x : Finding) → AreFindingParts ty without f budget c x [] → WroteFinding ty without f budget at c x begun o o n n begun
  wrote_nothing x are = record {
    parts = [];
    are = are;
    written = subst (Appended o o) (sym (no_parts at begun)) (nothing_appended o);
    begun_now = not_begun begun;
    counted = counted_none n n (omega arith);
  }

  -- of a finding that is no report
  pub wrote_clear : (x : Finding) → x ≡ Clear → WroteFinding ty without f budget at c x begun o o n n begun
  wrote_clear x e = wrote_nothing x (subst (λ y. AreFindingParts ty without f budget c y []) (sym e) refl)

  pub wrote_undecided : (x : Finding) (phase : Phase) → x ≡ Undecided phase → WroteFinding ty without f budget at c x begun o o n n begun
  wrote_undecided x phase e = wrote_nothing x (subst (λ y. AreFindingParts ty without f budget c y []) (sym e) refl)
