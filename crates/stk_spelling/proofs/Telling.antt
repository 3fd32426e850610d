-- The text of a replacement, and what is claimed of a comparison.
use Rattle.std.proofs.Common.{◌≡◌, ℕ, true, List, [], ◌∷◌, Option, Some, sym, ap, ◌∙◌, subst}
use Rattle.stk_tree.specs.Syntax.{FunctionTree}
use Rattle.stk_numbers.specs.declared.operators.CompareOp.{CompareOp}
use Rattle.stk_numbers.specs.declared.conditions.CandKind.{CandKind}
use Rattle.stk_numbers.specs.declared.conditions.CandKind.TheVariants.{Algebra}
use Rattle.stk_meaning.specs.Replacements.{Replaced, replacement_text}
use Rattle.stk_meaning.specs.Typings.{Typing}
use Rattle.stk_meaning.specs.Keys.{function_visits}
use Rattle.stk_function_types.specs.Visits.{MarkedVisit, marked_visits}
use Rattle.stk_function_types.specs.Gathered.{gathered}
use Rattle.stk_function_types.proofs.Gathering.{gathered-marked_visits}
use Rattle.stk_records.specs.declared.line.Claim.TheVariants.{SameAs}
use Rattle.stk_spelling.specs.Replaced.{text_if, visit_replaced, first_text}
use Rattle.stk_spelling.specs.Claims.{claim_by}

pub told : (bytes b : List ℕ) (op : CompareOp) (found : Replaced) (o : Option Replaced) (text : List ℕ) → Some found ≡ o → b ≡ bytes → text ≡ replacement_text b op found → text ∷ [] ≡ text_if bytes op o
told bytes b op found o text e same is = subst (λ x. text ∷ [] ≡ text_if bytes op x) e (ap (λ t. t ∷ []) (is ∙ ap (λ s. replacement_text s op found) same))

pub claimed : (ty : Typing) (f : FunctionTree) (k : ℕ) (kind : CandKind) (ms : List MarkedVisit) (text name : List ℕ) → kind ≡ Algebra → ms ≡ marked_visits true (function_visits ty f)
    → text ≡ first_text (gathered (visit_replaced ty k) ms) → name ≡ text → SameAs name ≡ claim_by ty f k kind
claimed ty f k kind ms text name algebra visits is same =
    let found = same ∙ is ∙ ap (λ xs. first_text (gathered (visit_replaced ty k) xs)) visits ∙ ap first_text (gathered-marked_visits (visit_replaced ty k) (function_visits ty f)) in
    subst (λ x. SameAs name ≡ claim_by ty f k x) (sym algebra) (ap SameAs found)
