-- What the made-up source answers.
use Rattle.std.proofs.Common.{◌≡◌, ℕ, zero, suc, ◌⊎◌, inl, inr, Bool, true, false, not, ◌&&◌, ℤ, pos, List, [], ◌∷◌, Option, None, refl, sym, ap, subst, ◌∙◌, arith}
use Rattle.std.specs.List.{Contains}
use Rattle.stk_ctype.specs.declared.kind.IntKind.TheVariants as kind
use Rattle.stk_numbers.specs.declared.conditions.Candidate.{Candidate}
use Rattle.stk_numbers.specs.declared.conditions.Condition.{Condition}
use Rattle.stk_meaning.specs.declared.entry.Entry.TheVariants.{Ub, Enter, Seen}
use Rattle.stk_meaning.specs.Hits.{has, HitsFree, is_hit_free}
use Rattle.stk_meaning.specs.Findings.{Answers, NoAnswer}
use Rattle.stk_bundle.specs.Claims.{residues}
use Rattle.stk_audit_rules.specs.Worlds.{IsAnsweredBy}
use Rattle.stk_audit_rules.proofs.Sets.{hit_is_found}
use Rattle.stk_audit_rules.proofs.Claims.{false_true}
use Rattle.stk_audit.specs.Hands.{Hand, IsAsked, TellsNone}
use Rattle.stk_audit_tests.specs.Small.{zero_at_8, test_at_12, arm_at_14, trace_of, small_function, small}

abbrev IsOne : Candidate → Type 0
IsOne c = (test_at_12 ≡ c) ⊎ (arm_at_14 ≡ c)

-- it has two candidates
one_of_two : (c : Candidate) → Contains (test_at_12 ∷ arm_at_14 ∷ []) c → IsOne c
one_of_two c (zero, h, e) = inl e
one_of_two c (suc zero, h, e) = inr e
one_of_two c (suc (suc i), h, e) = absurd (omega arith)

free_then : (x y : Bool) → not x && y ≡ true → x ≡ false
free_then true y e = absurd (false_true e)
free_then false y e = refl

both : (x y : Bool) → x ≡ false → y ≡ true → not x && y ≡ true
both true y p q = absurd (false_true (sym p))
both false y p q = q

free_at_zero : (set : List Condition) (c : Candidate) → IsOne c → is_hit_free set c (trace_of (pos 0 ∷ [])) ≡ true → has set zero_at_8 ≡ false
free_at_zero set c (inl e) h = free_then (has set zero_at_8) true (subst (λ d. is_hit_free set d (trace_of (pos 0 ∷ [])) ≡ true) (sym e) h)
free_at_zero set c (inr e) h = free_then (has set zero_at_8) true (subst (λ d. is_hit_free set d (trace_of (pos 0 ∷ [])) ≡ true) (sym e) h)

none_at_one : (set : List Condition) (c : Candidate) → IsOne c → is_hit_free set c (trace_of (pos 1 ∷ [])) ≡ true → ⊥
none_at_one set c (inl e) h = false_true (subst (λ d. is_hit_free set d (trace_of (pos 1 ∷ [])) ≡ true) (sym e) h)
none_at_one set c (inr e) h = false_true (subst (λ d. is_hit_free set d (trace_of (pos 1 ∷ [])) ≡ true) (sym e) h)

-- a map that answers is 0, and the set hasn't the condition
only_zero : (set : List Condition) (c : Candidate) (map : List ℤ) → IsOne c → Answers small_function.subject c set map → (map ≡ pos 0 ∷ []) × (has set zero_at_8 ≡ false)
only_zero set c map which a =
    by a.valid
  where
    by : (map ≡ pos 0 ∷ []) ⊎ (map ≡ pos 1 ∷ []) → (map ≡ pos 0 ∷ []) × (has set zero_at_8 ≡ false)
    by (inl e) = (e, free_at_zero set c which (hit_is_found set c (trace_of (pos 0 ∷ [])) (subst (λ xs. HitsFree set c (trace_of xs)) e a.hits)))
    by (inr e) = absurd (none_at_one set c which (hit_is_found set c (trace_of (pos 1 ∷ [])) (subst (λ xs. HitsFree set c (trace_of xs)) e a.hits)))

zero_answers : (set : List Condition) (c : Candidate) → IsOne c → has set zero_at_8 ≡ false → Answers small_function.subject c set (pos 0 ∷ [])
zero_answers set c which none = record { valid = inl refl; hits = by which }
  where
    by : IsOne c → HitsFree set c (trace_of (pos 0 ∷ []))
    by (inl e) = subst (λ d. HitsFree set d (trace_of (pos 0 ∷ []))) e
        (record { before = Ub zero_at_8 ∷ []; entry = Seen 12 true None; behind = Enter 14 ∷ []; is = refl; hit = refl; free = both (has set zero_at_8) true none refl })
    by (inr e) = subst (λ d. HitsFree set d (trace_of (pos 0 ∷ []))) e
        (record { before = Ub zero_at_8 ∷ Seen 12 true None ∷ []; entry = Enter 14; behind = []; is = refl; hit = refl; free = both (has set zero_at_8) true none refl })

which_of : (hand : Option Hand) (c : Candidate) (set : List Condition) → IsAsked small hand c set → IsOne c
which_of hand c set a = one_of_two c a.exists

-- whether a start answers
pub start_answers : (hand : Option Hand) (c : Candidate) (set : List Condition) (start : List ℕ) → IsAsked small hand c set → has set zero_at_8 ≡ false → start ≡ 0 ∷ [] → IsAnsweredBy small_function c set start
start_answers hand c set start a none e = record { map = pos 0 ∷ []; same = sym e; answers = zero_answers set c (which_of hand c set a) none }

pub answer_is_zero : (hand : Option Hand) (c : Candidate) (set : List Condition) (start : List ℕ) → IsAsked small hand c set → IsAnsweredBy small_function c set start → start ≡ 0 ∷ []
answer_is_zero hand c set start a h =
    let only = only_zero set c h.map (which_of hand c set a) h.answers in
    sym h.same ∙ ap (λ xs. residues (kind.UChar ∷ []) xs) only.0

pub none_with_zero : (hand : Option Hand) (c : Candidate) (set : List Condition) → IsAsked small hand c set → has set zero_at_8 ≡ true → NoAnswer small_function.subject c set
none_with_zero hand c set a e map h = false_true (sym (only_zero set c map (which_of hand c set a) h).1 ∙ e)

pub told_none : (hand : Option Hand) (c : Candidate) (set : List Condition) (b : Bool) → IsAsked small hand c set → b ≡ has set zero_at_8 → TellsNone small_function.subject c set b
told_none hand c set true a e = none_with_zero hand c set a (sym e)
told_none hand c set false a e = (pos 0 ∷ [], zero_answers set c (which_of hand c set a) (sym e))

pub no_start_with_zero : (hand : Option Hand) (c : Candidate) (set : List Condition) (start : List ℕ) → IsAsked small hand c set → has set zero_at_8 ≡ true → IsAnsweredBy small_function c set start → ⊥
no_start_with_zero hand c set start a e h = none_with_zero hand c set a e h.map h.answers
