-- How many queries a finding says were given up.
use Rattle.std.proofs.Common.{◌≡◌, ℕ, ◌+◌, ◌≤◌, List, [], ◌∷◌, ◌++◌, reverse, refl, sym, ap, ◌∙◌, subst, arith}
use Rattle.std.proofs.lemmas.List.{reverse-append}
use Rattle.stk_numbers.specs.declared.conditions.Condition.{Condition}
use Rattle.stk_meaning.specs.declared.finding.Need.{Need}
use Rattle.stk_meaning.specs.Findings.{shown_need, open_need}
use Rattle.stk_wide_judge.specs.declared.asking.QueryAnswer.{QueryAnswer}
use Rattle.stk_wide_judge.specs.declared.asking.QueryAnswer.TheVariants.{Start, Never, GivenUp}
use Rattle.stk_wide_judge.specs.Answers.{IsCounted, with_answer}
use Rattle.stk_spent_queries.specs.Marks.{open_mark, open_count, AreCounted}
use Rattle.stk_spent_queries.proofs.Counting.{counted_more, counted_later, counted_one}

pub open_append : (xs ys : List Need) → open_count (xs ++ ys) ≡ open_count xs + open_count ys
open_append [] ys = omega arith
open_append (x ∷ xs) ys = let e = open_append xs ys in omega (arith, e)

pub open_reverse : (xs : List Need) → open_count (reverse xs) ≡ open_count xs
open_reverse [] = refl
open_reverse (x ∷ xs) =
    let e : reverse (x ∷ xs) ≡ reverse xs ++ x ∷ [] = reverse-append (x ∷ []) xs in
    let a : open_count (reverse xs ++ x ∷ []) ≡ open_count (reverse xs) + (open_mark x.shown + 0) = open_append (reverse xs) (x ∷ []) in
    let r = open_reverse xs in
    ap open_count e ∙ (a ∙ omega (arith, r))

-- the answer to one query more
pub counted_answer : (before now after : ℕ) (needs : List Need) (k : Condition) (x : QueryAnswer) → before ≤ now → now ≤ after → AreCounted before now (open_count needs) → IsCounted now after x → AreCounted before after (open_count (with_answer needs k x))
counted_answer before now after needs k (Start start) low up a x =
    let e : open_count needs ≡ open_count (needs ++ shown_need k start.numbers ∷ []) = omega (arith, open_append needs (shown_need k start.numbers ∷ [])) in
    subst (λ (n : ℕ). AreCounted before after n) e (counted_later before now after (open_count needs) low up a)
counted_answer before now after needs k Never low up a x = counted_later before now after (open_count needs) low up a
counted_answer before now after needs k GivenUp low up a x =
    let e : open_count needs + 1 ≡ open_count (needs ++ open_need k ∷ []) = omega (arith, open_append needs (open_need k ∷ [])) in
    subst (λ (n : ℕ). AreCounted before after n) e (counted_more before now after (open_count needs) 1 low up a (counted_one now after x))

-- the members in ascending order
pub counted_reverse : (before now : ℕ) (needs : List Need) → AreCounted before now (open_count needs) → AreCounted before now (open_count (reverse needs))
counted_reverse before now needs a = subst (λ (n : ℕ). AreCounted before now n) (sym (open_reverse needs)) a
