-- One part more in front of what waits.
use Rattle.std.proofs.Common.{◌≡◌, ℕ, ◌+◌, ◌<◌, Option, List, [], ◌∷◌, ◌++◌, length, take, refl, sym, ap, ◌∙◌, append_assoc, append-nil, arith}
use Rattle.std.proofs.Math.Seq.{take-append_seam}
use Rattle.stk_tree.specs.declared.fixed.Lexeme.{Lexeme}
use Rattle.stk_tree_walk.specs.declared.waiting.Waiting.{Waiting}
use Rattle.stk_tree_walk.specs.Waiting.{given, tokens_of, left_of, heft_of, heft}

pub left_put : (xs : List Waiting) (x : Waiting) → left_of (xs ++ x ∷ []) ≡ tokens_of x ++ left_of xs
left_put [] x = sym (append-nil (tokens_of x))
left_put (y ∷ ys) x = ap (λ ts. ts ++ tokens_of y) (left_put ys x) ∙ append_assoc (tokens_of x) (left_of ys) (tokens_of y)

pub heft_put : (xs : List Waiting) (x : Waiting) → heft (xs ++ x ∷ []) ≡ heft_of x + heft xs
heft_put [] x = refl
heft_put (y ∷ ys) x = ap (λ n. heft_of y + n) (heft_put ys x) ∙ omega arith

-- what was put is cut off again: what stood behind it follows its token
pub cut : (old mid new left : List Waiting) (x : Waiting) (t : Lexeme) (ts : List Lexeme) (n : ℕ) → n ≡ length old → mid ≡ old ++ x ∷ [] → new ≡ mid → left ≡ take n new → left_of mid ≡ t ∷ left_of old → left_of new ≡ ts ++ left_of mid → t ∷ left_of left ≡ ts ++ t ∷ left_of old
cut old mid new left x t ts n hn hm hw hl h1 h2 =
    let same : left ≡ old = hl ∙ ap (λ k. take k new) hn ∙ ap (take (length old)) (hw ∙ hm) ∙ take-append_seam old (x ∷ []) in
    ap (λ xs. t ∷ left_of xs) same ∙ sym h1 ∙ ap left_of (sym hw) ∙ h2 ∙ ap (λ xs. ts ++ xs) h1

-- what waits first is taken apart: what it prints comes first
pub taken : (whole first rest behind : List Waiting) (item : Waiting) (o : Option Lexeme) → left_of whole ≡ left_of first → whole ≡ rest ++ item ∷ [] → given o ++ left_of behind ≡ tokens_of item ++ left_of rest → left_of first ≡ given o ++ left_of behind
taken whole first rest behind item o inv e h = sym inv ∙ ap left_of e ∙ left_put rest item ∙ sym h

pub lighter : (whole rest behind : List Waiting) (item : Waiting) → whole ≡ rest ++ item ∷ [] → heft behind < heft_of item + heft rest → heft behind < heft whole
lighter whole rest behind item e h = let same : heft whole ≡ heft_of item + heft rest = ap heft e ∙ heft_put rest item in omega (arith, same, h)
