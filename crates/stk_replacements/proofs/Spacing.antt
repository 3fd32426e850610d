-- Texts with one space between each two.
use Rattle.std.proofs.Common.{◌≡◌, ℕ, true, false, if◌then◌else◌, List, [], ◌∷◌, ◌++◌, map, refl, sym, ap, ◌∙◌, append_assoc, append-nil}
use Rattle.stk_tree.specs.Tokens.{expression_tokens}
use Rattle.stk_numbers.specs.declared.operators.CompareOp.{CompareOp}
use Rattle.stk_meaning.specs.Replacements.{Replaced, comparison_punctuator, replacement_text, spaced, spelled}
use Rattle.stk_replacements.specs.Spaced.{each_before, each_after}

-- a text, and a space before each of the others
pub spaced-after : (x : List ℕ) (xs : List (List ℕ)) → spaced (x ∷ xs) ≡ x ++ each_after xs
spaced-after x [] = sym (append-nil x)
spaced-after x (y ∷ ys) = ap (λ ts. x ++ 32 ∷ ts) (spaced-after y ys)

-- the text of `0 op y`
pub text_first : (bytes : List ℕ) (op : CompareOp) (found : Replaced) (text : List ℕ) → found.zero_first ≡ true → text ≡ 48 ∷ 32 ∷ comparison_punctuator op ++ each_after (map (spelled bytes) (expression_tokens found.kept)) → text ≡ replacement_text bytes op found
text_first bytes op found text e h =
    let kept = map (spelled bytes) (expression_tokens found.kept) in
    h ∙ ap (λ ts. 48 ∷ 32 ∷ ts) (sym (spaced-after (comparison_punctuator op) kept)) ∙ ap (λ b. spaced (if b then (48 ∷ []) ∷ comparison_punctuator op ∷ kept else kept ++ comparison_punctuator op ∷ (48 ∷ []) ∷ [])) (sym e)

-- the text of `y op 0`
spaced-last : (xs : List (List ℕ)) (y z : List ℕ) → spaced (xs ++ y ∷ z ∷ []) ≡ each_before xs ++ (y ++ 32 ∷ z)
spaced-last [] y z = refl
spaced-last (x ∷ []) y z = sym (append_assoc x (32 ∷ []) (y ++ 32 ∷ z)) ∙ ap (λ ts. ts ++ (y ++ 32 ∷ z)) (sym (append-nil (x ++ 32 ∷ [])))
spaced-last (x ∷ w ∷ ws) y z =
    ap (λ ts. x ++ 32 ∷ ts) (spaced-last (w ∷ ws) y z) ∙ sym (append_assoc x (32 ∷ []) (each_before (w ∷ ws) ++ (y ++ 32 ∷ z))) ∙ sym (append_assoc (x ++ 32 ∷ []) (each_before (w ∷ ws)) (y ++ 32 ∷ z))

pub text_last : (bytes : List ℕ) (op : CompareOp) (found : Replaced) (text : List ℕ) → found.zero_first ≡ false → text ≡ each_before (map (spelled bytes) (expression_tokens found.kept)) ++ (comparison_punctuator op ++ 32 ∷ 48 ∷ []) → text ≡ replacement_text bytes op found
text_last bytes op found text e h =
    let kept = map (spelled bytes) (expression_tokens found.kept) in
    h ∙ sym (spaced-last kept (comparison_punctuator op) (48 ∷ [])) ∙ ap (λ b. spaced (if b then (48 ∷ []) ∷ comparison_punctuator op ∷ kept else kept ++ comparison_punctuator op ∷ (48 ∷ []) ∷ [])) (sym e)
