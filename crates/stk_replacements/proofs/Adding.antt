-- Spellings that are added to a text, one after the other.
use Rattle.std.proofs.Common.{◌≡◌, ℕ, List, [], ◌∷◌, ◌++◌, map, sym, ap, ◌∙◌, append_assoc, append-nil}
use Rattle.stk_tree.specs.declared.fixed.Lexeme.{Lexeme}
use Rattle.stk_meaning.specs.Replacements.{spelled}
use Rattle.stk_replacements.specs.Spaced.{each_after, each_before}

pub adds_before : (bytes out now : List ℕ) (old new : List Lexeme) (t : Lexeme) (target : List ℕ) → old ≡ t ∷ new → now ≡ out ++ (spelled bytes t ++ 32 ∷ []) → out ++ each_before (map (spelled bytes) old) ≡ target → now ++ each_before (map (spelled bytes) new) ≡ target
adds_before bytes out now old new t target e h i =
    ap (λ ts. ts ++ each_before (map (spelled bytes) new)) h ∙ append_assoc out (spelled bytes t ++ 32 ∷ []) (each_before (map (spelled bytes) new)) ∙ ap (λ ts. out ++ each_before (map (spelled bytes) ts)) (sym e) ∙ i

pub ends_before : (bytes out : List ℕ) (old : List Lexeme) (target : List ℕ) → old ≡ [] → out ++ each_before (map (spelled bytes) old) ≡ target → out ≡ target
ends_before bytes out old target e i = sym (append-nil out) ∙ ap (λ ts. out ++ each_before (map (spelled bytes) ts)) (sym e) ∙ i

pub adds_after : (bytes out now : List ℕ) (old new : List Lexeme) (t : Lexeme) (target : List ℕ) → old ≡ t ∷ new → now ≡ out ++ (32 ∷ spelled bytes t) → out ++ each_after (map (spelled bytes) old) ≡ target → now ++ each_after (map (spelled bytes) new) ≡ target
adds_after bytes out now old new t target e h i =
    ap (λ ts. ts ++ each_after (map (spelled bytes) new)) h ∙ append_assoc out (32 ∷ spelled bytes t) (each_after (map (spelled bytes) new)) ∙ ap (λ ts. out ++ each_after (map (spelled bytes) ts)) (sym e) ∙ i

pub ends_after : (bytes out : List ℕ) (old : List Lexeme) (target : List ℕ) → old ≡ [] → out ++ each_after (map (spelled bytes) old) ≡ target → out ≡ target
ends_after bytes out old target e i = sym (append-nil out) ∙ ap (λ ts. out ++ each_after (map (spelled bytes) ts)) (sym e) ∙ i
