-- How commands are laid: tokens before `)` as they are alone, and each line in the pieces in which it is written.
use Rattle.std.proofs.Common.{◌≡◌, ℕ, List, [], ◌∷◌, ◌++◌, refl, ap, sym, ◌∙◌, append_assoc, codes, decimal}
use Rattle.stk_scripts.specs.Syntax.{Expr, named, literal, one_of, two_of, joined, cut, widened, chosen}
use Rattle.stk_scripts.specs.Tokens.{Token, opening, closing, word, sort_tokens, expr_tokens, declared_tokens, defined_tokens}
use Rattle.stk_scripts.specs.Texts.{laid, spaced}
use Rattle.stk_smtlib.specs.Written.{term_name, head_tokens}

same_space : (xs ts : List Token) → spaced (xs ++ closing ∷ ts) ≡ spaced xs
same_space [] ts = refl
same_space (opening ∷ xs) ts = refl
same_space (closing ∷ xs) ts = refl
same_space (word w ∷ xs) ts = refl

rest_closed : (xs ts : List Token) → laid (xs ++ closing ∷ ts) ≡ laid xs ++ laid (closing ∷ ts) → spaced (xs ++ closing ∷ ts) ++ laid (xs ++ closing ∷ ts) ≡ (spaced xs ++ laid xs) ++ laid (closing ∷ ts)
rest_closed xs ts h = ap (λ u. u ++ laid (xs ++ closing ∷ ts)) (same_space xs ts) ∙ ap (λ u. spaced xs ++ u) h ∙ sym (append_assoc (spaced xs) (laid xs) (laid (closing ∷ ts)))

pub laid_closed : (xs ts : List Token) → laid (xs ++ closing ∷ ts) ≡ laid xs ++ laid (closing ∷ ts)
laid_closed [] ts = refl
laid_closed (opening ∷ xs) ts = ap (λ u. 40 ∷ u) (laid_closed xs ts)
laid_closed (closing ∷ xs) ts = ap (λ u. 41 ∷ u) (rest_closed xs ts (laid_closed xs ts))
laid_closed (word w ∷ xs) ts = ap (λ u. w ++ u) (rest_closed xs ts (laid_closed xs ts)) ∙ sym (append_assoc w (spaced xs ++ laid xs) (laid (closing ∷ ts)))

-- ---- the line of a declaration

declared_last : (d : List ℕ) → (d ++ 41 ∷ 41 ∷ []) ++ 10 ∷ [] ≡ (d ++ 41 ∷ []) ++ 41 ∷ 10 ∷ []
declared_last d = append_assoc d (41 ∷ 41 ∷ []) (10 ∷ []) ∙ sym (append_assoc d (41 ∷ []) (41 ∷ 10 ∷ []))

declared_rest : (n b d : List ℕ) → (n ++ (b ++ (d ++ 41 ∷ 41 ∷ []))) ++ 10 ∷ [] ≡ n ++ (b ++ ((d ++ 41 ∷ []) ++ 41 ∷ 10 ∷ []))
declared_rest n b d = append_assoc n (b ++ (d ++ 41 ∷ 41 ∷ [])) (10 ∷ []) ∙ ap (λ u. n ++ u) (append_assoc b (d ++ 41 ∷ 41 ∷ []) (10 ∷ []) ∙ ap (λ u. b ++ u) (declared_last d))

pub declared_line : (n : List ℕ) (w : ℕ) → laid (declared_tokens (record { name = n; width = w })) ++ 10 ∷ [] ≡ codes "(declare-fun " ++ (n ++ (codes " () " ++ (laid (sort_tokens w []) ++ codes ")\n")))
declared_line n w = ap (λ u. codes "(declare-fun " ++ u) (declared_rest n (codes " () (_ BitVec ") (decimal w))

-- ---- the line of a definition

spaced_term : (e : Expr) (ts : List Token) → spaced (expr_tokens e ++ ts) ≡ 32 ∷ []
spaced_term (named n) ts = refl
spaced_term (literal w n) ts = refl
spaced_term (one_of op a) ts = refl
spaced_term (two_of op a b) ts = refl
spaced_term (joined a b) ts = refl
spaced_term (cut high low a) ts = refl
spaced_term (widened op k a) ts = refl
spaced_term (chosen t a b x y) ts = refl

body_laid : (e : Expr) → spaced (expr_tokens e ++ closing ∷ []) ++ laid (expr_tokens e ++ closing ∷ []) ≡ 32 ∷ (laid (expr_tokens e) ++ 41 ∷ [])
body_laid e = ap (λ u. u ++ laid (expr_tokens e ++ closing ∷ [])) (spaced_term e (closing ∷ [])) ∙ ap (λ u. 32 ∷ u) (laid_closed (expr_tokens e) [])

defined_left : (n b d l : List ℕ) → (n ++ (b ++ (d ++ 41 ∷ 32 ∷ (l ++ 41 ∷ [])))) ++ 10 ∷ [] ≡ n ++ (b ++ (d ++ 41 ∷ 32 ∷ (l ++ 41 ∷ 10 ∷ [])))
defined_left n b d l =
    append_assoc n (b ++ (d ++ 41 ∷ 32 ∷ (l ++ 41 ∷ []))) (10 ∷ [])
    ∙ ap (λ u. n ++ u) (append_assoc b (d ++ 41 ∷ 32 ∷ (l ++ 41 ∷ [])) (10 ∷ []) ∙ ap (λ u. b ++ u) (append_assoc d (41 ∷ 32 ∷ (l ++ 41 ∷ [])) (10 ∷ []) ∙ ap (λ u. d ++ 41 ∷ 32 ∷ u) (append_assoc l (41 ∷ []) (10 ∷ []))))

defined_right : (n b d l : List ℕ) → ((n ++ (b ++ (d ++ 41 ∷ []))) ++ 32 ∷ []) ++ l ≡ n ++ (b ++ (d ++ 41 ∷ 32 ∷ l))
defined_right n b d l =
    append_assoc (n ++ (b ++ (d ++ 41 ∷ []))) (32 ∷ []) l
    ∙ append_assoc n (b ++ (d ++ 41 ∷ [])) (32 ∷ l)
    ∙ ap (λ u. n ++ u) (append_assoc b (d ++ 41 ∷ []) (32 ∷ l) ∙ ap (λ u. b ++ u) (append_assoc d (41 ∷ []) (32 ∷ l)))

pub defined_line : (j w : ℕ) (e : Expr) → laid (defined_tokens (record { name = term_name j; width = w; body = e })) ++ 10 ∷ [] ≡ (laid (head_tokens j w) ++ 32 ∷ []) ++ (laid (expr_tokens e) ++ codes ")\n")
defined_line j w e =
    ap (λ u. codes "(define-fun " ++ ((term_name j ++ (codes " () (_ BitVec " ++ (decimal w ++ 41 ∷ u))) ++ 10 ∷ [])) (body_laid e)
    ∙ ap (λ u. codes "(define-fun " ++ u) (defined_left (term_name j) (codes " () (_ BitVec ") (decimal w) (laid (expr_tokens e)) ∙ sym (defined_right (term_name j) (codes " () (_ BitVec ") (decimal w) (laid (expr_tokens e) ++ codes ")\n")))

-- ---- pieces behind a text

pub four_joined : (o p n q s e : List ℕ) → (((o ++ (p ++ n)) ++ q) ++ s) ++ e ≡ o ++ (p ++ (n ++ (q ++ (s ++ e))))
four_joined o p n q s e =
    append_assoc ((o ++ (p ++ n)) ++ q) s e
    ∙ append_assoc (o ++ (p ++ n)) q (s ++ e)
    ∙ append_assoc o (p ++ n) (q ++ (s ++ e))
    ∙ ap (λ u. o ++ u) (append_assoc p n (q ++ (s ++ e)))

pub three_joined : (o h b e : List ℕ) → ((o ++ h) ++ b) ++ e ≡ o ++ (h ++ (b ++ e))
three_joined o h b e = append_assoc (o ++ h) b e ∙ append_assoc o h (b ++ e)
