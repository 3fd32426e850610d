-- What is found of the tokens that are left, by their number.
use Rattle.std.proofs.Common.{◌≡◌, ℕ, zero, suc, ◌+◌, ◌-◌, ◌<◌, ◌≤◌, cond, true, false, List, [], ◌∷◌, ◌++◌, length, drop, get_or, refl, ap, sym, ◌∙◌, arith}
use Rattle.std.proofs.lemmas.List.{length-append, length-drop, get_or_append_left, get_or_push}
use Rattle.std.proofs.Math.Seq.{drop-length, drop-cons}
use Rattle.stk_lex.specs.declared.token.Token.{Token}
use Rattle.stk_lex.specs.Ahead.{AreFound, unchanged}
use Rattle.stk_lex.specs.Spelled.{is_changing_word}

pub found_here : (find : List Token → ℕ) (tokens : List Token) (found : List ℕ) → AreFound find tokens found → get_or found (length tokens) 0 ≡ find tokens
found_here find tokens found known = known.found_at 0 (length tokens) (omega arith)

pub found_ahead : (find : List Token → ℕ) (tokens : List Token) (found : List ℕ) (k : ℕ) → AreFound find tokens found → k ≤ length tokens → get_or found (length tokens - k) 0 ≡ find (drop k tokens)
found_ahead find tokens found k known h = known.found_at k (length tokens - k) (omega arith)

-- what is found of tokens is found of those behind the first
pub found_behind : (find : List Token → ℕ) (t : Token) (ts : List Token) (found : List ℕ) → AreFound find (t ∷ ts) found → AreFound find ts found
found_behind find t ts found known = record {
  room = omega (arith, known.room);
  found_at = λ k left e. known.found_at (suc k) left (omega arith);
}

found_none : (find : List Token → ℕ) → find [] ≡ 0 → AreFound find [] (0 ∷ [])
found_none find e = record { room = omega arith; found_at = none }
  where
    none : (k left : ℕ) → k + left ≡ 0 → get_or (0 ∷ []) left 0 ≡ find (drop k [])
    none zero zero h = sym e
    none zero (suc left) h = absurd (omega arith)
    none (suc k) left h = absurd (omega arith)

found_more : (find : List Token → ℕ) (t : Token) (tokens : List Token) (found : List ℕ) (n : ℕ) → length found ≡ length tokens + 1 → n ≡ find (t ∷ tokens) → AreFound find tokens found
    → AreFound find (t ∷ tokens) (found ++ n ∷ [])
found_more find t tokens found n size e known = record {
  room = omega (arith, length-append found (n ∷ []));
  found_at = more;
}
  where
    more : (k left : ℕ) → k + left ≡ suc (length tokens) → get_or (found ++ n ∷ []) left 0 ≡ find (drop k (t ∷ tokens))
    more zero left h =
        let last : length found ≡ left = omega (arith, size) in
        get_or_push found n 0 left last ∙ e
    more (suc k) left h =
        let inside : left < length found = omega (arith, size) in
        get_or_append_left found (n ∷ []) 0 left inside ∙ known.found_at k left (omega arith)

pub found_end : (find : List Token → ℕ) (tokens : List Token) → find [] ≡ 0 → AreFound find (drop (length tokens) tokens) (0 ∷ [])
found_end find tokens e = rw (drop-length tokens) (found_none find e)

pub found_step : (find : List Token → ℕ) (tokens behind : List Token) (at : ℕ) (d : Token) (found : List ℕ) (n : ℕ) → 0 < at → at ≤ length tokens → length found + at ≡ length tokens + 1
    → behind ≡ drop at tokens → n ≡ find (get_or tokens (at - 1) d ∷ behind) → AreFound find (drop at tokens) found → AreFound find (drop (at - 1) tokens) (found ++ n ∷ [])
found_step find tokens behind at d found n some within size is e known =
    let next : suc (at - 1) ≡ at = omega arith in
    let cut : drop (at - 1) tokens ≡ get_or tokens (at - 1) d ∷ drop at tokens = drop-cons tokens (at - 1) d (omega arith) ∙ rw next refl in
    let full : length found ≡ length (drop at tokens) + 1 = omega (arith, size, length-drop at tokens) in
    rw cut (found_more find (get_or tokens (at - 1) d) (drop at tokens) found n full (rw is at e) known)

pub unchanged_within : (bytes : List ℕ) (ts : List Token) → unchanged bytes ts ≤ length ts
unfolding unchanged
unchanged_within bytes [] = omega arith
unchanged_within bytes (t ∷ ts) = elim (is_changing_word bytes t) as (λ b. cond b 0 (suc (unchanged bytes ts)) ≤ suc (length ts)) [
  | true ↦ omega arith
  | false ↦ omega (arith, unchanged_within bytes ts)
]

pub unchanged_step : (bytes : List ℕ) (tokens : List Token) (at : ℕ) (d : Token) (n : ℕ) → 0 < at → at ≤ length tokens
    → n ≡ unchanged bytes (get_or tokens (at - 1) d ∷ drop at tokens) → n ≡ unchanged bytes (drop (at - 1) tokens)
unchanged_step bytes tokens at d n some within e =
    let next : suc (at - 1) ≡ at = omega arith in
    e ∙ ap (unchanged bytes) (sym (drop-cons tokens (at - 1) d (omega arith) ∙ rw next refl))

-- what is found of tokens is found of those behind the first ones
pub found_drop : (find : List Token → ℕ) (n : ℕ) (ts : List Token) (found : List ℕ) → AreFound find ts found → AreFound find (drop n ts) found
found_drop find zero ts found known = known
found_drop find (suc n) [] found known = known
found_drop find (suc n) (t ∷ ts) found known = found_drop find n ts found (found_behind find t ts found known)
