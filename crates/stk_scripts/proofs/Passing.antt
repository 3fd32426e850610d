-- One byte of the pass.
use Rattle.std.proofs.Common.{◌≡◌, ℕ, zero, suc, ◌<◌, ◌≤◌, ◌+◌, ◌-◌, Bool, true, false, List, [], ◌∷◌, ◌++◌, length, get_or, take, drop, refl, ap, sym, ◌∙◌, append_assoc, subst, arith, add-one, drop-cons}
use Rattle.std.specs.Prelude.{Option, Some, None, map, option_map}
use Rattle.std.proofs.lemmas.List.{take_more, get_or-drop, length-drop}
use Rattle.stk_base.specs.Text.{text_of}
use Rattle.stk_scripts.specs.declared.lexing.Token.{Token as Cut}
use Rattle.stk_scripts.specs.declared.lexing.Token.TheVariants as cut
use Rattle.stk_scripts.specs.declared.lexing.State.{State}
use Rattle.stk_scripts.specs.declared.lexing.State.TheVariants as state
use Rattle.stk_scripts.specs.Tokens.{Token, word}
use Rattle.stk_scripts.specs.Texts.{is_word_byte}
use Rattle.stk_scripts.specs.Lexing.{Mode, between, in_word, before, begun, lexed, lexed_step}
use Rattle.stk_scripts.specs.Shown.{token_shown, tokens_shown, mode_shown, all_before, IsBehind, given, BeginsAs, Passes, token_of, one_token}
use Rattle.stk_scripts.proofs.Bytes.{cond_true, cond_false}

-- tokens before tokens
before_all : (ts us : List Token) (r : Option (List Token)) → all_before (ts ++ us) r ≡ all_before ts (all_before us r)
before_all ts us None = refl
before_all ts us (Some vs) = ap Some (append_assoc ts us vs)

shown_more : (bytes : List ℕ) (ts us : List Cut) → tokens_shown bytes (ts ++ us) ≡ tokens_shown bytes ts ++ tokens_shown bytes us
shown_more bytes [] us = refl
shown_more bytes (t ∷ ts) us = ap (λ x. token_shown bytes t ∷ x) (shown_more bytes ts us)

one_given : (bytes : List ℕ) (t : Option Cut) (r : Option (List Token)) → all_before (tokens_shown bytes (one_token t)) r ≡ given bytes t r
one_given bytes None None = refl
one_given bytes None (Some us) = refl
one_given bytes (Some t) None = refl
one_given bytes (Some t) (Some us) = refl

-- what is found between tokens, taken
pub taken_between : (bytes : List ℕ) (at b : ℕ) (rest : Mode → Option (List Token)) (found : Option (State × Option Cut)) (old new : List Cut) (next : Option State)
    → BeginsAs bytes at b rest found → next ≡ option_map (λ (x : State × Option Cut). x.0) found → new ≡ old ++ token_of found → Passes bytes at b rest state.Between old new next
taken_between bytes at b rest None old new next h e f = subst (Passes bytes at b rest state.Between old new) (sym e) h
taken_between bytes at b rest (Some x) old new next h e f =
    subst (Passes bytes at b rest state.Between old new) (sym e) (
      h.0,
      ap (λ (ts : List Cut). all_before (tokens_shown bytes ts) (rest (mode_shown bytes (at + 1) x.0))) f
          ∙ ap (λ ts. all_before ts (rest (mode_shown bytes (at + 1) x.0))) (shown_more bytes old (one_token x.1))
          ∙ before_all (tokens_shown bytes old) (tokens_shown bytes (one_token x.1)) (rest (mode_shown bytes (at + 1) x.0))
          ∙ ap (all_before (tokens_shown bytes old)) (one_given bytes x.1 (rest (mode_shown bytes (at + 1) x.0)) ∙ sym h.1),
    )

one_word : (w : List ℕ) (r : Option (List Token)) → before (word w) r ≡ all_before (word w ∷ []) r
one_word w None = refl
one_word w (Some ts) = refl

before_none : (w : List ℕ) (r : Option (List Token)) → r ≡ None → before (word w) r ≡ None
before_none w r e = ap (before (word w)) e

-- a word that ends, and what is found behind it
pub taken_word : (bytes : List ℕ) (at from b : ℕ) (rest : Mode → Option (List Token)) (old new : List Cut) (next : Option State)
    → is_word_byte b ≡ false → Passes bytes at b rest state.Between (old ++ cut.Word (record { from = from; to = at }) ∷ []) new next → Passes bytes at b rest (state.Word from) old new next
taken_word bytes at from b rest old new None out h = cond_false (is_word_byte b) _ _ out ∙ before_none (text_of bytes (record { from = from; to = at })) (begun b rest) h
taken_word bytes at from b rest old new (Some next) out h =
    let w = text_of bytes (record { from = from; to = at }) in (
      h.0,
      h.1 ∙ ap (λ ts. all_before ts (begun b rest)) (shown_more bytes old (cut.Word (record { from = from; to = at }) ∷ [])) ∙ before_all (tokens_shown bytes old) (word w ∷ []) (begun b rest)
          ∙ ap (all_before (tokens_shown bytes old)) (sym (one_word w (begun b rest)) ∙ sym (cond_false (is_word_byte b) (rest (in_word (w ++ b ∷ []))) (before (word w) (begun b rest)) out)),
    )

-- a text with one byte more
longer : (bytes : List ℕ) (from at b : ℕ) → from < at → at < length bytes → get_or bytes at 0 ≡ b → take (at + 1 - from) (drop from bytes) ≡ take (at - from) (drop from bytes) ++ b ∷ []
longer bytes from at b h k e =
    let long : at - from < length (drop from bytes) = omega (arith, length-drop from bytes) in
    let place : from + (at - from) ≡ at = omega arith in
    let one : at + 1 - from ≡ (at - from) + 1 = omega arith in
    ap (λ n. take n (drop from bytes)) one ∙ take_more (drop from bytes) (at - from) 0 long
    ∙ ap (λ x. take (at - from) (drop from bytes) ++ x ∷ []) (get_or-drop from bytes (at - from) 0 ∙ ap (λ n. get_or bytes n 0) place ∙ e)

pub word_on : (bytes : List ℕ) (at from b : ℕ) (rest : Mode → Option (List Token)) (old : List Cut) → from < at → at < length bytes → get_or bytes at 0 ≡ b → is_word_byte b ≡ true
    → Passes bytes at b rest (state.Word from) old old (Some (state.Word from))
word_on bytes at from b rest old h k e on =
    let w = text_of bytes (record { from = from; to = at }) in (
      omega arith,
      ap (all_before (tokens_shown bytes old)) (ap (λ x. rest (in_word x)) (longer bytes from at b h k e) ∙ sym (cond_true (is_word_byte b) (rest (in_word (w ++ b ∷ []))) (before (word w) (begun b rest)) on)),
    )

-- the step to the next byte
pub next_byte : (bytes : List ℕ) (at b : ℕ) (m : Mode) → at < length bytes → get_or bytes at 0 ≡ b → lexed (drop at bytes) m ≡ lexed_step b (lexed (drop (at + 1) bytes)) m
next_byte bytes at b m h e =
    ap (λ bs. lexed bs m) (drop-cons bytes at 0 h ∙ ap (λ x. x ∷ drop (suc at) bytes) e ∙ ap (λ n. b ∷ drop n bytes) (sym (add-one at)))
