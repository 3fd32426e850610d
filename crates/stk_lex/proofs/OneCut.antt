-- A text has one cut.
use Rattle.std.proofs.Common.{◌≡◌, ℕ, ◌-◌, Bool, true, false, cond, List, [], ◌∷◌, length, take, drop, refl, sym, ap, subst, ◌∙◌, inl, inr, arith}
use Rattle.std.proofs.lemmas.Bool.{false≢true, cases_order}
use Rattle.std.proofs.Math.Seq.{drop-length}
use Rattle.std.proofs.lemmas.List.{take_all, length-drop}
use Rattle.stk_base.specs.declared.token.Class.{Class}
use Rattle.stk_base.specs.declared.token.Class.TheVariants as classes
use Rattle.stk_lex.specs.declared.token.Token.{Token}
use Rattle.stk_lex.specs.Classes.{is_word, is_number, is_character, is_text, is_punctuator}
use Rattle.stk_lex.specs.Gaps.{gap, gap_at, only_blanks, AreGaps, no_gap, more_gaps}
use Rattle.stk_lex.specs.Cut.{IsStray, digraph, open_quote, open_comment, byte, InClass, IsFirst, IsToken, IsCutFrom, IsCut}
use Rattle.stk_lex.proofs.First.{quote_is_other, no_form}
use Rattle.stk_lex.proofs.Apart.{number_no_word, character_apart, text_apart, character_no_text, punctuator_bare, digraph_none, comment_none}

-- the class of a text
abbrev class_of : List ℕ → Class
class_of x = cond (is_word x) classes.Word (cond (is_number x) classes.Number (cond (is_character x) classes.Character (cond (is_text x) classes.Text (cond (is_punctuator x) classes.Punctuator classes.Stray))))

no_character : (x : List ℕ) (p : Bool) → is_character x ≡ p → is_text x ≡ true → p ≡ false
no_character x true e h = absurd (false≢true (sym (character_no_text x e) ∙ h))
no_character x false e h = refl

none_is : (x : List ℕ) → is_word x ≡ false → is_number x ≡ false → is_character x ≡ false → is_text x ≡ false → is_punctuator x ≡ false → classes.Stray ≡ class_of x
none_is x a b c d e = rw (a, b, c, d, e) refl

stray_is : (bs : List ℕ) (n : ℕ) → IsStray bs n → classes.Stray ≡ class_of (take n bs)
stray_is bs n (digraph is) = let k = digraph_none (take n bs) is in none_is (take n bs) k.bare.word k.bare.number k.bare.character k.bare.text k.punctuator
stray_is bs n (open_quote q nc nt e) = let k = quote_is_other bs n q in none_is (take n bs) k.word k.number (nc n) (nt n) k.punctuator
stray_is bs n (open_comment a b e) =
    let k = comment_none bs a in
    let whole : take n bs ≡ bs = take_all n bs (omega arith) in
    rw whole (none_is bs k.bare.word k.bare.number k.bare.character k.bare.text k.punctuator)
stray_is bs n (byte none q e) = let k = no_form (take n bs) (none n) in none_is (take n bs) k.word k.number k.character k.text k.punctuator

class_is : (bs : List ℕ) (n : ℕ) (class : Class) → InClass class bs n → class ≡ class_of (take n bs)
class_is bs n classes.Word is = rw is refl
class_is bs n classes.Number is = rw (number_no_word (take n bs) is, is) refl
class_is bs n classes.Character is = let k = character_apart (take n bs) is in rw (k.word, k.number, is) refl
class_is bs n classes.Text is = let k = text_apart (take n bs) is in rw (k.word, k.number, no_character (take n bs) (is_character (take n bs)) refl is, is) refl
class_is bs n classes.Punctuator is = let k = punctuator_bare (take n bs) is in rw (k.word, k.number, k.character, k.text, is) refl
class_is bs n classes.Stray is = stray_is bs n is

pub one_length : (bs : List ℕ) (c d : Class) (m n : ℕ) → IsFirst bs c m → IsFirst bs d n → m ≡ n
one_length bs c d m n h k = elim (cases_order m n) [
  | inl e ↦ e
  | inr o ↦ elim o [ inl less ↦ absurd (h.longest d n less k.within.1 k.in_class) | inr more ↦ absurd (k.longest c m more h.within.1 h.in_class) ]
]

one_class : (bs : List ℕ) (c d : Class) (n : ℕ) → IsFirst bs c n → IsFirst bs d n → c ≡ d
one_class bs c d n h k = class_is bs n c h.in_class ∙ sym (class_is bs n d k.in_class)

one_gaps : {text : List ℕ} {a b c : ℕ} → AreGaps text a b → AreGaps text a c → gap text b ≡ 0 → gap text c ≡ 0 → b ≡ c
one_gaps no_gap no_gap e f = refl
one_gaps no_gap (more_gaps some k) e f = absurd (omega arith)
one_gaps (more_gaps some h) no_gap e f = absurd (omega arith)
one_gaps (more_gaps some h) (more_gaps other k) e f = one_gaps h k e f

no_gap_at_end : (text : List ℕ) → gap text (length text) ≡ 0
no_gap_at_end text = ap (gap_at (only_blanks true (take (length text) text))) (drop-length text)

none_at_end : (text : List ℕ) (at : ℕ) (c : Class) (n : ℕ) → at ≡ length text → IsFirst (drop at text) c n → ⊥
none_at_end text at c n e h = omega (arith, h.within.0, h.within.1, length-drop at text)

same_token : (c d : Class) (a b m n : ℕ) → c ≡ d → a ≡ b → m ≡ n → ◌≡◌ {A = Token} (record { class = c; span = record { from = a; to = m } }) (record { class = d; span = record { from = b; to = n } })
same_token c d a b m n e f g = cc

one_token : (text : List ℕ) (t u : Token) → t.span.from ≡ u.span.from → IsToken text t → IsToken text u → t ≡ u
one_token text t u e h k =
    let there : IsFirst (drop t.span.from text) u.class (u.span.to - u.span.from) = subst (λ n. IsFirst (drop n text) u.class (u.span.to - u.span.from)) (sym e) k in
    let long : t.span.to - t.span.from ≡ u.span.to - u.span.from = one_length (drop t.span.from text) t.class u.class (t.span.to - t.span.from) (u.span.to - u.span.from) h there in
    let to : t.span.to ≡ u.span.to = omega (arith, h.within.0, k.within.0) in
    let class : t.class ≡ u.class = one_class (drop t.span.from text) t.class u.class (t.span.to - t.span.from) h (subst (IsFirst (drop t.span.from text) u.class) (sym long) there) in
    same_token t.class u.class t.span.from u.span.from t.span.to u.span.to class e to

one_cut_from : (text : List ℕ) (at : ℕ) (ts us : List Token) → IsCutFrom text at ts → IsCutFrom text at us → ts ≡ us
one_cut_from text at [] [] h k = refl
one_cut_from text at [] (u ∷ us) h k = absurd (none_at_end text u.span.from u.class (u.span.to - u.span.from) (one_gaps k.0 h k.1 (no_gap_at_end text)) k.2)
one_cut_from text at (t ∷ ts) [] h k = absurd (none_at_end text t.span.from t.class (t.span.to - t.span.from) (one_gaps h.0 k h.1 (no_gap_at_end text)) h.2)
one_cut_from text at (t ∷ ts) (u ∷ us) h k =
    let same : t ≡ u = one_token text t u (one_gaps h.0 k.0 h.1 k.1) h.2 k.2 in
    let rest : ts ≡ us = one_cut_from text t.span.to ts us h.3 (subst (λ x. IsCutFrom text x us) (sym (ap (λ x. x.span.to) same)) k.3) in
    cc

pub one_cut : (text : List ℕ) (ts us : List Token) → IsCut text ts → IsCut text us → ts ≡ us
one_cut text ts us h k = one_cut_from text 0 ts us h k
