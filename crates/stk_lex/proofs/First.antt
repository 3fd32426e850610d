-- The token at the front.
use Rattle.std.proofs.Common.{◌≡◌, ℕ, zero, suc, ◌+◌, ◌<◌, ◌≤◌, max, Bool, true, false, ◌&&◌, ◌||◌, List, [], ◌∷◌, length, take, drop, refl, sym, subst, ◌⊎◌, inl, inr, ◌∙◌, arith}
use Rattle.std.specs.Prelude.{◌==◌}
use Rattle.std.proofs.lemmas.Bool.{false≢true, eqb-true, cases_lt}
use Rattle.std.proofs.lemmas.List.{take_all}
use Rattle.std.proofs.lemmas.Bool.Decides.{nat_tests}
use Rattle.stk_base.specs.declared.token.Class.{Class}
use Rattle.stk_base.specs.declared.token.Class.TheVariants as classes
use Rattle.stk_lex.specs.Classes.{is_word, is_number, is_character, is_text, is_punctuator, is_digraph, IsLongest}
use Rattle.stk_lex.specs.Gaps.{line, begins, comment, one_more, gap_at}
use Rattle.stk_lex.specs.Cut.{NoneBegins, begins_quote, begins_comment, is_form, digraph, open_quote, open_comment, byte, InClass, IsFirst}
use Rattle.stk_lex.specs.Lengths.{word_length, number_length, character_length, text_length, punctuator_length, digraph_length, form_length}
use Rattle.stk_lex.proofs.Longest.{either, word_is_longest, number_is_longest, character_is_longest, text_is_longest, punctuator_is_longest, digraph_is_longest}

-- ---- what begins with a quote is a character, a text or stray

pub record IsOther (bs : List ℕ) : Type 0 where
  pub word : is_word bs ≡ false
  pub number : is_number bs ≡ false
  pub punctuator : is_punctuator bs ≡ false
  pub digraph : is_digraph bs ≡ false

single_is_other : (bs : List ℕ) → IsOther (39 ∷ bs)
unfolding is_number is_punctuator is_digraph
single_is_other [] = record { word = refl; number = refl; punctuator = refl; digraph = refl }
single_is_other (b ∷ []) = record { word = refl; number = refl; punctuator = refl; digraph = refl }
single_is_other (b ∷ c ∷ []) = record { word = refl; number = refl; punctuator = refl; digraph = refl }
single_is_other (b ∷ c ∷ d ∷ []) = record { word = refl; number = refl; punctuator = refl; digraph = refl }
single_is_other (b ∷ c ∷ d ∷ e ∷ bs) = record { word = refl; number = refl; punctuator = refl; digraph = refl }

double_is_other : (bs : List ℕ) → IsOther (34 ∷ bs)
unfolding is_number is_punctuator is_digraph
double_is_other [] = record { word = refl; number = refl; punctuator = refl; digraph = refl }
double_is_other (b ∷ []) = record { word = refl; number = refl; punctuator = refl; digraph = refl }
double_is_other (b ∷ c ∷ []) = record { word = refl; number = refl; punctuator = refl; digraph = refl }
double_is_other (b ∷ c ∷ d ∷ []) = record { word = refl; number = refl; punctuator = refl; digraph = refl }
double_is_other (b ∷ c ∷ d ∷ e ∷ bs) = record { word = refl; number = refl; punctuator = refl; digraph = refl }

quote_of : (b : ℕ) (bs : List ℕ) (p q : Bool) → (b == 39) ≡ p → (b == 34) ≡ q → (p || q) ≡ true → IsOther (b ∷ bs)
quote_of b bs true q e f h = subst (λ x. IsOther (x ∷ bs)) (sym (eqb-true b 39 e)) (single_is_other bs)
quote_of b bs false true e f h = subst (λ x. IsOther (x ∷ bs)) (sym (eqb-true b 34 f)) (double_is_other bs)
quote_of b bs false false e f h = absurd (false≢true h)

empty_is_other : IsOther []
unfolding is_number is_punctuator is_digraph
empty_is_other = record { word = refl; number = refl; punctuator = refl; digraph = refl }

pub quote_is_other : (bs : List ℕ) (m : ℕ) → begins_quote bs ≡ true → IsOther (take m bs)
quote_is_other bs zero h = empty_is_other
quote_is_other [] (suc m) h = absurd (false≢true h)
quote_is_other (b ∷ bs) (suc m) h = quote_of b (take m bs) (b == 39) (b == 34) refl refl h

empty_character : is_character [] ≡ false
unfolding is_character
empty_character = refl

empty_text : is_text [] ≡ false
unfolding is_text
empty_text = refl

-- ---- the lengths

none_passes : (f : List ℕ → Bool) (bs : List ℕ) → f [] ≡ false → 0 < length bs → IsLongest f bs 0 → (m : ℕ) → f (take m bs) ≡ false
none_passes f bs empty some h zero = empty
none_passes f bs empty some h (suc m) = within_or (cases_lt (length bs) (suc m)) where
  within_or : (length bs < suc m) ⊎ (suc m ≤ length bs) → f (take (suc m) bs) ≡ false
  within_or (inl above) = rw (take_all (suc m) bs (omega arith)) (subst (λ x. f x ≡ false) (take_all (length bs) bs (omega arith)) (h.longest (length bs) some (omega arith)))
  within_or (inr fits) = h.longest (suc m) (omega arith) fits

pub form_is_longest : (bs : List ℕ) → IsLongest is_form bs (form_length bs)
form_is_longest bs =
    either (λ x. is_word x || is_number x || is_character x || is_text x || is_punctuator x) is_digraph bs (max (max (max (max (word_length bs) (number_length bs)) (character_length bs)) (text_length bs)) (punctuator_length bs)) (digraph_length bs)
    (either (λ x. is_word x || is_number x || is_character x || is_text x) is_punctuator bs (max (max (max (word_length bs) (number_length bs)) (character_length bs)) (text_length bs)) (punctuator_length bs)
    (either (λ x. is_word x || is_number x || is_character x) is_text bs (max (max (word_length bs) (number_length bs)) (character_length bs)) (text_length bs)
    (either (λ x. is_word x || is_number x) is_character bs (max (word_length bs) (number_length bs)) (character_length bs)
    (either is_word is_number bs (word_length bs) (number_length bs) (word_is_longest bs) (number_is_longest bs))
    (character_is_longest bs))
    (text_is_longest bs))
    (punctuator_is_longest bs))
    (digraph_is_longest bs)

-- ---- the four ways to find a token

not_both : {A : Type 0} (p : Bool) → p ≡ false → p ≡ true → A
not_both p e f = absurd (false≢true (sym e ∙ f))

-- the open quote of the code, and of the definition
no_open_quote : (p : Bool) (a b : ℕ) → (p && a == 0 && b == 0) ≡ false → p ≡ true → 0 < a + b
no_open_quote p zero zero e h = absurd (false≢true (sym e ∙ rw h refl))
no_open_quote p zero (suc b) e h = omega arith
no_open_quote p (suc a) b e h = omega arith

all_true : (p q r : Bool) → (p && q && r) ≡ true → (p ≡ true) × (q ≡ true) × (r ≡ true)
all_true true true true e = (refl, refl, refl)
all_true true true false e = absurd (false≢true e)
all_true true false r e = absurd (false≢true e)
all_true false q r e = absurd (false≢true e)

open_quote_parts : (p : Bool) (a b : ℕ) → (p && a == 0 && b == 0) ≡ true → (p ≡ true) × (a ≡ 0) × (b ≡ 0)
open_quote_parts p a b e = let h = all_true p (a == 0) (b == 0) e in (h.0, eqb-true a 0 h.1, eqb-true b 0 h.2)

-- where none begins, the length is 0
length_none : (f : List ℕ → Bool) (bs : List ℕ) (n : ℕ) → IsLongest f bs n → NoneBegins f bs → n ≡ 0
length_none f bs zero h none = refl
length_none f bs (suc n) h none = not_both (f (take (suc n) bs)) (none (suc n)) (h.passes (omega arith))

line_some : (bs : List ℕ) → begins_quote bs ≡ true → 0 < line bs
unfolding line
line_some [] h = absurd (false≢true h)
line_some (b ∷ bs) h = grind (arith, nat_tests)

comment_begins : (bs : List ℕ) → begins_comment bs ≡ true → 0 < length bs
comment_begins [] h = absurd (false≢true h)
comment_begins (b ∷ bs) h = omega arith

comment_no_quote : (bs : List ℕ) → begins_comment bs ≡ true → begins_quote bs ≡ true → ⊥
comment_no_quote [] h q = absurd (false≢true h)
comment_no_quote (b ∷ bs) h q = grind (arith, nat_tests)

pub stray_quote : (bs : List ℕ) → line bs ≤ length bs → (begins_quote bs && character_length bs == 0 && text_length bs == 0) ≡ true → IsFirst bs classes.Stray (line bs)
stray_quote bs fits is_open =
    let p = open_quote_parts (begins_quote bs) (character_length bs) (text_length bs) is_open in
    let q : begins_quote bs ≡ true = p.0 in
    let some : 0 < length bs = omega (arith, line_some bs q) in
    let no_character = none_passes is_character bs empty_character some (rw p.1 at (character_is_longest bs)) in
    let no_text = none_passes is_text bs empty_text some (rw p.2 at (text_is_longest bs)) in
    record {
      within = (line_some bs q, fits);
      in_class = open_quote q no_character no_text refl;
      longest = above no_character no_text q;
    } where
      above : NoneBegins is_character bs → NoneBegins is_text bs → begins_quote bs ≡ true → (other : Class) (m : ℕ) → line bs < m → m ≤ length bs → InClass other bs m → ⊥
      above nc nt q classes.Word m over within is = not_both (is_word (take m bs)) (quote_is_other bs m q).word is
      above nc nt q classes.Number m over within is = not_both (is_number (take m bs)) (quote_is_other bs m q).number is
      above nc nt q classes.Character m over within is = not_both (is_character (take m bs)) (nc m) is
      above nc nt q classes.Text m over within is = not_both (is_text (take m bs)) (nt m) is
      above nc nt q classes.Punctuator m over within is = not_both (is_punctuator (take m bs)) (quote_is_other bs m q).punctuator is
      above nc nt q classes.Stray m over within (digraph is) = not_both (is_digraph (take m bs)) (quote_is_other bs m q).digraph is
      above nc nt q classes.Stray m over within (open_quote a b d e) = omega arith
      above nc nt q classes.Stray m over within (open_comment a b e) = comment_no_quote bs a q
      above nc nt q classes.Stray m over within (byte a b e) = not_both (begins_quote bs) b q

pub stray_comment : (bs : List ℕ) → begins_comment bs ≡ true → comment (drop 2 bs) ≡ 0 → IsFirst bs classes.Stray (length bs)
stray_comment bs begun endless = record {
  within = (comment_begins bs begun, omega arith);
  in_class = open_comment begun endless refl;
  longest = λ other m over fits is. omega arith;
}

-- a text of no form is of no class but stray
pub record NoForm (x : List ℕ) : Type 0 where
  pub word : is_word x ≡ false
  pub number : is_number x ≡ false
  pub character : is_character x ≡ false
  pub text : is_text x ≡ false
  pub punctuator : is_punctuator x ≡ false
  pub digraph : is_digraph x ≡ false

or_left : (p q : Bool) → (p || q) ≡ false → p ≡ false
or_left true q h = h
or_left false q h = refl

or_right : (p q : Bool) → (p || q) ≡ false → q ≡ false
or_right true true h = h
or_right true false h = refl
or_right false q h = h

six : (a b c d e f : Bool) → (a || b || c || d || e || f) ≡ false → (a ≡ false) × (b ≡ false) × (c ≡ false) × (d ≡ false) × (e ≡ false) × (f ≡ false)
six a b c d e f h =
    let h5 = or_left (a || b || c || d || e) f h in
    let h4 = or_left (a || b || c || d) e h5 in
    let h3 = or_left (a || b || c) d h4 in
    let h2 = or_left (a || b) c h3 in
    (or_left a b h2, or_right a b h2, or_right (a || b) c h3, or_right (a || b || c) d h4, or_right (a || b || c || d) e h5, or_right (a || b || c || d || e) f h)

pub no_form : (x : List ℕ) → is_form x ≡ false → NoForm x
no_form x h = let p = six (is_word x) (is_number x) (is_character x) (is_text x) (is_punctuator x) (is_digraph x) h in
    record { word = p.0; number = p.1; character = p.2; text = p.3; punctuator = p.4; digraph = p.5 }

-- no longer text is in a class, where none is of a form
above_form : (bs : List ℕ) (n : ℕ) → 0 < n → ((m : ℕ) → n < m → m ≤ length bs → NoForm (take m bs)) → (begins_quote bs ≡ true → NoneBegins is_character bs → NoneBegins is_text bs → ⊥) → begins_comment bs ≡ false
    → (other : Class) (m : ℕ) → n < m → m ≤ length bs → InClass other bs m → ⊥
above_form bs n some none quoted begun classes.Word m over fits is = not_both (is_word (take m bs)) (none m over fits).word is
above_form bs n some none quoted begun classes.Number m over fits is = not_both (is_number (take m bs)) (none m over fits).number is
above_form bs n some none quoted begun classes.Character m over fits is = not_both (is_character (take m bs)) (none m over fits).character is
above_form bs n some none quoted begun classes.Text m over fits is = not_both (is_text (take m bs)) (none m over fits).text is
above_form bs n some none quoted begun classes.Punctuator m over fits is = not_both (is_punctuator (take m bs)) (none m over fits).punctuator is
above_form bs n some none quoted begun classes.Stray m over fits (digraph is) = not_both (is_digraph (take m bs)) (none m over fits).digraph is
above_form bs n some none quoted begun classes.Stray m over fits (open_quote a b c e) = quoted a b c
above_form bs n some none quoted begun classes.Stray m over fits (open_comment a b e) = not_both (begins_comment bs) begun a
above_form bs n some none quoted begun classes.Stray m over fits (byte a b e) = omega arith

quote_closed : (bs : List ℕ) → (begins_quote bs && character_length bs == 0 && text_length bs == 0) ≡ false → begins_quote bs ≡ true → NoneBegins is_character bs → NoneBegins is_text bs → ⊥
quote_closed bs quoted q nc nt =
    let c = length_none is_character bs (character_length bs) (character_is_longest bs) nc in
    let t = length_none is_text bs (text_length bs) (text_is_longest bs) nt in
    let some = no_open_quote (begins_quote bs) (character_length bs) (text_length bs) quoted q in
    omega arith

pub first_form : (bs : List ℕ) (class : Class) (n : ℕ) → n ≡ form_length bs → 0 < n → InClass class bs n
    → (begins_quote bs && character_length bs == 0 && text_length bs == 0) ≡ false → begins_comment bs ≡ false → IsFirst bs class n
first_form bs class n e some is quoted begun = record {
  within = (some, rw e (form_is_longest bs).within);
  in_class = is;
  longest = above_form bs n some (λ m over fits. no_form (take m bs) ((form_is_longest bs).longest m (omega arith) fits)) (quote_closed bs quoted) begun;
}

not_true : (p : Bool) → (p ≡ true → ⊥) → p ≡ false
not_true true h = absurd (h refl)
not_true false h = refl

empty_form : is_form [] ≡ false
unfolding is_number is_character is_text is_punctuator is_digraph
empty_form = refl

pub stray_byte : (bs : List ℕ) → 0 < length bs → form_length bs ≡ 0 → (begins_quote bs && character_length bs == 0 && text_length bs == 0) ≡ false → begins_comment bs ≡ false → IsFirst bs classes.Stray 1
stray_byte bs some e quoted begun =
    let none = none_passes is_form bs empty_form some (rw e at (form_is_longest bs)) in
    record {
      within = (omega arith, some);
      in_class = byte none (not_true (begins_quote bs) (λ q. quote_closed bs quoted q (λ m. (no_form (take m bs) (none m)).character) (λ m. (no_form (take m bs) (none m)).text))) refl;
      longest = above_form bs 1 (omega arith) (λ m over fits. no_form (take m bs) (none m)) (quote_closed bs quoted) begun;
    }

pub passes_of : (f : List ℕ → Bool) (bs : List ℕ) (a n : ℕ) → IsLongest f bs a → n ≡ a → 0 < n → f (take n bs) ≡ true
passes_of f bs a n h e some = rw e (h.passes (omega arith))

-- ---- where no gap begins, no comment ends

slash : (b : ℕ) (bs : List ℕ) → (b == 47) ≡ true → begins 42 bs ≡ true → (fresh : Bool) → gap_at fresh (b ∷ bs) ≡ one_more (one_more (comment (drop 1 bs)))
slash b bs e f fresh = rw (eqb-true b 47 e, f) refl

none_more : (n : ℕ) → one_more (one_more n) ≡ 0 → n ≡ 0
none_more zero e = refl
none_more (suc n) e = absurd (omega arith)

and_parts : (p q : Bool) → (p && q) ≡ true → (p ≡ true) × (q ≡ true)
and_parts true true e = (refl, refl)
and_parts true false e = absurd (false≢true e)
and_parts false q e = absurd (false≢true e)

pub endless : (fresh : Bool) (bs : List ℕ) → gap_at fresh bs ≡ 0 → begins_comment bs ≡ true → comment (drop 2 bs) ≡ 0
endless fresh [] e h = absurd (false≢true h)
endless fresh (b ∷ bs) e h =
    let p = and_parts (b == 47) (begins 42 bs) h in
    none_more (comment (drop 1 bs)) (sym (slash b bs p.0 p.1 fresh) ∙ e)
