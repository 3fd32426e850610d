-- The readers find the longest texts.
use Rattle.std.proofs.Common.{◌≡◌, ℕ, zero, suc, ◌<◌, ◌≤◌, max, Bool, true, false, cond, ◌&&◌, ◌||◌, List, [], ◌∷◌, length, take, refl, sym, ap, ◌∙◌, arith}
use Rattle.std.specs.Prelude.{◌==◌, nat_le, not}
use Rattle.std.specs.List.{list_all}
use Rattle.std.specs.Char.{is_ascii_digit}
use Rattle.std.proofs.lemmas.Bool.{false≢true, leb-true}
use Rattle.std.proofs.lemmas.List.{length-take}
use Rattle.stk_lex.specs.Classes.{begins_word, is_word_byte, is_word, may_follow, goes_on, is_digits, is_dotted, is_number, closes, is_nil, is_quoted, is_marked, is_prefix, is_character, is_utf8, is_text, is_punctuator_of_one, is_punctuator_of_two, is_punctuator_of_three, is_punctuator, is_digraph_of_two, is_digraph_of_four, is_digraph, IsLongest}
use Rattle.stk_lex.specs.Gaps.{one_more}
use Rattle.stk_lex.specs.Lengths.{word_run, word_length, number_run, digits_length, dotted_length, number_length, closing, quoted_length, marked_length, utf8_length, character_length, text_length, fixed_length, punctuator_length, digraph_length}

-- ---- how longest texts are put together

either_at : (p q : Bool) → p ≡ false → q ≡ false → (p || q) ≡ false
either_at p q h k = rw (h, k) refl

either_left : (p q : Bool) → p ≡ true → (p || q) ≡ true
either_left p q h = rw h refl

either_right : (p q : Bool) → q ≡ true → (p || q) ≡ true
either_right true q h = refl
either_right false q h = h

both_true : (p q : Bool) → p ≡ true → q ≡ true → (p && q) ≡ true
both_true p q h k = rw (h, k) refl

both_false : (p q : Bool) → q ≡ false → (p && q) ≡ false
both_false true q h = h
both_false false q h = refl

not_true : (p : Bool) → (p ≡ true → ⊥) → p ≡ false
not_true true h = absurd (h refl)
not_true false h = refl

greater : (f g : List ℕ → Bool) (bs : List ℕ) (a b : ℕ) (r : Bool) → r ≡ nat_le a b → IsLongest f bs a → IsLongest g bs b → 0 < max a b → (f (take (max a b) bs) || g (take (max a b) bs)) ≡ true
greater f g bs a b true e h k positive =
    let le : a ≤ b = leb-true a b (sym e) in
    let same : max a b ≡ b = omega arith in
    rw same (either_right (f (take b bs)) (g (take b bs)) (k.passes (omega arith)))
greater f g bs a b false e h k positive =
    let le : b < a = grind (arith, e) in
    let same : max a b ≡ a = omega arith in
    rw same (either_left (f (take a bs)) (g (take a bs)) (h.passes (omega arith)))

pub either : (f g : List ℕ → Bool) (bs : List ℕ) (a b : ℕ) → IsLongest f bs a → IsLongest g bs b → IsLongest (λ x. f x || g x) bs (max a b)
either f g bs a b h k = record {
  within = omega (arith, h.within, k.within);
  passes = greater f g bs a b (nat_le a b) refl h k;
  longest = λ m above fits. either_at (f (take m bs)) (g (take m bs)) (h.longest m (omega arith) fits) (k.longest m (omega arith) fits);
}

pub nothing : (f : List ℕ → Bool) → f [] ≡ false → IsLongest f [] 0
nothing f empty = record { within = omega arith; passes = λ positive. absurd (omega arith); longest = λ m above fits. absurd (omega arith) }

-- ---- texts that may end anywhere up to a place

pub record IsRun (test : List ℕ → Bool) (bytes : List ℕ) (n : ℕ) : Type 0 where
  pub within : n ≤ length bytes
  pub passes : test (take n bytes) ≡ true
  pub longest : (m : ℕ) → n < m → m ≤ length bytes → test (take m bytes) ≡ false

pub run_nothing : (f : List ℕ → Bool) → f [] ≡ true → IsRun f [] 0
run_nothing f empty = record { within = omega arith; passes = empty; longest = λ m above fits. absurd (omega arith) }

above_front : (f g : List ℕ → Bool) (b : ℕ) (bs : List ℕ) (ok : Bool) (n : ℕ) → ((cs : List ℕ) → f (b ∷ cs) ≡ (ok && g cs)) → IsRun g bs n
    → (m : ℕ) → suc n < m → m ≤ suc (length bs) → f (take m (b ∷ bs)) ≡ false
above_front f g b bs ok n at h zero above fits = absurd (omega arith)
above_front f g b bs ok n at h (suc m) above fits = at (take m bs) ∙ both_false ok (g (take m bs)) (h.longest m (omega arith) (omega arith))

above_none : (f g : List ℕ → Bool) (b : ℕ) (bs : List ℕ) → ((cs : List ℕ) → f (b ∷ cs) ≡ (false && g cs)) → (m : ℕ) → 0 < m → m ≤ suc (length bs) → f (take m (b ∷ bs)) ≡ false
above_none f g b bs at zero above fits = absurd (omega arith)
above_none f g b bs at (suc m) above fits = at (take m bs)

pub run_front : (f g : List ℕ → Bool) (b : ℕ) (bs : List ℕ) (ok : Bool) (n : ℕ) → f [] ≡ true → ((cs : List ℕ) → f (b ∷ cs) ≡ (ok && g cs)) → IsRun g bs n → IsRun f (b ∷ bs) (cond ok (suc n) 0)
run_front f g b bs true n empty at h = record { within = omega (arith, h.within); passes = at (take n bs) ∙ h.passes; longest = above_front f g b bs true n at h }
run_front f g b bs false n empty at h = record { within = omega arith; passes = empty; longest = above_none f g b bs at }

-- a first byte, and such a text
pub begun : (f g : List ℕ → Bool) (b : ℕ) (bs : List ℕ) (ok : Bool) (n : ℕ) → ((cs : List ℕ) → f (b ∷ cs) ≡ (ok && g cs)) → IsRun g bs n → IsLongest f (b ∷ bs) (cond ok (suc n) 0)
begun f g b bs true n at h = record { within = omega (arith, h.within); passes = λ positive. at (take n bs) ∙ h.passes; longest = above_front f g b bs true n at h }
begun f g b bs false n at h = record { within = omega arith; passes = λ positive. absurd (omega arith); longest = above_none f g b bs at }

-- ---- a byte before a text

pub above_nil : (m : ℕ) (bs : List ℕ) → 0 < m → m ≤ length bs → is_nil (take m bs) ≡ false
above_nil zero bs above fits = absurd (omega arith)
above_nil (suc m) [] above fits = absurd (omega arith)
above_nil (suc m) (b ∷ bs) above fits = refl

above_end : (f : List ℕ → Bool) (b : ℕ) (bs : List ℕ) → ((cs : List ℕ) → f (b ∷ cs) ≡ is_nil cs) → (m : ℕ) → 1 < m → m ≤ suc (length bs) → f (take m (b ∷ bs)) ≡ false
above_end f b bs at zero above fits = absurd (omega arith)
above_end f b bs at (suc m) above fits = at (take m bs) ∙ above_nil m bs (omega arith) (omega arith)

above_nothing : (f g : List ℕ → Bool) (b : ℕ) (bs : List ℕ) → g [] ≡ false → ((cs : List ℕ) → f (b ∷ cs) ≡ g cs) → IsLongest g bs 0 → (m : ℕ) → 0 < m → m ≤ suc (length bs) → f (take m (b ∷ bs)) ≡ false
above_nothing f g b bs none at h zero above fits = absurd (omega arith)
above_nothing f g b bs none at h (suc zero) above fits = at [] ∙ none
above_nothing f g b bs none at h (suc (suc m)) above fits = at (take (suc m) bs) ∙ h.longest (suc m) (omega arith) (omega arith)

above_some : (f g : List ℕ → Bool) (b : ℕ) (bs : List ℕ) (n : ℕ) → ((cs : List ℕ) → f (b ∷ cs) ≡ g cs) → IsLongest g bs n → (m : ℕ) → suc n < m → m ≤ suc (length bs) → f (take m (b ∷ bs)) ≡ false
above_some f g b bs n at h zero above fits = absurd (omega arith)
above_some f g b bs n at h (suc m) above fits = at (take m bs) ∙ h.longest m (omega arith) (omega arith)

-- a byte that ends the text, a byte that spoils it, or a byte before the rest
ends_or : (f g : List ℕ → Bool) (b : ℕ) (bs : List ℕ) (p r : Bool) (n : ℕ) → g [] ≡ false → ((cs : List ℕ) → f (b ∷ cs) ≡ cond p (is_nil cs) (not r && g cs)) → IsLongest g bs n
    → IsLongest f (b ∷ bs) (cond p 1 (cond r 0 (one_more n)))
ends_or f g b bs true r n none at h = record { within = omega arith; passes = λ positive. at []; longest = above_end f b bs at }
ends_or f g b bs false true n none at h = record { within = omega arith; passes = λ positive. absurd (omega arith); longest = above_none f g b bs at }
ends_or f g b bs false false zero none at h = record { within = omega arith; passes = λ positive. absurd (omega arith); longest = above_nothing f g b bs none at h }
ends_or f g b bs false false (suc n) none at h = record {
  within = omega (arith, h.within);
  passes = λ positive. at (take (suc n) bs) ∙ h.passes (omega arith);
  longest = above_some f g b bs (suc n) at h;
}

-- a byte before a text
pub front : (f g : List ℕ → Bool) (b : ℕ) (bs : List ℕ) (ok : Bool) (n : ℕ) → g [] ≡ false → ((cs : List ℕ) → f (b ∷ cs) ≡ (ok && g cs)) → IsLongest g bs n → IsLongest f (b ∷ bs) (cond ok (one_more n) 0)
front f g b bs true n none at h = ends_or f g b bs false false n none at h
front f g b bs false n none at h = ends_or f g b bs false true n none at h

-- ---- each class

word_run_is : (bs : List ℕ) → IsRun (list_all is_word_byte) bs (word_run bs)
unfolding word_run
word_run_is [] = run_nothing (list_all is_word_byte) refl
word_run_is (b ∷ bs) = run_front (list_all is_word_byte) (list_all is_word_byte) b bs (is_word_byte b) (word_run bs) refl (λ cs. refl) (word_run_is bs)

pub word_is_longest : (bs : List ℕ) → IsLongest is_word bs (word_length bs)
word_is_longest [] = nothing is_word refl
word_is_longest (b ∷ bs) = begun is_word (list_all is_word_byte) b bs (begins_word b) (word_run bs) (λ cs. refl) (word_run_is bs)

number_run_is : (before : ℕ) (bs : List ℕ) → IsRun (goes_on before) bs (number_run before bs)
unfolding number_run
number_run_is before [] = run_nothing (goes_on before) refl
number_run_is before (b ∷ bs) = run_front (goes_on before) (goes_on b) b bs (may_follow before b) (number_run b bs) refl (λ cs. refl) (number_run_is b bs)

digits_is : (bs : List ℕ) → IsLongest is_digits bs (digits_length bs)
digits_is [] = nothing is_digits refl
digits_is (b ∷ bs) = begun is_digits (goes_on b) b bs (is_ascii_digit b) (number_run b bs) (λ cs. refl) (number_run_is b bs)

dotted_is : (bs : List ℕ) → IsLongest is_dotted bs (dotted_length bs)
dotted_is [] = nothing is_dotted refl
dotted_is (b ∷ bs) = front is_dotted is_digits b bs (b == 46) (digits_length bs) refl (λ cs. refl) (digits_is bs)

pub number_is_longest : (bs : List ℕ) → IsLongest is_number bs (number_length bs)
unfolding is_number
number_is_longest bs = either is_digits is_dotted bs (digits_length bs) (dotted_length bs) (digits_is bs) (dotted_is bs)

pub closing_is : (quote : ℕ) (escaped : Bool) (bs : List ℕ) → IsLongest (closes quote escaped) bs (closing quote escaped bs)
unfolding closing
closing_is quote escaped [] = nothing (closes quote escaped) refl
closing_is quote escaped (b ∷ bs) =
    ends_or (closes quote escaped) (closes quote (not escaped && b == 92)) b bs (not escaped && b == quote) (b == 10) (closing quote (not escaped && b == 92) bs) refl (λ cs. refl) (closing_is quote (not escaped && b == 92) bs)

quoted_is : (quote : ℕ) (bs : List ℕ) → IsLongest (is_quoted quote) bs (quoted_length quote bs)
quoted_is quote [] = nothing (is_quoted quote) refl
quoted_is quote (b ∷ bs) = front (is_quoted quote) (closes quote false) b bs (b == quote) (closing quote false bs) refl (λ cs. refl) (closing_is quote false bs)

marked_is : (is_first : ℕ → Bool) (quote : ℕ) (bs : List ℕ) → IsLongest (is_marked is_first quote) bs (marked_length is_first quote bs)
marked_is is_first quote [] = nothing (is_marked is_first quote) refl
marked_is is_first quote (b ∷ bs) = front (is_marked is_first quote) (is_quoted quote) b bs (is_first b) (quoted_length quote bs) refl (λ cs. refl) (quoted_is quote bs)

utf8_is : (quote : ℕ) (bs : List ℕ) → IsLongest (is_utf8 quote) bs (utf8_length quote bs)
utf8_is quote [] = nothing (is_utf8 quote) refl
utf8_is quote (b ∷ bs) = front (is_utf8 quote) (is_marked (λ c. c == 56) quote) b bs (b == 117) (marked_length (λ c. c == 56) quote bs) refl (λ cs. refl) (marked_is (λ c. c == 56) quote bs)

pub character_is_longest : (bs : List ℕ) → IsLongest is_character bs (character_length bs)
unfolding is_character
character_is_longest bs = either (is_quoted 39) (is_marked is_prefix 39) bs (quoted_length 39 bs) (marked_length is_prefix 39 bs) (quoted_is 39 bs) (marked_is is_prefix 39 bs)

pub text_is_longest : (bs : List ℕ) → IsLongest is_text bs (text_length bs)
unfolding is_text
text_is_longest bs =
    either (λ x. is_quoted 34 x || is_marked is_prefix 34 x) (is_utf8 34) bs (max (quoted_length 34 bs) (marked_length is_prefix 34 bs)) (utf8_length 34 bs)
    (either (is_quoted 34) (is_marked is_prefix 34) bs (quoted_length 34 bs) (marked_length is_prefix 34 bs) (quoted_is 34 bs) (marked_is is_prefix 34 bs))
    (utf8_is 34 bs)

-- ---- punctuators

-- texts of n bytes alone
fixed_is : (f : List ℕ → Bool) (n : ℕ) (bs : List ℕ) (p : Bool) → p ≡ f (take n bs) → ((x : List ℕ) → f x ≡ true → length x ≡ n) → IsLongest f bs (cond p n 0)
fixed_is f n bs true e sized = record {
  within = omega (arith, sized (take n bs) (sym e), length-take n bs);
  passes = λ positive. sym e;
  longest = λ m above fits. not_true (f (take m bs)) (λ is. omega (arith, sized (take m bs) is, length-take m bs));
}
fixed_is f n bs false e sized = record {
  within = omega arith;
  passes = λ positive. absurd (omega arith);
  longest = λ m above fits. not_true (f (take m bs)) (λ is.
      let same : m ≡ n = omega (arith, sized (take m bs) is, length-take m bs) in
      false≢true (e ∙ ap (λ x. f (take x bs)) (sym same) ∙ is));
}

size_of_one : (x : List ℕ) → is_punctuator_of_one x ≡ true → length x ≡ 1
size_of_one [] is = absurd (false≢true is)
size_of_one (a ∷ []) is = refl
size_of_one (a ∷ b ∷ x) is = absurd (false≢true is)

size_of_two : (x : List ℕ) → is_punctuator_of_two x ≡ true → length x ≡ 2
size_of_two [] is = absurd (false≢true is)
size_of_two (a ∷ []) is = absurd (false≢true is)
size_of_two (a ∷ b ∷ []) is = refl
size_of_two (a ∷ b ∷ c ∷ x) is = absurd (false≢true is)

size_of_three : (x : List ℕ) → is_punctuator_of_three x ≡ true → length x ≡ 3
size_of_three [] is = absurd (false≢true is)
size_of_three (a ∷ []) is = absurd (false≢true is)
size_of_three (a ∷ b ∷ []) is = absurd (false≢true is)
size_of_three (a ∷ b ∷ c ∷ []) is = refl
size_of_three (a ∷ b ∷ c ∷ d ∷ x) is = absurd (false≢true is)

size_of_digraph : (x : List ℕ) → is_digraph_of_two x ≡ true → length x ≡ 2
size_of_digraph [] is = absurd (false≢true is)
size_of_digraph (a ∷ []) is = absurd (false≢true is)
size_of_digraph (a ∷ b ∷ []) is = refl
size_of_digraph (a ∷ b ∷ c ∷ x) is = absurd (false≢true is)

size_of_four : (x : List ℕ) → is_digraph_of_four x ≡ true → length x ≡ 4
size_of_four [] is = absurd (false≢true is)
size_of_four (a ∷ []) is = absurd (false≢true is)
size_of_four (a ∷ b ∷ []) is = absurd (false≢true is)
size_of_four (a ∷ b ∷ c ∷ []) is = absurd (false≢true is)
size_of_four (a ∷ b ∷ c ∷ d ∷ []) is = refl
size_of_four (a ∷ b ∷ c ∷ d ∷ e ∷ x) is = absurd (false≢true is)

pub punctuator_is_longest : (bs : List ℕ) → IsLongest is_punctuator bs (punctuator_length bs)
unfolding is_punctuator
punctuator_is_longest bs =
    either (λ x. is_punctuator_of_one x || is_punctuator_of_two x) is_punctuator_of_three bs (max (fixed_length is_punctuator_of_one 1 bs) (fixed_length is_punctuator_of_two 2 bs)) (fixed_length is_punctuator_of_three 3 bs)
    (either is_punctuator_of_one is_punctuator_of_two bs (fixed_length is_punctuator_of_one 1 bs) (fixed_length is_punctuator_of_two 2 bs)
    (fixed_is is_punctuator_of_one 1 bs (is_punctuator_of_one (take 1 bs)) refl size_of_one) (fixed_is is_punctuator_of_two 2 bs (is_punctuator_of_two (take 2 bs)) refl size_of_two))
    (fixed_is is_punctuator_of_three 3 bs (is_punctuator_of_three (take 3 bs)) refl size_of_three)

pub digraph_is_longest : (bs : List ℕ) → IsLongest is_digraph bs (digraph_length bs)
unfolding is_digraph
digraph_is_longest bs =
    either is_digraph_of_two is_digraph_of_four bs (fixed_length is_digraph_of_two 2 bs) (fixed_length is_digraph_of_four 4 bs)
    (fixed_is is_digraph_of_two 2 bs (is_digraph_of_two (take 2 bs)) refl size_of_digraph) (fixed_is is_digraph_of_four 4 bs (is_digraph_of_four (take 4 bs)) refl size_of_four)
