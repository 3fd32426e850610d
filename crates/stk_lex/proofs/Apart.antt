-- No text is in two classes.
use Rattle.std.proofs.Common.{◌≡◌, ℕ, Bool, true, false, ◌&&◌, ◌||◌, List, [], ◌∷◌, refl, sym, subst, ◌⊎◌, inl, inr, ◌∙◌, arith}
use Rattle.std.specs.Prelude.{◌==◌, not}
use Rattle.std.specs.List.{list_any, list_all}
use Rattle.std.specs.Char.{is_ascii_digit}
use Rattle.std.proofs.lemmas.Bool.{false≢true, eqb-true}
use Rattle.std.proofs.lemmas.Bool.Decides.{nat_tests}
use Rattle.stk_lex.specs.Cut.{begins_comment}
use Rattle.stk_lex.specs.Classes.{begins_word, is_word_byte, is_word, goes_on, is_digits, is_dotted, is_number, closes, is_quoted, is_marked, is_prefix, is_character, is_utf8, is_text, punctuators_of_one, punctuators_of_two, punctuators_of_three, is_punctuator_of_one, is_punctuator_of_two, is_punctuator_of_three, is_punctuator, digraphs_of_two, is_digraph_of_two, is_digraph_of_four, is_digraph}

no : {A : Type 0} (p : Bool) → p ≡ true → p ≡ false → A
no p e f = absurd (false≢true (sym f ∙ e))

and_parts : (p q : Bool) → (p && q) ≡ true → (p ≡ true) × (q ≡ true)
and_parts true true e = (refl, refl)
and_parts true false e = absurd (false≢true e)
and_parts false q e = absurd (false≢true e)

or_parts : (p q : Bool) → (p || q) ≡ true → (p ≡ true) ⊎ (q ≡ true)
or_parts true q e = inl refl
or_parts false q e = inr e

and_left : (p q : Bool) → p ≡ false → (p && q) ≡ false
and_left p q e = rw e refl

and_right : (p q : Bool) → q ≡ false → (p && q) ≡ false
and_right true q e = e
and_right false q e = refl

or_none : (p q : Bool) → p ≡ false → q ≡ false → (p || q) ≡ false
or_none p q e f = rw (e, f) refl

-- ---- bytes

digit_no_word : (b : ℕ) → is_ascii_digit b ≡ true → begins_word b ≡ false
digit_no_word b h = grind (arith, nat_tests)

prefix_no_digit : (b : ℕ) → is_prefix b ≡ true → is_ascii_digit b ≡ false
prefix_no_digit b h = grind (arith, nat_tests)

prefix_no_dot : (b : ℕ) → is_prefix b ≡ true → (b == 46) ≡ false
prefix_no_dot b h = grind (arith, nat_tests)

prefix_no_quote : (b : ℕ) → is_prefix b ≡ true → (b == 34) ≡ false
prefix_no_quote b h = grind (arith, nat_tests)

-- ---- numbers

pub number_no_word : (x : List ℕ) → is_number x ≡ true → is_word x ≡ false
unfolding is_number
number_no_word [] h = refl
number_no_word (b ∷ bs) h = elim (or_parts (is_digits (b ∷ bs)) (is_dotted (b ∷ bs)) h) [
  | inl d ↦ and_left (begins_word b) (list_all is_word_byte bs) (digit_no_word b (and_parts (is_ascii_digit b) (goes_on b bs) d).0)
  | inr d ↦ subst (λ x. is_word (x ∷ bs) ≡ false) (sym (eqb-true b 46 (and_parts (b == 46) (is_digits bs) d).0)) refl
]

-- ---- characters and texts

quoted_no_word : (quote : ℕ) (bs : List ℕ) → is_word_byte quote ≡ false → is_quoted quote bs ≡ true → list_all is_word_byte bs ≡ false
quoted_no_word quote [] w h = absurd (false≢true h)
quoted_no_word quote (b ∷ bs) w h = and_left (is_word_byte b) (list_all is_word_byte bs) (subst (λ x. is_word_byte x ≡ false) (sym (eqb-true b quote (and_parts (b == quote) (closes quote false bs) h).0)) w)

marked_no_word : (is_first : ℕ → Bool) (quote : ℕ) (bs : List ℕ) → is_word_byte quote ≡ false → is_marked is_first quote bs ≡ true → list_all is_word_byte bs ≡ false
marked_no_word is_first quote [] w h = absurd (false≢true h)
marked_no_word is_first quote (b ∷ bs) w h = and_right (is_word_byte b) (list_all is_word_byte bs) (quoted_no_word quote bs w (and_parts (is_first b) (is_quoted quote bs) h).1)

-- what begins so
pub record IsApart (x : List ℕ) : Type 0 where
  pub word : is_word x ≡ false
  pub number : is_number x ≡ false

quoted_apart : (quote : ℕ) (x : List ℕ) → ((bs : List ℕ) → IsApart (quote ∷ bs)) → is_quoted quote x ≡ true → IsApart x
quoted_apart quote [] known h = absurd (false≢true h)
quoted_apart quote (b ∷ bs) known h = subst (λ y. IsApart (y ∷ bs)) (sym (eqb-true b quote (and_parts (b == quote) (closes quote false bs) h).0)) (known bs)

prefix_no_number : (b : ℕ) (bs : List ℕ) → is_prefix b ≡ true → is_number (b ∷ bs) ≡ false
unfolding is_number
prefix_no_number b bs h = or_none (is_digits (b ∷ bs)) (is_dotted (b ∷ bs)) (and_left (is_ascii_digit b) (goes_on b bs) (prefix_no_digit b h)) (and_left (b == 46) (is_digits bs) (prefix_no_dot b h))

marked_apart : (quote : ℕ) (x : List ℕ) → is_word_byte quote ≡ false → is_marked is_prefix quote x ≡ true → IsApart x
marked_apart quote [] w h = absurd (false≢true h)
marked_apart quote (b ∷ bs) w h =
    let p = and_parts (is_prefix b) (is_quoted quote bs) h in
    record { word = and_right (begins_word b) (list_all is_word_byte bs) (quoted_no_word quote bs w p.1); number = prefix_no_number b bs p.0 }

utf8_apart : (quote : ℕ) (x : List ℕ) → is_word_byte quote ≡ false → is_utf8 quote x ≡ true → IsApart x
utf8_apart quote [] w h = absurd (false≢true h)
utf8_apart quote (b ∷ bs) w h =
    let p = and_parts (b == 117) (is_marked (λ c. c == 56) quote bs) h in
    record {
      word = and_right (begins_word b) (list_all is_word_byte bs) (marked_no_word (λ c. c == 56) quote bs w p.1);
      number = prefix_no_number b bs (subst (λ x. is_prefix x ≡ true) (sym (eqb-true b 117 p.0)) refl);
    }

single_apart : (bs : List ℕ) → IsApart (39 ∷ bs)
unfolding is_number
single_apart bs = record { word = refl; number = refl }

double_apart : (bs : List ℕ) → IsApart (34 ∷ bs)
unfolding is_number
double_apart bs = record { word = refl; number = refl }

pub character_apart : (x : List ℕ) → is_character x ≡ true → IsApart x
unfolding is_character
character_apart x h = elim (or_parts (is_quoted 39 x) (is_marked is_prefix 39 x) h) [ inl k ↦ quoted_apart 39 x single_apart k | inr k ↦ marked_apart 39 x refl k ]

pub text_apart : (x : List ℕ) → is_text x ≡ true → IsApart x
unfolding is_text
text_apart x h = elim (or_parts (is_quoted 34 x || is_marked is_prefix 34 x) (is_utf8 34 x) h) [
  | inl k ↦ elim (or_parts (is_quoted 34 x) (is_marked is_prefix 34 x) k) [ inl l ↦ quoted_apart 34 x double_apart l | inr l ↦ marked_apart 34 x refl l ]
  | inr k ↦ utf8_apart 34 x refl k
]

single_no_text : (bs : List ℕ) → is_text (39 ∷ bs) ≡ false
unfolding is_text
single_no_text bs = refl

prefix_no_text : (b : ℕ) (bs : List ℕ) → is_prefix b ≡ true → is_text (b ∷ 39 ∷ bs) ≡ false
unfolding is_text
prefix_no_text b bs h =
    or_none (is_quoted 34 (b ∷ 39 ∷ bs) || is_marked is_prefix 34 (b ∷ 39 ∷ bs)) (is_utf8 34 (b ∷ 39 ∷ bs))
    (or_none (is_quoted 34 (b ∷ 39 ∷ bs)) (is_marked is_prefix 34 (b ∷ 39 ∷ bs)) (and_left (b == 34) (closes 34 false (39 ∷ bs)) (prefix_no_quote b h)) (and_right (is_prefix b) false refl))
    (and_right (b == 117) false refl)

marked_no_text : (x : List ℕ) → is_marked is_prefix 39 x ≡ true → is_text x ≡ false
marked_no_text [] h = absurd (false≢true h)
marked_no_text (b ∷ []) h = no (is_prefix b && false) h (and_right (is_prefix b) false refl)
marked_no_text (b ∷ c ∷ bs) h =
    let p = and_parts (is_prefix b) (is_quoted 39 (c ∷ bs)) h in
    subst (λ y. is_text (b ∷ y ∷ bs) ≡ false) (sym (eqb-true c 39 (and_parts (c == 39) (closes 39 false bs) p.1).0)) (prefix_no_text b bs p.0)

quoted_no_text : (x : List ℕ) → is_quoted 39 x ≡ true → is_text x ≡ false
quoted_no_text [] h = absurd (false≢true h)
quoted_no_text (b ∷ bs) h = subst (λ y. is_text (y ∷ bs) ≡ false) (sym (eqb-true b 39 (and_parts (b == 39) (closes 39 false bs) h).0)) (single_no_text bs)

pub character_no_text : (x : List ℕ) → is_character x ≡ true → is_text x ≡ false
unfolding is_character
character_no_text x h = elim (or_parts (is_quoted 39 x) (is_marked is_prefix 39 x) h) [ inl k ↦ quoted_no_text x k | inr k ↦ marked_no_text x k ]

-- ---- punctuators and digraphs

-- what begins no word, number, character or text, but for a `.` before a digit
abbrev other : ℕ → Bool
other b = not (begins_word b || is_ascii_digit b || b == 39 || b == 34 || is_prefix b)

pub record IsBare (x : List ℕ) : Type 0 where
  pub word : is_word x ≡ false
  pub number : is_number x ≡ false
  pub character : is_character x ≡ false
  pub text : is_text x ≡ false

all_none : (a b c d e : Bool) → not (a || b || c || d || e) ≡ true → (a ≡ false) × (b ≡ false) × (c ≡ false) × (d ≡ false) × (e ≡ false)
all_none false false false false false h = (refl, refl, refl, refl, refl)
all_none false false false false true h = absurd (false≢true h)
all_none false false false true e h = absurd (false≢true h)
all_none false false true d e h = absurd (false≢true h)
all_none false true c d e h = absurd (false≢true h)
all_none true b c d e h = absurd (false≢true h)

other_no_u : (b : ℕ) → is_prefix b ≡ false → (b == 117) ≡ false
other_no_u b h = grind (arith, nat_tests)

bare : (b : ℕ) (bs : List ℕ) → other b ≡ true → is_dotted (b ∷ bs) ≡ false → IsBare (b ∷ bs)
unfolding is_number is_character is_text
bare b bs h dotted =
    let p = all_none (begins_word b) (is_ascii_digit b) (b == 39) (b == 34) (is_prefix b) h in
    record {
      word = and_left (begins_word b) (list_all is_word_byte bs) p.0;
      number = or_none (is_digits (b ∷ bs)) (is_dotted (b ∷ bs)) (and_left (is_ascii_digit b) (goes_on b bs) p.1) dotted;
      character = or_none (is_quoted 39 (b ∷ bs)) (is_marked is_prefix 39 (b ∷ bs)) (and_left (b == 39) (closes 39 false bs) p.2) (and_left (is_prefix b) (is_quoted 39 bs) p.4);
      text = or_none (is_quoted 34 (b ∷ bs) || is_marked is_prefix 34 (b ∷ bs)) (is_utf8 34 (b ∷ bs))
          (or_none (is_quoted 34 (b ∷ bs)) (is_marked is_prefix 34 (b ∷ bs)) (and_left (b == 34) (closes 34 false bs) p.3) (and_left (is_prefix b) (is_quoted 34 bs) p.4))
          (and_left (b == 117) (is_marked (λ c. c == 56) 34 bs) (other_no_u b p.4));
    }

any_one : (p : ℕ → Bool) (xs : List ℕ) (a : ℕ) → list_all p xs ≡ true → list_any (λ m. m == a) xs ≡ true → p a ≡ true
any_one p [] a h is = absurd (false≢true is)
any_one p (x ∷ xs) a h is =
    let q = and_parts (p x) (list_all p xs) h in
    elim (or_parts (x == a) (list_any (λ m. m == a) xs) is) [ inl e ↦ subst (λ y. p y ≡ true) (eqb-true x a e) q.0 | inr k ↦ any_one p xs a q.1 k ]

any_two : (p : ℕ → ℕ → Bool) (xs : List (ℕ × ℕ)) (a b : ℕ) → list_all (λ m. p m.0 m.1) xs ≡ true → list_any (λ m. m.0 == a && m.1 == b) xs ≡ true → p a b ≡ true
any_two p [] a b h is = absurd (false≢true is)
any_two p (x ∷ xs) a b h is =
    let q = and_parts (p x.0 x.1) (list_all (λ m. p m.0 m.1) xs) h in
    elim (or_parts (x.0 == a && x.1 == b) (list_any (λ m. m.0 == a && m.1 == b) xs) is) [
      | inl e ↦ (let s = and_parts (x.0 == a) (x.1 == b) e in subst (λ y. p y b ≡ true) (eqb-true x.0 a s.0) (subst (λ y. p x.0 y ≡ true) (eqb-true x.1 b s.1) q.0))
      | inr k ↦ any_two p xs a b q.1 k
    ]

any_three : (p : ℕ → ℕ → Bool) (xs : List (ℕ × ℕ × ℕ)) (a b c : ℕ) → list_all (λ m. p m.0 m.1) xs ≡ true → list_any (λ m. m.0 == a && m.1 == b && m.2 == c) xs ≡ true → p a b ≡ true
any_three p [] a b c h is = absurd (false≢true is)
any_three p (x ∷ xs) a b c h is =
    let q = and_parts (p x.0 x.1) (list_all (λ m. p m.0 m.1) xs) h in
    elim (or_parts (x.0 == a && x.1 == b && x.2 == c) (list_any (λ m. m.0 == a && m.1 == b && m.2 == c) xs) is) [
      | inl e ↦ (let r = and_parts (x.0 == a && x.1 == b) (x.2 == c) e in let s = and_parts (x.0 == a) (x.1 == b) r.0 in
          subst (λ y. p y b ≡ true) (eqb-true x.0 a s.0) (subst (λ y. p x.0 y ≡ true) (eqb-true x.1 b s.1) q.0))
      | inr k ↦ any_three p xs a b c q.1 k
    ]

-- of two bytes and more: what begins them is no number either
abbrev no_number : ℕ → ℕ → Bool
no_number a b = other a && not (a == 46 && is_ascii_digit b)

not_false : (p : Bool) → not p ≡ true → p ≡ false
not_false true h = absurd (false≢true h)
not_false false h = refl

and_more : (p q r : Bool) → (p && q) ≡ false → (p && (q && r)) ≡ false
and_more true true r h = absurd (false≢true (sym h))
and_more true false r h = refl
and_more false q r h = refl

bare_two : (a b : ℕ) (bs : List ℕ) → no_number a b ≡ true → IsBare (a ∷ b ∷ bs)
bare_two a b bs h = let p = and_parts (other a) (not (a == 46 && is_ascii_digit b)) h in
    bare a (b ∷ bs) p.0 (and_more (a == 46) (is_ascii_digit b) (goes_on b bs) (not_false (a == 46 && is_ascii_digit b) p.1))

one_bare : (x : List ℕ) → is_punctuator_of_one x ≡ true → IsBare x
one_bare [] h = absurd (false≢true h)
one_bare (a ∷ []) h = bare a [] (any_one other punctuators_of_one a refl h) (and_right (a == 46) false refl)
one_bare (a ∷ b ∷ x) h = absurd (false≢true h)

two_bare : (x : List ℕ) → is_punctuator_of_two x ≡ true → IsBare x
two_bare [] h = absurd (false≢true h)
two_bare (a ∷ []) h = absurd (false≢true h)
two_bare (a ∷ b ∷ []) h = bare_two a b [] (any_two no_number punctuators_of_two a b refl h)
two_bare (a ∷ b ∷ c ∷ x) h = absurd (false≢true h)

three_bare : (x : List ℕ) → is_punctuator_of_three x ≡ true → IsBare x
three_bare [] h = absurd (false≢true h)
three_bare (a ∷ []) h = absurd (false≢true h)
three_bare (a ∷ b ∷ []) h = absurd (false≢true h)
three_bare (a ∷ b ∷ c ∷ []) h = bare_two a b (c ∷ []) (any_three no_number punctuators_of_three a b c refl h)
three_bare (a ∷ b ∷ c ∷ d ∷ x) h = absurd (false≢true h)

pub punctuator_bare : (x : List ℕ) → is_punctuator x ≡ true → IsBare x
unfolding is_punctuator
punctuator_bare x h = elim (or_parts (is_punctuator_of_one x || is_punctuator_of_two x) (is_punctuator_of_three x) h) [
  | inl k ↦ elim (or_parts (is_punctuator_of_one x) (is_punctuator_of_two x) k) [ inl l ↦ one_bare x l | inr l ↦ two_bare x l ]
  | inr k ↦ three_bare x k
]

-- no punctuator either
pub record IsNone (x : List ℕ) : Type 0 where
  pub bare : IsBare x
  pub punctuator : is_punctuator x ≡ false

digraph_two_none : (x : List ℕ) → is_digraph_of_two x ≡ true → IsNone x
unfolding is_punctuator
digraph_two_none [] h = absurd (false≢true h)
digraph_two_none (a ∷ []) h = absurd (false≢true h)
digraph_two_none (a ∷ b ∷ []) h = record {
  bare = bare_two a b [] (any_two no_number digraphs_of_two a b refl h);
  punctuator = not_false (is_punctuator (a ∷ b ∷ [])) (any_two (λ a b. not (is_punctuator (a ∷ b ∷ []))) digraphs_of_two a b refl h);
}
digraph_two_none (a ∷ b ∷ c ∷ x) h = absurd (false≢true h)

digraph_four_none : (x : List ℕ) → is_digraph_of_four x ≡ true → IsNone x
unfolding is_punctuator
digraph_four_none [] h = absurd (false≢true h)
digraph_four_none (a ∷ []) h = absurd (false≢true h)
digraph_four_none (a ∷ b ∷ []) h = absurd (false≢true h)
digraph_four_none (a ∷ b ∷ c ∷ []) h = absurd (false≢true h)
digraph_four_none (a ∷ b ∷ c ∷ d ∷ []) h =
    let p = and_parts (a == 37 && b == 58 && c == 37) (d == 58) h in
    let q = and_parts (a == 37 && b == 58) (c == 37) p.0 in
    let r = and_parts (a == 37) (b == 58) q.0 in
    record {
      bare = subst (λ y. IsBare (y ∷ b ∷ c ∷ d ∷ [])) (sym (eqb-true a 37 r.0)) (bare 37 (b ∷ c ∷ d ∷ []) refl refl);
      punctuator = refl;
    }
digraph_four_none (a ∷ b ∷ c ∷ d ∷ e ∷ x) h = absurd (false≢true h)

pub digraph_none : (x : List ℕ) → is_digraph x ≡ true → IsNone x
unfolding is_digraph
digraph_none x h = elim (or_parts (is_digraph_of_two x) (is_digraph_of_four x) h) [ inl k ↦ digraph_two_none x k | inr k ↦ digraph_four_none x k ]

-- an open comment
slash_none : (x : List ℕ) → IsNone (47 ∷ 42 ∷ x)
unfolding is_punctuator
slash_none [] = record { bare = bare_two 47 42 [] refl; punctuator = refl }
slash_none (a ∷ []) = record { bare = bare_two 47 42 (a ∷ []) refl; punctuator = refl }
slash_none (a ∷ b ∷ x) = record { bare = bare_two 47 42 (a ∷ b ∷ x) refl; punctuator = refl }

pub comment_none : (x : List ℕ) → begins_comment x ≡ true → IsNone x
comment_none [] h = absurd (false≢true h)
comment_none (a ∷ []) h = no ((a == 47) && false) h (and_right (a == 47) false refl)
comment_none (a ∷ b ∷ x) h =
    let p = and_parts (a == 47) (b == 42) h in
    subst (λ y. IsNone (y ∷ b ∷ x)) (sym (eqb-true a 47 p.0)) (subst (λ y. IsNone (47 ∷ y ∷ x)) (sym (eqb-true b 42 p.1)) (slash_none x))
