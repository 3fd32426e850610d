-- The first word of a text.
use Rattle.std.proofs.Common.{◌≡◌, ℕ, ◌⊎◌, inl, inr, Bool, true, false, not, ◌&&◌, nat_eq, if◌then◌else◌, List, [], ◌∷◌, length, take, drop, refl, sym, ap, ◌∙◌, arith}
use Rattle.std.proofs.lemmas.Bool.{true≢false, not-true, not-false, and_right}
use Rattle.stk_proofs.specs.Words.{is_blank, begins_word, longer, with_byte, stretches, uncommented, words_of}
use Rattle.stk_proofs.specs.FirstWord.{front_word, behind_word, behind_line}

-- a blank is no `c`, and what is no blank is no newline
not_c : (b : ℕ) → is_blank b ≡ true → nat_eq b 99 ≡ false
not_c b e = grind arith

not_newline : (b : ℕ) → is_blank b ≡ false → nat_eq b 10 ≡ false
not_newline b e = grind arith

c_is_no_newline : (b : ℕ) → nat_eq b 99 ≡ true → nat_eq b 10 ≡ false
c_is_no_newline b e = grind arith

line_by : (bs : List ℕ) (t : Bool) → uncommented false true bs ≡ uncommented true false (behind_line bs) → uncommented t (not t) bs ≡ uncommented true false (if t then bs else behind_line bs)
line_by bs true e = refl
line_by bs false e = e

-- in a line that is dropped, what comes behind its end
pub dropped_line : (starts : Bool) (bs : List ℕ) → uncommented starts true bs ≡ uncommented true false (behind_line bs)
dropped_line starts [] = refl
dropped_line starts (b ∷ bs) = line_by bs (nat_eq b 10) (dropped_line false bs)

-- a line that begins with `c`
pub comment : (b : ℕ) (bs : List ℕ) → nat_eq b 99 ≡ true → uncommented true false (b ∷ bs) ≡ uncommented true false (behind_line bs)
comment b bs e = rw e (rw (c_is_no_newline b e) (dropped_line false bs))

-- a blank in front
pub blank_in_front : (starts : Bool) (b : ℕ) (bs : List ℕ) → is_blank b ≡ true → stretches (uncommented starts false (b ∷ bs)) ≡ stretches (uncommented (nat_eq b 10) false bs)
blank_in_front starts b bs e = rw (and_right starts (nat_eq b 99) (not_c b e)) (rw e refl)

-- the start of a line doesn't matter where no `c` is in front
pub no_comment : (starts : Bool) (b : ℕ) (bs : List ℕ) → starts && nat_eq b 99 ≡ false → uncommented starts false (b ∷ bs) ≡ uncommented false false (b ∷ bs)
no_comment starts b bs e = rw e refl

-- a byte that is no blank stays
stays : (b : ℕ) (bs : List ℕ) → is_blank b ≡ false → uncommented false false (b ∷ bs) ≡ b ∷ uncommented false false bs
stays b bs f = ap (λ s. b ∷ uncommented s false bs) (not_newline b f)

one_more : (b : ℕ) (u : List ℕ) → is_blank b ≡ false → stretches (b ∷ u) ≡ with_byte b (begins_word u) (stretches u)
one_more b u f = rw f refl

pub front_more : (b : ℕ) (bs : List ℕ) → is_blank b ≡ false → front_word (b ∷ bs) ≡ b ∷ front_word bs
front_more b bs f = rw f refl

pub behind_more : (b : ℕ) (bs : List ℕ) → is_blank b ≡ false → behind_word (b ∷ bs) ≡ behind_word bs
behind_more b bs f = rw f refl

pub front_blank : (b : ℕ) (bs : List ℕ) → is_blank b ≡ true → front_word (b ∷ bs) ≡ []
front_blank b bs k = rw k refl

pub behind_blank : (b : ℕ) (bs : List ℕ) → is_blank b ≡ true → behind_word (b ∷ bs) ≡ b ∷ bs
behind_blank b bs k = rw k refl

same_begin : (bs : List ℕ) → begins_word (uncommented false false bs) ≡ begins_word bs
same_begin [] = refl
same_begin (c ∷ cs) = refl

by_next : (b : ℕ) (bs : List ℕ) (t : Bool) → begins_word bs ≡ t → (t ≡ true → stretches (uncommented false false bs) ≡ front_word bs ∷ words_of (behind_word bs))
    → with_byte b (begins_word (uncommented false false bs)) (stretches (uncommented false false bs)) ≡ (b ∷ front_word bs) ∷ words_of (behind_word bs)
by_next b bs true e ih = ap (λ u. with_byte b u (stretches (uncommented false false bs))) (same_begin bs ∙ e) ∙ ap (longer b) (ih refl)
by_next b [] false e ih = refl
by_next b (c ∷ cs) false e ih =
    let k : is_blank c ≡ true = not-false (is_blank c) e in
    ap (λ u. with_byte b u (stretches (uncommented false false (c ∷ cs)))) (same_begin (c ∷ cs) ∙ e)
    ∙ (ap (λ ws. (b ∷ []) ∷ ws) (blank_in_front false c cs k ∙ sym (blank_in_front true c cs k))
    ∙ sym (ap (λ f. (b ∷ f) ∷ words_of (behind_word (c ∷ cs))) (front_blank c cs k) ∙ ap (λ t. (b ∷ []) ∷ words_of t) (behind_blank c cs k)))

-- the first word
pub first_word : (bs : List ℕ) → begins_word bs ≡ true → stretches (uncommented false false bs) ≡ front_word bs ∷ words_of (behind_word bs)
first_word [] e = absurd (true≢false (sym e))
first_word (b ∷ bs) e =
    let f : is_blank b ≡ false = not-true (is_blank b) e in
    ap stretches (stays b bs f)
    ∙ (one_more b (uncommented false false bs) f
    ∙ (by_next b bs (begins_word bs) refl (first_word bs)
    ∙ sym (ap (λ w. w ∷ words_of (behind_word (b ∷ bs))) (front_more b bs f) ∙ ap (λ t. (b ∷ front_word bs) ∷ words_of t) (behind_more b bs f))))

-- ---- as the code goes

pub comment_step : (starts : Bool) (rest behind after : List ℕ) (first : ℕ) → rest ≡ first ∷ behind → starts ≡ true → first ≡ 99 → after ≡ behind_line behind → stretches (uncommented starts false after) ≡ stretches (uncommented starts false rest)
comment_step starts rest behind after first is s c e =
    ap (λ t. stretches (uncommented starts false t)) e
    ∙ (ap (λ t. stretches (uncommented t false (behind_line behind))) s
    ∙ (sym (ap stretches (comment first behind (ap (λ n. nat_eq n 99) c)))
    ∙ (ap (λ t. stretches (uncommented t false (first ∷ behind))) (sym s) ∙ ap (λ t. stretches (uncommented starts false t)) (sym is))))

pub word_step : (start w rest all : List ℕ) (n : ℕ) → (length start ≡ 0) ⊎ (begins_word start ≡ true) → (length start ≡ 0 → ⊥) → take n start ≡ front_word start → drop n start ≡ behind_word start → w ≡ take n start → rest ≡ drop n start
    → stretches (uncommented false false start) ≡ words_of all → words_of all ≡ w ∷ words_of rest
word_step start w rest all n (inl none) some front behind e f same = absurd (some none)
word_step start w rest all n (inr begins) some front behind e f same =
    sym same ∙ (first_word start begins ∙ (ap (λ x. x ∷ words_of (behind_word start)) (sym (e ∙ front)) ∙ ap (λ t. w ∷ words_of t) (sym (f ∙ behind))))
