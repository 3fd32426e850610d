-- The words of written texts, and that they are read back.
use Rattle.std.proofs.Common.{◌≡◌, ℕ, zero, suc, get_or, ◌+◌, ◌-◌, ◌*◌, ◌/◌, ◌%◌, ◌^◌, ◌<◌, ◌≤◌, Bool, true, false, not, ◌&&◌, nat_eq, nat_le, nat_lt, if◌then◌else◌, List, [], ◌∷◌, ◌++◌, length, map, Some, None, refl, ap, ◌∙◌, arith, append_assoc, rules}
use Rattle.std.specs.Prelude.{decimal}
use Rattle.std.specs.List.{list_all}
use Rattle.std.specs.Option.{option_map, option_and_then}
use Rattle.std.proofs.lemmas.Bool.{not-true, and_parts, and_right}
use Rattle.std.proofs.lemmas.Fmt.{digits_decimal, digits_value-decimal, decimal_nonempty, first_decimal, decimal_digit}
use Rattle.std.proofs.lemmas.Str.Parse.{IsNumeralModel, numerals_by_fold}
use Rattle.stk_base.specs.Text as base
use Rattle.stk_clauses.specs.declared.literal.Lit.{Lit}
use Rattle.stk_proofs.specs.declared.entries.Entry.TheVariants.{Item}
use Rattle.stk_proofs.specs.Words.{is_blank, stretches, uncommented, words_of}
use Rattle.stk_proofs.specs.FirstWord.{front_word, behind_word}
use Rattle.stk_proofs.specs.Numbers.{is_digit, has_leading_zero, is_numeral, number_in}
use Rattle.stk_proofs.specs.Entries.{positive_entry, negative_entry, literal_entry, in_front, listed, listed_from}
use Rattle.stk_proofs.specs.Dimacs.{literal_text, literals_text, clauses_text, clauses_in}
use Rattle.stk_proofs.proofs.FirstWord.{no_comment, first_word, blank_in_front, front_more, behind_more, front_blank, behind_blank}

-- the words of what is left of a text, from the start of a line on or from inside one
abbrev pub words_from : Bool → List ℕ → List (List ℕ)
words_from starts bs = stretches (uncommented starts false bs)

-- a byte of a written number: no blank, and no `c`
abbrev pub is_plain : ℕ → Bool
is_plain b = not (is_blank b) && not (nat_eq b 99)

all_weaker : (p q : ℕ → Bool) → ((b : ℕ) → p b ≡ true → q b ≡ true) → (w : List ℕ) → list_all p w ≡ true → list_all q w ≡ true
all_weaker p q f [] e = refl
all_weaker p q f (b ∷ bs) e = let both = and_parts (p b) (list_all p bs) e in ap (λ x. x && list_all q bs) (f b both.0) ∙ all_weaker p q f bs both.1

front_whole : (w t : List ℕ) (b : ℕ) → list_all is_plain w ≡ true → is_blank b ≡ true → front_word (w ++ b ∷ t) ≡ w
front_whole [] t b p k = front_blank b t k
front_whole (c ∷ w) t b p k =
    let both = and_parts (is_plain c) (list_all is_plain w) p in
    let one = and_parts (not (is_blank c)) (not (nat_eq c 99)) both.0 in
    front_more c (w ++ b ∷ t) (not-true (is_blank c) one.0) ∙ ap (λ x. c ∷ x) (front_whole w t b both.1 k)

behind_whole : (w t : List ℕ) (b : ℕ) → list_all is_plain w ≡ true → is_blank b ≡ true → behind_word (w ++ b ∷ t) ≡ b ∷ t
behind_whole [] t b p k = behind_blank b t k
behind_whole (c ∷ w) t b p k =
    let both = and_parts (is_plain c) (list_all is_plain w) p in
    let one = and_parts (not (is_blank c)) (not (nat_eq c 99)) both.0 in
    behind_more c (w ++ b ∷ t) (not-true (is_blank c) one.0) ∙ behind_whole w t b both.1 k

-- a word in front of a text
pub word_at : (starts : Bool) (w t : List ℕ) (b : ℕ) → 0 < length w → list_all is_plain w ≡ true → is_blank b ≡ true → words_from starts (w ++ b ∷ t) ≡ w ∷ words_from (nat_eq b 10) t
word_at starts [] t b some p k = absurd (omega (arith, some))
word_at starts (c ∷ w) t b some p k =
    let both = and_parts (is_plain c) (list_all is_plain w) p in
    let one = and_parts (not (is_blank c)) (not (nat_eq c 99)) both.0 in
    ap stretches (no_comment starts c (w ++ b ∷ t) (and_right starts (nat_eq c 99) (not-true (nat_eq c 99) one.1)))
    ∙ (first_word (c ∷ (w ++ b ∷ t)) one.0
    ∙ (ap (λ x. x ∷ words_of (behind_word (c ∷ (w ++ b ∷ t)))) (front_whole (c ∷ w) t b p k)
    ∙ (ap (λ x. (c ∷ w) ∷ words_of x) (behind_whole (c ∷ w) t b p k) ∙ ap (λ ws. (c ∷ w) ∷ ws) (blank_in_front true b t k))))

-- ---- numbers

own : IsNumeralModel (λ ds. list_all is_digit ds ≡ true) base.decimal
own = numerals_by_fold _ (search rules) base.decimal_behind (search rules)

digit_plain : (b : ℕ) → is_digit b ≡ true → is_plain b ≡ true
digit_plain b e = grind arith

digit_no_sign : (b : ℕ) → is_digit b ≡ true → nat_eq b 45 ≡ false
digit_no_sign b e = grind arith

digits_of_number : (n : ℕ) → n < 2 ^ 64 → list_all is_digit (decimal n) ≡ true
digits_of_number n h = digits_decimal own n h

pub plain_number : (n : ℕ) → n < 2 ^ 64 → list_all is_plain (decimal n) ≡ true
plain_number n h = all_weaker is_digit is_plain digit_plain (decimal n) (digits_of_number n h)

-- what is written of a number has no leading zero
high_first : (w : List ℕ) → 48 < get_or w 0 0 → has_leading_zero w ≡ false
high_first [] h = refl
high_first (b ∷ bs) h = let no : nat_eq b 48 ≡ false = grind (arith, h) in rw no refl

no_leading_zero : (n : ℕ) → n < 2 ^ 64 → has_leading_zero (decimal n) ≡ false
no_leading_zero zero h = ap has_leading_zero (decimal_digit 0 (omega arith))
no_leading_zero (suc n) h = high_first (decimal (suc n)) (first_decimal (suc n) (omega arith) h)

numeral_of : (w : List ℕ) → 0 < length w → has_leading_zero w ≡ false → list_all is_digit w ≡ true → is_numeral w ≡ true
numeral_of [] some z e = absurd (omega (arith, some))
numeral_of (b ∷ bs) some z e = ap (λ t. not t && list_all is_digit (b ∷ bs)) z ∙ e

lt_true : (a b : ℕ) → a < b → nat_lt a b ≡ true
lt_true a b h = grind (arith, h)

pub number_back : (n : ℕ) → n < 2 ^ 31 → number_in (decimal n) ≡ Some n
number_back n h =
    let wide : n < 2 ^ 64 = omega (arith, h) in
    let v : base.decimal (decimal n) ≡ n = digits_value-decimal own n wide in
    ap (λ b. if b && nat_lt (base.decimal (decimal n)) (2 ^ 31) then Some (base.decimal (decimal n)) else None) (numeral_of (decimal n) (decimal_nonempty n wide) (no_leading_zero n wide) (digits_of_number n wide))
    ∙ (ap (λ m. if nat_lt m (2 ^ 31) then Some m else None) v ∙ ap (λ b. if b then Some n else None) (lt_true n (2 ^ 31) h))

-- ---- literals

unsigned_entry : (most : ℕ) (w : List ℕ) → 0 < length w → list_all is_digit w ≡ true → literal_entry most w ≡ positive_entry most (number_in w)
unsigned_entry most [] some e = absurd (omega (arith, some))
unsigned_entry most (b ∷ bs) some e = ap (λ t. if t then negative_entry most (number_in bs) else positive_entry most (number_in (b ∷ bs))) (digit_no_sign b (and_parts (is_digit b) (list_all is_digit bs) e).0)

plain_back : (most n : ℕ) → 1 ≤ n → n ≤ most → positive_entry most (Some n) ≡ Item (record { 0 = 2 * (n - 1) })
plain_back most n low high =
    let zero_no : nat_eq n 0 ≡ false = grind (arith, low) in
    let le_yes : nat_le n most ≡ true = grind (arith, high) in
    rw zero_no (rw le_yes refl)

negated_back : (most n : ℕ) → 1 ≤ n → n ≤ most → negative_entry most (Some n) ≡ Item (record { 0 = 2 * (n - 1) + 1 })
negated_back most n low high =
    let one_yes : nat_le 1 n ≡ true = grind (arith, low) in
    let le_yes : nat_le n most ≡ true = grind (arith, high) in
    rw one_yes (rw le_yes refl)

-- a literal whose number is written
abbrev pub IsSmall : ℕ → Lit → Type 0
IsSmall most l = l.0 / 2 + 1 ≤ most

literal_by : (most : ℕ) (l : Lit) (even : Bool) → nat_eq (l.0 % 2) 0 ≡ even → most < 2 ^ 31 → IsSmall most l → literal_entry most (if even then decimal (l.0 / 2 + 1) else 45 ∷ decimal (l.0 / 2 + 1)) ≡ Item l
literal_by most l true e small h =
    let n : ℕ = l.0 / 2 + 1 in
    let wide : l.0 / 2 + 1 < 2 ^ 64 = omega (arith, small, h) in
    let value : 2 * (l.0 / 2 + 1 - 1) ≡ l.0 = grind (arith, e) in
    unsigned_entry most (decimal (l.0 / 2 + 1)) (decimal_nonempty (l.0 / 2 + 1) wide) (digits_of_number (l.0 / 2 + 1) wide)
    ∙ (ap (positive_entry most) (number_back (l.0 / 2 + 1) (omega (arith, small, h)))
    ∙ (plain_back most (l.0 / 2 + 1) (omega arith) h ∙ ap (λ (k : ℕ). Item (record { 0 = k })) value))
literal_by most l false e small h =
    let value : 2 * (l.0 / 2 + 1 - 1) + 1 ≡ l.0 = grind (arith, e) in
    ap (negative_entry most) (number_back (l.0 / 2 + 1) (omega (arith, small, h)))
    ∙ (negated_back most (l.0 / 2 + 1) (omega arith) h ∙ ap (λ (k : ℕ). Item (record { 0 = k })) value)

pub literal_back : (most : ℕ) (l : Lit) → most < 2 ^ 31 → IsSmall most l → literal_entry most (literal_text l) ≡ Item l
literal_back most l small h = literal_by most l (nat_eq (l.0 % 2) 0) refl small h

plain_by : (n : ℕ) (even : Bool) → n < 2 ^ 64 → (0 < length (if even then decimal n else 45 ∷ decimal n)) × (list_all is_plain (if even then decimal n else 45 ∷ decimal n) ≡ true)
plain_by n true h = (decimal_nonempty n h, plain_number n h)
plain_by n false h = (omega arith, plain_number n h)

plain_literal : (l : Lit) → l.0 / 2 + 1 < 2 ^ 64 → (0 < length (literal_text l)) × (list_all is_plain (literal_text l) ≡ true)
plain_literal l h = plain_by (l.0 / 2 + 1) (nat_eq (l.0 % 2) 0) h

-- ---- lists

abbrev pub AllSmall : ℕ → List Lit → Type 0
AllSmall most [] = Unit {0}
AllSmall most (l ∷ ls) = IsSmall most l × AllSmall most ls

-- the words of literals, the 0 behind them, and what follows
pub literals_words : (most : ℕ) (starts : Bool) (ls : List Lit) (b : ℕ) (t : List ℕ) → most < 2 ^ 31 → is_blank b ≡ true → AllSmall most ls
    → words_from starts (literals_text ls ++ 48 ∷ b ∷ t) ≡ map literal_text ls ++ (48 ∷ []) ∷ words_from (nat_eq b 10) t
literals_words most starts [] b t small k h = word_at starts (48 ∷ []) t b (omega arith) refl k
literals_words most starts (l ∷ ls) b t small k h =
    let wide : l.0 / 2 + 1 < 2 ^ 64 = let g = h.0 in omega (arith, small, g) in
    let p = plain_literal l wide in
    ap (words_from starts) (append_assoc (literal_text l) (32 ∷ literals_text ls) (48 ∷ b ∷ t))
    ∙ (word_at starts (literal_text l) (literals_text ls ++ 48 ∷ b ∷ t) 32 p.0 p.1 refl
    ∙ ap (λ ws. literal_text l ∷ ws) (literals_words most false ls b t small k h.1))

pub literals_back : (most : ℕ) (ls : List Lit) (ws : List (List ℕ)) → most < 2 ^ 31 → AllSmall most ls → listed (literal_entry most) (map literal_text ls ++ (48 ∷ []) ∷ ws) ≡ Some (ls, ws)
literals_back most [] ws small h = refl
literals_back most (l ∷ ls) ws small h =
    ap (λ e. listed_from e (map literal_text ls ++ (48 ∷ []) ∷ ws) (listed (literal_entry most) (map literal_text ls ++ (48 ∷ []) ∷ ws))) (literal_back most l small h.0)
    ∙ ap (in_front (l ∷ [])) (literals_back most ls ws small h.1)

-- ---- clauses

abbrev pub AllClausesSmall : ℕ → List (List Lit) → Type 0
AllClausesSmall most [] = Unit {0}
AllClausesSmall most (c ∷ cs) = AllSmall most c × AllClausesSmall most cs

pub clauses_back : (vars : ℕ) (cs : List (List Lit)) → vars < 2 ^ 31 → AllClausesSmall vars cs → clauses_in vars (length cs) (words_from true (clauses_text cs)) ≡ Some cs
clauses_back vars [] small h = refl
clauses_back vars (c ∷ cs) small h =
    let text = ap (words_from true) (append_assoc (literals_text c) (48 ∷ 10 ∷ []) (clauses_text cs)) ∙ literals_words vars true c 10 (clauses_text cs) small refl h.0 in
    ap (λ ws. clauses_in vars (length (c ∷ cs)) ws) text
    ∙ (ap (option_and_then (λ p. option_map (λ ds. p.0 ∷ ds) (clauses_in vars (length cs) p.1))) (literals_back vars c (words_from true (clauses_text cs)) small h.0)
    ∙ ap (option_map (λ ds. c ∷ ds)) (clauses_back vars cs small h.1))
