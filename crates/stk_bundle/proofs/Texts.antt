-- Words and numbers of texts, and that a text has them in one way alone.
use Rattle.std.proofs.Common.{◌≡◌, ℕ, ◌<◌, true, List, [], ◌∷◌, ◌++◌, length, refl, ap, ◌∙◌, arith, decimal}
use Rattle.std.specs.List.{AllByRecursion}
use Rattle.std.proofs.lemmas.Fmt.{decimal_injective}
use Rattle.stk_line_reading.specs.Cuts.{begins_or_ends, IsCut}
use Rattle.stk_line_reading.specs.Numbers.{IsNumber, IsNext}
use Rattle.stk_line_reading.proofs.Texts.{one_cut, plain_number}
use Rattle.stk_bundle.specs.Numbers.{numbers_text, AreNumbers}

-- what stands behind a number may follow a word
pub numbers_end : (ns : List ℕ) → begins_or_ends 32 (numbers_text ns) ≡ true
numbers_end [] = refl
numbers_end (n ∷ ns) = refl

pub cut_number : (n : ℕ) (ns : List ℕ) → IsNumber n → IsCut 32 (decimal n ++ numbers_text ns) (decimal n) (numbers_text ns)
cut_number n ns h = record { whole = refl; others = plain_number n h; stops = numbers_end ns }

-- a text is numbers in one way alone
pub one_list : (ns ms : List ℕ) → AllByRecursion IsNumber ns → AllByRecursion IsNumber ms → numbers_text ns ≡ numbers_text ms → ns ≡ ms
one_list [] [] f g e = refl
one_list [] (m ∷ ms) f g e = absurd cc
one_list (n ∷ ns) [] f g e = absurd cc
one_list (n ∷ ns) (m ∷ ms) f g e =
    let tails : decimal n ++ numbers_text ns ≡ decimal m ++ numbers_text ms = cc in
    let cut = one_cut 32 (decimal n ++ numbers_text ns) (decimal n) (numbers_text ns) (decimal m) (numbers_text ms) (cut_number n ns f.0) (record { whole = tails; others = plain_number m g.0; stops = numbers_end ms }) in
    ap (λ x. x ∷ ns) (decimal_injective n m f.0 g.0 cut.0) ∙ ap (λ x. m ∷ x) (one_list ns ms f.1 g.1 cut.1)

-- numbers begin with the first of them
pub first_number : (text : List ℕ) (n : ℕ) (ns : List ℕ) → AreNumbers text (n ∷ ns) → IsNext text n (numbers_text ns)
first_number text n ns h = record { same = h.same; fits = h.fit.0; stops = numbers_end ns }

-- and the others are behind it
pub other_numbers : (text behind : List ℕ) (m n : ℕ) (ns : List ℕ) → IsNext text m behind → AreNumbers text (n ∷ ns) → (m ≡ n) × AreNumbers behind ns
other_numbers text behind m n ns h a =
    let tails : decimal m ++ behind ≡ decimal n ++ numbers_text ns = let one = h.same in let two = a.same in cc in
    let cut = one_cut 32 (decimal m ++ behind) (decimal m) behind (decimal n) (numbers_text ns) (record { whole = refl; others = plain_number m h.fits; stops = h.stops }) (record { whole = tails; others = plain_number n a.fit.0; stops = numbers_end ns }) in
    (decimal_injective m n h.fits a.fit.0 cut.0, record { same = cut.1; fit = a.fit.1 })

-- a text that isn't empty and is numbers begins with one
pub some_next : (text : List ℕ) (ns : List ℕ) → 0 < length text → AreNumbers text ns → (n : ℕ) × (behind : List ℕ) × IsNext text n behind
some_next text [] some a = absurd (let none = ap length a.same in omega arith)
some_next text (n ∷ ns) some a = (n, numbers_text ns, first_number text n ns a)

-- behind a number that it begins with it is numbers too
pub others_behind : (text behind : List ℕ) (m : ℕ) (ns : List ℕ) → IsNext text m behind → AreNumbers text ns → (rest : List ℕ) × AreNumbers behind rest
others_behind text behind m [] h a = let one = h.same in let two = a.same in absurd cc
others_behind text behind m (n ∷ ns) h a = (ns, (other_numbers text behind m n ns h a).1)

-- and where it is numbers there, it is these with the number in front
pub more_numbers : (text behind : List ℕ) (n : ℕ) (ns : List ℕ) → IsNext text n behind → AreNumbers behind ns → AreNumbers text (n ∷ ns)
more_numbers text behind n ns h a = record { same = h.same ∙ ap (λ t. 32 ∷ decimal n ++ t) a.same; fit = (h.fits, a.fit) }

-- no numbers
pub empty_numbers : (text : List ℕ) → length text ≡ 0 → AreNumbers text []
empty_numbers [] e = record { same = refl; fit = tt }
empty_numbers (b ∷ bs) e = absurd (omega arith)

-- nothing stands behind the only number
pub none_behind : (text behind : List ℕ) (m n : ℕ) → IsNext text m behind → AreNumbers text (n ∷ []) → length behind ≡ 0
none_behind text behind m n h a = ap length (other_numbers text behind m n [] h a).1.same

-- where nothing stands behind a number, it is the only one
pub alone : (text behind : List ℕ) (n : ℕ) → IsNext text n behind → length behind ≡ 0 → AreNumbers text (n ∷ [])
alone text behind n h e = more_numbers text behind n [] h (empty_numbers behind e)
