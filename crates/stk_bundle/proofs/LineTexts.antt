-- Texts of lines: a line has its first word in front, and a text is one line at most.
use Rattle.std.proofs.Common.{◌≡◌, ℕ, true, nat_eq, if◌then◌else◌, List, [], ◌∷◌, ◌++◌, refl, sym, ap, ◌∙◌}
use Rattle.std.specs.List.{list_all}
use Rattle.stk_bundle.specs.declared.line.BundleLine.{BundleLine}
use Rattle.stk_bundle.specs.declared.line.BundleLine.TheVariants as line
use Rattle.stk_bundle.specs.declared.word.Word.{Word}
use Rattle.stk_bundle.specs.declared.word.Word.TheVariants as word
use Rattle.stk_line_reading.specs.Cuts.{is_other, begins_or_ends, IsCut}
use Rattle.stk_bundle.specs.Kinds.{kinds_text}
use Rattle.stk_bundle.specs.Lines.{line_text, IsLine}
use Rattle.stk_bundle.specs.Words.{word_text, word_of, behind_word, IsBehind}
use Rattle.stk_line_reading.proofs.Texts.{one_cut}
use Rattle.stk_bundle.proofs.Texts.{numbers_end, one_list}
use Rattle.stk_bundle.proofs.KindTexts.{one_list_of_kinds}

-- the text of a line is its first word and what stands behind it
in_two : (l : BundleLine) → line_text l ≡ word_text (word_of l) ++ behind_word l
in_two line.Head = refl
in_two (line.Source length) = refl
in_two (line.Without kinds) = refl
in_two (line.Function at) = refl
in_two (line.Unstable node kind) = refl
in_two (line.Hit start) = refl
in_two (line.Need node kind start) = refl
in_two (line.Open node kind) = refl
in_two line.Tried = refl
in_two (line.Clauses lines) = refl
in_two (line.Steps lines) = refl
in_two (line.Left node kind) = refl
in_two line.End = refl

plain_word : (w : Word) → list_all (is_other 32) (word_text w) ≡ true
plain_word word.Stack = refl
plain_word word.Source = refl
plain_word word.Without = refl
plain_word word.Function = refl
plain_word word.Unstable = refl
plain_word word.Hit = refl
plain_word word.Need = refl
plain_word word.Open = refl
plain_word word.Tried = refl
plain_word word.Clauses = refl
plain_word word.Steps = refl
plain_word word.Left = refl
plain_word word.End = refl

behind_stops : (l : BundleLine) → begins_or_ends 32 (behind_word l) ≡ true
behind_stops line.Head = refl
behind_stops (line.Source length) = refl
behind_stops (line.Without kinds) = refl
behind_stops (line.Function at) = refl
behind_stops (line.Unstable node kind) = refl
behind_stops (line.Hit start) = numbers_end start
behind_stops (line.Need node kind start) = refl
behind_stops (line.Open node kind) = refl
behind_stops line.Tried = refl
behind_stops (line.Clauses lines) = refl
behind_stops (line.Steps lines) = refl
behind_stops (line.Left node kind) = refl
behind_stops line.End = refl

cut_line : (text : List ℕ) (l : BundleLine) → IsLine text l → IsCut 32 text (word_text (word_of l)) (behind_word l)
cut_line text l h = record { whole = h.same ∙ in_two l; others = plain_word (word_of l); stops = behind_stops l }

-- where what stands in front of the first space is no first word, the text is no line
pub no_word : (text front behind : List ℕ) → IsCut 32 text front behind → ((w : Word) → front ≡ word_text w → ⊥) → (l : BundleLine) → IsLine text l → ⊥
no_word text front behind cut none l h = none (word_of l) (one_cut 32 text front behind (word_text (word_of l)) (behind_word l) cut (cut_line text l h)).0

-- each word is told by its first two letters
letters : List ℕ → ℕ × ℕ
letters [] = (0, 0)
letters (a ∷ []) = (a, 0)
letters (a ∷ b ∷ bs) = (a, b)

word_of_letters : ℕ → ℕ → Word
word_of_letters a b =
    if nat_eq a 115 then (if nat_eq b 116 then word.Stack else word.Source) else (if nat_eq a 108 then (if nat_eq b 114 then word.Steps else word.Left)
    else (if nat_eq a 119 then word.Without else (if nat_eq a 102 then word.Function else (if nat_eq a 117 then word.Unstable else (if nat_eq a 104 then word.Hit
    else (if nat_eq a 110 then word.Need else (if nat_eq a 111 then word.Open else (if nat_eq a 116 then word.Tried else (if nat_eq a 99 then word.Clauses else word.End)))))))))

word_back : (w : Word) → word_of_letters (letters (word_text w)).0 (letters (word_text w)).1 ≡ w
unfolding letters word_of_letters
word_back word.Stack = refl
word_back word.Source = refl
word_back word.Without = refl
word_back word.Function = refl
word_back word.Unstable = refl
word_back word.Hit = refl
word_back word.Need = refl
word_back word.Open = refl
word_back word.Tried = refl
word_back word.Clauses = refl
word_back word.Steps = refl
word_back word.Left = refl
word_back word.End = refl

pub own_word : (v w : Word) → word_text v ≡ word_text w → v ≡ w
own_word v w e = sym (word_back v) ∙ (ap (λ t. word_of_letters (letters t).0 (letters t).1) e ∙ word_back w)

-- where it is one, the text is the lines that have it in front
pub line_behind : (text front behind : List ℕ) (w : Word) → IsCut 32 text front behind → front ≡ word_text w → (l : BundleLine) → IsLine text l → IsBehind w behind l
line_behind text front behind w cut e l h =
    let parts = one_cut 32 text front behind (word_text (word_of l)) (behind_word l) cut (cut_line text l h) in
    record { word = own_word (word_of l) w (sym parts.0 ∙ e); same = parts.1; fits = h.fits }

pub behind_line : (text front behind : List ℕ) (w : Word) → IsCut 32 text front behind → front ≡ word_text w → (l : BundleLine) → IsBehind w behind l → IsLine text l
behind_line text front behind w cut e l h =
    record { same = cut.whole ∙ (ap (λ t. t ++ behind) (e ∙ ap word_text (sym h.word)) ∙ (ap (λ t. word_text (word_of l) ++ t) h.same ∙ sym (in_two l))); fits = h.fits }

-- ---- a text is one line at most

one_behind : (text : List ℕ) (w : Word) (l m : BundleLine) → IsBehind w text l → IsBehind w text m → l ≡ m
one_behind text w line.Head line.Head h k = refl
one_behind text w (line.Source a) (line.Source b) h k =
    let same = one_list (a ∷ []) (b ∷ []) (h.fits, tt) (k.fits, tt) (sym h.same ∙ k.same) in cc
one_behind text w (line.Without ks) (line.Without js) h k =
    let tails : kinds_text ks ≡ kinds_text js = let both = sym h.same ∙ k.same in cc in
    ap line.Without (one_list_of_kinds ks js tails)
one_behind text w (line.Function a) (line.Function b) h k =
    let same = one_list (a ∷ []) (b ∷ []) (h.fits, tt) (k.fits, tt) (sym h.same ∙ k.same) in cc
one_behind text w (line.Unstable a b) (line.Unstable c d) h k =
    let same = one_list (a ∷ b ∷ []) (c ∷ d ∷ []) (h.fits.0, (h.fits.1, tt)) (k.fits.0, (k.fits.1, tt)) (sym h.same ∙ k.same) in cc
one_behind text w (line.Hit ns) (line.Hit ms) h k = ap line.Hit (one_list ns ms h.fits k.fits (sym h.same ∙ k.same))
one_behind text w (line.Need a b ns) (line.Need c d ms) h k =
    let same = one_list (a ∷ b ∷ ns) (c ∷ d ∷ ms) (h.fits.0, (h.fits.1, h.fits.2)) (k.fits.0, (k.fits.1, k.fits.2)) (sym h.same ∙ k.same) in cc
one_behind text w (line.Open a b) (line.Open c d) h k =
    let same = one_list (a ∷ b ∷ []) (c ∷ d ∷ []) (h.fits.0, (h.fits.1, tt)) (k.fits.0, (k.fits.1, tt)) (sym h.same ∙ k.same) in cc
one_behind text w line.Tried line.Tried h k = refl
one_behind text w (line.Clauses a) (line.Clauses b) h k =
    let same = one_list (a ∷ []) (b ∷ []) (h.fits, tt) (k.fits, tt) (sym h.same ∙ k.same) in cc
one_behind text w (line.Steps a) (line.Steps b) h k =
    let same = one_list (a ∷ []) (b ∷ []) (h.fits, tt) (k.fits, tt) (sym h.same ∙ k.same) in cc
one_behind text w (line.Left a b) (line.Left c d) h k =
    let same = one_list (a ∷ b ∷ []) (c ∷ d ∷ []) (h.fits.0, (h.fits.1, tt)) (k.fits.0, (k.fits.1, tt)) (sym h.same ∙ k.same) in cc
one_behind text w line.End line.End h k = refl
one_behind text w l m h k = let words : word_of l ≡ word_of m = h.word ∙ sym k.word in absurd cc

pub one_line : (text : List ℕ) (l m : BundleLine) → IsLine text l → IsLine text m → l ≡ m
one_line text l m h k =
    let cut = cut_line text l h in
    one_behind (behind_word l) (word_of l) l m (record { word = refl; same = refl; fits = h.fits }) (line_behind text (word_text (word_of l)) (behind_word l) (word_of l) cut refl m k)
