-- The gap at a place is the longest text there that is a gap.
use Rattle.std.proofs.Common.{◌≡◌, ℕ, zero, suc, ◌<◌, ◌≤◌, max, Bool, true, false, cond, ◌&&◌, ◌||◌, List, [], ◌∷◌, length, take, drop, refl, sym, subst, ◌∙◌, arith}
use Rattle.std.specs.Prelude.{◌==◌, not}
use Rattle.std.proofs.lemmas.Bool.{false≢true, eqb-true}
use Rattle.std.proofs.lemmas.Bool.Decides.{nat_tests}
use Rattle.stk_lex.specs.Classes.{is_nil, IsLongest}
use Rattle.stk_lex.specs.Gaps.{is_blank, line, begins, one_more, comment, only_blanks, gap_at, gap}
use Rattle.stk_lex.specs.GapForms.{is_white, closes_comment, is_starred, is_block_comment, is_one_line, is_slashed, is_line_comment, is_directive, is_gap}
use Rattle.stk_lex.proofs.Longest.{IsRun, run_nothing, run_front, begun, front, nothing, either, above_nil}

-- ---- lines

turned : (p : Bool) (b : ℕ) (bs : List ℕ) → IsRun is_one_line (b ∷ bs) (cond (not p) (suc (line bs)) 0) → IsRun is_one_line (b ∷ bs) (cond p 0 (suc (line bs)))
turned true b bs h = h
turned false b bs h = h

line_is : (bs : List ℕ) → IsRun is_one_line bs (line bs)
unfolding line
line_is [] = run_nothing is_one_line refl
line_is (b ∷ bs) = turned (b == 10) b bs (run_front is_one_line is_one_line b bs (not (b == 10)) (line bs) refl (λ cs. refl) (line_is bs))

slashed_length : List ℕ → ℕ
slashed_length [] = 0
slashed_length (b ∷ bs) = cond (b == 47) (suc (line bs)) 0

line_comment_length : List ℕ → ℕ
line_comment_length [] = 0
line_comment_length (b ∷ bs) = cond (b == 47) (one_more (slashed_length bs)) 0

directive_length : List ℕ → ℕ
directive_length [] = 0
directive_length (b ∷ bs) = cond (b == 35) (suc (line bs)) 0

slashed_is : (bs : List ℕ) → IsLongest is_slashed bs (slashed_length bs)
unfolding slashed_length
slashed_is [] = nothing is_slashed refl
slashed_is (b ∷ bs) = begun is_slashed is_one_line b bs (b == 47) (line bs) (λ cs. refl) (line_is bs)

line_comment_is : (bs : List ℕ) → IsLongest is_line_comment bs (line_comment_length bs)
unfolding line_comment_length
line_comment_is [] = nothing is_line_comment refl
line_comment_is (b ∷ bs) = front is_line_comment is_slashed b bs (b == 47) (slashed_length bs) refl (λ cs. refl) (slashed_is bs)

directive_is : (bs : List ℕ) → IsLongest is_directive bs (directive_length bs)
unfolding directive_length
directive_is [] = nothing is_directive refl
directive_is (b ∷ bs) = begun is_directive is_one_line b bs (b == 35) (line bs) (λ cs. refl) (line_is bs)

-- ---- comments

-- one byte more before the texts at the front
front_takes : (f g : List ℕ → Bool) (b : ℕ) (bs : List ℕ) (n : ℕ) → g [] ≡ false → ((m : ℕ) → f (take (suc m) (b ∷ bs)) ≡ g (take m bs)) → IsLongest g bs n → IsLongest f (b ∷ bs) (one_more n)
front_takes f g b bs zero none at h = record { within = omega arith; passes = λ positive. absurd (omega arith); longest = above } where
  above : (m : ℕ) → 0 < m → m ≤ suc (length bs) → f (take m (b ∷ bs)) ≡ false
  above zero some fits = absurd (omega arith)
  above (suc zero) some fits = at 0 ∙ none
  above (suc (suc m)) some fits = at (suc m) ∙ h.longest (suc m) (omega arith) (omega (arith, fits))
front_takes f g b bs (suc n) none at h = record { within = omega (arith, h.within); passes = λ positive. at (suc n) ∙ h.passes (omega arith); longest = above } where
  above : (m : ℕ) → suc (suc n) < m → m ≤ suc (length bs) → f (take m (b ∷ bs)) ≡ false
  above zero some fits = absurd (omega arith)
  above (suc m) some fits = at m ∙ h.longest m (omega (arith, some)) (omega (arith, fits))

and_parts : (p q : Bool) → (p && q) ≡ true → (p ≡ true) × (q ≡ true)
and_parts true true e = (refl, refl)
and_parts true false e = absurd (false≢true e)
and_parts false q e = absurd (false≢true e)

and_none : (p q : Bool) → q ≡ false → (p && q) ≡ false
and_none true q e = e
and_none false q e = refl

-- where no `*/` begins a text, none begins a front of it
not_ended : (b : ℕ) (bs : List ℕ) (m : ℕ) → (b == 42 && begins 47 bs) ≡ false → (b == 42 && begins 47 (take m bs)) ≡ false
not_ended b bs zero e = and_none (b == 42) false refl
not_ended b [] (suc m) e = e
not_ended b (c ∷ bs) (suc m) e = e

closes_on : (b : ℕ) (bs : List ℕ) (m : ℕ) → (b == 42 && begins 47 bs) ≡ false → closes_comment (take (suc m) (b ∷ bs)) ≡ closes_comment (take m bs)
closes_on b bs m e = rw (not_ended b bs m e) refl

ended_is : (bs : List ℕ) → IsLongest closes_comment (42 ∷ 47 ∷ bs) 2
ended_is bs = record { within = omega arith; passes = λ positive. refl; longest = above } where
  above : (m : ℕ) → 2 < m → m ≤ suc (suc (length bs)) → closes_comment (take m (42 ∷ 47 ∷ bs)) ≡ false
  above zero some fits = absurd (omega arith)
  above (suc zero) some fits = absurd (omega arith)
  above (suc (suc m)) some fits = above_nil m bs (omega (arith, some)) (omega (arith, fits))

ends_here : (b : ℕ) (bs : List ℕ) → b ≡ 42 → begins 47 bs ≡ true → IsLongest closes_comment (b ∷ bs) 2
ends_here b [] e f = absurd (false≢true f)
ends_here b (c ∷ bs) e f = subst (λ x. IsLongest closes_comment (x ∷ c ∷ bs) 2) (sym e) (subst (λ x. IsLongest closes_comment (42 ∷ x ∷ bs) 2) (sym (eqb-true c 47 f)) (ended_is bs))

comment_at : (b : ℕ) (bs : List ℕ) (p : Bool) → (b == 42 && begins 47 bs) ≡ p → IsLongest closes_comment bs (comment bs) → IsLongest closes_comment (b ∷ bs) (cond p 2 (one_more (comment bs)))
comment_at b bs true e h = let k = and_parts (b == 42) (begins 47 bs) e in ends_here b bs (eqb-true b 42 k.0) k.1
comment_at b bs false e h = front_takes closes_comment closes_comment b bs (comment bs) refl (λ m. closes_on b bs m e) h

comment_is : (bs : List ℕ) → IsLongest closes_comment bs (comment bs)
unfolding comment
comment_is [] = nothing closes_comment refl
comment_is (b ∷ bs) = comment_at b bs (b == 42 && begins 47 bs) refl (comment_is bs)

starred_length : List ℕ → ℕ
starred_length [] = 0
starred_length (b ∷ bs) = cond (b == 42) (one_more (comment bs)) 0

block_comment_length : List ℕ → ℕ
block_comment_length [] = 0
block_comment_length (b ∷ bs) = cond (b == 47) (one_more (starred_length bs)) 0

starred_is : (bs : List ℕ) → IsLongest is_starred bs (starred_length bs)
unfolding starred_length
starred_is [] = nothing is_starred refl
starred_is (b ∷ bs) = front is_starred closes_comment b bs (b == 42) (comment bs) refl (λ cs. refl) (comment_is bs)

block_comment_is : (bs : List ℕ) → IsLongest is_block_comment bs (block_comment_length bs)
unfolding block_comment_length
block_comment_is [] = nothing is_block_comment refl
block_comment_is (b ∷ bs) = front is_block_comment is_starred b bs (b == 47) (starred_length bs) refl (λ cs. refl) (starred_is bs)

-- ---- white space

white_length : List ℕ → ℕ
white_length [] = 0
white_length (b ∷ bs) = cond (is_blank b || b == 10) 1 0

nil_is : (bs : List ℕ) → IsRun is_nil bs 0
nil_is bs = record { within = omega arith; passes = refl; longest = λ m above fits. above_nil m bs above fits }

white_is : (bs : List ℕ) → IsLongest is_white bs (white_length bs)
unfolding white_length
white_is [] = nothing is_white refl
white_is (b ∷ bs) = begun is_white is_nil b bs (is_blank b || b == 10) 0 (λ cs. refl) (nil_is bs)

-- ---- all of them

-- a directive needs only blanks before it
fresh_is : (fresh : Bool) (bs : List ℕ) → IsLongest (λ x. fresh && is_directive x) bs (cond fresh (directive_length bs) 0)
fresh_is true bs = directive_is bs
fresh_is false bs = record { within = omega arith; passes = λ positive. absurd (omega arith); longest = λ m above fits. refl }

longest_length : Bool → List ℕ → ℕ
longest_length fresh bs = max (max (max (white_length bs) (block_comment_length bs)) (line_comment_length bs)) (cond fresh (directive_length bs) 0)

is_gap_longest : (fresh : Bool) (bs : List ℕ) → IsLongest (is_gap fresh) bs (longest_length fresh bs)
unfolding longest_length
is_gap_longest fresh bs =
    either (λ x. is_white x || is_block_comment x || is_line_comment x) (λ x. fresh && is_directive x) bs (max (max (white_length bs) (block_comment_length bs)) (line_comment_length bs)) (cond fresh (directive_length bs) 0)
    (either (λ x. is_white x || is_block_comment x) is_line_comment bs (max (white_length bs) (block_comment_length bs)) (line_comment_length bs)
    (either is_white is_block_comment bs (white_length bs) (block_comment_length bs) (white_is bs) (block_comment_is bs))
    (line_comment_is bs))
    (fresh_is fresh bs)

-- where one of them begins no other does
white_no_slash : (b : ℕ) → (is_blank b || b == 10) ≡ true → (b == 47) ≡ false
white_no_slash b h = grind (arith, nat_tests)

white_no_hash : (b : ℕ) → (is_blank b || b == 10) ≡ true → (b == 35) ≡ false
white_no_hash b h = grind (arith, nat_tests)

only_first : (n : ℕ) (fresh : Bool) → n ≡ max (max (max n 0) 0) (cond fresh 0 0)
only_first n true = omega arith
only_first n false = omega arith

only_second : (n : ℕ) (fresh : Bool) → n ≡ max (max (max 0 n) 0) (cond fresh 0 0)
only_second n true = omega arith
only_second n false = omega arith

only_third : (n : ℕ) (fresh : Bool) → n ≡ max (max (max 0 0) n) (cond fresh 0 0)
only_third n true = omega arith
only_third n false = omega arith

only_last : (n : ℕ) (fresh : Bool) → cond fresh n 0 ≡ max (max (max 0 0) 0) (cond fresh n 0)
only_last n true = omega arith
only_last n false = omega arith

-- both lengths behind a slash
abbrev SlashIs : Bool → ℕ → List ℕ → Type 0
SlashIs fresh c cs =
    cond (c == 42) (one_more (one_more (comment cs))) (cond (c == 47) (suc (cond (c == 10) 0 (suc (line cs)))) 0)
    ≡ max (max (max 0 (one_more (cond (c == 42) (one_more (comment cs)) 0))) (one_more (cond (c == 47) (suc (line cs)) 0))) (cond fresh 0 0)

slash_is : (fresh : Bool) (c : ℕ) (cs : List ℕ) (p q : Bool) → (c == 42) ≡ p → (c == 47) ≡ q → SlashIs fresh c cs
slash_is fresh c cs true q e f = subst (λ x. SlashIs fresh x cs) (sym (eqb-true c 42 e)) (only_second (one_more (one_more (comment cs))) fresh)
slash_is fresh c cs false true e f = subst (λ x. SlashIs fresh x cs) (sym (eqb-true c 47 f)) (only_third (suc (suc (line cs))) fresh)
slash_is fresh c cs false false e f = rw (e, f) (only_first 0 fresh)

gap_length_at : (fresh : Bool) (b : ℕ) (bs : List ℕ) (w s h : Bool) → (is_blank b || b == 10) ≡ w → (b == 47) ≡ s → (b == 35) ≡ h → gap_at fresh (b ∷ bs) ≡ longest_length fresh (b ∷ bs)
unfolding longest_length white_length block_comment_length line_comment_length directive_length slashed_length starred_length line
gap_length_at fresh b bs true s h e f g = rw (e, white_no_slash b e, white_no_hash b e) (only_first 1 fresh)
gap_length_at fresh b bs false true h e f g = subst (λ x. gap_at fresh (x ∷ bs) ≡ longest_length fresh (x ∷ bs)) (sym (eqb-true b 47 f)) (behind_slash bs) where
  behind_slash : (bs : List ℕ) → gap_at fresh (47 ∷ bs) ≡ longest_length fresh (47 ∷ bs)
  behind_slash [] = only_first 0 fresh
  behind_slash (c ∷ cs) = slash_is fresh c cs (c == 42) (c == 47) refl refl
gap_length_at fresh b bs false false true e f g = subst (λ x. gap_at fresh (x ∷ bs) ≡ longest_length fresh (x ∷ bs)) (sym (eqb-true b 35 g)) (only_last (suc (line bs)) fresh)
gap_length_at fresh b bs false false false e f g = rw (e, f, g) (only_first 0 fresh)

gap_length : (fresh : Bool) (bs : List ℕ) → gap_at fresh bs ≡ longest_length fresh bs
unfolding longest_length white_length block_comment_length line_comment_length directive_length
gap_length fresh [] = only_first 0 fresh
gap_length fresh (b ∷ bs) = gap_length_at fresh b bs (is_blank b || b == 10) (b == 47) (b == 35) refl refl refl

pub gap_is_longest : (text : List ℕ) (at : ℕ) → IsLongest (is_gap (only_blanks true (take at text))) (drop at text) (gap text at)
gap_is_longest text at =
    let fresh : Bool = only_blanks true (take at text) in
    subst (IsLongest (is_gap fresh) (drop at text)) (sym (gap_length fresh (drop at text))) (is_gap_longest fresh (drop at text))
