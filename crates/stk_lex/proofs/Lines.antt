-- Lines, and how they are counted on from one place to a later one.
use Rattle.std.proofs.Common.{◌≡◌, ℕ, zero, suc, ◌+◌, ◌-◌, ◌<◌, ◌≤◌, Bool, true, false, cond, List, [], ◌∷◌, ◌++◌, length, take, drop, get_or, Option, refl, sym, ap, subst, ◌∙◌, inl, inr, arith}
use Rattle.std.specs.Prelude.{◌==◌}
use Rattle.std.proofs.Math.Seq.{take-suc}
use Rattle.std.proofs.lemmas.Bool.{cases_lt, ne_eqb}
use Rattle.std.proofs.lemmas.List.{drop_more}
use Rattle.stk_base.specs.declared.span.Span.{Span}
use Rattle.stk_lex.specs.declared.placing.Line.{Line}
use Rattle.stk_lex.specs.Gaps.{begins}
use Rattle.stk_lex.specs.Place.{NoMarker, line_after, newlines, newlines_before, IsLineAt, unmarked, marked}
use Rattle.stk_lex.specs.Stands.{IsLine}

-- ---- newlines

newlines-push : (xs : List ℕ) (b : ℕ) → newlines (xs ++ b ∷ []) ≡ newlines xs + cond (b == 10) 1 0
unfolding newlines
newlines-push [] b = elim (b == 10) as (λ p. cond p (suc 0) 0 ≡ 0 + cond p 1 0) [ true ↦ refl | false ↦ refl ]
newlines-push (x ∷ xs) b = push_behind (x == 10) (newlines-push xs b) where
  push_behind : (p : Bool) → newlines (xs ++ b ∷ []) ≡ newlines xs + cond (b == 10) 1 0 → cond p (suc (newlines (xs ++ b ∷ []))) (newlines (xs ++ b ∷ [])) ≡ cond p (suc (newlines xs)) (newlines xs) + cond (b == 10) 1 0
  push_behind true e = omega (arith, e)
  push_behind false e = e

before_next : (text : List ℕ) (at : ℕ) → at < length text → newlines_before text (at + 1) ≡ newlines_before text at + cond (get_or text at 0 == 10) 1 0
before_next text at fits =
    let next : suc at ≡ at + 1 = omega arith in
    subst (λ k. newlines (take k text) ≡ newlines_before text at + cond (get_or text at 0 == 10) 1 0) next (ap newlines (take-suc text at 0 fits) ∙ newlines-push (take at text) (get_or text at 0))

pub before_newline : (text : List ℕ) (at : ℕ) → at < length text → get_or text at 0 ≡ 10 → newlines_before text (at + 1) ≡ newlines_before text at + 1
before_newline text at fits is = before_next text at fits ∙ rw is refl

pub before_other : (text : List ℕ) (at : ℕ) → at < length text → (get_or text at 0 ≡ 10 → ⊥) → newlines_before text (at + 1) ≡ newlines_before text at
before_other text at fits other =
    let none : ◌≡◌ {A = ℕ} (cond (get_or text at 0 == 10) 1 0) 0 = rw (ne_eqb (get_or text at 0) 10 other) refl in
    omega (arith, before_next text at fits, none)

-- further on there are no fewer
pub before_more : (text : List ℕ) (a b : ℕ) → a ≤ b → newlines_before text a ≤ newlines_before text b
unfolding newlines
before_more [] zero b h = omega arith
before_more [] (suc a) zero h = absurd (omega arith)
before_more [] (suc a) (suc b) h = omega arith
before_more (x ∷ xs) zero b h = omega arith
before_more (x ∷ xs) (suc a) zero h = absurd (omega arith)
before_more (x ∷ xs) (suc a) (suc b) h = more (x == 10) (before_more xs a b (omega arith)) where
  more : (p : Bool) → newlines (take a xs) ≤ newlines (take b xs) → cond p (suc (newlines (take a xs))) (newlines (take a xs)) ≤ cond p (suc (newlines (take b xs))) (newlines (take b xs))
  more true k = omega (arith, k)
  more false k = k

-- ---- lines

-- no marker over two stretches
pub none_along : (text : List ℕ) (a b c : ℕ) → NoMarker text a b → NoMarker text b c → NoMarker text a c
none_along text a b c first second = λ at punctuator is above within.
    elim (cases_lt b (line_after text at)) [ inl over ↦ second at punctuator is over within | inr fits ↦ first at punctuator is above fits ]

-- nor over a part of a stretch
pub none_within : (text : List ℕ) (a b c d : ℕ) → NoMarker text a b → a ≤ c → d ≤ b → NoMarker text c d
none_within text a b c d none later earlier = λ at punctuator is above within. none at punctuator is (omega (arith, later, above)) (omega (arith, earlier, within))

-- over a stretch with no marker the number grows by the newlines
line_on : (text : List ℕ) (a b : ℕ) (file : Option Span) (number next : ℕ) → a ≤ b → NoMarker text a b → next + newlines_before text a ≡ number + newlines_before text b
    → IsLineAt text a file number → IsLineAt text b file next
line_on text a b file number next up none grown (unmarked before e f) = unmarked (none_along text 0 a b before none) e (omega (arith, grown, f))
line_on text a b file number next up none grown (marked {at = at} is fits before e f) =
    marked is (omega (arith, up, fits)) (none_along text (line_after text at) a b before none) e
    (omega (arith, grown, f, before_more text (line_after text at) a fits, before_more text a b up))

newline_at : (text : List ℕ) (at : ℕ) → at < length text → get_or text at 0 ≡ 10 → begins 10 (drop at text) ≡ true
newline_at text at fits is = ap (begins 10) (drop_more text at 0 fits) ∙ rw is refl

-- behind a newline
pub line_turns : (text : List ℕ) (at : ℕ) (line : Line) → at < length text → get_or text at 0 ≡ 10 → NoMarker text at (at + 1) → IsLine text at line
    → IsLine text (at + 1) (record { file = line.file; number = line.number + 1; start = at + 1 })
line_turns text at line fits is none here =
    let back : at + 1 - 1 ≡ at = omega arith in
    record {
      numbered = line_on text at (at + 1) line.file line.number (line.number + 1) (omega arith) none (omega (arith, before_newline text at fits is)) here.numbered;
      start = record { before = omega arith; fresh = inr (rw back (newline_at text at fits is)); same_line = refl };
      bound = omega (arith, here.bound);
    }

-- behind another byte
pub line_stays : (text : List ℕ) (at : ℕ) (line : Line) → at < length text → (get_or text at 0 ≡ 10 → ⊥) → NoMarker text at (at + 1) → IsLine text at line → IsLine text (at + 1) line
line_stays text at line fits other none here =
    let same = before_other text at fits other in
    record {
      numbered = line_on text at (at + 1) line.file line.number line.number (omega arith) none (omega (arith, same)) here.numbered;
      start = record { before = omega (arith, here.start.before); fresh = here.start.fresh; same_line = here.start.same_line ∙ sym same };
      bound = omega (arith, here.bound);
    }
