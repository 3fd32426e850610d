-- What skimming keeps and notes, step by step.
use Rattle.std.proofs.Common.{◌≡◌, ℕ, zero, suc, ◌-◌, ◌≤◌, true, false, cond, List, [], ◌∷◌, ◌++◌, take, drop, refl, ap, arith}
use Rattle.std.specs.Prelude.{◌==◌, ◌&&◌}
use Rattle.stk_lex.specs.declared.token.Token.{Token}
use Rattle.stk_lex.specs.Cut.{AreSpans}
use Rattle.stk_lex.specs.Spelled.{depth_behind}
use Rattle.stk_lex.specs.Skimming.{dropped, kept, noted, note_of, says_no_return, ArePositions}
use Rattle.stk_lex.proofs.Closings.{suc_test}

-- ---- what is kept

kept_skip : (bytes : List ℕ) (ts : List Token) (depth n : ℕ) → kept bytes ts depth n ≡ kept bytes (drop n ts) depth 0
unfolding kept
kept_skip bytes [] depth zero = refl
kept_skip bytes [] depth (suc n) = refl
kept_skip bytes (t ∷ ts) depth zero = refl
kept_skip bytes (t ∷ ts) depth (suc n) = kept_skip bytes ts depth n

pub kept_keep : (bytes : List ℕ) (t : Token) (ts : List Token) (depth : ℕ) → dropped bytes depth (t ∷ ts) ≡ 0 → kept bytes (t ∷ ts) depth 0 ≡ t ∷ kept bytes ts (depth_behind bytes depth t) 0
unfolding kept
kept_keep bytes t ts depth e = rw e refl

pub kept_drop : (bytes : List ℕ) (t : Token) (ts : List Token) (depth n : ℕ) → dropped bytes depth (t ∷ ts) ≡ suc n → kept bytes (t ∷ ts) depth 0 ≡ kept bytes (drop n ts) depth 0
unfolding kept
kept_drop bytes t ts depth n e =
    let less : suc n - 1 ≡ n = omega arith in
    rw (e, suc_test n, less) (kept_skip bytes ts depth n)

-- ---- what is noted

noted_skip : (bytes : List ℕ) (ts : List Token) (depth n : ℕ) → noted bytes ts depth n ≡ noted bytes (drop n ts) depth 0
unfolding noted
noted_skip bytes [] depth zero = refl
noted_skip bytes [] depth (suc n) = refl
noted_skip bytes (t ∷ ts) depth zero = refl
noted_skip bytes (t ∷ ts) depth (suc n) = noted_skip bytes ts depth n

pub noted_keep : (bytes : List ℕ) (t : Token) (ts : List Token) (depth : ℕ) → dropped bytes depth (t ∷ ts) ≡ 0 → noted bytes (t ∷ ts) depth 0 ≡ noted bytes ts (depth_behind bytes depth t) 0
unfolding noted
noted_keep bytes t ts depth e = rw e refl

pub noted_drop : (bytes : List ℕ) (t : Token) (ts : List Token) (depth n : ℕ) → dropped bytes depth (t ∷ ts) ≡ suc n
    → noted bytes (t ∷ ts) depth 0 ≡ note_of bytes depth (take (suc n) (t ∷ ts)) ++ noted bytes (drop n ts) depth 0
unfolding noted
noted_drop bytes t ts depth n e =
    let less : suc n - 1 ≡ n = omega arith in
    rw (e, suc_test n, less) (ap (λ ns. note_of bytes depth (take (suc n) (t ∷ ts)) ++ ns) (noted_skip bytes ts depth n))

-- ---- what `cut` asks

pub spans_from : (size to at : ℕ) (ts : List Token) → to ≤ at → AreSpans size at ts → AreSpans size to ts
spans_from size to at [] h s = omega arith
spans_from size to at (t ∷ ts) h s = (omega (arith, s.0), s.1, s.2)

spans_after : (size at : ℕ) (t : Token) (ts : List Token) → AreSpans size at (t ∷ ts) → AreSpans size at ts
spans_after size at t ts s = spans_from size at t.span.to ts (omega (arith, s.0, s.1)) s.2

-- what is kept lies in the bytes as the tokens do
pub kept_spans : (bytes : List ℕ) (size : ℕ) (ts : List Token) (at depth n : ℕ) → AreSpans size at ts → AreSpans size at (kept bytes ts depth n)
unfolding kept
kept_spans bytes size [] at depth n s = s
kept_spans bytes size (t ∷ ts) at depth (suc n) s = kept_spans bytes size ts at depth n (spans_after size at t ts s)
kept_spans bytes size (t ∷ ts) at depth zero s =
    elim (dropped bytes depth (t ∷ ts) == 0) as
    (λ b. AreSpans size at (cond b (t ∷ kept bytes ts (depth_behind bytes depth t) 0) (kept bytes ts depth (dropped bytes depth (t ∷ ts) - 1)))) [
      | true ↦ (s.0, s.1, kept_spans bytes size ts t.span.to (depth_behind bytes depth t) 0 s.2)
      | false ↦ kept_spans bytes size ts at depth (dropped bytes depth (t ∷ ts) - 1) (spans_after size at t ts s)
    ]

positions_from : (to at : ℕ) (ns : List ℕ) → to ≤ at → ArePositions at ns → ArePositions to ns
positions_from to at [] h p = tt
positions_from to at (n ∷ ns) h p = (omega (arith, p.0), p.1)

note_at : (bytes : List ℕ) (at depth n : ℕ) (t : Token) (ts : List Token) (ns : List ℕ) → at ≤ t.span.from → ArePositions t.span.from ns
    → ArePositions at (note_of bytes depth (take n (t ∷ ts)) ++ ns)
unfolding note_of
note_at bytes at depth zero t ts ns h p = positions_from at t.span.from ns h p
note_at bytes at depth (suc n) t ts ns h p =
    elim (depth == 0 && says_no_return bytes (t ∷ take n ts)) as (λ b. ArePositions at (cond b (t.span.from ∷ []) [] ++ ns)) [
      | true ↦ (h, p)
      | false ↦ positions_from at t.span.from ns h p
    ]

-- notes don't go back
pub noted_positions : (bytes : List ℕ) (size : ℕ) (ts : List Token) (at depth n : ℕ) → AreSpans size at ts → ArePositions at (noted bytes ts depth n)
unfolding noted
noted_positions bytes size [] at depth n s = tt
noted_positions bytes size (t ∷ ts) at depth (suc n) s = noted_positions bytes size ts at depth n (spans_after size at t ts s)
noted_positions bytes size (t ∷ ts) at depth zero s =
    elim (dropped bytes depth (t ∷ ts) == 0) as
    (λ b. ArePositions at (cond b (noted bytes ts (depth_behind bytes depth t) 0) (note_of bytes depth (take (dropped bytes depth (t ∷ ts)) (t ∷ ts)) ++ noted bytes ts depth (dropped bytes depth (t ∷ ts) - 1)))) [
      | true ↦ noted_positions bytes size ts at (depth_behind bytes depth t) 0 (spans_after size at t ts s)
      | false ↦ note_at bytes at depth (dropped bytes depth (t ∷ ts)) t ts (noted bytes ts depth (dropped bytes depth (t ∷ ts) - 1)) s.0
          (noted_positions bytes size ts t.span.from depth (dropped bytes depth (t ∷ ts) - 1) (spans_from size t.span.from t.span.to ts (omega (arith, s.1)) s.2))
    ]
