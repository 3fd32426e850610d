-- The units are cut one after the other, each where its first token stands that ends it, or else at the end.
use Rattle.std.proofs.Common.{◌≡◌, ℕ, ◌+◌, Bool, true, false, ◌⊎◌, List, [], ◌∷◌, ◌++◌, length, refl, sym, subst, ◌∙◌, append_assoc, zero-add, inl, inr, arith}
use Rattle.stk_lex.specs.declared.token.Token.{Token}
use Rattle.stk_lex.specs.declared.cutting.Piece.{Piece}
use Rattle.stk_lex.specs.Units.{ends_unit, piece_of, units_behind, units_of, read_behind, NoneEnds, AreUnits}
use Rattle.stk_lex.proofs.UnitCuts.{units_end, units_on}

length_read : (before ts : List Token) → length (read_behind before ts) ≡ length before + length ts
unfolding read_behind
length_read before [] = omega arith
length_read before (t ∷ ts) = omega (arith, length_read (t ∷ before) ts)

read_more : (before ts : List Token) (t : Token) → read_behind before (ts ++ t ∷ []) ≡ t ∷ read_behind before ts
unfolding read_behind
read_more before [] t = refl
read_more before (u ∷ ts) t = read_more (u ∷ before) ts t

none_more : (bytes : List ℕ) (before ts : List Token) (t : Token) → NoneEnds bytes before ts → ends_unit bytes t (read_behind before ts) ≡ false → NoneEnds bytes before (ts ++ t ∷ [])
unfolding read_behind NoneEnds
none_more bytes before [] t n e = (e, tt)
none_more bytes before (u ∷ ts) t n e = (n.0, none_more bytes (u ∷ before) ts t n.1 e)

-- ---- the definition's pieces are the units

one_unit : (bytes notes : List ℕ) (front rest : List Token) (t : Token) (from end : ℕ) (ps : List Piece) → NoneEnds bytes [] front → (ends_unit bytes t (read_behind [] front) ≡ true) ⊎ (rest ≡ [])
    → AreUnits bytes notes (from + length front + 1) t.span.to rest ps → AreUnits bytes notes from end (front ++ t ∷ rest) (piece_of bytes notes end from t (read_behind [] front) ∷ ps)
one_unit bytes notes front rest t from end ps none ends more =
    (record { front = front; last = t; rest = rest; parts = refl; none_ends = none; ends = ends }, (refl, more))

-- what is claimed of tokens where no unit has begun, and behind one that has begun
Fresh : (bytes notes : List ℕ) → List Token → Type 0
Fresh bytes notes ts = (from end : ℕ) → AreUnits bytes notes from end ts (units_behind bytes notes ts [] from end)

Behind : (bytes notes : List ℕ) → List Token → Type 0
Behind bytes notes ts = (from end : ℕ) (front : List Token) (t : Token) → NoneEnds bytes [] front → ends_unit bytes t (read_behind [] front) ≡ false
    → AreUnits bytes notes from end (front ++ t ∷ ts) (units_behind bytes notes ts (t ∷ read_behind [] front) from end)

-- a token behind others, which ends their unit or doesn't
stepped : (bytes notes : List ℕ) (t : Token) (ts front : List Token) (from end : ℕ) (b : Bool) → ends_unit bytes t (read_behind [] front) ≡ b → NoneEnds bytes [] front → Fresh bytes notes ts → Behind bytes notes ts
    → AreUnits bytes notes from end (front ++ t ∷ ts) (units_behind bytes notes (t ∷ ts) (read_behind [] front) from end)
unfolding Fresh Behind
stepped bytes notes t ts front from end true e none fresh behind =
    let more : AreUnits bytes notes (from + length front + 1) t.span.to ts (units_behind bytes notes ts [] (from + length (read_behind [] front) + 1) t.span.to) =
    subst (λ n. AreUnits bytes notes (from + length front + 1) t.span.to ts (units_behind bytes notes ts [] (from + n + 1) t.span.to))
    (sym (length_read [] front ∙ zero-add (length front))) (fresh (from + length front + 1) t.span.to) in
    rw (units_end bytes notes t ts (read_behind [] front) from end e) (one_unit bytes notes front ts t from end _ none (inl e) more)
stepped bytes notes t ts front from end false e none fresh behind = rw (units_on bytes notes t ts (read_behind [] front) from end e) (behind from end front t none e)

both_ways : (bytes notes : List ℕ) (ts : List Token) → Fresh bytes notes ts × Behind bytes notes ts
unfolding Fresh Behind units_behind read_behind NoneEnds
both_ways bytes notes [] = (λ from end. refl, λ from end front t none e. one_unit bytes notes front [] t from end [] none (inr refl) refl)
both_ways bytes notes (u ∷ ts) =
    let further = both_ways bytes notes ts in (
      λ from end. stepped bytes notes u ts [] from end (ends_unit bytes u []) refl tt further.0 further.1,
      λ from end front t none e.
          let one : (front ++ t ∷ []) ++ u ∷ ts ≡ front ++ t ∷ u ∷ ts = append_assoc front (t ∷ []) (u ∷ ts) in
          let read : read_behind [] (front ++ t ∷ []) ≡ t ∷ read_behind [] front = read_more [] front t in
          let whole = stepped bytes notes u ts (front ++ t ∷ []) from end (ends_unit bytes u (read_behind [] (front ++ t ∷ []))) refl (none_more bytes [] front t none e) further.0 further.1 in
          rw (one, read) at whole,
    )

pub units_are : (bytes notes : List ℕ) (tokens : List Token) → AreUnits bytes notes 0 0 tokens (units_of bytes tokens notes)
unfolding Fresh
units_are bytes notes tokens = (both_ways bytes notes tokens).0 0 0

-- ---- and they alone are

none_behind : (bytes notes : List ℕ) (front ts before : List Token) (from end : ℕ) → NoneEnds bytes before front → units_behind bytes notes (front ++ ts) before from end ≡ units_behind bytes notes ts (read_behind before front) from end
unfolding NoneEnds read_behind
none_behind bytes notes [] ts before from end none = refl
none_behind bytes notes (t ∷ front) ts before from end none = units_on bytes notes t (front ++ ts) before from end none.0 ∙ none_behind bytes notes front ts (t ∷ before) from end none.1

-- the units from the last token of the first one on
last_behind : (bytes notes : List ℕ) (t : Token) (rest before : List Token) (from end n : ℕ) (b : Bool) → ends_unit bytes t before ≡ b → (ends_unit bytes t before ≡ true) ⊎ (rest ≡ []) → n ≡ from + length before + 1
    → units_behind bytes notes (t ∷ rest) before from end ≡ piece_of bytes notes end from t before ∷ units_behind bytes notes rest [] n t.span.to
unfolding units_behind
last_behind bytes notes t rest before from end n true e ends same = rw same (units_end bytes notes t rest before from end e)
last_behind bytes notes t rest before from end n false e (inl ended) same = absurd (cc)
last_behind bytes notes t rest before from end n false e (inr none) same = rw (none, units_on bytes notes t [] before from end e) refl

pub units_alone : (bytes notes : List ℕ) (ps : List Piece) (tokens : List Token) (from end : ℕ) → AreUnits bytes notes from end tokens ps → ps ≡ units_behind bytes notes tokens [] from end
unfolding units_behind
units_alone bytes notes [] tokens from end u = rw u refl
units_alone bytes notes (p ∷ ps) tokens from end (unit, u) =
    let before = read_behind [] unit.front in
    let n = from + length unit.front + 1 in
    let last = last_behind bytes notes unit.last unit.rest before from end n (ends_unit bytes unit.last before) refl unit.ends (omega (arith, length_read [] unit.front)) in
    rw (unit.parts, none_behind bytes notes unit.front (unit.last ∷ unit.rest) [] from end unit.none_ends, last, u.0, units_alone bytes notes ps unit.rest n unit.last.span.to u.1) refl
