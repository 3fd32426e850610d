-- How far cutting has come: the units that were cut, the unit that has begun, and what is left.
use Rattle.std.proofs.Common.{◌≡◌, ℕ, suc, map, ◌+◌, ◌<◌, ◌≤◌, Bool, true, false, cond, ◌&&◌, List, [], ◌∷◌, ◌++◌, length, Option, Some, None, IfSome, refl, ap, sym, subst, ◌∙◌, append_assoc, arith}
use Rattle.std.specs.Option.{option_map}
use Rattle.std.proofs.lemmas.List.{append-nil, map-append}
use Rattle.stk_lex.specs.declared.token.Token.{Token}
use Rattle.stk_lex.specs.Cut.{AreSpans}
use Rattle.stk_lex.specs.declared.begun.Begun.{Begun}
use Rattle.stk_lex.specs.declared.cutting.Piece.{Piece}
use Rattle.stk_lex.specs.Spelled.{opens_brace}
use Rattle.stk_lex.specs.Skimming.{ArePositions}
use Rattle.stk_lex.specs.Units.{depth_of, body_of, is_outer, ends_with_parenthesis, is_begin, ends_unit, piece_of, units_behind, units_of, is_marked, unmarked, AreInOrder, AreJoined}
use Rattle.stk_lex.specs.Begun.{IsBegun, notes_from, is_first_before}
use Rattle.stk_lex.proofs.Kept.{spans_from}
use Rattle.stk_lex.proofs.Skims.{depth_bound}
use Rattle.stk_lex.proofs.Positions.{first_before, notes_further, notes_all}

pub record Cuts (bytes : List ℕ) (tokens : List Token) (notes : List ℕ) (pieces : List Piece) (left : List ℕ) (unit : Begun) (rest : List Token) : Type 0 where
  pub before : List Token
  pub end : ℕ
  pub begun : IsBegun bytes unit before
  pub left_from : AreInOrder bytes tokens notes → left ≡ notes_from end notes
  pub spans : AreInOrder bytes tokens notes → AreSpans (length bytes) end rest
  pub place : unit.next + length rest ≡ length tokens
  pub all_cut : AreInOrder bytes tokens notes → pieces ++ units_behind bytes notes rest before unit.from end ≡ units_of bytes tokens notes
  pub all_bounds : map unmarked (pieces ++ units_behind bytes notes rest before unit.from end) ≡ map unmarked (units_of bytes tokens notes)

-- ---- rows of the definition

pub units_end : (bytes notes : List ℕ) (t : Token) (ts before : List Token) (from end : ℕ) → ends_unit bytes t before ≡ true
    → units_behind bytes notes (t ∷ ts) before from end ≡ piece_of bytes notes end from t before ∷ units_behind bytes notes ts [] (from + length before + 1) t.span.to
unfolding units_behind
units_end bytes notes t ts [] from end e = rw e refl
units_end bytes notes t ts (u ∷ before) from end e = rw e refl

pub units_on : (bytes notes : List ℕ) (t : Token) (ts before : List Token) (from end : ℕ) → ends_unit bytes t before ≡ false
    → units_behind bytes notes (t ∷ ts) before from end ≡ units_behind bytes notes ts (t ∷ before) from end
unfolding units_behind
units_on bytes notes t ts [] from end e = rw e refl
units_on bytes notes t ts (u ∷ before) from end e = rw e refl

-- ---- steps

depth_within : (bytes : List ℕ) (before : List Token) → depth_of bytes before ≤ length before
unfolding depth_of
depth_within bytes [] = omega arith
depth_within bytes (t ∷ before) = omega (arith, depth_within bytes before, depth_bound bytes (depth_of bytes before) t)

pub begun_within : (bytes : List ℕ) (unit : Begun) (before : List Token) → IsBegun bytes unit before → unit.depth ≤ unit.next
begun_within bytes unit before b = omega (arith, b.depth, b.next, depth_within bytes before)

made : ℕ → ℕ → Option ℕ → Bool → Piece
made from to body marked = record { from = from; to = to; body = body; no_return = marked }

same_piece : (f f' t t' : ℕ) (b b' : Option ℕ) (m m' : Bool) → f ≡ f' → t ≡ t' → b ≡ b' → m ≡ m' → made f t b m ≡ made f' t' b' m'
same_piece f f' t t' b b' m m' e e' e'' e''' = rw (e, e', e'', e''') refl

pub piece_is : (bytes notes left : List ℕ) (unit : Begun) (t : Token) (before : List Token) (end : ℕ) (p : Piece) → IsBegun bytes unit (t ∷ before) → left ≡ notes_from end notes → ArePositions 0 notes
    → p.from ≡ unit.from → p.to ≡ unit.next → p.body ≡ unit.body → p.no_return ≡ is_first_before unit.last left → p ≡ piece_of bytes notes end unit.from t before
unfolding piece_of made
piece_is bytes notes left unit t before end p b l a from to body marked =
    let marked_is : p.no_return ≡ is_marked notes end t = marked ∙ rw (l, b.last) (first_before end t.span.from 0 notes a) in
    same_piece p.from unit.from p.to (unit.from + length before + 1) p.body (option_map (λ n. unit.from + n) (body_of bytes (t ∷ before))) p.no_return (is_marked notes end t)
    from (omega (arith, to, b.next)) (body ∙ b.body) marked_is

-- the same of its bounds alone
bounds_are : (bytes notes : List ℕ) (unit : Begun) (t : Token) (before : List Token) (end : ℕ) (p : Piece) → IsBegun bytes unit (t ∷ before)
    → p.from ≡ unit.from → p.to ≡ unit.next → p.body ≡ unit.body → unmarked p ≡ unmarked (piece_of bytes notes end unit.from t before)
unfolding piece_of made
bounds_are bytes notes unit t before end p b from to body =
    same_piece p.from unit.from p.to (unit.from + length before + 1) p.body (option_map (λ n. unit.from + n) (body_of bytes (t ∷ before))) false false
    from (omega (arith, to, b.next)) (body ∙ b.body) refl

pub cuts_begin : (bytes : List ℕ) (tokens : List Token) (notes : List ℕ) (unit : Begun) → IsBegun bytes unit [] → unit.from ≡ 0 → Cuts bytes tokens notes [] notes unit tokens
cuts_begin bytes tokens notes unit b from = record {
  before = [];
  end = 0;
  begun = b;
  left_from = λ order. sym (notes_all notes);
  spans = λ order. order.spans;
  place = omega (arith, b.next, from);
  all_cut = λ order. rw from refl;
  all_bounds = rw from refl;
}

pub cuts_on : (bytes : List ℕ) (tokens : List Token) (notes : List ℕ) (pieces : List Piece) (left : List ℕ) (unit whole : Begun) (t : Token) (ts : List Token) (s : Cuts bytes tokens notes pieces left unit (t ∷ ts))
    → IsBegun bytes whole (t ∷ s.before) → whole.from ≡ unit.from → ends_unit bytes t s.before ≡ false → Cuts bytes tokens notes pieces left whole ts
cuts_on bytes tokens notes pieces left unit whole t ts s b from e = record {
  before = t ∷ s.before;
  end = s.end;
  begun = b;
  left_from = s.left_from;
  spans = λ order. let spans = s.spans order in spans_from (length bytes) s.end t.span.to ts (omega (arith, spans.0, spans.1)) spans.2;
  place = omega (arith, s.place, b.next, s.begun.next, from);
  all_cut = λ order. rw from (ap (λ ps. pieces ++ ps) (sym (units_on bytes notes t ts s.before unit.from s.end e)) ∙ s.all_cut order);
  all_bounds = rw from (ap (λ ps. map unmarked (pieces ++ ps)) (sym (units_on bytes notes t ts s.before unit.from s.end e)) ∙ s.all_bounds);
}

-- a piece with these bounds in front of the same units
same_bounds : (pieces units : List Piece) (p q : Piece) → unmarked p ≡ unmarked q → map unmarked ((pieces ++ p ∷ []) ++ units) ≡ map unmarked (pieces ++ q ∷ units)
same_bounds pieces units p q e =
    ap (map unmarked) (append_assoc pieces (p ∷ []) units) ∙ map-append unmarked pieces (p ∷ units) ∙ ap (λ u. map unmarked pieces ++ u ∷ map unmarked units) e
    ∙ sym (map-append unmarked pieces (q ∷ units))

pub cuts_end : (bytes : List ℕ) (tokens : List Token) (notes : List ℕ) (pieces : List Piece) (left further : List ℕ) (unit whole next : Begun) (t : Token) (ts : List Token) (p : Piece) (s : Cuts bytes tokens notes pieces left unit (t ∷ ts))
    → IsBegun bytes whole (t ∷ s.before) → whole.from ≡ unit.from → ends_unit bytes t s.before ≡ true → p.from ≡ whole.from → p.to ≡ whole.next → p.body ≡ whole.body
    → p.no_return ≡ is_first_before whole.last left → further ≡ notes_from t.span.to left → IsBegun bytes next [] → next.from ≡ whole.next → Cuts bytes tokens notes (pieces ++ p ∷ []) further next ts
cuts_end bytes tokens notes pieces left further unit whole next t ts p s b from e p_from p_to p_body p_marked f n begin =
    let is : AreInOrder bytes tokens notes → p ≡ piece_of bytes notes s.end whole.from t s.before = λ order. piece_is bytes notes left whole t s.before s.end p b (s.left_from order) order.positions p_from p_to p_body p_marked in
    let bounds = bounds_are bytes notes whole t s.before s.end p b p_from p_to p_body in
    let place : next.from ≡ unit.from + length s.before + 1 = omega (arith, begin, b.next, from) in
    record {
      before = [];
      end = t.span.to;
      begun = n;
      left_from = λ order. let spans = s.spans order in f ∙ ap (notes_from t.span.to) (s.left_from order) ∙ notes_further s.end t.span.to notes (omega (arith, spans.0, spans.1));
      spans = λ order. (s.spans order).2;
      place = omega (arith, s.place, n.next, place, s.begun.next);
      all_cut = λ order. let whole_is = is order in rw (place, whole_is, from)
          (append_assoc pieces (piece_of bytes notes s.end unit.from t s.before ∷ []) (units_behind bytes notes ts [] (unit.from + length s.before + 1) t.span.to)
          ∙ ap (λ ps. pieces ++ ps) (sym (units_end bytes notes t ts s.before unit.from s.end e)) ∙ s.all_cut order);
      all_bounds = rw place
          (same_bounds pieces (units_behind bytes notes ts [] (unit.from + length s.before + 1) t.span.to) p (piece_of bytes notes s.end unit.from t s.before)
          (bounds ∙ ap (λ k. unmarked (piece_of bytes notes s.end k t s.before)) from)
          ∙ ap (λ ps. map unmarked (pieces ++ ps)) (sym (units_end bytes notes t ts s.before unit.from s.end e)) ∙ s.all_bounds);
    }

-- ---- the end

none_left : (bytes notes : List ℕ) (rest before : List Token) (from end : ℕ) → length rest ≡ 0 → is_begin before ≡ true → units_behind bytes notes rest before from end ≡ []
unfolding units_behind is_begin
none_left bytes notes [] [] from end e begin = refl
none_left bytes notes [] (t ∷ before) from end e begin = absurd (cc)
none_left bytes notes (t ∷ ts) before from end e begin = absurd (omega arith)

one_left_bounds : (bytes notes : List ℕ) (unit : Begun) (rest before : List Token) (end : ℕ) (p : Piece) → IsBegun bytes unit before → length rest ≡ 0 → is_begin before ≡ false
    → p.from ≡ unit.from → p.to ≡ unit.next → p.body ≡ unit.body → map unmarked (units_behind bytes notes rest before unit.from end) ≡ unmarked p ∷ []
unfolding units_behind is_begin
one_left_bounds bytes notes unit [] [] end p b e begin from to body = absurd (cc)
one_left_bounds bytes notes unit [] (t ∷ before) end p b e begin from to body = ap (λ q. q ∷ []) (sym (bounds_are bytes notes unit t before end p b from to body))
one_left_bounds bytes notes unit (t ∷ ts) before end p b e begin from to body = absurd (omega arith)

one_left : (bytes notes left : List ℕ) (unit : Begun) (rest before : List Token) (end : ℕ) (p : Piece) → IsBegun bytes unit before → length rest ≡ 0 → is_begin before ≡ false → left ≡ notes_from end notes → ArePositions 0 notes
    → p.from ≡ unit.from → p.to ≡ unit.next → p.body ≡ unit.body → p.no_return ≡ is_first_before unit.last left → units_behind bytes notes rest before unit.from end ≡ p ∷ []
unfolding units_behind is_begin
one_left bytes notes left unit [] [] end p b e begin l a from to body marked = absurd (cc)
one_left bytes notes left unit [] (t ∷ before) end p b e begin l a from to body marked = ap (λ q. q ∷ []) (sym (piece_is bytes notes left unit t before end p b l a from to body marked))
one_left bytes notes left unit (t ∷ ts) before end p b e begin l a from to body marked = absurd (omega arith)

-- what is cut in the end: the units, and without an order their bounds
pub record AreCut (bytes : List ℕ) (tokens : List Token) (notes : List ℕ) (pieces : List Piece) : Type 0 where
  pub all : AreInOrder bytes tokens notes → pieces ≡ units_of bytes tokens notes
  pub bounds : map unmarked pieces ≡ map unmarked (units_of bytes tokens notes)

pub cuts_none : (bytes : List ℕ) (tokens : List Token) (notes : List ℕ) (pieces : List Piece) (left : List ℕ) (unit : Begun) (rest : List Token) (s : Cuts bytes tokens notes pieces left unit rest)
    → length rest ≡ 0 → is_begin s.before ≡ true → AreCut bytes tokens notes pieces
cuts_none bytes tokens notes pieces left unit rest s e begin =
    let all : pieces ≡ pieces ++ units_behind bytes notes rest s.before unit.from s.end = sym (append-nil pieces) ∙ ap (λ ps. pieces ++ ps) (sym (none_left bytes notes rest s.before unit.from s.end e begin)) in
    record { all = λ order. all ∙ s.all_cut order; bounds = ap (map unmarked) all ∙ s.all_bounds }

pub cuts_last : (bytes : List ℕ) (tokens : List Token) (notes : List ℕ) (pieces : List Piece) (left : List ℕ) (unit : Begun) (rest : List Token) (p : Piece) (s : Cuts bytes tokens notes pieces left unit rest)
    → length rest ≡ 0 → is_begin s.before ≡ false → p.from ≡ unit.from → p.to ≡ unit.next → p.body ≡ unit.body → p.no_return ≡ is_first_before unit.last left
    → AreCut bytes tokens notes (pieces ++ p ∷ [])
cuts_last bytes tokens notes pieces left unit rest p s e begin from to body marked = record {
  all = λ order. ap (λ ps. pieces ++ ps) (sym (one_left bytes notes left unit rest s.before s.end p s.begun e begin (s.left_from order) order.positions from to body marked)) ∙ s.all_cut order;
  bounds = map-append unmarked pieces (p ∷ []) ∙ ap (λ ps. map unmarked pieces ++ ps) (sym (one_left_bounds bytes notes unit rest s.before s.end p s.begun e begin from to body))
      ∙ sym (map-append unmarked pieces (units_behind bytes notes rest s.before unit.from s.end)) ∙ s.all_bounds;
}

-- ---- the units follow one another

body_within : (bytes : List ℕ) (before : List Token) → IfSome (body_of bytes before) (λ n. n < length before)
unfolding body_of
body_within bytes [] = tt
body_within bytes (t ∷ before) =
    elim (is_outer bytes t before) as (λ o. IfSome (cond o (cond (opens_brace bytes t && ends_with_parenthesis bytes before) (Some (length before)) None) (body_of bytes before)) (λ n. n < suc (length before))) [
      | true ↦ elim (opens_brace bytes t && ends_with_parenthesis bytes before) as (λ o. IfSome (cond o (Some (length before)) None) (λ n. n < suc (length before))) [ true ↦ omega arith | false ↦ tt ]
      | false ↦ more (body_of bytes before) (body_within bytes before)
    ]
  where
    more : (body : Option ℕ) → IfSome body (λ n. n < length before) → IfSome body (λ n. n < suc (length before))
    more None h = tt
    more (Some n) h = omega arith

has_body : (from size to : ℕ) (body : Option ℕ) → IfSome body (λ n. n < size) → to ≡ from + size → IfSome (option_map (λ n. from + n) body) (λ n. (from ≤ n) × (n < to))
has_body from size to None h e = tt
has_body from size to (Some n) h e = (omega arith, omega arith)

joined_to : (from to end : ℕ) (ps : List Piece) → to ≡ end → AreJoined from to ps → AreJoined from end ps
joined_to from to end ps e j = subst (λ n. AreJoined from n ps) e j

pub units_joined : (bytes notes : List ℕ) (ts before : List Token) (from end : ℕ) → AreJoined from (from + length before + length ts) (units_behind bytes notes ts before from end)
unfolding units_behind piece_of
units_joined bytes notes [] [] from end = omega arith
units_joined bytes notes [] (t ∷ before) from end =
    (refl, omega arith, has_body from (suc (length before)) (from + length before + 1) (body_of bytes (t ∷ before)) (body_within bytes (t ∷ before)) (omega arith), omega arith)
units_joined bytes notes (t ∷ ts) before from end =
    elim (ends_unit bytes t before) as
    (λ b. AreJoined from (from + length before + suc (length ts))
    (cond b (piece_of bytes notes end from t before ∷ units_behind bytes notes ts [] (from + length before + 1) t.span.to) (units_behind bytes notes ts (t ∷ before) from end))) [
      | true ↦ (
        refl,
        omega arith,
        has_body from (suc (length before)) (from + length before + 1) (body_of bytes (t ∷ before)) (body_within bytes (t ∷ before)) (omega arith),
        joined_to (from + length before + 1) (from + length before + 1 + 0 + length ts) (from + length before + suc (length ts)) (units_behind bytes notes ts [] (from + length before + 1) t.span.to) (omega arith)
            (units_joined bytes notes ts [] (from + length before + 1) t.span.to),
      )
      | false ↦ joined_to from (from + suc (length before) + length ts) (from + length before + suc (length ts)) (units_behind bytes notes ts (t ∷ before) from end) (omega arith) (units_joined bytes notes ts (t ∷ before) from end)
    ]

all_joined : (bytes : List ℕ) (tokens : List Token) (notes : List ℕ) → AreJoined 0 (length tokens) (units_of bytes tokens notes)
all_joined bytes tokens notes = joined_to 0 (0 + 0 + length tokens) (length tokens) (units_of bytes tokens notes) (omega arith) (units_joined bytes notes tokens [] 0 0)

-- that pieces follow one another is said of their bounds
joined_unmarked : (from to : ℕ) (ps : List Piece) → AreJoined from to ps → AreJoined from to (map unmarked ps)
joined_unmarked from to [] j = j
joined_unmarked from to (p ∷ ps) j = (j.0, j.1, j.2, joined_unmarked p.to to ps j.3)

joined_marked : (from to : ℕ) (ps : List Piece) → AreJoined from to (map unmarked ps) → AreJoined from to ps
joined_marked from to [] j = j
joined_marked from to (p ∷ ps) j = (j.0, j.1, j.2, joined_marked p.to to ps j.3)

pub cut_joined : (bytes : List ℕ) (tokens : List Token) (notes : List ℕ) (pieces : List Piece) → AreCut bytes tokens notes pieces → AreJoined 0 (length tokens) pieces
cut_joined bytes tokens notes pieces cut =
    let size = length tokens in
    joined_marked 0 size pieces (subst (λ ps. AreJoined 0 size ps) (sym cut.bounds) (joined_unmarked 0 size (units_of bytes tokens notes) (all_joined bytes tokens notes)))
