-- The stands of a text: the first one, and the next one behind a part or behind a marker's line.
use Rattle.std.proofs.Common.{◌≡◌, ℕ, suc, ◌+◌, ◌-◌, ◌<◌, ◌≤◌, Bool, true, false, cond, List, [], ◌∷◌, length, take, drop, Some, None, refl, sym, ap, subst, ◌∙◌, inl, inr, arith}
use Rattle.std.specs.Prelude.{◌==◌}
use Rattle.std.proofs.lemmas.Bool.{false≢true, eqb-true, cases_order}
use Rattle.std.proofs.lemmas.Bool.Decides.{nat_tests}
use Rattle.std.proofs.lemmas.List.{drop-drop, length-drop}
use Rattle.stk_lex.specs.declared.markers.Marker.{Marker}
use Rattle.stk_lex.specs.declared.placing.Line.{Line}
use Rattle.stk_lex.specs.declared.placing.Stand.{Stand}
use Rattle.stk_lex.specs.Gaps.{line, begins, only_blanks, gap_at, gap}
use Rattle.stk_lex.specs.Place.{IsPart, gap_part, first_part, next_part, MarkerStands, NoMarker, line_after, newlines, newlines_before, unmarked, marked, name_of}
use Rattle.stk_lex.specs.Stands.{IsLine, IsStand}
use Rattle.stk_lex.proofs.Parts.{one_part, parts_apart}

-- ---- directive lines

hash_line : (b : ℕ) (bs : List ℕ) (fresh : Bool) → (b == 35) ≡ true → 0 < gap_at fresh (b ∷ bs) → gap_at fresh (b ∷ bs) ≡ line (b ∷ bs)
hash_line b bs true e some = rw (eqb-true b 35 e) refl
hash_line b bs false e some = absurd (omega (arith, rw (eqb-true b 35 e) at some))

-- a directive line is the bytes before the newline
hash_gap : (bs : List ℕ) (fresh : Bool) → begins 35 bs ≡ true → 0 < gap_at fresh bs → gap_at fresh bs ≡ line bs
hash_gap [] fresh e some = absurd (false≢true e)
hash_gap (b ∷ bs) fresh e some = hash_line b bs fresh e some

line_end_at : (b : ℕ) (bs : List ℕ) (p : Bool) → (b == 10) ≡ p → (line bs < length bs → begins 10 (drop (line bs) bs) ≡ true) → cond p 0 (suc (line bs)) < suc (length bs)
    → begins 10 (drop (cond p 0 (suc (line bs))) (b ∷ bs)) ≡ true
line_end_at b bs true e rest h = e
line_end_at b bs false e rest h = rest (omega (arith, h))

line_end : (bs : List ℕ) → line bs < length bs → begins 10 (drop (line bs) bs) ≡ true
unfolding line
line_end [] h = absurd (omega arith)
line_end (b ∷ bs) h = line_end_at b bs (b == 10) refl (line_end bs) h

newline_gap_of : (bs : List ℕ) (fresh : Bool) → begins 10 bs ≡ true → gap_at fresh bs ≡ 1
newline_gap_of [] fresh e = absurd (false≢true e)
newline_gap_of (b ∷ bs) fresh e = rw (eqb-true b 10 e) refl

not_both : (bs : List ℕ) → begins 35 bs ≡ true → begins 10 bs ≡ true → ⊥
not_both [] h k = absurd (false≢true h)
not_both (b ∷ bs) h k = grind (arith, nat_tests)

-- a newline ends a marker's line
newline_behind : (text : List ℕ) (at : ℕ) (marker : Marker) → MarkerStands text at marker → begins 10 (drop (at + gap text at) text) ≡ true
newline_behind text at marker is =
    let long : gap text at ≡ line (drop at text) = hash_gap (drop at text) (only_blanks true (take at text)) is.directive.1 is.directive.0 in
    let fits : line (drop at text) < length (drop at text) = omega (arith, long, is.ended, length-drop at text) in
    ap (begins 10) (sym (drop-drop (gap text at) at text)) ∙ rw long (line_end (drop at text) fits)

-- ---- stands

pub is_first_stand : (text : List ℕ) → IsStand text (record { at = 0; line = record { file = None; number = 1; start = 0 } })
unfolding newlines
is_first_stand text = record {
  within = omega arith;
  part = first_part;
  line = record {
    numbered = unmarked (λ at marker is above within. omega arith) refl refl;
    start = record { before = omega arith; fresh = inl refl; same_line = refl };
    bound = omega arith;
  };
  settled = λ at marker is before. absurd (omega arith);
}

-- no line behind a marker begins before the end of the next part
pub none_between : (text : List ℕ) (stand : Stand) (n : ℕ) → IsStand text stand → IsPart text stand.at n → ((marker : Marker) → MarkerStands text stand.at marker → stand.at + n < line_after text stand.at)
    → NoMarker text stand.at (stand.at + n)
none_between text stand n here part own = λ at marker is above within.
    elim (cases_order at stand.at) [
      | inl same ↦ (let k = own marker (subst (λ a. MarkerStands text a marker) same is) in let e : line_after text at ≡ line_after text stand.at = ap (line_after text) same in omega (arith, k, e, within))
      | inr o ↦ elim o [
        | inl less ↦ (let k = here.settled at marker is less in omega (arith, k, above))
        | inr more ↦ (let k = parts_apart text stand.at at n here.part is.part part more in omega (arith, k, within))
      ]
    ]

-- behind a part that is no marker
pub plain_stand : (text : List ℕ) (stand : Stand) (n : ℕ) (next : Line) → IsStand text stand → IsPart text stand.at n → stand.at + n ≤ length text → ((marker : Marker) → MarkerStands text stand.at marker → ⊥)
    → IsLine text (stand.at + n) next → IsStand text (record { at = stand.at + n; line = next })
plain_stand text stand n next here part fits none behind = record {
  within = fits;
  part = next_part here.part part;
  line = behind;
  settled = λ at marker is before. elim (cases_order at stand.at) [
    | inl same ↦ absurd (none marker (subst (λ a. MarkerStands text a marker) same is))
    | inr o ↦ elim o [
      | inl less ↦ (let k = here.settled at marker is less in omega (arith, k))
      | inr more ↦ (let k = parts_apart text stand.at at n here.part is.part part more in absurd (omega (arith, k, before)))
    ]
  ];
}

-- a marker's line has the length of the part
pub marker_part : (text : List ℕ) (at n : ℕ) (marker : Marker) → MarkerStands text at marker → IsPart text at n → n ≡ gap text at
marker_part text at n marker is part = one_part text at n (gap text at) part (gap_part is.directive.0 refl)

-- behind a marker and the newline that ends it
pub marker_stand : (text : List ℕ) (stand : Stand) (n : ℕ) (marker : Marker) → IsStand text stand → IsPart text stand.at n → MarkerStands text stand.at marker → marker.number < 1000000000
    → IsStand text (record { at = stand.at + n + 1; line = record { file = Some (name_of stand.at marker); number = marker.number; start = stand.at + n + 1 } })
marker_stand text stand n marker here part is few =
    let long : n ≡ gap text stand.at = marker_part text stand.at n marker is part in
    let newline : begins 10 (drop (stand.at + n) text) ≡ true = rw long (newline_behind text stand.at marker is) in
    let one : gap text (stand.at + n) ≡ 1 = newline_gap_of (drop (stand.at + n) text) (only_blanks true (take (stand.at + n) text)) newline in
    let place : stand.at + n + 1 ≡ line_after text stand.at = omega (arith, long) in
    let back : stand.at + n + 1 - 1 ≡ stand.at + n = omega arith in
    let same : newlines_before text (stand.at + n + 1) ≡ newlines_before text (line_after text stand.at) = ap (newlines_before text) place in
    record {
      within = omega (arith, long, is.ended);
      part = next_part (next_part here.part part) (gap_part (omega (arith, one)) (sym one));
      line = record {
        numbered = marked is (omega (arith, place)) (λ at other k above within. omega (arith, above, within, place)) refl (omega (arith, same));
        start = record { before = omega arith; fresh = inr (rw back newline); same_line = refl };
        bound = omega (arith, few);
      };
      settled = λ at other k before. elim (cases_order at stand.at) [
        | inl e ↦ (let f : line_after text at ≡ line_after text stand.at = ap (line_after text) e in omega (arith, f, place))
        | inr o ↦ elim o [
          | inl less ↦ (let l = here.settled at other k less in omega (arith, l))
          | inr more ↦ (let l = parts_apart text stand.at at n here.part k.part part more in
              let there : at ≡ stand.at + n = omega (arith, l, before) in
              absurd (not_both (drop (stand.at + n) text) (subst (λ a. begins 35 (drop a text) ≡ true) there k.directive.1) newline))
        ]
      ];
    }
