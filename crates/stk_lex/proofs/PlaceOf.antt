-- What is read from left to right is the place of a byte.
use Rattle.std.proofs.Common.{◌≡◌, ℕ, zero, suc, ◌+◌, ◌-◌, ◌<◌, ◌≤◌, Bool, true, false, cond, ◌&&◌, ◌||◌, List, [], ◌∷◌, length, take, drop, get_or, Option, Some, None, refl, sym, ap, subst, ◌∙◌, ◌⊎◌, inl, inr, arith}
use Rattle.std.specs.Prelude.{◌==◌, nat_lt, nat_le, IfSome, IfNone}
use Rattle.std.proofs.lemmas.Bool.{false≢true, eqb-true, eqb-false, ltb-true, ltb-false, lt-ltb, leb-true, leb-false}
use Rattle.std.proofs.lemmas.List.{length-drop, drop_more}
use Rattle.stk_base.specs.declared.token.Class.{Class}
use Rattle.stk_base.specs.declared.token.Class.TheVariants as classes
use Rattle.stk_base.specs.declared.token.Place.{Place}
use Rattle.stk_lex.specs.declared.markers.Marker.{Marker}
use Rattle.stk_lex.specs.declared.placing.Line.{Line}
use Rattle.stk_lex.specs.declared.placing.Stand.{Stand}
use Rattle.stk_lex.specs.Classes.{is_word, is_number, is_character, is_text, is_punctuator, is_digraph}
use Rattle.stk_lex.specs.Gaps.{line, begins, comment, only_blanks, gap}
use Rattle.stk_lex.specs.Cut.{begins_quote, begins_comment, is_form, digraph, InClass, IsFirst}
use Rattle.stk_lex.specs.Lengths.{character_length, text_length, form_length}
use Rattle.stk_lex.specs.MarkerReading.{marker_of}
use Rattle.stk_lex.specs.Place.{IsPart, gap_part, token_part, PartBegins, MarkerStands, NoMarker, IsPlace}
use Rattle.stk_lex.specs.Stands.{IsLine, IsStand}
use Rattle.stk_lex.specs.Placing.{or_else, first_length, part_length, marker_at, next_line, line_along, stand_behind, next_stand, first_stand, stand_up_to, place_behind, place_of}
use Rattle.stk_lex.proofs.Digits.{few_decimal}
use Rattle.stk_lex.proofs.First.{form_is_longest, stray_quote, stray_comment, first_form, stray_byte, endless}
use Rattle.stk_lex.proofs.GapsLongest.{gap_is_longest}
use Rattle.stk_lex.proofs.Lines.{none_within, line_turns, line_stays}
use Rattle.stk_lex.proofs.ReadMarkers.{marker_is_there, no_marker_there}
use Rattle.stk_lex.proofs.Stands.{is_first_stand, none_between, plain_stand, marker_stand, marker_part}
use Rattle.stk_lex.proofs.OnePlace.{one_place}

-- ---- the token at the front

line_fits_at : (p : Bool) (n : ℕ) (bs : List ℕ) → n ≤ length bs → cond p 0 (suc n) ≤ suc (length bs)
line_fits_at true n bs h = omega arith
line_fits_at false n bs h = omega (arith, h)

line_fits : (bs : List ℕ) → line bs ≤ length bs
unfolding line
line_fits [] = omega arith
line_fits (b ∷ bs) = line_fits_at (b == 10) (line bs) bs (line_fits bs)

or_cases : (p q : Bool) → (p || q) ≡ true → (p ≡ true) ⊎ (q ≡ true)
or_cases true q e = inl refl
or_cases false q e = inr e

-- a text of a form is in a class
class_of : (bs : List ℕ) (n : ℕ) → is_form (take n bs) ≡ true → (class : Class) × InClass class bs n
class_of bs n is =
    let x = take n bs in
    elim (or_cases (is_word x || is_number x || is_character x || is_text x || is_punctuator x) (is_digraph x) is) [
      | inr e ↦ (classes.Stray, digraph e)
      | inl is ↦ elim (or_cases (is_word x || is_number x || is_character x || is_text x) (is_punctuator x) is) [
        | inr e ↦ (classes.Punctuator, e)
        | inl is ↦ elim (or_cases (is_word x || is_number x || is_character x) (is_text x) is) [
          | inr e ↦ (classes.Text, e)
          | inl is ↦ elim (or_cases (is_word x || is_number x) (is_character x) is) [
            | inr e ↦ (classes.Character, e)
            | inl is ↦ elim (or_cases (is_word x) (is_number x) is) [ inr e ↦ (classes.Number, e) | inl e ↦ (classes.Word, e) ]
          ]
        ]
      ]
    ]

first_by_form : (bs : List ℕ) (n : ℕ) → form_length bs ≡ n → 0 < length bs → (begins_quote bs && character_length bs == 0 && text_length bs == 0) ≡ false → begins_comment bs ≡ false
    → (class : Class) × IsFirst bs class (or_else n 1)
first_by_form bs zero e some quoted begun = (classes.Stray, stray_byte bs some e quoted begun)
first_by_form bs (suc n) e some quoted begun =
    let is = class_of bs (suc n) (rw e at ((form_is_longest bs).passes (omega (arith, e)))) in
    (is.0, first_form bs is.0 (suc n) (sym e) (omega arith) is.1 quoted begun)

first_on : (bs : List ℕ) (p q : Bool) → (begins_quote bs && character_length bs == 0 && text_length bs == 0) ≡ p → begins_comment bs ≡ q → 0 < length bs → (begins_comment bs ≡ true → comment (drop 2 bs) ≡ 0)
    → (class : Class) × IsFirst bs class (cond p (line bs) (cond q (length bs) (or_else (form_length bs) 1)))
first_on bs true q e f some endless_is = (classes.Stray, stray_quote bs (line_fits bs) e)
first_on bs false true e f some endless_is = (classes.Stray, stray_comment bs f (endless_is f))
first_on bs false false e f some endless_is = first_by_form bs (form_length bs) refl some e f

first_is : (bs : List ℕ) → 0 < length bs → (begins_comment bs ≡ true → comment (drop 2 bs) ≡ 0) → (class : Class) × IsFirst bs class (first_length bs)
unfolding first_length
first_is bs some endless_is = first_on bs (begins_quote bs && character_length bs == 0 && text_length bs == 0) (begins_comment bs) refl refl some endless_is

-- ---- the part at a place

pub record IsPartOf (text : List ℕ) (at n : ℕ) : Type 0 where
  pub some : 0 < n
  pub fits : at + n ≤ length text
  pub part : IsPart text at n

part_on : (text : List ℕ) (at g : ℕ) → gap text at ≡ g → at < length text → IsPartOf text at (or_else g (first_length (drop at text)))
part_on text at zero e within =
    let first = first_is (drop at text) (omega (arith, within, length-drop at text)) (endless (only_blanks true (take at text)) (drop at text) e) in
    record { some = first.1.within.0; fits = omega (arith, first.1.within.1, within, length-drop at text); part = token_part e first.1 }
part_on text at (suc n) e within =
    let most = (gap_is_longest text at).within in
    record { some = omega arith; fits = omega (arith, most, e, within, length-drop at text); part = gap_part (omega (arith, e)) (sym e) }

part_is : (text : List ℕ) (at : ℕ) → at < length text → IsPartOf text at (part_length text at)
unfolding part_length
part_is text at within = part_on text at (gap text at) refl within

-- ---- the line further on

next_on : (text : List ℕ) (at : ℕ) (here : Line) (p : Bool) → (get_or text at 0 == 10) ≡ p → at < length text → NoMarker text at (at + 1) → IsLine text at here
    → IsLine text (at + 1) (cond p (record { file = here.file; number = here.number + 1; start = at + 1 }) here)
next_on text at here true e within none is = line_turns text at here within (eqb-true (get_or text at 0) 10 e) none is
next_on text at here false e within none is = line_stays text at here within (eqb-false (get_or text at 0) 10 e) none is

next_is : (text : List ℕ) (at : ℕ) (here : Line) → at < length text → NoMarker text at (at + 1) → IsLine text at here → IsLine text (at + 1) (next_line text at here)
unfolding next_line
next_is text at here within none is =
    subst (λ p. IsLine text (at + 1) (cond p (record { file = here.file; number = here.number + 1; start = at + 1 }) here)) (sym (ap (begins 10) (drop_more text at 0 within))) (next_on text at here (get_or text at 0 == 10) refl within none is)

along_is : (text : List ℕ) (at n : ℕ) (here : Line) → at + n ≤ length text → NoMarker text at (at + n) → IsLine text at here → IsLine text (at + n) (line_along text at n here)
unfolding line_along
along_is text at zero here fits none is = let same : at ≡ at + 0 = omega arith in subst (λ to. IsLine text to here) same is
along_is text at (suc n) here fits none is =
    let next = next_is text at here (omega (arith, fits)) (none_within text at (at + suc n) at (at + 1) none (omega arith) (omega arith)) is in
    let same : at + 1 + n ≡ at + suc n = omega arith in
    subst (λ to. IsLine text to (line_along text (at + 1) n (next_line text at here))) same
    (along_is text (at + 1) n (next_line text at here) (omega (arith, fits)) (none_within text at (at + suc n) (at + 1) (at + 1 + n) none (omega arith) (omega arith)) next)

-- ---- the marker at a place

pub data IsMarkerOf (text : List ℕ) (at : ℕ) : Option Marker → Type 0 where
  no_marker : ((marker : Marker) → MarkerStands text at marker → ⊥) → IsMarkerOf text at None
  a_marker : {marker : Marker} → MarkerStands text at marker → marker.number < 1000000000 → IsMarkerOf text at (Some marker)

marker_bound : (text : List ℕ) (at : ℕ) (marker : Marker) → MarkerStands text at marker → marker.number < 1000000000
marker_bound text at marker is = let f = is.form in rw f.number (few_decimal f.digits f.are_digits.1 f.are_digits.2)

marker_found : (text : List ℕ) (at : ℕ) (found : Option Marker) → IfSome found (λ m. MarkerStands text at m) → IfNone found ((m : Marker) → MarkerStands text at m → ⊥) → IsMarkerOf text at found
marker_found text at None some none = no_marker none
marker_found text at (Some marker) some none = a_marker some (marker_bound text at marker some)

three_true : (p q r : Bool) → (p && q && r) ≡ true → (p ≡ true) × (q ≡ true) × (r ≡ true)
three_true true true true e = (refl, refl, refl)
three_true true true false e = absurd (false≢true e)
three_true true false r e = absurd (false≢true e)
three_true false q r e = absurd (false≢true e)

marker_on : (text : List ℕ) (at : ℕ) (p : Bool) → (nat_lt 0 (gap text at) && nat_lt (at + gap text at) (length text) && begins 35 (drop at text)) ≡ p → PartBegins text at
    → IsMarkerOf text at (cond p (marker_of (drop 1 (take (gap text at) (drop at text)))) None)
marker_on text at true e part =
    let t = three_true (nat_lt 0 (gap text at)) (nat_lt (at + gap text at) (length text)) (begins 35 (drop at text)) e in
    let found = marker_of (drop 1 (take (gap text at) (drop at text))) in
    marker_found text at found (marker_is_there text at found part (ltb-true 0 (gap text at) t.0) t.2 (ltb-true (at + gap text at) (length text) t.1) refl) (no_marker_there text at found refl)
marker_on text at false e part = no_marker (λ marker is. false≢true (sym e ∙ rw (lt-ltb 0 (gap text at) is.directive.0, lt-ltb (at + gap text at) (length text) is.ended, is.directive.1) refl))

marker_is : (text : List ℕ) (at : ℕ) → PartBegins text at → IsMarkerOf text at (marker_at text at)
unfolding marker_at
marker_is text at part = marker_on text at (nat_lt 0 (gap text at) && nat_lt (at + gap text at) (length text) && begins 35 (drop at text)) refl part

-- ---- the next stand

pub record IsNext (text : List ℕ) (stand next : Stand) : Type 0 where
  pub is : IsStand text next
  pub further : stand.at < next.at
  pub between : NoMarker text stand.at (next.at - 1)

next_by : (text : List ℕ) (stand : Stand) (found : Option Marker) → IsMarkerOf text stand.at found → IsStand text stand → IsPartOf text stand.at (part_length text stand.at) → IsNext text stand (stand_behind text stand found)
unfolding stand_behind
next_by text stand None (no_marker none) here p =
    let n = part_length text stand.at in
    let between = none_between text stand n here p.part (λ marker is. absurd (none marker is)) in
    record {
      is = plain_stand text stand n (line_along text stand.at n stand.line) here p.part p.fits none (along_is text stand.at n stand.line p.fits between here.line);
      further = omega (arith, p.some);
      between = none_within text stand.at (stand.at + n) stand.at (stand.at + n - 1) between (omega arith) (omega arith);
    }
next_by text stand (Some marker) (a_marker is few) here p =
    let n = part_length text stand.at in
    let long = marker_part text stand.at n marker is p.part in
    let back : stand.at + n + 1 - 1 ≡ stand.at + n = omega arith in
    record {
      is = marker_stand text stand n marker here p.part is few;
      further = omega arith;
      between = rw back (none_between text stand n here p.part (λ marker is. omega (arith, long)));
    }

next_stand_is : (text : List ℕ) (stand : Stand) → IsStand text stand → stand.at < length text → IsNext text stand (next_stand text stand)
unfolding next_stand
next_stand_is text stand here more = next_by text stand (marker_at text stand.at) (marker_is text stand.at here.part) here (part_is text stand.at more)

-- ---- the last stand up to a place

pub record IsReached (text : List ℕ) (at : ℕ) (stand : Stand) : Type 0 where
  pub is : IsStand text stand
  pub before : stand.at ≤ at
  pub between : NoMarker text stand.at at

no_marker_here : (text : List ℕ) (at : ℕ) → NoMarker text at at
no_marker_here text at = λ k marker is above within. omega (arith, above, within)

and_true : (p q : Bool) → (p && q) ≡ true → (p ≡ true) × (q ≡ true)
and_true true true e = (refl, refl)
and_true true false e = absurd (false≢true e)
and_true false q e = absurd (false≢true e)

reach_on : (text : List ℕ) (at n : ℕ) (stand : Stand) (p q : Bool) → nat_lt stand.at at ≡ p → nat_le (next_stand text stand).at at ≡ q → at ≤ length text → IsStand text stand → stand.at ≤ at → at - stand.at ≤ suc n
    → ((next : Stand) → IsStand text next → next.at ≤ at → at - next.at ≤ n → IsReached text at (stand_up_to text at n next)) → IsReached text at (cond (p && q) (stand_up_to text at n (next_stand text stand)) stand)
reach_on text at n stand false q e f fits here before turns on =
    let same : stand.at ≡ at = omega (arith, ltb-false stand.at at e, before) in
    record { is = here; before = before; between = subst (λ a. NoMarker text a at) (sym same) (no_marker_here text at) }
reach_on text at n stand true false e f fits here before turns on =
    let next = next_stand_is text stand here (omega (arith, ltb-true stand.at at e, fits)) in
    let over = leb-false (next_stand text stand).at at f in
    record { is = here; before = before; between = none_within text stand.at ((next_stand text stand).at - 1) stand.at at next.between (omega arith) (omega (arith, over)) }
reach_on text at n stand true true e f fits here before turns on =
    let next = next_stand_is text stand here (omega (arith, ltb-true stand.at at e, fits)) in
    on (next_stand text stand) next.is (leb-true (next_stand text stand).at at f) (omega (arith, next.further, turns))

reach_is : (text : List ℕ) (at n : ℕ) (stand : Stand) → at ≤ length text → IsStand text stand → stand.at ≤ at → at - stand.at ≤ n → IsReached text at (stand_up_to text at n stand)
unfolding stand_up_to
reach_is text at zero stand fits here before turns =
    let same : stand.at ≡ at = omega (arith, before, turns) in
    record { is = here; before = before; between = subst (λ a. NoMarker text a at) (sym same) (no_marker_here text at) }
reach_is text at (suc n) stand fits here before turns =
    reach_on text at n stand (nat_lt stand.at at) (nat_le (next_stand text stand).at at) refl refl fits here before turns (λ next is up left. reach_is text at n next fits is up left)

-- ---- the place

place_behind_is : (text : List ℕ) (at : ℕ) (stand : Stand) → at ≤ length text → IsReached text at stand → IsPlace text at (place_behind text at stand)
place_behind_is text at stand fits r =
    let n = at - stand.at in
    let same : stand.at + n ≡ at = omega (arith, r.before) in
    let line : IsLine text at (line_along text stand.at n stand.line) =
    subst (λ to. IsLine text to (line_along text stand.at n stand.line)) same
    (along_is text stand.at n stand.line (omega (arith, same, fits)) (subst (λ to. NoMarker text stand.at to) (sym same) r.between) r.is.line) in
    record { line = line.numbered; column = ((line_along text stand.at n stand.line).start, line.start, refl) }

-- each byte has a place
pub place_of_is : (text : List ℕ) (at : ℕ) → at ≤ length text → IsPlace text at (place_of text at)
unfolding place_of
place_of_is text at fits = place_behind_is text at (stand_up_to text at at first_stand) fits (reach_is text at at first_stand fits (is_first_stand text) (omega arith) (omega arith))

pub is_place_of : (text : List ℕ) (at : ℕ) (p : Place) → at ≤ length text → IsPlace text at p → p ≡ place_of text at
is_place_of text at p fits is = one_place text at p (place_of text at) is (place_of_is text at fits)
