-- Reading a line marker from left to right finds the marker that the line is, and no other.
use Rattle.std.proofs.Common.{◌≡◌, ℕ, zero, suc, ◌+◌, ◌<◌, ◌≤◌, Bool, true, false, cond, ◌&&◌, List, [], ◌∷◌, ◌++◌, length, take, drop, Option, Some, None, refl, sym, ap, ◌∙◌, arith}
use Rattle.std.specs.Prelude.{◌==◌, nat_lt, not}
use Rattle.std.specs.List.{list_all}
use Rattle.std.specs.Char.{is_ascii_digit}
use Rattle.std.proofs.Math.Seq.{take-append_seam, drop-append_seam}
use Rattle.std.proofs.lemmas.List.{take-append-drop, length-take-le}
use Rattle.std.proofs.lemmas.Bool.{false≢true, eqb-true, ltb-true, lt-ltb}
use Rattle.std.proofs.lemmas.Bool.Decides.{nat_tests}
use Rattle.stk_base.specs.Text.{decimal}
use Rattle.stk_lex.specs.declared.markers.Marker.{Marker}
use Rattle.stk_lex.specs.Classes.{closes, is_nil}
use Rattle.std.specs.Prelude.{IfSome, IfNone}
use Rattle.stk_lex.specs.Gaps.{begins, one_more, gap}
use Rattle.stk_lex.specs.Place.{PartBegins, MarkerStands}
use Rattle.stk_lex.specs.Lengths.{closing}
use Rattle.stk_lex.specs.Marker.{is_space, IsMarker}
use Rattle.stk_lex.specs.MarkerReading.{run, are_parts, punctuator_with, punctuator_behind_digits, punctuator_behind_spaces, marker_of}
use Rattle.stk_lex.proofs.Digits.{run_passes}
use Rattle.stk_lex.proofs.Longest.{closing_is}

and_parts : (p q : Bool) → (p && q) ≡ true → (p ≡ true) × (q ≡ true)
and_parts true true e = (refl, refl)
and_parts true false e = absurd (false≢true e)
and_parts false q e = absurd (false≢true e)

-- ---- runs

run_within : (p : ℕ → Bool) (bs : List ℕ) → run p bs ≤ length bs
unfolding run
run_within p [] = omega arith
run_within p (b ∷ bs) = fits (p b) (run_within p bs) where
  fits : (q : Bool) → run p bs ≤ length bs → cond q (suc (run p bs)) 0 ≤ suc (length bs)
  fits true h = omega (arith, h)
  fits false h = omega arith

run_stops : (p : ℕ → Bool) (xs : List ℕ) (y : ℕ) (ys : List ℕ) → list_all p xs ≡ true → p y ≡ false → run p (xs ++ y ∷ ys) ≡ length xs
unfolding run
run_stops p [] y ys all stop = rw stop refl
run_stops p (x ∷ xs) y ys all stop =
    let h = and_parts (p x) (list_all p xs) all in
    rw h.0 (ap suc (run_stops p xs y ys h.1 stop))

-- a name is as long as its closing quote is away
closing_stops : (quote : ℕ) (escaped : Bool) (name rest : List ℕ) → closes quote escaped name ≡ true → closing quote escaped (name ++ rest) ≡ length name
unfolding closing
closing_stops quote escaped [] rest h = absurd (false≢true h)
closing_stops quote escaped (b ∷ bs) rest h = at_byte (not escaped && b == quote) (b == 10) (not escaped && b == 92) h (closing_stops quote (not escaped && b == 92) bs rest) where
  some : (n k : ℕ) → n ≡ suc k → one_more n ≡ suc (suc k)
  some n k e = rw e refl

  longer : (next : Bool) (bs : List ℕ) → closes quote next bs ≡ true → closing quote next (bs ++ rest) ≡ length bs → one_more (closing quote next (bs ++ rest)) ≡ suc (length bs)
  longer next [] c e = absurd (false≢true c)
  longer next (x ∷ xs) c e = some (closing quote next (x ∷ xs ++ rest)) (length xs) e

  ended : (xs : List ℕ) → is_nil xs ≡ true → 1 ≡ suc (length xs)
  ended [] e = refl
  ended (x ∷ xs) e = absurd (false≢true e)

  at_byte : (p q next : Bool) → cond p (is_nil bs) (not q && closes quote next bs) ≡ true → (closes quote next bs ≡ true → closing quote next (bs ++ rest) ≡ length bs)
      → cond p 1 (cond q 0 (one_more (closing quote next (bs ++ rest)))) ≡ suc (length bs)
  at_byte true q next c on = ended bs c
  at_byte false true next c on = absurd (false≢true c)
  at_byte false false next c on = longer next bs c (on c)

-- ---- the marker that a line is, is read

space_no_digit : (b : ℕ) → is_ascii_digit b ≡ true → is_space b ≡ false
space_no_digit b h = grind (arith, nat_tests)

above : (a b : ℕ) → a < b → nat_lt a b ≡ true
above a b h = lt-ltb a b h

parts_are : (s d k n : ℕ) (rest : List ℕ) → 0 < s → 0 < d → d ≤ 9 → 0 < k → closing 34 false rest ≡ n → 0 < n → are_parts s d k (34 ∷ rest) ≡ true
parts_are s d k n rest hs hd few hk e hn = rw (above 0 s hs, above 0 d hd, above d 10 (omega (arith, few)), above 0 k hk, e, above 0 n hn) refl

same_marker : (m : Marker) (number from to : ℕ) → m.number ≡ number → m.from ≡ from → m.to ≡ to → ◌≡◌ {A = Marker} (record { number = number; from = from; to = to }) m
same_marker m number from to e f g = rw (← e, ← f, ← g) refl

with_parts : (s d k : ℕ) (shown rest : List ℕ) (m : Marker) → are_parts s d k rest ≡ true → m.number ≡ decimal shown → m.from ≡ s + d + k + 2 → m.to ≡ s + d + k + 1 + closing 34 false (drop 1 rest)
    → punctuator_with s d k shown rest ≡ Some m
with_parts s d k shown rest m parts e f g = rw parts (ap Some (same_marker m (decimal shown) (s + d + k + 2) (s + d + k + 1 + closing 34 false (drop 1 rest)) e f g))

behind_digits : (s d : ℕ) (shown back rest : List ℕ) → list_all is_space back ≡ true → punctuator_behind_digits s d shown (back ++ 34 ∷ rest) ≡ punctuator_with s d (length back) shown (34 ∷ rest)
behind_digits s d shown back rest all =
    let e = run_stops is_space back 34 rest all refl in
    rw (e, drop-append_seam back (34 ∷ rest)) refl

-- what stands behind the digits begins with a space
behind_spaces : (s : ℕ) (digits back rest : List ℕ) → 0 < length back → list_all is_ascii_digit digits ≡ true → list_all is_space back ≡ true
    → punctuator_behind_spaces s (digits ++ (back ++ rest)) ≡ punctuator_behind_digits s (length digits) digits (back ++ rest)
behind_spaces s digits [] rest some all spaces = absurd (omega arith)
behind_spaces s digits (b ∷ back) rest some all spaces =
    let e = run_stops is_ascii_digit digits b (back ++ rest) all (space_is_no_digit b (and_parts (is_space b) (list_all is_space back) spaces).0) in
    rw (e, take-append_seam digits (b ∷ back ++ rest), drop-append_seam digits (b ∷ back ++ rest)) refl
  where
    space_is_no_digit : (b : ℕ) → is_space b ≡ true → is_ascii_digit b ≡ false
    space_is_no_digit b h = grind (arith, nat_tests)

behind_hash : (front digits rest : List ℕ) → 0 < length digits → list_all is_space front ≡ true → list_all is_ascii_digit digits ≡ true
    → marker_of (front ++ (digits ++ rest)) ≡ punctuator_behind_spaces (length front) (digits ++ rest)
unfolding marker_of
behind_hash front [] rest some spaces all = absurd (omega arith)
behind_hash front (d ∷ digits) rest some spaces all =
    let e = run_stops is_space front d (digits ++ rest) spaces (space_no_digit d (and_parts (is_ascii_digit d) (list_all is_ascii_digit digits) all).0) in
    rw (e, drop-append_seam front (d ∷ digits ++ rest)) refl

some_name : (name : List ℕ) → closes 34 false name ≡ true → 0 < length name
some_name [] h = absurd (false≢true h)
some_name (b ∷ bs) h = omega arith

pub marker_is_read : (line : List ℕ) (m : Marker) → IsMarker line m → marker_of (drop 1 line) ≡ Some m
marker_is_read line m is =
    let name_length = closing_stops 34 false is.name is.rest is.closed in
    let named = some_name is.name is.closed in
    let tail : List ℕ = is.name ++ is.rest in
    ap (λ xs. marker_of (drop 1 xs)) is.parts
    ∙ behind_hash is.front is.digits (is.back ++ 34 ∷ tail) is.are_digits.0 is.are_spaces.0.1 is.are_digits.2
    ∙ behind_spaces (length is.front) is.digits is.back (34 ∷ tail) is.are_spaces.1.0 is.are_digits.2 is.are_spaces.1.1
    ∙ behind_digits (length is.front) (length is.digits) is.digits is.back tail is.are_spaces.1.1
    ∙ with_parts (length is.front) (length is.digits) (length is.back) is.digits (34 ∷ tail) m
    (parts_are (length is.front) (length is.digits) (length is.back) (length is.name) tail is.are_spaces.0.0 is.are_digits.0 is.are_digits.1 is.are_spaces.1.0 name_length named)
    is.number is.from (omega (arith, is.from, is.to, name_length))

-- ---- what is read as a marker is one

begun_by : (a : ℕ) (xs : List ℕ) → begins a xs ≡ true → xs ≡ a ∷ drop 1 xs
begun_by a [] h = absurd (false≢true h)
begun_by a (b ∷ bs) h = ap (λ c. c ∷ bs) (eqb-true b a h)

chosen : (p : Bool) (x m : Marker) → ◌≡◌ {A = Option Marker} (cond p (Some x) None) (Some m) → (p ≡ true) × (x ≡ m)
chosen true x m e = (refl, cc)
chosen false x m e = absurd cc

rejoined : (n : ℕ) (xs ys : List ℕ) → drop n xs ≡ ys → xs ≡ take n xs ++ ys
rejoined n xs ys e = sym (take-append-drop n xs) ∙ ap (λ zs. take n xs ++ zs) e

six_parts : (a b c d e f : Bool) → (a && b && c && d && e && f) ≡ true → (a ≡ true) × (b ≡ true) × (c ≡ true) × (d ≡ true) × (e ≡ true) × (f ≡ true)
six_parts a b c d e f h =
    let h5 = and_parts (a && b && c && d && e) f h in
    let h4 = and_parts (a && b && c && d) e h5.0 in
    let h3 = and_parts (a && b && c) d h4.0 in
    let h2 = and_parts (a && b) c h3.0 in
    let h1 = and_parts a b h2.0 in
    (h1.0, h1.1, h2.1, h3.1, h4.1, h5.1)

pub read_is_marker : (line : List ℕ) (m : Marker) → begins 35 line ≡ true → marker_of (drop 1 line) ≡ Some m → IsMarker line m
unfolding marker_of
read_is_marker line m hash e =
    let r0 : List ℕ = drop 1 line in
    let s : ℕ = run is_space r0 in
    let r1 : List ℕ = drop s r0 in
    let d : ℕ = run is_ascii_digit r1 in
    let r2 : List ℕ = drop d r1 in
    let k : ℕ = run is_space r2 in
    let r3 : List ℕ = drop k r2 in
    let r4 : List ℕ = drop 1 r3 in
    let n : ℕ = closing 34 false r4 in
    let is = chosen (are_parts s d k r3) (record { number = decimal (take d r1); from = s + d + k + 2; to = s + d + k + 1 + n }) m e in
    let h = six_parts (nat_lt 0 s) (nat_lt 0 d) (nat_lt d 10) (nat_lt 0 k) (begins 34 r3) (nat_lt 0 n) is.0 in
    let some_s : 0 < s = ltb-true 0 s h.0 in
    let some_d : 0 < d = ltb-true 0 d h.1 in
    let few : d < 10 = ltb-true d 10 h.2 in
    let some_k : 0 < k = ltb-true 0 k h.3 in
    let some_n : 0 < n = ltb-true 0 n h.5 in
    let long_s : length (take s r0) ≡ s = length-take-le s r0 (run_within is_space r0) in
    let long_d : length (take d r1) ≡ d = length-take-le d r1 (run_within is_ascii_digit r1) in
    let long_k : length (take k r2) ≡ k = length-take-le k r2 (run_within is_space r2) in
    let long_n : length (take n r4) ≡ n = length-take-le n r4 (closing_is 34 false r4).within in
    let number : decimal (take d r1) ≡ m.number = ap (λ (x : Marker). x.number) is.1 in
    let from : s + d + k + 2 ≡ m.from = ap (λ (x : Marker). x.from) is.1 in
    let to : s + d + k + 1 + n ≡ m.to = ap (λ (x : Marker). x.to) is.1 in
    record {
      front = take s r0;
      digits = take d r1;
      back = take k r2;
      name = take n r4;
      rest = drop n r4;
      parts = begun_by 35 line hash ∙ ap (λ xs. 35 ∷ xs) (rejoined s r0 _ (rejoined d r1 _ (rejoined k r2 _ (begun_by 34 r3 h.4 ∙ ap (λ xs. 34 ∷ xs) (rejoined n r4 (drop n r4) refl)))));
      are_spaces = ((omega (arith, some_s, long_s), run_passes is_space r0), (omega (arith, some_k, long_k), run_passes is_space r2));
      are_digits = (omega (arith, some_d, long_d), omega (arith, few, long_d), run_passes is_ascii_digit r1);
      closed = (closing_is 34 false r4).passes some_n;
      number = sym number;
      from = omega (arith, from, long_s, long_d, long_k);
      to = omega (arith, from, to, long_n);
    }

-- ---- what is read at a place

begins_front : (a n : ℕ) (xs : List ℕ) → 0 < n → begins a xs ≡ true → begins a (take n xs) ≡ true
begins_front a zero xs some h = absurd (omega arith)
begins_front a (suc n) [] some h = absurd (false≢true h)
begins_front a (suc n) (x ∷ xs) some h = h

pub marker_is_there : (text : List ℕ) (at : ℕ) (found : Option Marker) → PartBegins text at → 0 < gap text at → begins 35 (drop at text) ≡ true → at + gap text at < length text
    → found ≡ marker_of (drop 1 (take (gap text at) (drop at text))) → IfSome found (λ m. MarkerStands text at m)
marker_is_there text at None part some hash ended e = tt
marker_is_there text at (Some m) part some hash ended e =
    record { part = part; directive = (some, hash); ended = ended; form = read_is_marker (take (gap text at) (drop at text)) m (begins_front 35 (gap text at) (drop at text) some hash) (sym e) }

pub no_marker_there : (text : List ℕ) (at : ℕ) (found : Option Marker) → found ≡ marker_of (drop 1 (take (gap text at) (drop at text))) → IfNone found ((m : Marker) → MarkerStands text at m → ⊥)
no_marker_there text at None e = λ m is. none m (e ∙ marker_is_read (take (gap text at) (drop at text)) m is.form) where
  none : (m : Marker) → ◌≡◌ {A = Option Marker} None (Some m) → ⊥
  none m e = cc
no_marker_there text at (Some m) e = tt
