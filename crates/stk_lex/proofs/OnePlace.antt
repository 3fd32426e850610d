-- A byte of a text has one place.
use Rattle.std.proofs.Common.{◌≡◌, ℕ, zero, suc, ◌+◌, ◌-◌, ◌<◌, true, List, [], ◌∷◌, length, take, drop, get_or, Option, Some, refl, sym, ap, subst, ◌∙◌, ◌⊎◌, inl, inr, arith}
use Rattle.std.proofs.lemmas.Bool.{false≢true, eqb-true, cases_order}
use Rattle.stk_base.specs.declared.span.Span.{Span}
use Rattle.stk_base.specs.declared.token.Place.{Place}
use Rattle.stk_lex.specs.declared.markers.Marker.{Marker}
use Rattle.stk_lex.specs.Gaps.{begins, gap}
use Rattle.stk_lex.specs.Place.{gap_part, MarkerStands, line_after, newlines_before, IsLineAt, unmarked, marked, IsLineStart, IsPlace}
use Rattle.stk_lex.proofs.Lines.{before_newline, before_more}
use Rattle.stk_lex.proofs.ReadMarkers.{marker_is_read}
use Rattle.stk_lex.proofs.Parts.{parts_apart}

-- ---- where a line begins

newline_there : (text : List ℕ) (k : ℕ) → begins 10 (drop k text) ≡ true → (k < length text) × (get_or text k 0 ≡ 10)
newline_there [] zero h = absurd (false≢true h)
newline_there [] (suc k) h = absurd (false≢true h)
newline_there (x ∷ xs) zero h = (omega arith, eqb-true x 10 h)
newline_there (x ∷ xs) (suc k) h = let r = newline_there xs k h in (omega (arith, r.0), r.1)

no_later : (text : List ℕ) (place s t : ℕ) → IsLineStart text place s → IsLineStart text place t → s < t → ⊥
no_later text place s t first second before = elim second.fresh [
  | inl none ↦ omega (arith, none, before)
  | inr newline ↦ (
      let there = newline_there text (t - 1) newline in
      let one = before_newline text (t - 1) there.0 there.1 in
      let back : t - 1 + 1 ≡ t = omega (arith, before) in
      let grown : newlines_before text t ≡ newlines_before text (t - 1) + 1 = ap (newlines_before text) (sym back) ∙ one in
      let fewer = before_more text s (t - 1) (omega (arith, before)) in
      omega (arith, grown, fewer, first.same_line, second.same_line))
]

one_start : (text : List ℕ) (place s t : ℕ) → IsLineStart text place s → IsLineStart text place t → s ≡ t
one_start text place s t first second = elim (cases_order s t) [
  | inl e ↦ e
  | inr o ↦ elim o [ inl less ↦ absurd (no_later text place s t first second less) | inr more ↦ absurd (no_later text place t s second first more) ]
]

-- ---- the last marker

no_earlier : (text : List ℕ) (a b : ℕ) (m n : Marker) → MarkerStands text a m → MarkerStands text b n → line_after text a ≡ line_after text b → a < b → ⊥
no_earlier text a b m n first second e before =
    let apart = parts_apart text a b (gap text a) first.part second.part (gap_part first.directive.0 refl) before in
    omega (arith, apart, e, second.directive.0)

one_hash : (text : List ℕ) (a b : ℕ) (m n : Marker) → MarkerStands text a m → MarkerStands text b n → line_after text a ≡ line_after text b → a ≡ b
one_hash text a b m n first second e = elim (cases_order a b) [
  | inl same ↦ same
  | inr o ↦ elim o [ inl less ↦ absurd (no_earlier text a b m n first second e less) | inr more ↦ absurd (no_earlier text b a n m second first (sym e) more) ]
]

some_marker : (m n : Marker) → ◌≡◌ {A = Option Marker} (Some m) (Some n) → m ≡ n
some_marker m n e = cc

one_marker : (text : List ℕ) (a : ℕ) (m n : Marker) → MarkerStands text a m → MarkerStands text a n → m ≡ n
one_marker text a m n first second =
    some_marker m n (sym (marker_is_read (take (gap text a) (drop a text)) m first.form) ∙ marker_is_read (take (gap text a) (drop a text)) n second.form)

same_file : (a b : ℕ) (m n : Marker) → a ≡ b → m ≡ n → ◌≡◌ {A = Option Span} (Some (record { from = a + m.from; to = a + m.to })) (Some (record { from = b + n.from; to = b + n.to }))
same_file a b m n e f = cc

one_line : (text : List ℕ) (place : ℕ) (file file' : Option Span) (number number' : ℕ) → IsLineAt text place file number → IsLineAt text place file' number' → (file ≡ file') × (number ≡ number')
one_line text place file file' number number' (unmarked none e f) (unmarked none' e' f') = (e ∙ sym e', f ∙ sym f')
one_line text place file file' number number' (unmarked none e f) (marked {at = at} {marker = marker} is fits none' e' f') = absurd (none at marker is (omega arith) fits)
one_line text place file file' number number' (marked {at = at} {marker = marker} is fits none e f) (unmarked none' e' f') = absurd (none' at marker is (omega arith) fits)
one_line text place file file' number number' (marked {at = a} {marker = m} is fits none e f) (marked {at = b} {marker = n} is' fits' none' e' f') = by_order (cases_order (line_after text a) (line_after text b)) where
  agree : line_after text a ≡ line_after text b → (file ≡ file') × (number ≡ number')
  agree same =
      let hash : a ≡ b = one_hash text a b m n is is' same in
      let marker : m ≡ n = one_marker text b m n (subst (λ x. MarkerStands text x m) hash is) is' in
      let named : m.number ≡ n.number = ap (λ (x : Marker). x.number) marker in
      let counted : newlines_before text (line_after text a) ≡ newlines_before text (line_after text b) = ap (newlines_before text) same in
      (e ∙ same_file a b m n hash marker ∙ sym e', omega (arith, f, f', named, counted))

  by_order : (line_after text a ≡ line_after text b) ⊎ ((line_after text a < line_after text b) ⊎ (line_after text b < line_after text a)) → (file ≡ file') × (number ≡ number')
  by_order (inl same) = agree same
  by_order (inr (inl less)) = absurd (none b n is' less fits')
  by_order (inr (inr more)) = absurd (none' a m is more fits)

-- ---- the place

same_place : (p q : Place) → p.file ≡ q.file → p.line ≡ q.line → p.column ≡ q.column → p ≡ q
same_place p q e f g = fields p.file q.file p.line q.line p.column q.column e f g where
  fields : (a b : Option Span) (c d e f : ℕ) → a ≡ b → c ≡ d → e ≡ f → ◌≡◌ {A = Place} (record { file = a; line = c; column = e }) (record { file = b; line = d; column = f })
  fields a b c d e f g h i = cc

pub one_place : (text : List ℕ) (at : ℕ) (p q : Place) → IsPlace text at p → IsPlace text at q → p ≡ q
one_place text at p q first second =
    let line = one_line text at p.file q.file p.line q.line first.line second.line in
    let start = one_start text at first.column.0 second.column.0 first.column.1 second.column.1 in
    same_place p q line.0 line.1 (omega (arith, start, first.column.2, second.column.2))
