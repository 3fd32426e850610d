-- An input is cut behind its first line `end`, in one way.
use Rattle.std.proofs.Common.{◌≡◌, ◌≢◌, ℕ, ◌-◌, List, [], ◌∷◌, ◌++◌, length, length-append, take, drop, append_assoc, refl, sym, ap, subst, ◌∙◌, arith}
use Rattle.std.specs.Prelude.{codes}
use Rattle.std.proofs.lemmas.List.{append-nil}
use Rattle.std.proofs.Math.Seq.{take-append_seam, drop-append_seam}
use Rattle.stk_line_reading.specs.Lines.{IsFirst}
use Rattle.stk_line_reading.proofs.FirstLines.{one_first}
use Rattle.stk_audit_main.specs.Parts.{IsSplit, ends, goes_on, all_of_it}

-- lines that aren't `end` were passed: whatever cuts the rest cuts the whole
pub record HasPassed (text rest : List ℕ) : Type 0 where
  pub front : List ℕ
  pub whole : text ≡ front ++ rest
  pub completes : (bundle source : List ℕ) → IsSplit rest bundle source → IsSplit text (front ++ bundle) source

pub none_passed : (text : List ℕ) → HasPassed text text
none_passed text = record { front = []; whole = refl; completes = λ bundle source h. h }

longer : (front line bundle : List ℕ) → (front ++ (line ++ 10 ∷ bundle)) ≡ (front ++ (line ++ 10 ∷ [])) ++ bundle
longer front line bundle = ap (λ x. front ++ x) (sym (append_assoc line (10 ∷ []) bundle)) ∙ sym (append_assoc front (line ++ 10 ∷ []) bundle)

pub one_passed : (text rest line behind : List ℕ) → HasPassed text rest → IsFirst rest line behind → line ≢ codes "end" → HasPassed text behind
one_passed text rest line behind p first other = record {
  front = p.front ++ (line ++ 10 ∷ []);
  whole = p.whole ∙ ap (λ x. p.front ++ x) first.whole ∙ longer p.front line behind;
  completes = λ bundle source h. subst (λ (x : List ℕ). IsSplit text x source) (longer p.front line bundle) (p.completes (line ++ 10 ∷ bundle) source (goes_on first other h));
}

-- two parts of a text, the second of which is known
parts_are : (text front rest x y : List ℕ) → text ≡ front ++ rest → x ≡ take (length text - length rest) text → y ≡ drop (length text - length rest) text → (x ≡ front) × (y ≡ rest)
parts_are text front rest x y e p q =
    let size : length text - length rest ≡ length front = omega (arith, ap length e, length-append front rest) in (
      p ∙ ap (λ n. take n text) size ∙ ap (take (length front)) e ∙ take-append_seam front rest,
      q ∙ ap (λ n. drop n text) size ∙ ap (drop (length front)) e ∙ drop-append_seam front rest,
    )

pub ended : (text rest behind x y : List ℕ) → HasPassed text rest → IsFirst rest (codes "end") behind → x ≡ take (length text - length behind) text → y ≡ drop (length text - length behind) text → IsSplit text x y
ended text rest behind x y p first e f =
    let parts = parts_are text (p.front ++ (codes "end" ++ 10 ∷ [])) behind x y (p.whole ∙ ap (λ z. p.front ++ z) first.whole ∙ longer p.front (codes "end") behind) e f in
    subst (λ (a : List ℕ). IsSplit text a y) (sym parts.0) (subst (λ (b : List ℕ). IsSplit text (p.front ++ (codes "end" ++ 10 ∷ [])) b) (sym parts.1) (p.completes (codes "end" ++ 10 ∷ []) behind (ends first)))

pub none_ends : (text rest x y : List ℕ) → HasPassed text rest → ((line behind : List ℕ) → IsFirst rest line behind → ⊥) → x ≡ take (length text) text → y ≡ drop (length text) text → IsSplit text x y
none_ends text rest x y p none e f =
    let parts = parts_are text text [] x y (sym (append-nil text)) (e ∙ ap (λ n. take n text) (omega arith)) (f ∙ ap (λ n. drop n text) (omega arith)) in
    subst (λ (a : List ℕ). IsSplit text a y) (sym (parts.0 ∙ p.whole)) (subst (λ (b : List ℕ). IsSplit text (p.front ++ rest) b) (sym parts.1) (p.completes rest [] (all_of_it none)))

-- ---- one way

pub one_split : (text bundle source other also : List ℕ) → IsSplit text bundle source → IsSplit text other also → (bundle ≡ other) × (source ≡ also)
one_split text b s o a (ends h) (ends k) = (refl, (one_first text (codes "end") s (codes "end") a h k).1)
one_split text b s o a (ends h) (goes_on {line = line} {rest = rest} k apart l) = absurd (apart (sym (one_first text (codes "end") s line rest h k).0))
one_split text b s o a (ends h) (all_of_it none) = absurd (none (codes "end") s h)
one_split text b s o a (goes_on {line = line} {rest = rest} h apart l) (ends k) = absurd (apart (one_first text line rest (codes "end") a h k).0)
one_split text b s o a (goes_on {line = line} {rest = rest} {bundle = bundle} h apart l) (goes_on {line = other} {rest = others} {bundle = more} k apart' m) =
    let same = one_first text line rest other others h k in
    let rest_is = one_split others bundle s more a (subst (λ (x : List ℕ). IsSplit x bundle s) same.1 l) m in
    (ap (λ (x : List ℕ). x ++ 10 ∷ bundle) same.0 ∙ ap (λ (x : List ℕ). other ++ 10 ∷ x) rest_is.0, rest_is.1)
one_split text b s o a (goes_on {line = line} {rest = rest} h apart l) (all_of_it none) = absurd (none line rest h)
one_split text b s o a (all_of_it none) (ends k) = absurd (none (codes "end") a k)
one_split text b s o a (all_of_it none) (goes_on {line = line} {rest = rest} k apart m) = absurd (none line rest k)
one_split text b s o a (all_of_it none) (all_of_it none') = (refl, refl)
