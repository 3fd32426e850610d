-- The text of a line has no newline.
use Rattle.std.proofs.Common.{◌≡◌, ℕ, Bool, true, ◌&&◌, List, [], ◌∷◌, ◌++◌, refl, ap, ◌∙◌, decimal, arith}
use Rattle.std.specs.List.{list_all, AllByRecursion}
use Rattle.std.proofs.lemmas.List.Folds.{list_all-append}
use Rattle.stk_numbers.specs.declared.conditions.UbKind.{UbKind}
use Rattle.stk_numbers.specs.declared.conditions.UbKind.TheVariants as ub
use Rattle.stk_bundle.specs.declared.line.BundleLine.{BundleLine}
use Rattle.stk_bundle.specs.declared.line.BundleLine.TheVariants as line
use Rattle.stk_line_reading.specs.Cuts.{is_other}
use Rattle.stk_line_reading.specs.Numbers.{IsNumber}
use Rattle.stk_bundle.specs.Numbers.{numbers_text}
use Rattle.stk_records.specs.Kinds.{kind_name}
use Rattle.stk_bundle.specs.Kinds.{more_kinds, kinds_text}
use Rattle.stk_bundle.specs.Lines.{line_text, FitsLine}
use Rattle.stk_line_reading.proofs.Texts.{other_number}

both_true : (a b : Bool) → a ≡ true → b ≡ true → a && b ≡ true
both_true a b p q = ap (λ x. x && b) p ∙ q

joined : (xs ys : List ℕ) → list_all (is_other 10) xs ≡ true → list_all (is_other 10) ys ≡ true → list_all (is_other 10) (xs ++ ys) ≡ true
joined xs ys a b = list_all-append (is_other 10) xs ys ∙ both_true (list_all (is_other 10) xs) (list_all (is_other 10) ys) a b

in_numbers : (ns : List ℕ) → AllByRecursion IsNumber ns → list_all (is_other 10) (numbers_text ns) ≡ true
in_numbers [] h = refl
in_numbers (n ∷ ns) h = joined (decimal n) (numbers_text ns) (other_number 10 n (omega arith) h.0) (in_numbers ns h.1)

in_name : (k : UbKind) → list_all (is_other 10) (kind_name k) ≡ true
in_name ub.Overflow = refl
in_name ub.Zero = refl
in_name ub.Shift = refl
in_name ub.Null = refl
in_name ub.Pointer = refl
in_name ub.Bounds = refl
in_name ub.AbsValue = refl
in_name ub.Overlap = refl

in_more : (ks : List UbKind) → list_all (is_other 10) (more_kinds ks) ≡ true
in_more [] = refl
in_more (k ∷ ks) = joined (kind_name k) (more_kinds ks) (in_name k) (in_more ks)

in_kinds : (ks : List UbKind) → list_all (is_other 10) (kinds_text ks) ≡ true
in_kinds [] = refl
in_kinds (k ∷ ks) = joined (kind_name k) (more_kinds ks) (in_name k) (in_more ks)

pub no_newline_in : (l : BundleLine) → FitsLine l → list_all (is_other 10) (line_text l) ≡ true
no_newline_in line.Head h = refl
no_newline_in (line.Source n) h = in_numbers (n ∷ []) (h, tt)
no_newline_in (line.Without ks) h = in_kinds ks
no_newline_in (line.Function n) h = in_numbers (n ∷ []) (h, tt)
no_newline_in (line.Unstable n k) h = in_numbers (n ∷ k ∷ []) (h.0, (h.1, tt))
no_newline_in (line.Hit ns) h = in_numbers ns h
no_newline_in (line.Need n k ns) h = in_numbers (n ∷ k ∷ ns) (h.0, (h.1, h.2))
no_newline_in (line.Open n k) h = in_numbers (n ∷ k ∷ []) (h.0, (h.1, tt))
no_newline_in line.Tried h = refl
no_newline_in (line.Clauses n) h = in_numbers (n ∷ []) (h, tt)
no_newline_in (line.Steps n) h = in_numbers (n ∷ []) (h, tt)
no_newline_in (line.Left n k) h = in_numbers (n ∷ k ∷ []) (h.0, (h.1, tt))
no_newline_in line.End h = refl
