-- Trees of types as trees of numbers, from which they are got back: so values that are seen as types are told apart by
-- them.
use Rattle.std.specs.Prelude.{◌≡◌, ℕ, suc, zero, Bool, true, false, [], ◌∷◌, Option, Some, None, slice_index_or}
use Rattle.std.proofs.Common.{refl, sym, ap, ◌∙◌}
use base.Stored.{Gv, gnil, gnum, gcons, Coded}
use Rattle.stk_ctype.specs.declared.kind.IntKind.{IntKind}
use Rattle.stk_ctype.specs.declared.kind.IntKind.TheVariants as kind
use Rattle.stk_ctype.specs.Trees.{TypeTree, void_type, integer_type, pointer_type, array_type, struct_type, function_type, SignatureTree, signature, TypeTrees, no_types, then_type}

-- ---- kinds, counts and truths
abbrev number_of : IntKind → ℕ
number_of kind.Bool = 0
number_of kind.Char = 1
number_of kind.SChar = 2
number_of kind.UChar = 3
number_of kind.Short = 4
number_of kind.UShort = 5
number_of kind.Int = 6
number_of kind.UInt = 7
number_of kind.Long = 8
number_of kind.ULong = 9
number_of kind.LLong = 10
number_of kind.ULLong = 11

abbrev kind_of : ℕ → IntKind
kind_of n = slice_index_or (kind.Bool ∷ kind.Char ∷ kind.SChar ∷ kind.UChar ∷ kind.Short ∷ kind.UShort ∷ kind.Int ∷ kind.UInt ∷ kind.Long ∷ kind.ULong ∷ kind.LLong ∷ kind.ULLong ∷ []) n kind.Bool

kind_back : (k : IntKind) → kind_of (number_of k) ≡ k
kind_back kind.Bool = refl
kind_back kind.Char = refl
kind_back kind.SChar = refl
kind_back kind.UChar = refl
kind_back kind.Short = refl
kind_back kind.UShort = refl
kind_back kind.Int = refl
kind_back kind.UInt = refl
kind_back kind.Long = refl
kind_back kind.ULong = refl
kind_back kind.LLong = refl
kind_back kind.ULLong = refl

abbrev count_code : Option ℕ → ℕ
count_code None = 0
count_code (Some n) = suc n

abbrev count_of : ℕ → Option ℕ
count_of zero = None
count_of (suc n) = Some n

count_back : (n : Option ℕ) → count_of (count_code n) ≡ n
count_back None = refl
count_back (Some n) = refl

abbrev truth_code : Bool → ℕ
truth_code false = 0
truth_code true = 1

abbrev truth_of : ℕ → Bool
truth_of zero = false
truth_of (suc n) = true

truth_back : (b : Bool) → truth_of (truth_code b) ≡ b
truth_back false = refl
truth_back true = refl

-- ---- types
abbrev mutual
  pub code_type : TypeTree → Gv
  code_type void_type = gnil
  code_type (struct_type id) = gnum id
  code_type (pointer_type t) = gcons gnil (code_type t)
  code_type (array_type t n) = gcons (gnum (count_code n)) (code_type t)
  code_type (integer_type k) = gcons (gcons gnil (gnum (number_of k))) gnil
  code_type (function_type f) = gcons (gcons gnil gnil) (code_signature f)

  pub code_signature : SignatureTree → Gv
  code_signature (signature r ps more no_return) = gcons (gcons (gnum (truth_code more)) (gnum (truth_code no_return))) (gcons (code_type r) (code_row ps))

  code_row : TypeTrees → Gv
  code_row no_types = gnil
  code_row (then_type t ts) = gcons (code_type t) (code_row ts)

abbrev mutual
  pub back_type : Gv → TypeTree
  back_type gnil = void_type
  back_type (gnum id) = struct_type id
  back_type (gcons gnil t) = pointer_type (back_type t)
  back_type (gcons (gnum n) t) = array_type (back_type t) (count_of n)
  back_type (gcons (gcons x gnil) f) = function_type (back_signature f)
  back_type (gcons (gcons x (gnum k)) f) = integer_type (kind_of k)
  back_type (gcons (gcons x (gcons y z)) f) = void_type

  pub back_signature : Gv → SignatureTree
  back_signature gnil = signature void_type no_types false false
  back_signature (gnum n) = signature void_type no_types false false
  back_signature (gcons marks gnil) = signature void_type no_types false false
  back_signature (gcons marks (gnum n)) = signature void_type no_types false false
  back_signature (gcons gnil (gcons r ps)) = signature void_type no_types false false
  back_signature (gcons (gnum n) (gcons r ps)) = signature void_type no_types false false
  back_signature (gcons (gcons more no_return) (gcons r ps)) = signature (back_type r) (back_row ps) (truth_in more) (truth_in no_return)

  truth_in : Gv → Bool
  truth_in gnil = false
  truth_in (gnum n) = truth_of n
  truth_in (gcons x y) = false

  back_row : Gv → TypeTrees
  back_row gnil = no_types
  back_row (gnum n) = no_types
  back_row (gcons t ts) = then_type (back_type t) (back_row ts)

mutual
  pub type_back : (t : TypeTree) → back_type (code_type t) ≡ t
  type_back void_type = refl
  type_back (struct_type id) = refl
  type_back (pointer_type t) = ap pointer_type (type_back t)
  type_back (array_type t n) = ap (λ u. array_type u (count_of (count_code n))) (type_back t) ∙ ap (array_type t) (count_back n)
  type_back (integer_type k) = ap integer_type (kind_back k)
  type_back (function_type f) = ap function_type (signature_back f)

  pub signature_back : (f : SignatureTree) → back_signature (code_signature f) ≡ f
  signature_back (signature r ps more no_return) =
      ap (λ t. signature t (back_row (code_row ps)) (truth_of (truth_code more)) (truth_of (truth_code no_return))) (type_back r)
      ∙ ap (λ ts. signature r ts (truth_of (truth_code more)) (truth_of (truth_code no_return))) (row_back ps)
      ∙ ap (λ b. signature r ps b (truth_of (truth_code no_return))) (truth_back more)
      ∙ ap (signature r ps more) (truth_back no_return)

  row_back : (ts : TypeTrees) → back_row (code_row ts) ≡ ts
  row_back no_types = refl
  row_back (then_type t ts) = ap (λ u. then_type u (back_row (code_row ts))) (type_back t) ∙ ap (then_type t) (row_back ts)

abbrev pub type_coded : Coded TypeTree
type_coded = record { code = code_type; inj = λ t u same. sym (type_back t) ∙ ap back_type same ∙ type_back u }

abbrev pub signature_coded : Coded SignatureTree
signature_coded = record { code = code_signature; inj = λ f g same. sym (signature_back f) ∙ ap back_signature same ∙ signature_back g }
