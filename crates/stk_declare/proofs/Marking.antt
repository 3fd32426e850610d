-- The signature of a function with another mark.
use Rattle.std.proofs.Common.{◌≡◌, ◌∙◌, Bool, List, [], ◌∷◌, map, refl, sym, ap}
use Rattle.stk_ctype.specs.declared.ctype.CType.{CType}
use Rattle.stk_ctype.specs.declared.ctype.Signature.{Signature}
use Rattle.stk_ctype.specs.Structs.{Structs}
use Rattle.stk_ctype.specs.Sound.{IsSoundSignature}
use Rattle.stk_ctype.specs.Types.{SignatureTree, signature, TypeTrees, no_types, then_type, row_of, type_of, signature_of}
use Rattle.stk_compatible.specs.Making.{made, made_signature, made_row}
use Rattle.stk_compatible.proofs.Made.{made_type, shown}
use Rattle.stk_declare.specs.Symbols.{marked}

rows_made : (ts : List CType) → made_row (row_of (map type_of ts)) ≡ ts
rows_made [] = refl
rows_made (t ∷ ts) = ap (λ x. x ∷ made_row (row_of (map type_of ts))) (made_type t) ∙ ap (λ xs. t ∷ xs) (rows_made ts)

pub marked_is : (f g : Signature) (mark : Bool) (r : CType) (ps : List CType) → r ≡ f.result → ps ≡ f.params → g ≡ record { result = r; params = ps; more = f.more; no_return = mark } → g ≡ made_signature (marked mark (signature_of f))
marked_is f g mark r ps e h is =
    let with_result : CType → Signature = λ x. record { result = x; params = ps; more = f.more; no_return = mark } in
    let with_params : List CType → Signature = λ xs. record { result = made (type_of f.result); params = xs; more = f.more; no_return = mark } in
    is ∙ ap with_result (e ∙ sym (made_type f.result)) ∙ ap with_params (h ∙ sym (rows_made f.params))

-- a mark changes no type
pub marked_sound : (structs : Structs) (mark : Bool) (t : SignatureTree) → IsSoundSignature structs t → IsSoundSignature structs (marked mark t)
marked_sound structs mark (signature r ps more x) so = so

row_shown : (ts : TypeTrees) → row_of (map type_of (made_row ts)) ≡ ts
row_shown no_types = refl
row_shown (then_type t ts) = ap (λ x. then_type x (row_of (map type_of (made_row ts)))) (shown t) ∙ ap (then_type t) (row_shown ts)

signature_shown : (f : SignatureTree) → signature_of (made_signature f) ≡ f
signature_shown (signature r ps more x) = ap (λ t. signature t (row_of (map type_of (made_row ps))) more x) (shown r) ∙ ap (λ ts. signature r ts more x) (row_shown ps)

-- the signature of a function that is marked as it was
pub as_before : (f g : Signature) → g ≡ made_signature (marked f.no_return (signature_of f)) → signature_of g ≡ signature_of f
as_before f g is = ap signature_of is ∙ signature_shown (signature_of f)
