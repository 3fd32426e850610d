-- The loop that drops a type comes nearer to its end.
use Rattle.std.proofs.Common.{◌≡◌, ◌<◌, ◌≤◌, ◌+◌, Option, None, MatchOption, arith, List, [], ◌∷◌, ◌++◌, ap, sym, subst, ◌∙◌}
use Rattle.std.proofs.Common.{Some}
use Rattle.stk_ctype.specs.declared.ctype.CType.{CType}
use Rattle.stk_ctype.specs.declared.ctype.CType.TheVariants as ctype
use Rattle.stk_ctype.specs.declared.ctype.Signature.{Signature}
use Rattle.stk_ctype.specs.declared.ctype.Opened.{Opened}
use Rattle.stk_ctype.specs.declared.ctype.Opened.TheVariants as opened
use Rattle.stk_ctype.specs.Types.{SignatureTree, signature, type_of, signature_of}
use Rattle.stk_ctype.specs.Turns.{turns, turns_of_types, turns_outside, turns_of_signature, turns_outside_signature, IsOpened}

pub turns_append : (ts : List CType) (t : CType) → turns_of_types (ts ++ t ∷ []) ≡ turns_of_types ts + turns (type_of t)
turns_append [] t = omega arith
turns_append (x ∷ ts) t = omega (arith, turns_append ts t)

pub left_empty : (row rest : List CType) (last : Option CType) → last ≡ None → MatchOption last ((row ≡ []) × (rest ≡ [])) (λ x. row ≡ rest ++ x ∷ []) → rest ≡ []
left_empty row rest last none split = (subst (λ l. MatchOption l ((row ≡ []) × (rest ≡ [])) (λ x. row ≡ rest ++ x ∷ [])) none split).1

-- down to what is in a type
pub less_inner : (at inner : CType) (row : List CType) (outer : CType) (o : Opened) → o ≡ opened.Inner inner → IsOpened at o
    → turns (type_of inner) + turns_of_types row + turns_outside (type_of outer) < turns (type_of at) + turns_of_types row + turns_outside (type_of outer)
less_inner at inner row outer o is so = let here = subst (IsOpened at) is so in omega (arith, here.0)

-- on to the last of the row
pub less_popped : (at next : CType) (row rest : List CType) (outer : CType) (o : Opened) → o ≡ opened.Nothing → IsOpened at o
    → (last : Option CType) → last ≡ Some next → MatchOption last ((row ≡ []) × (rest ≡ [])) (λ x. row ≡ rest ++ x ∷ [])
    → turns (type_of next) + turns_of_types rest + turns_outside (type_of outer) < turns (type_of at) + turns_of_types row + turns_outside (type_of outer)
less_popped at next row rest outer o is so last some split =
    let here = subst (IsOpened at) is so in
    let whole = subst (λ l. MatchOption l ((row ≡ []) × (rest ≡ [])) (λ x. row ≡ rest ++ x ∷ [])) some split in
    omega (arith, here, ap turns_of_types whole ∙ turns_append rest next)

-- out to what waits outside
pub less_taken : (at inner : CType) (row rest : List CType) (outer : CType) (o p : Opened) → o ≡ opened.Nothing → IsOpened at o → p ≡ opened.Inner inner → IsOpened outer p → rest ≡ []
    → turns (type_of inner) + turns_of_types rest + turns_outside (type_of ctype.Void) < turns (type_of at) + turns_of_types row + turns_outside (type_of outer)
less_taken at inner row rest outer o p is so at_outer outside none =
    let here = subst (IsOpened at) is so in
    let there = subst (IsOpened outer) at_outer outside in
    omega (arith, here, there.1, ap turns_of_types none)

-- out of a function
pub less_back : (at : CType) (row : List CType) (outer : CType) (o p : Opened) (f : Signature) (inner : SignatureTree) → o ≡ opened.Nothing → IsOpened at o → p ≡ opened.Function inner → IsOpened outer p
    → signature_of f ≡ inner → turns (type_of ctype.Void) + turns_of_types f.params + turns_outside (type_of f.result) < turns (type_of at) + turns_of_types row + turns_outside (type_of outer)
less_back at row outer o p f inner is so out called same =
    let here = subst (IsOpened at) is so in
    let there = subst (IsOpened outer) out called in
    omega (arith, here, ap turns_outside there, ap turns_outside_signature same)

-- into a function
pub less_into : (at r : CType) (ps row : List CType) (outer : CType) (o : Opened) (old new : SignatureTree) → o ≡ opened.Function old → IsOpened at o
    → turns_of_signature old ≡ turns (type_of r) + turns_of_types ps + 2 → turns_outside_signature new ≡ turns_outside (type_of outer) + turns_of_types row + 1
    → turns (type_of r) + turns_of_types ps + turns_outside (type_of (ctype.Function new)) < turns (type_of at) + turns_of_types row + turns_outside (type_of outer)
less_into at r ps row outer o old new is so inside outside =
    let here = subst (IsOpened at) is so in
    omega (arith, ap turns here, inside, outside)

-- a function takes some turns, whatever is in it
signature_some : (f : SignatureTree) → 1 ≤ turns_of_signature f
signature_some (signature r ps more no_return) = omega arith

pub function_some : (t : CType) (f : SignatureTree) → t ≡ ctype.Function f → 1 ≤ turns (type_of t)
function_some t f is = subst (λ n. 1 ≤ n) (sym (ap (λ x. turns (type_of x)) is)) (signature_some f)
