-- What is in a type is less deep than the type.
use Rattle.std.specs.Prelude.{◌≤◌, List, [], ◌∷◌, map}
use Rattle.std.proofs.Common.{arith}
use denote.Param.Weighed.{most}
use Rattle.stk_ctype.specs.declared.ctype.CType.{CType}
use Rattle.stk_ctype.specs.declared.ctype.CType.TheVariants as ctype
use Rattle.stk_ctype.specs.declared.owned_signature.OwnedSignature.TheDeep.{deep-CType, deep-OwnedSignature, deep-SharedSignature, deep-SharedType, deep-Held}
use Rattle.stk_ctype.specs.declared.owned_signature.OwnedSignature.TheInside.{Inside}
use Rattle.stk_ctype.specs.declared.shared_type.SharedType.TheInside as shared
use Rattle.stk_ctype.specs.Types.{type_of, signature_of, row_of}
use Rattle.stk_ctype.specs.Depths.{depth, depth_of_signature, depth_of_shared, depth_of_row}
use Rattle.stk_ctype.specs.declared.shared_signature.Held.{Held}
use Rattle.stk_ctype.specs.declared.shared_signature.Held.TheVariants.{Shared, Lone}
use Rattle.stk_ctype.specs.declared.shared_signature.SharedSignature.TheInside as holding
use Rattle.stk_ctype.specs.Held.{held}

pub type_falls : (t : CType) → deep-CType t ≤ depth (type_of t)
type_falls ctype.Void = omega arith
type_falls (ctype.Int kind) = omega arith
type_falls (ctype.Pointer t) = omega arith
type_falls (ctype.Array t n) = omega arith
type_falls (ctype.Struct id) = omega arith
type_falls (ctype.Function f) = omega arith

row_falls : (ts : List CType) → most deep-CType ts ≤ depth_of_row (row_of (map type_of ts))
row_falls [] = omega arith
row_falls (t ∷ ts) = omega (arith, type_falls t, row_falls ts)

pub shared_falls : (s : shared.Inside) → deep-SharedType s ≤ depth (type_of s.ty.value)
shared_falls s = omega (arith, type_falls s.ty.value)

pub owned_falls : (s : Inside) → deep-OwnedSignature s ≤ depth_of_signature (signature_of s.inner.value)
owned_falls s = omega (arith, type_falls s.inner.value.result, row_falls s.inner.value.params)

held_inside_falls : (h : Held) → deep-Held h ≤ depth_of_shared (held h)
held_inside_falls (Shared f) = omega arith
held_inside_falls (Lone f) = omega arith

pub held_falls : (s : holding.Inside) → deep-SharedSignature s ≤ depth_of_shared (held s.inner)
held_falls s = omega (arith, held_inside_falls s.inner)
