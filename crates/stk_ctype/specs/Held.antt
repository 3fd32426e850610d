-- The tree of a signature, wherever it is.
use Rattle.stk_ctype.specs.Trees.{SignatureTree}
use Rattle.stk_ctype.specs.declared.shared_signature.Held.{Held}
use Rattle.stk_ctype.specs.declared.shared_signature.Held.TheVariants.{Shared, Lone}

abbrev pub held : Held → SignatureTree
held (Shared f) = f.value
held (Lone f) = f
