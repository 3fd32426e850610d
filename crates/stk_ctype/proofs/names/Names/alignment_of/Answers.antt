use Rattle.std.proofs.Common.{◌∙◌, sym}
use Rattle.stk_ctype.specs.Types.{type_of}
use Rattle.stk_ctype.specs.Structs.{structs_of}
use Rattle.stk_ctype.proofs.SizesOfTypes.{alignment_inside, bytes_inside}
use Rattle.stk_ctype.proofs.names.Names.alignment_of.Goals as goal

pub returns-in-Bytes-clause-value : goal.returns-in-Bytes-clause-value
returns-in-Bytes-clause-value c = sym (alignment_inside (structs_of c.args.self.now) (type_of c.args.ty.now) _ (sym c.inmost_of.ensures ∙ c.in-Bytes.is))

pub returns-in-Bytes-clause-least : goal.returns-in-Bytes-clause-least
returns-in-Bytes-clause-least c = (bytes_inside (type_of c.args.ty.now) c.in-Bytes.bytes (sym c.inmost_of.ensures ∙ c.in-Bytes.is)).0

pub returns-in-Bytes-clause-greatest : goal.returns-in-Bytes-clause-greatest
returns-in-Bytes-clause-greatest c = (bytes_inside (type_of c.args.ty.now) c.in-Bytes.bytes (sym c.inmost_of.ensures ∙ c.in-Bytes.is)).1

pub returns-in-Struct-clause-value : goal.returns-in-Struct-clause-value
returns-in-Struct-clause-value c = c.struct_alignment.ensures.value ∙ sym (alignment_inside (structs_of c.args.self.now) (type_of c.args.ty.now) _ (sym c.inmost_of.ensures ∙ c.in-Struct.is))

pub returns-in-Nothing-clause-value : goal.returns-in-Nothing-clause-value
returns-in-Nothing-clause-value c = sym (alignment_inside (structs_of c.args.self.now) (type_of c.args.ty.now) _ (sym c.inmost_of.ensures ∙ c.in-Nothing.is))
