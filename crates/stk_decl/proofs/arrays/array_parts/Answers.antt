use Rattle.std.proofs.Common.{suc, length}
use Rattle.stk_ctype.specs.Named.{named}
use Rattle.stk_grammar.proofs.Stopped.{dimensions_stopped}
use Rattle.stk_decl.proofs.arrays.array_parts.Goals as goal

pub returns-clause-value : goal.returns-clause-value
returns-clause-value c =
    rw (dimensions_stopped (named c.args.bytes.now c.args.names.now) c.args.room (suc (length c.args.lexemes.now)) c.args.lexemes.now) c.array_parts.ensures.value
