use Rattle.stk_declare.proofs.Closing.{open_sound}
use Rattle.stk_declare.proofs.structs.open_new.Goals as goal

pub returns-clause-sound : goal.returns-clause-sound
returns-clause-sound c = open_sound c.args.names.now c.add_entry.new.names c.args.tag c.structs-id.result c.in_ok-add_entry.ensures.added c.structs-id.ensures
