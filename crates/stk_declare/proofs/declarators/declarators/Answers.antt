use Rattle.std.proofs.Common.{◌+◌, drop, map}
use Rattle.stk_ctype.specs.Types.{type_of}
use Rattle.stk_tree.specs.View.{declarators, view_declarator}
use Rattle.stk_typing.proofs.Turns.{next_of}
use Rattle.stk_declare.proofs.Extending.{extends_twice, sound_kept}
use Rattle.stk_declare.proofs.Rows.{declarators_turn}
use Rattle.stk_declare.proofs.declarators.declarators.Goals as goal

pub loop-d-preserved : goal.loop-d-preserved
loop-d-preserved c =
    let step = next_of c.args.list.now c.loop-d.d-index c.d-item.result c.loop-d-test.true c.d-item.is in
    let grown = extends_twice c.loop-d.names c.use_declarator.new.names c.declarator.new.names c.in_ok-use_declarator.ensures.extends c.in_ok-declarator.ensures.extends in
    record {
      sound = sound_kept c.loop-d.names c.declarator.new.names (type_of c.args.ty.now) grown c.loop-d.invariant.sound;
      extends = extends_twice c.args.names.now c.loop-d.names c.declarator.new.names c.loop-d.invariant.extends grown;
      rest = λ result now h.
          c.loop-d.invariant.rest result now
          (rw step (declarators_turn c.args.s.now.bytes.now c.args.s.now.mark c.args.s.now.word c.loop-d.names c.use_declarator.new.names c.declarator.new.names now (type_of c.args.ty.now) (view_declarator c.d-item.result)
          (declarators (map view_declarator (drop (c.loop-d.d-index + 1) c.args.list.now))) tt result c.in_ok-use_declarator.ensures.is c.in_ok-declarator.ensures.gives h));
    }
