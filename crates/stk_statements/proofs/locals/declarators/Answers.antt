use Rattle.std.proofs.Common.{◌+◌, map, drop}
use Rattle.stk_ctype.specs.Types.{type_of}
use Rattle.stk_tree.specs.View.{declarators, view_declarator}
use Rattle.stk_type_rules.specs.Facts.{fact_of}
use Rattle.stk_typing.specs.Locals.{local_of}
use Rattle.stk_typing.proofs.Turns.{next_of}
use Rattle.stk_statements.specs.Places.{body_in}
use Rattle.stk_statements.proofs.Counts.{begins_then}
use Rattle.stk_statements.proofs.Turns.{declarators_turn, more_body}
use Rattle.stk_statements.proofs.locals.declarators.Goals as goal

pub loop-d-preserved : goal.loop-d-preserved
loop-d-preserved c =
    let step = next_of c.args.list.now c.loop-d.d-index c.d-item.result c.loop-d-test.true c.d-item.is in
    let p = c.args.p.now in
    let next = c.declarator.new.locals in
    record {
      locals = c.in_ok-declarator.ensures.locals;
      sound = c.in_ok-declarator.ensures.sound;
      begins = begins_then c.args.locals.now c.loop-d.locals next c.loop-d.invariant.begins c.in_ok-declarator.ensures.begins;
      rest = λ result new now h.
          c.loop-d.invariant.rest result new now
          (rw step (declarators_turn (body_in p c.loop-d.locals) (body_in p next) c.args.is_static (type_of c.args.ty.now) (view_declarator c.d-item.result) (declarators (map view_declarator (drop (c.loop-d.d-index + 1) c.args.list.now))) (map local_of c.loop-d.locals) (map local_of next) now c.in_ok-declarator.field-0 result (map fact_of c.loop-d.facts.items) (map fact_of c.declarator.new.facts.items) new c.in_ok-declarator.ensures.gives (λ l is. more_body p c.loop-d.locals next l is) h));
    }
