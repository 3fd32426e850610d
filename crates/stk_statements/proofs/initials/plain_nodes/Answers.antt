use Rattle.std.proofs.Common.{map, sym, ap, subst}
use Rattle.stk_ctype.specs.Types.{TypeTree}
use Rattle.stk_ctype.specs.Sound.{IsSound}
use Rattle.stk_type_rules.specs.Facts.{Fact, fact_of}
use Rattle.stk_type_rules.proofs.FactsAt.{more_sound}
use Rattle.stk_statements.proofs.Counts.{plain_turn}
use Rattle.stk_statements.proofs.initials.plain_nodes.Goals as goal

pub loop-turn-preserved : goal.loop-turn-preserved
loop-turn-preserved c = record {
  is = plain_turn c.loop-turn.facts.items c.push.new.self.items c.plain.result (map fact_of c.args.facts.now.items) c.loop-turn._turn c.in_ok-push.ensures.items c.plain.ensures c.loop-turn.invariant.is;
  sound = λ structs all. more_sound structs c.loop-turn.facts.items c.push.new.self.items c.plain.result c.in_ok-push.ensures.items (subst (λ (t : TypeTree). IsSound structs t) (sym (ap (λ (x : Fact). x.ty) c.plain.ensures)) tt) (c.loop-turn.invariant.sound structs all);
}
