use Rattle.stk_script_reader.proofs.Meant.{literal_meant, literal_none}
use Rattle.stk_script_reader.proofs.Kept.{keeps_same, stand_kept}
use Rattle.stk_script_reader.proofs.operators.number.Goals as goal

pub returns-then-not-is_number-clause-made : goal.returns-then-not-is_number-clause-made
returns-then-not-is_number-clause-made c = λ names h. literal_none c.args.width c.args.number (λ k. let t = c.is_number.ensures.1 k in absurd (cc (t, c.if-not-is_number.true)))

pub returns-then-not-is_number-clause-keeps : goal.returns-then-not-is_number-clause-keeps
returns-then-not-is_number-clause-keeps c = keeps_same c.args.terms.now

pub leaf-requires-clause-fits : goal.leaf-requires-clause-fits
leaf-requires-clause-fits c = c.is_number.ensures.0 c.if-not-is_number.false

pub returns-clause-made : goal.returns-clause-made
returns-clause-made c = λ names h.
    let s = c.leaf.new.terms in
    let m = c.in_ok-made in
    let k = c.is_number.ensures.0 c.if-not-is_number.false in
    literal_meant s m.ensures.sound names (stand_kept c.args.terms.now s m.ensures.keeps names h) c.args.width c.args.number m.made.0 k.0 k.1 k.2 m.ensures.made
