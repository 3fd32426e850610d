use Rattle.std.proofs.Common.{◌<◌, map, length, sym, subst, arith}
use Rattle.std.proofs.lemmas.List.{length-map}
use Rattle.stk_ctype.specs.declared.ctype.CType.{CType}
use Rattle.stk_ctype.specs.Types.{type_of}
use Rattle.stk_ctype.specs.Structs.{structs_of}
use Rattle.stk_ctype.specs.Sound.{IsSound}
use Rattle.stk_type_rules.specs.Facts.{fact_of}
use Rattle.stk_statements.proofs.Turns.{local_added, own_below}
use Rattle.stk_statements.proofs.locals.put.Goals as goal

pub fact-requires : goal.fact-requires
fact-requires c =
    let h : c.in_ok-at.at < length (map fact_of c.own.new.facts.items) = own_below c.args.made c.args.node c.in_ok-at.at (map fact_of c.args.facts.now.items) (map fact_of c.own.new.facts.items) c.in_ok-at.ensures.gives in
    omega (arith, h, length-map c.own.new.facts.items fact_of, c.own.new.facts.ok.0)

pub returns-clause-locals : goal.returns-clause-locals
returns-clause-locals c =
    let structs = structs_of c.args.p.now.file.names.now in
    let so = subst (λ (t : CType). IsSound structs (type_of t)) (sym c.in_ok-ty.ensures) (c.fact.ensures.sound structs (c.in_ok-at.ensures.sound structs c.requires.made c.requires.sound)) in
    local_added structs c.args.locals.now c.push.new.self _ c.in_ok-push.ensures.added so c.requires.locals
