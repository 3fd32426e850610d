use Rattle.std.proofs.Common.{◌≡◌, Result, Err, subst, rules}
use Rattle.std.specs.Option.{option_map, option_copied}
use Rattle.stk_ctype.specs.Structs.{structs_of}
use Rattle.stk_tree.specs.View.{view_initialiser, maybe_initialiser}
use Rattle.stk_type_rules.specs.declared.facts.NodeFact.{NodeFact}
use Rattle.stk_type_rules.specs.declared.untyped.Broken.{Broken}
use Rattle.stk_type_rules.specs.declared.untyped.Broken.TheVariants.{NoMemory}
use Rattle.stk_type_rules.specs.Outcome.{MakesFact}
use Rattle.stk_declare.specs.Symbols.{made_rule}
use Rattle.stk_declare.proofs.Rules.{free_as, made_err}
use Rattle.stk_declare.proofs.symbols.made_rule.Goals as goal

pub returns-in_err-agreement-in-Ok-clause-fact : goal.returns-in_err-agreement-in-Ok-clause-fact
returns-in_err-agreement-in-Ok-clause-fact c = λ r h.
    let same : c.from_residual.result ≡ Err NoMemory = search rules in
    free_as c.from_residual.result same (made_rule (structs_of c.args.names.now) c.args.word c.args.what (option_copied c.args.earlier) (maybe_initialiser (option_map view_initialiser c.args.i.now)) r)

pub returns-in-Err-clause-fact : goal.returns-in-Err-clause-fact
returns-in-Err-clause-fact c = λ r h. made_err _ c.args.word c.args.what _ _ r c.in-Err.broken (subst (λ (x : Result NodeFact Broken). MakesFact r x) c.in-Err.is h)
