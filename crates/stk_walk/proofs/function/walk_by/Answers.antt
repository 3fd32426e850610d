use Rattle.std.proofs.Common.{◌≡◌, map, sym, subst}
use Rattle.stk_tree.specs.View.{view_statement}
use Rattle.stk_meaning.specs.Keys.{KeyInfo}
use Rattle.stk_meaning.specs.Paths.{number_under}
use Rattle.stk_kinded.specs.KindedStatements.{KindedStatement}
use Rattle.stk_eval_expr.specs.Loops.{EachLoop}
use Rattle.stk_walking.specs.Keyed.{AreThere}
use Rattle.stk_walk.specs.Walks.{AreParts}
use Rattle.stk_walk.proofs.function.walk_by.Goals as goal

pub walk-requires-clause-loops : goal.walk-requires-clause-loops
walk-requires-clause-loops g c = subst (λ p. EachLoop (g.T.RunSetting.knows p) (view_statement c.args.parts.now.body.now)) (sym c.new-out.ensures) c.requires.loops

pub walk-requires-clause-kinded : goal.walk-requires-clause-kinded
walk-requires-clause-kinded g c = subst (λ p. KindedStatement (g.T.RunSetting.setting p) (view_statement c.args.parts.now.body.now)) (sym c.new-out.ensures) c.requires.kinded

pub walk-requires-clause-keys : goal.walk-requires-clause-keys
walk-requires-clause-keys g c = subst (λ p. AreThere (g.V.Values.has_key c.args.values.now) (map (λ (x : KeyInfo). x.kind) (g.T.TableSetting.keys p))) (sym c.new-out.ensures) c.requires.keys

pub walk-requires-clause-kept : goal.walk-requires-clause-kept
walk-requires-clause-kept g c = subst (λ p. c.args.parts.now.kept.now ≡ (g.T.RunSetting.setting p).kept) (sym c.new-out.ensures) c.requires.kept

pub returns-clause-valid : goal.returns-clause-valid
returns-clause-valid g c = λ ty without f h.
    c.walk.ensures.valid ty without f (subst (λ p. AreParts ty without f (g.T.RunSetting.setting p) (number_under (g.T.TableSetting.keys p)) c.args.parts.now) (sym c.new-out.ensures) h)

pub returns-clause-steps : goal.returns-clause-steps
returns-clause-steps g c = λ ty without f h.
    c.walk.ensures.steps ty without f (subst (λ p. AreParts ty without f (g.T.RunSetting.setting p) (number_under (g.T.TableSetting.keys p)) c.args.parts.now) (sym c.new-out.ensures) h)

pub returns-clause-once : goal.returns-clause-once
returns-clause-once g c = λ ty without f h.
    c.walk.ensures.once ty without f (subst (λ p. AreParts ty without f (g.T.RunSetting.setting p) (number_under (g.T.TableSetting.keys p)) c.args.parts.now) (sym c.new-out.ensures) h)

pub returns-clause-listed : goal.returns-clause-listed
returns-clause-listed g c = λ ty without f h.
    c.walk.ensures.listed ty without f (subst (λ p. AreParts ty without f (g.T.RunSetting.setting p) (number_under (g.T.TableSetting.keys p)) c.args.parts.now) (sym c.new-out.ensures) h)

pub returns-clause-cost : goal.returns-clause-cost
returns-clause-cost g c = λ ty without f h.
    c.walk.ensures.cost ty without f (subst (λ p. AreParts ty without f (g.T.RunSetting.setting p) (number_under (g.T.TableSetting.keys p)) c.args.parts.now) (sym c.new-out.ensures) h)
