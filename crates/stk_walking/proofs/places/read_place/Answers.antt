use Rattle.std.proofs.Common.{ℕ, sym, subst}
use Rattle.stk_ctype.specs.declared.kind.IntKind.{IntKind}
use Rattle.stk_meaning.specs.Paths.{path_world}
use Rattle.stk_meaning.specs.Expressions.{number_in}
use Rattle.stk_operators.specs.Targets.{target_shown}
use Rattle.stk_kinded.specs.Kinds.{Suits}
use Rattle.stk_walking.specs.Leads.{Evaluates}
use Rattle.stk_walking.proofs.places.read_place.Goals as goal

pub read_in_kind-requires-clause-suits : goal.read_in_kind-requires-clause-suits
read_in_kind-requires-clause-suits g c = subst (Suits (g.O.RunSetting.setting c.args.out.now) (target_shown c.args.target)) (sym c.kind_at-kind.ensures) c.requires.suits

pub returns-clause-makes : goal.returns-clause-makes
returns-clause-makes g c = subst (λ (k : IntKind). g.V.Values.made c.read_in_kind.new.values k c.in_ok-found.found) c.kind_at-kind.ensures c.in_ok-found.ensures.makes

pub returns-clause-follows : goal.returns-clause-follows
returns-clause-follows g c =
    let G = g.O.RunSetting.setting c.args.out.now in
    let V = g.V.Values.serves in
    let shows = g.V.Values.shows in
    let before = c.args.values.now in
    let now = c.read_in_kind.new.values in
    subst (λ (k : IntKind). (a : ℕ) → Evaluates (V before) (shows before) (shows now) G (λ m x. shows now m k c.in_ok-found.found x) (λ m r kept. number_in (path_world (g.O.WalkSetting.under c.args.out.now m)) (target_shown c.args.target) c.args.node k a r kept) c.args.state.now c.read_in_kind.new.state)
    c.kind_at-kind.ensures c.in_ok-found.ensures.follows

pub returns-clause-cost : goal.returns-clause-cost
returns-clause-cost g c = rw c.kind_at-kind.ensures at c.in_ok-found.ensures.cost
