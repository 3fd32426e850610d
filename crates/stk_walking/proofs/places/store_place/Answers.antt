use Rattle.std.proofs.Common.{◌≡◌, ℤ, ℕ, List, sym, subst}
use Rattle.stk_ctype.specs.declared.kind.IntKind.{IntKind}
use Rattle.stk_meaning.specs.Paths.{InputMap, path_world}
use Rattle.stk_meaning.specs.Expressions.{stored_at}
use Rattle.stk_operators.specs.Targets.{target_shown}
use Rattle.stk_kinded.specs.Kinds.{Suits}
use Rattle.stk_guarded.specs.Standing.{Standing}
use Rattle.stk_walking.specs.Stands.{Stands}
use Rattle.stk_walking.specs.Leads.{Leads}
use Rattle.stk_walking.proofs.places.store_place.Goals as goal

pub store_in_kind-requires-clause-suits : goal.store_in_kind-requires-clause-suits
store_in_kind-requires-clause-suits g c = subst (Suits (g.O.RunSetting.setting c.args.out.now) (target_shown c.args.target)) (sym c.kind_at-kind.ensures) c.requires.suits

pub store_in_kind-requires-clause-value : goal.store_in_kind-requires-clause-value
store_in_kind-requires-clause-value g c = subst (λ (k : IntKind). g.V.Values.made c.args.values.now k c.args.value) (sym c.kind_at-kind.ensures) c.requires.value

pub returns-clause-stored : goal.returns-clause-stored
returns-clause-stored g c =
    let G = g.O.RunSetting.setting c.args.out.now in
    let shows = g.V.Values.shows in
    let before = c.args.values.now in
    let now = c.store_in_kind.new.values in
    subst (λ (k : IntKind). (m : List ℤ) (s : Standing) (inputs : InputMap) (a : ℕ) (x y : ℤ) → g.V.Values.serves before m → shows before m k c.args.value x → Stands (shows before m) G c.args.state.now s →
    Leads (shows now m) G (λ z. z ≡ y) (stored_at (path_world inputs) (target_shown c.args.target) k a x y s.numbers s.kept) s c.store_in_kind.new.state)
    c.kind_at-kind.ensures c.in_ok-store_in_kind.ensures.stored

pub returns-clause-cost : goal.returns-clause-cost
returns-clause-cost g c = rw c.kind_at-kind.ensures at c.in_ok-store_in_kind.ensures.cost
