use Rattle.std.proofs.Common.{◌≡◌, true, false, sym, ap, ◌∙◌, subst, pos, length}
use Rattle.std.specs.Prelude.{if◌then◌else◌}
use Rattle.stk_ctype.specs.declared.kind.IntKind.{IntKind}
use Rattle.stk_meaning.specs.Paths.{path_world}
use Rattle.stk_meaning.specs.Typings.{number_kind, is_array}
use Rattle.stk_meaning.specs.Worlds.{gives}
use Rattle.stk_meaning.specs.Expressions.{number_in}
use Rattle.stk_operators.specs.Targets.{target_shown}
use Rattle.stk_eval_expr.specs.Parts.{place_end}
use Rattle.stk_walking.proofs.Carried.{keeps_none}
use Rattle.stk_walking.proofs.Walking.{walks_alone, walks_follows, walks_as}
use Rattle.stk_walk_values.proofs.Naming.{array_kind}
use Rattle.stk_walking.proofs.Costing.{costs_within, costs_none}
use Rattle.stk_walk_values.proofs.Spending.{zero_least}
use Rattle.stk_walk_values.proofs.steps.place_number.Goals as goal

pub returns-then-is_array_at-clause-walks : goal.returns-then-is_array_at-clause-walks
returns-then-is_array_at-clause-walks g c = λ a.
    let V = g.V.Values in
    let G = g.O.RunSetting.setting c.args.out.now in
    let t = G.typing.type_at c.args.node in
    let array : is_array t ≡ true = sym c.is_array_at.ensures ∙ c.if-is_array_at.true in
    let kind = sym (array_kind t array) in
    let I = g.O.WalkSetting.under c.args.out.now in
    walks_as (λ m. place_end G (path_world (I m)) c.args.node (target_shown c.args.target) a)
    (walks_alone (λ m. pos a) (subst (λ (k : IntKind). V.made c.args.values.now k c.args.address) kind c.requires.address) c.requires.ready.values_made (keeps_none V.serves V.has_key V.made V.shows c.args.values.now)
    (λ m served h. subst (λ (k : IntKind). V.shows c.args.values.now m k c.args.address (pos a)) kind h))
    (λ m r k. ap (λ b. if b then gives (pos a) r k else number_in (path_world (I m)) (target_shown c.args.target) c.args.node (number_kind t) a r k) (sym array))

pub returns-clause-walks : goal.returns-clause-walks
returns-clause-walks g c = λ a.
    let G = g.O.RunSetting.setting c.args.out.now in
    let t = G.typing.type_at c.args.node in
    let array : is_array t ≡ false = sym c.is_array_at.ensures ∙ c.if-is_array_at.false in
    let I = g.O.WalkSetting.under c.args.out.now in
    walks_as (λ m. place_end G (path_world (I m)) c.args.node (target_shown c.args.target) a)
    (walks_follows (λ m. number_in (path_world (I m)) (target_shown c.args.target) c.args.node (number_kind t) a) c.in_ok-found.ensures.makes c.in_ok-found.ensures.made c.in_ok-found.ensures.events
    (λ m s served h at. c.in_ok-found.ensures.follows a m s served at) c.in_ok-found.ensures.keeps)
    (λ m r k. ap (λ b. if b then gives (pos a) r k else number_in (path_world (I m)) (target_shown c.args.target) c.args.node (number_kind t) a r k) (sym array))

pub returns-then-is_array_at-clause-cost : goal.returns-then-is_array_at-clause-cost
returns-then-is_array_at-clause-cost g c = costs_within _ (zero_least _) costs_none

pub returns-clause-cost : goal.returns-clause-cost
returns-clause-cost g c = c.in_ok-found.ensures.cost (length (g.O.RunSetting.setting c.args.out.now).kept)
