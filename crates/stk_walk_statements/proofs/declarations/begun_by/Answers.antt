use Rattle.std.proofs.Common.{[], ◌∷◌, Bool, ◌∙◌, subst, sym, length}
use Rattle.std.specs.Prelude.{if◌then◌else◌}
use Rattle.stk_tree.specs.View.{view_expression}
use Rattle.stk_type_rules.specs.Types.{is_scalar}
use Rattle.stk_meaning.specs.Worlds.{Normal, written}
use Rattle.stk_meaning.specs.Paths.{path_world, all_forgotten}
use Rattle.stk_meaning.specs.Expressions.{value_of}
use Rattle.stk_meaning.specs.Declarations.{begun_with}
use Rattle.stk_guarded.specs.Standing.{moved_to}
use Rattle.stk_guarded.specs.Statements.{Declares}
use Rattle.stk_guarded.proofs.Statements.{declares_then, goes_declares}
use Rattle.stk_walking.proofs.Carried.{keeps_then}
use Rattle.stk_walk_statements.proofs.Declaring.{kept_declares}
use Rattle.stk_walking.proofs.Costing.{costs_then}
use Rattle.stk_walk_statements.proofs.declarations.begun_by.Goals as goal

pub returns-in_ok-begun_with-clause-walked : goal.returns-in_ok-begun_with-clause-walked
returns-in_ok-begun_with-clause-walked g c =
    let V = g.V.Values in
    let G = g.O.RunSetting.setting c.args.out.now in
    let e = view_expression c.args.e.now in
    let t = G.typing.type_at c.args.k in
    let x = c.in_ok-number.ensures in
    let y = c.in_ok-begun_with.ensures in
    record {
      made = y.made;
      events = y.events ∙ x.events;
      follows = λ m s served at.
          let W = path_world (g.O.WalkSetting.under c.args.out.now m) in
          let x1 = x.follows m s served at in
          let y1 = y.follows m x1.standing x1.number (x.keeps.served m served) x1.value x1.stands in
          let stored = subst (λ (b : Bool). Declares (c.args.k ∷ []) (if b then begun_with G W c.args.k x1.number x1.standing.numbers x1.standing.kept else written Normal (W.write x1.standing.kept) x1.standing.numbers) Normal x1.standing y1.standing) c.if-is_scalar_at.ensures y1.is in
          record {
            standing = y1.standing;
            stands = y1.stands;
            is = declares_then [] (c.args.k ∷ []) (value_of G W e s.numbers s.kept) (λ z r k. if is_scalar t then begun_with G W c.args.k z r k else written Normal (W.write k) r) x1.number Normal s x1.standing y1.standing
                (goes_declares [] (value_of G W e s.numbers s.kept) x1.number s x1.standing x1.goes) stored;
          };
      keeps = keeps_then V.serves V.has_key V.made V.shows c.args.values.now c.converted_value.new.values c.begun_with.new.values x.keeps y.keeps;
    }

pub returns-in_ok-forget-clause-walked : goal.returns-in_ok-forget-clause-walked
returns-in_ok-forget-clause-walked g c =
    let V = g.V.Values in
    let G = g.O.RunSetting.setting c.args.out.now in
    let e = view_expression c.args.e.now in
    let t = G.typing.type_at c.args.k in
    let x = c.in_ok-number.ensures in
    let y = c.in_ok-forget.ensures in
    record {
      made = y.made G x.made;
      events = y.events ∙ x.events;
      follows = λ m s served at.
          let W = path_world (g.O.WalkSetting.under c.args.out.now m) in
          let x1 = x.follows m s served at in
          let u = moved_to x1.standing.numbers (all_forgotten x1.standing.kept) x1.standing in
          let outside = subst (λ (b : Bool). Declares (c.args.k ∷ []) (if b then begun_with G W c.args.k x1.number x1.standing.numbers x1.standing.kept else written Normal (W.write x1.standing.kept) x1.standing.numbers) Normal x1.standing u) c.if-is_scalar_at.ensures (kept_declares c.args.k (all_forgotten x1.standing.kept) x1.standing) in
          record {
            standing = u;
            stands = y.stands G m x1.standing (x.keeps.served m served) x1.stands;
            is = declares_then [] (c.args.k ∷ []) (value_of G W e s.numbers s.kept) (λ z r k. if is_scalar t then begun_with G W c.args.k z r k else written Normal (W.write k) r) x1.number Normal s x1.standing u
                (goes_declares [] (value_of G W e s.numbers s.kept) x1.number s x1.standing x1.goes) outside;
          };
      keeps = keeps_then V.serves V.has_key V.made V.shows c.args.values.now c.converted_value.new.values c.forget.new.values x.keeps y.keeps;
    }

pub returns-in_ok-begun_with-clause-cost : goal.returns-in_ok-begun_with-clause-cost
returns-in_ok-begun_with-clause-cost g c = rw (sym c.if-is_scalar_at.ensures) (costs_then c.in_ok-number.ensures.cost c.in_ok-begun_with.ensures.cost)

pub returns-in_ok-forget-clause-cost : goal.returns-in_ok-forget-clause-cost
returns-in_ok-forget-clause-cost g c = rw (sym c.if-is_scalar_at.ensures) (costs_then c.in_ok-number.ensures.cost (c.in_ok-forget.ensures.cost (length (g.O.RunSetting.setting c.args.out.now).kept)))
