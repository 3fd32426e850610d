use Rattle.std.proofs.Common.{◌≡◌, ◌+◌, ◌∷◌, [], ◌++◌, ◌∙◌, length, replicate, ℤ, pos, List, sym, ap, subst, arith, rules}
use Rattle.stk_ctype.specs.declared.kind.IntKind.{IntKind}
use Rattle.stk_kinded.specs.Kinds.{register_kind}
use Rattle.stk_walking.specs.Stands.{RowShows, RowMade}
use Rattle.stk_walking.proofs.Carried.{keeps_then, row_made, row_shown}
use Rattle.stk_walk.proofs.Rowed.{row_more, row_made_more, one_longer}
use Rattle.stk_walk.proofs.start.zeros.Goals as goal

pub loop-node-preserved : goal.loop-node-preserved
loop-node-preserved g c =
    let V = g.V.Values in
    let made = g.V.Values.made in
    let shows = g.V.Values.shows in
    let was = c.loop-node.values in
    let now = c.zero.new.values in
    let so_far = c.loop-node.invariant in
    let k = c.in_ok-none.ensures.keeps in
    let x = c.in_ok-none.none in
    let xs = c.loop-node.row.items in
    let n = c.loop-node.node in
    let kinds = register_kind (g.O.RunSetting.setting c.args.out.now) in
    let pushed : c.push.new.self.items ≡ xs ++ x ∷ [] = search rules in
    let long : length c.push.new.self.items ≡ n + 1 = search rules in
    let kind : c.kind_at-kind.result ≡ kinds (0 + length xs) = c.kind_at-kind.ensures ∙ ap kinds (omega (arith, so_far.1)) in (
      keeps_then V.serves V.has_key V.made V.shows c.args.values.now was now so_far.0 k,
      long,
      subst (λ (ys : List g.row.V-Value.Denot). RowMade (made now) kinds 0 ys) (sym pushed) (row_made_more (made now) kinds 0 xs x (row_made (made was) (made now) k.made_still kinds 0 xs so_far.2) (subst (λ (i : IntKind). made now i x) kind c.in_ok-none.ensures.makes)),
      (λ m served.
          let whole = row_more (shows now m) kinds 0 xs (replicate n (pos 0)) x (pos 0) (row_shown (shows was m) (shows now m) (k.shown m) kinds 0 xs (replicate n (pos 0)) (so_far.3 m served)) (subst (λ (i : IntKind). shows now m i x (pos 0)) kind (c.in_ok-none.ensures.value m (so_far.0.served m served))) in
          subst (λ (zs : List ℤ). RowShows (shows now m) kinds 0 c.push.new.self.items zs) (one_longer n (pos 0)) (subst (λ (ys : List g.row.V-Value.Denot). RowShows (shows now m) kinds 0 ys (replicate n (pos 0) ++ pos 0 ∷ [])) (sym pushed) whole)),
      omega (arith, so_far.4, c.in_ok-none.ensures.charge),
    )

pub returns-clause-charge : goal.returns-clause-charge
returns-clause-charge g c = c.loop-node.invariant.4
