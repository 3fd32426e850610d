use Rattle.std.proofs.Common.{◌≡◌, ℕ, ◌+◌, ◌∷◌, [], ◌++◌, ◌∙◌, length, get_or, replicate, None, List, sym, ap, subst, arith, rules}
use Rattle.stk_ctype.specs.declared.kind.IntKind.{IntKind}
use Rattle.stk_meaning.specs.Paths.{KeptNumbers}
use Rattle.stk_kinded.specs.Kinds.{register_kind, cell_kind}
use Rattle.stk_walking.specs.declared.state.KeptCell.{KeptCell}
use Rattle.stk_walking.specs.Stands.{CellsShow, CellsMade, CellShows}
use Rattle.stk_walking.proofs.Carried.{keeps_then, cells_made, cells_shown}
use Rattle.stk_walk.proofs.Rowed.{cells_more, cells_made_more, one_longer}
use Rattle.stk_walk.proofs.start.empty_cells.Goals as goal

pub loop-place-preserved : goal.loop-place-preserved
loop-place-preserved g c =
    let V = g.V.Values in
    let made = g.V.Values.made in
    let shows = g.V.Values.shows in
    let G = g.O.RunSetting.setting c.args.out.now in
    let was = c.loop-place.values in
    let now = c.empty_cell.new.values in
    let so_far = c.loop-place.invariant in
    let k = c.in_ok-cell.ensures.keeps in
    let x = c.in_ok-cell.cell in
    let xs = c.loop-place.row.items in
    let n = c.loop-place.place in
    let kinds = cell_kind G in
    let pushed : c.push.new.self.items ≡ xs ++ x ∷ [] = search rules in
    let long : length c.push.new.self.items ≡ n + 1 = search rules in
    let there : get_or c.args.kept.now n 0 ≡ get_or G.kept n 0 = ap (λ (ks : List ℕ). get_or ks n 0) c.requires.kept in
    let kind : c.kind_at-kind.result ≡ kinds (0 + length xs) = c.kind_at-kind.ensures ∙ ap (register_kind G) there ∙ ap kinds (omega (arith, so_far.1)) in (
      keeps_then V.serves V.has_key V.made V.shows c.args.values.now was now so_far.0 k,
      long,
      subst (λ (ys : List (KeptCell g.row.V-Value.Denot)). CellsMade (made now) kinds 0 ys) (sym pushed) (cells_made_more (made now) kinds 0 xs x (cells_made (made was) (made now) k.made_still kinds 0 xs so_far.2) c.in_ok-cell.ensures.makes.0 (subst (λ (i : IntKind). made now i x.number) kind c.in_ok-cell.ensures.makes.1)),
      (λ m served.
          let whole = cells_more (shows now m) kinds 0 xs (replicate n None) x None (cells_shown (shows was m) (shows now m) (k.shown m) kinds 0 xs (replicate n None) (so_far.3 m served)) (subst (λ (i : IntKind). CellShows (shows now m) i x None) kind (c.in_ok-cell.ensures.value m (so_far.0.served m served))) in
          subst (λ (zs : KeptNumbers). CellsShow (shows now m) kinds 0 c.push.new.self.items zs) (one_longer n None) (subst (λ (ys : List (KeptCell g.row.V-Value.Denot)). CellsShow (shows now m) kinds 0 ys (replicate n None ++ None ∷ [])) (sym pushed) whole)),
      omega (arith, so_far.4, c.in_ok-cell.ensures.charge),
    )

pub returns-clause-charge : goal.returns-clause-charge
returns-clause-charge g c = c.loop-place.invariant.4

pub returns-clause-count : goal.returns-clause-count
returns-clause-count g c = omega (arith, c.loop-place.invariant.1)
