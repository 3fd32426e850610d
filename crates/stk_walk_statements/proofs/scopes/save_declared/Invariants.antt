use Rattle.std.proofs.Common.{◌≡◌, ◌++◌, ℕ, ℤ, List, drop, map, ◌≤◌}
use Rattle.stk_tree.specs.View.{view_declarator, declarators}
use Rattle.stk_meaning.specs.Visits.{declared_by}
use Rattle.stk_kinded.specs.Kinds.{register_kind}
use Rattle.stk_values.specs.Keeping.{Keeps}
use Rattle.stk_walking.specs.Stands.{RowShows}
use Rattle.stk_walk_statements.specs.Saved.{SavedMade, SavedShow}
use Rattle.stk_walk_statements.proofs.scopes.save_declared.Given as goal

-- those of the first declarators were saved, in front of what is left
abbrev pub invariant-loop-d : goal.invariant-loop-d
invariant-loop-d g l =
    Keeps g.V.Values.serves g.V.Values.has_key g.V.Values.made g.V.Values.shows l.fn.values l.values
    × SavedMade (g.V.Values.made l.values) (register_kind (g.O.RunSetting.setting l.fn.out)) l.saved.items
    × (is : List ℕ) × (is ++ declared_by (declarators (map view_declarator (drop l.d-index l.list))) ≡ declared_by (declarators (map view_declarator l.list)))
    × ((m : List ℤ) (js : List ℕ) (xs : List ℤ) → g.V.Values.serves l.fn.values m → RowShows (g.V.Values.shows l.fn.values m) (register_kind (g.O.RunSetting.setting l.fn.out)) 0 l.fn.registers.items xs → SavedShow (g.V.Values.shows l.fn.values m) (register_kind (g.O.RunSetting.setting l.fn.out)) l.fn.saved.items js xs → SavedShow (g.V.Values.shows l.values m) (register_kind (g.O.RunSetting.setting l.fn.out)) l.saved.items (js ++ is) xs)
    × (g.V.Values.cost l.values ≤ g.V.Values.cost l.fn.values)
