-- What a `Boxed` and a `List` end as, where a `&mut` into them is returned.
use Rattle.std.specs.Prelude.{List, ◌++◌, length, take, drop}
use Rattle.std.specs.Borrow.{Lends, Fml, RattleType, MutBor, Array}
use Rattle.stk_base.specs.contracts.boxed.Boxed as boxed
use Rattle.stk_base.specs.contracts.list.List as list

-- the list with ws as its items, which have its length; else it is cut, or filled up
abbrev pub refilled : {X : Type 0} → List X → List X → List X
refilled xs ws = take (length xs) (ws ++ drop (length ws) xs)

module _ (T : RattleType) where
  -- once the borrow r ends, the value is the last one behind r
  abbrev pub lends_value : MutBor T.Denot → MutBor T.Denot → Fml
  lends_value b r = Lends (boxed.the_row T) T b r (λ w. w)

  -- once the borrow r ends, the items are the last ones behind r
  abbrev pub lends_items : MutBor (List T.Denot) → MutBor (List T.Denot) → Fml
  lends_items l r = Lends (list.the_row T) (Array T 0) l r (refilled l.now)
