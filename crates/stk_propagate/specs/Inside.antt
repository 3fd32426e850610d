-- What the fields of a trail hold.
use Rattle.stk_propagate.specs.declared.trail.Trail.TheInside.{Inside}
use Rattle.stk_propagate.specs.Trailed.{Trailed}
use Rattle.stk_propagate.specs.Linked.{trailed, IsLinked}

abbrev pub seen_as : Inside → Trailed
seen_as f = trailed f.inner

abbrev pub IsInside : Inside → Type 0
IsInside f = IsLinked f.inner
