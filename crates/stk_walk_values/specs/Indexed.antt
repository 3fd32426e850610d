-- What is asked of what is indexed (C11 6.5.2.1).
use Rattle.std.specs.Prelude.{ℕ, Bool, not, ◌&&◌, if◌then◌else◌, Option, Some, None}
use Rattle.stk_operators.specs.declared.node_tests.NodeTests.{NodeTests}
use Rattle.stk_operators.specs.declared.node_tests.NodeTests.TheVariants as node_tests

-- the bounds that are asked for
abbrev pub bounds_in : NodeTests → Option ℕ
bounds_in node_tests.Nothing = None
bounds_in (node_tests.Operation operation) = None
bounds_in (node_tests.Negation k) = None
bounds_in node_tests.Target = None
bounds_in (node_tests.Moved size) = None
bounds_in (node_tests.TargetMoved size) = None
bounds_in (node_tests.Bounds count) = Some count
bounds_in (node_tests.Absolute k) = None
bounds_in node_tests.Copy = None

-- that a pointer moves out of the address space; of one that is accessed, and isn't an array, also that it is null
abbrev pub moved_tests : Bool → Bool → ℕ → NodeTests
moved_tests accessed array size = if accessed && not array then node_tests.TargetMoved size else node_tests.Moved size
