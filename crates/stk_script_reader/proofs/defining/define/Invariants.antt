use Rattle.std.proofs.Common.{◌≡◌, ℕ, List, length, map}
use Rattle.stk_scripts.specs.Scripts.{Bits}
use Rattle.stk_script_trees.specs.View.{view_defined}
use Rattle.stk_script_reader.specs.After.{IsAfter, Defining}
use Rattle.stk_script_reader.specs.Standing.{Known}
use Rattle.stk_script_reader.proofs.defining.define.Given as goal

abbrev pub invariant-loop-defined : goal.invariant-loop-defined
invariant-loop-defined l = record {
  defining : (g : List (List ℕ × ℕ)) (bits : List ℕ → List (List ℕ × Bits)) → IsAfter l.fn.names l.fn.terms g bits → Defining l.names l.terms l.fn.terms.inputs g bits (map (view_defined l.bytes) l.fn.list) (map (view_defined l.bytes) l.rest);
  known : Known l.names l.terms;
  inputs : l.terms.inputs ≡ l.fn.terms.inputs;
}

abbrev pub decreases-loop-defined : goal.decreases-loop-defined
decreases-loop-defined l = length l.rest
