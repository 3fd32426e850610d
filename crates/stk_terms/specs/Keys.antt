-- The nodes that keep the terms: a term with its width, each once.
use Rattle.std.specs.Prelude.{◌≡◌, ℕ, List, [], ◌∷◌, ◌++◌, map, slice_get, Some}
use Rattle.stk_terms.specs.declared.term.TermNode.{TermNode}
use Rattle.stk_terms.specs.declared.term.TermId.{TermId}
use Rattle.stk_terms.specs.Terms.{Term, Stored, term_of, term_at}
use Rattle.stk_terms.specs.Values.{evaluated, width_of}
use Rattle.stk_terms.specs.Fitting.{AreWidths, FitBehind}

-- the term of a node
abbrev pub plain : TermNode → Term
plain n = term_of n.op n.args.items

-- the terms of nodes
abbrev pub terms_of : List TermNode → List Term
terms_of ns = map plain ns

-- the store of these inputs and nodes
abbrev pub stored : List ℕ → List TermNode → Stored
stored inputs ns = record { inputs = inputs; terms = terms_of ns }

-- the arguments of the node at a place
abbrev pub args_in : List TermNode → ℕ → List TermId
args_in ns i = (term_at (stored [] ns) i).args

-- the widths that nodes keep
abbrev pub sizes_of : List TermNode → List ℕ
sizes_of ns = map (λ n. n.width) ns

-- what of a node tells it from others
abbrev pub said : TermNode → Term × ℕ
said n = (plain n, n.width)

-- the node stands at the place i
abbrev pub StandsIn : List TermNode → ℕ → TermNode → Type 0
StandsIn ns i n = slice_get (map said ns) i ≡ Some (said n)

-- no node stands twice
pub record Once (ns : List TermNode) : Type 0 where
  pub once : (i j : ℕ) (n : Term × ℕ) → slice_get (map said ns) i ≡ Some n → slice_get (map said ns) j ≡ Some n → i ≡ j

-- new is old, or old with n behind it
pub data AddsNode (old : List TermNode) (n : TermNode) (new : List TermNode) : Type 0 where
  Same : new ≡ old → AddsNode old n new
  More : new ≡ old ++ n ∷ [] → AddsNode old n new

-- the nodes of a store: they fit one behind the other, keep their widths, and none stands twice
pub record AreKept (inputs : List ℕ) (ns : List TermNode) : Type 0 where
  pub widths_are : AreWidths inputs
  pub fit : FitBehind inputs [] (terms_of ns)
  pub sized : sizes_of ns ≡ evaluated (width_of inputs) [] (terms_of ns)
  pub shared : Once ns
