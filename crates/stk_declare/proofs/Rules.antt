-- Want of memory is an answer to each rule.
use Rattle.std.proofs.Common.{◌≡◌, Option, Result, Err, sym, subst}
use Rattle.stk_ctype.specs.declared.symbol.Symbol.{Symbol}
use Rattle.stk_ctype.specs.Structs.{Structs}
use Rattle.stk_tree.specs.declared.declaration.Storage.{Storage}
use Rattle.stk_tree.specs.Syntax.{MaybeInitTree}
use Rattle.stk_type_rules.specs.declared.facts.NodeFact.{NodeFact}
use Rattle.stk_type_rules.specs.declared.untyped.Broken.{Broken}
use Rattle.stk_type_rules.specs.declared.untyped.Broken.TheVariants.{Rule, NoMemory}
use Rattle.stk_type_rules.specs.Facts.{Ruled, Breaks, Fits}
use Rattle.stk_type_rules.specs.Outcome.{MakesFact}
use Rattle.stk_declare.specs.declared.symbols.SymbolSort.{SymbolSort}
use Rattle.stk_declare.specs.Symbols.{made_rule}

pub free : (r : Ruled) → MakesFact r (Err NoMemory)
free (Breaks n) = tt
free (Fits x) = tt

pub free_as : (result : Result NodeFact Broken) → result ≡ Err NoMemory → (r : Ruled) → MakesFact r result
free_as result is r = subst (λ (x : Result NodeFact Broken). MakesFact r x) (sym is) (free r)

-- what refuses the parts refuses the declarator
pub made_err : (structs : Structs) (word : Option Storage) (what : SymbolSort) (earlier : Option Symbol) (i : MaybeInitTree) (r : Ruled) (b : Broken) → MakesFact r (Err b) → MakesFact (made_rule structs word what earlier i r) (Err b)
made_err structs word what earlier i (Breaks n) b h = h
made_err structs word what earlier i (Fits x) (Rule n) h = absurd h
made_err structs word what earlier i (Fits x) NoMemory h = free (made_rule structs word what earlier i (Fits x))
