-- A fact that a rule gives passes on what is known of it.
use Rattle.std.proofs.Common.{◌≡◌, Result, Ok, Err, refl, subst, IfOk}
use Rattle.stk_type_rules.specs.declared.facts.NodeFact.{NodeFact}
use Rattle.stk_type_rules.specs.declared.untyped.Broken.{Broken}
use Rattle.stk_type_rules.specs.declared.untyped.Untyped.{Untyped}

pub passed_on : (made : Result NodeFact Broken) (result : Result NodeFact Untyped) (P : NodeFact → Type 0) → ((f : NodeFact) → result ≡ Ok f → made ≡ Ok f) → IfOk made P → IfOk result P
passed_on made (Ok f) P same h = subst (λ (r : Result NodeFact Broken). IfOk r P) (same f refl) h
passed_on made (Err e) P same h = tt
