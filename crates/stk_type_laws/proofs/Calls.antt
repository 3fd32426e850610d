-- What a call that fits tells of what it calls and of its arguments (C11 6.5.2.2).
use Rattle.std.proofs.Common.{◌≡◌, ℕ, Bool, false, ◌||◌, List, [], length, Option, Some, None, refl, sym, ap, ◌∙◌}
use Rattle.std.specs.Prelude.{if◌then◌else◌, option_and_then}
use Rattle.stk_base.specs.declared.span.Span.{Span}
use Rattle.stk_base.specs.Text.{text_of}
use Rattle.stk_ctype.specs.declared.symbol.Symbol.{Symbol}
use Rattle.stk_ctype.specs.declared.symbol.Symbol.TheVariants as symbol
use Rattle.stk_ctype.specs.Types.{TypeTree, TypeTrees, SignatureTree, signature}
use Rattle.stk_ctype.specs.Names.{find}
use Rattle.stk_tree.specs.Syntax.{ExprTree, ExprFormTree}
use Rattle.stk_tree.specs.Syntax as s
use Rattle.stk_tree.specs.Parts.{name_in}
use Rattle.stk_type_rules.specs.Facts.{Fact, Breaks, Fits, value}
use Rattle.stk_type_rules.specs.Outcome.{Outcome, Good, and_then, finish}
use Rattle.stk_type_rules.specs.Types.{is_struct}
use Rattle.stk_typing.specs.Locals.{Local, find_local}
use Rattle.stk_typing.specs.Scope.{callee_rule, signature_named, signature_as}
use Rattle.stk_typing.specs.Calls.{parameter_count, parameters_in, takes, have_misfit, have_struct, call_result, called, call_rule, callee_by}
use Rattle.stk_typing.specs.Typing.{form_typed, callee_typed}
use Rattle.stk_meaning.specs.Typings.{signature_in}
use Rattle.stk_meaning.specs.Libraries.{called_name, called_signature, result_in}
use Rattle.stk_type_laws.proofs.Stretches.{mapped}
use Rattle.stk_type_laws.proofs.Rulings.{held, passed, both_false, not_broken, same_fact}
use Rattle.stk_type_laws.proofs.Names.{World, typing, in_force}

-- ---- the rule of a call

-- a function is called, none of whose arguments is a struct
pub record Called (c : Option SignatureTree) (xs : List Fact) (y : Fact) : Type 0 where
  pub function : SignatureTree
  pub is : c ≡ Some function
  pub type : y.ty ≡ result_in (Some function)
  pub plain : have_struct xs ≡ false

result_at : (xs : List Fact) (y : Fact) (result : TypeTree) (params : TypeTrees) (more no_return : Bool) → call_result (signature result params more no_return) xs ≡ Fits y → Called (Some (signature result params more no_return)) xs y
result_at xs y result params more no_return e =
    let h = held (takes more (parameter_count params) (length xs)) (if is_struct result || have_struct xs then Breaks 9 else Fits (value result)) 8 y e in
    let p = passed (is_struct result || have_struct xs) (Fits (value result)) 9 y h.rule in
    record {
      function = signature result params more no_return;
      is = refl;
      type = sym (ap (λ (z : Fact). z.ty) (same_fact (value result) y p.rule));
      plain = (both_false (is_struct result) (have_struct xs) p.test).1;
    }

called_at : (c : Option SignatureTree) (xs : List Fact) (y : Fact) → called c xs ≡ Fits y → Called c xs y
called_at None xs y e = absurd (not_broken 8 y e)
called_at (Some (signature result params more no_return)) xs y e = result_at xs y result params more no_return e

pub call_fits : (c : Option SignatureTree) (xs : List Fact) (y : Fact) → call_rule c xs ≡ Fits y → Called c xs y
call_fits c xs y e = called_at c xs y (passed (have_misfit (parameters_in c) xs) (called c xs) 6 y e).rule

-- ---- what is called is what the name means at file scope

named_at : (o : Option Local) (q : Option Symbol) (f : SignatureTree) → signature_as o q ≡ Some f → option_and_then signature_in q ≡ Some f
named_at (Some l) q f e = absurd cc
named_at None None f e = absurd cc
named_at None (Some (symbol.TypeDef t)) f e = absurd cc
named_at None (Some (symbol.Object t)) f e = absurd cc
named_at None (Some (symbol.Function g)) f e = e
named_at None (Some (symbol.Enumerator v)) f e = absurd cc

abbrev nothing_known : Fact → Option SignatureTree
nothing_known x = None

none_called : (o : Outcome Fact) (f : SignatureTree) (ts : List Fact) → and_then o (λ x. Good (nothing_known x) []) ≡ Good (Some f) ts → ⊥
none_called o f ts e = let m = mapped o nothing_known (Some f) ts e in let q : None ≡ Some f = m.is in absurd cc

called_form : (w : World) (ls : List Local) (own : Option ℕ) (k : ℕ) (g : ExprFormTree) (o : Outcome Fact) (f : SignatureTree) (ts : List Fact) → callee_by (in_force w ls own) k (name_in g) o ≡ Good (Some f) ts
    → (n : ExprTree) → called_name n ≡ name_in g → called_signature (typing w) n ≡ Some f
called_form w ls own k g o f ts e n same = by (name_in g) e same
  where
    by : (at : Option Span) → callee_by (in_force w ls own) k at o ≡ Good (Some f) ts → called_name n ≡ at → called_signature (typing w) n ≡ Some f
    by (Some at) e same =
        let m = mapped (finish k (callee_rule (in_force w ls own) (text_of w.bytes at))) (λ (x : Fact). signature_named (in_force w ls own) (text_of w.bytes at)) (Some f) ts e in
        ap (option_and_then (λ (z : Span). (typing w).signature_at z)) same ∙ named_at (find_local (text_of w.bytes at) ls) (find (text_of w.bytes at) w.entries) f m.is
    by None e same = absurd (none_called o f ts e)

pub callee_is : (w : World) (ls : List Local) (own : Option ℕ) (e : ExprTree) (f : SignatureTree) (ts : List Fact) → callee_typed (in_force w ls own) e ≡ Good (Some f) ts → called_signature (typing w) e ≡ Some f
callee_is w ls own (s.expression n g) f ts e = called_form w ls own n.number g (form_typed (in_force w ls own) n.number g) f ts e (s.expression n g) refl
