use Rattle.std.proofs.Common.{ℕ, ◌≡◌, ◌+◌, ◌++◌, ◌∙◌, drop, map, List, [], None, Ok, ap, sym, subst, arith}
use Rattle.std.proofs.lemmas.List.{drop_all}
use Rattle.stk_ctype.specs.declared.symbol.NameEntry.{NameEntry}
use Rattle.stk_ctype.specs.Structs.{structs_of}
use Rattle.stk_ctype.specs.Types.{TypeTree, type_of}
use Rattle.stk_tree.specs.declared.declaration.Declr.{out-Declr}
use Rattle.stk_tree.specs.declared.declaration.Param.{out-Param}
use Rattle.stk_tree.specs.View.{view_parameter, parameters}
use Rattle.stk_type_rules.specs.Facts.{Fact, AreSoundFacts, fact_of, fact_at}
use Rattle.stk_type_rules.specs.Outcome.{Gives, IsAt}
use Rattle.stk_typing.specs.Locals.{Local, local_of}
use Rattle.stk_typing.specs.Scope.{Scope}
use Rattle.stk_typing.proofs.Turns.{next_of}
use Rattle.stk_declarators.specs.Parameters.{Parameter, name_text, with_locals, as_local, parameter_typed, parameter_of}
use Rattle.stk_declarators.specs.Rows.{file_scope}
use Rattle.stk_declarators.proofs.Rows.{parameters_turn, given_parameter, none_behind}
use Rattle.stk_declarators.proofs.prototypes.parameters.Goals as goal

pub loop-p-preserved : goal.loop-p-preserved
loop-p-preserved c =
    let step = next_of c.args.list.now c.loop-p.p-index c.p-item.result c.loop-p-test.true c.p-item.is in
    let p = c.p-item.result in
    let d = out-Declr (out-Param p).declr in
    let bytes = c.args.f.now.bytes.now in
    let scope = file_scope c.args.f.now c.loop-p.locals in
    let a = map fact_of c.loop-p.facts.items in
    let b = map fact_of c.parameter.new.facts.items in
    let i = c.in_ok-i.i in
    let ty = type_of c.fact.result.now.ty in
    let l : Parameter = record { name = name_text bytes d.name; node = d.node.number; ty = ty } in
    let typed = subst (λ (z : Scope). Gives (IsAt b) (parameter_typed z c.args.defines (view_parameter p)) (Ok i) a b) c.scope-s.ensures.is c.in_ok-i.ensures.gives in
    let same : (fact_at b i).ty ≡ ty = sym (ap (λ (f : Fact). f.ty) c.fact.ensures.is) in
    let made : parameter_of bytes (fact_at b i).ty (view_parameter p) ≡ l = ap (λ (t : TypeTree). parameter_of bytes t (view_parameter p)) same ∙ given_parameter bytes ty p in
    let mid : map local_of c.add_local.new.locals ≡ map local_of c.loop-p.locals ++ as_local l = c.in_ok-add_local.ensures.added in
    let grown : file_scope c.args.f.now c.add_local.new.locals ≡ with_locals scope (as_local l) = ap (λ (ls : List Local). record { bytes = bytes; entries = c.args.f.now.names.now; locals = ls; own = None }) mid in
    let sound = subst (λ (es : List NameEntry). AreSoundFacts (structs_of es) b) c.scope-s.ensures.names c.in_ok-i.ensures.sound in
    let so = c.fact.ensures.sound (structs_of c.args.f.now.names.now) sound in
    record {
      locals = c.in_ok-add_local.ensures.sound _ so c.loop-p.invariant.locals;
      sound = sound;
      types = c.in_ok-add_type.ensures.sound _ so c.loop-p.invariant.types;
      rest = λ result new now h.
          c.loop-p.invariant.rest result new now
          (rw step (parameters_turn scope (file_scope c.args.f.now c.add_local.new.locals) c.args.defines (view_parameter p) (parameters (map view_parameter (drop (c.loop-p.p-index + 1) c.args.list.now))) c.loop-p.all c.add_type.new.all (map local_of c.loop-p.locals) (map local_of c.add_local.new.locals) now l i result a b new typed made c.in_ok-add_type.ensures.types c.in_ok-add_type.ensures.unnamed mid grown h));
    }
