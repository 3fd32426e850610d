use Rattle.std.proofs.Common.{◌≡◌, Err, List, map, ap, rules}
use Rattle.std.specs.Option.{option_map}
use Rattle.stk_ctype.specs.Types.{type_of}
use Rattle.stk_tree.specs.declared.declaration.Declr.{out-Declr}
use Rattle.stk_tree.specs.View.{maybe_initialiser, view_initialiser}
use Rattle.stk_type_rules.specs.declared.untyped.Untyped.TheVariants.{NoMemory}
use Rattle.stk_type_rules.specs.Facts.{fact_of}
use Rattle.stk_type_rules.proofs.Steps.{free}
use Rattle.stk_typing.specs.Locals.{local_of}
use Rattle.stk_typing.specs.declared.locals.LocalName.{LocalName}
use Rattle.stk_statements.specs.Places.{body_in}
use Rattle.stk_function_types.specs.Locals.{local_name}
use Rattle.stk_statements.proofs.Declaring.{in_block_is, sized_is, sized_stops}
use Rattle.stk_statements.proofs.locals.sized.Goals as goal

pub returns-in_err-skips-clause-gives : goal.returns-in_err-skips-clause-gives
returns-in_err-skips-clause-gives c =
    let same : c.from_residual.result ≡ Err NoMemory = search rules in
    rw same (free _ _ _ _)

pub returns-in_err-leaves-clause-gives : goal.returns-in_err-leaves-clause-gives
returns-in_err-leaves-clause-gives c =
    let p = c.args.p.now in
    let ls = c.args.locals.now in
    let d = out-Declr c.args.d.now in
    let same : c.from_residual-in_err-leaves.result ≡ Err c.in_err-leaves.field-0.0 = search rules in
    rw same
    (sized_stops (body_in p ls) c.args.is_static (local_name p.file.bytes.now d.name) c.name_of-name.result.now d.node.number (type_of c.args.whole) (maybe_initialiser (option_map view_initialiser d.init)) c.args.sizes.items c.as_slice.result.now
    c.in_ok-skips.skips c.in_err-leaves.field-0.0 (map local_of ls) _ (map fact_of c.args.facts.now.items) (map fact_of c.initial.new.facts.items)
    c.name_of-name.ensures c.as_slice.ensures.value c.in_ok-skips.ensures.is c.in_err-leaves.ensures.gives)

pub returns-clause-gives : goal.returns-clause-gives
returns-clause-gives c =
    let p = c.args.p.now in
    let ls = c.args.locals.now in
    let d = out-Declr c.args.d.now in
    let name = local_name p.file.bytes.now d.name in
    sized_is (body_in p ls) c.args.is_static name c.name_of-name.result.now d.node.number (type_of c.args.whole) (maybe_initialiser (option_map view_initialiser d.init)) c.args.sizes.items c.as_slice.result.now
    c.is_declared_behind-twice.result c.in_ok-skips.skips c.in_ok-leaves.leaves c.declared_rule-made.result (map local_of ls) (map local_of c.initial.new.locals) (map local_of c.put.new.locals) c.put.result
    (map fact_of c.args.facts.now.items) (map fact_of c.initial.new.facts.items) (map fact_of c.put.new.facts.items)
    c.name_of-name.ensures c.as_slice.ensures.value (in_block_is p ls name c.name_of-name.result.now c.is_declared_behind-twice.result c.name_of-name.ensures c.is_declared_behind-twice.ensures)
    (ap (λ (z : List LocalName). map local_of z) c.in_ok-leaves.ensures.locals)
    c.in_ok-skips.ensures.is c.in_ok-leaves.ensures.gives c.declared_rule-made.ensures.fact c.put.ensures.gives
