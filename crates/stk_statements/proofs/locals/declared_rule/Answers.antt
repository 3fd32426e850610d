use Rattle.std.proofs.Common.{◌≡◌, ◌∙◌, Bool, List, Err, refl, sym, ap, rules}
use Rattle.std.specs.Option.{option_map}
use Rattle.stk_ctype.specs.Structs.{structs_of}
use Rattle.stk_ctype.specs.Types.{type_of}
use Rattle.stk_tree.specs.View.{view_initialiser, maybe_initialiser}
use Rattle.stk_type_rules.specs.declared.untyped.Broken.TheVariants.{NoMemory}
use Rattle.stk_typing.specs.declared.arrays.Size.{Size}
use Rattle.stk_typing.specs.Arrays.{declared_type}
use Rattle.stk_declarators.specs.Counting.{given_count}
use Rattle.stk_declarators.specs.Tails.{are_scalars, counted_sizes, of_arrays}
use Rattle.stk_function_types.specs.Locals.{declared_rule, lacks_size}
use Rattle.stk_statements.proofs.Turns.{declared_gives, free_as}
use Rattle.stk_statements.proofs.locals.declared_rule.Goals as goal

pub returns-in_err-count-clause-fact : goal.returns-in_err-count-clause-fact
returns-in_err-count-clause-fact c =
    let same : c.from_residual.result ≡ Err NoMemory = search rules in
    free_as c.from_residual.result same (declared_rule c.args.p.now.file.bytes.now (structs_of c.args.p.now.file.names.now) c.args.twice c.args.is_static (maybe_initialiser (option_map view_initialiser c.args.i.now)) (type_of c.args.whole) c.args.sizes.items c.args.leaves)

pub returns-clause-fact : goal.returns-clause-fact
returns-clause-fact c =
    let bytes = c.args.p.now.file.bytes.now in
    let structs = structs_of c.args.p.now.file.names.now in
    let i = maybe_initialiser (option_map view_initialiser c.args.i.now) in
    let whole = type_of c.args.whole in
    let sizes = c.args.sizes.items in
    let counts = c.in_ok-count.ensures ∙ ap (λ (b : Bool). given_count bytes b i) (c.are_scalars-scalar.ensures ∙ ap (λ (z : List Size). are_scalars z whole) c.as_slice.ensures.value) in
    let given = ap (λ (z : List Size). lacks_size c.in_ok-count.count z) (sym c.as_slice-2.ensures.value) ∙ sym c.lacks_size.ensures ∙ c.if-lacks_size.false in
    declared_gives bytes structs c.args.twice c.args.is_static i whole sizes c.args.leaves c.in_ok-count.count c.complete_rule.result counts c.if-twice.false given
    (c.complete_rule.ensures.fact (declared_type structs (counted_sizes c.in_ok-count.count sizes) whole) (c.tail_type-made.ensures.fact (of_arrays sizes) refl))
