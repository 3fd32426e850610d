use Rattle.std.proofs.Common.{◌≡◌, ◌∙◌, [], Err, ap, map, rules}
use Rattle.std.specs.Option.{option_copied, option_map}
use Rattle.stk_ctype.specs.Types.{type_of}
use Rattle.stk_ctype.specs.Names.{find}
use Rattle.stk_tree.specs.declared.declaration.Declr.{out-Declr}
use Rattle.stk_tree.specs.View.{maybe_initialiser, view_initialiser, view_tail}
use Rattle.stk_type_rules.specs.Facts.{fact_of}
use Rattle.stk_typing.specs.Arrays.{starred}
use Rattle.stk_typing.specs.Locals.{local_of}
use Rattle.stk_declare.specs.Symbols.{added, sort_of}
use Rattle.stk_declare.proofs.Entries.{entry_gives, entry_stops}
use Rattle.stk_declare.proofs.Views.{view_declarator_node}
use Rattle.stk_declare.proofs.declarators.declared_entry.Goals as goal

pub returns-in_err-fact-clause-gives : goal.returns-in_err-fact-clause-gives
returns-in_err-fact-clause-gives c =
    let d = out-Declr c.args.d.now in
    let same : c.from_residual-in_err-fact.result ≡ Err c.in_err-fact.field-0.0 = search rules in
    let whole : type_of c.in_ok-whole.whole ≡ starred d.stars (type_of c.args.ty.now) = c.in_ok-whole.ensures.is ∙ ap (λ t. starred d.stars (type_of t)) c.in_ok-copy.ensures in
    let typed = rw c.new-locals.ensures at c.in_ok-tailed.ensures.gives in
    rw (same, view_declarator_node c.args.d.now)
    (entry_stops c.args.f.now.bytes.now c.args.mark c.args.defines c.args.word c.args.f.now.names.now (type_of c.args.ty.now) (type_of c.in_ok-whole.whole) d.node d.stars d.name (view_tail d.tail) (maybe_initialiser (option_map view_initialiser d.init))
    c.in_ok-tailed.tailed [] (map local_of c.tail.new.locals) (map fact_of c.new-facts.result.items) (map fact_of c.tail.new.facts.items) c.in_err-fact.field-0.0 whole typed c.in_err-fact.ensures.gives)

pub returns-clause-gives : goal.returns-clause-gives
returns-clause-gives c =
    let d = out-Declr c.args.d.now in
    let es = c.args.f.now.names.now in
    let bytes = c.args.f.now.bytes.now in
    let whole : type_of c.in_ok-whole.whole ≡ starred d.stars (type_of c.args.ty.now) = c.in_ok-whole.ensures.is ∙ ap (λ t. starred d.stars (type_of t)) c.in_ok-copy.ensures in
    let typed = rw c.new-locals.ensures at c.in_ok-tailed.ensures.gives in
    let t = type_of c.in_ok-fact.fact.ty in
    rw (view_declarator_node c.args.d.now)
    (entry_gives bytes c.args.mark c.args.defines c.args.word es (type_of c.args.ty.now) (type_of c.in_ok-whole.whole) d.node d.stars d.name (view_tail d.tail) (maybe_initialiser (option_map view_initialiser d.init))
    c.in_ok-tailed.tailed [] (map local_of c.tail.new.locals) (map fact_of c.new-facts.result.items) (map fact_of c.tail.new.facts.items) c.in_ok-fact.fact c.in_ok-entry.entry whole typed c.in_ok-fact.ensures.gives
    (λ shape shown. c.in_ok-entry.ensures.is ∙ ap (λ w. added c.declared_name-name.result.now w c.args.mark (option_copied c.find.result) t) (c.sort_of-what.ensures shape shown)
    ∙ ap (λ e. added c.declared_name-name.result.now (sort_of c.args.word shape (type_of c.in_ok-whole.whole)) c.args.mark e t) c.find.ensures.value
    ∙ ap (λ n. added n (sort_of c.args.word shape (type_of c.in_ok-whole.whole)) c.args.mark (find n es) t) c.declared_name-name.ensures))
