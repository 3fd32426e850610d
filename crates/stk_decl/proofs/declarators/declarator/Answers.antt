use Rattle.std.proofs.Common.{◌-◌, sym, ◌∙◌}
use Rattle.std.proofs.lemmas.Result.{err_from_is_err_and}
use Rattle.stk_tree.specs.View.{view_tail}
use Rattle.stk_ctype.specs.Named.{named}
use Rattle.stk_decl.specs.Given.{given_initialiser}
use Rattle.stk_decl.proofs.Steps.{Fails_along, behind_name, declarator_low, initial_fails, tail_fails}
use Rattle.stk_decl.proofs.declarators.declarator.Goals as goal

pub returns-in_err-tail : goal.returns-in_err-tail
returns-in_err-tail c =
    let words = named c.args.bytes.now c.args.names.now in
    let p = err_from_is_err_and c.from_residual.result c.from_residual.ensures.1 in
    let behind = behind_name words c.args.room c.args.file c.args.lexemes.now c.stars_at-stars.result.0 c.stars_at-stars.result.1.now c.in-Some.name c.in-Some.rest.now c.if-room-eq0.false c.stars_at-stars.ensures.value c.in-Some.ensures in
    rw (p.1, p.2) (Fails_along c.in_err-tail.field-0.0 _ _ (sym behind) (tail_fails c.in_err-tail.field-0.0 words (c.args.room - 1) c.args.file c.stars_at-stars.result.0 c.in-Some.name c.in-Some.rest.now c.in_err-tail.ensures.value))

pub returns-in_err-init : goal.returns-in_err-init
returns-in_err-init c =
    let words = named c.args.bytes.now c.args.names.now in
    let n = c.in_ok-tail in
    let p = err_from_is_err_and c.from_residual-in_err-init.result c.from_residual-in_err-init.ensures.1 in
    let behind = behind_name words c.args.room c.args.file c.args.lexemes.now c.stars_at-stars.result.0 c.stars_at-stars.result.1.now c.in-Some.name c.in-Some.rest.now c.if-room-eq0.false c.stars_at-stars.ensures.value c.in-Some.ensures in
    rw (p.1, p.2) (Fails_along c.in_err-init.field-0.0 _ _ (sym behind) (initial_fails c.in_err-init.field-0.0 words (c.args.room - 1) c.args.file c.stars_at-stars.result.0 c.in-Some.name c.in-Some.rest.now (view_tail n.tail) n.rest.now n.ensures.value c.in_err-init.ensures.value))

pub returns : goal.returns
returns c =
    let words = named c.args.bytes.now c.args.names.now in
    let n = c.in_ok-tail in
    let behind = behind_name words c.args.room c.args.file c.args.lexemes.now c.stars_at-stars.result.0 c.stars_at-stars.result.1.now c.in-Some.name c.in-Some.rest.now c.if-room-eq0.false c.stars_at-stars.ensures.value c.in-Some.ensures in
    rw c.declarator-declr.ensures (behind ∙ declarator_low words (c.args.room - 1) c.args.file c.stars_at-stars.result.0 c.in-Some.name c.in-Some.rest.now (view_tail n.tail) n.rest.now (given_initialiser c.in_ok-init.init) c.in_ok-init.rest.now n.ensures.value c.in_ok-init.ensures.value n.ensures.low c.in_ok-init.ensures.low)
