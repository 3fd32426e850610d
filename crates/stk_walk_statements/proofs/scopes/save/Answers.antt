use Rattle.std.proofs.Common.{sym, subst}
use Rattle.stk_ctype.specs.declared.kind.IntKind.{IntKind}
use Rattle.stk_meaning.specs.Worlds.{register}
use Rattle.stk_kinded.specs.Kinds.{register_kind}
use Rattle.stk_walk_statements.proofs.Saving.{saved_made, saved_shown, saved_more_made, saved_more}
use Rattle.stk_walk_statements.proofs.scopes.save.Goals as goal

pub read_register-requires : goal.read_register-requires
read_register-requires g c = (register_kind (g.O.RunSetting.setting c.args.out.now), sym c.kind_at-kind.ensures, c.requires.registers)

pub returns-clause-made : goal.returns-clause-made
returns-clause-made g c =
    let made = g.V.Values.made in
    let row = register_kind (g.O.RunSetting.setting c.args.out.now) in
    rw c.in_ok-push.ensures.items
    (saved_more_made row (made c.read_register.new.values) c.args.saved.now.items c.args.register c.in_ok-value.value (saved_made row (made c.args.values.now) (made c.read_register.new.values) c.read_register.ensures.keeps.made_still c.args.saved.now.items c.requires.saved)
    (subst (λ (k : IntKind). made c.read_register.new.values k c.in_ok-value.value) c.kind_at-kind.ensures c.in_ok-value.ensures.makes))

pub returns-clause-shown : goal.returns-clause-shown
returns-clause-shown g c = λ m js xs served at h.
    let shows = g.V.Values.shows in
    let row = register_kind (g.O.RunSetting.setting c.args.out.now) in
    let value = c.in_ok-value.ensures.value m row xs served (sym c.kind_at-kind.ensures) at in
    rw c.in_ok-push.ensures.items
    (saved_more row (shows c.read_register.new.values m) c.args.saved.now.items js c.args.register c.in_ok-value.value xs (saved_shown row (shows c.args.values.now m) (shows c.read_register.new.values m) (c.read_register.ensures.keeps.shown m) c.args.saved.now.items js xs h)
    (subst (λ (k : IntKind). shows c.read_register.new.values m k c.in_ok-value.value (register c.args.register xs)) c.kind_at-kind.ensures value))
