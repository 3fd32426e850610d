use Rattle.std.proofs.Common.{pos, get_or, refl, subst, length}
use Rattle.stk_ctype.specs.declared.kind.IntKind.{IntKind}
use Rattle.stk_numbers.specs.Values.{absolute}
use Rattle.stk_meaning.specs.Typings.{number_kind}
use Rattle.stk_meaning.specs.Libraries.{absolute_in, copy_bytes}
use Rattle.stk_meaning.specs.Paths.{all_forgotten}
use Rattle.stk_guarded.specs.Standing.{moved_to}
use Rattle.stk_guarded.proofs.Evaluations.{gives_goes, moves_goes}
use Rattle.stk_walk_values.proofs.Lasting.{still_made, still_stands}
use Rattle.stk_walk_values.proofs.Calling.{first_is}
use Rattle.stk_walking.proofs.Costing.{costs_only}
use Rattle.stk_walk_values.proofs.calls.library_number.Goals as goal

pub returns-in_ok-number-in-AbsoluteIn-clause-makes : goal.returns-in_ok-number-in-AbsoluteIn-clause-makes
returns-in_ok-number-in-AbsoluteIn-clause-makes g c =
    let K = number_kind ((g.O.RunSetting.setting c.args.out.now).typing.type_at c.args.node) in
    let kind = c.in-AbsoluteIn.kind in
    let value_kind = rw c.in-AbsoluteIn.is at c.requires.value in
    let n = c.in_ok-number-in-AbsoluteIn in
    subst (λ (k : IntKind). g.V.Values.made c.absolute.new.values k n.number) (first_is (absolute_in kind) kind K refl value_kind) n.ensures.makes

pub returns-in_ok-number-in-AbsoluteIn-clause-made : goal.returns-in_ok-number-in-AbsoluteIn-clause-made
returns-in_ok-number-in-AbsoluteIn-clause-made g c = still_made c.in_ok-number-in-AbsoluteIn.ensures.keeps c.requires.made

pub returns-in_ok-number-in-AbsoluteIn-clause-follows : goal.returns-in_ok-number-in-AbsoluteIn-clause-follows
returns-in_ok-number-in-AbsoluteIn-clause-follows g c =
    let shows = g.V.Values.shows in
    let K = number_kind ((g.O.RunSetting.setting c.args.out.now).typing.type_at c.args.node) in
    let kind = c.in-AbsoluteIn.kind in
    let value_kind = rw c.in-AbsoluteIn.is at c.requires.value in
    let first_kind = rw c.in-AbsoluteIn.is at c.requires.arguments.first in
    let first = c.args.arguments.operands.first in
    let n = c.in_ok-number-in-AbsoluteIn in
    rw c.in-AbsoluteIn.is (λ t xs m s served at.
    let x = get_or xs 0 (pos 0) in
    let shown = subst (λ (k : IntKind). shows c.args.values.now m k first.value x) (first_is (absolute_in kind) first.kind kind first_kind refl) served.1.operands.first in
    record {
      number = absolute kind x;
      standing = s;
      value = subst (λ (k : IntKind). shows c.absolute.new.values m k n.number (absolute kind x)) (first_is (absolute_in kind) kind K refl value_kind) (n.ensures.value m x served.0 shown);
      stands = still_stands n.ensures.keeps m at;
      goes = gives_goes (absolute kind x) s;
    })

pub returns-in_ok-forget-in-CopyBytes-clause-makes : goal.returns-in_ok-forget-in-CopyBytes-clause-makes
returns-in_ok-forget-in-CopyBytes-clause-makes g c =
    let K = number_kind ((g.O.RunSetting.setting c.args.out.now).typing.type_at c.args.node) in
    let value_kind = rw c.in-CopyBytes.is at c.requires.value in
    let first_kind = rw c.in-CopyBytes.is at c.requires.arguments.first in
    let first = c.args.arguments.operands.first in
    c.in_ok-forget-in-CopyBytes.ensures.keeps.made_still _ _ (subst (λ (k : IntKind). g.V.Values.made c.args.values.now k first.value) (first_is copy_bytes first.kind K first_kind value_kind) c.requires.arguments.operands.first)

pub returns-in_ok-forget-in-CopyBytes-clause-follows : goal.returns-in_ok-forget-in-CopyBytes-clause-follows
returns-in_ok-forget-in-CopyBytes-clause-follows g c =
    let shows = g.V.Values.shows in
    let K = number_kind ((g.O.RunSetting.setting c.args.out.now).typing.type_at c.args.node) in
    let value_kind = rw c.in-CopyBytes.is at c.requires.value in
    let first_kind = rw c.in-CopyBytes.is at c.requires.arguments.first in
    let first = c.args.arguments.operands.first in
    let n = c.in_ok-forget-in-CopyBytes in
    rw c.in-CopyBytes.is (λ t xs m s served at.
    let x = get_or xs 0 (pos 0) in
    record {
      number = x;
      standing = moved_to s.numbers (all_forgotten s.kept) s;
      value = n.ensures.keeps.shown m _ _ _ (subst (λ (k : IntKind). shows c.args.values.now m k first.value x) (first_is copy_bytes first.kind K first_kind value_kind) served.1.operands.first);
      stands = n.ensures.stands m s served.0 at;
      goes = moves_goes x s.numbers (all_forgotten s.kept) s;
    })

pub returns-in_ok-number-in-AbsoluteIn-clause-cost : goal.returns-in_ok-number-in-AbsoluteIn-clause-cost
returns-in_ok-number-in-AbsoluteIn-clause-cost g c = rw c.in-AbsoluteIn.is (costs_only refl c.in_ok-number-in-AbsoluteIn.ensures.charge)

pub returns-in_ok-forget-in-CopyBytes-clause-cost : goal.returns-in_ok-forget-in-CopyBytes-clause-cost
returns-in_ok-forget-in-CopyBytes-clause-cost g c = rw c.in-CopyBytes.is (c.in_ok-forget-in-CopyBytes.ensures.cost (length (g.O.RunSetting.setting c.args.out.now).kept))
