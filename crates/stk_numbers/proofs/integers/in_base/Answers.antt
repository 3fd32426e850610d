use Rattle.std.proofs.Common.{sym, ap, ◌∙◌}
use Rattle.stk_numbers.specs.Digits.{capped, written}
use Rattle.stk_numbers.specs.Integers.{suffix_of}
use Rattle.stk_numbers.proofs.Reading.{is_refused, is_constant}
use Rattle.stk_numbers.proofs.integers.in_base.Goals as goal

pub returns-in_default : goal.returns-in_default
returns-in_default c =
    is_refused c.args.decimal c.args.base c.args.text.now (ap (λ ds. capped (written c.args.base ds)) (sym (c.split_at.ensures.front ∙ c.count_digits-count.ensures.digits)) ∙ sym c.written.ensures ∙ c.in_default.is)

pub returns-in-Some-constant_kind : goal.returns-in-Some-constant_kind
returns-in-Some-constant_kind c =
    is_constant c.args.decimal c.args.base c.count_digits-count.result c.in-Some.number c.args.text.now c.in-Some-suffix_of.suffix c.in-Some-constant_kind.kind c.count_digits-count.ensures.digits c.count_digits-count.ensures.within c.if-count-eq0.false
    (ap (λ ds. capped (written c.args.base ds)) (sym (c.split_at.ensures.front ∙ c.count_digits-count.ensures.digits)) ∙ sym c.written.ensures ∙ c.in-Some.is)
    (ap suffix_of (sym (c.split_at.ensures.back ∙ c.count_digits-count.ensures.rest)) ∙ sym c.suffix_of.ensures ∙ c.in-Some-suffix_of.is)
    (sym c.constant_kind.ensures ∙ c.in-Some-constant_kind.is)
