use Rattle.std.proofs.Common.{rules, ◌≡◌, ◌≤◌, refl, length, sym, ap, ◌∙◌, Some, None, List, slice_get}
use Rattle.std.proofs.lemmas.Option.{slice_get_read, slice_get_past}
use Rattle.stk_numbers.specs.declared.conditions.Inputs.{Inputs}
use Rattle.stk_meaning.specs.Paths.{path}
use Rattle.stk_wide_judge.proofs.Searching.{no_first, no_start, a_first}
use Rattle.stk_wide_judge.proofs.known.Known.first_answer.Goals as goal

pub returns-in_default : goal.returns-in_default
returns-in_default c a k known same = no_first a c.args.self.now.starts.items k c.args.set.now c.in_ok-number.field-0 c.in_default.is (c.in_ok-number.ensures _ k known.described same)

pub returns-in_default-get : goal.returns-in_default-get
returns-in_default-get c a k known same =
    let past : length c.deref.result.now ≤ c.in-Some.number = search rules in
    let none : slice_get c.args.self.now.starts.items c.in-Some.number ≡ None = ap (λ (xs : List Inputs). slice_get xs c.in-Some.number) (sym c.deref.ensures.value) ∙ slice_get_past c.deref.result.now c.in-Some.number past in
    absurd (no_start a c.args.self.now.starts.items k c.args.set.now c.in_ok-number.field-0 c.in-Some.number c.in-Some.is none (c.in_ok-number.ensures _ k known.described same))

pub returns : goal.returns
returns c a k known same =
    let l = c.in-Some-get.ensures.lookup in
    let is : slice_get c.args.self.now.starts.items c.in-Some.number ≡ Some c.in-Some-get.start.now = ap (λ (xs : List Inputs). slice_get xs c.in-Some.number) (sym c.deref.ensures.value) ∙ slice_get_read c.deref.result.now (length c.deref.result.now) c.in-Some.number c.in-Some-get.start.now refl l.3.0 l.1 in
    a_first a c.args.self.now.starts.items k c.args.set.now c.in_ok-number.field-0 c.in-Some.number c.in-Some-get.start.now c.in_ok-copy.copy.numbers c.in-Some.is is c.in_ok-copy.ensures (c.in_ok-number.ensures _ k known.described same)
