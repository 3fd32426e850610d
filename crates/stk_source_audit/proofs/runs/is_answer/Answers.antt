use Rattle.std.proofs.Common.{List, map, subst, ap, ◌∙◌}
use Rattle.std.proofs.lemmas.Bool.{false≢true}
use Rattle.stk_ctype.specs.declared.kind.IntKind.{IntKind}
use Rattle.stk_tree.specs.View.{view_function}
use Rattle.stk_numbers.specs.Kinds.{width_of}
use Rattle.stk_terms.specs.Fitting.{AreResidues}
use Rattle.stk_numbers.specs.declared.conditions.Kinds.{Kinds}
use Rattle.stk_meaning.specs.Typings.{Typing}
use Rattle.stk_source_audit.specs.Asked.{AreWordsOf, answers_test, judged_typing}
use Rattle.stk_source_audit.proofs.Answered.{out_of_range, none_fit, some_fit, by_test}
use Rattle.stk_source_audit.proofs.Tabled.{judged_tables}
use Rattle.stk_source_audit.proofs.runs.is_answer.Goals as goal

pub returns-in_default : goal.returns-in_default
returns-in_default c =
    let j = c.args.judged.now in
    let none = subst (λ (ks : List IntKind). AreResidues (map width_of ks) c.args.start.now → ⊥) c.requires.kinds (none_fit c.in_ok-words.field-0 _ _ c.in_default.is c.in_ok-words.ensures) in
    (λ e. absurd (false≢true e), λ a. absurd (out_of_range (judged_typing j) j.without (view_function j.function.now) c.args.candidate c.args.set.now c.args.start.now none a))

pub answers-requires : goal.answers-requires
answers-requires c =
    let j = c.args.judged.now in
    let f = view_function j.function.now in
    let made = c.in_ok-setting.ensures in
    (judged_tables j.bytes.now j.without j.names.now j.unit.now f c.requires.judged c.in_ok-types.types c.in_ok-setting.setting c.in_ok-tables.tables c.in_ok-types.ensures made.setting made.keys made.types c.in_ok-tables.ensures.places c.in_ok-tables.ensures.loops).tables

pub returns : goal.returns
returns c =
    let j = c.args.judged.now in
    let ty = judged_typing j in
    let f = view_function j.function.now in
    let made = c.in_ok-setting.ensures in
    let tables = judged_tables j.bytes.now j.without j.names.now j.unit.now f c.requires.judged c.in_ok-types.types c.in_ok-setting.setting c.in_ok-tables.tables c.in_ok-types.ensures made.setting made.keys made.types c.in_ok-tables.ensures.places c.in_ok-tables.ensures.loops in
    let own = subst (λ (ks : List IntKind). AreWordsOf ks c.args.start.now c.in-Some.words.items) c.requires.kinds (some_fit c.in_ok-words.field-0 c.in-Some.words _ _ c.in-Some.is c.in_ok-words.ensures) in
    let is = c.in_ok-is.ensures
    ∙ ap (λ (x : Typing). answers_test x c.in_ok-tables.tables.places.without f c.args.candidate c.args.set.now c.as_slice.result.now) tables.typing
    ∙ ap (λ (w : Kinds). answers_test ty w f c.args.candidate c.args.set.now c.as_slice.result.now) tables.kinds
    ∙ ap (answers_test ty j.without f c.args.candidate c.args.set.now) c.as_slice.ensures.value in
    by_test ty j.without f c.args.candidate c.args.set.now c.args.start.now c.in-Some.words.items c.in_ok-is.is' own is
