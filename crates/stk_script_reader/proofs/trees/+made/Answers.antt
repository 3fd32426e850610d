use Rattle.std.proofs.Common.{ap, subst, sym, ◌∙◌}
use Rattle.std.proofs.lemmas.Result.{err_from_is_err_and}
use Rattle.stk_scripts.specs.Syntax.{one_of, two_of, joined, cut, widened, chosen}
use Rattle.stk_scripts.specs.Scripts.{width_in, same_width, joined_width, cut_width, widened_width, tested_width}
use Rattle.stk_script_trees.specs.View.{view_expr}
use Rattle.stk_script_reader.specs.Standing.{Makes, Stands}
use Rattle.stk_script_reader.proofs.Kept.{keeps_then, known_kept, longer_kept, keeps_same}
use Rattle.stk_script_reader.proofs.Views.{view_named, view_literal, view_one, view_two, view_joined, view_cut, view_widened, view_chosen}
use Rattle.stk_script_reader.proofs.Whole.{same_second, joined_second, tested_second, placed, failed, whole_one, whole_two, compared, uncompared, whole_choice}
use Rattle.stk_script_reader.proofs.trees.+made.Goals as goal

pub returns-in-Named-clause-made : goal.returns-in-Named-clause-made
returns-in-Named-clause-made t c =
    let bytes = c.args.bytes.now in
    let old = c.args.terms.now in
    let names = c.args.names.now in
    subst (λ x. Makes names old old x c.find.result) (sym (ap (view_expr bytes) c.in-Named.is ∙ view_named bytes c.in-Named.at)) c.find.ensures

pub returns-in-Literal-clause-made : goal.returns-in-Literal-clause-made
returns-in-Literal-clause-made t c =
    let bytes = c.args.bytes.now in
    let old = c.args.terms.now in
    λ list stand exist. subst (λ x. Stands old c.number.new.terms list x c.number.result) (sym (ap (view_expr bytes) c.in-Literal.is ∙ view_literal bytes c.in-Literal.width c.in-Literal.number)) (c.number.ensures.made list exist)

pub returns-in_err-a-in-One-clause-made : goal.returns-in_err-a-in-One-clause-made
returns-in_err-a-in-One-clause-made t c =
    let bytes = c.args.bytes.now in
    let old = c.args.terms.now in
    let names = c.args.names.now in
    let v = ap (view_expr bytes) c.in-One.is ∙ view_one bytes c.in-One.op c.in-One.a ∙ ap (λ x. one_of c.in-One.op (view_expr bytes x)) (sym c.get.ensures) in
    let p = err_from_is_err_and c.from_residual.result c.from_residual.ensures.1 in
    rw (p.1, p.2) (failed names (λ x. one_of c.in-One.op x) (λ g e h. h) old old c.made.new.terms (keeps_same old) (view_expr bytes c.get.result.now) _ v c.in_err-a-in-One.field-0.0 c.in_err-a-in-One.ensures.made)

pub one-requires : goal.one-requires
one-requires t c =
    let bytes = c.args.bytes.now in
    let old = c.args.terms.now in
    let names = c.args.names.now in
    placed names old c.made.new.terms (view_expr bytes c.get.result.now) c.in_ok-a-in-One.a.0 c.requires.known c.in_ok-a-in-One.ensures.made

pub returns-in_ok-a-in-One-clause-made : goal.returns-in_ok-a-in-One-clause-made
returns-in_ok-a-in-One-clause-made t c =
    let bytes = c.args.bytes.now in
    let old = c.args.terms.now in
    let names = c.args.names.now in
    let v = ap (view_expr bytes) c.in-One.is ∙ view_one bytes c.in-One.op c.in-One.a ∙ ap (λ x. one_of c.in-One.op (view_expr bytes x)) (sym c.get.ensures) in
    whole_one names (λ x. one_of c.in-One.op x) old c.made.new.terms c.one.new.terms c.made.ensures.keeps (view_expr bytes c.get.result.now) _ c.in_ok-a-in-One.a.0 c.one.result v c.in_ok-a-in-One.ensures.made c.one.ensures.made

pub returns-in_err-a-in-Cut-clause-made : goal.returns-in_err-a-in-Cut-clause-made
returns-in_err-a-in-Cut-clause-made t c =
    let bytes = c.args.bytes.now in
    let old = c.args.terms.now in
    let names = c.args.names.now in
    let v = ap (view_expr bytes) c.in-Cut.is ∙ view_cut bytes c.in-Cut.high c.in-Cut.low c.in-Cut.a ∙ ap (λ x. cut c.in-Cut.high c.in-Cut.low (view_expr bytes x)) (sym c.get-in-Cut.ensures) in
    let p = err_from_is_err_and c.from_residual-in_err-a-in-Cut.result c.from_residual-in_err-a-in-Cut.ensures.1 in
    rw (p.1, p.2) (failed names (λ x. cut c.in-Cut.high c.in-Cut.low x) (λ g e h. ap (cut_width c.in-Cut.high c.in-Cut.low) h) old old c.made-in-Cut.new.terms (keeps_same old) (view_expr bytes c.get-in-Cut.result.now) _ v c.in_err-a-in-Cut.field-0.0 c.in_err-a-in-Cut.ensures.made)

pub extract-requires : goal.extract-requires
extract-requires t c =
    let bytes = c.args.bytes.now in
    let old = c.args.terms.now in
    let names = c.args.names.now in
    placed names old c.made-in-Cut.new.terms (view_expr bytes c.get-in-Cut.result.now) c.in_ok-a-in-Cut.a.0 c.requires.known c.in_ok-a-in-Cut.ensures.made

pub returns-in_ok-a-in-Cut-clause-made : goal.returns-in_ok-a-in-Cut-clause-made
returns-in_ok-a-in-Cut-clause-made t c =
    let bytes = c.args.bytes.now in
    let old = c.args.terms.now in
    let names = c.args.names.now in
    let v = ap (view_expr bytes) c.in-Cut.is ∙ view_cut bytes c.in-Cut.high c.in-Cut.low c.in-Cut.a ∙ ap (λ x. cut c.in-Cut.high c.in-Cut.low (view_expr bytes x)) (sym c.get-in-Cut.ensures) in
    whole_one names (λ x. cut c.in-Cut.high c.in-Cut.low x) old c.made-in-Cut.new.terms c.extract.new.terms c.made-in-Cut.ensures.keeps (view_expr bytes c.get-in-Cut.result.now) _ c.in_ok-a-in-Cut.a.0 c.extract.result v c.in_ok-a-in-Cut.ensures.made c.extract.ensures.made

pub returns-in_err-a-in-Widened-clause-made : goal.returns-in_err-a-in-Widened-clause-made
returns-in_err-a-in-Widened-clause-made t c =
    let bytes = c.args.bytes.now in
    let old = c.args.terms.now in
    let names = c.args.names.now in
    let v = ap (view_expr bytes) c.in-Widened.is ∙ view_widened bytes c.in-Widened.op c.in-Widened.more c.in-Widened.a ∙ ap (λ x. widened c.in-Widened.op c.in-Widened.more (view_expr bytes x)) (sym c.get-in-Widened.ensures) in
    let p = err_from_is_err_and c.from_residual-in_err-a-in-Widened.result c.from_residual-in_err-a-in-Widened.ensures.1 in
    rw (p.1, p.2) (failed names (λ x. widened c.in-Widened.op c.in-Widened.more x) (λ g e h. ap (widened_width c.in-Widened.more) h) old old c.made-in-Widened.new.terms (keeps_same old) (view_expr bytes c.get-in-Widened.result.now) _ v c.in_err-a-in-Widened.field-0.0 c.in_err-a-in-Widened.ensures.made)

pub extend-requires : goal.extend-requires
extend-requires t c =
    let bytes = c.args.bytes.now in
    let old = c.args.terms.now in
    let names = c.args.names.now in
    placed names old c.made-in-Widened.new.terms (view_expr bytes c.get-in-Widened.result.now) c.in_ok-a-in-Widened.a.0 c.requires.known c.in_ok-a-in-Widened.ensures.made

pub returns-in_ok-a-in-Widened-clause-made : goal.returns-in_ok-a-in-Widened-clause-made
returns-in_ok-a-in-Widened-clause-made t c =
    let bytes = c.args.bytes.now in
    let old = c.args.terms.now in
    let names = c.args.names.now in
    let v = ap (view_expr bytes) c.in-Widened.is ∙ view_widened bytes c.in-Widened.op c.in-Widened.more c.in-Widened.a ∙ ap (λ x. widened c.in-Widened.op c.in-Widened.more (view_expr bytes x)) (sym c.get-in-Widened.ensures) in
    whole_one names (λ x. widened c.in-Widened.op c.in-Widened.more x) old c.made-in-Widened.new.terms c.extend.new.terms c.made-in-Widened.ensures.keeps (view_expr bytes c.get-in-Widened.result.now) _ c.in_ok-a-in-Widened.a.0 c.extend.result v c.in_ok-a-in-Widened.ensures.made c.extend.ensures.made

pub returns-in_err-a-in-Two-clause-made : goal.returns-in_err-a-in-Two-clause-made
returns-in_err-a-in-Two-clause-made t c =
    let bytes = c.args.bytes.now in
    let old = c.args.terms.now in
    let names = c.args.names.now in
    let v = ap (view_expr bytes) c.in-Two.is ∙ view_two bytes c.in-Two.op c.in-Two.a c.in-Two.b ∙ ap (λ x. two_of c.in-Two.op (view_expr bytes x) (view_expr bytes c.in-Two.b)) (sym c.get-in-Two.ensures) in
    let p = err_from_is_err_and c.from_residual-in_err-a-in-Two.result c.from_residual-in_err-a-in-Two.ensures.1 in
    rw (p.1, p.2) (failed names (λ x. two_of c.in-Two.op x (view_expr bytes c.in-Two.b)) (λ g x h. ap (λ w. same_width w (width_in g (view_expr bytes c.in-Two.b))) h) old old c.made-in-Two.new.terms (keeps_same old) (view_expr bytes c.get-in-Two.result.now) _ v c.in_err-a-in-Two.field-0.0 c.in_err-a-in-Two.ensures.made)

pub returns-in_err-b-in-Two-clause-made : goal.returns-in_err-b-in-Two-clause-made
returns-in_err-b-in-Two-clause-made t c =
    let bytes = c.args.bytes.now in
    let old = c.args.terms.now in
    let names = c.args.names.now in
    let v = ap (view_expr bytes) c.in-Two.is ∙ view_two bytes c.in-Two.op c.in-Two.a c.in-Two.b ∙ (λ i. two_of c.in-Two.op (view_expr bytes (sym c.get-in-Two.ensures i)) (view_expr bytes (sym c.get-in-Two-2.ensures i))) in
    let p = err_from_is_err_and c.from_residual-in_err-b-in-Two.result c.from_residual-in_err-b-in-Two.ensures.1 in
    rw (p.1, p.2) (failed names (λ x. two_of c.in-Two.op (view_expr bytes c.get-in-Two.result.now) x) (λ g x h. ap (same_width (width_in g (view_expr bytes c.get-in-Two.result.now))) h ∙ same_second (width_in g (view_expr bytes c.get-in-Two.result.now))) old c.made-in-Two.new.terms c.made-in-Two-2.new.terms c.made-in-Two.ensures.keeps (view_expr bytes c.get-in-Two-2.result.now) _ v c.in_err-b-in-Two.field-0.0 c.in_err-b-in-Two.ensures.made)

pub two-requires-clause-first : goal.two-requires-clause-first
two-requires-clause-first t c =
    let bytes = c.args.bytes.now in
    let old = c.args.terms.now in
    let names = c.args.names.now in
    longer_kept c.made-in-Two.new.terms c.made-in-Two-2.new.terms c.in_ok-a-in-Two.a.0 c.made-in-Two-2.ensures.keeps (placed names old c.made-in-Two.new.terms (view_expr bytes c.get-in-Two.result.now) c.in_ok-a-in-Two.a.0 c.requires.known c.in_ok-a-in-Two.ensures.made)

pub two-requires-clause-second : goal.two-requires-clause-second
two-requires-clause-second t c =
    let bytes = c.args.bytes.now in
    let old = c.args.terms.now in
    let names = c.args.names.now in
    placed names c.made-in-Two.new.terms c.made-in-Two-2.new.terms (view_expr bytes c.get-in-Two-2.result.now) c.in_ok-b-in-Two.b.0 (known_kept names old c.made-in-Two.new.terms c.made-in-Two.ensures.keeps c.requires.known) c.in_ok-b-in-Two.ensures.made

pub returns-in_ok-b-in-Two-clause-made : goal.returns-in_ok-b-in-Two-clause-made
returns-in_ok-b-in-Two-clause-made t c =
    let bytes = c.args.bytes.now in
    let old = c.args.terms.now in
    let names = c.args.names.now in
    let v = ap (view_expr bytes) c.in-Two.is ∙ view_two bytes c.in-Two.op c.in-Two.a c.in-Two.b ∙ (λ i. two_of c.in-Two.op (view_expr bytes (sym c.get-in-Two.ensures i)) (view_expr bytes (sym c.get-in-Two-2.ensures i))) in
    whole_two names (λ x y. two_of c.in-Two.op x y) old c.made-in-Two.new.terms c.made-in-Two-2.new.terms c.two.new.terms c.made-in-Two.ensures.keeps c.made-in-Two-2.ensures.keeps (view_expr bytes c.get-in-Two.result.now) (view_expr bytes c.get-in-Two-2.result.now) _ c.in_ok-a-in-Two.a.0 c.in_ok-b-in-Two.b.0 c.two.result v c.in_ok-a-in-Two.ensures.made c.in_ok-b-in-Two.ensures.made c.two.ensures.made

pub returns-in_err-a-in-Joined-clause-made : goal.returns-in_err-a-in-Joined-clause-made
returns-in_err-a-in-Joined-clause-made t c =
    let bytes = c.args.bytes.now in
    let old = c.args.terms.now in
    let names = c.args.names.now in
    let v = ap (view_expr bytes) c.in-Joined.is ∙ view_joined bytes c.in-Joined.a c.in-Joined.b ∙ ap (λ x. joined (view_expr bytes x) (view_expr bytes c.in-Joined.b)) (sym c.get-in-Joined.ensures) in
    let p = err_from_is_err_and c.from_residual-in_err-a-in-Joined.result c.from_residual-in_err-a-in-Joined.ensures.1 in
    rw (p.1, p.2) (failed names (λ x. joined x (view_expr bytes c.in-Joined.b)) (λ g x h. ap (λ w. joined_width w (width_in g (view_expr bytes c.in-Joined.b))) h) old old c.made-in-Joined.new.terms (keeps_same old) (view_expr bytes c.get-in-Joined.result.now) _ v c.in_err-a-in-Joined.field-0.0 c.in_err-a-in-Joined.ensures.made)

pub returns-in_err-b-in-Joined-clause-made : goal.returns-in_err-b-in-Joined-clause-made
returns-in_err-b-in-Joined-clause-made t c =
    let bytes = c.args.bytes.now in
    let old = c.args.terms.now in
    let names = c.args.names.now in
    let v = ap (view_expr bytes) c.in-Joined.is ∙ view_joined bytes c.in-Joined.a c.in-Joined.b ∙ (λ i. joined (view_expr bytes (sym c.get-in-Joined.ensures i)) (view_expr bytes (sym c.get-in-Joined-2.ensures i))) in
    let p = err_from_is_err_and c.from_residual-in_err-b-in-Joined.result c.from_residual-in_err-b-in-Joined.ensures.1 in
    rw (p.1, p.2) (failed names (λ x. joined (view_expr bytes c.get-in-Joined.result.now) x) (λ g x h. ap (joined_width (width_in g (view_expr bytes c.get-in-Joined.result.now))) h ∙ joined_second (width_in g (view_expr bytes c.get-in-Joined.result.now))) old c.made-in-Joined.new.terms c.made-in-Joined-2.new.terms c.made-in-Joined.ensures.keeps (view_expr bytes c.get-in-Joined-2.result.now) _ v c.in_err-b-in-Joined.field-0.0 c.in_err-b-in-Joined.ensures.made)

pub concat-requires-clause-first : goal.concat-requires-clause-first
concat-requires-clause-first t c =
    let bytes = c.args.bytes.now in
    let old = c.args.terms.now in
    let names = c.args.names.now in
    longer_kept c.made-in-Joined.new.terms c.made-in-Joined-2.new.terms c.in_ok-a-in-Joined.a.0 c.made-in-Joined-2.ensures.keeps (placed names old c.made-in-Joined.new.terms (view_expr bytes c.get-in-Joined.result.now) c.in_ok-a-in-Joined.a.0 c.requires.known c.in_ok-a-in-Joined.ensures.made)

pub concat-requires-clause-second : goal.concat-requires-clause-second
concat-requires-clause-second t c =
    let bytes = c.args.bytes.now in
    let old = c.args.terms.now in
    let names = c.args.names.now in
    placed names c.made-in-Joined.new.terms c.made-in-Joined-2.new.terms (view_expr bytes c.get-in-Joined-2.result.now) c.in_ok-b-in-Joined.b.0 (known_kept names old c.made-in-Joined.new.terms c.made-in-Joined.ensures.keeps c.requires.known) c.in_ok-b-in-Joined.ensures.made

pub returns-in_ok-b-in-Joined-clause-made : goal.returns-in_ok-b-in-Joined-clause-made
returns-in_ok-b-in-Joined-clause-made t c =
    let bytes = c.args.bytes.now in
    let old = c.args.terms.now in
    let names = c.args.names.now in
    let v = ap (view_expr bytes) c.in-Joined.is ∙ view_joined bytes c.in-Joined.a c.in-Joined.b ∙ (λ i. joined (view_expr bytes (sym c.get-in-Joined.ensures i)) (view_expr bytes (sym c.get-in-Joined-2.ensures i))) in
    whole_two names (λ x y. joined x y) old c.made-in-Joined.new.terms c.made-in-Joined-2.new.terms c.concat.new.terms c.made-in-Joined.ensures.keeps c.made-in-Joined-2.ensures.keeps (view_expr bytes c.get-in-Joined.result.now) (view_expr bytes c.get-in-Joined-2.result.now) _ c.in_ok-a-in-Joined.a.0 c.in_ok-b-in-Joined.b.0 c.concat.result v c.in_ok-a-in-Joined.ensures.made c.in_ok-b-in-Joined.ensures.made c.concat.ensures.made

pub returns-in_err-a-in-Chosen-clause-made : goal.returns-in_err-a-in-Chosen-clause-made
returns-in_err-a-in-Chosen-clause-made t c =
    let bytes = c.args.bytes.now in
    let old = c.args.terms.now in
    let names = c.args.names.now in
    let v = ap (view_expr bytes) c.in-Chosen.is ∙ view_chosen bytes c.in-Chosen.op c.in-Chosen.a c.in-Chosen.b c.in-Chosen.yes c.in-Chosen.no ∙ (λ i. chosen c.in-Chosen.op (view_expr bytes (sym c.get-in-Chosen.ensures i)) (view_expr bytes c.in-Chosen.b) (view_expr bytes c.in-Chosen.yes) (view_expr bytes c.in-Chosen.no)) in
    let p = err_from_is_err_and c.from_residual-in_err-a-in-Chosen.result c.from_residual-in_err-a-in-Chosen.ensures.1 in
    rw (p.1, p.2) (failed names (λ x. chosen c.in-Chosen.op x (view_expr bytes c.in-Chosen.b) (view_expr bytes c.in-Chosen.yes) (view_expr bytes c.in-Chosen.no)) (λ g x h. ap (λ w. tested_width (same_width w (width_in g (view_expr bytes c.in-Chosen.b))) (same_width (width_in g (view_expr bytes c.in-Chosen.yes)) (width_in g (view_expr bytes c.in-Chosen.no)))) h) old old c.made-in-Chosen.new.terms (keeps_same old) (view_expr bytes c.get-in-Chosen.result.now) _ v c.in_err-a-in-Chosen.field-0.0 c.in_err-a-in-Chosen.ensures.made)

pub returns-in_err-b-in-Chosen-clause-made : goal.returns-in_err-b-in-Chosen-clause-made
returns-in_err-b-in-Chosen-clause-made t c =
    let bytes = c.args.bytes.now in
    let old = c.args.terms.now in
    let names = c.args.names.now in
    let v = ap (view_expr bytes) c.in-Chosen.is ∙ view_chosen bytes c.in-Chosen.op c.in-Chosen.a c.in-Chosen.b c.in-Chosen.yes c.in-Chosen.no ∙ (λ i. chosen c.in-Chosen.op (view_expr bytes (sym c.get-in-Chosen.ensures i)) (view_expr bytes (sym c.get-in-Chosen-2.ensures i)) (view_expr bytes c.in-Chosen.yes) (view_expr bytes c.in-Chosen.no)) in
    let p = err_from_is_err_and c.from_residual-in_err-b-in-Chosen.result c.from_residual-in_err-b-in-Chosen.ensures.1 in
    rw (p.1, p.2) (failed names (λ x. chosen c.in-Chosen.op (view_expr bytes c.get-in-Chosen.result.now) x (view_expr bytes c.in-Chosen.yes) (view_expr bytes c.in-Chosen.no)) (λ g x h. ap (λ w. tested_width (same_width (width_in g (view_expr bytes c.get-in-Chosen.result.now)) w) (same_width (width_in g (view_expr bytes c.in-Chosen.yes)) (width_in g (view_expr bytes c.in-Chosen.no)))) h ∙ ap (λ w. tested_width w (same_width (width_in g (view_expr bytes c.in-Chosen.yes)) (width_in g (view_expr bytes c.in-Chosen.no)))) (same_second (width_in g (view_expr bytes c.get-in-Chosen.result.now)))) old c.made-in-Chosen.new.terms c.made-in-Chosen-2.new.terms c.made-in-Chosen.ensures.keeps (view_expr bytes c.get-in-Chosen-2.result.now) _ v c.in_err-b-in-Chosen.field-0.0 c.in_err-b-in-Chosen.ensures.made)

pub returns-in_err-yes-in-Chosen-clause-made : goal.returns-in_err-yes-in-Chosen-clause-made
returns-in_err-yes-in-Chosen-clause-made t c =
    let bytes = c.args.bytes.now in
    let old = c.args.terms.now in
    let names = c.args.names.now in
    let v = ap (view_expr bytes) c.in-Chosen.is ∙ view_chosen bytes c.in-Chosen.op c.in-Chosen.a c.in-Chosen.b c.in-Chosen.yes c.in-Chosen.no ∙ (λ i. chosen c.in-Chosen.op (view_expr bytes (sym c.get-in-Chosen.ensures i)) (view_expr bytes (sym c.get-in-Chosen-2.ensures i)) (view_expr bytes (sym c.get-in-Chosen-3.ensures i)) (view_expr bytes c.in-Chosen.no)) in
    let p = err_from_is_err_and c.from_residual-in_err-yes-in-Chosen.result c.from_residual-in_err-yes-in-Chosen.ensures.1 in
    rw (p.1, p.2) (failed names (λ x. chosen c.in-Chosen.op (view_expr bytes c.get-in-Chosen.result.now) (view_expr bytes c.get-in-Chosen-2.result.now) x (view_expr bytes c.in-Chosen.no)) (λ g x h. ap (λ w. tested_width (same_width (width_in g (view_expr bytes c.get-in-Chosen.result.now)) (width_in g (view_expr bytes c.get-in-Chosen-2.result.now))) (same_width w (width_in g (view_expr bytes c.in-Chosen.no)))) h ∙ tested_second (same_width (width_in g (view_expr bytes c.get-in-Chosen.result.now)) (width_in g (view_expr bytes c.get-in-Chosen-2.result.now)))) old c.compared.new.terms c.made-in-Chosen-3.new.terms (keeps_then _ _ _ (keeps_then _ _ _ c.made-in-Chosen.ensures.keeps c.made-in-Chosen-2.ensures.keeps) c.compared.ensures.keeps) (view_expr bytes c.get-in-Chosen-3.result.now) _ v c.in_err-yes-in-Chosen.field-0.0 c.in_err-yes-in-Chosen.ensures.made)

pub returns-in_err-no-in-Chosen-clause-made : goal.returns-in_err-no-in-Chosen-clause-made
returns-in_err-no-in-Chosen-clause-made t c =
    let bytes = c.args.bytes.now in
    let old = c.args.terms.now in
    let names = c.args.names.now in
    let v = ap (view_expr bytes) c.in-Chosen.is ∙ view_chosen bytes c.in-Chosen.op c.in-Chosen.a c.in-Chosen.b c.in-Chosen.yes c.in-Chosen.no ∙ (λ i. chosen c.in-Chosen.op (view_expr bytes (sym c.get-in-Chosen.ensures i)) (view_expr bytes (sym c.get-in-Chosen-2.ensures i)) (view_expr bytes (sym c.get-in-Chosen-3.ensures i)) (view_expr bytes (sym c.get-in-Chosen-4.ensures i))) in
    let p = err_from_is_err_and c.from_residual-in_err-no-in-Chosen.result c.from_residual-in_err-no-in-Chosen.ensures.1 in
    rw (p.1, p.2) (failed names (λ x. chosen c.in-Chosen.op (view_expr bytes c.get-in-Chosen.result.now) (view_expr bytes c.get-in-Chosen-2.result.now) (view_expr bytes c.get-in-Chosen-3.result.now) x) (λ g x h. ap (λ w. tested_width (same_width (width_in g (view_expr bytes c.get-in-Chosen.result.now)) (width_in g (view_expr bytes c.get-in-Chosen-2.result.now))) (same_width (width_in g (view_expr bytes c.get-in-Chosen-3.result.now)) w)) h ∙ ap (tested_width (same_width (width_in g (view_expr bytes c.get-in-Chosen.result.now)) (width_in g (view_expr bytes c.get-in-Chosen-2.result.now)))) (same_second (width_in g (view_expr bytes c.get-in-Chosen-3.result.now))) ∙ tested_second (same_width (width_in g (view_expr bytes c.get-in-Chosen.result.now)) (width_in g (view_expr bytes c.get-in-Chosen-2.result.now)))) old c.made-in-Chosen-3.new.terms c.made-in-Chosen-4.new.terms (keeps_then _ _ _ (keeps_then _ _ _ (keeps_then _ _ _ c.made-in-Chosen.ensures.keeps c.made-in-Chosen-2.ensures.keeps) c.compared.ensures.keeps) c.made-in-Chosen-3.ensures.keeps) (view_expr bytes c.get-in-Chosen-4.result.now) _ v c.in_err-no-in-Chosen.field-0.0 c.in_err-no-in-Chosen.ensures.made)

pub compared-requires-clause-first : goal.compared-requires-clause-first
compared-requires-clause-first t c =
    let bytes = c.args.bytes.now in
    let old = c.args.terms.now in
    let names = c.args.names.now in
    longer_kept c.made-in-Chosen.new.terms c.made-in-Chosen-2.new.terms c.in_ok-a-in-Chosen.a.0 c.made-in-Chosen-2.ensures.keeps (placed names old c.made-in-Chosen.new.terms (view_expr bytes c.get-in-Chosen.result.now) c.in_ok-a-in-Chosen.a.0 c.requires.known c.in_ok-a-in-Chosen.ensures.made)

pub compared-requires-clause-second : goal.compared-requires-clause-second
compared-requires-clause-second t c =
    let bytes = c.args.bytes.now in
    let old = c.args.terms.now in
    let names = c.args.names.now in
    placed names c.made-in-Chosen.new.terms c.made-in-Chosen-2.new.terms (view_expr bytes c.get-in-Chosen-2.result.now) c.in_ok-b-in-Chosen.b.0 (known_kept names old c.made-in-Chosen.new.terms c.made-in-Chosen.ensures.keeps c.requires.known) c.in_ok-b-in-Chosen.ensures.made

pub returns-in_err-test-in-Chosen-clause-made : goal.returns-in_err-test-in-Chosen-clause-made
returns-in_err-test-in-Chosen-clause-made t c =
    let bytes = c.args.bytes.now in
    let old = c.args.terms.now in
    let names = c.args.names.now in
    let v = ap (view_expr bytes) c.in-Chosen.is ∙ view_chosen bytes c.in-Chosen.op c.in-Chosen.a c.in-Chosen.b c.in-Chosen.yes c.in-Chosen.no ∙ (λ i. chosen c.in-Chosen.op (view_expr bytes (sym c.get-in-Chosen.ensures i)) (view_expr bytes (sym c.get-in-Chosen-2.ensures i)) (view_expr bytes c.in-Chosen.yes) (view_expr bytes c.in-Chosen.no)) in
    let p = err_from_is_err_and c.from_residual-in_err-test-in-Chosen.result c.from_residual-in_err-test-in-Chosen.ensures.1 in
    rw (p.1, p.2) (uncompared names c.in-Chosen.op old c.made-in-Chosen.new.terms c.made-in-Chosen-2.new.terms c.compared.new.terms c.made-in-Chosen.ensures.keeps c.made-in-Chosen-2.ensures.keeps (view_expr bytes c.get-in-Chosen.result.now) (view_expr bytes c.get-in-Chosen-2.result.now) (view_expr bytes c.in-Chosen.yes) (view_expr bytes c.in-Chosen.no) _ c.in_ok-a-in-Chosen.a.0 c.in_ok-b-in-Chosen.b.0 v c.in_ok-a-in-Chosen.ensures.made c.in_ok-b-in-Chosen.ensures.made c.in_err-test-in-Chosen.field-0.0 c.in_err-test-in-Chosen.ensures.made)

pub choice-requires-clause-test : goal.choice-requires-clause-test
choice-requires-clause-test t c =
    longer_kept _ _ c.in_ok-test-in-Chosen.test.0 (keeps_then _ _ _ c.made-in-Chosen-3.ensures.keeps c.made-in-Chosen-4.ensures.keeps) c.in_ok-test-in-Chosen.ensures.there

pub choice-requires-clause-one : goal.choice-requires-clause-one
choice-requires-clause-one t c =
    (keeps_then _ _ _ c.made-in-Chosen-3.ensures.keeps c.made-in-Chosen-4.ensures.keeps).wide c.in_ok-test-in-Chosen.test.0 c.in_ok-test-in-Chosen.ensures.there ∙ c.in_ok-test-in-Chosen.ensures.one

pub choice-requires-clause-first : goal.choice-requires-clause-first
choice-requires-clause-first t c =
    let bytes = c.args.bytes.now in
    let old = c.args.terms.now in
    let names = c.args.names.now in
    longer_kept c.made-in-Chosen-3.new.terms c.made-in-Chosen-4.new.terms c.in_ok-yes-in-Chosen.yes.0 c.made-in-Chosen-4.ensures.keeps (placed names c.compared.new.terms c.made-in-Chosen-3.new.terms (view_expr bytes c.get-in-Chosen-3.result.now) c.in_ok-yes-in-Chosen.yes.0 (known_kept names old c.compared.new.terms (keeps_then _ _ _ (keeps_then _ _ _ c.made-in-Chosen.ensures.keeps c.made-in-Chosen-2.ensures.keeps) c.compared.ensures.keeps) c.requires.known) c.in_ok-yes-in-Chosen.ensures.made)

pub choice-requires-clause-second : goal.choice-requires-clause-second
choice-requires-clause-second t c =
    let bytes = c.args.bytes.now in
    let old = c.args.terms.now in
    let names = c.args.names.now in
    placed names c.made-in-Chosen-3.new.terms c.made-in-Chosen-4.new.terms (view_expr bytes c.get-in-Chosen-4.result.now) c.in_ok-no-in-Chosen.no.0 (known_kept names old c.made-in-Chosen-3.new.terms (keeps_then _ _ _ (keeps_then _ _ _ (keeps_then _ _ _ c.made-in-Chosen.ensures.keeps c.made-in-Chosen-2.ensures.keeps) c.compared.ensures.keeps) c.made-in-Chosen-3.ensures.keeps) c.requires.known) c.in_ok-no-in-Chosen.ensures.made

pub returns-in_ok-no-in-Chosen-clause-made : goal.returns-in_ok-no-in-Chosen-clause-made
returns-in_ok-no-in-Chosen-clause-made t c =
    let bytes = c.args.bytes.now in
    let old = c.args.terms.now in
    let names = c.args.names.now in
    let v = ap (view_expr bytes) c.in-Chosen.is ∙ view_chosen bytes c.in-Chosen.op c.in-Chosen.a c.in-Chosen.b c.in-Chosen.yes c.in-Chosen.no ∙ (λ i. chosen c.in-Chosen.op (view_expr bytes (sym c.get-in-Chosen.ensures i)) (view_expr bytes (sym c.get-in-Chosen-2.ensures i)) (view_expr bytes (sym c.get-in-Chosen-3.ensures i)) (view_expr bytes (sym c.get-in-Chosen-4.ensures i))) in
    let test = compared names c.in-Chosen.op old c.made-in-Chosen.new.terms c.made-in-Chosen-2.new.terms c.compared.new.terms c.made-in-Chosen.ensures.keeps c.made-in-Chosen-2.ensures.keeps (view_expr bytes c.get-in-Chosen.result.now) (view_expr bytes c.get-in-Chosen-2.result.now) c.in_ok-a-in-Chosen.a.0 c.in_ok-b-in-Chosen.b.0 c.in_ok-test-in-Chosen.test.0 c.in_ok-a-in-Chosen.ensures.made c.in_ok-b-in-Chosen.ensures.made c.in_ok-test-in-Chosen.ensures.made in
    whole_choice names c.in-Chosen.op old c.compared.new.terms c.made-in-Chosen-3.new.terms c.made-in-Chosen-4.new.terms c.choice.new.terms (keeps_then _ _ _ (keeps_then _ _ _ c.made-in-Chosen.ensures.keeps c.made-in-Chosen-2.ensures.keeps) c.compared.ensures.keeps) c.made-in-Chosen-3.ensures.keeps c.made-in-Chosen-4.ensures.keeps (view_expr bytes c.get-in-Chosen.result.now) (view_expr bytes c.get-in-Chosen-2.result.now) (view_expr bytes c.get-in-Chosen-3.result.now) (view_expr bytes c.get-in-Chosen-4.result.now) _ c.in_ok-test-in-Chosen.test.0 c.in_ok-yes-in-Chosen.yes.0 c.in_ok-no-in-Chosen.no.0 c.choice.result v test c.in_ok-yes-in-Chosen.ensures.made c.in_ok-no-in-Chosen.ensures.made c.choice.ensures.made

pub returns-in_ok-a-in-One-clause-keeps : goal.returns-in_ok-a-in-One-clause-keeps
returns-in_ok-a-in-One-clause-keeps t c =
    (keeps_then _ _ _ c.made.ensures.keeps c.one.ensures.keeps)

pub returns-in_ok-a-in-Cut-clause-keeps : goal.returns-in_ok-a-in-Cut-clause-keeps
returns-in_ok-a-in-Cut-clause-keeps t c =
    (keeps_then _ _ _ c.made-in-Cut.ensures.keeps c.extract.ensures.keeps)

pub returns-in_ok-a-in-Widened-clause-keeps : goal.returns-in_ok-a-in-Widened-clause-keeps
returns-in_ok-a-in-Widened-clause-keeps t c =
    (keeps_then _ _ _ c.made-in-Widened.ensures.keeps c.extend.ensures.keeps)

pub returns-in_err-b-in-Two-clause-keeps : goal.returns-in_err-b-in-Two-clause-keeps
returns-in_err-b-in-Two-clause-keeps t c =
    (keeps_then _ _ _ c.made-in-Two.ensures.keeps c.made-in-Two-2.ensures.keeps)

pub returns-in_ok-b-in-Two-clause-keeps : goal.returns-in_ok-b-in-Two-clause-keeps
returns-in_ok-b-in-Two-clause-keeps t c =
    (keeps_then _ _ _ (keeps_then _ _ _ c.made-in-Two.ensures.keeps c.made-in-Two-2.ensures.keeps) c.two.ensures.keeps)

pub returns-in_err-b-in-Joined-clause-keeps : goal.returns-in_err-b-in-Joined-clause-keeps
returns-in_err-b-in-Joined-clause-keeps t c =
    (keeps_then _ _ _ c.made-in-Joined.ensures.keeps c.made-in-Joined-2.ensures.keeps)

pub returns-in_ok-b-in-Joined-clause-keeps : goal.returns-in_ok-b-in-Joined-clause-keeps
returns-in_ok-b-in-Joined-clause-keeps t c =
    (keeps_then _ _ _ (keeps_then _ _ _ c.made-in-Joined.ensures.keeps c.made-in-Joined-2.ensures.keeps) c.concat.ensures.keeps)

pub returns-in_err-b-in-Chosen-clause-keeps : goal.returns-in_err-b-in-Chosen-clause-keeps
returns-in_err-b-in-Chosen-clause-keeps t c =
    (keeps_then _ _ _ c.made-in-Chosen.ensures.keeps c.made-in-Chosen-2.ensures.keeps)

pub returns-in_err-test-in-Chosen-clause-keeps : goal.returns-in_err-test-in-Chosen-clause-keeps
returns-in_err-test-in-Chosen-clause-keeps t c =
    (keeps_then _ _ _ (keeps_then _ _ _ c.made-in-Chosen.ensures.keeps c.made-in-Chosen-2.ensures.keeps) c.compared.ensures.keeps)

pub returns-in_err-yes-in-Chosen-clause-keeps : goal.returns-in_err-yes-in-Chosen-clause-keeps
returns-in_err-yes-in-Chosen-clause-keeps t c =
    (keeps_then _ _ _ (keeps_then _ _ _ (keeps_then _ _ _ c.made-in-Chosen.ensures.keeps c.made-in-Chosen-2.ensures.keeps) c.compared.ensures.keeps) c.made-in-Chosen-3.ensures.keeps)

pub returns-in_err-no-in-Chosen-clause-keeps : goal.returns-in_err-no-in-Chosen-clause-keeps
returns-in_err-no-in-Chosen-clause-keeps t c =
    (keeps_then _ _ _ (keeps_then _ _ _ (keeps_then _ _ _ (keeps_then _ _ _ c.made-in-Chosen.ensures.keeps c.made-in-Chosen-2.ensures.keeps) c.compared.ensures.keeps) c.made-in-Chosen-3.ensures.keeps) c.made-in-Chosen-4.ensures.keeps)

pub returns-in_ok-no-in-Chosen-clause-keeps : goal.returns-in_ok-no-in-Chosen-clause-keeps
returns-in_ok-no-in-Chosen-clause-keeps t c =
    (keeps_then _ _ _ (keeps_then _ _ _ (keeps_then _ _ _ (keeps_then _ _ _ (keeps_then _ _ _ c.made-in-Chosen.ensures.keeps c.made-in-Chosen-2.ensures.keeps) c.compared.ensures.keeps) c.made-in-Chosen-3.ensures.keeps) c.made-in-Chosen-4.ensures.keeps) c.choice.ensures.keeps)
