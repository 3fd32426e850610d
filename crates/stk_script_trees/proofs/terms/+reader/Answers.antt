use Rattle.std.proofs.Common.{ap, sym, ◌∙◌, Some}
use Rattle.stk_scripts.specs.Syntax.{one_of, two_of, joined, cut, widened}
use Rattle.stk_scripts.specs.Shown.{tokens_shown}
use Rattle.stk_scripts.specs.Reading.{Front, Test, ◌>>=◌, read_term, two_operands, choice_of, indexed}
use Rattle.stk_script_trees.specs.Heads.{index_shown}
use Rattle.stk_script_trees.specs.View.{view_test}
use Rattle.stk_script_trees.proofs.Words.{one_by, two_by, cut_read, widened_read}
use Rattle.stk_script_trees.proofs.terms.+reader.Goals as goal

pub unary-returns : goal.unary-returns
unary-returns t c =
    let bytes = c.args.bytes.now in
    let rest = tokens_shown bytes c.in_ok-found.found.rest.now in
    one_by (read_term c.args.inner) (one_of c.args.op) (tokens_shown bytes c.args.tokens.now) _ c.in_ok-found.ensures ∙ ap (λ e. Some (e, rest)) (sym (c.in_ok-one.ensures bytes))

pub binary-returns : goal.binary-returns
binary-returns t c =
    let bytes = c.args.bytes.now in
    let rest = tokens_shown bytes c.in_ok-found.found.rest.now in
    two_by (read_term c.args.inner) (two_of c.args.op) (tokens_shown bytes c.args.tokens.now) _ c.in_ok-found.ensures ∙ ap (λ e. Some (e, rest)) (sym (c.in_ok-two.ensures bytes))

pub concat-returns : goal.concat-returns
concat-returns t c =
    let bytes = c.args.bytes.now in
    let rest = tokens_shown bytes c.in_ok-found.found.rest.now in
    two_by (read_term c.args.inner) joined (tokens_shown bytes c.args.tokens.now) _ c.in_ok-found.ensures ∙ ap (λ e. Some (e, rest)) (sym (c.in_ok-joined.ensures bytes))

pub choice-returns : goal.choice-returns
choice-returns t c =
    let bytes = c.args.bytes.now in
    let rest = tokens_shown bytes c.in_ok-found.found.rest.now in
    let compared = c.in_ok-compared in
    ap (λ (o : Front Test). o >>= λ u. two_operands (read_term c.args.inner) (choice_of u.0) u.1) compared.ensures
    ∙ two_by (read_term c.args.inner) (choice_of (view_test bytes compared.compared.test)) (tokens_shown bytes compared.compared.rest.now) _ c.in_ok-found.ensures
    ∙ ap (λ e. Some (e, rest)) (sym (c.in_ok-chosen.ensures bytes))

pub indexed-returns-in_ok-cut-in-Extract : goal.indexed-returns-in_ok-cut-in-Extract
indexed-returns-in_ok-cut-in-Extract t c =
    let bytes = c.args.bytes.now in
    let ts = tokens_shown bytes c.args.tokens.now in
    let inside = c.in-Some in
    let rest = tokens_shown bytes c.in_ok-found-in-Extract.found.rest.now in
    ap (λ i. indexed (read_term c.args.inner) (index_shown i) ts) c.in-Extract.is
    ∙ cut_read (read_term c.args.inner) ts (inside.high, inside.low, tokens_shown bytes inside.rest.now) (sym inside.ensures)
    ∙ one_by (read_term c.args.inner) (cut inside.high inside.low) (tokens_shown bytes inside.rest.now) _ c.in_ok-found-in-Extract.ensures
    ∙ ap (λ e. Some (e, rest)) (sym (c.in_ok-cut-in-Extract.ensures bytes))

pub indexed-returns-in_ok-widened-in-Extend : goal.indexed-returns-in_ok-widened-in-Extend
indexed-returns-in_ok-widened-in-Extend t c =
    let bytes = c.args.bytes.now in
    let ts = tokens_shown bytes c.args.tokens.now in
    let inside = c.in-Some-count in
    let rest = tokens_shown bytes c.in_ok-found-in-Extend.found.rest.now in
    ap (λ i. indexed (read_term c.args.inner) (index_shown i) ts) c.in-Extend.is
    ∙ widened_read (read_term c.args.inner) c.in-Extend.op ts (inside.more, tokens_shown bytes inside.rest.now) (sym inside.ensures)
    ∙ one_by (read_term c.args.inner) (widened c.in-Extend.op inside.more) (tokens_shown bytes inside.rest.now) _ c.in_ok-found-in-Extend.ensures
    ∙ ap (λ e. Some (e, rest)) (sym (c.in_ok-widened-in-Extend.ensures bytes))
