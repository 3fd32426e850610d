use Rattle.std.proofs.Common.{◌≡◌, ℕ, ◌<◌, ◌++◌, ◌∷◌, [], List, ap, subst, sym, ◌∙◌, codes, length}
use Rattle.stk_terms.specs.declared.term.TermId.{TermId}
use Rattle.stk_terms.specs.Terms.{term_at, nth}
use Rattle.stk_terms.specs.Values.{width_at}
use Rattle.stk_scripts.specs.Tokens.{expr_tokens}
use Rattle.stk_scripts.specs.Texts.{laid}
use Rattle.stk_terms.proofs.Reading.{there}
use Rattle.stk_smtlib.specs.Written.{head_tokens, body_of, body_text}
use Rattle.stk_smtlib.proofs.Laid.{defined_line, three_joined}
use Rattle.stk_smtlib.proofs.Arguments.{argument_there}
use Rattle.stk_smtlib.proofs.commands.add_defined.Goals as goal

pub width-width-requires : goal.width-width-requires
width-width-requires c =
    let s = c.args.terms.now in
    let same = c.args-args.ensures (term_at s c.args.id.0) (there s c.count.ensures.sound c.args.id.0 c.requires) in
    subst (λ (i : ℕ). i < length s.terms) (sym (c.argument.ensures ∙ ap (λ (args : List TermId). nth args 0) same)) (argument_there s c.count.ensures.sound c.args.id.0 c.requires 0)

pub returns : goal.returns
returns c =
    let s = c.args.terms.now in
    let j = c.args.id.0 in
    let t = term_at s j in
    let stands = there s c.count.ensures.sound j c.requires in
    let args = c.args-args.ensures t stands in
    let first = c.argument.ensures ∙ ap (λ (l : List TermId). nth l 0) args in
    let head = laid (head_tokens j (width_at s j)) ++ 32 ∷ [] in
    let body = laid (expr_tokens (body_of s t)) in
    let wide : c.width-width.result ≡ width_at s (nth t.args 0) = c.width-width.ensures.is ∙ ap (width_at s) first in
    let same : body_text c.op.result c.width-width.result (nth c.args-args.result.now 0) (nth c.args-args.result.now 1) (nth c.args-args.result.now 2) ≡ body =
    ap (λ op. body_text op c.width-width.result (nth c.args-args.result.now 0) (nth c.args-args.result.now 1) (nth c.args-args.result.now 2)) (c.op.ensures t stands)
    ∙ ap (λ w. body_text t.op w (nth c.args-args.result.now 0) (nth c.args-args.result.now 1) (nth c.args-args.result.now 2)) wide
    ∙ ap (λ (l : List TermId). body_text t.op (width_at s (nth t.args 0)) (nth l 0) (nth l 1) (nth l 2)) args in
    let begun : c.add_head.new.text.items ≡ c.args.text.now.items ++ head = c.in_ok-add_head.ensures ∙ ap (λ w. c.args.text.now.items ++ (laid (head_tokens j w) ++ 32 ∷ [])) c.width.ensures.is in
    c.in_ok-add.ensures
    ∙ ap (λ u. u ++ codes ")\n") (c.in_ok-add_body.ensures ∙ ap (λ u. c.add_head.new.text.items ++ u) same ∙ ap (λ u. u ++ body) begun)
    ∙ three_joined c.args.text.now.items head body (codes ")\n")
    ∙ ap (λ u. c.args.text.now.items ++ u) (sym (defined_line j (width_at s j) (body_of s t)))
