use Rattle.std.proofs.Common.{◌≡◌, ◌++◌, ap, ◌∙◌}
use Rattle.stk_proofs.specs.Dimacs.{clauses_text, head_text, dimacs_text, dimacs_in}
use Rattle.stk_proofs.proofs.ReadBack.{cnf_back}
use Rattle.stk_proofs.proofs.clause_lists.dimacs.Goals as goal

pub returns-clause-read_back : goal.returns-clause-read_back
returns-clause-read_back c =
    let text : c.add_clauses.new.text.items ≡ dimacs_text c.args.cnf.now =
    c.in_ok-add_clauses.ensures
    ∙ ap (λ t. t ++ clauses_text c.args.cnf.now.store) (c.in_ok-add_head.ensures
    ∙ (ap (λ t. t ++ head_text c.args.cnf.now.vars c.count.result) c.new-text.ensures.items ∙ ap (head_text c.args.cnf.now.vars) c.count.ensures.count)) in
    ap dimacs_in text ∙ cnf_back c.args.cnf.now c.count.ensures.distinct c.requires
