use Rattle.std.proofs.Common.{List, ℕ, sym, subst, ap, ◌∙◌}
use Rattle.stk_tree.specs.View.{view_function}
use Rattle.stk_function_types.specs.Nodes.{typing_in}
use Rattle.stk_terms.specs.Terms.{Stored}
use Rattle.stk_query_scripts.proofs.Scripted.{scripted, key_widths}
use Rattle.stk_query_scripts.proofs.scripts.query_script.Goals as goal

pub script-requires-clause-exists : goal.script-requires-clause-exists
script-requires-clause-exists c = rw c.terms.ensures.same c.in_ok-goal.ensures.exists

pub script-requires-clause-one : goal.script-requires-clause-one
script-requires-clause-one c = rw c.terms.ensures.same c.in_ok-goal.ensures.one

pub returns : goal.returns
returns c =
    let q = c.args.query.now in
    let t = c.args.tables.now in
    let ty = typing_in t.places.types in
    let f = view_function c.args.f.now in
    let s = c.in_ok-goal.goal.symbols.terms in
    scripted ty t.places.without f q.candidate q.set.now s c.terms.result.now c.in_ok-goal.goal.term.0 c.in_ok-text.text.items c.terms.ensures.same c.in_ok-text.ensures.read (key_widths ty t.places.without f s.inputs c.in_ok-goal.ensures.goal.inputs) c.in_ok-text.ensures.means c.in_ok-goal.ensures.exact
