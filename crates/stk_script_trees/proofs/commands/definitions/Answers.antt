use Rattle.std.proofs.Common.{map, codes, sym, subst, ap, ◌∙◌, Some}
use Rattle.stk_scripts.specs.Shown.{tokens_shown}
use Rattle.stk_script_trees.specs.Commands.{definitions, read_defined}
use Rattle.stk_script_trees.specs.View.{view_defined}
use Rattle.stk_script_trees.proofs.Rows.{Reading, start, turn, done, defined_shorter, map_one}
use Rattle.stk_script_trees.proofs.commands.definitions.Goals as goal

pub loop-behind-init : goal.loop-behind-init
loop-behind-init c =
    let bytes = c.args.bytes.now in
    let most = c.args.most in
    let ts = tokens_shown bytes c.args.tokens.now in
    record { reading = subst (λ xs. Reading (codes "define-fun") (read_defined most) (map (view_defined bytes) xs) ts (definitions most ts)) (sym c.new-list.ensures.items) (start (codes "define-fun") (read_defined most) ts) }

pub loop-behind-smaller : goal.loop-behind-smaller
loop-behind-smaller c =
    let bytes = c.args.bytes.now in
    let f = c.in_ok-found.found in
    defined_shorter c.args.most (tokens_shown bytes c.loop-behind.rest.now) (tokens_shown bytes c.in-Some.behind.now) (view_defined bytes f.defined, tokens_shown bytes f.rest.now) (sym c.in-Some.ensures) c.in_ok-found.ensures

pub loop-behind-preserved : goal.loop-behind-preserved
loop-behind-preserved c =
    let bytes = c.args.bytes.now in
    let most = c.args.most in
    let f = c.in_ok-found.found in
    let ts = tokens_shown bytes c.loop-behind.rest.now in
    let behind = tokens_shown bytes c.in-Some.behind.now in
    let next = tokens_shown bytes f.rest.now in
    let whole = definitions most (tokens_shown bytes c.args.tokens.now) in
    let xs = map (view_defined bytes) c.loop-behind.list.items in
    let less = defined_shorter most ts behind (view_defined bytes f.defined, next) (sym c.in-Some.ensures) c.in_ok-found.ensures in
    let more = turn (codes "define-fun") (read_defined most) xs ts whole behind (view_defined bytes f.defined, next) c.loop-behind.invariant.reading (sym c.in-Some.ensures) c.in_ok-found.ensures less in
    record { reading = subst (λ ys. Reading (codes "define-fun") (read_defined most) ys next whole) (sym (ap (map (view_defined bytes)) c.in_ok-push.ensures.items ∙ map_one (view_defined bytes) c.loop-behind.list.items f.defined)) more }

pub returns : goal.returns
returns c =
    let bytes = c.args.bytes.now in
    let most = c.args.most in
    let ts = tokens_shown bytes c.loop-behind.rest.now in
    done (codes "define-fun") (read_defined most) (map (view_defined bytes) c.loop-behind.list.items) ts (definitions most (tokens_shown bytes c.args.tokens.now)) c.loop-behind.invariant.reading (sym c.in_default.ensures)
    ∙ ap (λ xs. Some (map (view_defined bytes) xs, ts)) (sym c.from_vec.ensures)
