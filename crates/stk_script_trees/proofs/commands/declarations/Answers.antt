use Rattle.std.proofs.Common.{map, codes, sym, subst, ap, ◌∙◌, Some}
use Rattle.stk_scripts.specs.Shown.{tokens_shown}
use Rattle.stk_script_trees.specs.Commands.{declarations, read_declared}
use Rattle.stk_script_trees.specs.View.{view_declared}
use Rattle.stk_script_trees.proofs.Rows.{Reading, start, turn, done, declared_shorter, map_one}
use Rattle.stk_script_trees.proofs.commands.declarations.Goals as goal

pub loop-behind-init : goal.loop-behind-init
loop-behind-init c =
    let bytes = c.args.bytes.now in
    let ts = tokens_shown bytes c.args.tokens.now in
    record { reading = subst (λ xs. Reading (codes "declare-fun") read_declared (map (view_declared bytes) xs) ts (declarations ts)) (sym c.new-list.ensures.items) (start (codes "declare-fun") read_declared ts) }

pub loop-behind-smaller : goal.loop-behind-smaller
loop-behind-smaller c =
    let bytes = c.args.bytes.now in
    declared_shorter (tokens_shown bytes c.loop-behind.rest.now) (tokens_shown bytes c.in-Some.behind.now) (view_declared bytes c.in-Some-declared.found, tokens_shown bytes c.in-Some-declared.next.now) (sym c.in-Some.ensures) (sym c.in-Some-declared.ensures)

pub loop-behind-preserved : goal.loop-behind-preserved
loop-behind-preserved c =
    let bytes = c.args.bytes.now in
    let ts = tokens_shown bytes c.loop-behind.rest.now in
    let behind = tokens_shown bytes c.in-Some.behind.now in
    let next = tokens_shown bytes c.in-Some-declared.next.now in
    let found = c.in-Some-declared.found in
    let whole = declarations (tokens_shown bytes c.args.tokens.now) in
    let xs = map (view_declared bytes) c.loop-behind.list.items in
    let less = declared_shorter ts behind (view_declared bytes found, next) (sym c.in-Some.ensures) (sym c.in-Some-declared.ensures) in
    let more = turn (codes "declare-fun") read_declared xs ts whole behind (view_declared bytes found, next) c.loop-behind.invariant.reading (sym c.in-Some.ensures) (sym c.in-Some-declared.ensures) less in
    record { reading = subst (λ ys. Reading (codes "declare-fun") read_declared ys next whole) (sym (ap (map (view_declared bytes)) c.in_ok-push.ensures.items ∙ map_one (view_declared bytes) c.loop-behind.list.items found)) more }

pub returns : goal.returns
returns c =
    let bytes = c.args.bytes.now in
    let ts = tokens_shown bytes c.loop-behind.rest.now in
    done (codes "declare-fun") read_declared (map (view_declared bytes) c.loop-behind.list.items) ts (declarations (tokens_shown bytes c.args.tokens.now)) c.loop-behind.invariant.reading (sym c.in_default.ensures)
    ∙ ap (λ xs. Some (map (view_declared bytes) xs, ts)) (sym c.from_vec.ensures)
