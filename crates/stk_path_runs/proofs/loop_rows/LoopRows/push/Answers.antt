use Rattle.std.proofs.Common.{◌≡◌, length, arith}
use Rattle.stk_path_runs.specs.declared.loop_rows.LoopRows.{LoopRows}
use Rattle.stk_path_runs.proofs.Rowed.{row_places-push}
use Rattle.stk_path_runs.proofs.loop_rows.LoopRows.push.Goals as goal

pub returns-clause-places : goal.returns-clause-places
returns-clause-places c h =
    let now : LoopRows = record { rows = c.push.new.self; places = c.put.new.self } in
    let count : c.len-place.result ≡ length c.args.self.now.rows.items = omega (arith, c.len-place.ensures, c.args.self.now.rows.ok.0) in
    row_places-push c.args.self.now now c.args.row c.len-place.result count c.in_ok-push.ensures.items c.in_ok-put.ensures h
