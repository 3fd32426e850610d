use Rattle.std.proofs.Common.{◌≡◌, ◌<◌, length, arith, sym, ◌∙◌}
use Rattle.stk_tree.specs.View.{view_function}
use Rattle.stk_wide_judge.specs.Wide.{AskedFunction, asked_in}
use Rattle.stk_wide_judge.proofs.Searching.{joined, many_runs, run_of}
use Rattle.stk_wide_judge.proofs.known.Known.add.Goals as goal

pub returns : goal.returns
returns c valid known =
    let a : AskedFunction = asked_in c.args.function.now.tables.now (view_function c.args.function.now.f.now) in
    let full = c.args.self.now.starts.ok in
    let count : c.len-count.result ≡ length c.args.self.now.starts.items = omega arith in
    let few : length c.args.self.now.starts.items < 8192 = omega arith in
    let trace : c.as_slice.result.now ≡ run_of a c.args.start.now.numbers = c.as_slice.ensures.value ∙ c.in_ok-trace.ensures valid in
    joined a c.args.self.now.starts.items c.push.new.self.items c.args.self.now.table c.record.new.self c.args.start.now c.in_ok-copy.copy c.as_slice.result.now known few valid c.in_ok-copy.ensures c.in_ok-push.ensures.items trace
    (c.in_ok-record.ensures _ known.described (count ∙ sym (many_runs a c.args.self.now.starts.items)))
