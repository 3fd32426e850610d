use Rattle.std.proofs.Common.{ap}
use Rattle.std.proofs.lemmas.Result.{on_ok_weaker}
use Rattle.stk_function_env.specs.Infos.{info_in, key_in}
use Rattle.stk_path_runs.specs.declared.key_index.LoopKey.{LoopKey}
use Rattle.stk_path_runs.specs.declared.key_index.KeyIndex.{KeyIndex}
use Rattle.stk_path_runs.proofs.Indexed.{PutsSlot, PutsLoop, push_parameter, push_address, push_unset, push_load, push_call, push_loop}
use Rattle.stk_path_runs.proofs.key_index.KeyIndex.push.Goals as goal

pub returns-in-Parameter : goal.returns-in-Parameter
returns-in-Parameter c =
    on_ok_weaker c.put.result (λ (puts : PutsSlot c.args.self.now.parameters c.put.new.self c.in-Parameter.node c.args.place) keys count h. push_parameter c.args.self.now c.put.new.self c.in-Parameter.node c.args.place keys (info_in c.args.info.now) (ap key_in c.in-Parameter.is) puts count h) c.put.ensures

pub returns-in-Address : goal.returns-in-Address
returns-in-Address c =
    on_ok_weaker c.put-in-Address.result (λ (puts : PutsSlot c.args.self.now.addresses c.put-in-Address.new.self c.in-Address.node c.args.place) keys count h. push_address c.args.self.now c.put-in-Address.new.self c.in-Address.node c.args.place keys (info_in c.args.info.now) (ap key_in c.in-Address.is) puts count h) c.put-in-Address.ensures

pub returns-in-Unset : goal.returns-in-Unset
returns-in-Unset c =
    on_ok_weaker c.put-in-Unset.result (λ (puts : PutsSlot c.args.self.now.unset c.put-in-Unset.new.self c.in-Unset.node c.args.place) keys count h. push_unset c.args.self.now c.put-in-Unset.new.self c.in-Unset.node c.args.place keys (info_in c.args.info.now) (ap key_in c.in-Unset.is) puts count h) c.put-in-Unset.ensures

pub returns-in-Load : goal.returns-in-Load
returns-in-Load c =
    on_ok_weaker c.put-in-Load.result (λ (puts : PutsSlot c.args.self.now.loads c.put-in-Load.new.self c.in-Load.node c.args.place) keys count h. push_load c.args.self.now c.put-in-Load.new.self c.in-Load.node c.args.place keys (info_in c.args.info.now) (ap key_in c.in-Load.is) puts count h) c.put-in-Load.ensures

pub returns-in-Call : goal.returns-in-Call
returns-in-Call c =
    on_ok_weaker c.put-in-Call.result (λ (puts : PutsSlot c.args.self.now.calls c.put-in-Call.new.self c.in-Call.node c.args.place) keys count h. push_call c.args.self.now c.put-in-Call.new.self c.in-Call.node c.args.place keys (info_in c.args.info.now) (ap key_in c.in-Call.is) puts count h) c.put-in-Call.ensures

pub returns-in-Loop : goal.returns-in-Loop
returns-in-Loop c =
    let key : LoopKey = record { node = c.in-Loop.node; register = c.in-Loop.register } in
    let now : KeyIndex = record c.args.self.now { loops = c.put_loop.new.loops } in
    on_ok_weaker c.put_loop.result (λ (puts : PutsLoop c.args.self.now now key c.args.place) keys count h. push_loop c.args.self.now now key c.args.place keys (info_in c.args.info.now) (ap key_in c.in-Loop.is) puts count h) c.put_loop.ensures
