use Rattle.std.proofs.Common.{◌≡◌, ◌≤◌, length, ap, arith}
use Rattle.stk_gates.specs.Tables.{gate_count}
use Rattle.stk_symbol_tests.proofs.Rooms.{room_of}
use Rattle.stk_symbol_tests.proofs.arithmetic.row_of.Goals as goal

pub circuit-requires-clause-room : goal.circuit-requires-clause-room
circuit-requires-clause-room c =
    let long : length c.deref-2.result.now ≡ c.args.width = omega (arith, c.deref-2.ensures.len) in
    room_of (gate_count c.args.gates.now) c.args.width (length c.deref-2.result.now) long c.requires.few c.requires.room
