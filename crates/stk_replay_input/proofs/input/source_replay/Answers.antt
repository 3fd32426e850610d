use Rattle.std.proofs.Common.{◌≡◌, Err, sym, subst, rules}
use Rattle.stk_replay_input.specs.declared.unreplayed.Unreplayed.TheVariants.{NoMemory}
use Rattle.stk_replay_input.specs.Searches.{AnswersSource, no_memory}
use Rattle.stk_replay_input.proofs.Searching.{source_answered}
use Rattle.stk_replay_input.proofs.input.source_replay.Goals as goal

pub returns-in_err-units : goal.returns-in_err-units
returns-in_err-units c =
    let same : c.from_residual.result ≡ Err NoMemory = search rules in
    subst (AnswersSource c.args.source.now c.args.script.now) (sym same) no_memory

pub returns-in_err-input : goal.returns-in_err-input
returns-in_err-input c =
    let same : c.from_residual-in_err-input.result ≡ Err NoMemory = search rules in
    subst (AnswersSource c.args.source.now c.args.script.now) (sym same) no_memory

pub returns : goal.returns
returns c =
    source_answered c.args.source.now c.in_ok-units.units.tokens c.in_ok-units.units.pieces.items c.args.script.now c.in_ok-units.ensures.are c.units_replay.result (rw (c.as_slice.ensures, c.as_slice-2.ensures.value, c.in_ok-input.ensures) at c.units_replay.ensures)
