use Rattle.std.proofs.Common.{refl, ◌∙◌, subst}
use Rattle.stk_replay_script.proofs.ScriptTexts.{read_input, start_here, fill_here, fill_same, cells_here, cells_same, replies_here, replies_same, turns_here, turns_same, source_here, CellsFound, RepliesFound, script_of}
use Rattle.stk_replay_script.proofs.reading.read_script.Goals as goal

pub returns-in_default : goal.returns-in_default
returns-in_default c s source h = let r = read_input c.args.bytes.now s source h in c.in_default.ensures s.function r.named r.function

pub returns-in_default-field : goal.returns-in_default-field
returns-in_default-field c s source h =
    let r = read_input c.args.bytes.now s source h in
    c.in_default-field.ensures s.start r.started (start_here r c.in-Some.ensures)

pub returns-in_default-number_field : goal.returns-in_default-number_field
returns-in_default-number_field c s source h =
    let r = read_input c.args.bytes.now s source h in
    c.in_default-number_field.ensures s.memory.fill r.filled (fill_here r c.in-Some.ensures c.in-Some-field.ensures)

pub returns-in_default-2 : goal.returns-in_default-2
returns-in_default-2 c s source h =
    let r = read_input c.args.bytes.now s source h in
    let none = subst (CellsFound c.in-Some-number_field.filled.now) c.in_default-2.is c.in_ok-cells.ensures in
    none s.memory.cells r.listed (cells_here r (fill_same r c.in-Some.ensures c.in-Some-field.ensures c.in-Some-number_field.ensures).1)

pub returns-in_default-3 : goal.returns-in_default-3
returns-in_default-3 c s source h =
    let r = read_input c.args.bytes.now s source h in
    let cells = subst (CellsFound c.in-Some-number_field.filled.now) c.in-Some-2.is c.in_ok-cells.ensures in
    let none = subst (RepliesFound c.in-Some-2.listed.now) c.in_default-3.is c.in_ok-replies.ensures in
    none s.replies r.replied (replies_here r (cells_same r (fill_same r c.in-Some.ensures c.in-Some-field.ensures c.in-Some-number_field.ensures).1 cells).1)

pub returns-in_default-number_field-2 : goal.returns-in_default-number_field-2
returns-in_default-number_field-2 c s source h =
    let r = read_input c.args.bytes.now s source h in
    let cells = subst (CellsFound c.in-Some-number_field.filled.now) c.in-Some-2.is c.in_ok-cells.ensures in
    let replies = subst (RepliesFound c.in-Some-2.listed.now) c.in-Some-3.is c.in_ok-replies.ensures in
    let listed = (cells_same r (fill_same r c.in-Some.ensures c.in-Some-field.ensures c.in-Some-number_field.ensures).1 cells).1 in
    c.in_default-number_field-2.ensures s.turns r.turned (turns_here r (replies_same r listed replies).1)

pub returns-in_default-source_behind : goal.returns-in_default-source_behind
returns-in_default-source_behind c s source h =
    let r = read_input c.args.bytes.now s source h in
    let cells = subst (CellsFound c.in-Some-number_field.filled.now) c.in-Some-2.is c.in_ok-cells.ensures in
    let replies = subst (RepliesFound c.in-Some-2.listed.now) c.in-Some-3.is c.in_ok-replies.ensures in
    let listed = (cells_same r (fill_same r c.in-Some.ensures c.in-Some-field.ensures c.in-Some-number_field.ensures).1 cells).1 in
    c.in_default-source_behind.ensures source (source_here r (turns_same r (replies_same r listed replies).1 c.in-Some-number_field-2.ensures).1)

pub returns : goal.returns
returns c =
    let cells = subst (CellsFound c.in-Some-number_field.filled.now) c.in-Some-2.is c.in_ok-cells.ensures in
    let replies = subst (RepliesFound c.in-Some-2.listed.now) c.in-Some-3.is c.in_ok-replies.ensures in
    script_of _ c.in-Some.ensures c.in-Some-field.ensures c.in-Some-number_field.ensures cells replies c.in-Some-number_field-2.ensures c.in-Some-source_behind.ensures
    (c.from_vec-function.ensures ∙ c.in_ok-from_slice.ensures.items) (c.from_vec-start.ensures ∙ c.in_ok-from_slice-2.ensures.items) refl refl refl refl
