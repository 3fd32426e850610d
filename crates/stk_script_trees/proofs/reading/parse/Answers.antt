use Rattle.stk_script_trees.proofs.Parsed.{spelled_of, shallow_of, only_of, bad_of}
use Rattle.stk_script_trees.proofs.reading.parse.Goals as goal

pub returns-clause-spelled : goal.returns-clause-spelled
returns-clause-spelled c = spelled_of c.args.bytes.now c.read_text.result c.read_text.ensures

pub returns-clause-shallow : goal.returns-clause-shallow
returns-clause-shallow c = shallow_of c.args.bytes.now c.read_text.result c.read_text.ensures

pub returns-clause-only : goal.returns-clause-only
returns-clause-only c = only_of c.args.bytes.now c.read_text.result c.read_text.ensures

pub returns-clause-bad : goal.returns-clause-bad
returns-clause-bad c = bad_of c.args.bytes.now c.read_text.result c.read_text.ensures
