use Rattle.std.proofs.Common.{ap, ◌∙◌}
use Rattle.serde_json.specs.Written.{compact_text, has_float}
use Rattle.stk_records.proofs.Floats.{no_float}
use Rattle.stk_records.proofs.json.object_text.Goals as goal

pub returns : goal.returns
returns c = let e = c.in_ok-value.ensures in c.in_ok-text.ensures.text (ap has_float e ∙ no_float c.args.line.now) ∙ ap compact_text e
