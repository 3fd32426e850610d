use Rattle.std.proofs.Common.{ap, sym, ◌∙◌}
use Rattle.stk_base.specs.Text.{text_of}
use Rattle.stk_scripts.specs.Scripts.{found}
use Rattle.stk_script_reader.proofs.Named.{name_meant}
use Rattle.stk_script_reader.proofs.Steps.{widths_found}
use Rattle.stk_script_reader.proofs.trees.find.Goals as goal

pub returns-in-Some : goal.returns-in-Some
returns-in-Some c = λ list stand exist. name_meant c.args.terms.now (text_of c.args.bytes.now c.args.at) c.in-Some.id.0 list exist (ap (found list) (sym c.text.ensures) ∙ sym (c.in-Some.ensures list stand))

pub returns-in-None : goal.returns-in-None
returns-in-None c = λ list stand exist. widths_found c.args.terms.now list (text_of c.args.bytes.now c.args.at) (ap (found list) (sym c.text.ensures) ∙ sym (c.in-None.ensures list stand))
