-- Each text has a lawful text of records: it has a cut, the cut has units, and each unit has lines.
use Rattle.std.proofs.Common.{ℕ, List, [], ◌++◌, refl}
use Rattle.stk_base.specs.declared.status.Status.{Status}
use Rattle.stk_lex.specs.Skimming.{kept_tokens, notes_of}
use Rattle.stk_lex.specs.Units.{units_of}
use Rattle.stk_lex.proofs.UnitCuts.{cut_joined}
use Rattle.stk_text_laws.proofs.Cutting.{cut_of}
use Rattle.stk_type_laws.proofs.Kept.{units_keep_order}
use Rattle.stk_records.specs.declared.options.Options.{Options}
use Rattle.stk_lint.specs.Marks.{lines_marks}
use Rattle.stk_records.specs.Form.{written_records, written_summary}
use Rattle.stk_units.specs.Counted.{status_of}
use Rattle.stk_lint.specs.LawfulText.{IsLawfulText}
use Rattle.stk_lint.proofs.Units.{lines_of_units}

pub records_of : (bytes : List ℕ) (o : Options) → (text : List ℕ) × ((status : Status) × ((marks : ℕ) × IsLawfulText bytes o text status marks))
records_of bytes o =
    let cut = cut_of bytes in
    let kept = kept_tokens bytes cut.0 in
    let notes = notes_of bytes cut.0 in
    let joined = cut_joined bytes kept notes (units_of bytes kept notes) (record { all = λ order. refl; bounds = refl }) in
    let units = lines_of_units bytes o kept [] 0 (units_of bytes kept notes) units_keep_order.first joined in (
      written_records o units.lines ++ written_summary o.json o.without units.counts,
      (
        status_of units.counts.unstable units.counts.undecided,
        (
          lines_marks units.lines,
          record {
            lines = units.lines;
            counts = units.counts;
            units = record { tokens = cut.0; cut = cut.1; units = units.are };
            same_text = refl;
            same_status = refl;
            same_marks = refl;
          },
        ),
      ),
    )
