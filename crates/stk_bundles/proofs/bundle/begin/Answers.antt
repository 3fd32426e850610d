use Rattle.std.proofs.Common.{List, length, map, ap, subst, ◌∙◌, ℕ}
use Rattle.std.specs.Prelude.{OnOk, OnErr}
use Rattle.stk_base.specs.Streams.{Appended, AppendedPrefix}
use Rattle.stk_bundle.specs.declared.line.BundleLine.{BundleLine}
use Rattle.stk_bundle.specs.Bundles.{parts_text}
use Rattle.stk_bundle.specs.Heads.{head_lines}
use Rattle.stk_claims.specs.Parts.{alone}
use Rattle.stk_bundles.proofs.bundle.begin.Goals as goal

pub returns-clause-all : goal.returns-clause-all
returns-clause-all g c =
    let f = c.args.file.now in
    let same = c.as_slice.ensures.value ∙ c.in_ok-lines.ensures ∙ ap (λ (b : List ℕ). head_lines (length b) f.without) c.bytes.ensures in
    subst (λ (ls : List BundleLine). OnOk c.write_lines.result (Appended (g.K.Sink.taken c.args.out.now) (g.K.Sink.taken c.write_lines.new.out) (parts_text (map alone ls)))) same c.write_lines.ensures.all

pub returns-clause-prefix : goal.returns-clause-prefix
returns-clause-prefix g c =
    let f = c.args.file.now in
    let same = c.as_slice.ensures.value ∙ c.in_ok-lines.ensures ∙ ap (λ (b : List ℕ). head_lines (length b) f.without) c.bytes.ensures in
    subst (λ (ls : List BundleLine). OnErr c.write_lines.result (AppendedPrefix (g.K.Sink.taken c.args.out.now) (g.K.Sink.taken c.write_lines.new.out) (parts_text (map alone ls)))) same c.write_lines.ensures.prefix
