use Rattle.std.proofs.Common.{◌≡◌, ℕ, ◌∙◌, ap, rules, arith, List}
use Rattle.std.specs.Prelude.{unwrap_or, nat_eq}
use Rattle.indexmap.specs.IndexMap.{get}
use Rattle.std.proofs.lemmas.Grind.{common_steps}
use Rattle.stk_memory.specs.declared.image.Cell.{Cell}
use Rattle.stk_meaning.specs.Memory.{put_all}
use Rattle.stk_memory.specs.Image.{writes_of}
use Rattle.stk_memory.proofs.Cells.{image_is}
use Rattle.stk_memory.proofs.bytes.Bytes.of.Goals as goal

pub returns : goal.returns
returns c =
    let fill : ℕ = c.args.image.now.fill in
    let none : (a : ℕ) → unwrap_or (get nat_eq c.new.result a) fill ≡ fill = λ a. first_of (search rules, grind (arith, common_steps)) in
    c.in_ok-put_all.ensures ∙ ap (λ (cs : List Cell). put_all (writes_of cs) (λ a. unwrap_or (get nat_eq c.new.result a) fill)) c.as_slice.ensures
    ∙ image_is c.args.image.now.cells (λ a. unwrap_or (get nat_eq c.new.result a) fill) fill c.requires none
