use Rattle.std.proofs.Common.{◌≤◌, ap, arith}
use Rattle.std.specs.List.{All}
use Rattle.std.proofs.lemmas.List.Elements.{All-push}
use Rattle.stk_lex.specs.Stands.{IsStand}
use Rattle.stk_lex.proofs.places.Places.new.Goals as goal
use Rattle.stk_lex.proofs.places.Places.new.Goals.{then-is_kept+in_ok-push, else-is_kept}

pub loop-stand-preserved : goal.loop-stand-preserved
loop-stand-preserved c =
    let text = c.args.bytes.now in
    let i = c.loop-stand.invariant in
    let stands : All (IsStand text) c.if-is_kept.stands.items = elim c.if-is_kept.branch [
      | then-is_kept+in_ok-push w ↦ rw (ap (λ v. v.items) w.stands-is, w.in_ok-push.ensures.items) (All-push (IsStand text) c.loop-stand.stands.items c.loop-stand.stand i.stands i.stand)
      | else-is_kept w ↦ rw (ap (λ v. v.items) w.stands-is) i.stands
    ] in
    let kept : c.if-is_kept.kept ≤ c.loop-stand.stand.at = elim c.if-is_kept.branch [
      | then-is_kept+in_ok-push w ↦ omega (arith, w.kept-is)
      | else-is_kept w ↦ omega (arith, w.kept-is, i.kept)
    ] in
    record {
      stand = c.step-stand.ensures.stand;
      stands = stands;
      kept = omega (arith, kept, c.step-stand.ensures.further);
    }
