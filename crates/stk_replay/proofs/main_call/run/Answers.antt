use Rattle.std.proofs.Common.{Err, length, eqb-true, sym, ap, subst, ◌∙◌}
use Rattle.std.proofs.lemmas.List.{nil_from_length}
use Rattle.stk_replay_input.specs.Replays.{HasBadScript, HasLongRun}
use Rattle.stk_replay.proofs.Limited.{unread, was_read, not_large}
use Rattle.stk_replay.proofs.main_call.run.Goals as goal

pub returns-in-Ok-clause-bad_only : goal.returns-in-Ok-clause-bad_only
returns-in-Ok-clause-bad_only g c = λ bytes none left small safe bad.
    c.write_replay.ensures.bad_only (subst HasBadScript (sym (c.as_slice.ensures.value ∙ (c.in-Ok.ensures.told bytes left).0)) bad)

pub returns-in-Ok-clause-long_only : goal.returns-in-Ok-clause-long_only
returns-in-Ok-clause-long_only g c = λ bytes none left small safe long.
    c.write_replay.ensures.long_only (subst HasLongRun (sym (c.as_slice.ensures.value ∙ (c.in-Ok.ensures.told bytes left).0)) long)

pub returns-then-not-is_empty-clause-too_large : goal.returns-then-not-is_empty-clause-too_large
returns-then-not-is_empty-clause-too_large g c = unread _ (g.S.Source.left c.args.source.now)

pub returns-in-Ok-clause-too_large : goal.returns-in-Ok-clause-too_large
returns-in-Ok-clause-too_large g c =
    was_read _ _ (g.S.Source.left c.args.source.now) (g.S.Source.left c.read_all.new.source) c.write_replay.result _ (nil_from_length c.args.words.now (eqb-true (length c.args.words.now) 0 (sym c.if-not-is_empty.ensures)))
    (λ e. absurd (not_large c.write_replay.result c.write_replay.ensures.only e)) (λ e. absurd cc) c.in-Ok.ensures.too_large

pub returns-in-Err-clause-too_large : goal.returns-in-Err-clause-too_large
returns-in-Err-clause-too_large g c =
    was_read _ _ (g.S.Source.left c.args.source.now) (g.S.Source.left c.read_all.new.source) c.refused.result _ (nil_from_length c.args.words.now (eqb-true (length c.args.words.now) 0 (sym c.if-not-is_empty.ensures)))
    (λ e. ap Err (c.refused.ensures.too_large.0 e)) (λ e. c.refused.ensures.too_large.1 cc) c.in-Err.ensures.too_large
