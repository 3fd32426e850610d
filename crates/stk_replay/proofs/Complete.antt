-- Where nothing is wrong with the words, the input and the streams, the replay is written, or memory runs out.
use Rattle.std.proofs.Common.{◌≡◌, ℕ, ◌<◌, ◌≤◌, ◌⊎◌, inl, inr, ◌++◌, List, Option, Some, None, length, refl, ap, arith, length-append, subst}
use Rattle.std.specs.Prelude.{◌↔◌}
use Rattle.stk_base.specs.Limits.{most_bytes}
use Rattle.stk_base.specs.Streams.{Came}
use Rattle.stk_base.proofs.Runs.{came_all}
use Rattle.stk_replay_input.specs.Replays.{HasBadScript, HasLongRun}
use Rattle.stk_replay.specs.declared.status.ReplayStatus.{ReplayStatus}
use Rattle.stk_replay.specs.declared.status.ReplayStatus.TheVariants.{Done, BadWords, ReadFault, WriteFault, TooLarge, NoMemory, BadScript, TooLong}
use Rattle.stk_replay.specs.Ending.{HasReadBadScript, HasReadLongRun}

-- what came out of a source isn't longer than what it had
came_within : (before after : Option (List ℕ)) (came bytes : List ℕ) → Came before after came → before ≡ Some bytes → length came ≤ length bytes
came_within before None came bytes h e = absurd cc
came_within before (Some rest) came bytes h e =
    let same : bytes ≡ came ++ rest = cc in
    omega (arith, ap length same, length-append came rest)

-- L: there are no words; R, W: a count of faults rose
module _ (L R W : Type 0) (before after : Option (List ℕ)) (bytes : List ℕ) (legal : L) (told : before ≡ Some bytes) (short : length bytes ≤ most_bytes) (read : R → ⊥) (written : W → ⊥) (good : HasBadScript bytes → ⊥) (few : HasLongRun bytes → ⊥) where
  none_large : (came : List ℕ) → Came before after came → most_bytes < length came → ⊥
  none_large came h more =
      let within : length came ≤ length bytes = came_within before after came bytes h told in
      omega (arith, more, within, short)

  none_bad : HasReadBadScript before after → ⊥
  none_bad h = good (subst HasBadScript (came_all before after h.bytes bytes h.input.came h.input.spent told).0 h.bad)

  none_long : HasReadLongRun before after → ⊥
  none_long h = few (subst HasLongRun (came_all before after h.bytes bytes h.input.came h.input.spent told).0 h.long)

  pub complete : (result : ReplayStatus) → ((result ≡ BadWords) ↔ (L → ⊥)) → (result ≡ ReadFault → L × R) → (result ≡ WriteFault → W)
      → ((came : List ℕ) × Came before after came × ((result ≡ TooLarge) ↔ (L × (most_bytes < length came))))
      → (result ≡ BadScript → HasReadBadScript before after) → (result ≡ TooLong → HasReadLongRun before after) → (result ≡ Done) ⊎ (result ≡ NoMemory)
  complete Done words reading writing large bad long = inl refl
  complete NoMemory words reading writing large bad long = inr refl
  complete BadWords words reading writing large bad long = absurd (words.0 refl legal)
  complete ReadFault words reading writing large bad long = absurd (read (reading refl).1)
  complete WriteFault words reading writing large bad long = absurd (written (writing refl))
  complete TooLarge words reading writing large bad long = absurd (none_large large.0 large.1 (large.2.0 refl).1)
  complete BadScript words reading writing large bad long = absurd (none_bad (bad refl))
  complete TooLong words reading writing large bad long = absurd (none_long (long refl))
