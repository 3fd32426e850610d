-- Where more came of an input than the limit.
use Rattle.std.proofs.Common.{◌≡◌, ℕ, ◌<◌, ◌≤◌, ◌⊎◌, inl, inr, List, [], Option, length, arith}
use Rattle.std.specs.Prelude.{◌↔◌}
use Rattle.stk_base.specs.Limits.{most_bytes}
use Rattle.stk_base.specs.Streams.{Came}
use Rattle.stk_base.proofs.Runs.{came_nothing}
use Rattle.stk_replay.specs.declared.status.ReplayStatus.{ReplayStatus}
use Rattle.stk_replay.specs.declared.status.ReplayStatus.TheVariants.{Done, BadWords, WriteFault, TooLarge, NoMemory, BadScript, TooLong}

-- it is answered exactly where there are no words, which is W, and more came
abbrev IsLimited : Type 0 → Option (List ℕ) → Option (List ℕ) → ReplayStatus → Type 0
IsLimited W before after status = (came : List ℕ) × Came before after came × ((status ≡ TooLarge) ↔ (W × (most_bytes < length came)))

-- nothing was read
pub unread : (W : Type 0) (left : Option (List ℕ)) → IsLimited W left left BadWords
unread W left = ([], came_nothing left, (λ e. absurd cc, λ h. absurd (omega (arith, h.1))))

-- the input was read, and R says that more came
pub was_read : (W R : Type 0) (before after : Option (List ℕ)) (status : ReplayStatus) (most : ℕ) → W → (status ≡ TooLarge → R) → (R → status ≡ TooLarge)
    → ((came : List ℕ) × Came before after came × (R ↔ (most_bytes < length came)) × (length came ≤ most)) → IsLimited W before after status
was_read W R before after status most none large told h = (h.0, h.1, (λ e. (none, h.2.0 (large e)), λ x. told (h.2.1 x.1)))

-- what was read whole is answered otherwise
pub not_large : (status : ReplayStatus) → (status ≡ Done) ⊎ ((status ≡ BadScript) ⊎ ((status ≡ TooLong) ⊎ ((status ≡ WriteFault) ⊎ (status ≡ NoMemory)))) → status ≡ TooLarge → ⊥
not_large status (inl is) e = cc
not_large status (inr (inl is)) e = cc
not_large status (inr (inr (inl is))) e = cc
not_large status (inr (inr (inr (inl is)))) e = cc
not_large status (inr (inr (inr (inr is)))) e = cc
