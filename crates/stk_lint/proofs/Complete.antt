-- Where nothing is wrong, what is asked for is written, there is no such candidate, or memory runs out.
use Rattle.std.proofs.Common.{◌≡◌, ℕ, ◌<◌, ◌≤◌, ◌⊎◌, inl, inr, ◌++◌, List, Option, Some, None, length, refl, ap, arith, length-append}
use Rattle.std.specs.Prelude.{◌↔◌}
use Rattle.stk_base.specs.declared.status.Status.{Status}
use Rattle.stk_base.specs.declared.status.Status.TheVariants.{Stable, Found, Unsure, BadWords, ReadFault, WriteFault, TooLarge, NoMemory, NoCandidate}
use Rattle.stk_base.specs.Streams.{Came}
use Rattle.stk_lint.specs.Lint.{IsWritten, IsUnread}

-- what came out of a source isn't longer than what it had
came_within : (before after : Option (List ℕ)) (came bytes : List ℕ) → Came before after came → before ≡ Some bytes → length came ≤ length bytes
came_within before None came bytes h e = absurd cc
came_within before (Some rest) came bytes h e =
    let same : bytes ≡ came ++ rest = cc in
    omega (arith, ap length same, length-append came rest)

-- how a run may end; S: the words ask for a script
abbrev Ends : Type 0 → Status → Type 0
Ends S result = IsWritten result ⊎ (IsUnread result ⊎ (((result ≡ NoCandidate) × S) ⊎ ((result ≡ WriteFault) ⊎ (result ≡ NoMemory))))

-- where there is no such candidate the words ask for a script
script_asked : (S : Type 0) → Ends S NoCandidate → S
script_asked S (inl h) = absurd h
script_asked S (inr (inl h)) = absurd h
script_asked S (inr (inr (inl h))) = h.1
script_asked S (inr (inr (inr (inl e)))) = absurd cc
script_asked S (inr (inr (inr (inr e)))) = absurd cc

-- L: the words are legal; A: they ask for reading; S: they ask for a script; R, W: a count of faults rose
module _ (L A S : Type 0) (before after : Option (List ℕ)) (R W : Type 0) where
  pub complete : (result : Status)
      → Ends S result
      → ((result ≡ BadWords) ↔ (L → ⊥))
      → (result ≡ ReadFault → A × R)
      → (result ≡ WriteFault → W)
      → ((came : List ℕ) × Came before after came × ((result ≡ TooLarge) ↔ (A × (16777216 < length came))))
      → (bytes : List ℕ) → L → before ≡ Some bytes → length bytes ≤ 16777216 → ¬ R → ¬ W → IsWritten result ⊎ (((result ≡ NoCandidate) × S) ⊎ (result ≡ NoMemory))
  complete Stable only bad read write large bytes legal told short r w = inl tt
  complete Found only bad read write large bytes legal told short r w = inl tt
  complete Unsure only bad read write large bytes legal told short r w = inl tt
  complete BadWords only bad read write large bytes legal told short r w = absurd (bad.0 refl legal)
  complete ReadFault only bad read write large bytes legal told short r w = absurd (r (read refl).1)
  complete WriteFault only bad read write large bytes legal told short r w = absurd (w (write refl))
  complete TooLarge only bad read write large bytes legal told short r w =
      let more : 16777216 < length large.0 = (large.2.0 refl).1 in
      let within : length large.0 ≤ length bytes = came_within before after large.0 bytes large.1 told in
      absurd (omega arith)
  complete NoMemory only bad read write large bytes legal told short r w = inr (inr refl)
  complete NoCandidate only bad read write large bytes legal told short r w = inr (inl (refl, script_asked S only))

  -- where the words don't ask for reading
  pub complete_generated : (result : Status)
      → Ends S result
      → (S → A)
      → ((result ≡ BadWords) ↔ (L → ⊥))
      → (result ≡ ReadFault → A × R)
      → (result ≡ WriteFault → W)
      → ((came : List ℕ) × Came before after came × ((result ≡ TooLarge) ↔ (A × (16777216 < length came))))
      → L → (A → ⊥) → ¬ W → IsWritten result ⊎ (result ≡ NoMemory)
  complete_generated Stable only reads bad read write large legal unread w = inl tt
  complete_generated Found only reads bad read write large legal unread w = inl tt
  complete_generated Unsure only reads bad read write large legal unread w = inl tt
  complete_generated BadWords only reads bad read write large legal unread w = absurd (bad.0 refl legal)
  complete_generated ReadFault only reads bad read write large legal unread w = absurd (unread (read refl).0)
  complete_generated WriteFault only reads bad read write large legal unread w = absurd (w (write refl))
  complete_generated TooLarge only reads bad read write large legal unread w = absurd (unread (large.2.0 refl).0)
  complete_generated NoMemory only reads bad read write large legal unread w = inr refl
  complete_generated NoCandidate only reads bad read write large legal unread w = absurd (unread (reads (script_asked S only)))
