-- How runs of reads and of writes add up.
use Rattle.std.proofs.Common.{◌≡◌, ◌≤◌, ◌<◌, ◌+◌, ◌-◌, ℕ, List, [], ◌++◌, length, take, drop, Option, Some, None, Result, Ok, Err, IfOk, IsErrOf, IsErrAnd, refl, sym, ap, ◌∙◌, append_assoc, append-nil, take-append-drop, length-append, length-take, arith}
use Rattle.std.proofs.lemmas.List.{take_rest, drop-drop}
use Rattle.std.proofs.Math.Seq.{take-append_seam}
use Rattle.stk_base.specs.declared.source.ReadAll.{ReadAll}
use Rattle.stk_base.specs.declared.source.ReadAll.TheVariants.{TooLarge, NoMemory}
use Rattle.std.specs.Option.{option_map}
use Rattle.stk_base.specs.Streams.{Came, IsSpent, Appended}

-- over no read nothing came
pub came_nothing : (left : Option (List ℕ)) → Came left left []
came_nothing None = refl
came_nothing (Some xs) = refl

-- what came over two runs
pub came_more : (a b c : Option (List ℕ)) (xs ys : List ℕ) → Came a b xs → Came b c ys → Came a c (xs ++ ys)
came_more a b None xs ys first second = first ∙ ap (option_map (λ rest. xs ++ rest)) second
came_more a b (Some zs) xs ys first second = first ∙ ap (option_map (λ rest. xs ++ rest)) second ∙ ap Some (sym (append_assoc xs ys zs))

-- over no write nothing is appended
pub appended_nothing : (taken : Option (List ℕ)) → Appended taken taken []
appended_nothing None = refl
appended_nothing (Some xs) = ap Some (sym (append-nil xs))

-- what two runs appended
pub appended_more : (a b c : Option (List ℕ)) (xs ys : List ℕ) → Appended a b xs → Appended b c ys → Appended a c (xs ++ ys)
appended_more None b c xs ys first second = second ∙ ap (option_map (λ taken. taken ++ ys)) first
appended_more (Some zs) b c xs ys first second = second ∙ ap (option_map (λ taken. taken ++ ys)) first ∙ ap Some (append_assoc zs xs ys)

-- a run of writes has brought a front of these bytes into the sink, and the rest is still to be written
pub record HasWritten (before now : Option (List ℕ)) (flushed_before flushed_now faults_before faults_now : ℕ) (bytes rest : List ℕ) : Type 0 where
  pub front : List ℕ
  pub parts : bytes ≡ front ++ rest
  pub appended : Appended before now front
  pub flushed : flushed_now ≡ flushed_before
  pub faults : faults_now ≡ faults_before

-- a piece that has more bytes than the limit leaves room for brings a list over the limit
pub brings_over : (items piece : List ℕ) (count limit : ℕ) → count ≤ length piece → limit - length items < count → limit < length (items ++ take count piece)
brings_over items piece count limit fits more = simp (length-append, length-take) (omega (arith, fits, more))

-- a piece that has no more keeps it within
pub stays_within : (items piece : List ℕ) (count limit : ℕ) → length items ≤ limit → count ≤ length piece → count ≤ limit - length items → length (items ++ take count piece) ≤ limit
stays_within items piece count limit within fits few = simp (length-append, length-take) (omega (arith, within, fits, few))

-- one write more, which took n bytes of the rest
pub wrote_more : (before now later : Option (List ℕ)) (fl fl' fl'' fa fa' fa'' n : ℕ) (bytes rest rest' : List ℕ) → HasWritten before now fl fl' fa fa' bytes rest
    → rest' ≡ drop n rest → Appended now later (take n rest) → fl'' ≡ fl' → fa'' ≡ fa' → HasWritten before later fl fl'' fa fa'' bytes rest'
wrote_more before now later fl fl' fl'' fa fa' fa'' n bytes rest rest' so_far left took same none = record {
  front = so_far.front ++ take n rest;
  parts = so_far.parts ∙ ap (λ xs. so_far.front ++ xs) (sym (take-append-drop n rest)) ∙ sym (append_assoc so_far.front (take n rest) (drop n rest)) ∙ ap (λ xs. so_far.front ++ take n rest ++ xs) (sym left);
  appended = appended_more before now later so_far.front (take n rest) so_far.appended took;
  flushed = same ∙ so_far.flushed;
  faults = none ∙ so_far.faults;
}

-- who answers want of memory doesn't answer that there was too much
pub not_too_large : {T : Type 0} (result : Result T ReadAll) → IsErrAnd result (λ e. e ≡ NoMemory) → IsErrOf result TooLarge → ⊥
not_too_large (Ok x) memory large = absurd memory
not_too_large (Err e) memory large = cc

-- a piece brings a list that is within the limit at most its own length over it
pub stays_near : (items piece : List ℕ) (count limit size : ℕ) → length items ≤ limit → count ≤ size → length (items ++ take count piece) ≤ limit + size
stays_near items piece count limit size within fits = simp (length-append, length-take) (omega (arith, within, fits))

-- n bytes copied from a place of a vector to the front of a piece, what stands behind that place in the piece, and what
-- is left of the vector
pub copied : (n at : ℕ) (bytes whole left new tail : List ℕ) → left ≡ drop at bytes → whole ≡ bytes → n ≤ length (take (length whole - at) (drop at whole))
    → new ≡ take n (take (length whole - at) (drop at whole)) → left ≡ take n (new ++ tail) ++ drop (at + n) bytes
copied n at bytes whole left new tail here same fits copy =
    let source : take (length whole - at) (drop at whole) ≡ left = take_rest whole at ∙ ap (drop at) same ∙ sym here in
    let front : new ≡ take n left = copy ∙ ap (take n) source in
    let size : length new ≡ n = ap length front ∙ length-take n left ∙ omega (arith, ap length source, fits) in
    let seam : take n (new ++ tail) ≡ new = ap (λ k. take k (new ++ tail)) (sym size) ∙ take-append_seam new tail in
    let rest : drop (at + n) bytes ≡ drop n left = sym (drop-drop n at bytes) ∙ ap (drop n) (sym here) in
    sym (ap (λ xs. xs ++ drop (at + n) bytes) (seam ∙ front) ∙ ap (λ xs. take n left ++ xs) rest ∙ take-append-drop n left)

-- where a source told its bytes and nothing is left, all of them came
pub came_all : (before after : Option (List ℕ)) (bytes xs : List ℕ) → Came before after bytes → IsSpent after → before ≡ Some xs → (bytes ≡ xs) × (after ≡ Some [])
came_all before None bytes xs came spent told = cc
came_all before (Some rest) bytes xs came spent told =
    let nothing : rest ≡ [] = spent rest refl in
    let none : bytes ++ rest ≡ bytes = ap (λ r. bytes ++ r) nothing ∙ append-nil bytes in
    (cc, ap Some nothing)

-- the same of an answer
pub answer_tells : {T E : Type 0} (items : T → List ℕ) (result : Result T E) (before after : Option (List ℕ)) → IfOk result (λ x. Came before after (items x)) → IfOk result (λ _. IsSpent after)
    → IfOk result (λ x. (xs : List ℕ) → before ≡ Some xs → (items x ≡ xs) × (after ≡ Some []))
answer_tells items (Ok x) before after came spent = λ xs told. came_all before after (items x) xs came spent told
answer_tells items (Err e) before after came spent = tt
