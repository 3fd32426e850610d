-- Each punctuator that lexing knows is spelled by one of `Fixed`.
use Rattle.std.proofs.Common.{◌≡◌, ℕ, Bool, true, false, ◌&&◌, ◌||◌, ◌==◌, List, [], ◌∷◌, refl, subst, ◌⊎◌, inl, inr}
use Rattle.std.specs.List.{list_any}
use Rattle.std.proofs.lemmas.Bool.{false≢true, eqb-true}
use Rattle.stk_lex.specs.Classes.{is_punctuator, is_punctuator_of_one, is_punctuator_of_two, is_punctuator_of_three, punctuators_of_one, punctuators_of_two, punctuators_of_three}
use Rattle.stk_tree.specs.declared.fixed.Fixed.{Fixed}
use Rattle.stk_tree.specs.declared.fixed.Fixed.TheVariants as fixed
use Rattle.stk_tree.specs.Spelling.{spelling_of}

-- a text is spelled by one of `Fixed`
IsSpelled : List ℕ → Type 0
IsSpelled text = (f : Fixed) × (spelling_of f ≡ text)

either_of : (p q : Bool) → (p || q) ≡ true → (p ≡ true) ⊎ (q ≡ true)
either_of true q e = inl refl
either_of false q e = inr e

both_of : (p q : Bool) → (p && q) ≡ true → (p ≡ true) × (q ≡ true)
both_of true q e = (refl, e)
both_of false q e = absurd (false≢true e)

-- ---- one byte

AllOne : List ℕ → Type 0
AllOne [] = Unit {0}
AllOne (m ∷ ms) = IsSpelled (m ∷ []) × AllOne ms

one_in : (ms : List ℕ) (a : ℕ) → AllOne ms → list_any (λ m. m == a) ms ≡ true → IsSpelled (a ∷ [])
unfolding AllOne
one_in [] a all e = absurd (false≢true e)
one_in (m ∷ ms) a all e = elim (either_of (m == a) (list_any (λ n. n == a) ms) e) [
  | inl same ↦ subst (λ (b : ℕ). IsSpelled (b ∷ [])) (eqb-true m a same) all.0
  | inr more ↦ one_in ms a all.1 more
]

ones : AllOne punctuators_of_one
unfolding AllOne IsSpelled
ones = (
  (fixed.LeftBracket, refl),
  (
    (fixed.RightBracket, refl),
    (
      (fixed.LeftParen, refl),
      (
        (fixed.RightParen, refl),
        (
          (fixed.LeftBrace, refl),
          (
            (fixed.RightBrace, refl),
            (
              (fixed.Dot, refl),
              (
                (fixed.Ampersand, refl),
                (
                  (fixed.Star, refl),
                  (
                    (fixed.Plus, refl),
                    (
                      (fixed.Minus, refl),
                      (
                        (fixed.Tilde, refl),
                        (
                          (fixed.Exclamation, refl),
                          (
                            (fixed.Slash, refl),
                            (
                              (fixed.Percent, refl),
                              (
                                (fixed.Less, refl),
                                (
                                  (fixed.Greater, refl),
                                  (
                                    (fixed.Caret, refl),
                                    (
                                      (fixed.Pipe, refl),
                                      (
                                        (fixed.Question, refl),
                                        (
                                          (fixed.Colon, refl),
                                          (
                                            (fixed.Semicolon, refl),
                                            (
                                              (fixed.Assign, refl),
                                              ((fixed.Comma, refl), tt),
                                            ),
                                          ),
                                        ),
                                      ),
                                    ),
                                  ),
                                ),
                              ),
                            ),
                          ),
                        ),
                      ),
                    ),
                  ),
                ),
              ),
            ),
          ),
        ),
      ),
    ),
  ),
)

of_one : (text : List ℕ) → is_punctuator_of_one text ≡ true → IsSpelled text
of_one [] e = absurd (false≢true e)
of_one (a ∷ []) e = one_in punctuators_of_one a ones e
of_one (a ∷ b ∷ bs) e = absurd (false≢true e)

-- ---- two bytes

AllTwo : List (ℕ × ℕ) → Type 0
AllTwo [] = Unit {0}
AllTwo (m ∷ ms) = IsSpelled (m.0 ∷ m.1 ∷ []) × AllTwo ms

two_in : (ms : List (ℕ × ℕ)) (a b : ℕ) → AllTwo ms → list_any (λ m. m.0 == a && m.1 == b) ms ≡ true → IsSpelled (a ∷ b ∷ [])
unfolding AllTwo
two_in [] a b all e = absurd (false≢true e)
two_in (m ∷ ms) a b all e = elim (either_of (m.0 == a && m.1 == b) (list_any (λ n. n.0 == a && n.1 == b) ms) e) [
  | inl same ↦ (let p = both_of (m.0 == a) (m.1 == b) same in
      subst (λ (c : ℕ). IsSpelled (c ∷ b ∷ [])) (eqb-true m.0 a p.0) (subst (λ (c : ℕ). IsSpelled (m.0 ∷ c ∷ [])) (eqb-true m.1 b p.1) all.0))
  | inr more ↦ two_in ms a b all.1 more
]

twos : AllTwo punctuators_of_two
unfolding AllTwo IsSpelled
twos = (
  (fixed.Arrow, refl),
  (
    (fixed.PlusPlus, refl),
    (
      (fixed.MinusMinus, refl),
      (
        (fixed.LeftShift, refl),
        (
          (fixed.RightShift, refl),
          (
            (
              fixed.LessEqual,
              refl,
            ),
            (
              (fixed.GreaterEqual, refl),
              (
                (fixed.EqualEqual, refl),
                (
                  (fixed.NotEqual, refl),
                  (
                    (fixed.AndAnd, refl),
                    (
                      (fixed.OrOr, refl),
                      (
                        (fixed.StarAssign, refl),
                        (
                          (fixed.SlashAssign, refl),
                          (
                            (fixed.PercentAssign, refl),
                            (
                              (fixed.PlusAssign, refl),
                              (
                                (fixed.MinusAssign, refl),
                                ((fixed.AmpersandAssign, refl), ((fixed.CaretAssign, refl), ((fixed.PipeAssign, refl), tt))),
                              ),
                            ),
                          ),
                        ),
                      ),
                    ),
                  ),
                ),
              ),
            ),
          ),
        ),
      ),
    ),
  ),
)

of_two : (text : List ℕ) → is_punctuator_of_two text ≡ true → IsSpelled text
of_two [] e = absurd (false≢true e)
of_two (a ∷ []) e = absurd (false≢true e)
of_two (a ∷ b ∷ []) e = two_in punctuators_of_two a b twos e
of_two (a ∷ b ∷ c ∷ bs) e = absurd (false≢true e)

-- ---- three bytes

AllThree : List (ℕ × ℕ × ℕ) → Type 0
AllThree [] = Unit {0}
AllThree (m ∷ ms) = IsSpelled (m.0 ∷ m.1 ∷ m.2 ∷ []) × AllThree ms

three_in : (ms : List (ℕ × ℕ × ℕ)) (a b c : ℕ) → AllThree ms → list_any (λ m. m.0 == a && m.1 == b && m.2 == c) ms ≡ true → IsSpelled (a ∷ b ∷ c ∷ [])
unfolding AllThree
three_in [] a b c all e = absurd (false≢true e)
three_in (m ∷ ms) a b c all e = elim (either_of (m.0 == a && m.1 == b && m.2 == c) (list_any (λ n. n.0 == a && n.1 == b && n.2 == c) ms) e) [
  | inl same ↦ (let q = both_of (m.0 == a && m.1 == b) (m.2 == c) same in
      let p = both_of (m.0 == a) (m.1 == b) q.0 in
      subst (λ (d : ℕ). IsSpelled (d ∷ b ∷ c ∷ [])) (eqb-true m.0 a p.0)
      (subst (λ (d : ℕ). IsSpelled (m.0 ∷ d ∷ c ∷ [])) (eqb-true m.1 b p.1) (subst (λ (d : ℕ). IsSpelled (m.0 ∷ m.1 ∷ d ∷ [])) (eqb-true m.2 c q.1) all.0)))
  | inr more ↦ three_in ms a b c all.1 more
]

threes : AllThree punctuators_of_three
unfolding AllThree IsSpelled
threes =
    ((fixed.Ellipsis, refl), ((fixed.LeftShiftAssign, refl), ((fixed.RightShiftAssign, refl), tt)))

of_three : (text : List ℕ) → is_punctuator_of_three text ≡ true → IsSpelled text
of_three [] e = absurd (false≢true e)
of_three (a ∷ []) e = absurd (false≢true e)
of_three (a ∷ b ∷ []) e = absurd (false≢true e)
of_three (a ∷ b ∷ c ∷ []) e = three_in punctuators_of_three a b c threes e
of_three (a ∷ b ∷ c ∷ d ∷ bs) e = absurd (false≢true e)

spelled : (text : List ℕ) → is_punctuator text ≡ true → IsSpelled text
unfolding is_punctuator
spelled text e = elim (either_of (is_punctuator_of_one text || is_punctuator_of_two text) (is_punctuator_of_three text) e) [
  | inl fewer ↦ elim (either_of (is_punctuator_of_one text) (is_punctuator_of_two text) fewer) [ inl one ↦ of_one text one | inr two ↦ of_two text two ]
  | inr three ↦ of_three text three
]

pub punctuator_is_fixed : (text : List ℕ) → is_punctuator text ≡ true → (f : Fixed) × (spelling_of f ≡ text)
unfolding IsSpelled
punctuator_is_fixed text e = spelled text e
