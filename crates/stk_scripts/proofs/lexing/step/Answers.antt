use Rattle.std.proofs.Common.{[], ◌∷◌, ◌++◌, ◌≡◌, ◌∙◌, sym, ap, subst, refl, arith}
use Rattle.std.specs.Prelude.{IfOk, Some, Option}
use Rattle.std.proofs.lemmas.Result.{IfOk-weaker}
use Rattle.stk_scripts.specs.Shown.{Passes, IsBehind, token_of}
use Rattle.stk_scripts.specs.declared.lexing.State.TheVariants as state
use Rattle.stk_scripts.specs.declared.lexing.Token.TheVariants as cut
use Rattle.stk_scripts.proofs.Passing.{word_on, taken_between, taken_word}
use Rattle.stk_scripts.proofs.lexing.step.Goals as goal

pub returns-then-is_word_byte : goal.returns-then-is_word_byte
returns-then-is_word_byte c bytes rest within own behind =
    let old = c.args.tokens.now.items in
    let far = subst (λ s. IsBehind s c.args.at) c.in-Word.is behind in
    subst (λ s. Passes bytes c.args.at c.args.b rest s old old (Some (state.Word c.in-Word.from))) (sym c.in-Word.is)
    (word_on bytes c.args.at c.in-Word.from c.args.b rest old far within own (sym c.is_word_byte.ensures ∙ c.if-is_word_byte.true))

pub returns-in_ok-next-in-Between : goal.returns-in_ok-next-in-Between
returns-in_ok-next-in-Between c bytes rest within own behind =
    let old = c.args.tokens.now.items in
    let new = c.taken.new.tokens.items in
    let next = c.in_ok-next-in-Between.next in
    subst (λ s. Passes bytes c.args.at c.args.b rest s old new next) (sym c.in-Between.is)
    (taken_between bytes c.args.at c.args.b rest c.begun.result old new next (c.begun.ensures bytes rest within own) c.in_ok-next-in-Between.ensures.next c.in_ok-next-in-Between.ensures.tokens)

pub returns-in_ok-behind-in-Word : goal.returns-in_ok-behind-in-Word
returns-in_ok-behind-in-Word c bytes rest within own behind =
    let old = c.args.tokens.now.items in
    let new = c.taken-in-Word.new.tokens.items in
    let next = c.in_ok-behind-in-Word.behind in
    let middle = old ++ cut.Word (record { from = c.in-Word.from; to = c.args.at }) ∷ [] in
    let taken : new ≡ middle ++ token_of c.begun-in-Word.result = c.in_ok-behind-in-Word.ensures.tokens ∙ ap (λ ts. ts ++ token_of c.begun-in-Word.result) c.in_ok-push-in-Word.ensures.items in
    subst (λ s. Passes bytes c.args.at c.args.b rest s old new next) (sym c.in-Word.is)
    (taken_word bytes c.args.at c.in-Word.from c.args.b rest old new next (sym c.is_word_byte.ensures ∙ c.if-is_word_byte.false)
    (taken_between bytes c.args.at c.args.b rest c.begun-in-Word.result middle new next (c.begun-in-Word.ensures bytes rest within own) c.in_ok-behind-in-Word.ensures.next taken))
