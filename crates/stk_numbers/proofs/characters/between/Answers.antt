use Rattle.stk_numbers.proofs.Quotes.{between_quotes, not_opened, not_closed}
use Rattle.stk_numbers.proofs.characters.between.Goals.{else-first-quote-via-then-first-quote+else-last-quote, else-first-quote-via-else-first-quote}
use Rattle.stk_numbers.proofs.characters.between.Goals as goal

pub returns-then-last-quote : goal.returns-then-last-quote
returns-then-last-quote c = between_quotes c.args.quote c.in-Some.first.now c.in-Some-split_last.last.now c.args.text.now c.in-Some.rest.now c.in-Some-split_last.inside.now c.in-Some.ensures.cases.0 c.in-Some-split_last.ensures.cases.0 c.if-first-quote.true c.if-last-quote.true

pub returns-else-first-quote : goal.returns-else-first-quote
returns-else-first-quote c =
    elim c.else-first-quote.branch [
      | else-first-quote-via-then-first-quote+else-last-quote w ↦ not_closed c.args.quote c.in-Some.first.now c.in-Some-split_last.last.now c.args.text.now c.in-Some.rest.now c.in-Some-split_last.inside.now c.in-Some.ensures.cases.0 c.in-Some-split_last.ensures.cases.0 w.if-first-quote.true w.if-last-quote.false
      | else-first-quote-via-else-first-quote w ↦ not_opened c.args.quote c.in-Some.first.now c.in-Some-split_last.last.now c.args.text.now c.in-Some.rest.now c.in-Some-split_last.inside.now c.in-Some.ensures.cases.0 c.in-Some-split_last.ensures.cases.0 w.if-first-quote.false
    ]
