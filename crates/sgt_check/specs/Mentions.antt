-- What a text on a history mentions.
use Rattle.std.specs.Prelude.{ℕ, List}
use Rattle.std.specs.Fmt.{decimal}
use Rattle.sgt_check.specs.declared.mentioned.Mentioned.{Mentioned}
use Rattle.sgt_check.specs.declared.mentioned.Mentioned.TheVariants.{Transaction, Placed, TransactionOf}
use Rattle.sgt_check.specs.ReportText.{placed, transaction_of}

-- the text of what is mentioned
abbrev pub mentioned_text : Mentioned → List ℕ
mentioned_text (Transaction t) = decimal t
mentioned_text (Placed h i) = placed h.now i
mentioned_text (TransactionOf h i) = transaction_of h.now i
