use Rattle.std.proofs.Common.{sym, ◌∙◌, inl, inr}
use Rattle.sgt_proc_json.proofs.IfRows.{word_is, not_four}
use Rattle.sgt_proc_json.proofs.read_statement.is_if.Goals as goal

pub returns-in-len4 : goal.returns-in-len4
returns-in-len4 c = c.is_word_if.ensures ∙ sym (word_is c.args.items.now _ c.in-len4.len_at_least c.in-len4.len_below c.word-item.is)

pub returns-in_default : goal.returns-in_default
returns-in_default c = not_four c.args.items.now (inl c.in_default.len_below)

pub returns-in_default-2 : goal.returns-in_default-2
returns-in_default-2 c = not_four c.args.items.now (inr c.in_default.len_at_least)
