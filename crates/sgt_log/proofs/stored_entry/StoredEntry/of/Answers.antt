use Rattle.sgt_log.proofs.Entries.{joined, joined_is, more-more}
use Rattle.sgt_log.proofs.stored_entry.StoredEntry.of.Goals as goal

pub returns-clause-entry : goal.returns-clause-entry
returns-clause-entry c =
    joined_is _ _ _ c.of-event.result c.of-reply.result _ _ c.of-reply.ensures.more_values c.of-event.ensures.within
    c.of-event.ensures.event
    c.of-reply.ensures.reply

pub returns-clause-within : goal.returns-clause-within
returns-clause-within c =
    joined _ _ _ c.of-event.result c.of-reply.result c.of-reply.ensures.more_values c.of-event.ensures.within c.of-reply.ensures.within

pub returns-clause-more_values : goal.returns-clause-more_values
returns-clause-more_values c = more-more _ _ _ c.of-event.ensures.more c.of-reply.ensures.more_values
