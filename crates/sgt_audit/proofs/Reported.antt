-- Facts from queries of an entry.
use Rattle.std.proofs.Common.{◌≡◌, ℕ, true, refl}
use Rattle.sgt_model.specs.declared.reply.Reply.{Reply}
use Rattle.sgt_model.specs.declared.reply.Reply.TheVariants as reply
use Rattle.sgt_model.specs.Fates.{is_start}

-- a reply that starts a transaction has its number
pub started_some : (r : Reply) → is_start r ≡ true → (t : ℕ) × (r ≡ reply.Started t)
started_some (reply.Started t) is = (t, refl)
started_some _ is = absurd cc
