use Rattle.sgt_appends.proofs.append_index.AppendIndex.put.Goals as goal

pub returns-clause-added : goal.returns-clause-added
returns-clause-added c = λ k v. c.in_ok-insert.ensures.updates.0 (k, v)
