use Rattle.sgt_levels.proofs.tie.is_step.Goals as goal

pub returns-in-Follows : goal.returns-in-Follows
returns-in-Follows c = λ yes. rw c.in-Follows.is (c.follows.ensures yes)

pub returns-in-Overwrites : goal.returns-in-Overwrites
returns-in-Overwrites c = λ yes. rw c.in-Overwrites.is (c.overwrites.ensures yes)
