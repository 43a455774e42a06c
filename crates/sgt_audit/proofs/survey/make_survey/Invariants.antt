use Rattle.std.proofs.Common.{◌≡◌, ℕ, ◌≤◌, length, reverse, take}
use Rattle.std.specs.List.{count_by}
use Rattle.sgt_model.specs.declared.entry.Entry.{Entry}
use Rattle.sgt_model.specs.Fates.{live_ones}
use Rattle.sgt_model.specs.Questions.{is_commit, is_quit}
use Rattle.sgt_audit.specs.Lives.{AreLives}
use Rattle.sgt_audit.proofs.survey.make_survey.Given as goal

abbrev pub invariant-loop-place : goal.invariant-loop-place
invariant-loop-place l = record {
  lives : AreLives (reverse (take l.place l.history.entries)) l.lives.items;
  live : l.live ≡ length (live_ones (reverse (take l.place l.history.entries)));
  few : l.live ≤ l.workers;
  before : (n : ℕ) → n ≤ l.place → length (live_ones (reverse (take n l.history.entries))) ≤ l.workers;
  commits : l.ends.commits ≡ count_by (λ (e : Entry). is_commit e.reply) (take l.place l.history.entries);
  quits : l.ends.quits ≡ count_by (λ (e : Entry). is_quit e.reply) (take l.place l.history.entries);
}
