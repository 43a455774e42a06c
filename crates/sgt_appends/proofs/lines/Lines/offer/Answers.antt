use Rattle.std.proofs.Common.{rules, ◌++◌, refl, subst, ◌∙◌}
use Rattle.sgt_appends.specs.Lines.{line_in, keys_in, IsWithLine}
use Rattle.sgt_appends.proofs.Longest.{offered_new, offered_longer, offered_none}
use Rattle.sgt_appends.proofs.lines.Lines.offer.Goals as goal

pub returns-in_default : goal.returns-in_default
returns-in_default c =
    offered_new (line_in c.args.self.now) (line_in c.put.new.self) (keys_in c.args.self.now) (keys_in c.put.new.self) c.args.key
    (c.args.seen.now ++ c.args.later.now) (search rules) (c.in_ok-put.ensures.keys ∙ c.in_ok-push.ensures.items)
    (subst (λ n. IsWithLine (line_in c.args.self.now) (line_in c.put.new.self) c.args.key n (c.args.seen.now ++ c.args.later.now))
    c.len-number.ensures
    (subst (λ xs. IsWithLine (line_in c.args.self.now) (line_in c.put.new.self) c.args.key c.len-number.result xs) c.in_ok-joined.ensures
    c.in_ok-put.ensures.line))

pub returns-then-fit : goal.returns-then-fit
returns-then-fit c =
    offered_none (line_in c.args.self.now) (line_in c.args.self.now) (keys_in c.args.self.now) c.args.key (c.args.seen.now ++ c.args.later.now)
    c.in-Some.line.now (search rules) (search rules) (λ l. refl)

pub returns : goal.returns
returns c =
    offered_longer (line_in c.args.self.now) (line_in c.put-2.new.self) (keys_in c.args.self.now) (keys_in c.put-2.new.self) c.args.key
    (c.args.seen.now ++ c.args.later.now) c.in-Some.line.now (search rules) (search rules) c.in_ok-put-2.ensures.keys
    (subst (λ xs. IsWithLine (line_in c.args.self.now) (line_in c.put-2.new.self) c.args.key c.in-Some.line.now.number xs)
    c.in_ok-joined-2.ensures c.in_ok-put-2.ensures.line)
