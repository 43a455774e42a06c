use Rattle.std.proofs.Common.{rules, ◌≡◌, length, take, sym, ap, ◌∙◌, subst, inl, get_or}
use Rattle.std.proofs.lemmas.List.{take_all}
use Rattle.sgt_appends.specs.Lists.{Has}
use Rattle.sgt_appends.specs.Indexes.{position_of}
use Rattle.sgt_appends.proofs.Prefixes.{take_front}
use Rattle.sgt_appends.proofs.Unknown.{known_more, known_by, first_one}
use Rattle.sgt_appends.proofs.graph.first_beyond.Goals as goal

pub loop-at-init : goal.loop-at-init
loop-at-init c = λ v has.
    let front : take (length c.args.read.seen.now) c.args.line.now ≡ c.args.read.seen.now =
    ap (take (length c.args.read.seen.now)) c.requires.starts.1 ∙ take_front c.args.read.seen.now c.requires.starts.0 in
    inl (subst (λ vs. Has vs v) front has)

pub returns-in-Some-clause-some : goal.returns-in-Some-clause-some
returns-in-Some-clause-some c =
    first_one (position_of c.args.appends.now) c.args.read.reader c.args.read.key c.args.read.seen.now c.args.line.now c.loop-at.at
    c.in-Some.found c.loop-at-test.true c.loop-at.invariant c.in-Some.ensures.some

pub loop-at-preserved : goal.loop-at-preserved
loop-at-preserved c =
    let w = get_or c.args.line.now c.loop-at.at 0 in
    known_more (position_of c.args.appends.now) c.args.read.reader c.args.read.key c.args.read.seen.now c.args.line.now
    c.loop-at.at c.loop-at-test.true c.loop-at.invariant
    (known_by (position_of c.args.appends.now) c.args.read.reader c.args.read.key c.args.read.seen.now c.args.line.now c.loop-at.at
    (Has c.args.read.seen.now w) c.requires.indexed c.loop-at-test.true (λ has. has) (c.unknown_in.ensures.none (search rules)))

pub returns-clause-none : goal.returns-clause-none
returns-clause-none c = λ none v has.
    c.loop-at.invariant v (subst (λ vs. Has vs v) (sym (take_all c.loop-at.at c.args.line.now (search rules))) has)
