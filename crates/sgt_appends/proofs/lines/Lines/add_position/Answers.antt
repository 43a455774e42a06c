use Rattle.std.proofs.Common.{rules, ◌≡◌, ◌++◌, length, drop, refl, ap, ◌∙◌, subst}
use Rattle.sgt_appends.specs.declared.transaction.Status.TheVariants.{Committed}
use Rattle.sgt_appends.specs.Runs.{operations_of, Ended}
use Rattle.sgt_appends.specs.Precedences.{appended}
use Rattle.sgt_appends.specs.Tables.{stands}
use Rattle.sgt_appends.specs.Reads.{IsReadAt, own_at}
use Rattle.sgt_appends.specs.Lines.{line_in, keys_in, version_of, IsOffered}
use Rattle.sgt_appends.proofs.Added.{appended_beyond}
use Rattle.sgt_appends.proofs.Longest.{lines_none, lines_here}
use Rattle.sgt_appends.proofs.lines.Lines.add_position.Goals as goal

pub returns-in_ok-offer-in-Some : goal.returns-in_ok-offer-in-Some
returns-in_ok-offer-in-Some c =
    let h = c.args.history.now in
    let key = c.in-Some.read.key in
    let os = operations_of h c.args.number in
    let later : c.beyond.result.now ≡ appended key (drop c.args.position os) =
    c.beyond.ensures ∙ ap (λ xs. drop (length xs) (stands c.args.all.now key)) (c.requires.own key)
    ∙ ap (λ xs. drop (length (own_at h c.args.number c.args.position key)) xs) (c.requires.all key)
    ∙ appended_beyond key c.args.position os in
    let offered : IsOffered (line_in c.args.self.now) (line_in c.offer.new.self) (keys_in c.args.self.now) (keys_in c.offer.new.self) key
    (version_of h c.args.number c.args.position key c.in-Some.read.seen.now) =
    subst (λ xs. IsOffered (line_in c.args.self.now) (line_in c.offer.new.self) (keys_in c.args.self.now) (keys_in c.offer.new.self) key
    (c.in-Some.read.seen.now ++ xs)) later c.in_ok-offer-in-Some.ensures in
    let reader : c.in-Some.read.reader ≡ c.args.number = search rules in
    let position : c.in-Some.read.position ≡ c.args.position = search rules in
    let committed : Ended h c.in-Some.read.reader Committed = search rules in
    let reads : IsReadAt h c.in-Some.read.reader c.in-Some.read.position key c.in-Some.read.seen.now = search rules in
    lines_here h c.args.number c.args.position c.args.number c.args.position key c.in-Some.read.seen.now (line_in c.args.self.now)
    (line_in c.offer.new.self) (keys_in c.args.self.now) (keys_in c.offer.new.self) refl refl c.requires.lines
    (subst (λ u. Ended h u Committed) reader committed)
    (subst (λ q. IsReadAt h c.args.number q key c.in-Some.read.seen.now) position
    (subst (λ u. IsReadAt h u c.in-Some.read.position key c.in-Some.read.seen.now) reader reads)) offered

pub returns-in-None : goal.returns-in-None
returns-in-None c =
    lines_none c.args.history.now c.args.number c.args.position (line_in c.args.self.now) (keys_in c.args.self.now) c.requires.lines
    (c.in-None.ensures.none (search rules))
