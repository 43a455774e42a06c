use Rattle.std.proofs.Common.{◌≡◌, ◌-◌, [], ◌∷◌, ◌++◌, length, slice_get, Some, sym, ap, ap₂, subst, ◌∙◌, arith}
use Rattle.std.proofs.lemmas.List.{length-append}
use Rattle.sgt_session.specs.Receipts.{receipt_of, receipts_of}
use Rattle.sgt_session.proofs.Filed.{receipts-more, newest, there_is}
use Rattle.sgt_session.proofs.receipts.Receipts.file_newest.Goals as goal

pub invariant_of-self : goal.invariant_of-self
invariant_of-self c =
    let one = there_is c.args.history.now.entries (c.len-place.result - 1) (omega (arith, c.len-place.ensures, c.requires.some)) in
    let more = ap length (c.push_copy-kind.ensures.entries one.0 one.1) ∙ length-append c.self.inside.calls.entries (one.0 ∷ []) in
    let longer = ap length c.push.ensures.items ∙ length-append c.self.inside.numbers.items ((c.len-place.result - 1) ∷ []) in
    let used = ap (λ r. r.spare) c.self.view_is in (
      omega (arith, c.self.invariant.0, more, longer),
      omega (arith, used, longer, c.requires.spare, c.self.invariant.1, c.push.ensures.capacity),
      omega (arith, used, c.requires.spare, c.self.invariant.2, c.push_copy-kind.ensures.spare),
    )

pub returns-clause-filed : goal.returns-clause-filed
returns-clause-filed c e past is =
    let last = newest c.args.history.now.entries past e is in
    let place : c.len-place.result - 1 ≡ length past = omega (arith, c.len-place.ensures, last.0) in
    let there : slice_get c.args.history.now.entries (c.len-place.result - 1) ≡ Some e =
    subst (λ n. slice_get c.args.history.now.entries n ≡ Some e) (sym place) last.1 in
    ap₂ receipts_of c.push.ensures.items (c.push_copy-kind.ensures.entries e there)
    ∙ receipts-more c.self.inside.numbers.items c.self.inside.calls.entries (c.len-place.result - 1) e c.self.invariant.0
    ∙ ap₂ (λ rs r. rs ++ r ∷ []) (ap (λ r. r.receipts) c.self.view_is) (ap (λ n. receipt_of n e) place)

pub returns-clause-kind : goal.returns-clause-kind
returns-clause-kind c e past is =
    let last = newest c.args.history.now.entries past e is in
    let place : c.len-place.result - 1 ≡ length past = omega (arith, c.len-place.ensures, last.0) in
    c.push_copy-kind.ensures.kind e (subst (λ n. slice_get c.args.history.now.entries n ≡ Some e) (sym place) last.1)
