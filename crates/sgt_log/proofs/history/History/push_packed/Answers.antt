use Rattle.std.proofs.Common.{◌∷◌, [], ◌++◌, ap, ap₂, sym, ◌∙◌, arith, append-nil}
use Rattle.sgt_log.specs.PackedEntries.{unpacked}
use Rattle.sgt_log.proofs.Entries.{entries-pushed, entries-after, plain-entry, plain-within}
use Rattle.sgt_log.proofs.Packed.{step_plain, step_whole}
use Rattle.sgt_log.proofs.history.History.push_packed.Goals as goal

pub push_whole-requires-clause-whole : goal.push_whole-requires-clause-whole
push_whole-requires-clause-whole c = step_whole c.args.step c.requires.step

pub invariant_of-self : goal.invariant_of-self
invariant_of-self c =
    let used = ap (λ h. h.spare) c.self.view_is in
    let step = unpacked [] c.args.step in
    let plain = step_plain [] c.args.step c.requires.step in (
      entries-pushed c.self.inside.tids.items c.self.inside.tids.items c.self.inside.values.items c.self.inside.values.items
          c.self.inside.entries.items c.push_whole.new.self.items step
          ([], sym (append-nil _)) ([], sym (append-nil _))
          c.self.invariant.0 (plain-within _ _ step.event step.reply plain.0 plain.1 c.requires.key)
          c.push_whole.ensures.items,
      omega (arith, used, c.requires.spare, c.self.invariant.1, c.push_whole.ensures.len, c.push_whole.ensures.capacity),
      omega (arith, used, c.requires.spare, c.self.invariant.2),
      omega (arith, used, c.requires.spare, c.self.invariant.3),
    )

pub returns-clause-entries : goal.returns-clause-entries
returns-clause-entries c =
    let step = unpacked [] c.args.step in
    let plain = step_plain [] c.args.step c.requires.step in
    entries-after c.self.inside.tids.items c.self.inside.tids.items c.self.inside.values.items c.self.inside.values.items
    c.self.inside.entries.items c.push_whole.new.self.items step
    ([], sym (append-nil _)) ([], sym (append-nil _))
    c.self.invariant.0 c.push_whole.ensures.items
    ∙ ap₂ (λ es e. es ++ e ∷ []) (ap (λ h. h.entries) c.self.view_is) (plain-entry _ _ step.event step.reply plain.0 plain.1)
