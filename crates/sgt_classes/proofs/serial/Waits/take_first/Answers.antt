use Rattle.std.proofs.Common.{rules, ◌≡◌, ◌<◌, IsSome, inl, inr, sym, subst, arith}
use Rattle.std.specs.BTreeMap.{get, btree_map_len}
use Rattle.sgt_classes.specs.Tables.{entry_of}
use Rattle.std.specs.Ordering.{nat_cmp}
use Rattle.std.proofs.lemmas.Bool.{cases_eq}
use Rattle.std.proofs.lemmas.Grind.{common_steps}
use Rattle.sgt_classes.proofs.Taking.{nothing_in, all_wait_still, waits_without, first_free}
use Rattle.sgt_classes.specs.Links.{link_of}
use Rattle.sgt_classes.proofs.serial.Waits.take_first.Goals as goal

pub returns-in_default-clause-all_wait : goal.returns-in_default-clause-all_wait
returns-in_default-clause-all_wait c none =
    let empty : ¬ (0 < btree_map_len c.args.self.now.ready) =
    λ more. grind (arith, common_steps, more, c.in_default.ensures.variant, c.in_default.is) in
    all_wait_still c.args.self.now c.requires.ready (λ d. nothing_in c.args.self.now.ready d empty)

pub release-requires-clause-waits : goal.release-requires-clause-waits
release-requires-clause-waits c = waits_without c.args.self.now.edges.items (entry_of c.args.self.now.left)
    (entry_of c.args.self.now.incoming.tops) (link_of c.args.self.now.incoming.below) (get nat_cmp c.args.self.now.ready)
    (entry_of c.remove.new.self) _ c.args.self.now.watched c.in-Some.transaction c.in-Some.field-0-0 c.requires.waits (search rules)
    c.remove.ensures.at c.remove.ensures.others
    (grind (arith, common_steps, c.in-Some.ensures.updates)) (λ d apart. grind (arith, common_steps, apart, c.in-Some.ensures.updates))

pub release-requires-clause-wait : goal.release-requires-clause-wait
release-requires-clause-wait c u k e top at = elim (cases_eq e.from c.in-Some.transaction) [
  | inl same ↦ inr (same, c.requires.watched u k e top at)
  | inr apart ↦
      let still : entry_of c.remove.new.self e.from ≡ entry_of c.args.self.now.left e.from =
      c.remove.ensures.others e.from apart in
      inl (subst (λ o. IsSome o) (sym still) (c.requires.wait u k e top at))
]

pub returns-clause-first : goal.returns-clause-first
returns-clause-first c = first_free c.args.self.now c.in-Some.transaction c.in-Some.field-0-0 c.requires.waits c.requires.ready
    c.requires.wait (search rules) c.in-Some.ensures.least
