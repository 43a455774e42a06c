use Rattle.std.proofs.Common.{rules, ◌≡◌, get_or, sym, subst}
use Rattle.std.proofs.lemmas.List.{take_all}
use Rattle.sgt_appends.specs.Lists.{Has}
use Rattle.sgt_appends.specs.Lines.{line_in, keys_in, values_in, has_pair}
use Rattle.sgt_appends.proofs.Noted.{Either, line_one, key_there}
use Rattle.sgt_appends.proofs.lines.all_values.Goals as goal

pub loop-key-preserved : goal.loop-key-preserved
loop-key-preserved c = λ k v.
    let lines = line_in c.args.lines.now in
    let i = c.loop-key.key-index in
    line_one (has_pair c.loop-key.set k v) (has_pair c.note_line.new.set k v) lines k v i (keys_in c.args.lines.now) (search rules)
    (subst (λ ks. Either (has_pair c.note_line.new.set k v) (has_pair c.loop-key.set k v)
    ((get_or ks i 0 ≡ k) × Has (values_in lines (get_or ks i 0)) v)) c.as_slice-key-items.ensures.value (c.in_ok-note_line.ensures k v))
    (c.loop-key.invariant k v)

pub returns : goal.returns
returns c = λ k v. (
  (λ has. ((c.loop-key.invariant k v).0 has).1),
  (λ has. (c.loop-key.invariant k v).1 (
    subst (λ ks. Has ks k) (sym (take_all c.loop-key.key-index (keys_in c.args.lines.now) (search rules)))
        (key_there (line_in c.args.lines.now) (keys_in c.args.lines.now) k v c.requires has),
    has,
  )),
)
