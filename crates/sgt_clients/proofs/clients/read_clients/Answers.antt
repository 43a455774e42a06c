use Rattle.std.proofs.Common.{rules, refl, arith}
use Rattle.sgt_clients.proofs.ReadTo.{read_none, read_one, read_all}
use Rattle.sgt_clients.proofs.clients.read_clients.Goals as goal

pub loop-place-init : goal.loop-place-init
loop-place-init c =
    let first = c.next_object-place.ensures in record {
      bounds = first.bounds;
      known = c.new-reader.ensures.known;
      known_processes = c.new-reader.ensures.known_processes;
      few = omega (arith, c.new-reader.ensures.nothing.entries);
      starts = first.starts;
      read = read_none c.args.text.now c.next_object-place.result.at c.next_object-place.result.line c.new-reader.result first.gap first.line
          c.new-reader.ensures.none c.new-reader.ensures.nothing c.new-reader.ensures.by_line;
    }

pub loop-place-preserved : goal.loop-place-preserved
loop-place-preserved c =
    let was = c.loop-place.invariant in
    let object = c.object_end-end.ensures in
    let then = c.next_object-place-in-loop-place.ensures in record {
      bounds = then.bounds;
      known = c.in_ok-take.ensures.known;
      known_processes = c.in_ok-take.ensures.known_processes;
      few = omega (arith, c.in_ok-take.ensures.taken.entries, was.few, object.onwards, then.onwards);
      starts = then.starts;
      read = read_one c.args.text.now c.loop-place.place.at c.object_end-end.result.at c.next_object-place-in-loop-place.result.at
          c.loop-place.place.line c.object_end-end.result.line c.next_object-place-in-loop-place.result.line c.loop-place.reader
          c.take.new.self was.read (omega (arith, object.onwards)) then.onwards object.object object.line c.in_ok-take.ensures.taken
          then.gap then.line;
    }

pub returns-clause-read : goal.returns-clause-read
returns-clause-read c =
    read_all c.args.text.now c.loop-place.place.at c.loop-place.place.line c.loop-place.reader _ c.loop-place.invariant.read (search rules)
    c.loop-place.invariant.known c.loop-place.invariant.known_processes refl refl refl refl refl refl refl
