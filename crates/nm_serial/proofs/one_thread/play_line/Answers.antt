use Rattle.std.proofs.Common.{◌<◌, length, arith}
use Rattle.std.proofs.lemmas.List.{length-set}
use Rattle.nm_serial.proofs.CrewLemmas.{placed, made_line, stands_at, line_keeps_whole, is_own}
use Rattle.nm_serial.proofs.one_thread.play_line.Goals as goal

pub returns-in_default : goal.returns-in_default
returns-in_default c =
    let crew = c.args.crew.now.items in
    let below : c.args.worker < length crew = omega (arith, c.requires.allowed.0, c.requires.count) in
    let at = stands_at crew c.args.worker c.index_mut.result.now below c.index_mut.ensures.value in
    record {
      own = placed c.args.tree.now crew c.args.worker c.make_at.new.place c.make_at.ensures.own c.requires.own;
      count = length-set crew c.args.worker c.make_at.new.place;
      whole = line_keeps_whole crew c.args.worker c.index_mut.result.now c.make_at.new.place below at
          c.make_at.ensures.whole;
      did = made_line c.args.tree.now c.args.header.now.tries c.args.worker c.args.call.now crew
          c.index_mut.result.now c.make_at.new.place c.make_at.result (is_own c.args.call.now c.in_default.not-Resign)
          at c.make_at.ensures.did;
    }
