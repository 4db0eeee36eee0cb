use Rattle.std.proofs.Common.{◌+◌, take, drop, arith}
use Rattle.std.specs.Io.KnownBytes.{Appends}
use Rattle.std.proofs.lemmas.List.{take_rest, length-drop}
use Rattle.nm_files.proofs.StreamLemmas.{appends_then, take_sum}
use Rattle.nm_files.proofs.stream.write_text.Goals as goal

pub loop-done-preserved : goal.loop-done-preserved
loop-done-preserved g c =
    let contents = g.W.Write.contents in
    let i = c.loop-done.done in
    let n = c.in-Ok.n in
    let text = c.args.text.now in
    let bound = rw (take_rest text i) at c.in-Ok.ensures.bound in
    let took : Appends (contents c.loop-done.writer) (contents c.write.new.self) (take n (drop i text)) = rw
    (take_rest text i) at c.in-Ok.ensures.bytes in
    record {
      within = omega (arith, length-drop i text, bound, c.loop-done-test.true);
      written = appends_then (contents c.args.writer.now) (contents c.loop-done.writer) (contents c.write.new.self)
          (take i text) (take n (drop i text)) (take (i + n) text) c.loop-done.invariant.written took
          (take_sum i n text);
    }
