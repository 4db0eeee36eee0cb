use Rattle.std.proofs.Common.{◌<◌, [], length, rules, arith}
use Rattle.std.proofs.lemmas.List.{append-nil}
use Rattle.std.specs.Io.KnownBytes.{Consumes}
use Rattle.nm_files.proofs.StreamLemmas.{HasRead, at_limit, at_end, consumes_then}
use Rattle.nm_files.proofs.stream.input_of.Given as given
use Rattle.nm_files.proofs.stream.input_of.Goals as goal
use Rattle.nm_files.proofs.stream.input_of.Goals.{else-loop-chunk-test, then-loop-chunk-test+in_ok-n+then-n-eq0}

both : (g : given.Over) (c : goal.Left-loop-chunk g)
    → HasRead 12100122 (g.R.Read.remaining c.args.reader.now) (g.R.Read.remaining c.loop-chunk-test.reader)
    c.loop-chunk.bytes.items
both g c =
    let remaining = g.R.Read.remaining in
    let old = remaining c.args.reader.now in
    let bytes = c.loop-chunk.bytes in
    elim c.loop-chunk-test.branch [
      | else-loop-chunk-test w ↦ rw w.reader-is (at_limit 12100122 old (remaining c.loop-chunk.reader) bytes.items
          (omega (arith, bytes.ok.0, c.len.ensures, w.loop-chunk-test.false, c.loop-chunk.invariant.room))
          c.loop-chunk.invariant.taken)
      | then-loop-chunk-test+in_ok-n+then-n-eq0 w ↦
          let new = remaining w.read_some.new.reader in
          let room : 0 < length w.read_some.new.chunk = search rules in
          let nothing : Consumes (remaining c.loop-chunk.reader) new [] = rw w.if-n-eq0.true at
          w.in_ok-n.ensures.bytes in
          let taken = consumes_then old (remaining c.loop-chunk.reader) new bytes.items []
          c.loop-chunk.invariant.taken nothing in
          rw w.reader-is (at_end 12100122 old new bytes.items
          (omega (arith, bytes.ok.0, c.loop-chunk.invariant.room)) (rw append-nil at taken)
          (w.in_ok-n.ensures.end w.if-n-eq0.true room))
    ]

pub returns-clause-bytes : goal.returns-clause-bytes
returns-clause-bytes g c = (both g c).first

pub returns-clause-rest : goal.returns-clause-rest
returns-clause-rest g c = (both g c).rest
