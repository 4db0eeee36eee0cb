use Rattle.std.proofs.Common.{◌≡◌, ◌-◌, ◌++◌, map, take, arith}
use Rattle.std.specs.Option.{option_copied}
use Rattle.std.proofs.lemmas.List.{length_push}
use Rattle.nm_files.specs.Lines.{pieces, further, fields}
use Rattle.nm_files.proofs.EntryLemmas.{push_field}
use Rattle.nm_files.proofs.read.line.fields_of.Goals as goal

pub loop-preserved : goal.loop-preserved
loop-preserved c =
    let told : map (λ f. f.now) c.loop.fields.items ++ take (8 - c.loop.counter) (pieces 32 c.in-Some.text.now)
    ≡ take 8 (fields c.args.line.now) = rw c.in-Some.is at c.loop.invariant.told in
    record {
      room = rw c.push.ensures.items (omega (
        arith,
        length_push c.loop.fields.items c.cut.result.0,
        c.loop.invariant.room,
      ));
      told = rw c.push.ensures.items (push_field c.loop.fields.items c.cut.result.0 c.loop.counter
          (pieces 32 c.in-Some.text.now) (further 32 (option_copied c.cut.result.1)) (take 8 (fields c.args.line.now))
          c.loop-test.true c.cut.ensures.pieces told);
    }
