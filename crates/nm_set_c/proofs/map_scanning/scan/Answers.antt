use Rattle.std.proofs.Common.{ℕ, inl, subst}
use Rattle.nm_edge.specs.declared.edge.Side.TheVariants.{Right}
use Rattle.nm_set_c.specs.MapScanning.{ScansEntries}
use Rattle.nm_set_c.specs.Owners.{HasDone}
use Rattle.nm_set_c.proofs.map_scanning.scan.Goals as goal

pub returns : goal.returns
unfolding HasDone
returns c = inl (
  c.in-Some.ensures.0,
  subst (λ (k : ℕ). ScansEntries Right c.args.tries k c.args.below c.args.entries.now
      c.scan_with_values-answer.new.out c.args.count.now c.tell_scanned.new.count c.args.next.now
      c.tell_scanned.new.next c.args.member.now c.scan_with_values-answer.new.self c.tell_scanned.result)
      c.in-Some.ensures.1 (record {
        keys = record {
          answer = c.scan_with_values-answer.result;
          told = c.tell_scanned.ensures.told;
          counts = c.tell_scanned.ensures.counted;
          continues = c.tell_scanned.ensures.written;
          tree = c.scan_with_values-answer.ensures.tree;
          says = c.scan_with_values-answer.ensures.says;
        };
        finds = c.scan_with_values-answer.ensures.finds;
        kept = c.scan_with_values-answer.ensures.kept;
      }),
)
