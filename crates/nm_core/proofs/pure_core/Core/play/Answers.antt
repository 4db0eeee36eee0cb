use Rattle.std.proofs.Common.{◌<◌, length, arith}
use Rattle.std.proofs.lemmas.Grind.{common_steps}
use Rattle.nm_model.specs.declared.event.Event.TheVariants.{Sight}
use Rattle.nm_model.specs.Ordered.{trace_in}
use Rattle.nm_laws.proofs.Configurations.{after_in-more}
use Rattle.nm_core.proofs.Reached.{keys_to}
use Rattle.nm_core.proofs.pure_core.Core.play.Goals as goal

pub loop-done-preserved : goal.loop-done-preserved
unfolding trace_in
loop-done-preserved c =
    let step = c.in-Ok-settle.ensures.ok in
    let more = after_in-more c.args.self.now c.args.events.now c.loop-done.done (0, Sight) (omega arith) in
    let before = c.loop-done.invariant.state in
    let below : c.loop-done.done < length c.args.events.now = omega arith in
    record {
      trace = grind (arith, common_steps);
      state = grind (arith, common_steps);
      len = grind (arith, common_steps);
      keys = keys_to c.args.events.now c.loop-done.done c.index-events-done.result below c.index-events-done.is
          c.settle.ensures.key c.loop-done.invariant.keys;
      room = grind (arith, common_steps);
    }
