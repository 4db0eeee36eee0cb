use Rattle.std.proofs.Common.{rules, refl}
use Rattle.nm_model.specs.declared.event.Event.TheVariants.{Sight}
use Rattle.nm_steps.specs.Steps.{sight_reply}
use Rattle.nm_steps.proofs.Seeing.{continues_by}
use Rattle.nm_epoch.specs.Resting.{epochs}
use Rattle.nm_epoch.proofs.KeptHands.{hands_kept, sight_is_silent}
use Rattle.nm_epoch.proofs.Sighted.{ledgers_after}
use Rattle.nm_epoch.proofs.Sights.{read_seen, settles}
use Rattle.nm_epoch.proofs.looking.read.Goals as goal

pub returns : goal.returns
returns c =
    let reply = sight_reply c.sight.result in
    let step = c.sight.ensures.took.step in
    record {
      on = continues_by _ _ _ _ c.sight.ensures.took;
      step = search rules;
      seen = read_seen c.args.pass.now c.sight.new.pass reply c.epoch_of.result step c.epoch_of.ensures;
      small = search rules;
      ledgers = ledgers_after c.args.pass.now c.sight.new.pass reply c.epoch_of.result step c.sight.ensures.reply
          c.epoch_of.ensures;
      settles = settles c.args.pass.now c.sight.new.pass reply step c.sight.ensures.reply;
      hands = hands_kept c.args.pass.now c.sight.new.pass Sight reply step refl
          (sight_is_silent (epochs c.args.pass.now) reply c.sight.ensures.reply);
    }
