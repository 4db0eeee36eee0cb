use Rattle.std.proofs.Common.{◌∙◌, List, ap, length, arith}
use Rattle.nm_model.specs.declared.reply.Reply.TheVariants.{Joined}
use Rattle.nm_model.specs.Knowledge.{Knowledge}
use Rattle.nm_model.specs.Runs.{State}
use Rattle.nm_model.specs.Learning.{inheriting}
use Rattle.nm_core.proofs.Joining.{is_another, is_there, found, joined}
use Rattle.nm_core.proofs.machine.Machine.join.Goals as goal

pub returns : goal.returns
returns c =
    let workers = ap (λ (s : State). s.workers) c.self.view_is in
    let same = ap (λ (ws : List Knowledge). length ws) workers in
    let heir_there = c.requires.is_there in
    let leaver_there = is_there c.requires in
    let came = c.inherit.ensures ∙ ap (inheriting c.index_mut-2.result.now) c.resign-passed.ensures.ledgers in
    record {
      reply = rw c.in_ok-told.ensures (ap (λ (k : Knowledge). Joined k.ledgers)
          (found c.args.self.now c.args.leaver c.index.result.now leaver_there (rw workers at c.index.ensures)));
      state = rw (← c.self.view_is)
          (joined _ c.args.worker c.args.leaver (is_another c.requires) c.index_mut.result.now
          c.index_mut-2.result.now c.resign-passed.new.self c.inherit.new.self
          (omega arith) (omega arith) c.index_mut.ensures.value c.resign-passed.ensures.gone
          c.index_mut-2.ensures.value came);
    }
