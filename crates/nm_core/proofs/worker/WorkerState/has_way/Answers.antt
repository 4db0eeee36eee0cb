use Rattle.std.proofs.Common.{sym, ap, ◌∙◌}
use Rattle.nm_model.specs.Knowledge.{Knowledge}
use Rattle.nm_core.specs.Chains.{leads_to}
use Rattle.nm_core.proofs.ChainLemmas.{way_leads}
use Rattle.nm_core.proofs.worker.WorkerState.has_way.Goals as goal

pub returns-clause-way : goal.returns-clause-way
returns-clause-way c =
    let known = ap (λ (k : Knowledge). k.known) c.self.view_is in
    c.has_way.ensures.way ∙ ap (λ m. leads_to c.args.fuel m c.args.from c.args.to) known
    ∙ sym (way_leads c.args.fuel c.args.self.now c.args.from c.args.to)
