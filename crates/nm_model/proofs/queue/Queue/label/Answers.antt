use Rattle.std.proofs.Common.{ap, ◌∙◌, drop, map}
use Rattle.std.proofs.lemmas.List.{drop-map}
use Rattle.nm_model.specs.Queues.{with_label}
use Rattle.nm_model.proofs.QueueLabels.{all_labelled}
use Rattle.nm_model.proofs.queue.Queue.label.Goals as goal

pub invariant_of-self : goal.invariant_of-self
invariant_of-self c = all_labelled c.self.inside.entries.items _ _ _ c.args.label _ c.label_from.ensures
    c.self.invariant.departed_fits (search c.len-self-inside.ensures) c.self.invariant.covered

pub returns : goal.returns
returns c = ap (drop c.self.inside.departed) c.label_from.ensures
    ∙ drop-map (with_label c.args.label) c.self.inside.departed c.self.inside.entries.items
    ∙ ap (map (with_label c.args.label)) c.self.view_is
