use Rattle.std.proofs.Common.{rules, drop, ap, sym, ◌∙◌}
use Rattle.nm_model.specs.Queues.{front_at, entry_at}
use Rattle.nm_model.proofs.QueueIndices.{not_known, has_left, is_the_last}
use Rattle.nm_model.proofs.queue.Queue.find.Goals as goal

pub returns-in_err-indices : goal.returns-in_err-indices
returns-in_err-indices c =
    c.from_residual.ensures ∙ sym (not_known c.self.inside.indices c.self.inside.entries.items c.self.inside.departed
    c.args.slot c.self.invariant.covered (search rules)) ∙ ap (λ es. entry_at es c.args.slot) c.self.view_is

pub returns-then-indices-self : goal.returns-then-indices-self
returns-then-indices-self c =
    sym (has_left c.self.inside.indices c.self.inside.entries.items c.self.inside.departed c.args.slot
    c.self.invariant.covered c.in_ok-indices.indices (search rules) (search rules) (search rules))
    ∙ ap (λ es. entry_at es c.args.slot) c.self.view_is

pub returns : goal.returns
returns c =
    c.entry_at.ensures ∙ ap (λ es. front_at (drop c.in_ok-indices.indices.last es) c.args.slot) c.deref.ensures.value
    ∙ sym (is_the_last c.self.inside.indices c.self.inside.entries.items c.self.inside.departed c.args.slot
    c.self.invariant.covered c.in_ok-indices.indices (search rules) (search rules) (search rules))
    ∙ ap (λ es. entry_at es c.args.slot) c.self.view_is
