-- What one step leaves of a worker's epochs and of its call.
use Rattle.std.proofs.Common.{◌≡◌, ap, ◌∙◌}
use Rattle.nm_model.specs.declared.event.Event.{Event}
use Rattle.nm_model.specs.declared.reply.Reply.{Reply}
use Rattle.nm_model.specs.Knowledge.{Knowledge}
use Rattle.nm_model.specs.Searches.{idle, searched}
use Rattle.nm_steps.specs.Rules.{knowledge}
use Rattle.nm_steps.specs.Steps.{PassView, Stepped}
use Rattle.nm_steps.proofs.Noting.{noted, brief_is_noted}
use Rattle.nm_steps.proofs.Presence.{known_push}
use Rattle.nm_order.proofs.LastEntries.{search_more}
use Rattle.nm_epoch.specs.Resting.{epochs, search}

pub epochs_after : (p q : PassView) (e : Event) (r : Reply) → Stepped p q e r → epochs q ≡ noted (epochs p) e r
epochs_after p q e r step =
    ap (λ (x : PassView). epochs x) step
    ∙ (ap (λ (k : Knowledge). k.brief) (known_push p.view.number p.view.layout p.view.log (e, r))
    ∙ brief_is_noted p.view.number (knowledge p.view) e r)

pub search_is : (p q : PassView) (e : Event) (r : Reply) → Stepped p q e r → search q ≡ searched (search p) e r
search_is p q e r step = ap (λ (x : PassView). search x) step ∙ search_more idle p.view.log (e, r)
