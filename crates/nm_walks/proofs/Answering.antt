-- Which answers a call's log allows, and what a label leaves.
use Rattle.std.proofs.Common.{ℕ, ap, ◌∙◌}
use Rattle.nm_model.specs.declared.event.Event.TheVariants.{Sight}
use Rattle.nm_model.specs.declared.knowledge.Brief.{Brief}
use Rattle.nm_model.specs.declared.reply.Reply.TheVariants.{Labelled}
use Rattle.nm_model.specs.Knowledge.{Knowledge}
use Rattle.nm_model.specs.Searches.{searched}
use Rattle.nm_laws.proofs.Learned.{learn_labelled}
use Rattle.nm_steps.specs.Steps.{PassView, Stepped}
use Rattle.nm_epoch.proofs.Entries.{epochs_after, search_is}
use Rattle.nm_epoch.proofs.Labels.{drafts_stay}
use Rattle.nm_walks.specs.Labelling.{OnlyLabels}
use Rattle.nm_steps.proofs.Presence.{known_after_step}

-- ---- a label

pub only_labels : (p q : PassView) (e : ℕ) → Stepped p q Sight (Labelled e) → OnlyLabels e p q
unfolding searched
only_labels p q e step =
    let b = epochs_after p q Sight (Labelled e) step in
    let k = known_after_step p q Sight (Labelled e) step ∙ learn_labelled p.view.number _ e in
    record {
      seen = ap (λ (b : Brief). b.seen) b;
      announcement = ap (λ (b : Brief). b.announcement) b;
      pin = ap (λ (b : Brief). b.pin) b;
      labelled = ap (λ (b : Brief). b.unlabelled) b;
      private = drafts_stay p q e step;
      known = ap (λ (y : Knowledge). y.known) k;
      search = search_is p q Sight (Labelled e) step;
    }
