-- What a won link has found, and what it leaves.
use Rattle.std.proofs.Common.{◌≡◌, ℕ, Bool, true, false, cond, List, refl, sym, ◌∙◌}
use Rattle.std.specs.Prelude.{All, None, Some, Option, Result, Ok, Err}
use Rattle.nm_edge.specs.Edges.{Edge, is_to, to}
use Rattle.nm_edge.specs.Layouts.{Layout, IsLayout}
use Rattle.nm_edge.specs.declared.edge.Side.{Side}
use Rattle.nm_edge.specs.declared.node.NodeId.{NodeId}
use Rattle.nm_model.specs.declared.event.Event.{Event}
use Rattle.nm_model.specs.declared.event.Event.TheVariants.{Link}
use Rattle.nm_model.specs.declared.reply.Refused.{Refused}
use Rattle.nm_model.specs.declared.reply.Reply.{Reply}
use Rattle.nm_model.specs.declared.reply.Reply.TheVariants.{Linked, Lost}
use Rattle.nm_model.specs.Memory.{Memory, child, edge, put_edge}
use Rattle.nm_model.specs.Ordered.{Configuration, HasKey, ordered, after_in, outcome_in, refused_in}
use Rattle.nm_model.specs.Runs.{of, reply_of}
use Rattle.nm_model.specs.Step.{node_linked, reply}
use Rattle.nm_laws.proofs.Configurations.{allowed_by_state, allowed_outcome, refused_outcome}
use Rattle.nm_laws.proofs.Steps.{Allowed, allowed}
use Rattle.nm_laws.proofs.TreeSteps.{Lawful}
use Rattle.nm_order.proofs.OrderedLaws.{IsOrdered, each_ordered, law_of_state}
use Rattle.nm_order.proofs.OrderedLinks.{grafted}
use Rattle.nm_order.proofs.OrderedTrees.{Grafting}
use Rattle.nm_order.proofs.TreeChanges.{WonLink, won_link}
use Rattle.nm_walks.proofs.Looks.{enough}

module _ (L : Layout) (fits : IsLayout L) (events : List (ℕ × Event)) (keys : All (λ t. HasKey t.1) events)
    (w parent : ℕ) (side : Side) (old new : ℕ) (n : NodeId)
    (won : outcome_in (after_in (ordered L) events) (w, Link parent side old new) ≡ Ok (Linked n)) where
  abbrev pub c : Configuration
  c = after_in (ordered L) events

  abbrev event : ℕ × Event
  event = (w, Link parent side old new)

  pub is_ordered : IsOrdered L c
  is_ordered = each_ordered L (enough L fits) events keys

  abbrev pub hold : ℕ → ℕ
  hold = (law_of_state L (enough L fits) c is_ordered).0

  pub law : Lawful c.state hold
  law = (law_of_state L (enough L fits) c is_ordered).1

  pub unrefused : refused_in c w (Link parent side old new) ≡ None
  unrefused = go (refused_in c w (Link parent side old new)) refl
    where
      wrong : (r : Refused) → Err r ≡ Ok (Linked n) → ⊥
      wrong r e = cc

      go : (o : Option Refused) → refused_in c w (Link parent side old new) ≡ o → o ≡ None
      go None is = refl
      go (Some r) is = absurd (wrong r (sym (refused_outcome c event r is) ∙ won))

  ok : Allowed c.state w (Link parent side old new)
  ok = allowed c.state w (Link parent side old new) (allowed_by_state c w (Link parent side old new) unrefused)

  replied : reply_of c.state w (Link parent side old new) ≡ Linked n
  replied = same_ok (sym (allowed_outcome c event unrefused) ∙ won)
    where
      same_ok : ◌≡◌ {A = Result Reply Refused} (Ok (reply_of c.state w (Link parent side old new))) (Ok (Linked n))
          → reply_of c.state w (Link parent side old new) ≡ Linked n
      same_ok e = cc

  pub found : is_to (edge c.state.memory parent side) old ≡ true
  unfolding reply
  found = by (is_to (edge c.state.memory parent side) old) refl replied
    where
      lost : (f : Edge) → Lost f ≡ Linked n → ⊥
      lost f e = cc

      by : (b : Bool) → is_to (edge c.state.memory parent side) old ≡ b
          → cond b (Linked (node_linked (of c.state w) new)) (Lost (edge c.state.memory parent side)) ≡ Linked n
          → b ≡ true
      by true is r = refl
      by false is r = absurd (lost (edge c.state.memory parent side) r)

  pub link : WonLink c.state hold law w parent side old new
  link = won_link c.state hold law w parent side old new ok found

  abbrev pub after : Memory
  after = put_edge c.state.memory parent side (to new)

  pub graft : Grafting (child c.state.memory) (child after) parent side old new link.drafts.far link.drafts.side
  graft = grafted c.state hold law w parent side old new link.drafts.far link.drafts.side link.link (child after)
      link.exchanged
