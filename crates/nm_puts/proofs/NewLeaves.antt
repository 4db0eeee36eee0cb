-- A new leaf is claimed, and given back.
use Rattle.std.proofs.Common.{◌≡◌, false, true≢false, refl, sym, ap, ◌∙◌}
use Rattle.std.specs.Prelude.{Option, Some, None, is_some, IfSome, unwrap_or}
use native.Mathlib.Decide.{ℕ_discrete}
use Rattle.nm_edge.specs.declared.node.NodeId.{NodeId}
use Rattle.nm_model.specs.declared.knowledge.Draft.{Draft}
use Rattle.nm_model.specs.Knowledge.{is_private, unfilled}
use Rattle.nm_model.specs.Maps.{get}
use Rattle.nm_order.specs.Told.{IsNew}
use Rattle.nm_pool.specs.Claims.{IsNewNode}
use Rattle.nm_steps.specs.Rules.{knowledge}
use Rattle.nm_steps.specs.Steps.{PassView}
use Rattle.nm_walks.specs.Growing.{HasNewNodes}
use Rattle.nm_walks.specs.Making.{KeepsAllBut, KeepsOtherSlots}
use Rattle.nm_puts.specs.Leaves.{HasNewLeaf, HoldsNewLeaf}

-- what is not private has no draft
pub no_draft : (o : Option Draft) → is_some o ≡ false → o ≡ None
no_draft None h = refl
no_draft (Some d) h = absurd (true≢false h)

pub has_new_leaf : (p q : PassView) (r : Option NodeId) → KeepsAllBut r p q → IfSome r (IsNewNode (knowledge q.view))
    → IfSome r (λ n. IsNew p.view.layout p.view.number p.view.log n.slot) → HasNewLeaf p q r
has_new_leaf p q None others made new = λ s. others s tt
has_new_leaf p q (Some n) others made new = record {
  has_birth = ap (λ (o : Option Draft). (unwrap_or o unfilled).birth) made;
  others = others;
  was = no_draft (get (knowledge p.view).drafts n.slot) new.not_held;
}

-- a leaf that is given back is as it was before its claim
pub given_back : (o p q : PassView) (n : NodeId) → HoldsNewLeaf o p n → is_private (knowledge q.view) n.slot ≡ false
    → KeepsOtherSlots n.slot p q → HasNewNodes o q None
given_back o p q n h gone others s = elim (ℕ_discrete s n.slot) [
  | yes at ↦ rw at (no_draft (get (knowledge q.view).drafts n.slot) gone ∙ sym h.was)
  | no ne ↦ others s ne ∙ h.others s ne
]
