-- What claiming a slot leaves, and giving it back.
use Rattle.std.proofs.Common.{◌≡◌, ap}
use Rattle.std.specs.Prelude.{Some}
use Rattle.nm_edge.specs.declared.node.NodeId.{NodeId}
use Rattle.nm_model.specs.declared.knowledge.Draft.{Draft}
use Rattle.nm_model.specs.Knowledge.{unfilled}
use Rattle.nm_pool.specs.Claims.{IsNewNode}
use Rattle.nm_steps.specs.Rules.{knowledge}
use Rattle.nm_steps.specs.Steps.{PassView}
use Rattle.nm_walks.specs.Making.{draft}
use Rattle.nm_walks.proofs.Makes.{get_draft}

-- ---- what a claimed node has

-- its birth is stored
pub new_birth : (p : PassView) (n : NodeId) → IsNewNode (knowledge p.view) n → (draft p n.slot).birth ≡ Some n.birth
new_birth p n made = ap (λ (d : Draft). d.birth) (get_draft p n.slot (record unfilled { birth = Some n.birth }) made)
