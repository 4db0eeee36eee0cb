use Rattle.std.proofs.Common.{◌≡◌, List, [], ◌∷◌, ◌++◌, ap, ◌∙◌, sym}
use Rattle.nm_edge.specs.Edges.{Edge}
use Rattle.nm_edge.specs.declared.edge.Side.{Side}
use Rattle.nm_edge.specs.declared.edge.Side.TheVariants.{Left, Right}
use Rattle.nm_model.specs.declared.event.Event.TheVariants.{Look}
use Rattle.nm_model.specs.declared.event.Field.TheVariants.{Edge as EdgeOn}
use Rattle.nm_model.specs.declared.reply.Reply.TheVariants.{EdgeIs}
use Rattle.nm_model.specs.Walks.{Entry}
use Rattle.nm_order.specs.Facts.Fact.{KnowsSlot}
use Rattle.nm_steps.specs.Steps.{PassView}
use Rattle.nm_walks.specs.Walks.{edge_on}
use Rattle.nm_walks.proofs.GoingOn.{goes_then, only_then, pinned_in_still, told_onward}
use Rattle.nm_walks.proofs.looking.read_node.Goals as goal

pub look_edge-left-requires-clause-pinned : goal.look_edge-left-requires-clause-pinned
look_edge-left-requires-clause-pinned c = pinned_in_still c.args.shared.now c.args.pass.now c.look_key-found.new.pass
    c.look_key-found.ensures.on c.requires.pinned

pub look_edge-left-requires-clause-known : goal.look_edge-left-requires-clause-known
look_edge-left-requires-clause-known c = c.look_key-found.ensures.on.keeps (KnowsSlot c.args.slot) c.requires.known

pub look_edge-right-requires-clause-pinned : goal.look_edge-right-requires-clause-pinned
look_edge-right-requires-clause-pinned c = pinned_in_still c.args.shared.now c.look_key-found.new.pass
    c.look_edge-left.new.pass c.look_edge-left.ensures.on
    (pinned_in_still c.args.shared.now c.args.pass.now c.look_key-found.new.pass c.look_key-found.ensures.on
    c.requires.pinned)

pub look_edge-right-requires-clause-known : goal.look_edge-right-requires-clause-known
look_edge-right-requires-clause-known c = c.look_edge-left.ensures.on.keeps (KnowsSlot c.args.slot)
    (c.look_key-found.ensures.on.keeps (KnowsSlot c.args.slot) c.requires.known)

pub returns-clause-on : goal.returns-clause-on
returns-clause-on c =
    let o = c.args.pass.now in
    let r = c.look_key-found.new.pass in
    let s = c.look_edge-left.new.pass in
    let q = c.look_edge-right.new.pass in
    goes_then o r q c.look_key-found.ensures.on (goes_then r s q c.look_edge-left.ensures.on
    c.look_edge-right.ensures.on)

pub returns-clause-only : goal.returns-clause-only
returns-clause-only c =
    let o = c.args.pass.now in
    let r = c.look_key-found.new.pass in
    let s = c.look_edge-left.new.pass in
    let q = c.look_edge-right.new.pass in
    only_then o r q c.look_key-found.ensures.only (only_then r s q c.look_edge-left.ensures.only
    c.look_edge-right.ensures.only)

pub returns-clause-told : goal.returns-clause-told
returns-clause-told c =
    let o = c.args.pass.now in
    let r = c.look_key-found.new.pass in
    let s = c.look_edge-left.new.pass in
    let q = c.look_edge-right.new.pass in
    rw c.edge_at-next.ensures (told_onward o r s q c.args.key c.args.slot c.look_key-found.result
    c.look_edge-left.result c.look_edge-right.result
    c.look_key-found.ensures.told c.look_edge-left.ensures.told c.look_edge-right.ensures.told
    c.look_edge-left.ensures.on c.look_edge-right.ensures.on c.side_at-side.result c.side_at-side.ensures)

pub returns-clause-leaf : goal.returns-clause-leaf
returns-clause-leaf c is_left null =
    let x = c.args.slot in
    let key = c.look_key-found.result in
    let left = c.look_edge-left.result in
    let right = c.look_edge-right.result in
    let first = ap (λ (s : PassView). s.view.log) c.look_key-found.ensures.step in
    let second = ap (λ (s : PassView). s.view.log) c.look_edge-left.ensures.step
    ∙ ap (λ (l : List Entry). l ++ (Look x (EdgeOn Left), EdgeIs left) ∷ []) first in
    let third = ap (λ (s : PassView). s.view.log) c.look_edge-right.ensures.step
    ∙ ap (λ (l : List Entry). l ++ (Look x (EdgeOn Right), EdgeIs right) ∷ []) second in
    let same : left.slot ≡ c.edge_at-next.result.slot = sym
    (ap (λ (e : Edge). e.slot) (c.edge_at-next.ensures ∙ ap (λ (d : Side). edge_on d left right) is_left)) in (
      left,
      right,
      third,
      same ∙ null,
      c.look_edge-right.ensures.told.null
          (c.look_edge-left.ensures.told.learned.leaf (same ∙ null)),
    )
