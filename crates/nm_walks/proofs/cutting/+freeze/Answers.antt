use Rattle.std.proofs.Common.{◌≡◌, ℕ, suc, ◌+◌, List, [], ◌∷◌, ◌++◌, length, sym, ap, subst, ◌∙◌, arith}
use Rattle.std.proofs.lemmas.List.{length-append, append_assoc, nil_from_length}
use Rattle.nm_edge.specs.declared.node.NodeId.{NodeId}
use Rattle.nm_order.specs.Facts.Fact.{KnowsSlot, IsTagged}
use Rattle.nm_order.specs.Told.{FrozenTo}
use Rattle.nm_walks.specs.Cleanups.{top}
use Rattle.nm_walks.specs.Telling.{Tells}
use Rattle.nm_walks.specs.Walks.{ChainLeads}
use Rattle.nm_walks.specs.declared.seek_record.ChainEdge.{ChainEdge}
use Rattle.nm_walks.proofs.Freezing.{top_of, frozen_end, frozen_above}
use Rattle.nm_walks.proofs.GoingOn.{pinned_in_still}
use Rattle.nm_walks.proofs.Standing.{leads_kept}
use Rattle.nm_walks.proofs.cutting.+freeze.Goals as goal

pub add_frozen-requires-in-Some-clause-tagged : goal.add_frozen-requires-in-Some-clause-tagged
add_frozen-requires-in-Some-clause-tagged t c =
    let split : c.args.chain.now ≡ c.in-Some.edge.now ∷ c.in-Some.rest.now = c.in-Some.ensures.cases.0 in
    let way : ChainLeads (Tells c.args.pass.now) c.in-Some.edge.now.slot (c.in-Some.edge.now ∷ c.in-Some.rest.now)
    c.args.parent = subst (λ (ch : List ChainEdge). ChainLeads (Tells c.args.pass.now) (top ch c.args.parent)
    ch c.args.parent) split c.requires.way in
    (way.1, way.2)

pub freeze-requires : goal.freeze-requires
freeze-requires t c =
    let p = c.args.pass.now in
    let r = c.add_frozen-in-Some.new.pass in
    let rest = c.in-Some.rest.now in
    let split : c.args.chain.now ≡ c.in-Some.edge.now ∷ rest = c.in-Some.ensures.cases.0 in
    let way : ChainLeads (Tells p) c.in-Some.edge.now.slot (c.in-Some.edge.now ∷ rest) c.args.parent = subst
    (λ (ch : List ChainEdge). ChainLeads (Tells p) (top ch c.args.parent) ch c.args.parent) split
    c.requires.way in
    let keeps = c.add_frozen-in-Some.ensures.on.keeps in
    let at : top rest c.args.parent ≡ way.1 = top_of (Tells p) way.1 rest c.args.parent way.4 in
    let below : ChainLeads (Tells r) (top rest c.args.parent) rest c.args.parent = subst
    (λ (s : ℕ). ChainLeads (Tells r) s rest c.args.parent) (sym at)
    (leads_kept (Tells p) (Tells r) keeps way.1 rest c.args.parent way.4) in
    let known : Tells r (KnowsSlot (top rest c.args.parent)) = subst (λ (s : ℕ). Tells r (KnowsSlot s)) (sym at)
    (keeps (KnowsSlot way.1) way.3) in
    let longer : length c.args.chain.now ≡ suc (length rest) = ap (λ (ch : List ChainEdge). length ch) split in
    let frozen = c.add_frozen-in-Some.ensures.frozen in
    let more : length c.add_frozen-in-Some.new.nodes.items
    ≡ length c.args.nodes.now.items + 2 = ap (λ (ns : List NodeId). length ns) frozen.3
    ∙ length-append c.args.nodes.now.items (frozen.0 ∷ frozen.1 ∷ []) in
    let room = c.requires.room in (
      omega (arith, longer),
      (
        pinned_in_still c.args.shared.now p r c.add_frozen-in-Some.ensures.on c.requires.pinned,
        (
          below,
          (
            known,
            (
              (
                c.requires.tagged.0,
                keeps (IsTagged c.args.parent c.args.keep c.requires.tagged.0)
                    c.requires.tagged.1,
              ),
              omega (arith, longer, more, room),
            ),
          ),
        ),
      ),
    )

pub returns-in-None-clause-frozen : goal.returns-in-None-clause-frozen
returns-in-None-clause-frozen t c =
    let none' : c.args.chain.now ≡ [] = nil_from_length c.args.chain.now c.in-None.ensures.cases in
    let frozen = c.add_frozen.ensures.frozen in (
      frozen.0 ∷ frozen.1 ∷ [],
      frozen.3,
      subst (λ (ch : List ChainEdge). FrozenTo (Tells c.add_frozen.new.pass) c.args.parent c.args.keep
          (top ch c.args.parent) (frozen.0 ∷ frozen.1 ∷ [])) (sym none')
          (frozen_end c.args.pass.now c.add_frozen.new.pass c.args.parent c.args.keep frozen.0 frozen.1 frozen.2
          c.add_frozen.ensures.on c.requires.tagged.0 c.requires.tagged.1),
    )

pub returns-in-Some-clause-frozen : goal.returns-in-Some-clause-frozen
returns-in-Some-clause-frozen t c =
    let p = c.args.pass.now in
    let r = c.add_frozen-in-Some.new.pass in
    let q = c.freeze.new.pass in
    let rest = c.in-Some.rest.now in
    let split : c.args.chain.now ≡ c.in-Some.edge.now ∷ rest = c.in-Some.ensures.cases.0 in
    let way : ChainLeads (Tells p) c.in-Some.edge.now.slot (c.in-Some.edge.now ∷ rest) c.args.parent = subst
    (λ (ch : List ChainEdge). ChainLeads (Tells p) (top ch c.args.parent) ch c.args.parent) split
    c.requires.way in
    let at : top rest c.args.parent ≡ way.1 = top_of (Tells p) way.1 rest c.args.parent way.4 in
    let one = c.add_frozen-in-Some.ensures.frozen in
    let later = c.freeze.ensures.frozen in
    let below : FrozenTo (Tells q) c.args.parent c.args.keep way.1 later.0 = subst
    (λ (s : ℕ). FrozenTo (Tells q) c.args.parent c.args.keep s later.0) at later.2 in (
      one.0 ∷ one.1 ∷ later.0,
      later.1 ∙ (ap (λ (ns : List NodeId). ns ++ later.0) one.3
          ∙ append_assoc c.args.nodes.now.items (one.0 ∷ one.1 ∷ []) later.0),
      subst (λ (ch : List ChainEdge). FrozenTo (Tells q) c.args.parent c.args.keep (top ch c.args.parent)
          (one.0 ∷ one.1 ∷ later.0)) (sym split)
          (frozen_above p r q c.in-Some.edge.now.slot way.1 c.args.parent c.in-Some.edge.now.side c.args.keep one.0
          one.1 later.0 one.2 c.add_frozen-in-Some.ensures.on c.freeze.ensures.on way.2 below),
    )
