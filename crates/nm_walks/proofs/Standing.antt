-- What is known where a walk stands, one node further.
use Rattle.std.proofs.Common.{◌≡◌, ◌≢◌, ℕ, Bool, true, false, cond, List, [], ◌∷◌, ◌++◌, ◌+◌, refl, add-one}
use Rattle.nm_edge.specs.Edges.{Edge}
use Rattle.nm_edge.specs.declared.edge.Side.{Side}
use Rattle.nm_model.specs.Walks.{Entry}
use Rattle.nm_order.specs.Facts.{Fact}
use Rattle.nm_order.specs.Facts.Fact.{KnowsSlot, IsTagged}
use Rattle.nm_order.specs.Taught.{EdgeLearned}
use Rattle.nm_walks.specs.declared.looking.Onward.{Onward}
use Rattle.nm_walks.specs.declared.seek_record.ChainEdge.{ChainEdge}
use Rattle.nm_walks.specs.declared.seek_record.SeekRecord.{SeekRecord}
use Rattle.nm_walks.specs.Walks.{begin, onto, chained, chain_onto, Reads, Walks, ChainLeads, IsAt}

-- ---- facts that stay

pub leads_kept : (H J : Fact → Type 0) → ((f : Fact) → H f → J f) → (s : ℕ) (c : List ChainEdge) (q : ℕ)
    → ChainLeads H s c q → ChainLeads J s c q
leads_kept H J k s [] q h = h
leads_kept H J k s (l ∷ c) q h = (
  h.0,
  h.1,
  k (IsTagged s l.side h.1) h.2,
  k (KnowsSlot h.1) h.3,
  leads_kept H J k
      h.1 c q h.4,
)

leads_on : (H : Fact → Type 0) (s : ℕ) (c : List ChainEdge) (q : ℕ) (d : Side) (t : ℕ) → ChainLeads H s c q
    → H (IsTagged q d t) → H (KnowsSlot t) → ChainLeads H s (c ++ chained q d ∷ []) t
leads_on H s [] q d t h tag known = rw h (refl, t, tag, known, refl)
leads_on H s (l ∷ c) q d t h tag known = (h.0, h.1, h.2, h.3, leads_on H h.1 c q d t h.4 tag known)

pub at_kept : (H J : Fact → Type 0) → ((f : Fact) → H f → J f) → (s : SeekRecord) (c : List ChainEdge) → IsAt H s c
    → IsAt J s c
at_kept H J k s c h = record {
  ancestor = k (KnowsSlot s.ancestor) h.ancestor;
  successor = k (KnowsSlot s.successor) h.successor;
  parent = k (KnowsSlot s.parent) h.parent;
  node = k (KnowsSlot s.edge.slot) h.node;
  tagged = λ e. k (IsTagged s.parent s.side s.edge.slot) (h.tagged e);
  way = leads_kept H J k s.successor c s.parent h.way;
}

-- ---- one node further

pub at_begin : (H : Fact → Type 0) (e : Edge) → H (KnowsSlot 1) → H (KnowsSlot 2) → EdgeLearned H 2 (begin e).side e
    → e.slot ≢ 0 → IsAt H (begin e) []
at_begin H e one two t some = record {
  ancestor = one;
  successor = two;
  parent = two;
  node = t.leads some;
  tagged = t.tagged;
  way = refl;
}

pub at_onto : (H : Fact → Type 0) (s : SeekRecord) (c : List ChainEdge) (d : Side) (e : Edge) → IsAt H s c
    → EdgeLearned H s.edge.slot d e → e.slot ≢ 0 → IsAt H (onto s d e) (chain_onto s c)
at_onto H s c d e h t some = cases s.edge.tag h.tagged
  where
    cases : (b : Bool) → (b ≡ true → H (IsTagged s.parent s.side s.edge.slot)) → IsAt H
        (cond b (record {
          ancestor = s.ancestor;
          above = s.above;
          successor = s.successor;
          parent = s.edge.slot;
          side = d;
          edge = e;
        })
        (record {
          ancestor = s.parent;
          above = s.side;
          successor = s.edge.slot;
          parent = s.edge.slot;
          side = d;
          edge = e;
        }))
        (cond b (c ++ chained s.parent s.side ∷ []) [])
    cases true tag = record {
      ancestor = h.ancestor;
      successor = h.successor;
      parent = h.node;
      node = t.leads some;
      tagged = t.tagged;
      way = leads_on H s.successor c s.parent s.side s.edge.slot h.way (tag refl) h.node;
    }
    cases false tag = record {
      ancestor = h.parent;
      successor = h.node;
      parent = h.node;
      node = t.leads some;
      tagged = t.tagged;
      way = refl;
    }

pub onto-edge : (t : SeekRecord) (d : Side) (e : Edge) → (onto t d e).edge ≡ e
onto-edge t d e = cases t.edge.tag
  where
    cases : (b : Bool) → (cond {A = SeekRecord} b (record
        { ancestor = t.ancestor; above = t.above; successor = t.successor; parent = t.edge.slot; side = d; edge = e })
        (record {
          ancestor = t.parent;
          above = t.side;
          successor = t.edge.slot;
          parent = t.edge.slot;
          side = d;
          edge = e;
        })).edge ≡ e
    cases true = refl
    cases false = refl

pub onto-parent : (t : SeekRecord) (d : Side) (e : Edge) → ((onto t d e).parent ≡ t.edge.slot) × ((onto t d e).side ≡ d)
onto-parent t d e = cases t.edge.tag
  where
    place : Bool → SeekRecord
    place b = cond {A = SeekRecord} b (record {
      ancestor = t.ancestor;
      above = t.above;
      successor = t.successor;
      parent = t.edge.slot;
      side = d;
      edge = e;
    })
        (record {
          ancestor = t.parent;
          above = t.side;
          successor = t.edge.slot;
          parent = t.edge.slot;
          side = d;
          edge = e;
        })

    cases : (b : Bool) → ((place b).parent ≡ t.edge.slot) × ((place b).side ≡ d)
    cases true = (refl, refl)
    cases false = (refl, refl)

-- ---- the log

pub walk_on : (k n : ℕ) (old mid new : List Entry) (t s : SeekRecord) (d : List ChainEdge) (on : Onward)
    → Walks k n old mid t d → Reads k t.edge.slot mid new on → s ≡ onto t on.side on.next → on.next.slot ≢ 0
    → Walks k (n + 1) old new s (chain_onto t d)
walk_on k n old mid new t s d on w read x some = rw add-one (mid, t, d, on, w, some, read, x, refl)
