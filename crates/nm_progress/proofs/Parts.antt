-- What the parts of a try add to a log: looks, claims and fills change nothing; and help makes it
-- longer.
use Rattle.std.proofs.Common.{◌≡◌, ℕ, zero, suc, ◌-◌, ◌+◌, inl, inr, ◌⊎◌, List, [], ◌∷◌, ◌++◌, append_assoc, refl, sym, ap, ◌∙◌}
use Rattle.std.specs.Prelude.{Option, Some, None}
use Rattle.std.proofs.lemmas.List.{append-nil}
use Rattle.nm_edge.specs.Layouts.{Layout}
use Rattle.nm_edge.specs.declared.edge.Side.{Side}
use Rattle.nm_edge.specs.declared.node.NodeId.{NodeId}
use Rattle.nm_edge.specs.Edges.{Edge}
use Rattle.nm_model.specs.declared.event.Event.{Event}
use Rattle.nm_model.specs.Walks.{Entry}
use Rattle.nm_pool.specs.Claims.{DoneInTurn, DoneAt, PassedOver, PassedWithin, IsClaimBy}
use Rattle.nm_edge.specs.declared.placement.Fit.{Fit}
use Rattle.nm_edge.specs.declared.placement.Fit.TheVariants as fit
use Rattle.nm_epoch.specs.Tries.{LostTries, IsPinnedBy}
use Rattle.nm_walks.specs.declared.making.NewNodes.{NewNodes}
use Rattle.nm_walks.specs.declared.cutting.Kept.{Kept}
use Rattle.nm_walks.specs.declared.looking.Onward.{Onward}
use Rattle.nm_walks.specs.declared.seek_record.ChainEdge.{ChainEdge}
use Rattle.nm_walks.specs.declared.seek_record.WalkEnd.{WalkEnd}
use Rattle.nm_walks.specs.declared.seek_record.SeekRecord.{SeekRecord}
use Rattle.nm_walks.specs.Walks.{Reads, Walks, IsBroken, Seeks}
use Rattle.nm_walks.specs.Cleanups.{Chooses, FreezesOne, Freezes, Prepares, CutsOff, CleanupLost, CleanupWon}
use Rattle.nm_walks.specs.Growing.{Returns}
use Rattle.nm_calls.specs.Inserts.{Readies, Helps}
use Rattle.nm_progress.proofs.MoreTries.{Plain, plain_none, plain_these, plain_then}

-- ---- claims

passed_plain : (s : ℕ) (old new : List Entry) → PassedOver s old new → Plain old new
passed_plain s old new (inl taken) = plain_these _ old new refl taken
passed_plain s old new (inr exhausted) = plain_these _ old new refl exhausted

passed_all : (from n : ℕ) (old new : List Entry) → DoneInTurn PassedOver from n old new → Plain old new
passed_all from zero old new h = plain_none old new h
passed_all from (suc n) old new h = plain_then old h.0 new (passed_all from n old h.0 h.1)
    (passed_plain (from + n) h.0 new h.2)

passed_at : (nodes : ℕ) (slots : List ℕ) (old new : List Entry) → DoneAt (PassedWithin nodes) slots old new
    → Plain old new
passed_at nodes [] old new h = plain_none old new h
passed_at nodes (s ∷ slots) old new h = plain_then old h.0 new (passed_at nodes slots old h.0 h.1)
    (passed_plain s h.0 new h.2.2)

pub claim_plain : (f : Fit) (nodes : ℕ) (old new : List Entry) (n : NodeId) → IsClaimBy f nodes old new (Some n)
    → Plain old new
claim_plain fit.FirstFit nodes old new n h = plain_then old h.before new
    (passed_all 6 (n.slot - 6) old h.before h.passed) (plain_these _ h.before new refl h.made.entries)
claim_plain fit.NextFit nodes old new n h = plain_then old h.before new
    (passed_at nodes h.slots old h.before h.passed) (plain_these _ h.before new refl h.made.entries)

pub readies_plain : (fit : Fit) (nodes : ℕ) (f : Option NewNodes) (made : NewNodes) (old new : List Entry)
    → Readies fit nodes f made old new → Plain old new
readies_plain fit nodes None made old new h = plain_then old h.0 new
    (claim_plain fit nodes old h.0 made.internal h.1) (claim_plain fit nodes h.0 new made.leaf h.2)
readies_plain fit nodes (Some f) made old new h = plain_none old new h.1

pub reads_plain : (k x : ℕ) (old new : List Entry) (on : Onward) → Reads k x old new on → Plain old new
reads_plain k x old new on r = plain_then old _ new (plain_these _ old _ refl refl)
    (plain_then _ _ new (plain_these _ _ _ refl refl) (plain_these _ _ new refl r.2))

-- ---- a log that has grown

pub record Longer (old new : List Entry) : Type 0 where
  pub entries : List Entry
  pub are : new ≡ old ++ entries

pub longer_these : (more old new : List Entry) → new ≡ old ++ more → Longer old new
longer_these more old new is = record { entries = more; are = is }

pub longer_then : (old mid new : List Entry) → Longer old mid → Longer mid new → Longer old new
longer_then old mid new a b = record {
  entries = a.entries ++ b.entries;
  are = b.are
      ∙ (ap (λ (l : List Entry). l ++ b.entries) a.are ∙ append_assoc old a.entries b.entries);
}

pub longer_none : (old new : List Entry) → new ≡ old → Longer old new
longer_none old new is = record { entries = []; are = is ∙ sym (append-nil old) }

pub plain_longer : (old new : List Entry) → Plain old new → Longer old new
plain_longer old new p = record { entries = p.entries; are = p.are }

-- the tries of a pin
pins_longer : (sight : Event) (n : ℕ) (old new : List Entry) → LostTries sight n old new → Longer old new
pins_longer sight zero old new is = longer_none old new is
pins_longer sight (suc n) old new h = longer_then old h.0 new (pins_longer sight n old h.0 h.1)
    (longer_then h.0 _ new (longer_these _ h.0 _ refl) (longer_these _ _ new h.2.2))

pub pin_longer : (sight : Event) (tries : ℕ) (old new : List Entry) (epoch : ℕ)
    → IsPinnedBy sight tries old new epoch → Longer old new
pin_longer sight tries old new epoch h = longer_then old _ new (longer_these _ old _ refl)
    (longer_then _ h.2 new (pins_longer sight h.1 _ h.2 h.4)
    (longer_then h.2 _ new (longer_these _ h.2 _ refl) (longer_these _ _ new h.5.1)))

pub reads_longer : (k x : ℕ) (old new : List Entry) (on : Onward) → Reads k x old new on → Longer old new
reads_longer k x old new on r = longer_then old _ new (longer_these _ old _ refl)
    (longer_then _ _ new (longer_these _ _ _ refl) (longer_these _ _ new r.2))

pub walk_longer : (k n : ℕ) (old new : List Entry) (s : SeekRecord) (c : List ChainEdge) → Walks k n old new s c
    → Longer old new
walk_longer k zero old new s c w = longer_these _ old new w.3
walk_longer k (suc n) old new s c w = longer_then old w.0 new (walk_longer k n old w.0 w.1 w.2 w.4)
    (reads_longer k w.1.edge.slot w.0 new w.3 w.6)

pub broken_longer : (L : Layout) (k : ℕ) (old new : List Entry) → IsBroken L k old new → Longer old new
broken_longer L k old new (inl e) = walk_longer k e.1 old new e.2 e.3 e.4
broken_longer L k old new (inr e) = longer_then old e.2 new (walk_longer k e.1 old e.2 e.3 e.4 e.7)
    (reads_longer k e.3.edge.slot e.2 new e.5 e.8)

pub seeks_longer : (L : Layout) (k : ℕ) (old new : List Entry) (c : List ChainEdge) (r : WalkEnd)
    → Seeks L k old new c (Some r) → Longer old new
seeks_longer L k old new c r h = longer_then old h.0.1 new (walk_longer k h.0.0 old h.0.1 r.seek_record c h.0.4)
    (reads_longer k r.seek_record.edge.slot h.0.1 new h.0.2 h.0.6)

pub choice_longer : (s : SeekRecord) (r : Option Kept) (old new : List Entry) → Chooses s old new r → Longer old new
choice_longer s r old new h = longer_then old _ new (longer_these _ old _ refl) (longer_these _ _ new h.2)

one_longer : (slot : ℕ) (side : Side) (old new : List Entry) → FreezesOne slot side old new → Longer old new
one_longer slot side old new h = longer_then old _ new (longer_these _ old _ refl)
    (longer_then _ _ new (longer_these _ _ _ refl) (longer_these _ _ new h.3))

pub chain_longer : (parent : ℕ) (keep : Side) (c : List ChainEdge) (old new : List Entry)
    → Freezes parent keep c old new → Longer old new
chain_longer parent keep [] old new h = one_longer parent keep old new h
chain_longer parent keep (l ∷ c) old new h = longer_then old h.0 new (one_longer l.slot l.side old h.0 h.1)
    (chain_longer parent keep c h.0 new h.2)

pub prepared_longer : (s : SeekRecord) (c : List ChainEdge) (k : Kept) (old new : List Entry)
    → Prepares s c k old new → Longer old new
prepared_longer s c k old new h = longer_then old h.0 new (choice_longer s (Some k) old h.0 h.2)
    (longer_then h.0 _ new (longer_these _ h.0 _ refl) (chain_longer s.parent k.side c _ new h.3))

cut_longer : (s : SeekRecord) (c : List ChainEdge) (ns : List NodeId) (old new : List Entry) → CutsOff s c ns old new
    → Longer old new
cut_longer s c ns old new h = longer_then old h.1 new (prepared_longer s c h.0 old h.1 h.2) (longer_these _ h.1 new h.3)

pub cleanup_longer : (s : SeekRecord) (c : List ChainEdge) (old new : List Entry)
    → ((ns : List NodeId) × (epoch : ℕ) × CleanupWon s c ns epoch old new) ⊎ CleanupLost s c old new → Longer old new
cleanup_longer s c old new (inl won) = longer_then old won.2.0 new (cut_longer s c won.0 old won.2.0 won.2.1)
    (longer_these _ won.2.0 new won.2.2)
cleanup_longer s c old new (inr (inl none')) = choice_longer s None old new none'
cleanup_longer s c old new (inr (inr l)) = longer_then old l.1 new (prepared_longer s c l.0 old l.1 l.3)
    (longer_these _ l.1 new l.4)

pub help_longer : (r : WalkEnd) (c : List ChainEdge) (e : Edge) (old new : List Entry) → Helps r c e old new
    → Longer old new
help_longer r c e old new (inr h) = longer_none old new h.1
help_longer r c e old new (inl h) = cleanup_longer r.seek_record c old new h.1

pub returns_longer : (f : Option NewNodes) (old new : List Entry) → Returns f old new → Longer old new
returns_longer None old new h = longer_none old new h
returns_longer (Some f) old new h = longer_then old _ new (longer_these _ old _ refl) (longer_these _ _ new h)
