-- What calls add to a log: none of it frees a node. Only collections do.
use Rattle.std.proofs.Common.{◌≡◌, ◌≢◌, ◌⊎◌, ◌<◌, inl, inr, ℕ, zero, suc, ◌+◌, ◌-◌, Bool, true, false, ◌||◌, List, [], ◌∷◌, ◌++◌, append_assoc, refl, sym, ap, ◌∙◌, arith, true≢false}
use Rattle.std.specs.Prelude.{Option, Some, None, Result, Ok, Err}
use Rattle.std.specs.List.{list_all, list_any}
use Rattle.std.proofs.lemmas.Bool.{and_parts, or_parts}
use Rattle.std.proofs.lemmas.List.{append-nil}
use Rattle.nm_edge.specs.Edges.{Edge}
use Rattle.nm_edge.specs.Layouts.{Layout}
use Rattle.nm_edge.specs.declared.edge.Side.{Side}
use Rattle.nm_edge.specs.declared.edge.Side.TheVariants.{Left, Right}
use Rattle.nm_edge.specs.declared.node.NodeId.{NodeId}
use Rattle.nm_edge.specs.declared.placement.Fit.{Fit}
use Rattle.nm_edge.specs.declared.placement.Fit.TheVariants as fit
use Rattle.nm_model.specs.declared.event.Event.{Event}
use Rattle.nm_model.specs.declared.event.Event.TheVariants.{Look, Sight, SightFor}
use Rattle.nm_model.specs.declared.event.Op.{Op}
use Rattle.nm_model.specs.declared.event.Op.TheVariants.{Has, Insert, Delete}
use Rattle.nm_model.specs.declared.reply.Reply.{Reply}
use Rattle.nm_model.specs.declared.reply.Reply.TheVariants.{Flagged, Linked, Lost}
use Rattle.nm_model.specs.Walks.{Entry}
use Rattle.nm_epoch.specs.Tries.{IsMoved, IsPinnedBy, LostTries}
use Rattle.nm_pool.specs.Claims.{DoneAt, DoneInTurn, IsClaimBy, PassedOver, PassedWithin}
use Rattle.nm_progress.proofs.MoreTries.{AddsNone, adds_these, adds_then}
use Rattle.nm_walks.specs.declared.cutting.Kept.{Kept}
use Rattle.nm_walks.specs.declared.looking.Onward.{Onward}
use Rattle.nm_walks.specs.declared.making.NewNodes.{NewNodes}
use Rattle.nm_walks.specs.declared.seek_record.ChainEdge.{ChainEdge}
use Rattle.nm_walks.specs.declared.seek_record.SeekRecord.{SeekRecord}
use Rattle.nm_walks.specs.declared.seek_record.WalkEnd.{WalkEnd}
use Rattle.nm_walks.specs.AddedLooks.{AddsLooks, is_look}
use Rattle.nm_walks.specs.Cleanups.{Chooses, CleanupLost, CleanupWon, CutsOff, Freezes, FreezesOne, IsOneOfNodes, Prepares}
use Rattle.nm_walks.specs.Growing.{ClaimsNewNodes, Grows, Returns}
use Rattle.nm_walks.specs.Places.{Stops}
use Rattle.nm_walks.specs.Walks.{EndsAtLeaf, IsBroken, IsTooLong, Reads, Seeks, Walks}
use Rattle.nm_calls.specs.declared.deleting.Deletion.{Deletion}
use Rattle.nm_calls.specs.declared.deleting.Deletion.TheVariants as deletion
use Rattle.nm_calls.specs.declared.fault.CallFault.{CallFault}
use Rattle.nm_calls.specs.declared.fault.CallFault.TheVariants as fault
use Rattle.nm_calls.specs.Calls.{HasDid, HasMissed, LostWalks}
use Rattle.nm_calls.specs.Deletes.{DeleteDid, DeleteFinishes, FinishDid, LostFlags, LostRemovals, Removes, RemovesNothing, TriesFlag, leaf_of}
use Rattle.nm_calls.specs.InTurns.{GiveUp as GiveUpInTurns}
use Rattle.nm_calls.specs.Inserts.{Finishes, Helps, InsertDid, LostInserts, PinsThen, Readies, TriesLink}
use Rattle.nm_calls.specs.NearKeys.{GiveUp, HasNone, HasNoneTo, HaveNone, bound}
use Rattle.nm_calls.specs.PlainWalks.{LooksUnderPin, PlainMissed}
use Rattle.nm_tree.specs.Answers.{HasAnswered, HasDeleted, HasFinished, HasInserted, freed_in, freed_of_entry}
use Rattle.nm_tree.specs.Looked.{HasSeenMore}
use Rattle.nm_tree.specs.Workers.{WorkerView}

-- ---- entries that free nothing

abbrev are_some : List NodeId → Bool
are_some [] = false
are_some (n ∷ ns) = true

abbrev pub frees : Entry → Bool
frees e = are_some (freed_of_entry e)

-- the log has grown, and none of what was added frees a node
abbrev pub Unfreed : List Entry → List Entry → Type 0
Unfreed = AddsNone frees

pub freed-append : (xs ys : List Entry) → freed_in (xs ++ ys) ≡ freed_in xs ++ freed_in ys
freed-append [] ys = refl
freed-append (e ∷ xs) ys = ap (λ (ns : List NodeId). freed_of_entry e ++ ns) (freed-append xs ys)
    ∙ sym (append_assoc (freed_of_entry e) (freed_in xs) (freed_in ys))

none_freed : (es : List Entry) → list_any frees es ≡ false → freed_in es ≡ []
none_freed [] none' = refl
none_freed (e ∷ es) none' =
    let parts = or_parts (frees e) (list_any frees es) none' in
    ap (λ (ns : List NodeId). ns ++ freed_in es) (nothing (freed_of_entry e) parts.0) ∙ none_freed es parts.1
  where
    nothing : (ns : List NodeId) → are_some ns ≡ false → ns ≡ []
    nothing [] is = refl
    nothing (n ∷ ns) is = absurd (true≢false is)

pub freed_still : (old new : List Entry) → Unfreed old new → freed_in new ≡ freed_in old
freed_still old new a = ap freed_in a.are ∙ (freed-append old a.entries
    ∙ (ap (λ (ns : List NodeId). freed_in old ++ ns) (none_freed a.entries a.quiet) ∙ append-nil (freed_in old)))

pub these : (more old new : List Entry) → list_any frees more ≡ false → new ≡ old ++ more → Unfreed old new
these = adds_these frees

pub then' : (old mid new : List Entry) → Unfreed old mid → Unfreed mid new → Unfreed old new
then' = adds_then frees

pub unfreed_none : (old new : List Entry) → new ≡ old → Unfreed old new
unfreed_none old new is = record { entries = []; are = is ∙ sym (append-nil old); quiet = refl }

-- ---- pins, looks and claims

pins : (by : Event) → ((r : Reply) → frees (by, r) ≡ false) → (n : ℕ) (old new : List Entry) → LostTries by n old new
    → Unfreed old new
pins by none' zero old new is = unfreed_none old new is
pins by none' (suc n) old new h = then' old h.0 new (pins by none' n old h.0 h.1)
    (then' h.0 _ new (these _ h.0 _ refl refl) (these _ _ new (ap (λ (b : Bool). b || false) (none' _)) h.2.2))

pub pin_unfreed : (by : Event) → ((r : Reply) → frees (by, r) ≡ false)
    → (tries : ℕ) (old new : List Entry) (epoch : ℕ) → IsPinnedBy by tries old new epoch → Unfreed old new
pin_unfreed by none' tries old new epoch h =
    then' old _ new (these _ old _ refl refl) (then' _ h.2 new (pins by none' h.1 _ h.2 h.4)
    (then' h.2 _ new (these _ h.2 _ refl refl) (these _ _ new (ap (λ (b : Bool). b || false) (none' _)) h.5.1)))

pub moved : (by : Event) → ((r : Reply) → frees (by, r) ≡ false) → (tries : ℕ) (old new : List Entry)
    → IsMoved by tries old new → Unfreed old new
moved by none' zero old new h = these _ old new refl h.1
moved by none' (suc n) old new h = then' old _ new (these _ old _ refl refl)
    (then' _ h.1 new (pins by none' (suc n) _ h.1 h.2) (these _ h.1 new refl h.3))

pub by_call : (op : Op) (k : ℕ) (r : Reply) → frees (SightFor op k, r) ≡ false
by_call op k r = refl

by_sight : (r : Reply) → frees (Sight, r) ≡ false
by_sight r = refl

reads : (k x : ℕ) (old new : List Entry) (on : Onward) → Reads k x old new on → Unfreed old new
reads k x old new on r = then' old _ new (these _ old _ refl refl)
    (then' _ _ new (these _ _ _ refl refl) (these _ _ new refl r.2))

walks : (k n : ℕ) (old new : List Entry) (s : SeekRecord) (c : List ChainEdge) → Walks k n old new s c → Unfreed old new
walks k zero old new s c w = these _ old new refl w.3
walks k (suc n) old new s c w = then' old w.0 new (walks k n old w.0 w.1 w.2 w.4)
    (reads k w.1.edge.slot w.0 new w.3 w.6)

pub broken : (L : Layout) (k : ℕ) (old new : List Entry) → IsBroken L k old new → Unfreed old new
broken L k old new (inl e) = walks k e.1 old new e.2 e.3 e.4
broken L k old new (inr e) = then' old e.2 new (walks k e.1 old e.2 e.3 e.4 e.7) (reads k e.3.edge.slot e.2 new e.5 e.8)

pub seeks : (L : Layout) (k : ℕ) (old new : List Entry) (c : List ChainEdge) (r : WalkEnd)
    → Seeks L k old new c (Some r)
    → Unfreed old new
seeks L k old new c r h = then' old h.0.1 new (walks k h.0.0 old h.0.1 r.seek_record c h.0.4)
    (reads k r.seek_record.edge.slot h.0.1 new h.0.2 h.0.6)

pub stops_unfreed : (L : Layout) (k : ℕ) (old new : List Entry) (c : List ChainEdge) (r : WalkEnd)
    → Stops L k old new c (Some r) → Unfreed old new
stops_unfreed L k old new c r h = then' old h.0.1 new (walks k h.0.0 old h.0.1 r.seek_record c h.0.4)
    (reads k r.seek_record.edge.slot h.0.1 new h.0.2 h.0.6)

look_frees_none : (e : Entry) → is_look e ≡ true → frees e ≡ false
look_frees_none (Look x f, r) is = refl
look_frees_none (e, r) is = absurd (true≢false (sym is))

looks_free_none : (es : List Entry) → list_all is_look es ≡ true → list_any frees es ≡ false
looks_free_none [] is = refl
looks_free_none (e ∷ es) is =
    let parts = and_parts (is_look e) (list_all is_look es) is in
    ap (λ (b : Bool). b || list_any frees es) (look_frees_none e parts.0) ∙ looks_free_none es parts.1

looks : (most : ℕ) (old new : List Entry) → AddsLooks most old new → Unfreed old new
looks most old new a = record { entries = a.looks; are = a.grown; quiet = looks_free_none a.looks a.only }

passed : (s : ℕ) (old new : List Entry) → PassedOver s old new → Unfreed old new
passed s old new (inl taken) = these _ old new refl taken
passed s old new (inr exhausted) = these _ old new refl exhausted

passed_all : (from n : ℕ) (old new : List Entry) → DoneInTurn PassedOver from n old new → Unfreed old new
passed_all from zero old new h = unfreed_none old new h
passed_all from (suc n) old new h = then' old h.0 new (passed_all from n old h.0 h.1) (passed (from + n) h.0 new h.2)

passed_at : (nodes : ℕ) (slots : List ℕ) (old new : List Entry) → DoneAt (PassedWithin nodes) slots old new
    → Unfreed old new
passed_at nodes [] old new h = unfreed_none old new h
passed_at nodes (s ∷ slots) old new h = then' old h.0 new (passed_at nodes slots old h.0 h.1) (passed s h.0 new h.2.2)

pub claim : (f : Fit) (nodes : ℕ) (old new : List Entry) (r : Option NodeId) → IsClaimBy f nodes old new r
    → Unfreed old new
claim fit.FirstFit nodes old new (Some n) h = then' old h.before new
    (passed_all 6 (n.slot - 6) old h.before h.passed) (these _ h.before new refl h.made.entries)
claim fit.NextFit nodes old new (Some n) h = then' old h.before new (passed_at nodes h.slots old h.before h.passed)
    (these _ h.before new refl h.made.entries)
claim fit.FirstFit nodes old new None h = passed_all 6 (nodes + 1 - 6) old new h
claim fit.NextFit nodes old new None h = passed_at nodes h.slots old new h.passed

pub new_nodes : (fit : Fit) (nodes : ℕ) (old new : List Entry) (r : Option NewNodes)
    → ClaimsNewNodes fit nodes old new r → Unfreed old new
new_nodes fit nodes old new (Some f) h = then' old h.0 new (claim fit nodes old h.0 (Some f.internal) h.1)
    (claim fit nodes h.0 new (Some f.leaf) h.2)
new_nodes fit nodes old new None (inl none') = claim fit nodes old new None none'
new_nodes fit nodes old new None (inr h) = then' old h.1 new (claim fit nodes old h.1 (Some h.0) h.3)
    (then' h.1 h.2 new (claim fit nodes h.1 h.2 None h.4) (these _ h.2 new refl h.5))

-- ---- cleanups

chosen : (s : SeekRecord) (r : Option Kept) (old new : List Entry) → Chooses s old new r → Unfreed old new
chosen s r old new h = then' old _ new (these _ old _ refl refl) (these _ _ new refl h.2)

frozen_one : (slot : ℕ) (side : Side) (old new : List Entry) → FreezesOne slot side old new → Unfreed old new
frozen_one slot side old new h = then' old _ new (these _ old _ refl refl)
    (then' _ _ new (these _ _ _ refl refl) (these _ _ new refl h.3))

frozen : (parent : ℕ) (keep : Side) (c : List ChainEdge) (old new : List Entry) → Freezes parent keep c old new
    → Unfreed old new
frozen parent keep [] old new h = frozen_one parent keep old new h
frozen parent keep (l ∷ c) old new h = then' old h.0 new (frozen_one l.slot l.side old h.0 h.1)
    (frozen parent keep c h.0 new h.2)

prepared : (s : SeekRecord) (c : List ChainEdge) (k : Kept) (old new : List Entry) → Prepares s c k old new
    → Unfreed old new
prepared s c k old new h = then' old h.0 new (chosen s (Some k) old h.0 h.2)
    (then' h.0 _ new (these _ h.0 _ refl refl) (frozen s.parent k.side c _ new h.3))

cut : (s : SeekRecord) (c : List ChainEdge) (ns : List NodeId) (old new : List Entry) → CutsOff s c ns old new
    → Unfreed old new
cut s c ns old new h = then' old h.1 new (prepared s c h.0 old h.1 h.2) (these _ h.1 new refl h.3)

won : (s : SeekRecord) (c : List ChainEdge) (ns : List NodeId) (epoch : ℕ) (old new : List Entry)
    → CleanupWon s c ns epoch old new → Unfreed old new
won s c ns epoch old new h = then' old h.0 new (cut s c ns old h.0 h.1) (these _ h.0 new refl h.2)

lost : (s : SeekRecord) (c : List ChainEdge) (old new : List Entry) → CleanupLost s c old new → Unfreed old new
lost s c old new (inl none') = chosen s None old new none'
lost s c old new (inr l) = then' old l.1 new (prepared s c l.0 old l.1 l.3) (these _ l.1 new refl l.4)

pub helps : (r : WalkEnd) (c : List ChainEdge) (e : Edge) (old new : List Entry) → Helps r c e old new → Unfreed old new
helps r c e old new (inr h) = unfreed_none old new h.1
helps r c e old new (inl (asks, inl h)) = won r.seek_record c h.0 h.1 old new h.2
helps r c e old new (inl (asks, inr h)) = lost r.seek_record c old new h

-- ---- inserts

pub returned : (f : Option NewNodes) (old new : List Entry) → Returns f old new → Unfreed old new
returned None old new h = unfreed_none old new h
returned (Some f) old new h = then' old _ new (these _ old _ refl refl) (these _ _ new refl h)

readied : (fit : Fit) (nodes : ℕ) (f : Option NewNodes) (made : NewNodes) (old new : List Entry)
    → Readies fit nodes f made old new → Unfreed old new
readied fit nodes None made old new h = new_nodes fit nodes old new (Some made) h
readied fit nodes (Some f) made old new h = unfreed_none old new h.1

module _ (fit : Fit) (L : Layout) (k : ℕ) where
  pub grown_won : (r : WalkEnd) (f : NewNodes) (old new : List Entry) → Grows L.radix k r f (Linked f.internal) old new
      → Unfreed old new
  grown_won r f old new h = then' old _ new (these _ old _ refl refl)
      (then' _ _ new (these _ _ _ refl refl) (these _ _ new refl h.3))

  pub grown_lost : (r : WalkEnd) (f : NewNodes) (e : Edge) (old new : List Entry) → Grows L.radix k r f (Lost e) old new
      → Unfreed old new
  grown_lost r f e old new h = then' old _ new (these _ old _ refl refl)
      (then' _ _ new (these _ _ _ refl refl) (these _ _ new refl h.3))

  link_won : (f : Option NewNodes) (made : NewNodes) (r : WalkEnd) (c : List ChainEdge) (old new : List Entry)
      → TriesLink fit L k f made r c (Linked made.internal) old new → Unfreed old new
  link_won f made r c old new h = then' old h.ended new (stops_unfreed L k old h.ended c r h.walk)
      (then' h.ended h.claimed new (readied fit L.nodes f made h.ended h.claimed h.readies)
      (grown_won r made h.claimed new h.grows))

  link_lost : (f : Option NewNodes) (made : NewNodes) (r : WalkEnd) (c : List ChainEdge) (e : Edge)
      (old new : List Entry) → TriesLink fit L k f made r c (Lost e) old new → Unfreed old new
  link_lost f made r c e old new h = then' old h.ended new (stops_unfreed L k old h.ended c r h.walk)
      (then' h.ended h.claimed new (readied fit L.nodes f made h.ended h.claimed h.readies)
      (grown_lost r made e h.claimed new h.grows))

  -- a try that was lost
  tried_lost : (f g : Option NewNodes) (old new : List Entry)
      → ((c : List ChainEdge) × Stops L k old new c None × (g ≡ f))
      ⊎ ((made : NewNodes) × (r : WalkEnd) × (c : List ChainEdge) × (e : Edge) × (mid : List Entry)
      × TriesLink fit L k f made r c (Lost e) old mid × (g ≡ Some made) × Helps r c e mid new) → Unfreed old new
  tried_lost f g old new (inl h) = broken L k old new h.1
  tried_lost f g old new (inr h) = then' old h.4 new (link_lost f h.0 h.1 h.2 h.3 old h.4 h.5)
      (helps h.1 h.2 h.3 h.4 new h.7)

  pub inserts_lost : (n : ℕ) (g : Option NewNodes) (old new : List Entry) → LostInserts fit L k n g old new
      → Unfreed old new
  inserts_lost zero g old new h = unfreed_none old new h.1
  inserts_lost (suc n) g old new h = then' old h.1 new (inserts_lost n h.0 old h.1 h.2) (tried_lost h.0 g h.1 new h.3)

  finished : (tries : ℕ) (old new : List Entry) (r : Result Bool CallFault) → Finishes fit L tries k old new r
      → Unfreed old new
  finished tries old new (Ok true) h =
      let e = h.1 in
      then' old h.0 new (then' old e.2 h.0 (inserts_lost e.0 e.1 old e.2 e.4)
      (link_won e.1 e.5.0 e.5.1 e.5.2 e.2 h.0 e.5.3)) (these _ h.0 new refl h.2)
  finished tries old new (Ok false) h =
      let e = h.4 in
      then' old h.1 new (then' old e.2 h.1 (inserts_lost e.0 e.1 old e.2 e.4)
      (stops_unfreed L k e.2 h.1 e.5.1 e.5.0 e.5.2))
      (then' h.1 h.2 new (returned h.0 h.1 h.2 h.5) (these _ h.2 new refl h.6))
  finished tries old new (Err fault.Full) h =
      let e = h.1 in
      then' old h.0 new (then' old e.2 h.0 (inserts_lost e.0 e.1 old e.2 e.4)
      (then' e.2 e.5.2 h.0 (stops_unfreed L k e.2 e.5.2 e.5.1 e.5.0 e.5.3)
      (new_nodes fit L.nodes e.5.2 h.0 None e.5.7))) (these _ h.0 new refl h.2)
  finished tries old new (Err fault.Busy) h = then' old h.1 new (inserts_lost tries h.0 old h.1 h.3)
      (then' h.1 h.2 new (returned h.0 h.1 h.2 h.4) (these _ h.2 new refl h.5))
  finished tries old new (Err fault.NoMemory) h = then' old h.2 new (inserts_lost h.0 h.1 old h.2 h.6)
      (then' h.2 h.3 new (returned h.1 h.2 h.3 h.7) (these _ h.3 new refl h.8))
  finished tries old new (Err fault.Pending) h = absurd h
  finished tries old new (Err fault.Pinned) h = absurd h
  finished tries old new (Err fault.Unfinished) h = absurd h

  pinned_then : (tries : ℕ) (old new : List Entry) (r : Result Bool CallFault) → PinsThen fit L tries k old new r
      → Unfreed old new
  pinned_then tries old new r h = then' old h.0 new
      (pin_unfreed (SightFor Insert k) (by_call Insert k) tries old h.0 h.1 h.2) (finished tries h.0 new r h.3)

  pub insert_unfreed : (tries : ℕ) (old new : List Entry) (r : Result Bool CallFault)
      → InsertDid fit L tries k old new r → Unfreed old new
  insert_unfreed tries old new (Err fault.Busy) (inl h) = unfreed_none old new h.1
  insert_unfreed tries old new (Err fault.Busy) (inr (inl h)) = moved (SightFor Insert k) (by_call Insert k) tries
      old new h.1
  insert_unfreed tries old new (Err fault.Busy) (inr (inr h)) = pinned_then tries old new (Err fault.Busy) h
  insert_unfreed tries old new (Err fault.NoMemory) (inl h) = unfreed_none old new h.1
  insert_unfreed tries old new (Err fault.NoMemory) (inr h) = pinned_then tries old new (Err fault.NoMemory) h
  insert_unfreed tries old new (Ok answer) h = pinned_then tries old new (Ok answer) h
  insert_unfreed tries old new (Err fault.Full) h = pinned_then tries old new (Err fault.Full) h
  insert_unfreed tries old new (Err fault.Pending) h = pinned_then tries old new (Err fault.Pending) h
  insert_unfreed tries old new (Err fault.Pinned) h = pinned_then tries old new (Err fault.Pinned) h
  insert_unfreed tries old new (Err fault.Unfinished) h = pinned_then tries old new (Err fault.Unfinished) h

-- ---- deletes

module _ (L : Layout) (k : ℕ) where
  -- a walk, a look at the leaf's birth, and a flag
  flag_tried : (r : WalkEnd) (c : List ChainEdge) (b : ℕ) (reply : Reply) (old new : List Entry)
      → TriesFlag L k r c b reply old new → Unfreed old new
  flag_tried r c b reply old new h = then' old h.ended new (seeks L k old h.ended c r h.walk)
      (then' h.ended _ new (these _ h.ended _ refl refl) (these _ _ new refl h.entries))

  flag_lost : (c : List ChainEdge) (old new : List Entry)
      → IsBroken L k old new ⊎ ((r : WalkEnd) × (b : ℕ) × (e : Edge) × (mid : List Entry)
      × TriesFlag L k r c b (Lost e) old mid × Helps r c e mid new) → Unfreed old new
  flag_lost c old new (inl h) = broken L k old new h
  flag_lost c old new (inr (r, b, e, mid, h, help)) = then' old mid new (flag_tried r c b (Lost e) old mid h)
      (helps r c e mid new help)

  pub flags_lost : (n : ℕ) (old new : List Entry) → LostFlags L k n old new → Unfreed old new
  flags_lost zero old new h = unfreed_none old new h
  flags_lost (suc n) old new h = then' old h.1 new (flags_lost n old h.1 h.2) (flag_lost h.0 h.1 new h.3)

  module _ (n : NodeId) where
    removes_none : (old new : List Entry) → RemovesNothing L k n old new → Unfreed old new
    removes_none old new (inl h) = broken L k old new h
    removes_none old new (inr (r, c, mid, walk, at, h)) = then' old mid new (seeks L k old mid c r walk)
        (lost r.seek_record c mid new h)

    removals_lost : (t : ℕ) (old new : List Entry) → LostRemovals L k n t old new → Unfreed old new
    removals_lost zero old new h = unfreed_none old new h
    removals_lost (suc t) old new h = then' old h.0 new (removals_lost t old h.0 h.1) (removes_none h.0 new h.2)

    removes : (old new : List Entry) → Removes L k n old new → Unfreed old new
    removes old new (r, c, inl h) = seeks L k old new c r h.0
    removes old new (r, c, inr (mid, ns, epoch, walk, at, h, one)) = then' old mid new (seeks L k old mid c r walk)
        (won r.seek_record c ns epoch mid new h)

    -- tries to remove of which the last one did
    abbrev Done : ℕ → List Entry → List Entry → Type 0
    Done tries old new = (t : ℕ) × (mid : List Entry) × (t < tries) × LostRemovals L k n t old mid
        × Removes L k n mid new

    done : (tries : ℕ) (old new : List Entry) → Done tries old new → Unfreed old new
    done tries old new (t, mid, less, h, more) = then' old mid new (removals_lost t old mid h) (removes mid new more)

    pub finish_unfreed : (tries : ℕ) (old new : List Entry) (answer : Bool) → FinishDid L k n tries old new answer
        → Unfreed old new
    finish_unfreed tries old new true h = then' old h.0 new (done tries old h.0 h.1) (these _ h.0 new refl h.2)
    finish_unfreed tries old new false (inl h) = removals_lost h.0 old new h.2
    finish_unfreed tries old new false (inr h) = removals_lost tries old new h

    -- the tries to remove, of which the first is a cleanup with the walk of the flag
    module _ (s : SeekRecord) (left : ℕ) (c : List ChainEdge) (old new : List Entry) where
      after_done : ((left ≢ 0) × (ns : List NodeId) × (epoch : ℕ) × CleanupWon s c ns epoch old new
          × IsOneOfNodes n ns) ⊎ ((t : ℕ) × (mid : List Entry) × (left ≡ t + 1) × CleanupLost s c old mid
          × Done t mid new) → Unfreed old new
      after_done (inl (some, ns, epoch, h, one)) = won s c ns epoch old new h
      after_done (inr (t, mid, is, h, more)) = then' old mid new (lost s c old mid h) (done t mid new more)

      after_refused : ((left ≢ 0) × (new ≡ old)) ⊎ ((t : ℕ) × (mid : List Entry) × (left ≡ t + 1)
          × CleanupLost s c old mid × ((u : ℕ) × (u < t) × LostRemovals L k n u mid new)) → Unfreed old new
      after_refused (inl (some, h)) = unfreed_none old new h
      after_refused (inr (t, mid, is, h, more)) = then' old mid new (lost s c old mid h)
          (removals_lost more.0 mid new more.2)

      after_spent : ((left ≡ 0) × (new ≡ old)) ⊎ ((t : ℕ) × (mid : List Entry) × (left ≡ t + 1)
          × CleanupLost s c old mid × LostRemovals L k n t mid new) → Unfreed old new
      after_spent (inl (none', h)) = unfreed_none old new h
      after_spent (inr (t, mid, is, h, more)) = then' old mid new (lost s c old mid h) (removals_lost t mid new more)

  -- tries to flag of which the last one did
  module _ (r : WalkEnd) (b left tries : ℕ) (c : List ChainEdge) (old new : List Entry) where
    flagged : (t : ℕ) × (mid : List Entry) × (t + (left + 1) ≡ tries) × LostFlags L k t old mid
        × TriesFlag L k r c b (Flagged (leaf_of r b)) mid new → Unfreed old new
    flagged (t, mid, is, h, more) = then' old mid new (flags_lost t old mid h)
        (flag_tried r c b (Flagged (leaf_of r b)) mid new more)

  delete_finished : (tries : ℕ) (old new : List Entry) (r : Result Deletion CallFault)
      → DeleteFinishes L tries k old new r → Unfreed old new
  delete_finished tries old new (Ok (deletion.Done true)) (n, end', (f, c, mid, is, h, more), leaves) = then' old
      end' new (then' old mid end' (flagged f.end f.birth f.left tries c old mid h)
      (after_done (leaf_of f.end f.birth) f.end.seek_record f.left c mid end' more)) (these _ end' new refl leaves)
  delete_finished tries old new (Ok (deletion.Done false)) (c, end', h, leaves) = then' old end' new
      (then' old h.1 end' (flags_lost h.0 old h.1 h.3) (seeks L k h.1 end' c h.4.0 h.4.1))
      (these _ end' new refl leaves)
  delete_finished tries old new (Ok (deletion.Pending n)) (inl (f, c, mid, is, h, more)) = then' old mid new
      (flagged f.end f.birth f.left tries c old mid h)
      (after_refused (leaf_of f.end f.birth) f.end.seek_record f.left c mid new more)
  delete_finished tries old new (Ok (deletion.Pending n)) (inr (f, c, mid, is, h, more)) = then' old mid new
      (flagged f.end f.birth f.left tries c old mid h)
      (after_spent (leaf_of f.end f.birth) f.end.seek_record f.left c mid new more)
  delete_finished tries old new (Err fault.Busy) (c, end', h, leaves) = then' old end' new
      (flags_lost tries old end' h) (these _ end' new refl leaves)
  delete_finished tries old new (Err fault.NoMemory) (c, end', h, leaves) = then' old end' new
      (flags_lost h.0 old end' h.3) (these _ end' new refl leaves)
  delete_finished tries old new (Err fault.Full) h = absurd h
  delete_finished tries old new (Err fault.Pending) h = absurd h
  delete_finished tries old new (Err fault.Pinned) h = absurd h
  delete_finished tries old new (Err fault.Unfinished) h = absurd h

  pinned_for : (tries : ℕ) (old new : List Entry) (r : Result Deletion CallFault) → (pinned : List Entry) (epoch : ℕ)
      → IsPinnedBy (SightFor Delete k) tries old pinned epoch → DeleteFinishes L tries k pinned new r → Unfreed old new
  pinned_for tries old new r pinned epoch pin h = then' old pinned new
      (pin_unfreed (SightFor Delete k) (by_call Delete k) tries old pinned epoch pin)
      (delete_finished tries pinned new r h)

  pub delete_unfreed : (tries : ℕ) (old new : List Entry) (r : Result Deletion CallFault)
      → DeleteDid L tries k old new r → Unfreed old new
  delete_unfreed tries old new (Err fault.Busy) (inl h) = unfreed_none old new h.1
  delete_unfreed tries old new (Err fault.Busy) (inr (inl h)) = moved (SightFor Delete k) (by_call Delete k) tries
      old new h.1
  delete_unfreed tries old new (Err fault.Busy) (inr (inr (p, e, pin, h))) = pinned_for tries old new
      (Err fault.Busy) p e pin h
  delete_unfreed tries old new (Err fault.NoMemory) (inl h) = unfreed_none old new h.1
  delete_unfreed tries old new (Err fault.NoMemory) (inr (p, e, pin, h)) = pinned_for tries old new
      (Err fault.NoMemory) p e pin h
  delete_unfreed tries old new (Ok d) (p, e, pin, h) = pinned_for tries old new (Ok d) p e pin h
  delete_unfreed tries old new (Err fault.Full) (p, e, pin, h) = pinned_for tries old new (Err fault.Full) p e pin h
  delete_unfreed tries old new (Err fault.Pending) (p, e, pin, h) = pinned_for tries old new (Err fault.Pending) p e
      pin h
  delete_unfreed tries old new (Err fault.Pinned) (p, e, pin, h) = pinned_for tries old new (Err fault.Pinned) p e pin h
  delete_unfreed tries old new (Err fault.Unfinished) (p, e, pin, h) = pinned_for tries old new
      (Err fault.Unfinished) p e pin h

-- ---- look-ups

module _ (L : Layout) (k : ℕ) where
  at_leaf : (old new : List Entry) (s : SeekRecord) (c : List ChainEdge) (key : ℕ) → EndsAtLeaf L k old new s c key
      → Unfreed old new
  at_leaf old new s c key h = then' old h.1 new (walks k h.0 old h.1 s c h.4) (reads k s.edge.slot h.1 new h.2 h.6)

  too_long : (old new : List Entry) → IsTooLong L k old new → Unfreed old new
  too_long old new h = walks k h.1 old new h.2 h.3 h.4

  walks_lost : (t : ℕ) (old new : List Entry) → LostWalks L k t old new → Unfreed old new
  walks_lost zero old new h = unfreed_none old new h
  walks_lost (suc t) old new h = then' old h.0 new (walks_lost t old h.0 h.1) (too_long h.0 new h.2)

  pub look_unfreed : (tries : ℕ) (old new : List Entry) (answer : Bool) → HasDid L tries k old new answer
      → Unfreed old new
  look_unfreed tries old new answer h =
      then' old h.pinned new (pin_unfreed (SightFor Has k) (by_call Has k) tries old h.pinned h.epoch h.pin)
      (then' h.pinned h.begun new (walks_lost h.broken h.pinned h.begun h.lost)
      (then' h.begun h.ended new (at_leaf h.begun h.ended h.seek_record h.chain h.key h.walk)
      (these _ h.ended new refl h.leaves)))

  pub missed_unfreed : (tries : ℕ) (old new : List Entry) → HasMissed L tries k old new → Unfreed old new
  missed_unfreed zero old new h = unfreed_none old new h
  missed_unfreed (suc t) old new (inl h) = moved (SightFor Has k) (by_call Has k) (suc t) old new h
  missed_unfreed (suc t) old new (inr (a, z, epoch, pin, more, is)) = then' old a new
      (pin_unfreed (SightFor Has k) (by_call Has k) (suc t) old a epoch pin)
      (then' a z new (walks_lost (suc t) a z more) (these _ z new refl is))

pub looked_unfreed : (tries most : ℕ) (old new : List Entry) → LooksUnderPin tries most old new → Unfreed old new
looked_unfreed tries most old new h = then' old h.pinned new
    (pin_unfreed Sight by_sight tries old h.pinned h.epoch h.pin)
    (then' h.pinned h.looked new (looks most h.pinned h.looked h.looks) (these _ h.looked new refl h.leaves))

pub gave_up_unfreed : (GivesUp : List Entry → List Entry → Type 0) → ((a z : List Entry) → GivesUp a z → Unfreed a z)
    → (tries : ℕ) (old new : List Entry) → PlainMissed GivesUp tries old new → Unfreed old new
gave_up_unfreed GivesUp none' zero old new h = unfreed_none old new h
gave_up_unfreed GivesUp none' (suc t) old new (inl h) = moved Sight by_sight (suc t) old new h
gave_up_unfreed GivesUp none' (suc t) old new (inr (a, z, epoch, pin, gives, is)) = then' old a new
    (pin_unfreed Sight by_sight (suc t) old a epoch pin) (then' a z new (none' a z gives) (these _ z new refl is))

pub in_turns_unfreed : (L : Layout) (keys : List ℕ) (a z : List Entry) → GiveUpInTurns L keys a z → Unfreed a z
in_turns_unfreed L keys a z h = looks _ a z h.0

-- a walk that serves the keys between two bounds serves the first of them
module _ (L : Layout) where
  none_between : (from to router : ℕ) (old new : List Entry) → HasNone L from to router old new → Unfreed old new
  none_between from to router old new h = let at = h.1 from (omega arith) h.0 in
      at_leaf L from old new at.0 at.1 at.2 at.3

  none_to : (side : Side) (from to : ℕ) (old new : List Entry) → HasNoneTo side L from to old new → Unfreed old new
  none_to Left from to old new h = none_between to from to old new h
  none_to Right from to old new h = none_between from to to old new h

  have_none : (side : Side) (n key to : ℕ) (old new : List Entry) → HaveNone side L n key to old new → Unfreed old new
  have_none side zero key to old new h = unfreed_none old new h.1
  have_none side (suc n) key to old new h = then' old h.0 new (have_none side n key h.1 old h.0 h.2)
      (none_to side h.1 to h.0 new h.3)

  pub near_unfreed : (side : Side) (tries key : ℕ) (old new : List Entry) → GiveUp side L tries key old new
      → Unfreed old new
  near_unfreed side tries key old new (next, is_key, next_key, inl h) = have_none side tries key (bound side next)
      old new h
  near_unfreed side tries key old new (next, is_key, next_key, inr (n, mid, few, h, long)) = then' old mid new
      (have_none side n key (bound side next) old mid h) (too_long L next mid new long)

-- ---- calls of a tree

pub insert_frees_none : (L : Layout) (t k : ℕ) (w z : WorkerView) (r : Result Bool CallFault)
    → HasInserted L t k w z r → freed_in z.pass.view.log ≡ freed_in w.pass.view.log
insert_frees_none L t k w z (Ok answer) d = freed_still _ _ (insert_unfreed w.fit L k t _ _ (Ok answer) d.1)
insert_frees_none L t k w z (Err fault.Busy) d = freed_still _ _ (insert_unfreed w.fit L k t _ _ (Err fault.Busy) d.1)
insert_frees_none L t k w z (Err fault.Full) d = freed_still _ _ (insert_unfreed w.fit L k t _ _ (Err fault.Full) d.1)
insert_frees_none L t k w z (Err fault.NoMemory) d = freed_still _ _
    (insert_unfreed w.fit L k t _ _ (Err fault.NoMemory) d.1)
insert_frees_none L t k w z (Err fault.Pending) d = ap (λ (v : WorkerView). freed_in v.pass.view.log) d.1
insert_frees_none L t k w z (Err fault.Unfinished) d = absurd d
insert_frees_none L t k w z (Err fault.Pinned) d = absurd d

pub delete_frees_none : (L : Layout) (t k : ℕ) (w z : WorkerView) (r : Result Bool CallFault)
    → HasDeleted L t k w z r → freed_in z.pass.view.log ≡ freed_in w.pass.view.log
delete_frees_none L t k w z (Ok answer) d = freed_still _ _ (delete_unfreed L k t _ _ (Ok (deletion.Done answer)) d.1)
delete_frees_none L t k w z (Err fault.Busy) d = freed_still _ _ (delete_unfreed L k t _ _ (Err fault.Busy) d.1)
delete_frees_none L t k w z (Err fault.NoMemory) d = freed_still _ _ (delete_unfreed L k t _ _ (Err fault.NoMemory) d.1)
delete_frees_none L t k w z (Err fault.Unfinished) d = freed_still _ _
    (delete_unfreed L k t _ _ (Ok (deletion.Pending d.1)) d.3)
delete_frees_none L t k w z (Err fault.Pending) d = ap (λ (v : WorkerView). freed_in v.pass.view.log) d.1
delete_frees_none L t k w z (Err fault.Full) d = absurd d
delete_frees_none L t k w z (Err fault.Pinned) d = absurd d

pub finish_frees_none : (L : Layout) (t : ℕ) (w z : WorkerView) (r : Result Bool CallFault) → HasFinished L t w z r
    → freed_in z.pass.view.log ≡ freed_in w.pass.view.log
finish_frees_none L t w z (Ok false) d = ap (λ (v : WorkerView). freed_in v.pass.view.log) d.1
finish_frees_none L t w z (Ok true) d = freed_still _ _ (finish_unfreed L d.0.key d.0.leaf t _ _ true d.3)
finish_frees_none L t w z (Err fault.Unfinished) d = freed_still _ _ (finish_unfreed L d.0.key d.0.leaf t _ _ false d.3)
finish_frees_none L t w z (Err fault.Busy) d = absurd d
finish_frees_none L t w z (Err fault.Full) d = absurd d
finish_frees_none L t w z (Err fault.NoMemory) d = absurd d
finish_frees_none L t w z (Err fault.Pending) d = absurd d
finish_frees_none L t w z (Err fault.Pinned) d = absurd d

pub has_frees_none : (L : Layout) (t k : ℕ) (w z : WorkerView) (r : Result Bool CallFault) → HasAnswered L t k w z r
    → freed_in z.pass.view.log ≡ freed_in w.pass.view.log
has_frees_none L t k w z (Ok answer) d = freed_still _ _ (look_unfreed L k t _ _ answer d.1)
has_frees_none L t k w z (Err fault.Busy) d = freed_still _ _ (missed_unfreed L k t _ _ d.1)
has_frees_none L t k w z (Err fault.Pending) d = ap (λ (v : WorkerView). freed_in v.pass.view.log) d.1
has_frees_none L t k w z (Err fault.Full) d = absurd d
has_frees_none L t k w z (Err fault.NoMemory) d = absurd d
has_frees_none L t k w z (Err fault.Unfinished) d = absurd d
has_frees_none L t k w z (Err fault.Pinned) d = absurd d

pub seen_frees_none : {X : Type 0} (GivesUp : List Entry → List Entry → Type 0)
    → ((a z : List Entry) → GivesUp a z → Unfreed a z) → (t most : ℕ) (w z : WorkerView) (r : Result X CallFault)
    → HasSeenMore GivesUp t most w z r → freed_in z.pass.view.log ≡ freed_in w.pass.view.log
seen_frees_none GivesUp none' t most w z (Ok x) d = freed_still _ _ (looked_unfreed t most _ _ d.1)
seen_frees_none GivesUp none' t most w z (Err fault.Busy) d = freed_still _ _ (gave_up_unfreed GivesUp none' t _ _ d.1)
seen_frees_none GivesUp none' t most w z (Err fault.Pending) d = ap (λ (v : WorkerView). freed_in v.pass.view.log) d.1
seen_frees_none GivesUp none' t most w z (Err fault.Full) d = absurd d
seen_frees_none GivesUp none' t most w z (Err fault.NoMemory) d = absurd d
seen_frees_none GivesUp none' t most w z (Err fault.Unfinished) d = absurd d
seen_frees_none GivesUp none' t most w z (Err fault.Pinned) d = absurd d
