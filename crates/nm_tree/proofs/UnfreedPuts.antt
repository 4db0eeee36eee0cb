-- What a put adds to a log: none of it frees a node.
use Rattle.std.proofs.Common.{◌≡◌, inl, inr, ℕ, zero, suc, false, List, [], ◌∷◌, refl}
use Rattle.std.specs.Prelude.{Some, None, Result, Ok, Err}
use Rattle.std.specs.List.{list_any}
use Rattle.nm_edge.specs.Layouts.{Layout}
use Rattle.nm_edge.specs.declared.node.NodeId.{NodeId}
use Rattle.nm_edge.specs.declared.placement.Fit.{Fit}
use Rattle.nm_model.specs.declared.event.Event.TheVariants.{SightFor}
use Rattle.nm_model.specs.declared.event.Op.TheVariants.{Insert}
use Rattle.nm_model.specs.declared.reply.Reply.{Reply}
use Rattle.nm_model.specs.declared.reply.Reply.TheVariants.{Departed}
use Rattle.nm_model.specs.Walks.{Entry}
use Rattle.nm_walks.specs.declared.seek_record.ChainEdge.{ChainEdge}
use Rattle.nm_walks.specs.declared.seek_record.WalkEnd.{WalkEnd}
use Rattle.nm_calls.specs.declared.fault.CallFault.{CallFault}
use Rattle.nm_calls.specs.declared.fault.CallFault.TheVariants as fault
use Rattle.nm_puts.specs.declared.putting.Attempt.{Attempt}
use Rattle.nm_puts.specs.declared.putting.Attempt.TheVariants as attempt
use Rattle.nm_puts.specs.declared.putting.Condition.{Condition}
use Rattle.nm_puts.specs.declared.putting.Condition.TheVariants as condition
use Rattle.nm_puts.specs.declared.putting.PutOutcome.{PutOutcome}
use Rattle.nm_puts.specs.declared.putting.PutOutcome.TheVariants as put
use Rattle.nm_puts.specs.Puts.{EndsBy, Finishes, InsertsAt, IsPutTry, LostPuts, PinsThen, PutDid, ReplacesAt, TriesAt, WalksFor, leave_of}
use Rattle.nm_puts.specs.Swaps.{Swaps}
use Rattle.nm_tree.proofs.Unfreed.{Unfreed, broken, by_call, claim, frees, grown_lost, grown_won, helps, moved, new_nodes, pin_unfreed, returned, seeks, stops_unfreed, then', these, unfreed_none}

swapped : (k : ℕ) (r : WalkEnd) (n : NodeId) (b : ℕ) (reply : Reply) (old new : List Entry)
    → Swaps k r n b reply old new → Unfreed old new
swapped k r n b reply old new h = then' old _ new (these _ old _ refl refl)
    (then' _ _ new (these _ _ _ refl refl) (these _ _ new refl h))

leave_frees_none : (p : PutOutcome) → list_any frees ((leave_of p, Departed) ∷ []) ≡ false
leave_frees_none put.Inserted = refl
leave_frees_none (put.Replaced v) = refl
leave_frees_none (put.Other v) = refl
leave_frees_none put.Absent = refl

module _ (fit : Fit) (L : Layout) (k : ℕ) where
  pub walk_unfreed : (when : Condition) (old new : List Entry) (c : List ChainEdge) (r : WalkEnd)
      → WalksFor when L k old new c (Some r) → Unfreed old new
  walk_unfreed condition.Always old new c r h = stops_unfreed L k old new c r h
  walk_unfreed condition.IfThere old new c r h = seeks L k old new c r h
  walk_unfreed (condition.IfItIs e) old new c r h = seeks L k old new c r h

  broken_off : (when : Condition) (old new : List Entry) (c : List ChainEdge) → WalksFor when L k old new c None
      → Unfreed old new
  broken_off condition.Always old new c h = broken L k old new h
  broken_off condition.IfThere old new c h = broken L k old new h
  broken_off (condition.IfItIs e) old new c h = broken L k old new h

  -- ---- one try

  module _ (r : WalkEnd) (c : List ChainEdge) (old new : List Entry) where
    replaces : (a : Attempt) → ReplacesAt fit L k r c old new a → Unfreed old new
    replaces (attempt.Done (put.Replaced v)) h = then' old h.3 new (claim fit L.nodes old h.3 (Some h.0) h.4)
        (then' h.3 h.5.0 new (swapped k r h.0 h.1 _ h.3 h.5.0 h.5.1) (these _ h.5.0 new refl h.5.2))
    replaces attempt.Full h = claim fit L.nodes old new None h
    replaces attempt.Lost h = then' old h.3 new (claim fit L.nodes old h.3 (Some h.0) h.6)
        (then' h.3 h.4 new (swapped k r h.0 h.1 _ h.3 h.4 h.7)
        (then' h.4 h.5 new (these _ h.4 h.5 refl h.8) (helps r c h.2 h.5 new h.9)))
    replaces (attempt.Done put.Inserted) h = absurd h
    replaces (attempt.Done put.Absent) h = absurd h
    replaces (attempt.Done (put.Other v)) h = absurd h

    inserts : (a : Attempt) → InsertsAt fit L k r c old new a → Unfreed old new
    inserts (attempt.Done put.Inserted) h = then' old h.1 new (new_nodes fit L.nodes old h.1 (Some h.0) h.2)
        (grown_won fit L k r h.0 h.1 new h.3)
    inserts attempt.Full h = new_nodes fit L.nodes old new None h
    inserts attempt.Lost h = then' old h.2 new (new_nodes fit L.nodes old h.2 (Some h.0) h.5)
        (then' h.2 h.3 new (grown_lost fit L k r h.0 h.1 h.2 h.3 h.6)
        (then' h.3 h.4 new (returned (Some h.0) h.3 h.4 h.7) (helps r c h.1 h.4 new h.8)))
    inserts (attempt.Done (put.Replaced v)) h = absurd h
    inserts (attempt.Done put.Absent) h = absurd h
    inserts (attempt.Done (put.Other v)) h = absurd h

    tries_at : (when : Condition) (a : Attempt) → TriesAt fit L when k r c old new a → Unfreed old new
    tries_at when a (inl h) = replaces a h.1
    tries_at when a (inr (inl h)) = inserts a h.2
    tries_at when a (inr (inr (inl h))) = unfreed_none old new h.2
    tries_at when a (inr (inr (inr h))) = unfreed_none old new h.3

  try_unfreed : (when : Condition) (old new : List Entry) (a : Attempt) → IsPutTry fit L when k old new a
      → Unfreed old new
  try_unfreed when old new a (inl h) = broken_off when old new h.1.0 h.1.1
  try_unfreed when old new a (inr h) = then' old h.2 new (walk_unfreed when old h.2 h.1 h.0 h.4)
      (tries_at h.0 h.1 h.2 new when a h.5)

  -- ---- the whole call

  pub puts_lost : (when : Condition) (n : ℕ) (old new : List Entry) → LostPuts fit L when k n old new
      → Unfreed old new
  puts_lost when zero old new h = unfreed_none old new h
  puts_lost when (suc n) old new h = then' old h.0 new (puts_lost when n old h.0 h.1)
      (try_unfreed when h.0 new attempt.Lost h.2)

  ends : (tries : ℕ) (when : Condition) (a : Attempt) (old new : List Entry) → EndsBy fit L tries when k a old new
      → Unfreed old new
  ends tries when a old new h = then' old h.1 new (puts_lost when h.0 old h.1 h.3) (try_unfreed when h.1 new a h.4)

  finished : (tries : ℕ) (when : Condition) (old new : List Entry) (r : Result PutOutcome CallFault)
      → Finishes fit L tries when k old new r → Unfreed old new
  finished tries when old new (Ok p) h = then' old h.0 new (ends tries when (attempt.Done p) old h.0 h.1)
      (these _ h.0 new (leave_frees_none p) h.2)
  finished tries when old new (Err fault.Full) h = then' old h.0 new (ends tries when attempt.Full old h.0 h.1)
      (these _ h.0 new refl h.2)
  finished tries when old new (Err fault.Busy) h = then' old h.0 new (puts_lost when tries old h.0 h.1)
      (these _ h.0 new refl h.2)
  finished tries when old new (Err fault.NoMemory) h = then' old h.1 new (puts_lost when h.0 old h.1 h.4)
      (these _ h.1 new refl h.5)
  finished tries when old new (Err fault.Pending) h = absurd h
  finished tries when old new (Err fault.Pinned) h = absurd h
  finished tries when old new (Err fault.Unfinished) h = absurd h

  pinned_then : (tries : ℕ) (when : Condition) (old new : List Entry) (r : Result PutOutcome CallFault)
      → PinsThen fit L tries when k old new r → Unfreed old new
  pinned_then tries when old new r h = then' old h.0 new
      (pin_unfreed (SightFor Insert k) (by_call Insert k) tries old h.0 h.1 h.2) (finished tries when h.0 new r h.3)

  pub put_unfreed : (tries : ℕ) (when : Condition) (old new : List Entry) (r : Result PutOutcome CallFault)
      → PutDid fit L tries when k old new r → Unfreed old new
  put_unfreed tries when old new (Err fault.Busy) (inl h) = unfreed_none old new h.1
  put_unfreed tries when old new (Err fault.Busy) (inr (inl h)) = moved (SightFor Insert k) (by_call Insert k) tries
      old new h.1
  put_unfreed tries when old new (Err fault.Busy) (inr (inr h)) = pinned_then tries when old new (Err fault.Busy) h
  put_unfreed tries when old new (Err fault.NoMemory) (inl h) = unfreed_none old new h.1
  put_unfreed tries when old new (Err fault.NoMemory) (inr h) = pinned_then tries when old new (Err fault.NoMemory) h
  put_unfreed tries when old new (Ok p) h = pinned_then tries when old new (Ok p) h
  put_unfreed tries when old new (Err fault.Full) h = pinned_then tries when old new (Err fault.Full) h
  put_unfreed tries when old new (Err fault.Pending) h = pinned_then tries when old new (Err fault.Pending) h
  put_unfreed tries when old new (Err fault.Pinned) h = pinned_then tries when old new (Err fault.Pinned) h
  put_unfreed tries when old new (Err fault.Unfinished) h = pinned_then tries when old new (Err fault.Unfinished) h
