-- What a put adds to its log.
use Rattle.std.proofs.Common.{◌≤◌, ◌<◌, ◌≡◌, inl, inr, ℕ, zero, suc, ◌+◌, ◌*◌, List, [], ◌∷◌, ◌++◌, length, refl, sym, subst, arith}
use Rattle.std.specs.Prelude.{Option, Some, None, Result, Ok, Err}
use Rattle.std.proofs.Math.Nat.{mul-add, mul-le-mul_left, suc-mul}
use Rattle.nm_edge.specs.Edges.{Edge}
use Rattle.nm_edge.specs.Layouts.{Layout}
use Rattle.nm_edge.specs.declared.node.NodeId.{NodeId}
use Rattle.nm_edge.specs.declared.placement.Fit.{Fit}
use Rattle.nm_model.specs.declared.event.Event.TheVariants.{SightFor}
use Rattle.nm_model.specs.declared.event.Op.TheVariants.{Insert}
use Rattle.nm_model.specs.declared.reply.Reply.TheVariants.{Cut, Departed, Lost}
use Rattle.nm_model.specs.Walks.{Entry}
use Rattle.nm_epoch.specs.Tries.{IsPinnedBy}
use Rattle.nm_walks.specs.declared.seek_record.ChainEdge.{ChainEdge}
use Rattle.nm_walks.specs.declared.seek_record.WalkEnd.{WalkEnd}
use Rattle.nm_walks.specs.Bounds.{chain_bound, reach}
use Rattle.nm_walks.proofs.Adding.{Adds, adds_in, adds_then, adds_these}
use Rattle.nm_calls.specs.declared.fault.CallFault.{CallFault}
use Rattle.nm_calls.specs.declared.fault.CallFault.TheVariants as fault
use Rattle.nm_calls.specs.Won.{HasWon}
use Rattle.nm_calls.proofs.Adding.{adds_after, adds_none, claim_by_adds, has_won, mul_below, pin_adds, seeks_adds, stops_adds}
use Rattle.nm_calls.proofs.AddingInserts.{AddsLinks, back_adds, fork_adds, grows_lost, grows_won, helps_add}
use Rattle.nm_puts.specs.declared.putting.Attempt.{Attempt}
use Rattle.nm_puts.specs.declared.putting.Attempt.TheVariants as attempt
use Rattle.nm_puts.specs.declared.putting.Condition.{Condition}
use Rattle.nm_puts.specs.declared.putting.Condition.TheVariants as condition
use Rattle.nm_puts.specs.declared.putting.PutOutcome.{PutOutcome}
use Rattle.nm_puts.specs.declared.putting.PutOutcome.TheVariants as put
use Rattle.nm_puts.specs.Puts.{EndsBy, Finishes, InsertsAt, IsPutTry, IsWithinPuts, LostPuts, PinsThen, PutDid, ReplacesAt, TriesAt, WalksFor, leave_of, links_of}
use Rattle.nm_puts.specs.Swaps.{Swaps}

-- the steps of a try, those of its walk, of two claims, of exchanges and of one cleanup
abbrev at_most : Layout → ℕ
at_most L = 3 * reach L + (6 * L.nodes + 207)

-- the links that a try has won
abbrev links_in : Attempt → ℕ
links_in (attempt.Done put.Inserted) = 1
links_in _ = 0

-- ---- one try

walks_add : (when : Condition) (L : Layout) (k : ℕ) (old new : List Entry) (c : List ChainEdge) (r : Option WalkEnd)
    → WalksFor when L k old new c r → Adds 0 0 0 (3 * reach L) old new
walks_add condition.Always L k old new c r h = stops_adds L k old new c r h
walks_add condition.IfThere L k old new c r h = seeks_adds L k old new c r h
walks_add (condition.IfItIs e) L k old new c r h = seeks_adds L k old new c r h

swap_won : (k : ℕ) (r : WalkEnd) (n : NodeId) (b : ℕ) (ns : List NodeId) (old new : List Entry) → Swaps k r n b
    (Cut ns) old new → Adds 0 0 0 5 old new
swap_won k r n b ns old new h = adds_then old _ new (adds_these _ old _ refl) (adds_then _ _ new
    (adds_these _ _ _ refl) (adds_these _ _ new h))

swap_lost : (k : ℕ) (r : WalkEnd) (n : NodeId) (b : ℕ) (e : Edge) (old new : List Entry) → Swaps k r n b
    (Lost e) old new → Adds 0 0 0 5 old new
swap_lost k r n b e old new h = adds_then old _ new (adds_these _ old _ refl) (adds_then _ _ new
    (adds_these _ _ _ refl) (adds_these _ _ new h))

module _ (fit : Fit) (L : Layout) (k : ℕ) (r : WalkEnd) (c : List ChainEdge) (old new : List Entry)
    (few : length c < chain_bound) where
  replaces_add : (a : Attempt) → ReplacesAt fit L k r c old new a → AddsLinks (links_in a) (6 * L.nodes + 207) old new
  replaces_add (attempt.Done (put.Replaced v)) h =
      let n = h.0 in
      let claimed = h.3 in (
        0,
        adds_in (6 * L.nodes + 207) old new (omega arith)
            (adds_then old claimed new (claim_by_adds fit L.nodes old claimed (Some n) h.4)
            (adds_then claimed h.5.0 new (swap_won k r n h.1 _ claimed h.5.0 h.5.1) (adds_these _ h.5.0 new h.5.2))),
      )
  replaces_add attempt.Full h = (
    0,
    adds_in (6 * L.nodes + 207) old new (omega arith)
        (claim_by_adds fit L.nodes old new None h),
  )
  replaces_add attempt.Lost h =
      let n = h.0 in
      let claimed = h.3 in
      let lost = h.4 in
      let back = h.5 in
      let help = helps_add r c h.2 back new few h.9 in (
        0 + (0 + (0 + help.0)),
        adds_in (6 * L.nodes + 207) old new (omega arith)
            (adds_then old claimed new (claim_by_adds fit L.nodes old claimed (Some n) h.6)
            (adds_then claimed lost new (swap_lost k r n h.1 h.2 claimed lost h.7) (adds_then lost back new
            (adds_these _ lost back h.8) help.1))),
      )
  replaces_add (attempt.Done put.Inserted) h = absurd h
  replaces_add (attempt.Done put.Absent) h = absurd h
  replaces_add (attempt.Done (put.Other v)) h = absurd h

  inserts_add : (a : Attempt) → InsertsAt fit L k r c old new a → AddsLinks (links_in a) (6 * L.nodes + 207) old new
  inserts_add (attempt.Done put.Inserted) h = (
    0,
    adds_in (6 * L.nodes + 207) old new (omega arith)
        (adds_then old h.1 new (fork_adds fit L.nodes old h.1 (Some h.0) h.2) (grows_won L.radix k r h.0 h.1 new h.3)),
  )
  inserts_add attempt.Full h = (
    0,
    adds_in (6 * L.nodes + 207) old new (omega arith)
        (fork_adds fit L.nodes old new None h),
  )
  inserts_add attempt.Lost h =
      let made = h.0 in
      let claimed = h.2 in
      let lost = h.3 in
      let back = h.4 in
      let help = helps_add r c h.1 back new few h.8 in (
        0 + (0 + (0 + help.0)),
        adds_in (6 * L.nodes + 207) old new (omega arith)
            (adds_then old claimed new (fork_adds fit L.nodes old claimed (Some made) h.5)
            (adds_then claimed lost new (grows_lost L.radix k r made h.1 claimed lost h.6) (adds_then lost back new
            (back_adds (Some made) lost back h.7) help.1))),
      )
  inserts_add (attempt.Done (put.Replaced v)) h = absurd h
  inserts_add (attempt.Done put.Absent) h = absurd h
  inserts_add (attempt.Done (put.Other v)) h = absurd h

  tries_add : (when : Condition) (a : Attempt) → TriesAt fit L when k r c old new a → AddsLinks (links_in a)
      (6 * L.nodes + 207) old new
  tries_add when a (inl h) = replaces_add a h.1
  tries_add when a (inr (inl h)) = inserts_add a h.2
  tries_add when a (inr (inr (inl h))) = subst (λ (b : Attempt). AddsLinks (links_in b) (6 * L.nodes + 207) old new)
      (sym h.1.4) (0, adds_in _ old new (omega arith) (adds_none old new h.2))
  tries_add when a (inr (inr (inr h))) = subst (λ (b : Attempt). AddsLinks (links_in b) (6 * L.nodes + 207) old new)
      (sym h.2) (0, adds_in _ old new (omega arith) (adds_none old new h.3))

try_adds : (fit : Fit) (L : Layout) (when : Condition) (k : ℕ) (old new : List Entry) (a : Attempt)
    → IsPutTry fit L when k old new a → AddsLinks (links_in a) (at_most L) old new
try_adds fit L when k old new a (inl h) =
    subst (λ (b : Attempt). AddsLinks (links_in b) (at_most L) old new) (sym h.0)
    (0, adds_in (at_most L) old new (omega arith) (walks_add when L k old new h.1.0 None h.1.1))
try_adds fit L when k old new a (inr h) =
    let rest = tries_add fit L k h.0 h.1 h.2 new h.3 when a h.5 in
    (0 + rest.0, adds_after old h.2 new (walks_add when L k old h.2 h.1 (Some h.0) h.4) rest.1)

-- ---- the whole call

lost_add : (fit : Fit) (L : Layout) (when : Condition) (k n : ℕ) (old new : List Entry)
    → LostPuts fit L when k n old new → AddsLinks 0 (n * at_most L) old new
lost_add fit L when k zero old new h = (0, adds_in _ old new (omega arith) (adds_none old new h))
lost_add fit L when k (suc n) old new h =
    let above = lost_add fit L when k n old h.0 h.1 in
    let here = try_adds fit L when k h.0 new attempt.Lost h.2 in
    let more = suc-mul n (at_most L) in
    (above.0 + here.0, adds_in _ old new (omega (arith, more)) (adds_then old h.0 new above.1 here.1))

ends_add : (fit : Fit) (L : Layout) (tries : ℕ) (when : Condition) (k : ℕ) (a : Attempt) (old new : List Entry)
    → EndsBy fit L tries when k a old new
    → AddsLinks (links_in a) (tries * at_most L) old new
ends_add fit L tries when k a old new h =
    let above = lost_add fit L when k h.0 old h.1 h.3 in
    let here = try_adds fit L when k h.1 new a h.4 in
    let most = mul_below h.0 tries (at_most L) h.2 in
    (above.0 + here.0, adds_in _ old new (omega (arith, most)) (adds_after old h.1 new above.1 here.1))

left_add : (p : PutOutcome) (old new : List Entry) → new ≡ old ++ (leave_of p, Departed) ∷ [] → Adds 0 0 0 1 old new
left_add put.Inserted old new h = adds_these _ old new h
left_add (put.Replaced v) old new h = adds_these _ old new h
left_add (put.Other v) old new h = adds_these _ old new h
left_add put.Absent old new h = adds_these _ old new h

same_links : (p : PutOutcome) → links_in (attempt.Done p) ≡ links_of (Ok p)
same_links put.Inserted = refl
same_links (put.Replaced v) = refl
same_links (put.Other v) = refl
same_links put.Absent = refl

finishes_add : (fit : Fit) (L : Layout) (tries : ℕ) (when : Condition) (k : ℕ) (old new : List Entry)
    (r : Result PutOutcome CallFault) → Finishes fit L tries when k old new r
    → AddsLinks (links_of r) (tries * at_most L + 1) old new
finishes_add fit L tries when k old new (Ok p) h =
    let part = ends_add fit L tries when k (attempt.Done p) old h.0 h.1 in
    subst (λ (n : ℕ). AddsLinks n (tries * at_most L + 1) old new) (same_links p) (
      part.0 + 0,
      subst (λ (n : ℕ). Adds n 0 (part.0 + 0) (tries * at_most L + 1) old new) (omega arith)
          (adds_then old h.0 new part.1 (left_add p h.0 new h.2)),
    )
finishes_add fit L tries when k old new (Err fault.Full) h =
    let part = ends_add fit L tries when k attempt.Full old h.0 h.1 in
    (part.0 + 0, adds_then old h.0 new part.1 (adds_these _ h.0 new h.2))
finishes_add fit L tries when k old new (Err fault.Busy) h =
    let part = lost_add fit L when k tries old h.0 h.1 in
    (part.0 + 0, adds_then old h.0 new part.1 (adds_these _ h.0 new h.2))
finishes_add fit L tries when k old new (Err fault.NoMemory) h =
    let part = lost_add fit L when k h.0 old h.1 h.4 in
    let most = mul_below h.0 tries (at_most L) h.3 in
    (part.0 + 0, adds_in _ old new (omega (arith, most)) (adds_then old h.1 new part.1 (adds_these _ h.1 new h.5)))
finishes_add fit L tries when k old new (Err fault.Pending) h = absurd h
finishes_add fit L tries when k old new (Err fault.Pinned) h = absurd h
finishes_add fit L tries when k old new (Err fault.Unfinished) h = absurd h

pub put_did : (fit : Fit) (L : Layout) (tries : ℕ) (when : Condition) (k : ℕ) (old new : List Entry)
    (r : Result PutOutcome CallFault)
    → PinsThen fit L tries when k old new r → PutDid fit L tries when k old new r
put_did fit L tries when k old new (Ok p) h = h
put_did fit L tries when k old new (Err fault.Busy) h = inr (inr h)
put_did fit L tries when k old new (Err fault.NoMemory) h = inr h
put_did fit L tries when k old new (Err fault.Full) h = h
put_did fit L tries when k old new (Err fault.Pending) h = h
put_did fit L tries when k old new (Err fault.Pinned) h = h
put_did fit L tries when k old new (Err fault.Unfinished) h = h

-- a put stays within its bound
pub within_puts : (L : Layout) (tries m : ℕ) (old new : List Entry) → length new ≤ length old + m
    → m ≤ tries * at_most L + 2 * tries + 10 → IsWithinPuts L tries old new
within_puts L tries m old new le few =
    let two = mul-add tries (at_most L) 2 in
    let all = mul-le-mul_left tries
    (let le : at_most L + 2 ≤ 4 * reach L + 6 * L.nodes + 8 * chain_bound = omega arith in le) in
    omega (arith, two, all, le, few)

module _ (fit : Fit) (L : Layout) (tries : ℕ) (when : Condition) (k : ℕ) (old pinned new : List Entry) (e : ℕ)
    (pin : IsPinnedBy (SightFor Insert k) tries old pinned e) (r : Result PutOutcome CallFault)
    (h : Finishes fit L tries when k pinned new r) where
  all : AddsLinks (links_of r) (2 * tries + 1 + (tries * at_most L + 1)) old new
  all = let part = finishes_add fit L tries when k pinned new r h in (
    0 + part.0,
    adds_after old pinned new
        (pin_adds Insert k tries old pinned e pin) part.1,
  )

  pub put_wins : HasWon old new (links_of r) 0
  put_wins = has_won old new all.1

  pub put_steps : IsWithinPuts L tries old new
  put_steps = within_puts L tries (2 * tries + 1 + (tries * at_most L + 1)) old new all.1.steps (omega arith)
