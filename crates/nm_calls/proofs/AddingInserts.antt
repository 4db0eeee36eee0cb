-- What an insert adds to its log.
use Rattle.std.proofs.Common.{◌≤◌, ◌<◌, inl, inr, ℕ, zero, suc, ◌+◌, ◌*◌, List, length, refl, true, false, Bool, ap, arith}
use Rattle.std.specs.Prelude.{Option, Some, None, Result, Ok, Err}
use Rattle.std.proofs.Math.Nat.{suc-mul}
use Rattle.nm_edge.specs.Layouts.{Layout}
use Rattle.nm_edge.specs.Edges.{Edge}
use Rattle.nm_model.specs.declared.event.Event.TheVariants.{SightFor}
use Rattle.nm_model.specs.declared.event.Op.TheVariants.{Insert}
use Rattle.nm_model.specs.declared.reply.Reply.TheVariants.{Linked, Lost}
use Rattle.nm_model.specs.Walks.{Entry}
use Rattle.nm_epoch.specs.Tries.{IsPinnedBy}
use Rattle.nm_edge.specs.declared.placement.Fit.{Fit}
use Rattle.nm_walks.specs.declared.making.NewNodes.{NewNodes}
use Rattle.nm_calls.specs.declared.fault.CallFault.{CallFault}
use Rattle.nm_calls.specs.declared.fault.CallFault.TheVariants as fault
use Rattle.nm_calls.specs.declared.inserting.Attempt.{Attempt}
use Rattle.nm_calls.specs.declared.inserting.Attempt.TheVariants as attempt
use Rattle.nm_walks.specs.declared.seek_record.ChainEdge.{ChainEdge}
use Rattle.nm_walks.specs.declared.seek_record.WalkEnd.{WalkEnd}
use Rattle.nm_walks.specs.Bounds.{chain_bound, reach}
use Rattle.nm_walks.specs.Growing.{ClaimsNewNodes, Returns, Grows}
use Rattle.nm_calls.specs.Inserts.{Helps, Readies, IsReadied, TriesLink, IsTry, LostInserts, EndsBy, Finishes, PinsThen, InsertDid}
use Rattle.nm_calls.specs.Won.{HasWon, links_of_insert}
use Rattle.nm_walks.proofs.Adding.{Adds, adds_these, adds_then, adds_in, not_cleaned_adds}
use Rattle.nm_calls.proofs.Adding.{most, mul_below, adds_none, adds_after, stops_adds, claim_by_adds, cleaned_adds, pin_adds, has_won, within_claims}

-- ---- the two new nodes

pub fork_adds : (fit : Fit) (nodes : ℕ) (old new : List Entry) (r : Option NewNodes)
    → ClaimsNewNodes fit nodes old new r → Adds 0 0 0 (6 * nodes + 1) old new
fork_adds fit nodes old new (Some f) h = adds_in (6 * nodes + 1) old new (omega arith)
    (adds_then old h.0 new (claim_by_adds fit nodes old h.0 (Some f.internal) h.1)
    (claim_by_adds fit nodes h.0 new (Some f.leaf) h.2))
fork_adds fit nodes old new None (inl none') = adds_in (6 * nodes + 1) old new (omega arith)
    (claim_by_adds fit nodes old new None none')
fork_adds fit nodes old new None (inr h) =
    adds_in (6 * nodes + 1) old new (omega arith)
    (adds_then old h.1 new (claim_by_adds fit nodes old h.1 (Some h.0) h.3)
    (adds_then h.1 h.2 new (claim_by_adds fit nodes h.1 h.2 None h.4) (adds_these _ h.2 new h.5)))

pub back_adds : (f : Option NewNodes) (old new : List Entry) → Returns f old new → Adds 0 0 0 2 old new
back_adds None old new h = adds_in 2 old new (omega arith) (adds_none old new h)
back_adds (Some f) old new h = adds_then old _ new (adds_these _ old _ refl) (adds_these _ _ new h)

-- what the claims may have cost by which these nodes were made
abbrev paid : ℕ → Option NewNodes → ℕ
paid nodes None = 0
paid nodes (Some f) = 6 * nodes + 1

-- so many links were won and no flag, in at most so many steps
abbrev pub AddsLinks : ℕ → ℕ → List Entry → List Entry → Type 0
AddsLinks l n old new = (s : ℕ) × Adds l 0 s n old new

readies_add : (fit : Fit) (nodes : ℕ) (f : Option NewNodes) (made : NewNodes) (old new : List Entry)
    → Readies fit nodes f made old new → (n : ℕ) × (n + paid nodes f ≤ 6 * nodes + 1) × Adds 0 0 0 n old new
readies_add fit nodes None made old new h = (6 * nodes + 1, omega arith, fork_adds fit nodes old new (Some made) h)
readies_add fit nodes (Some f) made old new h = (0, omega arith, adds_none old new h.1)

pub readied_adds : (fit : Fit) (nodes : ℕ) (f g r : Option NewNodes) (old new : List Entry)
    → IsReadied fit nodes f g r old new → Adds 0 0 0 (6 * nodes + 1) old new
readied_adds fit nodes f g None old new h = fork_adds fit nodes old new None h.2
readied_adds fit nodes f g (Some made) old new h = let part = readies_add fit nodes f made old new h.1 in
    let few = part.1 in adds_in (6 * nodes + 1) old new (omega (arith, few)) part.2

paid_most : (nodes : ℕ) (g : Option NewNodes) (m t : ℕ) → m ≤ t + paid nodes g → m ≤ t + (6 * nodes + 1)
paid_most nodes None m t few = omega (arith, few)
paid_most nodes (Some g) m t few = few

-- ---- one try

pub grows_won : (radix : Bool) (k : ℕ) (r : WalkEnd) (f : NewNodes) (old new : List Entry)
    → Grows radix k r f (Linked f.internal) old new → Adds 1 0 0 7 old new
grows_won radix k r f old new h = adds_then old _ new (adds_these _ old _ refl)
    (adds_then _ _ new (adds_these _ _ _ refl) (adds_these _ _ new h.3))

pub grows_lost : (radix : Bool) (k : ℕ) (r : WalkEnd) (f : NewNodes) (e : Edge) (old new : List Entry)
    → Grows radix k r f (Lost e) old new → Adds 0 0 0 7 old new
grows_lost radix k r f e old new h = adds_then old _ new (adds_these _ old _ refl)
    (adds_then _ _ new (adds_these _ _ _ refl) (adds_these _ _ new h.3))

pub helps_add : (r : WalkEnd) (c : List ChainEdge) (e : Edge) (old new : List Entry) → length c < chain_bound
    → Helps r c e old new → (s : ℕ) × Adds 0 0 s 197 old new
helps_add r c e old new few (inr h) = (0, adds_in 197 old new (omega arith) (adds_none old new h.1))
helps_add r c e old new few (inl h) = elim h.1 [
  | inl won ↦ (1, adds_in 197 old new (omega (arith, few)) (cleaned_adds r.seek_record c won.0 won.1 old new won.2))
  | inr lost ↦ (0, adds_in 197 old new (omega (arith, few)) (not_cleaned_adds r.seek_record c old new lost))
]

module _ (fit : Fit) (L : Layout) (k : ℕ) (f : Option NewNodes) (made : NewNodes) (r : WalkEnd) (c : List ChainEdge)
    (old new : List Entry) where
  link_won : TriesLink fit L k f made r c (Linked made.internal) old new
      → (n : ℕ) × (n + paid L.nodes f ≤ 3 * reach L + (6 * L.nodes + 8)) × Adds 1 0 0 n old new
  link_won h =
      let part = readies_add fit L.nodes f made h.ended h.claimed h.readies in
      let few = part.1 in (
        3 * reach L + (part.0 + 7),
        omega (arith, few),
        adds_then old h.ended new
            (stops_adds L k old h.ended c (Some r) h.walk)
            (adds_then h.ended h.claimed new part.2 (grows_won L.radix k r made h.claimed new h.grows)),
      )

  link_lost : (e : Edge) → TriesLink fit L k f made r c (Lost e) old new
      → (n : ℕ) × (n + paid L.nodes f ≤ 3 * reach L + (6 * L.nodes + 8)) × Adds 0 0 0 n old new
  link_lost e h =
      let part = readies_add fit L.nodes f made h.ended h.claimed h.readies in
      let few = part.1 in (
        3 * reach L + (part.0 + 7),
        omega (arith, few),
        adds_then old h.ended new
            (stops_adds L k old h.ended c (Some r) h.walk)
            (adds_then h.ended h.claimed new part.2 (grows_lost L.radix k r made e h.claimed new h.grows)),
      )

lost_adds : (fit : Fit) (L : Layout) (k : ℕ) (f g : Option NewNodes) (old new : List Entry)
    → IsTry fit L k f g old new attempt.Lost → (n : ℕ) × (n + paid L.nodes f ≤ most (reach L) + paid L.nodes g)
    × AddsLinks 0 n old new
lost_adds fit L k f g old new (inl h) = (
  3 * reach L,
  (let same = ap (paid L.nodes) h.2 in omega (arith, same)),
  (0, stops_adds L k old new h.0 None h.1),
)
lost_adds fit L k f g old new (inr h) =
    let made = h.0 in
    let mid = h.4 in
    let link = link_lost fit L k f made h.1 h.2 old mid h.3 h.5 in
    let few = link.1 in
    let is = ap (paid L.nodes) h.6 in
    let help = helps_add h.1 h.2 h.3 mid new h.5.walk.1 h.7 in
    (link.0 + 197, omega (arith, few, is), (0 + help.0, adds_then old mid new link.2 help.1))

-- the links that a try has won, by what it came to
abbrev links_of : Attempt → ℕ
links_of attempt.Linked = 1
links_of _ = 0

try_adds : (fit : Fit) (L : Layout) (k : ℕ) (f g : Option NewNodes) (old new : List Entry) (a : Attempt)
    → IsTry fit L k f g old new a → (n : ℕ) × (n + paid L.nodes f ≤ most (reach L) + (6 * L.nodes + 1))
    × AddsLinks (links_of a) n old new
try_adds fit L k f g old new (attempt.Found leaf) h =
    (3 * reach L, little L f, (0, stops_adds L k old new h.1 (Some h.0) h.2))
  where
    little : (L : Layout) (f : Option NewNodes) → 3 * reach L + paid L.nodes f ≤ most (reach L) + (6 * L.nodes + 1)
    little L None = omega arith
    little L (Some f) = omega arith
try_adds fit L k f g old new attempt.Linked h =
    let link = link_won fit L k f h.0 h.1 h.2 old new h.3 in
    let few = link.1 in
    (link.0, omega (arith, few), (0, link.2))
try_adds fit L k f g old new attempt.Full h =
    let none' = ap (paid L.nodes) h.5 in (
      3 * reach L + (6 * L.nodes + 1),
      omega (arith, none'),
      (0, adds_then old h.2 new (stops_adds L k old h.2 h.1 (Some h.0) h.3) (fork_adds fit L.nodes h.2 new None h.7)),
    )
try_adds fit L k f g old new attempt.Lost h =
    let lost = lost_adds fit L k f g old new h in
    let few = lost.1 in
    (lost.0, paid_most L.nodes g (lost.0 + paid L.nodes f) (most (reach L)) few, lost.2)

-- ---- the whole call

lost_inserts_add : (fit : Fit) (L : Layout) (k t : ℕ) (g : Option NewNodes) (old new : List Entry)
    → LostInserts fit L k t g old new → (n : ℕ) × (n ≤ t * most (reach L) + paid L.nodes g) × AddsLinks 0 n old new
lost_inserts_add fit L k zero g old new h = (0, omega arith, (0, adds_none old new h.1))
lost_inserts_add fit L k (suc t) g old new h =
    let above = lost_inserts_add fit L k t h.0 old h.1 h.2 in
    let here = lost_adds fit L k h.0 g h.1 new h.3 in
    let a = above.1 in
    let b = here.1 in
    let more = suc-mul t (most (reach L)) in
    (above.0 + here.0, omega (arith, a, b, more), (above.2.0 + here.2.0, adds_then old h.1 new above.2.1 here.2.1))

ends_add : (fit : Fit) (L : Layout) (tries k : ℕ) (g : Option NewNodes) (a : Attempt) (old new : List Entry)
    → EndsBy fit L tries k g a old new → (n : ℕ) × (n ≤ tries * most (reach L) + (6 * L.nodes + 1))
    × AddsLinks (links_of a) n old new
ends_add fit L tries k g a old new h =
    let above = lost_inserts_add fit L k h.0 h.1 old h.2 h.4 in
    let here = try_adds fit L k h.1 g h.2 new a h.5 in
    let x = above.1 in
    let y = here.1 in
    let most_of = mul_below h.0 tries (most (reach L)) h.3 in
    (above.0 + here.0, omega (arith, x, y, most_of), (above.2.0 + here.2.0, adds_after old h.2 new above.2.1 here.2.1))

pub finishes_add : (fit : Fit) (L : Layout) (tries k : ℕ) (old new : List Entry) (r : Result Bool CallFault)
    → Finishes fit L tries k old new r → AddsLinks (links_of_insert r) (tries * most (reach L) + (6 * L.nodes + 4))
    old new
finishes_add fit L tries k old new (Ok true) h =
    let part = ends_add fit L tries k None attempt.Linked old h.0 h.1 in
    let few = part.1 in
    (part.2.0 + 0, adds_in _ old new (omega (arith, few)) (adds_then old h.0 new part.2.1 (adds_these _ h.0 new h.2)))
finishes_add fit L tries k old new (Ok false) h =
    let part = ends_add fit L tries k h.0 (attempt.Found h.3) old h.1 h.4 in
    let few = part.1 in (
      part.2.0 + 0,
      adds_in _ old new (omega (arith, few))
          (adds_then old h.1 new part.2.1 (adds_then h.1 h.2 new (back_adds h.0 h.1 h.2 h.5)
          (adds_these _ h.2 new h.6))),
    )
finishes_add fit L tries k old new (Err fault.Full) h =
    let part = ends_add fit L tries k None attempt.Full old h.0 h.1 in
    let few = part.1 in
    (part.2.0 + 0, adds_in _ old new (omega (arith, few)) (adds_then old h.0 new part.2.1 (adds_these _ h.0 new h.2)))
finishes_add fit L tries k old new (Err fault.Busy) h =
    let part = lost_inserts_add fit L k tries h.0 old h.1 h.3 in
    let few = paid_most L.nodes h.0 part.0 (tries * most (reach L)) part.1 in (
      part.2.0 + 0,
      adds_in _ old new (omega (arith, few))
          (adds_then old h.1 new part.2.1 (adds_then h.1 h.2 new (back_adds h.0 h.1 h.2 h.4)
          (adds_these _ h.2 new h.5))),
    )
finishes_add fit L tries k old new (Err fault.NoMemory) h =
    let part = lost_inserts_add fit L k h.0 h.1 old h.2 h.6 in
    let few = paid_most L.nodes h.1 part.0 (h.0 * most (reach L)) part.1 in
    let most_of = mul_below h.0 tries (most (reach L)) h.5 in (
      part.2.0 + 0,
      adds_in _ old new (omega (arith, few, most_of))
          (adds_then old h.2 new part.2.1 (adds_then h.2 h.3 new (back_adds h.1 h.2 h.3 h.7)
          (adds_these _ h.3 new h.8))),
    )
finishes_add fit L tries k old new (Err fault.Pending) h = absurd h
finishes_add fit L tries k old new (Err fault.Pinned) h = absurd h
finishes_add fit L tries k old new (Err fault.Unfinished) h = absurd h

pub insert_did : (fit : Fit) (L : Layout) (tries k : ℕ) (old new : List Entry) (r : Result Bool CallFault)
    → PinsThen fit L tries k old new r → InsertDid fit L tries k old new r
insert_did fit L tries k old new (Ok b) h = h
insert_did fit L tries k old new (Err fault.Busy) h = inr (inr h)
insert_did fit L tries k old new (Err fault.NoMemory) h = inr h
insert_did fit L tries k old new (Err fault.Full) h = h
insert_did fit L tries k old new (Err fault.Pending) h = h
insert_did fit L tries k old new (Err fault.Pinned) h = h
insert_did fit L tries k old new (Err fault.Unfinished) h = h

module _ (fit : Fit) (L : Layout) (tries k : ℕ) (old pinned new : List Entry) (e : ℕ)
    (pin : IsPinnedBy (SightFor Insert k) tries old pinned e) (r : Result Bool CallFault)
    (h : Finishes fit L tries k pinned new r) where
  all : AddsLinks (links_of_insert r) (2 * tries + 1 + (tries * most (reach L) + (6 * L.nodes + 4))) old new
  all = let part = finishes_add fit L tries k pinned new r h in
      (0 + part.0, adds_after old pinned new (pin_adds Insert k tries old pinned e pin) part.1)

  pub insert_wins : HasWon old new (links_of_insert r) 0
  insert_wins = has_won old new all.1

  pub insert_steps : length new ≤ length old + tries * (4 * reach L + 8 * chain_bound) + 6 * L.nodes + 10
  insert_steps = within_claims L tries (length old) (length new)
      (2 * tries + 1 + (tries * most (reach L) + (6 * L.nodes + 4))) all.1.steps (omega arith)
