-- What a delete, and one that is finished, adds to its log.
use Rattle.std.proofs.Common.{◌≡◌, ◌≤◌, ◌<◌, inl, inr, ℕ, zero, suc, ◌+◌, ◌*◌, List, length, refl, ap, sym, ◌∙◌, true, false, Bool, arith}
use Rattle.std.specs.Prelude.{Some, Result, Ok, Err}
use Rattle.std.proofs.Math.Nat.{suc-mul, add-mul}
use Rattle.nm_edge.specs.Layouts.{Layout}
use Rattle.nm_edge.specs.Edges.{Edge}
use Rattle.nm_edge.specs.declared.node.NodeId.{NodeId}
use Rattle.nm_model.specs.declared.event.Event.TheVariants.{SightFor}
use Rattle.nm_model.specs.declared.event.Op.TheVariants.{Delete}
use Rattle.nm_model.specs.declared.reply.Reply.TheVariants.{Flagged, Lost}
use Rattle.nm_model.specs.Walks.{Entry}
use Rattle.nm_epoch.specs.Tries.{IsPinnedBy}
use Rattle.nm_calls.specs.declared.deleting.FlaggedLeaf.{FlaggedLeaf}
use Rattle.nm_calls.specs.declared.deleting.Injected.{Injected}
use Rattle.nm_calls.specs.declared.deleting.Injected.TheVariants as injected
use Rattle.nm_calls.specs.declared.deleting.Injection.TheVariants as injection
use Rattle.nm_calls.specs.declared.deleting.Deletion.{Deletion}
use Rattle.nm_calls.specs.declared.deleting.Deletion.TheVariants as deletion
use Rattle.nm_calls.specs.declared.fault.CallFault.{CallFault}
use Rattle.nm_calls.specs.declared.fault.CallFault.TheVariants as fault
use Rattle.nm_calls.specs.declared.deleting.Removal.{Removal}
use Rattle.nm_calls.specs.declared.deleting.Removal.TheVariants as removal
use Rattle.nm_walks.specs.declared.seek_record.ChainEdge.{ChainEdge}
use Rattle.nm_walks.specs.declared.seek_record.WalkEnd.{WalkEnd}
use Rattle.nm_walks.specs.Cleanups.{CleanupLost}
use Rattle.nm_walks.specs.Bounds.{chain_bound, reach}
use Rattle.nm_calls.specs.Deletes.{IsFlagTry, leaf_of, looks_and_flags, Removes, RemovesNothing, LostRemovals, IsRemoval, LostFlags, IsInjection, RemovalAfter, FlagsThen, DeleteFinishes, FinishDid}
use Rattle.nm_calls.specs.Won.{HasWon, flags_of_delete}
use Rattle.nm_walks.proofs.Adding.{Adds, adds_these, adds_then, adds_in, not_cleaned_adds}
use Rattle.nm_calls.proofs.Adding.{most, mul_below, adds_none, seeks_adds, broken_adds, cleaned_adds, pin_adds, adds_after, has_won, within_call}
use Rattle.nm_calls.proofs.AddingInserts.{helps_add}

-- so many flags were won and no link, in at most so many steps
abbrev pub AddsFlags : ℕ → ℕ → List Entry → List Entry → Type 0
AddsFlags f n old new = (s : ℕ) × Adds 0 f s n old new

-- ---- a try to flag

pub flag_won_adds : (r : WalkEnd) (b : ℕ) (old new : List Entry)
    → new ≡ looks_and_flags r b (Flagged (leaf_of r b)) old → Adds 0 1 0 2 old new
flag_won_adds r b old new h = adds_then old _ new (adds_these _ old _ refl) (adds_these _ _ new h)

pub flag_lost_adds : (r : WalkEnd) (b : ℕ) (e : Edge) (old new : List Entry) → new ≡ looks_and_flags r b (Lost e) old
    → Adds 0 0 0 2 old new
flag_lost_adds r b e old new h = adds_then old _ new (adds_these _ old _ refl) (adds_these _ _ new h)

-- the flags that a try has won, by what it came to
abbrev flags_of : Injected → ℕ
flags_of (injected.Flagged r b) = 1
flags_of _ = 0

try_adds : (L : Layout) (k : ℕ) (c : List ChainEdge) (old new : List Entry) (i : Injected)
    → IsFlagTry L k c old new i → AddsFlags (flags_of i) (most (reach L)) old new
try_adds L k c old new injected.Absent h = (
  0,
  adds_in (most (reach L)) old new (omega arith)
      (seeks_adds L k old new c (Some h.0) h.1),
)
try_adds L k c old new (injected.Flagged r b) h = (
  0,
  adds_in (most (reach L)) old new (omega arith)
      (adds_then old h.ended new (seeks_adds L k old h.ended c (Some r) h.walk)
      (flag_won_adds r b h.ended new h.entries)),
)
try_adds L k c old new injected.Lost (inl broken) =
    (0, adds_in (most (reach L)) old new (omega arith) (broken_adds L k old new broken))
try_adds L k c old new injected.Lost (inr h) =
    let r = h.0 in
    let mid = h.3 in
    let try = h.4 in
    let help = helps_add r c h.2 mid new try.walk.1 h.5 in (
      0 + help.0,
      adds_in (most (reach L)) old new (omega arith)
          (adds_then old mid new (adds_then old try.ended mid (seeks_adds L k old try.ended c (Some r) try.walk)
          (flag_lost_adds r h.1 h.2 try.ended mid try.entries)) help.1),
    )

pub lost_flags_add : (L : Layout) (k t : ℕ) (old new : List Entry) → LostFlags L k t old new
    → AddsFlags 0 (t * most (reach L)) old new
lost_flags_add L k zero old new h = (0, adds_in _ old new (omega arith) (adds_none old new h))
lost_flags_add L k (suc t) old new h =
    let above = lost_flags_add L k t old h.1 h.2 in
    let here = try_adds L k h.0 h.1 new injected.Lost h.3 in
    let more = suc-mul t (most (reach L)) in
    (above.0 + here.0, adds_in _ old new (omega (arith, more)) (adds_then old h.1 new above.1 here.1))

-- ---- tries to remove

removes_nothing_adds : (L : Layout) (k : ℕ) (n : NodeId) (old new : List Entry) → RemovesNothing L k n old new
    → Adds 0 0 0 (most (reach L)) old new
removes_nothing_adds L k n old new (inl broken) = adds_in (most (reach L)) old new (omega arith)
    (broken_adds L k old new broken)
removes_nothing_adds L k n old new (inr h) =
    let few = h.3.1 in
    adds_in (most (reach L)) old new (omega (arith, few))
    (adds_then old h.2 new (seeks_adds L k old h.2 h.1 (Some h.0) h.3)
    (not_cleaned_adds h.0.seek_record h.1 h.2 new h.5))

removes_adds : (L : Layout) (k : ℕ) (n : NodeId) (old new : List Entry) → Removes L k n old new
    → AddsFlags 0 (most (reach L)) old new
removes_adds L k n old new h = elim h.2 [
  | inl other ↦ (0, adds_in (most (reach L)) old new (omega arith) (seeks_adds L k old new h.1 (Some h.0) other.0))
  | inr cut ↦ (
    1,
    let few = cut.3.1 in
        adds_in (most (reach L)) old new (omega (arith, few))
        (adds_then old cut.0 new (seeks_adds L k old cut.0 h.1 (Some h.0) cut.3)
        (cleaned_adds h.0.seek_record h.1 cut.1 cut.2 cut.0 new cut.5)),
  )
]

lost_removals_add : (L : Layout) (k : ℕ) (n : NodeId) (t : ℕ) (old new : List Entry) → LostRemovals L k n t old new
    → Adds 0 0 0 (t * most (reach L)) old new
lost_removals_add L k n zero old new h = adds_in _ old new (omega arith) (adds_none old new h)
lost_removals_add L k n (suc t) old new h =
    let more = suc-mul t (most (reach L)) in
    adds_in _ old new (omega (arith, more)) (adds_then old h.0 new (lost_removals_add L k n t old h.0 h.1)
    (removes_nothing_adds L k n h.0 new h.2))

removal_adds : (L : Layout) (k : ℕ) (n : NodeId) (tries : ℕ) (old new : List Entry) (m : Removal)
    → IsRemoval L k n tries old new m → AddsFlags 0 (tries * most (reach L)) old new
removal_adds L k n tries old new removal.Removed h =
    let last = removes_adds L k n h.1 new h.4 in
    let all = mul_below h.0 tries (most (reach L)) h.2 in (
      0 + last.0,
      adds_in _ old new (omega (arith, all))
          (adds_then old h.1 new (lost_removals_add L k n h.0 old h.1 h.3) last.1),
    )
removal_adds L k n tries old new removal.Refused h =
    let all = mul_below h.0 tries (most (reach L)) h.1 in
    (0, adds_in _ old new (omega (arith, all)) (lost_removals_add L k n h.0 old new h.2))
removal_adds L k n tries old new removal.Spent h = (0, lost_removals_add L k n tries old new h)

module _ (L : Layout) (k : ℕ) (f : FlaggedLeaf) (c : List ChainEdge) (few : length c < chain_bound)
    (old new : List Entry) where
  then_removal : (m : Removal) (t : ℕ) (mid : List Entry) → f.left ≡ t + 1 → CleanupLost f.end.seek_record c old mid
      → IsRemoval L k (leaf_of f.end f.birth) t mid new m → AddsFlags 0 (f.left * most (reach L)) old new
  then_removal m t mid is lost h =
      let rest = removal_adds L k (leaf_of f.end f.birth) t mid new m h in
      let all : t * most (reach L) + most (reach L) ≡ f.left * most (reach L) = sym (suc-mul t (most (reach L)))
      ∙ ap (λ (n : ℕ). n * most (reach L)) (let same : suc t ≡ f.left = omega (arith, is) in same) in (
        0 + rest.0,
        adds_in _ old new (omega (arith, all, few))
            (adds_then old mid new (not_cleaned_adds f.end.seek_record c old mid lost) rest.1),
      )

  after_adds : (m : Removal) → RemovalAfter L k f c old new m → AddsFlags 0 (f.left * most (reach L)) old new
  after_adds removal.Removed (inl h) =
      let some = h.0 in
      let all = mul_below 0 f.left (most (reach L)) (omega (arith, some)) in
      (1, adds_in _ old new (omega (arith, all, few)) (cleaned_adds f.end.seek_record c h.1 h.2 old new h.3))
  after_adds removal.Removed (inr h) = then_removal removal.Removed h.0 h.1 h.2 h.3 h.4
  after_adds removal.Refused (inl h) = (0, adds_in _ old new (omega arith) (adds_none old new h.1))
  after_adds removal.Refused (inr h) = then_removal removal.Refused h.0 h.1 h.2 h.3 h.4
  after_adds removal.Spent (inl h) = (0, adds_in _ old new (omega arith) (adds_none old new h.1))
  after_adds removal.Spent (inr h) = then_removal removal.Spent h.0 h.1 h.2 h.3 h.4

-- ---- the whole call

flags_then_add : (L : Layout) (tries k : ℕ) (n : NodeId) (old new : List Entry) (m : Removal)
    → FlagsThen L tries k n old new m → AddsFlags 1 (tries * most (reach L)) old new
flags_then_add L tries k n old new m h =
    let f = h.0 in
    let c = h.1 in
    let mid = h.2 in
    let part = h.4 in
    let few = part.4.walk.1 in
    let lost = lost_flags_add L k part.0 old part.1 part.3 in
    let flag = try_adds L k c part.1 mid (injected.Flagged f.end f.birth) part.4 in
    let rest = after_adds L k f c few mid new m h.5 in
    let all : part.0 * most (reach L) + f.left * most (reach L) + most (reach L)
    ≡ tries * most (reach L) = products part.0 f.left tries (most (reach L)) part.2 in (
      lost.0 + (flag.0 + rest.0),
      adds_in _ old new (omega (arith, all))
          (adds_then old part.1 new lost.1 (adds_then part.1 mid new flag.1 rest.1)),
    )
  where
    products : (t left tries n : ℕ) → t + (left + 1) ≡ tries → t * n + left * n + n ≡ tries * n
    products t left tries n is =
        let more = suc-mul left n in
        let sum = add-mul t (suc left) n in
        let same : t + suc left ≡ tries = omega (arith, is) in
        let whole = ap (λ (m : ℕ). m * n) same in
        omega (arith, more, sum, whole)

absent_adds : (L : Layout) (k tries : ℕ) (c : List ChainEdge) (old new : List Entry)
    → IsInjection L k tries c old new injection.Absent → AddsFlags 0 (tries * most (reach L)) old new
absent_adds L k tries c old new h =
    let lost = lost_flags_add L k h.0 old h.1 h.3 in
    let last = try_adds L k c h.1 new injected.Absent h.4 in
    let all = mul_below h.0 tries (most (reach L)) h.2 in
    (lost.0 + last.0, adds_in _ old new (omega (arith, all)) (adds_then old h.1 new lost.1 last.1))

refused_adds : (L : Layout) (k tries : ℕ) (c : List ChainEdge) (old new : List Entry)
    → IsInjection L k tries c old new injection.Refused → AddsFlags 0 (tries * most (reach L)) old new
refused_adds L k tries c old new h =
    let lost = lost_flags_add L k h.0 old new h.3 in
    let all = mul_below h.0 tries (most (reach L)) h.2 in
    (lost.0, adds_in _ old new (omega (arith, all)) lost.1)

pub delete_adds : (L : Layout) (tries k : ℕ) (old new : List Entry) (r : Result Deletion CallFault)
    → DeleteFinishes L tries k old new r → AddsFlags (flags_of_delete r) (tries * most (reach L) + 1) old new
delete_adds L tries k old new (Ok (deletion.Done true)) h =
    let part = flags_then_add L tries k h.0 old h.1 removal.Removed h.2 in
    (part.0 + 0, adds_then old h.1 new part.1 (adds_these _ h.1 new h.3))
delete_adds L tries k old new (Ok (deletion.Done false)) h =
    let part = absent_adds L k tries h.0 old h.1 h.2 in
    (part.0 + 0, adds_then old h.1 new part.1 (adds_these _ h.1 new h.3))
delete_adds L tries k old new (Err fault.Busy) h =
    let part = lost_flags_add L k tries old h.1 h.2 in
    (part.0 + 0, adds_then old h.1 new part.1 (adds_these _ h.1 new h.3))
delete_adds L tries k old new (Err fault.NoMemory) h =
    let part = refused_adds L k tries h.0 old h.1 h.2 in
    (part.0 + 0, adds_then old h.1 new part.1 (adds_these _ h.1 new h.3))
delete_adds L tries k old new (Err fault.Full) h = elim h [ ]
delete_adds L tries k old new (Err fault.Unfinished) h = elim h [ ]
delete_adds L tries k old new (Err fault.Pending) h = elim h [ ]
delete_adds L tries k old new (Err fault.Pinned) h = elim h [ ]
delete_adds L tries k old new (Ok (deletion.Pending n)) (inl h) =
    let part = flags_then_add L tries k n old new removal.Refused h in (part.0, adds_in _ old new (omega arith) part.1)
delete_adds L tries k old new (Ok (deletion.Pending n)) (inr h) =
    let part = flags_then_add L tries k n old new removal.Spent h in (part.0, adds_in _ old new (omega arith) part.1)

pub finish_adds : (L : Layout) (k : ℕ) (n : NodeId) (tries : ℕ) (old new : List Entry) (b : Bool)
    → FinishDid L k n tries old new b → AddsFlags 0 (tries * most (reach L) + 1) old new
finish_adds L k n tries old new true h =
    let part = removal_adds L k n tries old h.0 removal.Removed h.1 in
    (part.0 + 0, adds_then old h.0 new part.1 (adds_these _ h.0 new h.2))
finish_adds L k n tries old new false (inl h) = let part = removal_adds L k n tries old new removal.Refused h in
    (part.0, adds_in _ old new (omega arith) part.1)
finish_adds L k n tries old new false (inr h) = let part = removal_adds L k n tries old new removal.Spent h in
    (part.0, adds_in _ old new (omega arith) part.1)

module _ (L : Layout) (tries k : ℕ) (old pinned new : List Entry) (e : ℕ)
    (pin : IsPinnedBy (SightFor Delete k) tries old pinned e) (r : Result Deletion CallFault)
    (h : DeleteFinishes L tries k pinned new r) where
  all : AddsFlags (flags_of_delete r) (2 * tries + 1 + (tries * most (reach L) + 1)) old new
  all = let part = delete_adds L tries k pinned new r h in
      (0 + part.0, adds_after old pinned new (pin_adds Delete k tries old pinned e pin) part.1)

  pub delete_wins : HasWon old new 0 (flags_of_delete r)
  delete_wins = has_won old new all.1

  pub delete_steps : length new ≤ length old + tries * (4 * reach L + 8 * chain_bound) + 10
  delete_steps = within_call L tries (length old) (length new) (2 * tries + 1 + (tries * most (reach L) + 1))
      all.1.steps (omega arith)

module _ (L : Layout) (k : ℕ) (n : NodeId) (tries : ℕ) (old new : List Entry) (b : Bool)
    (h : FinishDid L k n tries old new b) where
  pub finish_wins : HasWon old new 0 0
  finish_wins = has_won old new (finish_adds L k n tries old new b h).1

  pub finish_steps : length new ≤ length old + tries * (4 * reach L + 8 * chain_bound) + 10
  finish_steps = within_call L tries (length old) (length new) (tries * most (reach L) + 1)
      (finish_adds L k n tries old new b h).1.steps (omega arith)
