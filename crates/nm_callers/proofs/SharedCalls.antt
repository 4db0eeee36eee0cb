-- What a pop and a look for the next key of a shared set say of the key that they return, and what a remove
-- of a shared map says of the value. What a caller knows of one worker if none was free.
use Rattle.std.proofs.Common.{◌≡◌, ◌<◌, ℕ, List, true, ap, inl, inr}
use Rattle.std.specs.Prelude.{Err, IfNone, IfSome, None, Ok, Option, Result, Some}
use Rattle.nm_edge.specs.Keys.{IsKey}
use Rattle.nm_calls.specs.declared.many.Query.{Query}
use Rattle.nm_set.specs.Asked.{AskedToPin}
use Rattle.nm_set.specs.declared.managed.Options.{Options}
use Rattle.nm_shared.specs.Sharing.{CallerView, NoneWasFree, SaysSharedNext, SaysSharedPop, SharedView}
use Rattle.nm_shared.specs.SharedMaps.{AsksIfPinned, SaysSharedGetMany, SaysSharedTake}
use Rattle.nm_tree.specs.declared.fault.PinFault.{PinFault}
use Rattle.nm_callers.specs.AnyThread.{FoundNext, FoundTaken, ReadLogIns, TookDue, TookValue}

pub took_due : (s : SharedView) (h : Options) (was now : CallerView) (below : ℕ) (x : Option ℕ)
    → SaysSharedPop (λ j. IsKey j × (j < below)) ◌<◌ s h was now (Ok x) → IfSome x (TookDue was now below)
took_due s h was now below None v = tt
took_due s h was now below (Some k) v = elim v.says [
  | inl held ↦ absurd (let is = held.1 in cc)
  | inr free ↦ record {
    visit = v.visit;
    more = v.more;
    due = free.1.took.0.1;
    begun = v.begun;
    heard = v.heard;
    moment = free.1.took.1;
  }
]

pub found_next : (s : SharedView) (h : Options) (was now : CallerView) (least : ℕ) (x : Option ℕ)
    → SaysSharedNext s h least was now (Ok x) → IfSome x (FoundNext was now least)
found_next s h was now least None v = tt
found_next s h was now least (Some k) v = elim v.says [
  | inl held ↦ absurd (let is = held.1 in cc)
  | inr free ↦ record { visit = v.visit; more = v.more; begun = v.begun; heard = v.heard; near = free.1.moment }
]

pub took_value : (s : SharedView) (h : Options) (was now : CallerView) (k v : ℕ)
    → SaysSharedTake s h k v was now (Ok true) → TookValue was now k v
took_value s h was now k v t =
    record { visit = t.visit; more = t.more; begun = t.begun; heard = t.heard; took = t.says.takes }

pub read_log_ins : (s : SharedView) (h : Options) (was now : CallerView) (old new : List Query) (u : Unit {0})
    → SaysSharedGetMany s h old new was now (Ok u) → ReadLogIns was now old new
read_log_ins s h was now old new u v = by v.says.pin v.says.pins v.says.asks
  where
    by : (x : Result ℕ PinFault) → AskedToPin h.tries v.begun v.says.pinned x
        → AsksIfPinned s.set.tree.layout old new v.says.pinned v.visit.left.worker x (Ok u) → ReadLogIns was now old new
    by (Ok e) (inl held) asks = absurd (let is = held.1 in cc)
    by (Ok e) (inr free) asks = record {
      visit = v.visit;
      more = v.more;
      begun = v.begun;
      heard = v.heard;
      pinned = v.says.pinned;
      asked = asks.asked;
      since = free.1.past;
      until = asks.unpins.past;
      keys = asks.gets.keys;
      gave = asks.gets.moment;
    }
    by (Err f) pins asks = absurd (let no = asks.0 in cc)

pub found_taken : {A : Type 0} (o : Option A) (s : SharedView) (was now : CallerView) (i : ℕ)
    → (i < s.table.words) × (i < 4294967295) → IfNone o (NoneWasFree s was now) → IfNone o (FoundTaken i was now)
found_taken None s was now i few none = record {
  looks = none.looks;
  more = ap (λ (c : CallerView). c.looks) none.same;
  away = none.each i few.0 few.1;
}
found_taken (Some x) s was now i few none = tt
