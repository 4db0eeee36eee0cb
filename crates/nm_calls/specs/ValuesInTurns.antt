-- Look-ups of the values of several keys by a worker that is pinned, whose walks take turns.
use Rattle.std.specs.Prelude.{◌≡◌, ℕ, true, if◌then◌else◌, List, length, map, All, Option, Some, None, Result, IfOk, IfErr}
use Rattle.nm_edge.specs.Keys.{IsKey}
use Rattle.nm_edge.specs.Layouts.{Layout}
use Rattle.nm_steps.specs.Steps.{PassView}
use Rattle.nm_walks.specs.AddedLooks.{AddsLooks}
use Rattle.nm_walks.specs.Bounds.{reach}
use Rattle.nm_walks.specs.Telling.{GoesOn, OnlyLooks}
use Rattle.nm_calls.specs.declared.fault.CallFault.{CallFault}
use Rattle.nm_calls.specs.declared.fault.CallFault.TheVariants as fault
use Rattle.nm_calls.specs.declared.many.Query.{Query}
use Rattle.nm_calls.specs.InTurns.{GiveUp, key_of}
use Rattle.nm_calls.specs.Maps.{HasReadLater, MapGaveUnderPin}
use Rattle.nm_calls.specs.PlainWalks.{HasEndedAt, HasEndedSo, after_entries, most_looks}

-- the answer of a query: the value under its key, if the map has the key
abbrev pub answer_of : Query → Option ℕ
answer_of q = if q.found then Some q.value else None

-- the walk for the query has ended, and its looks came after the first n entries of the log. If it
-- has found the key, the query has the slot of the leaf with the key (Natarajan and Mittal, section
-- 3.2)
pub record HasWalked (n : ℕ) (p : PassView) (q : Query) : Type 0 where
  pub is_key : IsKey q.key
  pub ends : HasEndedSo (after_entries n p) q.key q.found
  pub leaf : q.found ≡ true → HasEndedAt (after_entries n p) q.key q.value

-- after that, the value of the leaf was read
pub record HasAnswer (n : ℕ) (p : PassView) (q : Query) : Type 0 where
  pub is_key : IsKey q.key
  pub ends : HasEndedSo (after_entries n p) q.key q.found
  pub read : q.found ≡ true → HasReadLater n p q.key q.value

-- what a look-up of the values of the old queries, which are the new ones afterwards, leaves of its
-- pass, by its answer. It is as for a look-up of one value: looks alone. But each answer was right at
-- a moment (linearization point) of the call, and the keys are unchanged
pub record AfterPinnedGetMany (L : Layout) (old new : List Query) (p q : PassView)
    (r : Result (Unit {0}) CallFault) : Type 0 where
  pub on : GoesOn p q
  pub only : OnlyLooks p q
  pub looks : AddsLooks (most_looks (reach L) (length old)) p.view.log q.view.log
  pub keys : map key_of new ≡ map key_of old
  pub moment : IfOk r (λ u. All (λ query. MapGaveUnderPin p q query.key (answer_of query)) new)
  pub busy : IfErr r (λ e. e ≡ fault.Busy)
  pub missed : IfErr r (λ e. GiveUp L (map key_of old) p.view.log q.view.log)
