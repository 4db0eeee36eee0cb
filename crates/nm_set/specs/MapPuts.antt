-- Puts: what a managed put of a map leaves.
use Rattle.std.specs.Prelude.{◌≡◌, ◌≢◌, ◌+◌, ◌*◌, ℕ, None, Result, Err, IfErr}
use Rattle.nm_edge.specs.Layouts.{Layout}
use Rattle.nm_model.specs.declared.event.Op.TheVariants.{Insert}
use Rattle.nm_progress.specs.Alone.{RunsAlone}
use Rattle.nm_progress.specs.Lost.{ChangeWasBusy}
use Rattle.nm_steps.specs.Rules.{ExtendsStores}
use Rattle.nm_steps.specs.Steps.{PassView, TreeView}
use Rattle.nm_walks.specs.Bounds.{chain_bound, reach}
use Rattle.nm_calls.specs.Moments.{AnswerHasMoment}
use Rattle.nm_calls.specs.Won.{HasWon}
use Rattle.nm_calls.specs.declared.fault.CallFault.{CallFault}
use Rattle.nm_calls.specs.declared.fault.CallFault.TheVariants as fault
use Rattle.nm_puts.specs.declared.putting.Condition.{Condition}
use Rattle.nm_puts.specs.declared.putting.PutOutcome.{PutOutcome}
use Rattle.nm_puts.specs.Puts.{Did, IfAnswered, IfDone, links_of}
use Rattle.nm_tree.specs.Answers.{FailsAlone, FreesNone}
use Rattle.nm_tree.specs.Putting.{SaysPut}
use Rattle.nm_tree.specs.Workers.{WorkerView}
use Rattle.nm_set.specs.declared.managed.Options.{Options}
use Rattle.nm_set.specs.Asked.{Asked, UnlessPinned}
use Rattle.nm_set.specs.Managed.{FinishesFirst, GoesOn, IsLeft, MetInterference, StaysPending, round_bound}
use Rattle.nm_set.specs.Rounds.{IsOnward}

-- the most steps of one put
abbrev pub put_bound : ℕ → Layout → ℕ
put_bound tries L = tries * (4 * reach L + 6 * L.nodes + 8 * chain_bound) + 10

-- what a caller learns from a put of the tree, and why it was busy, and why it failed if it ran alone
pub record SaysTryPut (L : Layout) (tries : ℕ) (when : Condition) (k v : ℕ) (w z : WorkerView)
    (r : Result PutOutcome CallFault) : Type 0 where
  pub says : Asked (SaysPut L tries when k v) w z r
  pub busy : r ≡ Err fault.Busy → ChangeWasBusy w.pass z.pass tries
  pub alone : RunsAlone w.pass z.pass → IfErr r (FailsAlone 1 1 tries z)

-- puts, made until one does not lose all its tries. What the last one found and did in the map is later
-- than all that the worker had seen before. If it leaves with an answer, this is that of an insert of
-- the key. They have won the link that the result implies and no more, and have made at most `most`
-- steps. If they were busy, they met interference as often as they had tries; and if the worker ran
-- alone, they had none (`alone`). The worker has freed no node
pub record AnswersPut (when : Condition) (k v most tries : ℕ) (w z : WorkerView)
    (r : Result PutOutcome CallFault) : Type 0 where
  pub map : IfDone r (Did when k v w.pass z.pass)
  pub moment : IfDone r (λ put. IfAnswered put (λ answer. AnswerHasMoment w.pass z.pass Insert k answer))
  pub left : IsLeft Insert k w z r
  pub won : HasWon w.pass.view.log z.pass.view.log (links_of r) 0
  pub on : GoesOn most w z
  pub busy : r ≡ Err fault.Busy → MetInterference Insert w.pass z.pass tries
  pub alone : RunsAlone w.pass z.pass → r ≡ Err fault.Busy → tries ≡ 0
  pub frees : FreesNone w z

-- a managed put: its result, and the remove of an earlier call, which it finished first. If the worker
-- ran alone, an error is due to a number of tries that is 0, to a lack of room, or to a full pool
-- (`alone`). That remove stays pending for a lack of room, or because others changed edges (`pending`).
-- If no remove was pending, the worker has seen all stores that it had seen (`stores`)
pub record ManagesPut (b : TreeView) (h : Options) (when : Condition) (k v : ℕ) (w z : WorkerView)
    (r : Result PutOutcome CallFault) : Type 0 where
  pub answers : AnswersPut when k v
      ((h.rounds + 1) * (round_bound h.tries b.layout + put_bound h.tries b.layout))
      ((h.rounds + 1) * h.tries) w z r
  pub begins : r ≢ Err fault.Pending → (begun : PassView) × FinishesFirst w begun
      × IfDone r (Did when k v begun z.pass)
  pub stores : w.pending ≡ None → ExtendsStores z.pass.view.stores w.pass.view.stores
  pub alone : RunsAlone w.pass z.pass → IfErr r (FailsAlone 1 1 h.tries z)
  pub pending : r ≡ Err fault.Pending → StaysPending h w z

-- what a caller learns from a managed put
abbrev pub SaysManagedPut : TreeView → Options → Condition → ℕ → ℕ → WorkerView → WorkerView
    → Result PutOutcome CallFault → Type 0
SaysManagedPut b h when k v w z r = UnlessPinned (ManagesPut b h when k v w z r) w z r

-- ---- its parts, for the contracts inside this crate

-- n puts in a row lost all their tries
pub record PutsWereBusy (b : TreeView) (h : Options) (n : ℕ) (w z : WorkerView) : Type 0 where
  pub onward : IsOnward (n * put_bound h.tries b.layout) w z
  pub met : MetInterference Insert w.pass z.pass (n * h.tries)
  pub stores : ExtendsStores z.pass.view.stores w.pass.view.stores
  pub frees : FreesNone w z

-- at most n puts, made until one does not lose all its tries
pub record PutsIn (b : TreeView) (h : Options) (when : Condition) (k v n : ℕ) (w z : WorkerView)
    (r : Result PutOutcome CallFault) : Type 0 where
  pub answers : AnswersPut when k v (n * put_bound h.tries b.layout) (n * h.tries) w z r
  pub stores : ExtendsStores z.pass.view.stores w.pass.view.stores
