-- Why a call was busy: who has interfered it, by the laws of progress.
use Rattle.std.proofs.Common.{◌≡◌, ◌-◌, ◌<◌, ◌≤◌, ℕ, List, sym, ap, subst, ◌∙◌, arith}
use Rattle.std.specs.Prelude.{Err}
use Rattle.nm_edge.specs.Layouts.{Layout, IsLayout}
use Rattle.nm_edge.specs.declared.edge.Side.{Side}
use Rattle.nm_edge.specs.declared.node.NodeId.{NodeId}
use Rattle.nm_edge.specs.declared.placement.Fit.{Fit}
use Rattle.nm_steps.specs.Steps.{TreeView, PassView, IsOf, IsSamePass, HasSeen, HasSeenAllOf}
use Rattle.nm_calls.specs.declared.fault.CallFault.TheVariants as fault
use Rattle.nm_calls.specs.Calls.{HasMissed}
use Rattle.nm_calls.specs.InTurns.{GiveUp as GiveUpInTurns}
use Rattle.nm_calls.specs.Inserts.{InsertDid}
use Rattle.nm_calls.specs.NearKeys.{GiveUp as GiveUpNear}
use Rattle.nm_calls.specs.PlainWalks.{GivesUpUnderPin, PlainMissed}
use Rattle.nm_calls.specs.Scans.{StopsShort}
use Rattle.nm_calls.specs.Deletes.{DeleteDid, IsRemoving, LosesAfterFlag, LosesEachTry}
use Rattle.nm_puts.specs.declared.putting.Condition.{Condition}
use Rattle.nm_puts.specs.Puts.{PutDid}
use Rattle.nm_progress.specs.Lookups.{WasBusy, WasReshaped}
use Rattle.nm_progress.specs.Lost.{Interference, WasChanged, ChangeWasBusy}
use Rattle.nm_epoch.specs.Resting.{IsResting}
use Rattle.nm_progress.specs.Alone.{IsAlone, RunsAlone}
use Rattle.nm_progress.specs.Walked.{ManyWereBusy, NearWasBusy}
use Rattle.nm_progress.proofs.AloneCalls.{lookups_alone_are_answered, inserts_alone_are_answered, deletes_alone_are_not_busy}
use Rattle.nm_progress.proofs.AloneRemovals.{deletes_alone_are_finished, finishes_alone_are_answered}
use Rattle.nm_progress.proofs.LostLookups.{busy_lookups_met_interference}
use Rattle.nm_progress.proofs.LostPuts.{busy_puts_were_lost, puts_alone_are_done}
use Rattle.nm_progress.proofs.LostWalked.{busy_many_met_interference, busy_near_met_interference, short_scans_met_interference}
use Rattle.nm_progress.proofs.InterferedCalls.{busy_inserts_were_lost, busy_deletes_were_lost, unfinished_deletes_were_lost, unfinished_finishes_were_lost}

-- of a tree and a worker whose insides are b and o, a call that ends at q
module _ (b d : TreeView) (o p q : PassView) (k tries : ℕ) (tree : b ≡ d) (at : o ≡ p) (seen : HasSeen o.view)
    (after : HasSeen q.view) (fits : IsLayout o.view.layout) (same : IsSamePass o q) (past : HasSeenAllOf q o) where
  enough : 5 ≤ o.view.layout.nodes
  enough = let least = fits.least in omega (arith, least)

  layouts : IsOf d p → o.view.layout ≡ b.layout
  layouts own = ap (λ (x : PassView). x.view.layout) at ∙ (own.layout ∙ ap (λ (x : TreeView). x.layout) (sym tree))

  pub lookup_interfered : IsOf d p → HasMissed b.layout tries k o.view.log q.view.log → WasBusy p q tries
  lookup_interfered own did =
      let layout = layouts own in
      subst (λ (x : PassView). WasBusy x q tries) at
      (busy_lookups_met_interference k tries o q seen after enough same past
      (subst (λ (L : Layout). HasMissed L tries k o.view.log q.view.log) (sym layout) did))

  pub insert_interfered : IsOf d p → (f : Fit) → InsertDid f b.layout tries k o.view.log q.view.log (Err fault.Busy)
      → ChangeWasBusy p q tries
  insert_interfered own f did =
      subst (λ (x : PassView). ChangeWasBusy x q tries) at
      (busy_inserts_were_lost f k tries o q seen after enough fits.few same past
      (subst (λ (L : Layout). InsertDid f L tries k o.view.log q.view.log (Err fault.Busy)) (sym (layouts own)) did))

  pub put_interfered : IsOf d p → (f : Fit) (when : Condition)
      → PutDid f b.layout tries when k o.view.log q.view.log (Err fault.Busy) → ChangeWasBusy p q tries
  put_interfered own f when did =
      subst (λ (x : PassView). ChangeWasBusy x q tries) at
      (busy_puts_were_lost f when k tries o q seen after enough fits.few same past
      (subst (λ (L : Layout). PutDid f L tries when k o.view.log q.view.log (Err fault.Busy)) (sym (layouts own)) did))

  pub delete_interfered : IsOf d p → DeleteDid b.layout tries k o.view.log q.view.log (Err fault.Busy)
      → ChangeWasBusy p q tries
  delete_interfered own did =
      subst (λ (x : PassView). ChangeWasBusy x q tries) at
      (busy_deletes_were_lost k tries o q seen after enough fits.few same past
      (subst (λ (L : Layout). DeleteDid L tries k o.view.log q.view.log (Err fault.Busy)) (sym (layouts own)) did))

  pub delete_lost : IsOf d p → (n : NodeId) → IsRemoving q k n
      → LosesAfterFlag b.layout tries k o.view.log q.view.log n → Interference p q (tries - 1)
  delete_lost own n removing did =
      subst (λ (x : PassView). Interference x q (tries - 1)) at
      (unfinished_deletes_were_lost k tries n o q seen after enough fits.few same past removing
      (subst (λ (L : Layout). LosesAfterFlag L tries k o.view.log q.view.log n) (sym (layouts own)) did))

  pub finish_lost : IsOf d p → (n : NodeId) → IsRemoving q k n
      → LosesEachTry b.layout k n tries o.view.log q.view.log → WasChanged p q tries
  finish_lost own n removing did =
      subst (λ (x : PassView). WasChanged x q tries) at
      (unfinished_finishes_were_lost k tries n o q seen after enough fits.few same past removing
      (subst (λ (L : Layout). LosesEachTry L k n tries o.view.log q.view.log) (sym (layouts own)) did))

  pub many_interfered : IsOf d p → (keys : List ℕ)
      → PlainMissed (GiveUpInTurns b.layout keys) tries o.view.log q.view.log → ManyWereBusy p q tries
  many_interfered own keys missed =
      subst (λ (x : PassView). ManyWereBusy x q tries) at
      (busy_many_met_interference keys tries o q seen after enough same past
      (subst (λ (L : Layout). PlainMissed (GiveUpInTurns L keys) tries o.view.log q.view.log) (sym (layouts own))
      missed))

  pub near_interfered : IsOf d p → (side : Side) → PlainMissed (GiveUpNear side b.layout tries k) tries o.view.log
      q.view.log → NearWasBusy p q tries
  near_interfered own side missed =
      subst (λ (x : PassView). NearWasBusy x q tries) at
      (busy_near_met_interference side k tries o q seen after enough same past
      (subst (λ (L : Layout). PlainMissed (GiveUpNear side L tries k) tries o.view.log q.view.log)
      (sym (layouts own)) missed))

  pub scan_interfered : IsOf d p → GivesUpUnderPin (StopsShort b.layout) tries o.view.log q.view.log → WasReshaped p q 1
  scan_interfered own short =
      subst (λ (x : PassView). WasReshaped x q 1) at
      (short_scans_met_interference tries o q seen after enough same past
      (subst (λ (L : Layout). GivesUpUnderPin (StopsShort L) tries o.view.log q.view.log) (sym (layouts own)) short))

  -- ---- alone

  abbrev Alone : Type 0
  Alone = IsAlone p q

  mine : Alone → IsAlone o q
  mine alone = subst (λ (x : PassView). IsAlone x q) (sym at) alone

  mine_too : RunsAlone p q → RunsAlone o q
  mine_too runs = subst (λ (x : PassView). RunsAlone x q) (sym at) runs

  pub lookup_alone : IsOf d p → Alone → HasMissed b.layout tries k o.view.log q.view.log → tries ≡ 0
  lookup_alone own alone did =
      lookups_alone_are_answered k tries o q seen after enough same past (mine alone)
      (subst (λ (L : Layout). HasMissed L tries k o.view.log q.view.log) (sym (layouts own)) did)

  pub insert_alone : IsOf d p → (f : Fit) → RunsAlone p q → IsResting o
      → InsertDid f b.layout tries k o.view.log q.view.log (Err fault.Busy) → tries ≡ 0
  insert_alone own f runs rests did =
      inserts_alone_are_answered f k tries o q seen after enough same past (mine_too runs) rests
      (subst (λ (L : Layout). InsertDid f L tries k o.view.log q.view.log (Err fault.Busy)) (sym (layouts own)) did)

  pub put_alone : IsOf d p → (f : Fit) (when : Condition) → RunsAlone p q → IsResting o
      → PutDid f b.layout tries when k o.view.log q.view.log (Err fault.Busy) → tries ≡ 0
  put_alone own f when runs rests did =
      puts_alone_are_done f when k tries o q seen after enough same past (mine_too runs) rests
      (subst (λ (L : Layout). PutDid f L tries when k o.view.log q.view.log (Err fault.Busy)) (sym (layouts own)) did)

  pub delete_alone : IsOf d p → RunsAlone p q → IsResting o
      → DeleteDid b.layout tries k o.view.log q.view.log (Err fault.Busy) → tries < 1
  delete_alone own runs rests did =
      let none = deletes_alone_are_not_busy k tries o q seen after enough same past (mine_too runs) rests
      (subst (λ (L : Layout). DeleteDid L tries k o.view.log q.view.log (Err fault.Busy)) (sym (layouts own)) did) in
      omega (arith, none)

  pub delete_finished : IsOf d p → (n : NodeId) → RunsAlone p q → IsResting o
      → LosesAfterFlag b.layout tries k o.view.log q.view.log n → tries < 2
  delete_finished own n runs rests did =
      let few = deletes_alone_are_finished k tries n o q seen after enough same past (mine_too runs) rests
      (subst (λ (L : Layout). LosesAfterFlag L tries k o.view.log q.view.log n) (sym (layouts own)) did) in
      omega (arith, few)

  pub finish_alone : IsOf d p → (n : NodeId) → Alone → IsRemoving q k n
      → LosesEachTry b.layout k n tries o.view.log q.view.log → tries < 1
  finish_alone own n alone removing did =
      let none = finishes_alone_are_answered k tries n o q seen after enough fits.few same past (mine alone) removing
      (subst (λ (L : Layout). LosesEachTry L k n tries o.view.log q.view.log) (sym (layouts own)) did) in
      omega (arith, none)
