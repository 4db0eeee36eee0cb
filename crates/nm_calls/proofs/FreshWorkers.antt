-- A worker that has done nothing yet.
use Rattle.std.proofs.Common.{◌≡◌, ◌≢◌, ℕ, zero, suc, ◌<◌, List, [], length, refl, sym, ap, subst, ◌∙◌, arith, get_or-set_same, get_or-set_other, get_or}
use Rattle.std.specs.Prelude.{Option, Some, None, option_map}
use Rattle.std.proofs.Math.ListN.{replicate}
use Rattle.std.proofs.lemmas.List.{length-replicate}
use Rattle.nm_edge.specs.Layouts.{Layout}
use Rattle.nm_model.specs.declared.ledger.Ledger.{Ledger}
use Rattle.nm_model.specs.Knowledge.{newcomer}
use Rattle.nm_model.specs.Ledgers.{held, fresh_ledger}
use Rattle.nm_model.specs.Maps.{get}
use Rattle.nm_steps.specs.declared.view.View.{View}
use Rattle.nm_steps.specs.Rules.{knowledge}
use Rattle.nm_steps.specs.Steps.{PassView, fresh_view}
use Rattle.nm_epoch.proofs.Allowed.{fresh_rests}
use Rattle.nm_edge.specs.declared.node.NodeId.{NodeId}
use Rattle.nm_limbo.specs.Queue.{BlockQueue, block_queue}
use Rattle.nm_model.specs.Walks.{Entry as LogEntry}
use Rattle.nm_epoch.specs.declared.collecting.Entry.{Entry}
use Rattle.nm_epoch.specs.declared.collecting.HeldQueue.{HeldQueue}
use Rattle.nm_epoch.specs.declared.collecting.Tally.{Tally}
use Rattle.nm_epoch.specs.Collecting.{IsQueueOf, blank, capped}
use Rattle.nm_walks.specs.Cleanups.{HoldsCuts}
use Rattle.nm_calls.specs.Fresh.{HasDoneNothing}
use Rattle.nm_walks.specs.WonCounts.{CountsWon}

abbrev no_one : Option Ledger
no_one = None

own_ledger : (L : Layout) (w : ℕ) → w < L.workers → held (newcomer L w).ledgers w ≡ Some fresh_ledger
own_ledger L w below = let long = length-replicate L.workers no_one in
    get_or-set_same (replicate L.workers no_one) w (Some fresh_ledger) no_one (omega (arith, long, below))

no_ledger : (n i : ℕ) → get_or (replicate n no_one) i no_one ≡ no_one
no_ledger zero i = refl
no_ledger (suc n) zero = refl
no_ledger (suc n) (suc i) = no_ledger n i

other_ledger : (L : Layout) (w o : ℕ) → o ≢ w → held (newcomer L w).ledgers o ≡ None
other_ledger L w o other = get_or-set_other (replicate L.workers no_one) w o (Some fresh_ledger) no_one other
    ∙ no_ledger L.workers o

pub fresh_worker : (L : Layout) (w : ℕ) (p : PassView) → p.view ≡ fresh_view L w → w < L.workers → HasDoneNothing p
fresh_worker L w p fresh below = record {
  rests = fresh_rests L w p fresh;
  log = ap (λ (v : View). v.log) fresh;
  ledger = subst (λ (v : View). held (knowledge v).ledgers v.number ≡ Some fresh_ledger) (sym fresh)
      (own_ledger L w below);
  others = subst (λ (v : View). (o : ℕ) → o ≢ v.number → held (knowledge v).ledgers o ≡ None) (sym fresh)
      (λ o other. other_ledger L w o other);
  queue = subst (λ (v : View). option_map (λ (l : Ledger). l.queue) (held (knowledge v).ledgers v.number) ≡ Some [])
      (sym fresh) (ap (λ (h : Option Ledger). option_map (λ (l : Ledger). l.queue) h) (own_ledger L w below));
  private = subst (λ (v : View). (s : ℕ) → get (knowledge v).drafts s ≡ None) (sym fresh) (λ s. refl);
}

-- a queue of which nothing is told yet is its own one
pub holds_nothing : (p : PassView) (h : HeldQueue) → HasDoneNothing p → h.origin ≡ p.view.number
    → h.queue ≡ block_queue [] 0 0 → h.counts ≡ blank → HoldsCuts p h
holds_nothing p h d own empty none' = record {
  own = own;
  queue = subst (λ (q : BlockQueue Entry). IsQueueOf (knowledge p.view) p.view.number q.items) (sym empty) d.queue;
  counted = subst (λ (t : Tally). CountsWon p.view.log t) (sym none')
      (subst (λ (l : List LogEntry). CountsWon l blank) (sym d.log)
      (record { links = refl; flags = refl; splices = refl }));
  freed = ap (λ (l : Option Ledger). option_map (λ (ns : List NodeId). capped (length ns))
      (option_map (λ (x : Ledger). x.freed) l)) d.ledger ∙ ap (λ (t : Tally). Some t.freed) (sym none');
}
