-- The ledgers of the queues that a worker holds.
use Rattle.std.proofs.Common.{◌≡◌, ℕ, ◌+◌, List, ◌++◌, map, length, refl, sym, ap, ◌∙◌, arith}
use Rattle.std.specs.Prelude.{Option, Some, None, option_map, unwrap_or}
use Rattle.std.proofs.lemmas.List.{length-append, length-map}
use Rattle.std.proofs.lemmas.Option.{none-some, same_Some}
use Rattle.nm_edge.specs.declared.node.NodeId.{NodeId}
use Rattle.nm_model.specs.declared.ledger.Ledger.{Ledger}
use Rattle.nm_model.specs.declared.ledger.Queued.{Queued}
use Rattle.nm_model.specs.Ledgers.{held, fresh_ledger}
use Rattle.nm_model.specs.Laws.{node_in}
use Rattle.nm_order.proofs.HeldLedgers.{held_ledgers_are_kept}
use Rattle.nm_steps.specs.declared.view.View.{View}
use Rattle.nm_steps.specs.Rules.{knowledge}
use Rattle.nm_steps.specs.Steps.{PassView, IsInRun}
use Rattle.nm_epoch.specs.declared.collecting.Entry.{Entry}
use Rattle.nm_epoch.specs.Collecting.{IsQueueOf, queued, retired_of}
use Rattle.nm_tree.specs.Workers.{ledger_in}

shown : (h : Option Ledger) (q : List Queued) → option_map (λ (l : Ledger). l.queue) h ≡ Some q
    → (h ≡ Some (unwrap_or h fresh_ledger)) × ((unwrap_or h fresh_ledger).queue ≡ q)
shown None q is = absurd (none-some q is)
shown (Some l) q is = (refl, same_Some l.queue q is)

-- it is held
pub ledger_held : (v : View) (o : ℕ) (es : List Entry) → IsQueueOf (knowledge v) o es
    → held (knowledge v).ledgers o ≡ Some (ledger_in v o)
ledger_held v o es is = (shown (held (knowledge v).ledgers o) (map queued es) is).0

-- as many wait in it as in the queue
pub ledger_waits : (v : View) (o : ℕ) (es : List Entry) → IsQueueOf (knowledge v) o es
    → length (ledger_in v o).queue ≡ length es
ledger_waits v o es is = ap (λ (q : List Queued). length q)
    (shown (held (knowledge v).ledgers o) (map queued es) is).1 ∙ length-map es queued

-- what was retired is what was freed and what waits
pub split_in_run : (p : PassView) (o : ℕ) (es : List Entry) → IsInRun p → IsQueueOf (knowledge p.view) o es
    → length (ledger_in p.view o).retired ≡ length (ledger_in p.view o).freed + length es
split_in_run p o es run is =
    let l = ledger_in p.view o in
    let kept = held_ledgers_are_kept p.view.layout (let least = run.fits.least in omega arith) p.view.number
    p.view.log run.run.is_part in
    let all : length l.retired ≡ length (l.freed ++ map node_in l.queue) = ap (λ (ns : List NodeId). length ns)
    (kept.split o l (ledger_held p.view o es is)) in
    let parts = length-append l.freed (map node_in l.queue) in
    let nodes : length (map node_in l.queue) ≡ length l.queue = length-map l.queue node_in in
    let waits = ledger_waits p.view o es is in
    omega (arith, all, parts, nodes, waits)

-- the same was retired
pub retired_alike : (v u : View) (o : ℕ) (es fs : List Entry) → IsQueueOf (knowledge v) o es
    → IsQueueOf (knowledge u) o fs → retired_of (knowledge u) o ≡ retired_of (knowledge v) o
    → length (ledger_in u o).retired ≡ length (ledger_in v o).retired
retired_alike v u o es fs was is same =
    let old : retired_of (knowledge v) o ≡ Some (ledger_in v o).retired = ap (option_map (λ (l : Ledger). l.retired))
    (ledger_held v o es was) in
    let new : retired_of (knowledge u) o ≡ Some (ledger_in u o).retired = ap (option_map (λ (l : Ledger). l.retired))
    (ledger_held u o fs is) in
    ap (λ (ns : List NodeId). length ns) (same_Some _ _ (sym new ∙ (same ∙ old)))
