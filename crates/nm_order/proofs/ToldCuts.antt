-- The nodes of a won splice enter the own queue.
use Rattle.std.proofs.Common.{◌≡◌, ℕ, ◌<◌, ◌≤◌, ◌==◌, cond, List, [], ◌∷◌, ◌++◌, length, refl, sym, ap, ◌∙◌, arith}
use Rattle.std.specs.Prelude.{Option, option_map}
use native.Mathlib.Decide.{ℕ_discrete}
use Rattle.std.proofs.lemmas.Bool.{cond-true, cond-false, eq-eqb, ne_eqb}
use Rattle.nm_edge.specs.Layouts.{Layout}
use Rattle.nm_edge.specs.declared.node.NodeId.{NodeId}
use Rattle.nm_model.specs.declared.event.Event.TheVariants.{Splice}
use Rattle.nm_model.specs.declared.ledger.Ledger.{Ledger}
use Rattle.nm_model.specs.declared.reply.Reply.TheVariants.{Cut}
use Rattle.nm_model.specs.Knowledge.{Knowledge}
use Rattle.nm_model.specs.Learning.{learn}
use Rattle.nm_model.specs.Ledgers.{held, retire, with_cut}
use Rattle.nm_model.specs.Runs.{State}
use Rattle.nm_model.specs.Walks.{Entry}
use Rattle.nm_laws.proofs.Held.{held-retire_same, held-retire_other}
use Rattle.nm_laws.proofs.Learned.{learn_cut}
use Rattle.nm_laws.proofs.Retired.{layout_after}
use Rattle.nm_order.specs.Logs.{known_by}
use Rattle.nm_order.specs.Told.{OfEachEntry, CutsEnterTheQueue}
use Rattle.nm_order.proofs.LastEntries.{known_more, LastEntry, last_entry}
use Rattle.nm_order.proofs.ToldLaws.{lawful_before}

-- the ledgers of a worker have one place for each worker
ledgers_long : (L : Layout) (enough : 5 ≤ L.nodes) (w : ℕ) (log : List Entry) (entry : Entry)
    → LastEntry L w log entry → length (known_by L w log).ledgers ≡ L.workers
ledgers_long L enough w log entry last =
    let law = lawful_before L enough w log entry last in
    ap (λ (k : Knowledge). length k.ledgers) (sym last.told.knows)
    ∙ (law.1.holders.sizes w ∙ (ap (λ (s : State). s.layout.workers) last.told.is_ordered.leads
    ∙ ap (λ (M : Layout). M.workers) (layout_after L last.told.is_ordered.events)))

retired : (ls : List (Option Ledger)) (w o : ℕ) (ns : List NodeId) → w < length ls
    → held (retire ls w ns) o ≡ cond (o == w) (option_map (with_cut ns) (held ls o)) (held ls o)
retired ls w o ns inside = elim (ℕ_discrete o w) [
  | yes own ↦ rw own (held-retire_same ls w ns inside
      ∙ sym (cond-true (w == w) (option_map (with_cut ns) (held ls w)) (held ls w) (eq-eqb w w refl)))
  | no other ↦ held-retire_other ls w ns o other ∙ sym
      (cond-false (o == w) (option_map (with_cut ns) (held ls o)) (held ls o) (ne_eqb o w other))
]

pub cuts_enter : OfEachEntry CutsEnterTheQueue
cuts_enter L enough w log entry l a s p side keep ns is o =
    let long : length (known_by L w log).ledgers ≡ L.workers = ledgers_long L enough w log entry
    (last_entry L enough w log entry l) in
    let worker = l.worker in
    let becomes : known_by L w (log ++ entry ∷ []) ≡ learn w (known_by L w log) (Splice a side s p keep) (Cut ns) =
    known_more w _ log entry ∙ ap (λ (e : Entry). learn w (known_by L w log) e.0 e.1) is in
    ap (λ (k : Knowledge). held k.ledgers o) (becomes ∙ learn_cut w (known_by L w log) a side s p keep ns)
    ∙ retired (known_by L w log).ledgers w o ns (omega (arith, long, worker))
