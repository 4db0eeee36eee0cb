-- What every run keeps holds of every state that can be reached, and runs lead from such states to
-- such states.
use Rattle.std.proofs.Common.{◌≡◌, ℕ, List, ◌++◌, refl, sym, ap, subst, ◌∙◌, arith}
use Rattle.nm_edge.specs.Layouts.{Layout}
use Rattle.nm_edge.specs.declared.node.NodeId.{NodeId}
use Rattle.nm_model.specs.declared.event.Event.{Event}
use Rattle.nm_model.specs.Runs.{State, start, after, trace}
use Rattle.nm_laws.proofs.Reaches.{IsReachable}
use Rattle.nm_model.specs.Laws.{OfEachState, RetiredGrowsByTheCuts, cuts_of}
use Rattle.nm_laws.proofs.Steps.{by_steps}
use Rattle.nm_laws.proofs.Reaches.{after-append}
use Rattle.nm_laws.proofs.Lawful.{IsLawful, lawful}
use Rattle.nm_laws.proofs.Origins.{ledger_at, cut_at, Manned, the_ledger, over_runs}
use Rattle.nm_laws.proofs.Retired.{retired_in, retired_step, same_layout}

pub of_reachable : (P : State → Type 0) → OfEachState P → (s : State) → IsReachable s → P s
of_reachable P law s r = subst P r.leads (law s.layout (let enough = r.fits.least in omega arith) r.events)

pub layout_kept : (s : State) (ts : List (ℕ × Event)) → (after s ts).layout ≡ s.layout
layout_kept s ts = by_steps (λ t. t.layout ≡ s.layout) (λ t w e is _. same_layout t w e ∙ is) ts s refl

pub reachable_after : (s : State) → IsReachable s → (ts : List (ℕ × Event)) → IsReachable (after s ts)
reachable_after s r ts = record {
  fits = rw (layout_kept s ts) r.fits;
  events = r.events ++ ts;
  leads = ap (λ (L : Layout). after (start L) (r.events ++ ts)) (layout_kept s ts)
      ∙ (after-append (start s.layout) r.events ts ∙ ap (λ (t : State). after t ts) r.leads);
}

-- ---- what was retired, over a run from any state

grown : (s : State) → IsLawful s → RetiredGrowsByTheCuts s
grown s k ts w v o l m is is' =
    let now : Manned s = record { staffed = k.law.staffed; holder = k.holder; holders = k.law.holders } in
    let run = over_runs (λ o x told. retired_in x ≡ told)
    (λ s t o before after told step p. retired_step s t o before after step
    ∙ ap (λ (ns : List NodeId). ns ++ cut_at s t o) p)
    s now ts (λ o. retired_in (ledger_at s k.holder o)) (λ o. refl) in
    sym (ap retired_in (the_ledger (after s ts) run.0 v o m is'))
    ∙ (run.1 o ∙ ap (λ (ns : List NodeId). ns ++ cuts_of o (trace s ts)) (ap retired_in (the_ledger s now w o l is)))

pub retired_grows : OfEachState RetiredGrowsByTheCuts
retired_grows L enough turns = grown (after (start L) turns) (lawful L enough turns)
