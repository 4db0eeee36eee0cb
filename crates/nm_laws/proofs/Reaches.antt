-- One more event leads on from a state that events lead to.
use Rattle.std.proofs.Common.{◌≡◌, ℕ, List, [], ◌∷◌, ◌++◌, refl, ap, subst, ◌∙◌, ◌+◌, ◌<◌, length, take, get_or}
use Rattle.std.specs.Prelude.{Option, Some, None}
use Rattle.nm_edge.specs.Layouts.{Layout, IsLayout}
use Rattle.nm_model.specs.declared.event.Event.{Event}
use Rattle.nm_model.specs.declared.reply.Refused.{Refused}
use Rattle.nm_model.specs.declared.trace.Turn.{Turn}
use Rattle.nm_model.specs.Runs.{State, start, refused, applied, unless_refused, next, outcome, after, trace}

-- a state to which some events lead from the opening of some layout
pub record IsReachable (s : State) : Type 0 where
  pub fits : IsLayout s.layout
  pub events : List (ℕ × Event)
  pub leads : after (start s.layout) events ≡ s

pub after-append : (s : State) (ts us : List (ℕ × Event)) → after s (ts ++ us) ≡ after (after s ts) us
unfolding after
after-append s [] us = refl
after-append s (t ∷ ts) us = after-append (next s t) ts us

pub trace-append : (s : State) (ts us : List (ℕ × Event)) → trace s (ts ++ us) ≡ trace s ts ++ trace (after s ts) us
unfolding after trace
trace-append s [] us = refl
trace-append s (t ∷ ts) us = ap (λ (rest : List Turn). record { worker = t.0; event = t.1; outcome = outcome s t }
    ∷ rest) (trace-append (next s t) ts us)

-- each event leaves the layout
next-layout : (s : State) (t : ℕ × Event) → (next s t).layout ≡ s.layout
unfolding next applied
next-layout s t = go (refused s t.0 t.1)
  where
    go : (r : Option Refused) → (unless_refused r s (applied s t.0 t.1)).layout ≡ s.layout
    go None = refl
    go (Some r) = refl

-- one turn more
pub reachable_next : (s : State) (t : ℕ × Event) → IsReachable s → IsReachable (next s t)
unfolding after
reachable_next s t r =
    let kept = next-layout s t in
    record {
      fits = rw kept r.fits;
      events = r.events ++ t ∷ [];
      leads = ap (λ (L : Layout). after (start L) (r.events ++ t ∷ [])) kept
          ∙ after-append (start s.layout) r.events (t ∷ []) ∙ ap (λ (x : State). next x t) r.leads;
    }
