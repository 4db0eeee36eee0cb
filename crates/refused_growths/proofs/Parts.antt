-- Runs in two parts.
use Rattle.std.proofs.Common.{◌≡◌, ℕ, List, sym, ap, ◌∙◌}
use Rattle.std.specs.Prelude.{take, drop}
use Rattle.std.proofs.lemmas.List.{take-append-drop}
use Rattle.nm_model.specs.declared.event.Event.{Event}
use Rattle.nm_model.specs.Ordered.{Configuration, after_in}
use Rattle.nm_laws.proofs.Configurations.{after_in-append}

-- the first n events, and then the rest, leave what all of them leave
pub after_parts : (c : Configuration) (n : ℕ) (events : List (ℕ × Event))
    → after_in (after_in c (take n events)) (drop n events) ≡ after_in c events
after_parts c n events = sym (after_in-append c (take n events) (drop n events))
    ∙ ap (after_in c) (take-append-drop n events)

-- a core at its opening ran the first n events that it was given, and then the rest
pub ran_in_parts : (opening core between last : Configuration) (events given rest : List (ℕ × Event)) (n : ℕ)
    → core ≡ opening → given ≡ events → between ≡ after_in core (take n given) → rest ≡ drop n events
    → last ≡ after_in between rest
    → last ≡ after_in opening events
ran_in_parts opening core between last events given rest n opened listed done left ran =
    ran ∙ ap (after_in between) left
    ∙ ap (λ (c : Configuration). after_in c (drop n events))
    (done ∙ ap (λ (c : Configuration). after_in c (take n given)) opened
    ∙ ap (λ (ts : List (ℕ × Event)). after_in opening (take n ts)) listed)
    ∙ after_parts opening n events
