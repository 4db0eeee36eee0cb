-- A slot that is reached has a greater birth than each node of it that was cut.
use Rattle.std.proofs.Common.{◌≡◌, ℕ, ◌<◌, inl, inr, Bool, List, map, sym, ap, subst, ◌∙◌}
use Rattle.std.specs.Prelude.{Some, slice_get}
use Rattle.std.proofs.lemmas.Bool.{cases_lt}
use Rattle.std.proofs.lemmas.Option.{none-some, slice_get-get_or}
use Rattle.nm_edge.specs.Layouts.{Layout, IsLayout}
use Rattle.nm_edge.specs.declared.node.NodeId.{NodeId}
use Rattle.nm_model.specs.declared.event.Event.{Event}
use Rattle.nm_model.specs.declared.trace.Turn.{Turn}
use Rattle.nm_model.specs.Memory.{Memory, node}
use Rattle.nm_model.specs.Paths.{Reached}
use Rattle.nm_model.specs.Runs.{State, after}
use Rattle.nm_model.specs.Ordered.{opening_of, after_in, trace_in, accepted, turn_of}
use Rattle.nm_laws.proofs.Configurations.{ordered_runs, opening_state}
use Rattle.nm_laws.proofs.Once.{IsSound, sound, sound_younger}
use Rattle.nm_model.specs.Headline.{cuts_of, words_after, WhatIsReachedIsYounger}
use Rattle.nm_theorem.proofs.Runs.{enough_of}
use Rattle.nm_theorem.proofs.WrittenWords.{run_words}
use Rattle.nm_theorem.proofs.FreedOfRuns.{Holds, holds, retired_is, past_none}

module _ (L : Layout) (fits : IsLayout L) (b : Bool) (ts : List (ℕ × Event)) where
  abbrev turns : List Turn
  turns = trace_in (opening_of L b) ts

  abbrev end : State
  end = (after_in (opening_of L b) ts).state

  is_sound : IsSound end
  is_sound = subst IsSound (sym ((ordered_runs (opening_of L b) ts).0
      ∙ ap (λ (s : State). after s (map turn_of (accepted turns))) (opening_state L b)))
      (sound L (enough_of L fits) (map turn_of (accepted turns)))

  same_words : words_after L turns ≡ end.memory
  same_words = run_words L fits b ts

  pub reached_are_younger : WhatIsReachedIsYounger L (trace_in (opening_of L b) ts)
  reached_are_younger w n there reached = elim (cases_lt w L.workers) [
    | inr past ↦ absurd (none-some n (ap (λ (ns : List NodeId). slice_get ns there.0)
        (sym (past_none L fits b ts w past)) ∙ found))
    | inl below ↦ by (holds L fits b ts w below)
  ]
    where
      found : slice_get (cuts_of w turns) there.0 ≡ Some n
      found = slice_get-get_or (cuts_of w turns) there.0 n there.1 ∙ ap (λ (m : NodeId). Some m) there.2

      by : Holds L fits b ts w → n.birth < (node (words_after L turns) n.slot).birth
      by a = subst (λ (m : Memory). n.birth < (node m n.slot).birth) (sym same_words)
          (sound_younger end is_sound a.holder w there.0 a.ledger n a.is_held
          (ap (λ (ns : List NodeId). slice_get ns there.0) (retired_is L fits b ts a.holder w a.ledger a.is_held)
          ∙ found) (subst (λ (m : Memory). Reached m n.slot) same_words reached))
