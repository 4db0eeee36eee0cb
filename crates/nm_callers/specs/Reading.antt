-- What a worker has read, by the turns that it has seen.
use Rattle.std.specs.Prelude.{◌≡◌, ◌≤◌, ℕ, false, List, ◌∷◌, ◌++◌, Contains, Ok}
use Rattle.nm_model.specs.Headline.{has_after, touched}
use Rattle.nm_model.specs.Memory.{opening}
use Rattle.nm_model.specs.declared.reply.Reply.{Reply}
use Rattle.nm_model.specs.declared.trace.Turn.{Turn}
use Rattle.nm_theorem.specs.EachRun.{ReadsTheNodeThatItWasTold}
use Rattle.nm_steps.specs.declared.view.View.{View}

-- about each node that the worker touched, except nodes 1 and 2, with which each walk begins, and
-- those that it held privately: the worker had learned of it under the pin that it had then, and
-- from that moment on the slot held the same node
abbrev pub ReadsWhatItWasTold : View → Type 0
ReadsWhatItWasTold v = (before rest : List Turn) (t : Turn) (r : Reply) (x : ℕ)
    → v.past ≡ before ++ t ∷ rest → t.worker ≡ v.number → t.outcome ≡ Ok r
    → Contains (touched t.event) x → 3 ≤ x
    → has_after (opening v.layout) v.number x false before ≡ false
    → ReadsTheNodeThatItWasTold v.layout v.number x before
