-- What a worker has read is what it was told of.
use Rattle.std.proofs.Common.{◌≡◌, ℕ, false, sym, subst}
use Rattle.nm_model.specs.Headline.{has_after}
use Rattle.nm_model.specs.Memory.{opening}
use Rattle.nm_steps.specs.declared.view.View.{View}
use Rattle.nm_theorem.specs.EachRun.{NobodyReadsAnotherNode, ReadsTheNodeThatItWasTold}
use Rattle.nm_tree.specs.Running.{HasSeenTurns}
use Rattle.nm_callers.specs.Reading.{ReadsWhatItWasTold}

pub reads_what_it_was_told : (v : View) → HasSeenTurns v → NobodyReadsAnotherNode → ReadsWhatItWasTold v
reads_what_it_was_told v seen nobody before rest t r x are own answer touches above free =
    subst (λ (w : ℕ). ReadsTheNodeThatItWasTold v.layout w x before) own
    (nobody v.layout v.past seen.headline before rest t r x are answer touches above
    (subst (λ (w : ℕ). has_after (opening v.layout) w x false before ≡ false) (sym own) free))
