-- What a pass's log is after a step: a part of a run, since it does not end with a join.
use Rattle.std.proofs.Common.{◌≡◌, Bool, true, false, [], ◌∷◌, ◌++◌, sym, ap, ◌∙◌, arith}
use Rattle.nm_model.specs.declared.event.Event.{Event}
use Rattle.nm_model.specs.declared.event.Event.TheVariants.{Join}
use Rattle.nm_model.specs.declared.reply.Reply.{Reply}
use Rattle.nm_order.specs.Hands.{AreApart}
use Rattle.nm_order.specs.Logs.{part_of}
use Rattle.nm_order.proofs.HeldSlots.{hands_are_apart}
use Rattle.nm_steps.specs.declared.view.View.{View}
use Rattle.nm_steps.specs.Rules.{knowledge}
use Rattle.nm_steps.specs.Steps.{PassView, IsInRun, IsOfRun, HasSeen}

-- a log whose run has been seen is of a run
pub run_of_seen : (v : View) → HasSeen v → IsOfRun v.layout v.number v.log
run_of_seen v seen = record {
  is_part = record {
    worker = seen.worker;
    turns = seen.events;
    keys = seen.keys;
    is_part = ap (part_of v.number) (sym seen.are) ∙ seen.is_part;
  };
  here = seen.here;
}

abbrev pub is_join : Event → Bool
is_join (Join v) = true
is_join _ = false

-- what every pass tells of its log
abbrev pub TellsRun : PassView → Type 0
TellsRun p = IsOfRun p.view.layout p.view.number p.view.log

pub run_after : (p q : PassView) (e : Event) (r : Reply) → q.view.log ≡ p.view.log ++ (e, r) ∷ [] → is_join e ≡ false
    → TellsRun q → IsOfRun q.view.layout q.view.number q.view.log
run_after p q e r step other run = run

-- the hands of a pass in a run are apart
pub apart_in_run : (p : PassView) → IsInRun p → AreApart p.view.layout (knowledge p.view)
apart_in_run p run = hands_are_apart p.view.layout (let least = run.fits.least in omega arith) p.view.number
    p.view.log run.run.is_part
