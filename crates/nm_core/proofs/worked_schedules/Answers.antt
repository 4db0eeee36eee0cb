-- Each worked schedule, by computation.
use Rattle.std.proofs.Common.{refl}
use Rattle.nm_model.specs.Reports.{report, ordered_report}
use Rattle.nm_model.specs.Runs.{trace, after, outcome, next, refused, applied}
use Rattle.nm_model.specs.Ordered.{trace_in, after_in, outcome_in, next_in, refused_in, applied_in}
use Rattle.nm_model.specs.Searches.{searched}
use Rattle.nm_model.specs.Step.{refusal, reply, write}
use Rattle.nm_model.specs.Learning.{learn}
use Rattle.nm_core.proofs.worked_schedules.Goals as goal

pub returns-clause-held_back : goal.returns-clause-held_back
unfolding report trace after outcome next refused applied refusal reply write learn
returns-clause-held_back c = refl

pub returns-clause-two_scanners : goal.returns-clause-two_scanners
unfolding report trace after outcome next refused applied refusal reply write learn
returns-clause-two_scanners c = refl

pub returns-clause-stale_announcement : goal.returns-clause-stale_announcement
unfolding report trace after outcome next refused applied refusal reply write learn
returns-clause-stale_announcement c = refl

pub returns-clause-lost_pin : goal.returns-clause-lost_pin
unfolding report trace after outcome next refused applied refusal reply write learn
returns-clause-lost_pin c = refl

pub returns-clause-words_and_places : goal.returns-clause-words_and_places
unfolding report trace after outcome next refused applied refusal reply write learn
returns-clause-words_and_places c = refl

pub returns-clause-long_chain : goal.returns-clause-long_chain
unfolding report trace after outcome next refused applied refusal reply write learn
returns-clause-long_chain c = refl

pub returns-clause-both_flagged : goal.returns-clause-both_flagged
unfolding report trace after outcome next refused applied refusal reply write learn
returns-clause-both_flagged c = refl

pub returns-clause-helping : goal.returns-clause-helping
unfolding report trace after outcome next refused applied refusal reply write learn
returns-clause-helping c = refl

pub returns-clause-order_and_age : goal.returns-clause-order_and_age
unfolding report trace after outcome next refused applied refusal reply write learn
returns-clause-order_and_age c = refl

pub returns-clause-refusals : goal.returns-clause-refusals
unfolding report trace after outcome next refused applied refusal reply write learn
returns-clause-refusals c = refl

pub returns-clause-joining : goal.returns-clause-joining
unfolding report trace after outcome next refused applied refusal reply write learn
returns-clause-joining c = refl

pub returns-clause-insert_in_order : goal.returns-clause-insert_in_order
unfolding ordered_report trace_in after_in outcome_in next_in refused_in applied_in searched refused applied refusal
    reply write learn
returns-clause-insert_in_order c = refl

pub returns-clause-delete_in_order : goal.returns-clause-delete_in_order
unfolding ordered_report trace_in after_in outcome_in next_in refused_in applied_in searched refused applied refusal
    reply write learn
returns-clause-delete_in_order c = refl

pub returns-clause-parent_cut : goal.returns-clause-parent_cut
unfolding ordered_report trace_in after_in outcome_in next_in refused_in applied_in searched refused applied refusal
    reply write learn
returns-clause-parent_cut c = refl
