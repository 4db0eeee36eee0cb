use Rattle.nm_steps.proofs.PackedEvents.{each_event_touches_one_word, each_turn_changes_one_word}
use Rattle.nm_steps.proofs.PackedReplies.{each_reply_is_told}
use Rattle.nm_steps.proofs.words.events_touch_one_word.Goals as goal

pub returns-clause-touched : goal.returns-clause-touched
returns-clause-touched c = each_event_touches_one_word

pub returns-clause-most : goal.returns-clause-most
returns-clause-most c = each_turn_changes_one_word

pub returns-clause-replies : goal.returns-clause-replies
returns-clause-replies c = each_reply_is_told
