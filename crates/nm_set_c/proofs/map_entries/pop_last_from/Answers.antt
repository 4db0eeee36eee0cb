use Rattle.std.proofs.Common.{rules}
use Rattle.nm_set_c.specs.Owners.{HasDone}
use Rattle.nm_set_c.proofs.map_entries.pop_last_from.Goals as goal

pub returns : goal.returns
unfolding HasDone
returns c = record {
  tells = record {
    answer = c.pop_last_from-answer.result;
    told = c.tell_taken.ensures.told;
    written = c.tell_taken.ensures.written;
    going = search rules;
    tree = c.pop_last_from-answer.ensures.tree;
    says = c.pop_last_from-answer.ensures.says;
    there = c.pop_last_from-answer.new.taken;
    takes = c.pop_last_from-answer.ensures.takes;
    frees = c.pop_last_from-answer.ensures.frees;
    valued = c.write_value.ensures;
  };
}
