use Rattle.std.proofs.Common.{rules}
use Rattle.nm_set_c.specs.Owners.{HasDone}
use Rattle.nm_set_c.proofs.map_entries.pop_last.Goals as goal

pub returns : goal.returns
unfolding HasDone
returns c = record {
  tells = record {
    answer = c.pop_last-answer.result;
    told = c.tell_taken.ensures.told;
    written = c.tell_taken.ensures.written;
    going = search rules;
    tree = c.pop_last-answer.ensures.tree;
    says = c.pop_last-answer.ensures.says;
    there = c.pop_last-answer.new.taken;
    takes = c.pop_last-answer.ensures.takes;
    frees = c.pop_last-answer.ensures.frees;
    valued = c.write_value.ensures;
  };
}
