use Rattle.nm_serial.proofs.CrewLemmas.{present_first}
use Rattle.nm_serial.proofs.one_thread.left_of.Goals as goal

pub loop-place-preserved : goal.loop-place-preserved
loop-place-preserved c = present_first c.loop-place.workers.items c.put_left.new.workers.items _
    c.loop-place.place-iterator.rest.items c.next.new.self.rest.items c.in-Some.place c.in-Some.ensures.steps.0
    c.in_ok-put_left.ensures c.loop-place.invariant
