use Rattle.nm_callers.proofs.ArenaReads.{reads, unpin_sees}
use Rattle.nm_callers.proofs.arena.read_object.Goals as goal

pub returns-clause-read : goal.returns-clause-read
returns-clause-read c =
    reads _ c.args.key c.pin.new.self.worker c.get_pinned-found.new.self.worker c.unpin-unpinned.new.self.worker
    c.args.objects.now c.get_pinned-found.result c.object_of-object.result c.object_of-object.ensures
    c.get_pinned-found.ensures.says
    (unpin_sees c.get_pinned-found.new.self.worker c.unpin-unpinned.new.self.worker c.unpin-unpinned.result
    c.unpin-unpinned.ensures.says)
