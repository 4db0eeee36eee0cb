use Rattle.std.proofs.Common.{◌+◌, ◌-◌, ◌<◌, sym, arith}
use Rattle.nm_limbo.proofs.Queues.{front_at, pop_within, pop_last, pop_last_requires, queue_balanced}
use Rattle.nm_limbo.proofs.queue.BlockQueue.pop.Goals as goal
use Rattle.nm_limbo.proofs.queue.BlockQueue.pop.Goals.{then-self-eq-BLOCK_LEN, else-self-eq-BLOCK_LEN}

pub read-item-requires : goal.read-item-requires
read-item-requires g c =
    let q = c.self.inside in
    let at = front_at q.used q.empty q.popped q.len q.alloc c.args.self.now c.self.invariant (omega arith)
    c.self.view_is in (at.0, at.1)

pub take_block-requires : goal.take_block-requires
take_block-requires g c =
    let q = c.self.inside in let read = c.read-item in let now = c.args.self.now in
    pop_last_requires q.used q.empty q.popped q.len q.alloc now now read.result read.new.self c.self.invariant
    (omega arith) c.self.view_is read.ensures.item
    (omega (arith, c.if-self-eq-BLOCK_LEN.true)) read.ensures.list

pub invariant_of-self : goal.invariant_of-self
invariant_of-self g c =
    let q = c.self.inside in let read = c.read-item in let moved = c.take_block in let now = c.args.self.now in
    (pop_last q.used q.empty q.popped q.len q.alloc now now read.result read.new.self moved.new.from moved.new.self
    c.self.invariant (omega arith) c.self.view_is read.ensures.item
    (omega (arith, c.if-self-eq-BLOCK_LEN.true)) read.ensures.list moved.ensures.from moved.ensures.list).0

pub invariant_of-self-else-self-eq-BLOCK_LEN : goal.invariant_of-self-else-self-eq-BLOCK_LEN
invariant_of-self-else-self-eq-BLOCK_LEN g c =
    let q = c.self.inside in let read = c.read-item in let now = c.args.self.now in
    (pop_within q.used q.empty q.popped q.len q.alloc now now read.result read.new.self c.self.invariant
    (omega arith) c.self.view_is read.ensures.item
    (omega (arith, c.if-self-eq-BLOCK_LEN.false, c.self.invariant.1.front)) read.ensures.list).0

pub returns : goal.returns
returns g c =
    let q = c.self.inside in let read = c.read-item in let now = c.args.self.now in
    let new = c.if-self-eq-BLOCK_LEN.self in let some : 0 < q.len = omega arith in
    elim c.if-self-eq-BLOCK_LEN.branch [
      | then-self-eq-BLOCK_LEN w ↦
          let moved = w.take_block in
          let out = pop_last q.used q.empty q.popped q.len q.alloc now new read.result read.new.self moved.new.from
          moved.new.self c.self.invariant some c.self.view_is read.ensures.item
          (omega (arith, w.if-self-eq-BLOCK_LEN.true)) read.ensures.list moved.ensures.from moved.ensures.list in
          record {
            popped = out.1 w.self-is;
            balanced = queue_balanced moved.new.from moved.new.self 0 (q.len - 1)
                q.alloc new out.0 (sym w.self-is);
          }
      | else-self-eq-BLOCK_LEN w ↦
          let out = pop_within q.used q.empty q.popped q.len q.alloc now new read.result read.new.self
          c.self.invariant some c.self.view_is read.ensures.item
          (omega (arith, w.if-self-eq-BLOCK_LEN.false, c.self.invariant.1.front)) read.ensures.list in
          record {
            popped = out.1 w.self-is;
            balanced = queue_balanced read.new.self q.empty (q.popped + 1)
                (q.len - 1) q.alloc new out.0 (sym w.self-is);
          }
    ]
