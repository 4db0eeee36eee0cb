use Rattle.std.proofs.Common.{arith}
use Rattle.nm_core.proofs.FewPlaces.{few_places}
use Rattle.nm_core.proofs.machine.Machine.places.Goals as goal

pub overflow_cast-pool : goal.overflow_cast-pool
overflow_cast-pool c = let few = few_places _ _ c.self.view_is c.requires.fits c.requires.sum in
    let most = few.pool in let is = c.pooled-pool.ensures in omega arith

pub private-private-requires : goal.private-private-requires
private-private-requires c = let few = few_places _ _ c.self.view_is c.requires.fits c.requires.sum in few.private

pub overflow_cast-private : goal.overflow_cast-private
overflow_cast-private c = let few = few_places _ _ c.self.view_is c.requires.fits c.requires.sum in
    let most = few.private in let is = c.private-private.ensures in omega arith

pub queued-queued-requires : goal.queued-queued-requires
queued-queued-requires c = let few = few_places _ _ c.self.view_is c.requires.fits c.requires.sum in few.queued

pub overflow_cast-queued : goal.overflow_cast-queued
overflow_cast-queued c = let few = few_places _ _ c.self.view_is c.requires.fits c.requires.sum in
    let most = few.queued in let is = c.queued-queued.ensures in omega arith
