use Rattle.std.proofs.Common.{refl}
use Rattle.nm_shared.proofs.Borrowed.{back_after, kept_itself}
use Rattle.map_tests.proofs.shared.attach_and_detach.Goals as goal

pub detach-requires : goal.detach-requires
detach-requires c = record {
  back = back_after c.args.set.now c.args.caller _ _ _ c.in-Ok.attached.loan refl c.in-Ok.ensures.lent refl
      (kept_itself c.in-Ok.attached.member.worker c.in-Ok.attached.member.worker refl);
}
