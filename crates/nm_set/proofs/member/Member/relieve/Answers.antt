use Rattle.std.proofs.Common.{◌∙◌, subst, sym, arith}
use Rattle.std.specs.Prelude.{Option, ℕ}
use Rattle.nm_steps.specs.Steps.{TreeView}
use Rattle.nm_tree.specs.Calls.{LeavesAdvance, LeavesCollect}
use Rattle.nm_set.specs.Rounds.{IsRelieved}
use Rattle.nm_set.proofs.Emptied.{AreSeen, Relieves, is_relieved}
use Rattle.nm_set.proofs.member.Member.relieve.Goals as goal

pub returns-clause-did : goal.returns-clause-did
returns-clause-did g c =
    let b = c.args.self.now.tree in
    let w = c.args.self.now.worker in
    let once = c.advance-first.new.self.worker in
    let twice = c.advance-second.new.self.worker in
    let z = c.free.new.self.worker in
    let again = subst (λ (d : TreeView). LeavesAdvance d.layout.workers once twice c.advance-second.result)
    c.advance-first.ensures.tree c.advance-second.ensures.says in
    let collects = subst (λ (d : TreeView). LeavesCollect d.layout.nodes twice z c.free.result)
    (c.advance-second.ensures.tree ∙ c.advance-first.ensures.tree) c.free.ensures.says in
    let r : Relieves b w z = record {
      moved = c.advance-first.result;
      once = once;
      moves = c.advance-first.ensures.says;
      moved_again = c.advance-second.result;
      twice = twice;
      moves_again = again;
      collected = c.free.result;
      collects = collects;
    } in
    let seen : AreSeen r = record {
      enough = let least = c.know_run.ensures.fits.least in omega (arith, least);
      first = c.know_run.ensures.seen;
      second = c.know_run-2.ensures.seen;
      third = c.know_run-3.ensures.seen;
      last = c.know_run-4.ensures.seen;
      between = c.know_run.ensures.between;
      between_again = c.know_run-2.ensures.between;
    } in
    subst (λ (behind : Option ℕ). IsRelieved b.layout w z behind) (sym c.behind_of.ensures)
    (is_relieved b w z r seen c.requires.none c.requires.free)
