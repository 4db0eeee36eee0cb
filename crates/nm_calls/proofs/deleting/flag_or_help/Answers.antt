use Rattle.std.proofs.Common.{inr, refl}
use Rattle.nm_walks.specs.Telling.{Tells}
use Rattle.nm_walks.proofs.GoingOn.{goes_then}
use Rattle.nm_walks.proofs.KeptLedgers.{holds_on, holds_so}
use Rattle.nm_walks.proofs.Standing.{at_kept}
use Rattle.nm_calls.proofs.Adding.{flag_counts}
use Rattle.nm_calls.proofs.AddingDeletes.{flag_lost_adds, flag_won_adds}
use Rattle.nm_calls.proofs.deleting.flag_or_help.Goals as goal

pub help-requires-clause-at : goal.help-requires-clause-at
help-requires-clause-at c =
    at_kept (Tells c.args.pass.now) (Tells c.flag_at.new.pass) (λ fact holds. c.flag_at.ensures.on.keeps fact holds)
    c.args.end.now.seek_record c.args.workspace.now.chain.items c.requires.at

pub help-requires-clause-kept : goal.help-requires-clause-kept
help-requires-clause-kept c =
    let lost = c.in-Err.ensures.lost in
    holds_on c.args.pass.now c.flag_at.new.pass _ c.flag_at.ensures.on.same c.flag_at.ensures.only.ledgers
    (flag_lost_adds c.args.end.now lost.birth c.in-Err.found c.args.pass.now.view.log c.flag_at.new.pass.view.log
    lost.part) c.requires.kept

-- ---- the flag is won

pub returns-in-Ok-clause-part : goal.returns-in-Ok-clause-part
returns-in-Ok-clause-part c = λ before walk same. record {
  ended = c.args.pass.now.view.log;
  walk = walk;
  same = same;
  entries = c.in-Ok.ensures.won.part;
}

pub returns-in-Ok-clause-shows : goal.returns-in-Ok-clause-shows
returns-in-Ok-clause-shows c =
    let w = c.in-Ok.ensures.won in (
      w.flagged,
      w.edge,
      w.born,
      at_kept (Tells c.args.pass.now) (Tells c.flag_at.new.pass)
          (λ fact holds. c.flag_at.ensures.on.keeps fact holds) c.args.end.now.seek_record
          c.args.workspace.now.chain.items c.requires.at,
      c.requires.few,
    )

pub returns-in-Ok-clause-won : goal.returns-in-Ok-clause-won
returns-in-Ok-clause-won c = (c.in-Ok.birth, c.in-Ok.ensures.won)

pub returns-in-Ok-clause-kept : goal.returns-in-Ok-clause-kept
returns-in-Ok-clause-kept c =
    let p = c.args.pass.now in
    let q = c.flag_at.new.pass in
    holds_so p q c.args.held.now _ c.flag_at.ensures.on.same c.flag_at.ensures.only.ledgers
    (flag_counts _ _ p.view.log q.view.log (flag_won_adds c.args.end.now c.in-Ok.birth p.view.log q.view.log
    c.in-Ok.ensures.won.part) c.saturating_add-held.ensures c.requires.kept.counted) refl c.requires.kept

-- ---- the flag is lost

pub returns-in-Err-clause-on : goal.returns-in-Err-clause-on
returns-in-Err-clause-on c = goes_then c.args.pass.now c.flag_at.new.pass c.help.new.pass c.flag_at.ensures.on
    c.help.ensures.on

pub returns-in-Err-clause-part : goal.returns-in-Err-clause-part
returns-in-Err-clause-part c = λ before walk same.
    let w = c.in-Err.ensures.lost in
    let r = c.args.end.now in
    rw c.help.ensures.chain (inr (
      r,
      w.birth,
      c.in-Err.found,
      c.flag_at.new.pass.view.log,
      record { ended = c.args.pass.now.view.log; walk = walk; same = same; entries = w.part },
      c.help.ensures.part,
    ))
