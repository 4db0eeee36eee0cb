use Rattle.std.proofs.Common.{◌*◌, ◌∙◌, ℕ, List, ap, inl, inr, subst, sym, arith}
use Rattle.std.specs.Prelude.{All, take}
use Rattle.nm_walks.specs.Bounds.{reach}
use Rattle.nm_calls.specs.declared.scanning.Progress.{Progress}
use Rattle.nm_calls.specs.declared.map_scanning.MapEntry.{MapEntry}
use Rattle.nm_calls.specs.MapScans.{IsLeafOf, keys_in}
use Rattle.nm_calls.specs.Scans.{leg_looks}
use Rattle.nm_walks.proofs.GoingOn.{goes_then}
use Rattle.nm_calls.proofs.PlainLooks.{looks_in, looks_then}
use Rattle.nm_calls.proofs.ScanLooks.{not_both, parts_there, range_still, router_still, shown_so, spent, spent_still}
use Rattle.nm_calls.proofs.ScannedEntries.{leaves_more, leaves_still}
use Rattle.nm_calls.proofs.scanning.turn.Goals as goal
use Rattle.nm_calls.proofs.scanning.turn.Goals.{then-progress-eq0-via-then-progress-eq0, then-progress-eq0-via-else-progress-eq0+then-not-is_before}

pub returns-then-progress-eq0-clause-told : goal.returns-then-progress-eq0-clause-told
returns-then-progress-eq0-clause-told c start lies shown =
    let wrote = c.write.ensures.wrote c.if-not-write.false in
    shown_so c.args.plan.now.side c.args.plan.now.end 0 c.args.pass.now c.args.stretch.now c.requires.walks
    c.requires.ended start c.args.progress.now.at c.write.new.progress.at
    (take c.args.progress.now.count (keys_in c.args.plan.now.what c.args.out.now c.args.entries.now))
    (take c.write.new.progress.count (keys_in c.args.plan.now.what c.write.new.out c.write.new.entries))
    c.requires.at wrote.0 lies wrote.1 shown

pub returns-clause-looks : goal.returns-clause-looks
returns-clause-looks c =
    let wrote = (c.write.ensures.wrote c.if-not-write.false).2 in
    let spare = c.if-progress-eq0.false in
    let p = c.args.pass.now in
    let q = c.next_stretch-begun.new.pass in
    let z = c.walk_down-walked.new.pass in (
      1,
      omega (arith, wrote, spare),
      λ _. omega (arith, wrote),
      looks_in
          (1 * leg_looks (reach c.args.shared.now.layout)) p.view.log z.view.log (omega arith)
          (looks_then p.view.log q.view.log z.view.log c.next_stretch-begun.ensures.looks
          c.walk_down-walked.ensures.looks),
    )

pub returns-clause-told : goal.returns-clause-told
returns-clause-told c start lies shown =
    let wrote = c.write.ensures.wrote c.if-not-write.false in
    let side = c.args.plan.now.side in
    let p = c.args.pass.now in
    let q = c.next_stretch-begun.new.pass in
    let z = c.walk_down-walked.new.pass in
    let keys = take c.write.new.progress.count (keys_in c.args.plan.now.what c.write.new.out c.write.new.entries) in
    range_still side q z c.walk_down-walked.ensures.looks start c.write.new.progress.at keys
    (range_still side p q c.next_stretch-begun.ensures.looks start c.write.new.progress.at keys
    (shown_so side c.args.plan.now.end 0 p c.args.stretch.now c.requires.walks c.requires.ended start
    c.args.progress.now.at c.write.new.progress.at
    (take c.args.progress.now.count (keys_in c.args.plan.now.what c.args.out.now c.args.entries.now)) keys
    c.requires.at wrote.0 lies wrote.1 shown))

pub returns-clause-on : goal.returns-clause-on
returns-clause-on c = goes_then c.args.pass.now c.next_stretch-begun.new.pass c.walk_down-walked.new.pass
    c.next_stretch-begun.ensures.on c.walk_down-walked.ensures.on

-- ---- the leaves with the keys

pub returns-then-not-write-clause-leaves : goal.returns-then-not-write-clause-leaves
returns-then-not-write-clause-leaves c what all =
    let full = c.write.ensures.full c.if-not-write.true in
    subst (λ (n : ℕ). All (IsLeafOf c.args.pass.now) (take n c.write.new.entries))
    (sym (ap (λ (x : Progress). x.count) full.0))
    (subst (λ (es : List MapEntry). All (IsLeafOf c.args.pass.now) (take c.args.progress.now.count es)) (sym full.2)
    all)

pub returns-then-progress-eq0-clause-leaves : goal.returns-then-progress-eq0-clause-leaves
returns-then-progress-eq0-clause-leaves c what all =
    leaves_more c.args.plan.now.side c.args.plan.now.end 0 c.args.pass.now c.args.stretch.now c.requires.walks
    c.requires.ended c.args.progress.now.leaf (c.requires.hit what) _ _
    (c.write.ensures.slots c.if-not-write.false what) all

pub returns-clause-leaves : goal.returns-clause-leaves
returns-clause-leaves c what all =
    let p = c.args.pass.now in
    let q = c.next_stretch-begun.new.pass in
    let z = c.walk_down-walked.new.pass in
    leaves_still p z (looks_then p.view.log q.view.log z.view.log c.next_stretch-begun.ensures.looks
    c.walk_down-walked.ensures.looks) _
    (leaves_more c.args.plan.now.side c.args.plan.now.end 0 p c.args.stretch.now c.requires.walks c.requires.ended
    c.args.progress.now.leaf (c.requires.hit what) _ _ (c.write.ensures.slots c.if-not-write.false what) all)

-- ---- why a scan ends early

pub returns-then-not-write-clause-lost : goal.returns-then-not-write-clause-lost
returns-then-not-write-clause-lost c past = inl (ap (λ (x : Progress). x.spare)
    (c.write.ensures.full c.if-not-write.true).0)

pub returns-then-not-write-clause-stops : goal.returns-then-not-write-clause-stops
returns-then-not-write-clause-stops c ended past = let full = c.write.ensures.full c.if-not-write.true in
    inl (ap (λ (x : Progress). x.count) full.0 ∙ sym full.3)

pub returns-then-progress-eq0-clause-lost : goal.returns-then-progress-eq0-clause-lost
returns-then-progress-eq0-clause-lost c past =
    let wrote = c.write.ensures.wrote c.if-not-write.false in
    let old = c.args.progress.now in
    let new = c.write.new.progress in
    let room = c.requires.room.0 in
    let fits = c.requires.room.1 in
    let room' = c.write.ensures.count.0 in
    let length' = c.write.ensures.count.1 in
    spent c.args.plan.now.side c.args.plan.now.end 0 c.args.pass.now c.args.stretch.now c.requires.walks
    c.requires.ended old.at new.at old.count new.count old.spare new.spare
    (keys_in c.args.plan.now.what c.args.out.now c.args.entries.now)
    (keys_in c.args.plan.now.what c.write.new.out c.write.new.entries) c.requires.at wrote.0
    (omega (arith, room, fits)) (omega (arith, room, room', length')) wrote.1 wrote.2 past

pub returns-then-progress-eq0-clause-stops : goal.returns-then-progress-eq0-clause-stops
returns-then-progress-eq0-clause-stops c ended past = elim c.then-progress-eq0.branch [
  | then-progress-eq0-via-then-progress-eq0 v ↦ inr (inl v.if-progress-eq0.true)
  | then-progress-eq0-via-else-progress-eq0+then-not-is_before v ↦ absurd
      (not_both c.args.plan.now.side c.write.new.progress.at c.args.plan.now.end past
      (v.is_before.ensures.no v.if-not-is_before.true))
]

pub returns-clause-parts : goal.returns-clause-parts
returns-clause-parts c going =
    let wrote = c.write.ensures.wrote c.if-not-write.false in
    let p = c.args.pass.now in
    let q = c.next_stretch-begun.new.pass in
    let z = c.walk_down-walked.new.pass in
    let at = c.write.new.progress.at in
    let past = c.is_before.ensures.yes c.if-not-is_before.false in (
      router_still p z (looks_then p.view.log q.view.log z.view.log c.next_stretch-begun.ensures.looks
          c.walk_down-walked.ensures.looks) at (parts_there c.args.plan.now.side c.args.plan.now.end 0 p
          c.args.stretch.now c.requires.walks at wrote.0 past),
      past,
    )

pub returns-clause-lost : goal.returns-clause-lost
returns-clause-lost c past =
    let wrote = c.write.ensures.wrote c.if-not-write.false in
    let old = c.args.progress.now in
    let new = c.write.new.progress in
    let p = c.args.pass.now in
    let q = c.next_stretch-begun.new.pass in
    let z = c.walk_down-walked.new.pass in
    let room = c.requires.room.0 in
    let fits = c.requires.room.1 in
    let room' = c.write.ensures.count.0 in
    let length' = c.write.ensures.count.1 in
    spent_still p z (looks_then p.view.log q.view.log z.view.log c.next_stretch-begun.ensures.looks
    c.walk_down-walked.ensures.looks) old.at old.spare new.spare
    (spent c.args.plan.now.side c.args.plan.now.end 0 p c.args.stretch.now c.requires.walks c.requires.ended old.at
    new.at old.count new.count old.spare new.spare (keys_in c.args.plan.now.what c.args.out.now c.args.entries.now)
    (keys_in c.args.plan.now.what c.write.new.out c.write.new.entries) c.requires.at wrote.0
    (omega (arith, room, fits)) (omega (arith, room, room', length')) wrote.1 wrote.2 past)

pub returns-clause-stops : goal.returns-clause-stops
returns-clause-stops c ended past =
    let did = c.walk_down-walked.ensures in
    let walked = c.walk_down-walked.result in
    inr (inr (walked.low, did.long (c.is_null-is_ended.ensures.no ended) walked.low (omega arith) did.walks.wide))
