use Rattle.std.proofs.Common.{ap}
use Rattle.nm_steps.specs.Steps.{PassView}
use Rattle.nm_walks.proofs.Adding.{adds_then, adds_these, choice_adds}
use Rattle.nm_calls.proofs.Adding.{seeks_adds}
use Rattle.nm_walks.proofs.GoingOn.{goes_then, only_then}
use Rattle.nm_tests.proofs.Played.{pending_still}
use Rattle.nm_tests.proofs.passes.workers.tag_beside.Goals as goal

pub returns-in_default : goal.returns-in_default
returns-in_default c =
    let o = c.args.worker.now.pass in
    let p = c.seek.new.pass in
    let walk = seeks_adds c.args.shared.now.layout c.get.result o.view.log p.view.log c.seek.new.chain.items
    c.seek.result c.seek.ensures.walk in
    pending_still c.args.shared.now o p c.args.worker.now.held c.args.key c.args.leaf c.requires c.seek.ensures.on
    c.seek.ensures.only walk

pub returns-in_default-choose : goal.returns-in_default-choose
returns-in_default-choose c =
    let o = c.args.worker.now.pass in
    let p = c.seek.new.pass in
    let walk = seeks_adds c.args.shared.now.layout c.get.result o.view.log p.view.log c.seek.new.chain.items
    c.seek.result c.seek.ensures.walk in
    pending_still c.args.shared.now o c.choose.new.pass c.args.worker.now.held c.args.key c.args.leaf c.requires
    (goes_then o p c.choose.new.pass c.seek.ensures.on c.choose.ensures.on)
    (only_then o p c.choose.new.pass c.seek.ensures.only c.choose.ensures.only)
    (adds_then o.view.log p.view.log c.choose.new.pass.view.log walk
    (choice_adds c.in-Some.end.seek_record c.choose.result p.view.log c.choose.new.pass.view.log
    c.choose.ensures.looks))

pub returns : goal.returns
returns c =
    let o = c.args.worker.now.pass in
    let p = c.seek.new.pass in
    let walk = seeks_adds c.args.shared.now.layout c.get.result o.view.log p.view.log c.seek.new.chain.items
    c.seek.result c.seek.ensures.walk in
    pending_still c.args.shared.now o c.tag.new.pass c.args.worker.now.held c.args.key c.args.leaf c.requires
    (goes_then o p c.tag.new.pass c.seek.ensures.on
    (goes_then p c.choose.new.pass c.tag.new.pass c.choose.ensures.on c.tag.ensures.on))
    (only_then o p c.tag.new.pass c.seek.ensures.only
    (only_then p c.choose.new.pass c.tag.new.pass c.choose.ensures.only c.tag.ensures.only))
    (adds_then o.view.log p.view.log c.tag.new.pass.view.log walk
    (adds_then p.view.log c.choose.new.pass.view.log c.tag.new.pass.view.log
    (choice_adds c.in-Some.end.seek_record c.choose.result p.view.log c.choose.new.pass.view.log
    c.choose.ensures.looks) (adds_these _ c.choose.new.pass.view.log c.tag.new.pass.view.log
    (ap (λ (s : PassView). s.view.log) c.tag.ensures.step))))
