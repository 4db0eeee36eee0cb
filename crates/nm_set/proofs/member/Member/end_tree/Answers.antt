use Rattle.std.proofs.Common.{◌∙◌, List, subst, sym}
use Rattle.nm_steps.specs.Values.{HasValues}
use Rattle.nm_tree.specs.declared.closing.Ended.{Ended}
use Rattle.nm_tree.specs.declared.closing.Report.{Report}
use Rattle.nm_tree.specs.Closing.{IsCloseReason, SaysClosed}
use Rattle.nm_tree.specs.MapReports.{EndsMap}
use Rattle.nm_tree.specs.Workers.{WorkerView}
use Rattle.nm_set.specs.declared.home.Site.{Site}
use Rattle.nm_set.specs.Seats.{MemberView, SetView, site_in}
use Rattle.nm_set.specs.Ends.{set_of}
use Rattle.nm_set.proofs.SetEnds.{Gathers, ended, gathered_with, kept_all, map_ended}
use Rattle.nm_set.proofs.member.Member.end_tree.Goals as goal

pub returns-in-Ok-close-clause-says : goal.returns-in-Ok-close-clause-says
returns-in-Ok-close-clause-says g c =
    let m : MemberView = c.args.self in
    let site : Site = site_in c.apart-home.result.0 in
    let told = c.in-Ok.ensures.gathered in
    let all : List WorkerView = told.0 in
    let g : Gathers (set_of m) site all = gathered_with m site _ all _ c.apart-home.ensures.tree
    c.apart-home.ensures.fit c.apart-home.ensures.worker told.2 told.1 c.close.ensures.own in
    let r : Report = c.in-Ok-close.ended.report in
    ended (set_of m) site all g r
    (subst (λ (s : SetView). SaysClosed s.tree s.kept r.queues.items r.keys.items r.free r.reached) told.1
    c.in-Ok-close.ensures.says)

pub returns-in-Ok-close-clause-values : goal.returns-in-Ok-close-clause-values
returns-in-Ok-close-clause-values g c = λ has.
    let m : MemberView = c.args.self in
    let site : Site = site_in c.apart-home.result.0 in
    let told = c.in-Ok.ensures.gathered in
    let all : List WorkerView = told.0 in
    let g : Gathers (set_of m) site all = gathered_with m site _ all _ c.apart-home.ensures.tree
    c.apart-home.ensures.fit c.apart-home.ensures.worker told.2 told.1 c.close.ensures.own in
    let e : Ended = c.in-Ok-close.ended in
    map_ended (set_of m) site all g e
    (subst (λ (s : SetView). EndsMap s.tree s.kept e.report.queues.items e.report.keys.items e.leaves.items e.words
    e.layout e.report.free e.report.reached) told.1
    (c.in-Ok-close.ensures.values (subst (λ (s : SetView). HasValues s.tree) (sym told.1)
    (subst HasValues (sym c.apart-home.ensures.tree) has))))

pub returns-in-Err-close-clause-refused : goal.returns-in-Err-close-clause-refused
returns-in-Err-close-clause-refused g c =
    let m : MemberView = c.args.self in
    let site : Site = site_in c.apart-home.result.0 in
    let told = c.in-Ok.ensures.gathered in
    let all : List WorkerView = told.0 in
    let g : Gathers (set_of m) site all = gathered_with m site _ all _ c.apart-home.ensures.tree
    c.apart-home.ensures.fit c.apart-home.ensures.worker told.2 told.1 c.close.ensures.own in
    let t : SetView = c.in-Err-close.error.set in
    let why = c.in-Err-close.error.reason in
    let is = subst (λ (s : SetView). IsCloseReason s.tree s.kept why) told.1 c.in-Err-close.ensures.reason in
    kept_all (set_of m) site all g t (c.in-Err-close.ensures.refused ∙ told.1) why is
